use Rattle.std.proofs.Common.{◌∙◌, ap, map, refl, arith}
use Rattle.std.proofs.lemmas.List.{take_all}
use Rattle.el_model.proofs.LedgerMoves.{asked_none, asked_on}
use Rattle.el_audit.specs.declared.claim.Claim.{Claim}
use Rattle.el_audit.specs.Claims.{claim_of}
use Rattle.el_audit.specs.Collected.{claim_rows, claims_rows}
use Rattle.el_audit.proofs.Asking.{mapped_more, named_more, rows_next, rows_all}
use Rattle.el_audit.proofs.collecting.collect.Goals as goal

pub loop-script-init : goal.loop-script-init
loop-script-init g c =
    record {
      quiet = asked_none g.G.Ledger c.args.ledger.now;
      claims = λ chain stands. c.new-claims.ensures.items;
      named = ap (map (λ (x : Claim). x.script)) c.new-claims.ensures.items;
      rows = λ chain stands. omega arith;
      unfailed = refl;
    }

pub claim_of-requires : goal.claim_of-requires
claim_of-requires g c = record { live = c.loop-script.invariant.quiet.stays.still_live c.requires.live }

pub loop-script-preserved : goal.loop-script-preserved
loop-script-preserved g c =
    let l = g.G.Ledger in
    let before = c.loop-script.invariant in
    let lt = c.loop-script-test.true in
    record {
      quiet = asked_on l _ _ _ before.quiet c.claim_of.ensures.quiet;
      claims = λ chain stands.
          mapped_more (claim_of chain) c.args.scripts.now c.loop-script.script-index _ _ c.in_ok-claim.claim _ _ lt refl
          (c.in_ok-claim.ensures.claim chain (before.quiet.stays.still_stands chain stands)) (before.claims chain stands) c.in_ok-push.ensures.items;
      named = named_more (λ (x : Claim). x.script) c.args.scripts.now c.loop-script.script-index _ _ c.in_ok-claim.claim _ _ lt refl c.in_ok-claim.ensures.named before.named c.in_ok-push.ensures.items;
      rows = λ chain stands.
          rows_next (claim_rows chain (l.buckets c.args.ledger.now)) c.args.scripts.now c.loop-script.script-index _ _ (l.reads c.args.ledger.now) _ _ lt refl (before.rows chain stands)
          (rw before.quiet.stays.same_buckets at (c.claim_of.ensures.rows chain (before.quiet.stays.still_stands chain stands)));
      unfailed = c.in_ok-claim.ensures.cause.uncounted ∙ before.unfailed;
    }

pub returns-in_err-claim-clause-quiet : goal.returns-in_err-claim-clause-quiet
returns-in_err-claim-clause-quiet g c = asked_on g.G.Ledger _ _ _ c.loop-script.invariant.quiet c.claim_of.ensures.quiet

pub returns-in_err-claim-clause-rows : goal.returns-in_err-claim-clause-rows
returns-in_err-claim-clause-rows g c = λ chain stands.
    let l = g.G.Ledger in
    let before = c.loop-script.invariant in
    rows_all (claim_rows chain (l.buckets c.args.ledger.now)) c.args.scripts.now c.loop-script.script-index _ _ (l.reads c.args.ledger.now) _ _ c.loop-script-test.true refl (before.rows chain stands)
    (rw before.quiet.stays.same_buckets at (c.claim_of.ensures.rows chain (before.quiet.stays.still_stands chain stands)))

pub returns-in_err-push-clause-quiet : goal.returns-in_err-push-clause-quiet
returns-in_err-push-clause-quiet g c = asked_on g.G.Ledger _ _ _ c.loop-script.invariant.quiet c.claim_of.ensures.quiet

pub returns-in_err-push-clause-rows : goal.returns-in_err-push-clause-rows
returns-in_err-push-clause-rows g c = λ chain stands.
    let l = g.G.Ledger in
    let before = c.loop-script.invariant in
    rows_all (claim_rows chain (l.buckets c.args.ledger.now)) c.args.scripts.now c.loop-script.script-index _ _ (l.reads c.args.ledger.now) _ _ c.loop-script-test.true refl (before.rows chain stands)
    (rw before.quiet.stays.same_buckets at (c.claim_of.ensures.rows chain (before.quiet.stays.still_stands chain stands)))

pub returns-clause-claims : goal.returns-clause-claims
returns-clause-claims g c = λ chain stands.
    c.loop-script.invariant.claims chain stands
    ∙ ap (map (claim_of chain)) (take_all c.loop-script.script-index c.args.scripts.now (let e = c.loop-script-test.false in omega arith))

pub returns-clause-named : goal.returns-clause-named
returns-clause-named g c = c.loop-script.invariant.named ∙ take_all c.loop-script.script-index c.args.scripts.now (let e = c.loop-script-test.false in omega arith)

pub returns-clause-rows : goal.returns-clause-rows
returns-clause-rows g c = λ chain stands.
    let rows = c.loop-script.invariant.rows chain stands in
    let all = ap (claims_rows chain (g.G.Ledger.buckets c.args.ledger.now)) (take_all c.loop-script.script-index c.args.scripts.now (let e = c.loop-script-test.false in omega arith)) in
    omega (arith, rows, all)
