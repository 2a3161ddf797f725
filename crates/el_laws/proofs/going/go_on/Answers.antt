use Rattle.std.proofs.Common.{rules, ◌+◌, refl, inl, inr, [], ap, Err, sym, ◌∙◌}
use Rattle.std.proofs.lemmas.List.{append-nil}
use Rattle.el_chain.specs.Moves.{target}
use Rattle.el_laws.proofs.RunLemmas.{told_at, told_refused, safe_in_flight, safe_at_rest, failed_flies, none_told, one_each_more, ever_more, ever_begins, refused_either, in_flight, follows, move_on}
use Rattle.el_model.proofs.LedgerMoves.{asked_leaves}
use Rattle.el_laws.proofs.going.go_on.Goals as goal

pub loop-plan-init : goal.loop-plan-init
loop-plan-init g c = record {
  live = c.requires.live;
  one_each = rw c.requires.none refl;
  follow = c.requires.follow;
  same = refl;
  told = λ chain stands. (chain, none_told g.A.Archive chain c.args.sent.now c.requires.none, stands);
  ever = λ chain stands tells. ever_begins g.A.Archive g.G.Ledger.means _ _ c.args.plans.now c.args.ledger.now chain c.args.sent.now c.requires.none (λ i left. g.met.G.Ledger.leaves_own c.args.ledger.now chain i tells c.requires.live stands left);
}

-- the move is made, and its mark found no memory
pub returns-in_err-push-in-Ok-clause-crash : goal.returns-in_err-push-in-Ok-clause-crash
returns-in_err-push-in-Ok-clause-crash g c start stands =
    let l = g.G.Ledger in
    let was = c.loop-plan.invariant.told start stands in
    let moved = c.in-Ok.ensures.moved was.0 was.2 in
    let next = target c.plan-item.result was.0 moved.0 in
    safe_in_flight g.A.Archive start c.args.plans.now c.loop-plan.plan-index c.loop-plan.sent was.0 c.plan-item.result _ c.loop-plan-test.true c.plan-item.is was.1
    l.tells_crash l.means _ next c.push.new.self c.loop-plan.invariant.one_each c.in_err-push-in-Ok.ensures.err (inr (_, _, moved.0, moved.1, refl))
    (λ tells i left. inr (g.met.G.Ledger.leaves_own c.go.new.self next i tells c.in-Ok.ensures.live moved.2 left))

pub returns-in_err-push-in-Ok-clause-ever : goal.returns-in_err-push-in-Ok-clause-ever
returns-in_err-push-in-Ok-clause-ever g c start stands tells =
    let l = g.G.Ledger in
    let was = c.loop-plan.invariant.told start stands in
    let moved = c.in-Ok.ensures.moved was.0 was.2 in
    ever_more g.A.Archive start c.args.plans.now c.loop-plan.plan-index c.loop-plan.sent was.0 c.plan-item.result _ c.loop-plan-test.true c.plan-item.is was.1
    l.means l.moment l.left_since c.args.ledger.now c.loop-plan.ledger c.go.new.self c.push.new.self [] (target c.plan-item.result was.0 moved.0) c.loop-plan.invariant.one_each (c.in_err-push-in-Ok.ensures.err ∙ sym (append-nil _)) (inr (_, _, moved.0, moved.1, refl)) (c.loop-plan.invariant.ever start stands tells) (moved.4 tells)

-- the device failed
pub returns-in-DiskFailed-clause-crash : goal.returns-in-DiskFailed-clause-crash
returns-in-DiskFailed-clause-crash g c start stands =
    let l = g.G.Ledger in
    let was = c.loop-plan.invariant.told start stands in
    let failed = c.in-Err.ensures.crash_failed was.0 was.2 (ap Err c.in-DiskFailed.is) in
    failed_flies g.A.Archive start c.args.plans.now c.loop-plan.plan-index c.loop-plan.sent was.0 c.plan-item.result _ c.loop-plan-test.true c.plan-item.is was.1
    l.tells_crash l.means l.moment l.left_since c.loop-plan.ledger c.go.new.self (g.met.G.Ledger.earlier c.go.new.self) c.loop-plan.invariant.one_each
    (failed.0, in_flight _ _ _ _ _ _ failed.1, failed.2)

pub returns-in-DiskFailed-clause-ever : goal.returns-in-DiskFailed-clause-ever
returns-in-DiskFailed-clause-ever g c start stands tells =
    let l = g.G.Ledger in
    let was = c.loop-plan.invariant.told start stands in
    let failed = c.in-Err.ensures.crash_failed was.0 was.2 (ap Err c.in-DiskFailed.is) in
    ever_more g.A.Archive start c.args.plans.now c.loop-plan.plan-index c.loop-plan.sent was.0 c.plan-item.result _ c.loop-plan-test.true c.plan-item.is was.1
    l.means l.moment l.left_since c.args.ledger.now c.loop-plan.ledger c.go.new.self c.loop-plan.sent [] failed.0 c.loop-plan.invariant.one_each (sym (append-nil _)) (in_flight _ _ _ _ _ _ failed.1) (c.loop-plan.invariant.ever start stands tells) (failed.2 tells)

-- the move is refused, and the refusal found no memory
pub returns-in_err-push-in_default : goal.returns-in_err-push-in_default
returns-in_err-push-in_default g c = record {
  crash = λ start stands.
      let l = g.G.Ledger in
      let was = c.loop-plan.invariant.told start stands in
      let quiet = c.in-Err.ensures.unchanged c.in_default.not-DiskFailed in
      safe_at_rest g.A.Archive l.tells_crash l.means _ c.args.plans.now start c.loop-plan.plan-index c.loop-plan.sent c.push-in_default.new.self was.0 c.loop-plan.invariant.one_each c.in_err-push-in_default.ensures.err was.1
      (λ tells i left. g.met.G.Ledger.leaves_own c.go.new.self was.0 i tells (quiet.stays.still_live c.loop-plan.invariant.live) (quiet.stays.still_stands was.0 was.2) left);
  ever = λ start stands tells.
      let l = g.G.Ledger in
      let was = c.loop-plan.invariant.told start stands in
      let quiet = c.in-Err.ensures.unchanged c.in_default.not-DiskFailed in
      ever_more g.A.Archive start c.args.plans.now c.loop-plan.plan-index c.loop-plan.sent was.0 c.plan-item.result _ c.loop-plan-test.true c.plan-item.is was.1
      l.means l.moment l.left_since c.args.ledger.now c.loop-plan.ledger c.go.new.self c.push-in_default.new.self [] was.0 c.loop-plan.invariant.one_each (c.in_err-push-in_default.ensures.err ∙ sym (append-nil _)) (inl refl) (c.loop-plan.invariant.ever start stands tells)
      (refused_either l.means l.moment l.left_since c.loop-plan.ledger c.go.new.self was.0 (asked_leaves l c.loop-plan.ledger c.go.new.self c.loop-plan.invariant.live g.met.G.Ledger.leaves_own quiet tells was.0 was.2));
  all = search rules;
  refused = λ is. search rules;
  cause = search rules;
}

-- the refusal is told
pub returns-in_default : goal.returns-in_default
returns-in_default g c = record {
  crash = λ start stands.
      let l = g.G.Ledger in
      let was = c.loop-plan.invariant.told start stands in
      let quiet = c.in-Err.ensures.unchanged c.in_default.not-DiskFailed in
      let told = told_refused g.A.Archive start c.args.plans.now c.loop-plan.plan-index c.loop-plan.sent was.0 c.plan-item.result _ c.loop-plan-test.true c.plan-item.is was.1 _ _ _ c.push-in_default.new.self (c.in-Err.ensures.refused was.0 was.2) c.in_ok-push-in_default.ensures.ok in
      safe_at_rest g.A.Archive l.tells_crash l.means _ c.args.plans.now start (c.loop-plan.plan-index + 1) c.push-in_default.new.self c.push-in_default.new.self was.0
      (one_each_more c.loop-plan.sent c.push-in_default.new.self _ c.loop-plan.plan-index c.loop-plan.invariant.one_each c.in_ok-push-in_default.ensures.ok) refl told
      (λ tells i left. g.met.G.Ledger.leaves_own c.go.new.self was.0 i tells (quiet.stays.still_live c.loop-plan.invariant.live) (quiet.stays.still_stands was.0 was.2) left);
  ever = λ start stands tells.
      let l = g.G.Ledger in
      let was = c.loop-plan.invariant.told start stands in
      let quiet = c.in-Err.ensures.unchanged c.in_default.not-DiskFailed in
      ever_more g.A.Archive start c.args.plans.now c.loop-plan.plan-index c.loop-plan.sent was.0 c.plan-item.result _ c.loop-plan-test.true c.plan-item.is was.1
      l.means l.moment l.left_since c.args.ledger.now c.loop-plan.ledger c.go.new.self c.push-in_default.new.self _ was.0 c.loop-plan.invariant.one_each c.in_ok-push-in_default.ensures.ok (inl refl) (c.loop-plan.invariant.ever start stands tells)
      (refused_either l.means l.moment l.left_since c.loop-plan.ledger c.go.new.self was.0 (asked_leaves l c.loop-plan.ledger c.go.new.self c.loop-plan.invariant.live g.met.G.Ledger.leaves_own quiet tells was.0 was.2));
  all = tt;
  refused = λ is. (c.loop-plan.sent, _, c.in_ok-push-in_default.ensures.ok);
  cause = record {
    counted = λ is. absurd cc;
    uncounted = tt;
    others_uncounted = λ other. c.in-Err.ensures.cause.others_uncounted c.in_default.not-DiskFailed ∙ c.loop-plan.invariant.same;
  };
}

pub loop-plan-preserved : goal.loop-plan-preserved
loop-plan-preserved g c = record {
  live = c.in-Ok.ensures.live;
  one_each = one_each_more c.loop-plan.sent c.push.new.self _ c.loop-plan.plan-index c.loop-plan.invariant.one_each c.in_ok-push-in-Ok.ensures.ok;
  same = c.in-Ok.ensures.cause.uncounted ∙ c.loop-plan.invariant.same;
  follow =
      let next = follows _ c.args.plans.now c.loop-plan.plan-index c.plan-item.result _ c.loop-plan.invariant.follow c.loop-plan-test.true c.plan-item.is in
      move_on (g.G.Ledger.stands c.loop-plan.ledger) (g.G.Ledger.stands c.go.new.self) (g.G.Ledger.tip c.go.new.self) c.args.plans.now c.loop-plan.plan-index c.plan-item.result next c.in-Ok.ensures.last
      (g.met.G.Ledger.tip_is c.go.new.self);
  told = λ start stands.
      let was = c.loop-plan.invariant.told start stands in
      let moved = c.in-Ok.ensures.moved was.0 was.2 in
      let next = target c.plan-item.result was.0 moved.0 in (
        next,
        told_at g.A.Archive start c.args.plans.now c.loop-plan.plan-index c.loop-plan.sent was.0 c.plan-item.result _ c.loop-plan-test.true c.plan-item.is was.1
            next _ _ c.push.new.self (_, _, moved.0, moved.1, refl) (c.in-Ok.ensures.answer.0 ∙ g.met.G.Ledger.tip_is c.go.new.self next moved.2) (c.in-Ok.ensures.answer.1 ∙ g.met.G.Ledger.height_is c.go.new.self next moved.2) c.in_ok-push-in-Ok.ensures.ok,
        moved.2,
      );
  ever = λ start stands tells.
      let l = g.G.Ledger in
      let was = c.loop-plan.invariant.told start stands in
      let moved = c.in-Ok.ensures.moved was.0 was.2 in
      ever_more g.A.Archive start c.args.plans.now c.loop-plan.plan-index c.loop-plan.sent was.0 c.plan-item.result _ c.loop-plan-test.true c.plan-item.is was.1
      l.means l.moment l.left_since c.args.ledger.now c.loop-plan.ledger c.go.new.self c.push.new.self _ (target c.plan-item.result was.0 moved.0) c.loop-plan.invariant.one_each c.in_ok-push-in-Ok.ensures.ok (inr (_, _, moved.0, moved.1, refl)) (c.loop-plan.invariant.ever start stands tells) (moved.4 tells);
}

-- the next move fits each chain that the ledger stands for
pub go-requires-clause-fits : goal.go-requires-clause-fits
go-requires-clause-fits g c =
    let next = follows _ c.args.plans.now c.loop-plan.plan-index c.plan-item.result _ c.loop-plan.invariant.follow c.loop-plan-test.true c.plan-item.is in next.fits

pub go-requires-clause-plan : goal.go-requires-clause-plan
go-requires-clause-plan g c =
    let next = follows _ c.args.plans.now c.loop-plan.plan-index c.plan-item.result _ c.loop-plan.invariant.follow c.loop-plan-test.true c.plan-item.is in next.plan
