use Rattle.std.proofs.Common.{◌≡◌, ◌∙◌, ◌+◌, take, ap, sym, refl, arith, rules, ℕ, length, length-append}
use Rattle.el_model.specs.Queries.{blocks_in}
use Rattle.el_model.proofs.LedgerMoves.{asked_none, asked_on}
use Rattle.el_levels.specs.Groups.{group_roots}
use Rattle.el_levels.specs.Kept.{block_hashes}
use Rattle.el_levels.proofs.ReadingLemmas.{root_more, hash_count}
use Rattle.el_levels.proofs.reading.add_roots.Goals as goal

pub loop-number-init : goal.loop-number-init
loop-number-init g c =
    let had : c.len-number.result ≡ length c.args.roots.now.items = search rules in
    let few = c.requires.few in
    record {
      quiet = asked_none g.G.Ledger c.args.ledger.now;
      few = omega (arith, had, few);
      len = sym had;
      roots = λ chain stands so. so ∙ ap (λ (n : ℕ). take n (group_roots (block_hashes chain))) (sym had);
      rows = omega (arith, had);
      unfailed = refl;
    }

pub loop-number-preserved : goal.loop-number-preserved
loop-number-preserved g c =
    let before = c.loop-number.invariant in
    let below = c.loop-number-test.true in
    let more = c.root_of.ensures.rows in
    let rows = before.rows in
    let within = c.requires.within in
    record {
      quiet = asked_on g.G.Ledger _ _ _ before.quiet c.root_of.ensures.quiet;
      few = omega (arith, below);
      len = ap length c.in_ok-push.ensures.items ∙ length-append c.loop-number.roots.items _ ∙ ap (λ (n : ℕ). n + 1) before.len;
      roots = λ chain stands so.
          let count = hash_count chain (g.G.Ledger.height c.args.ledger.now) (g.met.G.Ledger.height_is c.args.ledger.now chain stands) in
          root_more (block_hashes chain) c.loop-number.number c.in_ok-hash.hash c.loop-number.roots.items c.push.new.self.items
          (omega (arith, count, within, below)) (c.in_ok-hash.ensures.root chain (before.quiet.stays.still_stands chain stands))
          c.in_ok-push.ensures.items (before.roots chain stands so);
      rows = omega (arith, more, rows);
      unfailed = c.in_ok-hash.ensures.cause.uncounted ∙ before.unfailed;
    }

pub root_of-requires : goal.root_of-requires
root_of-requires g c =
    let before = c.loop-number.invariant in
    let below = c.loop-number-test.true in
    let within = c.requires.within in
    let fits = c.requires.fits in
    let same : blocks_in (g.G.Ledger.height c.loop-number.ledger) ≡ blocks_in (g.G.Ledger.height c.args.ledger.now) =
    ap blocks_in before.quiet.stays.same_height in
    record {
      live = before.quiet.stays.still_live c.requires.live;
      within = omega (arith, same, within, below);
      fits = omega (arith, fits, below);
    }

pub returns-clause-roots : goal.returns-clause-roots
returns-clause-roots g c = λ chain stands so.
    let few = c.loop-number.invariant.few in
    let end : c.loop-number.number ≡ c.args.count = omega (arith, few, c.loop-number-test.false) in
    c.loop-number.invariant.roots chain stands so ∙ ap (λ (n : ℕ). take n (group_roots (block_hashes chain))) end

pub returns-clause-len : goal.returns-clause-len
returns-clause-len g c =
    let few = c.loop-number.invariant.few in
    let end : c.loop-number.number ≡ c.args.count = omega (arith, few, c.loop-number-test.false) in
    c.loop-number.invariant.len ∙ end

pub returns-clause-rows : goal.returns-clause-rows
returns-clause-rows g c =
    let few = c.loop-number.invariant.few in
    let rows = c.loop-number.invariant.rows in
    let begun = c.requires.few in
    omega (arith, few, rows, begun, c.loop-number-test.false)

pub returns-in_err-hash-clause-quiet : goal.returns-in_err-hash-clause-quiet
returns-in_err-hash-clause-quiet g c = asked_on g.G.Ledger _ _ _ c.loop-number.invariant.quiet c.root_of.ensures.quiet

pub returns-in_err-push-clause-quiet : goal.returns-in_err-push-clause-quiet
returns-in_err-push-clause-quiet g c = asked_on g.G.Ledger _ _ _ c.loop-number.invariant.quiet c.root_of.ensures.quiet
