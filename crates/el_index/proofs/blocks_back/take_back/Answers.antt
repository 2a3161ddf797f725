use Rattle.std.proofs.Common.{◌≡◌, ◌+◌, ◌-◌, ℕ, length, drop, subst, arith}
use Rattle.el_rows.proofs.TransactionLemmas.{as_edited, more_edits, nothing}
use Rattle.el_chain.specs.Moves.{shorter}
use Rattle.el_index.specs.within.Adding.{AreAdded}
use Rattle.el_index.proofs.Touchings.{added_none, added_before, last_is, none_taken, none_gone}
use Rattle.el_index.proofs.blocks_back.take_back.Goals as goal

pub loop-init : goal.loop-init
loop-init g c = record {
  edits = as_edited (nothing c.args.t.now c.requires.live);
  fewer = omega arith;
  back = λ heads chain told stand fits. rw (none_taken chain) stand;
  touched = λ heads chain told stand fits. rw (none_taken chain, none_gone chain) (added_none chain c.args.touched.now);
}

pub loop-preserved : goal.loop-preserved
loop-preserved g c = record {
  edits = more_edits c.loop.invariant.edits c.in_ok-take_back_one.ensures.edits;
  fewer = omega (arith, c.in_ok-take_back_one.ensures.fewer, c.loop.invariant.fewer);
  back = λ heads chain told stand fits.
      let last = last_is chain c.loop.counter (omega arith) in
      let here = rw last.1.front at (c.loop.invariant.back heads chain told stand fits) in
      c.in_ok-take_back_one.ensures.back heads (shorter (c.loop.counter + 1) chain) last.0 told here;
  touched = λ heads chain told stand fits.
      let last = last_is chain c.loop.counter (omega arith) in
      let here = rw last.1.front at (c.loop.invariant.back heads chain told stand fits) in
      let so_far = rw last.1.front at (c.loop.invariant.touched heads chain told stand fits) in
      rw last.1.back (added_before (shorter (c.loop.counter + 1) chain) (drop (length chain - c.loop.counter) chain) last.0 c.args.touched.now c.loop.touched c.take_back_one.new.touched so_far (c.in_ok-take_back_one.ensures.touched (shorter (c.loop.counter + 1) chain) last.0 told (heads, here)));
}

pub returns-clause-touched : goal.returns-clause-touched
returns-clause-touched g c = λ heads chain told stand fits.
    let over : c.loop.counter ≡ c.args.back = omega arith in
    subst (λ (k : ℕ). AreAdded (shorter k chain) (drop (length chain - k) chain) c.args.touched.now c.loop.touched) over (c.loop.invariant.touched heads chain told stand fits)
