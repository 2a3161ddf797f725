use Rattle.std.proofs.Common.{◌≡◌, ◌⊎◌, ◌-◌, ◌++◌, ℕ, length, drop, sym, subst, ap, ◌∙◌, arith, eqb-true}
use Rattle.std.proofs.lemmas.Result.{err_from_is_err_and}
use Rattle.el_rows.proofs.TransactionLemmas.{as_edited, more_edits, nothing}
use Rattle.el_rows.specs.Transaction.{with_edits}
use Rattle.el_chain.specs.Chains.{Chain}
use Rattle.el_chain.specs.Moves.{FaultInAt}
use Rattle.el_chain.proofs.CoinSteps.{err_passed}
use Rattle.el_chain.proofs.DraftSteps.{same_length}
use Rattle.el_index.specs.within.Adding.{IsAdding, IsOwn}
use Rattle.el_index.proofs.Addings.{adding_begins, adding_ends}
use Rattle.el_index.proofs.Puttings.{passed}
use Rattle.el_index.proofs.blocks_in.add_all.Goals as goal

pub loop-left-init : goal.loop-left-init
loop-left-init g c =
    let none : 0 ≡ length c.args.texts.now - length c.args.texts.now = omega arith in
    record {
      edits = as_edited (nothing c.args.t.now c.requires.live);
      few = omega arith;
      next = ap (λ (k : ℕ). drop k c.args.texts.now) (sym none);
      more = omega arith;
      adding = λ heads chain told stand linked.
          subst (λ (k : ℕ). (blocks : Chain) × IsAdding heads chain c.args.nodes.now c.args.texts.now k (with_edits {G = g.R.Rows} c.args.t.now) blocks) none
          (adding_begins heads chain c.args.nodes.now c.args.texts.now (with_edits {G = g.R.Rows} c.args.t.now) stand linked);
    }

pub overflow_sub-from : goal.overflow_sub-from
overflow_sub-from g c = c.loop-left.invariant.few

pub put_batch-requires-clause-batch : goal.put_batch-requires-clause-batch
put_batch-requires-clause-batch g c = (c.next_batch.result.1.now, c.loop-left.invariant.next ∙ c.next_batch.ensures.cut)

pub returns-in_err-put_batch-clause-first_fault : goal.returns-in_err-put_batch-clause-first_fault
returns-in_err-put_batch-clause-first_fault g c heads chain told stand linked =
    let was = c.loop-left.invariant.adding heads chain told stand linked in
    err_passed c.from_residual.result (λ e. IsOwn e ⊎ FaultInAt chain c.args.nodes.now c.args.texts.now e) c.in_err-put_batch.field-0.0
    (err_from_is_err_and c.from_residual.result c.from_residual.ensures.1) (c.in_err-put_batch.ensures.first_fault heads chain was.0 told was.1)

pub loop-left-preserved : goal.loop-left-preserved
loop-left-preserved g c =
    let few = c.loop-left.invariant.few in
    let cut : drop (length c.args.texts.now - length c.loop-left.left.now) c.args.texts.now ≡ c.next_batch.result.0.now ++ c.next_batch.result.1.now
    = c.loop-left.invariant.next ∙ c.next_batch.ensures.cut in
    let p = passed c.args.texts.now c.next_batch.result.0.now c.next_batch.result.1.now (length c.args.texts.now - length c.loop-left.left.now) cut (omega arith) in
    record {
      edits = more_edits c.loop-left.invariant.edits c.in_ok-put_batch.ensures.edits;
      few = p.fits;
      next = p.next;
      more = (let place = p.place in let one = c.in_ok-put_batch.ensures.more in let before = c.loop-left.invariant.more in omega arith);
      adding = λ heads chain told stand linked.
          let was = c.loop-left.invariant.adding heads chain told stand linked in
          let done = c.in_ok-put_batch.ensures.added heads chain was.0 told was.1 in (
            done.0,
            subst (λ (k : ℕ). IsAdding heads chain c.args.nodes.now c.args.texts.now k (with_edits {G = g.R.Rows} c.put_batch.new.t) done.0) (sym p.place) done.1,
          );
    }

-- where what was prepared is let go
pub loop-left-preserved-in_ok-put_batch : goal.loop-left-preserved-in_ok-put_batch
loop-left-preserved-in_ok-put_batch g c =
    let few = c.loop-left.invariant.few in
    let cut : drop (length c.args.texts.now - length c.loop-left.left.now) c.args.texts.now ≡ c.next_batch.result.0.now ++ c.next_batch.result.1.now
    = c.loop-left.invariant.next ∙ c.next_batch.ensures.cut in
    let p = passed c.args.texts.now c.next_batch.result.0.now c.next_batch.result.1.now (length c.args.texts.now - length c.loop-left.left.now) cut (omega arith) in
    record {
      edits = more_edits c.loop-left.invariant.edits c.in_ok-put_batch.ensures.edits;
      few = p.fits;
      next = p.next;
      more = (let place = p.place in let one = c.in_ok-put_batch.ensures.more in let before = c.loop-left.invariant.more in omega arith);
      adding = λ heads chain told stand linked.
          let was = c.loop-left.invariant.adding heads chain told stand linked in
          let done = c.in_ok-put_batch.ensures.added heads chain was.0 told was.1 in (
            done.0,
            subst (λ (k : ℕ). IsAdding heads chain c.args.nodes.now c.args.texts.now k (with_edits {G = g.R.Rows} c.put_batch.new.t) done.0) (sym p.place) done.1,
          );
    }

pub returns-clause-added : goal.returns-clause-added
returns-clause-added g c heads chain told stand linked =
    let was = c.loop-left.invariant.adding heads chain told stand linked in
    let same = same_length c.args.nodes.now c.args.texts.now c.requires.of in
    let none = eqb-true (length c.loop-left.left.now) 0 (sym c.loop-left-test.ensures) in (
      was.0,
      adding_ends heads chain c.args.nodes.now c.args.texts.now (length c.args.texts.now - length c.loop-left.left.now) _ was.0 was.1 (omega arith) same,
    )

pub returns-clause-more : goal.returns-clause-more
returns-clause-more g c =
    let same = same_length c.args.nodes.now c.args.texts.now c.requires.of in
    let none = eqb-true (length c.loop-left.left.now) 0 (sym c.loop-left-test.ensures) in
    let more = c.loop-left.invariant.more in
    omega arith
