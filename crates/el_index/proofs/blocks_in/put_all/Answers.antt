use Rattle.std.proofs.Common.{◌≡◌, ◌⊎◌, ◌+◌, ◌<◌, ◌++◌, ◌∷◌, ℕ, [], length, refl, subst, arith, rules}
use Rattle.std.proofs.lemmas.Result.{err_from_is_err_and}
use Rattle.el_rows.proofs.TransactionLemmas.{as_edited, more_edits, nothing}
use Rattle.el_rows.specs.Transaction.{with_edits}
use Rattle.el_chain.specs.Moves.{FaultInAt}
use Rattle.el_chain.proofs.CoinSteps.{err_passed}
use Rattle.el_chain.proofs.DraftSteps.{same_length}
use Rattle.el_chain.proofs.MoveSteps.{next_is}
use Rattle.el_index.specs.within.Adding.{IsAdding, IsOwn}
use Rattle.el_index.proofs.Addings.{adding_names, adding_more, adding_stops}
use Rattle.el_index.proofs.Puttings.{left_of, next_within, next_prepared}
use Rattle.el_index.proofs.blocks_in.put_all.Goals as goal

pub loop-index-init : goal.loop-index-init
loop-index-init g c = record {
  edits = as_edited (nothing c.args.t.now c.requires.live);
  more = omega arith;
  adding = λ heads chain before told adding. (before, subst (λ (k : ℕ). IsAdding heads chain c.args.nodes.now c.args.texts.now k (with_edits {G = g.R.Rows} c.args.t.now) before) (omega arith) adding);
}

pub overflow_add-at : goal.overflow_add-at
overflow_add-at g c =
    let lt = next_within c.args.texts.now c.args.from c.args.blocks.now c.loop-index.index c.requires.prepared c.loop-index-test.true in
    record { fits = omega arith }

pub bounds-nodes-at : goal.bounds-nodes-at
bounds-nodes-at g c =
    let lt = next_within c.args.texts.now c.args.from c.args.blocks.now c.loop-index.index c.requires.prepared c.loop-index-test.true in
    let same = same_length c.args.nodes.now c.args.texts.now c.requires.of in
    omega arith

pub bounds-texts-at : goal.bounds-texts-at
bounds-texts-at g c = next_within c.args.texts.now c.args.from c.args.blocks.now c.loop-index.index c.requires.prepared c.loop-index-test.true

pub put_one-requires-clause-node : goal.put_one-requires-clause-node
put_one-requires-clause-node g c =
    let lt = next_within c.args.texts.now c.args.from c.args.blocks.now c.loop-index.index c.requires.prepared c.loop-index-test.true in
    let same = same_length c.args.nodes.now c.args.texts.now c.requires.of in
    (next_is c.args.nodes.now c.args.texts.now (c.args.from + c.loop-index.index) _ _ c.index-texts-at.result (left_of c.args.nodes.now c.args.texts.now _ c.requires.nodes c.requires.of)
    (omega arith) refl c.index-texts-at.is).node

pub put_one-requires-clause-of : goal.put_one-requires-clause-of
put_one-requires-clause-of g c =
    let lt = next_within c.args.texts.now c.args.from c.args.blocks.now c.loop-index.index c.requires.prepared c.loop-index-test.true in
    let same = same_length c.args.nodes.now c.args.texts.now c.requires.of in
    rw c.as_slice.ensures
    (let n = next_is c.args.nodes.now c.args.texts.now (c.args.from + c.loop-index.index) _ _ c.index-texts-at.result (left_of c.args.nodes.now c.args.texts.now _ c.requires.nodes c.requires.of)
    (omega arith) refl c.index-texts-at.is in n.of)

pub put_one-requires-clause-prepared : goal.put_one-requires-clause-prepared
put_one-requires-clause-prepared g c =
    rw c.as_slice.ensures
    (next_prepared c.args.texts.now c.args.from c.args.blocks.now c.loop-index.index c.index-texts-at.result _ c.requires.prepared c.loop-index-test.true
    c.index-blocks-index.is c.index-texts-at.is)

pub returns-in_err-put_one-clause-first_fault : goal.returns-in_err-put_one-clause-first_fault
returns-in_err-put_one-clause-first_fault g c heads chain before told adding =
    let lt = next_within c.args.texts.now c.args.from c.args.blocks.now c.loop-index.index c.requires.prepared c.loop-index-test.true in
    let same = same_length c.args.nodes.now c.args.texts.now c.requires.of in
    let n = next_is c.args.nodes.now c.args.texts.now (c.args.from + c.loop-index.index) _ _ c.index-texts-at.result (left_of c.args.nodes.now c.args.texts.now _ c.requires.nodes c.requires.of)
    (omega arith) refl c.index-texts-at.is in
    let was = c.loop-index.invariant.adding heads chain before told adding in
    err_passed c.from_residual.result (λ e. IsOwn e ⊎ FaultInAt chain c.args.nodes.now c.args.texts.now e) c.in_err-put_one.field-0.0
    (err_from_is_err_and c.from_residual.result c.from_residual.ensures.1)
    (adding_stops heads chain c.args.nodes.now c.args.texts.now _ _ was.0 _ _ _ was.1 n
    (rw c.as_slice.ensures at c.in_err-put_one.ensures.first_fault heads (chain ++ was.0) told was.1.after.stand (adding_names _ _ _ _ _ _ _ _ _ was.1 n)))

pub loop-index-preserved : goal.loop-index-preserved
loop-index-preserved g c =
    let lt = next_within c.args.texts.now c.args.from c.args.blocks.now c.loop-index.index c.requires.prepared c.loop-index-test.true in
    let same = same_length c.args.nodes.now c.args.texts.now c.requires.of in
    let n = next_is c.args.nodes.now c.args.texts.now (c.args.from + c.loop-index.index) _ _ c.index-texts-at.result (left_of c.args.nodes.now c.args.texts.now _ c.requires.nodes c.requires.of)
    (omega arith) refl c.index-texts-at.is in
    record {
      edits = more_edits c.loop-index.invariant.edits c.in_ok-put_one.ensures.edits;
      more = omega (arith, c.in_ok-put_one.ensures.more, c.loop-index.invariant.more);
      adding = λ heads chain before told adding.
          let was = c.loop-index.invariant.adding heads chain before told adding in
          let done = rw c.as_slice.ensures at c.in_ok-put_one.ensures.added heads (chain ++ was.0) told was.1.after.stand (adding_names _ _ _ _ _ _ _ _ _ was.1 n) in
          let more = adding_more heads chain c.args.nodes.now c.args.texts.now (c.args.from + c.loop-index.index) _ _ was.0 _ _ done.0 was.1 n done.1 in (
            was.0 ++ done.0 ∷ [],
            subst (λ (k : ℕ). IsAdding heads chain c.args.nodes.now c.args.texts.now k (with_edits {G = g.R.Rows} c.put_one.new.t) (was.0 ++ done.0 ∷ [])) (omega arith) more,
          );
    }

pub offset_bounds-nodes-at : goal.offset_bounds-nodes-at
offset_bounds-nodes-at g c =
    let lt = next_within c.args.texts.now c.args.from c.args.blocks.now c.loop-index.index c.requires.prepared c.loop-index-test.true in
    let same = same_length c.args.nodes.now c.args.texts.now c.requires.of in
    let inside : c.args.from + c.loop-index.index < length c.args.nodes.now = omega arith in
    search rules

pub offset_bounds-texts-at : goal.offset_bounds-texts-at
offset_bounds-texts-at g c =
    let inside = next_within c.args.texts.now c.args.from c.args.blocks.now c.loop-index.index c.requires.prepared c.loop-index-test.true in
    search rules

pub returns-clause-added : goal.returns-clause-added
returns-clause-added g c = λ heads chain before told adding.
    let was = c.loop-index.invariant.adding heads chain before told adding in
    let over : c.loop-index.index ≡ length c.args.blocks.now = omega arith in (
      was.0,
      subst (λ (k : ℕ). IsAdding heads chain c.args.nodes.now c.args.texts.now (c.args.from + k) (with_edits {G = g.R.Rows} c.loop-index.t) was.0) over was.1,
    )
