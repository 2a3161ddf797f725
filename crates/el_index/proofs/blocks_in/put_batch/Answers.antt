use Rattle.std.proofs.Common.{◌≡◌, ◌⊎◌, ◌+◌, ◌<◌, ℕ, List, length, refl, sym, subst, ap, ◌∙◌, Option, Some, None, arith, rules}
use Rattle.el_block.specs.declared.fault.BlockFault.{BlockFault}
use Rattle.el_row_formats.specs.declared.table.Table.TheVariants as table
use Rattle.el_rows.specs.Transaction.{with_edits}
use Rattle.std.proofs.lemmas.Result.{err_from_is_err_and}
use Rattle.el_chain.specs.Moves.{FaultInAt}
use Rattle.el_chain.proofs.CoinSteps.{err_passed}
use Rattle.el_chain.proofs.DraftSteps.{same_length}
use Rattle.el_prepare.specs.declared.prepared.Prepared.{Prepared}
use Rattle.el_prepare.specs.Batches.{ArePrepared}
use Rattle.el_index.specs.within.Adding.{IsAdding, IsOwn}
use Rattle.el_index.proofs.Puttings.{Bad, StandNext, batch_next, bad_next, bad_stops, prepared_length}
use Rattle.el_index.proofs.blocks_in.put_batch.Goals as goal

pub put_all-requires-clause-prepared : goal.put_all-requires-clause-prepared
put_all-requires-clause-prepared g c =
    let r = rw c.in-Ok.is at c.requires.ready in
    subst (λ (l : List Prepared). StandNext c.args.texts.now c.args.from l) (sym c.as_slice.ensures.value)
    (batch_next c.args.texts.now c.args.batch.now c.args.from c.in-Ok.blocks.items c.in-Ok.fault c.requires.batch r)

pub returns-in-None-clause-added : goal.returns-in-None-clause-added
returns-in-None-clause-added g c heads chain before told a =
    let r = rw c.in-Ok.is at c.requires.ready in
    let good : ArePrepared c.args.batch.now c.in-Ok.blocks.items None = subst (λ (f : Option BlockFault). ArePrepared c.args.batch.now c.in-Ok.blocks.items f) c.in-None.is r in
    let done = c.in_ok-put_all-in-Ok.ensures.added heads chain before told a in (
      done.0,
      subst (λ (k : ℕ). IsAdding heads chain c.args.nodes.now c.args.texts.now (c.args.from + k) (with_edits {G = g.R.Rows} c.put_all.new.t) done.0)
          (ap length c.as_slice.ensures.value ∙ sym (prepared_length c.args.batch.now c.in-Ok.blocks.items good)) done.1,
    )

pub returns-in-None-clause-more : goal.returns-in-None-clause-more
returns-in-None-clause-more g c =
    let r = rw c.in-Ok.is at c.requires.ready in
    let good : ArePrepared c.args.batch.now c.in-Ok.blocks.items None = subst (λ (f : Option BlockFault). ArePrepared c.args.batch.now c.in-Ok.blocks.items f) c.in-None.is r in
    c.in_ok-put_all-in-Ok.ensures.more
    ∙ ap (λ (k : ℕ). length (with_edits {G = g.R.Rows} c.args.t.now table.Blocks) + k) (ap length c.as_slice.ensures.value ∙ sym (prepared_length c.args.batch.now c.in-Ok.blocks.items good))

pub overflow_add-from : goal.overflow_add-from
overflow_add-from g c =
    let r = rw c.in-Ok.is at c.requires.ready in
    let bad : ArePrepared c.args.batch.now c.in-Ok.blocks.items (Some c.in-Some.fault) = subst (λ (f : Option BlockFault). ArePrepared c.args.batch.now c.in-Ok.blocks.items f) c.in-Some.is r in
    let below = (bad_next c.args.texts.now c.args.batch.now c.args.from c.in-Ok.blocks.items c.in-Some.fault c.requires.batch bad).below in
    let size : c.len.result ≡ length c.in-Ok.blocks.items = c.len.ensures ∙ c.in-Ok.blocks.ok.0 in
    let inside : c.args.from + c.len.result < length c.args.texts.now = omega arith in
    search rules

pub bounds-nodes-from : goal.bounds-nodes-from
bounds-nodes-from g c =
    let r = rw c.in-Ok.is at c.requires.ready in
    let bad : ArePrepared c.args.batch.now c.in-Ok.blocks.items (Some c.in-Some.fault) = subst (λ (f : Option BlockFault). ArePrepared c.args.batch.now c.in-Ok.blocks.items f) c.in-Some.is r in
    let below = (bad_next c.args.texts.now c.args.batch.now c.args.from c.in-Ok.blocks.items c.in-Some.fault c.requires.batch bad).below in
    let same = same_length c.args.nodes.now c.args.texts.now c.requires.of in
    let size : c.len.result ≡ length c.in-Ok.blocks.items = c.len.ensures ∙ c.in-Ok.blocks.ok.0 in
    omega arith

pub offset_bounds-nodes-from : goal.offset_bounds-nodes-from
offset_bounds-nodes-from g c =
    let r = rw c.in-Ok.is at c.requires.ready in
    let bad : ArePrepared c.args.batch.now c.in-Ok.blocks.items (Some c.in-Some.fault) = subst (λ (f : Option BlockFault). ArePrepared c.args.batch.now c.in-Ok.blocks.items f) c.in-Some.is r in
    let below = (bad_next c.args.texts.now c.args.batch.now c.args.from c.in-Ok.blocks.items c.in-Some.fault c.requires.batch bad).below in
    let size : c.len.result ≡ length c.in-Ok.blocks.items = c.len.ensures ∙ c.in-Ok.blocks.ok.0 in
    let same = same_length c.args.nodes.now c.args.texts.now c.requires.of in
    let inside : c.args.from + c.len.result < length c.args.nodes.now = omega arith in
    search rules

pub returns-in-Some-clause-first_fault : goal.returns-in-Some-clause-first_fault
returns-in-Some-clause-first_fault g c heads chain before told a =
    let r = rw c.in-Ok.is at c.requires.ready in
    let bad : ArePrepared c.args.batch.now c.in-Ok.blocks.items (Some c.in-Some.fault) = subst (λ (f : Option BlockFault). ArePrepared c.args.batch.now c.in-Ok.blocks.items f) c.in-Some.is r in
    let done = c.in_ok-put_all-in-Ok.ensures.added heads chain before told a in
    let size : length c.in-Ok.blocks.items ≡ c.len.result = sym (c.len.ensures ∙ c.in-Ok.blocks.ok.0) in
    bad_stops heads chain c.args.nodes.now c.args.texts.now (c.args.from + c.len.result) (with_edits {G = g.R.Rows} c.put_all.new.t) done.0 _ _ c.in-Some.fault c.bad.result
    c.requires.nodes c.requires.of
    (subst (λ (k : ℕ). Bad c.args.texts.now (c.args.from + k) c.in-Some.fault) size (bad_next c.args.texts.now c.args.batch.now c.args.from c.in-Ok.blocks.items c.in-Some.fault c.requires.batch bad))
    refl c.bad.ensures.memory c.bad.ensures.kept
    (subst (λ (k : ℕ). IsAdding heads chain c.args.nodes.now c.args.texts.now (c.args.from + k) (with_edits {G = g.R.Rows} c.put_all.new.t) done.0) (ap length c.as_slice.ensures.value ∙ size) done.1)

pub returns-in_err-put_all-in-Ok-clause-first_fault : goal.returns-in_err-put_all-in-Ok-clause-first_fault
returns-in_err-put_all-in-Ok-clause-first_fault g c = λ heads chain before told adding.
    err_passed c.from_residual.result (λ e. IsOwn e ⊎ FaultInAt chain c.args.nodes.now c.args.texts.now e) c.in_err-put_all-in-Ok.field-0.0
    (err_from_is_err_and c.from_residual.result c.from_residual.ensures.1) (c.in_err-put_all-in-Ok.ensures.first_fault heads chain before told adding)
