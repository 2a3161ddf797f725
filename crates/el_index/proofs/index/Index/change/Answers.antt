use Rattle.std.specs.Prelude.{IfErr, Result}
use Rattle.std.proofs.Common.{◌⊎◌, Ok, Err, inl, inr, ℕ, ◌+◌, ◌-◌, length, refl, sym, subst, ap, ◌∙◌}
use Rattle.el_row_formats.specs.declared.table.Table.TheVariants as table
use Rattle.el_rows.proofs.UnderLemmas.{length-under}
use Rattle.el_rows.specs.Changes.{under}
use Rattle.el_rows.specs.declared.faults.CommitFault.{CommitFault}
use Rattle.el_row_formats.specs.Tables.{Tables}
use Rattle.el_rows.specs.Transaction.{with_edits}
use Rattle.el_rows.proofs.ReadsLemmas.{read_joined}
use Rattle.std.proofs.lemmas.Result.{err_from_is_err_and}
use Rattle.el_chain.specs.Moves.{FaultInAt, shorter, target}
use Rattle.el_chain.proofs.CoinSteps.{err_passed}
use Rattle.el_index.specs.within.Adding.{AreMoved, IsOwn}
use Rattle.el_index.proofs.IndexRows.{same_rows}
use Rattle.el_index.proofs.Kept.{only_read, begun, beside_read}
use Rattle.el_index.proofs.Targets.{moved_rows, tip_moved}
use Rattle.el_index.proofs.index.Index.change.Goals as goal

-- what holds whatever the fault is
whatever_fault : {T E : Type 0} (r : Result T E) (P : E → Type 0) → ((e : E) → P e) → IfErr r P
whatever_fault (Ok x) P each = tt
whatever_fault (Err e) P each = each e

-- no memory was found to seal the edits
pub returns-in_err-sealed-clause-unchanged : goal.returns-in_err-sealed-clause-unchanged
returns-in_err-sealed-clause-unchanged g c =
    let r = g.R.Rows in
    let mid = c.hash_after.new.t.rows.now in
    let reads = read_joined r c.args.self.now.rows c.edit.new.t.rows.now mid (rw c.new-txn.ensures.below at c.edit.ensures.edits.only) c.hash_after.ensures.read.only in
    whatever_fault c.from_residual-in_err-sealed.result _ (λ e other. rw c.in_err-sealed.ensures.rows reads)

pub returns-in_err-edit-clause-crash_failed : goal.returns-in_err-edit-clause-crash_failed
returns-in_err-edit-clause-crash_failed g c chain told stand fits failed =
    let r = g.R.Rows in (
      chain,
      inl refl,
      λ crash. only_read r g.met.R.Rows.leaves_lists c.args.self.now.rows c.edit.new.t.rows.now _ chain chain c.requires.live
          (rw c.new-txn.ensures.below at c.edit.ensures.edits.only) stand c.drop-txn.ensures crash,
    )

-- the row of the last block wasn't read
pub returns-in_err-hash-clause-crash_failed : goal.returns-in_err-hash-clause-crash_failed
returns-in_err-hash-clause-crash_failed g c chain told stand fits failed =
    let r = g.R.Rows in
    let reads = read_joined r c.args.self.now.rows c.edit.new.t.rows.now c.hash_after.new.t.rows.now (rw c.new-txn.ensures.below at c.edit.ensures.edits.only) c.hash_after.ensures.read.only in
    (chain, inl refl, λ crash. only_read r g.met.R.Rows.leaves_lists c.args.self.now.rows c.hash_after.new.t.rows.now _ chain chain c.requires.live reads stand c.drop-txn-in_err-hash.ensures crash)

-- it failed
pub returns-in-Err-DiskFailed-clause-crash_failed : goal.returns-in-Err-DiskFailed-clause-crash_failed
returns-in-Err-DiskFailed-clause-crash_failed g c chain told stand fits failed =
    let r = g.R.Rows in
    let p = c.args.plan.now in
    let heads = r.heads c.args.self.now.rows in
    let mid = c.hash_after.new.t.rows.now in
    let there = under (r.lists mid) c.in_ok-sealed.sealed.counts c.in_ok-sealed.sealed.changes in
    let reads = read_joined r c.args.self.now.rows c.edit.new.t.rows.now mid (rw c.new-txn.ensures.below at c.edit.ensures.edits.only) c.hash_after.ensures.read.only in
    let done = c.in_ok-edit.ensures.moved heads chain told (same_rows heads _ (with_edits {G = r} c.new-txn.result) chain stand (c.new-txn.ensures.tables told)) fits in
    let sealed = moved_rows heads p chain c.args.texts.now _ _ there done.0 done.1 (λ t. c.in_ok-sealed.ensures.tables t ∙ ap (λ (T : Tables). T t) c.hash_after.ensures.read.tables) in (
      target p chain done.0,
      inr (done.0, done.1.next, refl),
      λ crash. begun r g.met.R.Rows.leaves_lists c.args.self.now.rows mid _ there chain (target p chain done.0) c.requires.live reads stand sealed.stand (rw c.in_ok-sealed.ensures.rows at c.commit.ensures.crash crash) crash,
    )

-- the move is made
pub returns-in-Ok-clause-moved : goal.returns-in-Ok-clause-moved
returns-in-Ok-clause-moved g c chain told stand fits =
    let r = g.R.Rows in
    let p = c.args.plan.now in
    let heads = r.heads c.args.self.now.rows in
    let mid = c.hash_after.new.t.rows.now in
    let there = under (r.lists mid) c.in_ok-sealed.sealed.counts c.in_ok-sealed.sealed.changes in
    let reads = read_joined r c.args.self.now.rows c.edit.new.t.rows.now mid (rw c.new-txn.ensures.below at c.edit.ensures.edits.only) c.hash_after.ensures.read.only in
    let done = c.in_ok-edit.ensures.moved heads chain told (same_rows heads _ (with_edits {G = r} c.new-txn.result) chain stand (c.new-txn.ensures.tables told)) fits in
    let sealed = moved_rows heads p chain c.args.texts.now _ _ there done.0 done.1 (λ t. c.in_ok-sealed.ensures.tables t ∙ ap (λ (T : Tables). T t) c.hash_after.ensures.read.tables) in (
      done.0,
      subst (λ (n : ℕ). AreMoved n p chain c.args.texts.now c.edit.new.touched (r.lists c.commit.new.self) done.0)
          (sym ((rw c.in_ok-sealed.ensures.rows at c.commit.ensures.heads) ∙ reads.as_many))
          (moved_rows heads p chain c.args.texts.now _ there _ done.0 sealed (rw c.in_ok-sealed.ensures.rows at c.in-Ok.ensures.lists told)),
      tip_moved heads p chain c.args.texts.now _ _ done.0 _ done.1 c.requires.plan c.requires.of (rw c.as_slice.ensures at c.in_ok-hash.ensures.last)
          (λ none. c.in_ok-hash.ensures.tip heads (target p chain done.0) told done.1.stand (c.as_slice.ensures ∙ none)),
      λ crash. begun r g.met.R.Rows.leaves_lists c.args.self.now.rows mid _ there chain (target p chain done.0) c.requires.live reads stand sealed.stand (rw c.in_ok-sealed.ensures.rows at c.commit.ensures.crash crash) crash,
    )

-- the number of blocks goes by the plan
pub returns-in-Ok-clause-top : goal.returns-in-Ok-clause-top
returns-in-Ok-clause-top g c =
    let r = g.R.Rows in
    let p = c.args.plan.now in
    c.in-Ok.ensures.counts table.Blocks
    ∙ sym (length-under (r.lists c.hash_after.new.t.rows.now) c.in_ok-sealed.sealed.counts c.in_ok-sealed.sealed.changes table.Blocks)
    ∙ ap length (c.in_ok-sealed.ensures.tables table.Blocks)
    ∙ ap (λ (T : Tables). length (T table.Blocks)) c.hash_after.ensures.read.tables ∙ c.in_ok-edit.ensures.top
    ∙ ap (λ (n : ℕ). (n - p.back) + length p.forward) (c.new-txn.ensures.counts table.Blocks)

-- what stands beside the rows stays, however the move ends
pub returns-in_err-edit-clause-beside : goal.returns-in_err-edit-clause-beside
returns-in_err-edit-clause-beside g c =
    let r = g.R.Rows in
    beside_read r c.args.self.now.rows c.edit.new.t.rows.now _ (rw c.new-txn.ensures.below at c.edit.ensures.edits.only) c.drop-txn.ensures

pub returns-in_err-hash-clause-beside : goal.returns-in_err-hash-clause-beside
returns-in_err-hash-clause-beside g c =
    let r = g.R.Rows in
    let reads = read_joined r c.args.self.now.rows c.edit.new.t.rows.now c.hash_after.new.t.rows.now (rw c.new-txn.ensures.below at c.edit.ensures.edits.only) c.hash_after.ensures.read.only in
    beside_read r c.args.self.now.rows c.hash_after.new.t.rows.now _ reads c.drop-txn-in_err-hash.ensures

pub returns-in_err-sealed-clause-beside : goal.returns-in_err-sealed-clause-beside
returns-in_err-sealed-clause-beside g c =
    let r = g.R.Rows in
    let reads = read_joined r c.args.self.now.rows c.edit.new.t.rows.now c.hash_after.new.t.rows.now (rw c.new-txn.ensures.below at c.edit.ensures.edits.only) c.hash_after.ensures.read.only in
    beside_read r c.args.self.now.rows c.hash_after.new.t.rows.now _ reads c.in_err-sealed.ensures.rows

pub returns-in-Ok-clause-beside : goal.returns-in-Ok-clause-beside
returns-in-Ok-clause-beside g c told =
    let r = g.R.Rows in
    let reads = read_joined r c.args.self.now.rows c.edit.new.t.rows.now c.hash_after.new.t.rows.now (rw c.new-txn.ensures.below at c.edit.ensures.edits.only) c.hash_after.ensures.read.only in
    (rw c.in_ok-sealed.ensures.rows at c.commit.ensures.beside told) ∙ reads.below.files told

pub returns-in-Err-DiskFailed-clause-beside : goal.returns-in-Err-DiskFailed-clause-beside
returns-in-Err-DiskFailed-clause-beside g c told =
    let r = g.R.Rows in
    let reads = read_joined r c.args.self.now.rows c.edit.new.t.rows.now c.hash_after.new.t.rows.now (rw c.new-txn.ensures.below at c.edit.ensures.edits.only) c.hash_after.ensures.read.only in
    (rw c.in_ok-sealed.ensures.rows at c.commit.ensures.beside told) ∙ reads.below.files told

-- out of memory, only rows were read
pub returns-clause-unchanged : goal.returns-clause-unchanged
returns-clause-unchanged g c other =
    let r = g.R.Rows in
    let mid = c.hash_after.new.t.rows.now in
    let reads = read_joined r c.args.self.now.rows c.edit.new.t.rows.now mid (rw c.new-txn.ensures.below at c.edit.ensures.edits.only) c.hash_after.ensures.read.only in
    read_joined r c.args.self.now.rows mid c.commit.new.self reads (rw c.in_ok-sealed.ensures.rows at c.in-Err-Memory.ensures.memory (ap (λ (e : CommitFault). let r : Result (Unit {0}) CommitFault = Err e in r) c.in-Err-Memory.field-0-is))

-- why the edits were refused
pub returns-in_err-edit-clause-first_fault : goal.returns-in_err-edit-clause-first_fault
returns-in_err-edit-clause-first_fault g c = λ chain told stand fits.
    let r = g.R.Rows in
    err_passed c.from_residual.result (λ e. IsOwn e ⊎ FaultInAt (shorter c.args.plan.now.back chain) c.args.plan.now.forward c.args.texts.now e) c.in_err-edit.field-0.0
    (err_from_is_err_and c.from_residual.result c.from_residual.ensures.1)
    (c.in_err-edit.ensures.first_fault (r.heads c.args.self.now.rows) chain told
    (same_rows _ _ (with_edits {G = r} c.new-txn.result) chain stand (c.new-txn.ensures.tables told)) fits)
