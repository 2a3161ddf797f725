-- How calls over a transaction of rows go on.
use Rattle.std.proofs.Common.{◌≡◌, ◌≤◌, Ok, refl, sym, subst, ◌∙◌, arith}
use Rattle.el_rows.specs.declared.open.Open.{Open}
use Rattle.el_rows.specs.declared.rows.Rows as rows
use Rattle.el_rows.specs.declared.edits.Layer as layer
use Rattle.el_rows.specs.Changes.{Edited}
use Rattle.el_rows.specs.Transaction.{with_edits, reads_in, OnlyReadsRows, ReadsRows, EditsRows, EditsAlone}
use Rattle.el_rows.proofs.ReadsLemmas.{read_joined, read_none, read_same}

-- rows were read, and no call has failed so far
pub record SoFar {R : Type 0} {G : rows.Ghosts R} {L : layer.Ghosts Edited} (old new : Open R Edited G L) : Type 0 where
  pub tables : with_edits new ≡ with_edits old
  pub only : OnlyReadsRows old new
  pub borrow : new.rows.ghost_name ≡ old.rows.ghost_name
  pub rose : reads_in old ≤ reads_in new
  pub uncounted : G.faults new.rows.now ≡ G.faults old.rows.now

-- rows were read and edits made, and no call has failed so far
pub record EditedSoFar {R : Type 0} {G : rows.Ghosts R} {L : layer.Ghosts Edited} (old new : Open R Edited G L) : Type 0 where
  pub only : OnlyReadsRows old new
  pub borrow : new.rows.ghost_name ≡ old.rows.ghost_name
  pub rose : reads_in old ≤ reads_in new
  pub uncounted : G.faults new.rows.now ≡ G.faults old.rows.now

module _ {R : Type 0} {G : rows.Ghosts R} {L : layer.Ghosts Edited} where
  -- before the first call
  pub nothing : (t : Open R Edited G L) → G.is_live t.rows.now → SoFar t t
  nothing t live = record {
    tables = refl;
    only = read_none G t.rows.now live;
    borrow = refl;
    rose = omega arith;
    uncounted = refl;
  }

  -- reads leave what edits leave
  pub as_edited : {old new : Open R Edited G L} → SoFar old new → EditedSoFar old new
  as_edited so_far = record {
    only = so_far.only;
    borrow = so_far.borrow;
    rose = so_far.rose;
    uncounted = so_far.uncounted;
  }

  -- edits alone
  pub made : {old mid new : Open R Edited G L} → EditedSoFar old mid → EditsAlone mid new → EditedSoFar old new
  made {old = old} {mid = mid} {new = new} so_far alone = record {
    only = read_same G old.rows.now mid.rows.now new.rows.now so_far.only alone.rows;
    borrow = alone.borrow ∙ so_far.borrow;
    rose = subst (λ (r : R). reads_in old ≤ G.reads r) (sym alone.rows) so_far.rose;
    uncounted = subst (λ (r : R). G.faults r ≡ G.faults old.rows.now) (sym alone.rows) so_far.uncounted;
  }

module _ {R : Type 0} {G : rows.Ghosts R} {L : layer.Ghosts Edited} {T E : Type 0} {failure : E} {x : T} where
  -- the first call, and one more
  pub begun : {old new : Open R Edited G L} → ReadsRows failure old new (Ok x) → SoFar old new
  begun read = record {
    tables = read.tables;
    only = read.only;
    borrow = read.borrow;
    rose = read.rose;
    uncounted = read.cause.uncounted;
  }

  pub more : {old mid new : Open R Edited G L} → SoFar old mid → ReadsRows failure mid new (Ok x) → SoFar old new
  more {old = old} {mid = mid} {new = new} so_far read = record {
    tables = read.tables ∙ so_far.tables;
    only = read_joined G old.rows.now mid.rows.now new.rows.now so_far.only read.only;
    borrow = read.borrow ∙ so_far.borrow;
    rose = omega (arith, read.rose, so_far.rose);
    uncounted = read.cause.uncounted ∙ so_far.uncounted;
  }

  pub more_edits : {old mid new : Open R Edited G L} → EditedSoFar old mid → EditsRows failure mid new (Ok x) → EditedSoFar old new
  more_edits {old = old} {mid = mid} {new = new} so_far edits = record {
    only = read_joined G old.rows.now mid.rows.now new.rows.now so_far.only edits.only;
    borrow = edits.borrow ∙ so_far.borrow;
    rose = omega (arith, edits.rose, so_far.rose);
    uncounted = edits.cause.uncounted ∙ so_far.uncounted;
  }

  -- a read among edits
  pub more_read : {old mid new : Open R Edited G L} → EditedSoFar old mid → ReadsRows failure mid new (Ok x) → EditedSoFar old new
  more_read {old = old} {mid = mid} {new = new} so_far read = record {
    only = read_joined G old.rows.now mid.rows.now new.rows.now so_far.only read.only;
    borrow = read.borrow ∙ so_far.borrow;
    rose = omega (arith, read.rose, so_far.rose);
    uncounted = read.cause.uncounted ∙ so_far.uncounted;
  }
