-- What an index is after rows were read, and what a crash leaves of a move.
use Rattle.std.specs.Prelude.{IfSome, MatchOption}
use Rattle.std.proofs.Common.{◌≡◌, inl, inr, ⊎_elim, ℕ, zero, suc, ◌+◌, ◌<◌, ◌≤◌, Option, None, Some, List, length, refl, sym, ap, ◌∙◌, subst, arith}
use Rattle.el_base.specs.declared.hash.Hash32.{Hash32}
use Rattle.el_outside.specs.Moments.{KeepsBelow, LeavesOnly}
use Rattle.el_outside.proofs.Moments.{joined, weaker, still_only}
use Rattle.el_row_formats.specs.declared.table.Table.{Table}
use Rattle.el_row_formats.specs.declared.table.Table.TheVariants as table
use Rattle.el_row_formats.specs.Tables.{Tables}
use Rattle.el_rows.specs.declared.rows.Rows as rows_below
use Rattle.el_rows.specs.Reads.{IsEither}
use Rattle.el_rows.specs.Transaction.{WasRead}
use Rattle.el_chain.specs.Chains.{Chain}
use Rattle.el_model.specs.Keeping.{Quiet, Either}
use Rattle.el_model.specs.Queries.{blocks_in}
use Rattle.el_schema.specs.Standing.{buckets_in}
use Rattle.el_index.specs.Means.{top, AreRowsOf, IsIndexOf, Means}

-- a height that is at most the top is below the count
pub below_top : (n h : ℕ) → MatchOption (top n) ⊥ (λ t. h ≤ t) → h < n
below_top zero h under = absurd under
below_top (suc n) h under = omega (arith, under)

-- the height of the last of so many blocks tells how many there are
pub blocks_in_top : (n : ℕ) → blocks_in (top n) ≡ n
blocks_in_top zero = refl
blocks_in_top (suc n) = omega arith

-- what a transaction has read of rows is read of the rows that it was opened over
pub rows_read : {R : Type 0} (reads : R → ℕ) (old below mid new : R) (k : ℕ) → below ≡ old → new ≡ mid
    → reads mid ≤ reads below + k → reads new ≤ reads old + k
rows_read {R} reads old below mid new k opened closed few =
    let from : reads mid ≤ reads old + k = subst (λ (r : R). reads mid ≤ reads r + k) opened few in
    subst (λ (r : R). reads r ≤ reads old + k) (sym closed) from

-- the same of a bound that speaks of buckets, of which there are as many
pub rows_read_in : {R : Type 0} (reads : R → ℕ) (bound : ℕ → ℕ) (lists opened : Tables) (old below mid new : R) → ((t : Table) → opened t ≡ lists t)
    → below ≡ old → new ≡ mid → reads mid ≤ reads below + bound (buckets_in opened) → reads new ≤ reads old + bound (buckets_in lists)
rows_read_in reads bound lists opened old below mid new tables at closed few =
    rows_read reads old below mid new (bound (buckets_in lists)) at closed
    (subst (λ (n : ℕ). reads mid ≤ reads below + bound n) (ap length (tables table.TxHeads)) few)

pub rows_of_ids : {R : Type 0} (reads : R → ℕ) (old below mid new : R) (ids : Option (List Hash32)) → below ≡ old
    → new ≡ mid → IfSome ids (λ found. reads mid ≤ reads below + (1 + length found))
    → IfSome ids (λ found. reads new ≤ reads old + (1 + length found))
rows_of_ids reads old below mid new None opened closed few = tt
rows_of_ids reads old below mid new (Some found) opened closed few =
    rows_read reads old below mid new (1 + length found) opened closed few

-- rows of an index that stay, with as many heads
pub same_index : {m n : ℕ} {a b : Tables} {chain : Chain} → m ≡ n → a ≡ b → AreRowsOf m a chain → AreRowsOf n b chain
same_index {m} {n} {a} {b} {chain} as_many same stand =
    subst (λ (k : ℕ). AreRowsOf k b chain) as_many (subst (λ (t : Tables). AreRowsOf m t chain) same stand)

module _ {R : Type 0} (G : rows_below.Ghosts R) where
  -- E is an index, which holds the rows
  pub quiet : {E : Type 0} (rows : E → R) (tip : E → Option Hash32) (old new : E) (mid : R) → rows new ≡ mid → tip new ≡ tip old → G.is_live (rows old)
      → WasRead G (rows old) mid
      → Quiet (λ e. G.is_live (rows e)) (λ e. top (G.counts (rows e) table.Blocks)) tip (λ e. buckets_in (G.lists (rows e))) (λ e chain. IsIndexOf G.tells (G.heads (rows e)) (G.lists (rows e)) (tip e) chain)
      (KeepsBelow G.tells_crash (λ e. G.moment (rows e)) (λ e t c. G.left_since (rows e) t c) (λ e. G.beside (rows e))) old new
  quiet {E} rows tip old new mid is kept live reads' =
      let reads : WasRead G (rows old) (rows new) = subst (λ (r : R). WasRead G (rows old) r) (sym is) reads' in
      record {
        stays = record {
          still_live = λ l. reads.live;
          was_live = λ l. live;
          same_height = ap (λ (f : Table → ℕ). top (f table.Blocks)) reads.count;
          same_tip = kept;
          same_buckets = ap buckets_in reads.same;
          still_stands = λ chain s. record {
            told = s.told;
            stand = same_index (sym reads.as_many) (sym reads.same) s.stand;
            last = kept ∙ s.last;
          };
          stood = λ chain s. record {
            told = s.told;
            stand = same_index reads.as_many reads.same s.stand;
            last = sym kept ∙ s.last;
          };
        };
        below = record {
          crash = λ told. record { later = (reads.below.crash told).later; before = (reads.below.crash told).before };
          files = reads.below.files;
        };
      }

  -- what stands beside rows that were read, and then given back
  pub beside_read : (old mid new : R) → WasRead G old mid → new ≡ mid → G.tells_crash → G.beside new ≡ G.beside old
  beside_read old mid new reads is told = ap G.beside is ∙ reads.below.files told

  -- The law `leaves_lists` of the rows, which are live.
  module _ (leaves_lists : (r : R) (c : G.Left) → G.tells_crash → G.is_live r → G.left_since r (G.moment r) c → G.shows c (G.heads r) (G.lists r)) where
    -- only rows were read: a crash since leaves the old chain
    pub only_read : (old mid new : R) (chain next : Chain) → G.is_live old → WasRead G old mid → AreRowsOf (G.heads old) (G.lists old) chain → new ≡ mid → G.tells_crash
        → LeavesOnly G.moment G.left_since old new (Either (Means G.shows) chain next)
    only_read old mid new chain next live reads stands is told =
        subst (λ (r : R). LeavesOnly G.moment G.left_since old r (Either (Means G.shows) chain next)) (sym is)
        (still_only G.moment G.left_since old mid (Either (Means G.shows) chain next) (reads.below.crash told) (λ c left. inl (G.heads old, G.lists old, leaves_lists old c told live left, stands)))

    -- and then a commit was begun: it leaves that or the target
    pub begun : (old mid new : R) (under : Tables) (chain next : Chain) → G.is_live old → WasRead G old mid → AreRowsOf (G.heads old) (G.lists old) chain → AreRowsOf (G.heads old) under next
        → LeavesOnly G.moment G.left_since mid new (IsEither (λ c. G.shows c (G.heads mid)) (G.lists mid) under) → G.tells_crash → LeavesOnly G.moment G.left_since old new (Either (Means G.shows) chain next)
    begun old mid new under chain next live reads stands target commit told =
        let P : G.Left → Type 0 = Either (Means G.shows) chain next in
        joined G.moment G.left_since old mid new P
        (only_read old mid mid chain next live reads stands refl told)
        (weaker G.moment G.left_since mid new (IsEither (λ c. G.shows c (G.heads mid)) (G.lists mid) under) P
        (λ c either. ⊎_elim
        (λ shown. inl (G.heads mid, G.lists mid, shown, same_index (sym reads.as_many) (sym reads.same) stands))
        (λ shown. inr (G.heads mid, under, shown, same_index (sym reads.as_many) refl target)) either) commit)

-- what a crash leaves of the rows it leaves of the index that holds them
pub lifted : {R C E : Type 0} (moment : R → ℕ) (left_since : R → ℕ → C → Type 0) (rows : E → R) (old new : E) (mid : R) (P : C → Type 0) → rows new ≡ mid → LeavesOnly moment left_since (rows old) mid P
    → LeavesOnly (λ e. moment (rows e)) (λ e t c. left_since (rows e) t c) old new P
lifted {R} {C} {E} moment left_since rows old new mid P is run' =
    let run : LeavesOnly moment left_since (rows old) (rows new) P = subst (λ (r : R). LeavesOnly moment left_since (rows old) r P) (sym is) run' in
    record { later = run.later; each = run.each; before = run.before }
