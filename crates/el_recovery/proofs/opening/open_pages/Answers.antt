use Rattle.std.proofs.Common.{◌≡◌, ◌⊎◌, ◌<◌, ◌≤◌, ◌+◌, ◌*◌, ℕ, List, [], ◌∷◌, length, take, inl, inr, ⊎_elim, refl, ap, sym, subst, ◌∙◌, arith}
use Rattle.std.specs.Int.{w32, from_le_bytes}
use Rattle.std.proofs.Math.Path.{fun_ext}
use Rattle.el_outside.specs.Disk.{Image}
use Rattle.el_row_formats.specs.declared.table.Table.{Table}
use Rattle.el_row_formats.specs.declared.table.Table.TheVariants as table
use Rattle.el_row_formats.specs.Tables.{Tables}
use Rattle.el_rows.specs.Changes.{count_at}
use Rattle.el_redo.specs.RedoBody.{head_bytes}
use Rattle.el_redone.specs.Redone.{ImageStandsFor}
use Rattle.el_redone.specs.Steps.{Leaves, IsAlike}
use Rattle.el_pages.specs.declared.layout.TheConstants.{FORMAT_2}
use Rattle.el_pages.specs.Layouts.{file_of, size_in}
use Rattle.el_pages.specs.Records.{Spells}
use Rattle.el_pages.specs.Indexes.{HasCounts, tables_in}
use Rattle.el_recovery.specs.Checks.{Found, length_told, HasBits, HasHeadOfEachBucket, IsIndex, IsBadIndex}
use Rattle.el_pages.specs.Stores.{disk_below, live_shows}
use Rattle.el_pages.proofs.Laid.{length-rows_in}
use Rattle.el_pages.proofs.StoreLemmas.{beside_at}
use Rattle.el_recovery.proofs.opening.open_pages.Goals as goal

pub returns-in-Err-clause-crash : goal.returns-in-Err-clause-crash
returns-in-Err-clause-crash g c told = c.settle.ensures.crash told

pub returns-in-Err-new-clause-crash : goal.returns-in-Err-new-clause-crash
returns-in-Err-new-clause-crash g c told =
    subst (λ d. Leaves g.D.Disk (IsAlike g.D.Disk (Spells FORMAT_2) 20 29 c.args.disk) c.args.disk d) (sym c.in-Err-new.ensures.back) (c.settle.ensures.crash told)

pub returns-in-Ok-new-clause-crash : goal.returns-in-Ok-new-clause-crash
returns-in-Ok-new-clause-crash g c told =
    subst (λ d. Leaves g.D.Disk (IsAlike g.D.Disk (Spells FORMAT_2) 20 29 c.args.disk) c.args.disk d) (sym c.in-Ok-new.ensures.disk) (c.settle.ensures.crash told)

-- ---- what is opened

heads_there : (new : Image) (counts : List ℕ) (bits : ℕ) → HasHeadOfEachBucket bits (count_at counts) → HasHeadOfEachBucket bits (λ (t : Table). length (tables_in FORMAT_2 new counts t))
heads_there new counts bits heads =
    subst (λ (count : Table → ℕ). HasHeadOfEachBucket bits count) (fun_ext (λ (t : Table). sym (length-rows_in (size_in FORMAT_2 t) (new (file_of FORMAT_2 t)) (count_at counts t)))) heads

-- the files that an opening leaves have tables for which the disk stood
index_of_files : (old new : Image) (m n counts : List ℕ) (bits : ℕ) → ImageStandsFor (Spells FORMAT_2) 20 29 new old → HasCounts FORMAT_2 (head_bytes m bits) new counts → m ≡ n → HasBits bits → HasHeadOfEachBucket bits (count_at counts)
    → IsIndex n old (tables_in FORMAT_2 new counts)
index_of_files old new m n counts bits stands has magic may_be heads = record {
  bits = bits;
  may_be = may_be;
  shows = record {
    files = new;
    stands = stands;
    counts = counts;
    has = subst (λ (k : List ℕ). HasCounts FORMAT_2 (head_bytes k bits) new counts) magic has;
    same = λ t. refl;
  };
  heads = heads_there new counts bits heads;
}

pub returns-in-Ok-new-clause-live : goal.returns-in-Ok-new-clause-live
returns-in-Ok-new-clause-live g c =
    c.in-Ok-new.ensures.live (λ told. c.in-Ok.ensures.rest told)
    (λ told. subst (λ (b : List ℕ). take 1 b ≡ 2 ∷ []) (sym (c.in-Ok.ensures.root told)) (c.requires.rooted told (g.D.Disk.seen c.args.disk) (g.met.D.Disk.reads_an_image c.args.disk told)))
    (λ told. subst (λ (m : List ℕ). HasCounts FORMAT_2 (head_bytes m c.in-Ok.row.bits) (g.D.Disk.seen c.settle.new.disk) c.in-Ok.row.counts) c.magic.ensures (c.in-Ok.ensures.has told))

pub returns-in-Ok-new-clause-shows : goal.returns-in-Ok-new-clause-shows
returns-in-Ok-new-clause-shows g c told =
    let old = g.D.Disk.seen c.args.disk in
    subst (λ (rows : Tables). IsIndex g.N.NetworkMagic.magic old rows) (sym c.in-Ok-new.ensures.rows)
    (index_of_files old (g.D.Disk.seen c.settle.new.disk) c.magic.result g.N.NetworkMagic.magic c.in-Ok.row.counts c.in-Ok.row.bits (c.in-Ok.ensures.stands told) (c.in-Ok.ensures.has told) c.magic.ensures
    c.in-Ok.ensures.bits c.in-Ok.ensures.heads)

pub returns-in-Ok-new-clause-leaves : goal.returns-in-Ok-new-clause-leaves
returns-in-Ok-new-clause-leaves g c told image left = live_shows c.in-Ok-new.store image told (returns-in-Ok-new-clause-live g c) left

pub returns-in-Ok-new-clause-bits : goal.returns-in-Ok-new-clause-bits
returns-in-Ok-new-clause-bits g c = subst (λ n. HasBits n) (sym c.in-Ok-new.ensures.bits) c.in-Ok.ensures.bits

pub returns-in-Ok-new-clause-heads : goal.returns-in-Ok-new-clause-heads
returns-in-Ok-new-clause-heads g c =
    let counts = c.in-Ok-new.ensures.counts in
    let heads = c.in-Ok.ensures.heads in
    subst (λ n. HasHeadOfEachBucket n (λ (t : Table). count_at c.in-Ok-new.store.counts t)) (sym c.in-Ok-new.ensures.bits) (counts table.TxHeads ∙ heads.0, counts table.ScriptHeads ∙ heads.1)

pub new-requires-clause-least : goal.new-requires-clause-least
new-requires-clause-least g c = c.in-Ok.ensures.bits.0

pub new-requires-clause-most : goal.new-requires-clause-most
new-requires-clause-most g c = c.in-Ok.ensures.bits.1

-- ---- memory

pub returns-in-Err-clause-memory : goal.returns-in-Err-clause-memory
returns-in-Err-clause-memory g c told is = ⊎_elim
    (λ failed. absurd (cc (failed, is)))
    (λ bad. absurd (let told_bad = bad.1 in cc (told_bad, is)))
    c.in-Err.ensures.only

pub returns-in-Err-new-clause-memory : goal.returns-in-Err-new-clause-memory
returns-in-Err-new-clause-memory g c told is =
    let new = g.D.Disk.seen c.settle.new.disk in (
      tables_in FORMAT_2 new c.in-Ok.row.counts,
      index_of_files (g.D.Disk.seen c.args.disk) new c.magic.result g.N.NetworkMagic.magic c.in-Ok.row.counts c.in-Ok.row.bits (c.in-Ok.ensures.stands told) (c.in-Ok.ensures.has told) c.magic.ensures
          c.in-Ok.ensures.bits c.in-Ok.ensures.heads,
    )

-- ---- bad indexes

-- the network's magic, as the type and as a call says it
abbrev bad_for : List ℕ → Image → Found → Type 0
bad_for m image found = IsBadIndex FORMAT_2 (from_le_bytes w32 m) image found

pub returns-in-Err-clause-bad : goal.returns-in-Err-clause-bad
returns-in-Err-clause-bad g c told = ⊎_elim
    (λ failed. inl failed)
    (λ bad. inr (inr (bad.0, bad.1, subst (λ (m : List ℕ). bad_for m (g.D.Disk.seen c.args.disk) bad.0) c.magic.ensures bad.2)))
    (c.in-Err.ensures.bad told)

pub returns-in-Err-new-clause-bad : goal.returns-in-Err-new-clause-bad
returns-in-Err-new-clause-bad g c told = inr (inl refl)

pub returns-in-Err-clause-is_bad : goal.returns-in-Err-clause-is_bad
returns-in-Err-clause-is_bad g c told found bad =
    c.in-Err.ensures.is_bad told found (subst (λ (m : List ℕ). bad_for m (g.D.Disk.seen c.args.disk) found) (sym c.magic.ensures) bad)

pub returns-in-Err-new-clause-is_bad : goal.returns-in-Err-new-clause-is_bad
returns-in-Err-new-clause-is_bad g c told found bad =
    absurd (c.in-Ok.ensures.is_bad told found (subst (λ (m : List ℕ). bad_for m (g.D.Disk.seen c.args.disk) found) (sym c.magic.ensures) bad))

pub returns-in-Ok-new-clause-is_bad : goal.returns-in-Ok-new-clause-is_bad
returns-in-Ok-new-clause-is_bad g c told found bad =
    c.in-Ok.ensures.is_bad told found (subst (λ (m : List ℕ). bad_for m (g.D.Disk.seen c.args.disk) found) (sym c.magic.ensures) bad)

pub returns-in-Err-clause-opens : goal.returns-in-Err-clause-opens
returns-in-Err-clause-opens g c told tables index =
    inl (c.in-Err.ensures.opens told tables (subst (λ (m : List ℕ). IsIndex m (g.D.Disk.seen c.args.disk) tables) (sym c.magic.ensures) index))

pub returns-in-Err-new-clause-opens : goal.returns-in-Err-new-clause-opens
returns-in-Err-new-clause-opens g c told tables index = inr refl

pub returns-in-Err-clause-untouched : goal.returns-in-Err-clause-untouched
returns-in-Err-clause-untouched g c told found body = c.in-Err.ensures.untouched told found body

pub returns-in-Err-new-clause-untouched : goal.returns-in-Err-new-clause-untouched
returns-in-Err-new-clause-untouched g c told found body = absurd (c.in-Ok.ensures.is_bad told found (inl body))

-- ---- the files beyond the store's, and calls

pub returns-in-Err-clause-others : goal.returns-in-Err-clause-others
returns-in-Err-clause-others g c told f at = c.settle.ensures.beside told f at

pub returns-in-Err-new-clause-others : goal.returns-in-Err-new-clause-others
returns-in-Err-new-clause-others g c told f at = ap (λ d. g.D.Disk.seen d f) c.in-Err-new.ensures.back ∙ c.settle.ensures.beside told f at

pub returns-in-Ok-new-clause-others : goal.returns-in-Ok-new-clause-others
returns-in-Ok-new-clause-others g c told f at = ap (λ d. g.D.Disk.seen d f) c.in-Ok-new.ensures.disk ∙ c.settle.ensures.beside told f at

outside : (f : ℕ) → (f < 20) ⊎ (30 < f) → (f < 20) ⊎ (29 < f)
outside f (inl lt) = inl lt
outside f (inr lt) = inr (omega (arith, lt))

pub returns-in-Ok-new-clause-beside : goal.returns-in-Ok-new-clause-beside
returns-in-Ok-new-clause-beside g c told f at = beside_at (g.D.Disk.seen (disk_below c.in-Ok-new.store)) f (outside f at) ∙ ap (λ d. g.D.Disk.seen d f) c.in-Ok-new.ensures.disk ∙ c.settle.ensures.beside told f at

pub returns-in-Err-clause-quiet : goal.returns-in-Err-clause-quiet
returns-in-Err-clause-quiet g c told none = c.settle.ensures.quiet told none

pub returns-in-Err-new-clause-quiet : goal.returns-in-Err-new-clause-quiet
returns-in-Err-new-clause-quiet g c told none = subst (λ d. g.D.Disk.calls d ≤ g.D.Disk.calls c.args.disk + 26) (sym c.in-Err-new.ensures.back) (c.settle.ensures.quiet told none)

pub returns-in-Ok-new-clause-quiet : goal.returns-in-Ok-new-clause-quiet
returns-in-Ok-new-clause-quiet g c told none = subst (λ d. g.D.Disk.calls d ≤ g.D.Disk.calls c.args.disk + 26) (sym c.in-Ok-new.ensures.disk) (c.settle.ensures.quiet told none)

pub returns-in-Err-clause-calls : goal.returns-in-Err-clause-calls
returns-in-Err-clause-calls g c told = c.settle.ensures.calls told

pub returns-in-Err-new-clause-calls : goal.returns-in-Err-new-clause-calls
returns-in-Err-new-clause-calls g c told =
    subst (λ d. 2 * g.D.Disk.calls d ≤ 2 * g.D.Disk.calls c.args.disk + (273 + length_told (g.D.Disk.seen c.args.disk 29))) (sym c.in-Err-new.ensures.back) (c.settle.ensures.calls told)

pub returns-in-Ok-new-clause-calls : goal.returns-in-Ok-new-clause-calls
returns-in-Ok-new-clause-calls g c told =
    subst (λ d. 2 * g.D.Disk.calls d ≤ 2 * g.D.Disk.calls c.args.disk + (273 + length_told (g.D.Disk.seen c.args.disk 29))) (sym c.in-Ok-new.ensures.disk) (c.settle.ensures.calls told)
