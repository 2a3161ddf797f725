-- What an opening gives, whichever format was live.
use Rattle.std.proofs.Common.{◌≡◌, ◌⊎◌, inl, inr, ⊎_elim, ◌<◌, ◌≤◌, ◌^◌, ℕ, List, [], ◌∷◌, length, Result, Ok, Err, IfOk, IfErr, refl, ap, sym, subst, ◌∙◌, arith}
use Rattle.std.proofs.lemmas.Bool.{cases_lt}
use Rattle.std.proofs.lemmas.List.{length-map}
use Rattle.std.proofs.lemmas.Nat.{pow_below}
use Rattle.el_base.specs.declared.hash.Hash32.{Hash32}
use Rattle.el_outside.specs.declared.disk.Disk as disk
use Rattle.el_outside.specs.Disk.{Image}
use Rattle.el_outside.specs.Moments.{LeftNow}
use Rattle.el_chain.specs.Chains.{Chain}
use Rattle.el_row_formats.specs.declared.table.Table.{Table}
use Rattle.el_row_formats.specs.declared.table.Table.TheVariants as table
use Rattle.el_row_formats.specs.Tables.{Tables}
use Rattle.el_row_formats.specs.OldRowBytes.{old_head_row_bytes}
use Rattle.el_row_formats.proofs.Keys.{few_rows}
use Rattle.el_rows.specs.Changes.{count_at}
use Rattle.el_rows.specs.Reads.{Same}
use Rattle.el_redo.specs.RedoBody.{head_bytes}
use Rattle.el_redo.specs.declared.network.NetworkMagic as network
use Rattle.el_redo.specs.declared.faults.OpenFault.{OpenFault}
use Rattle.el_redo.specs.declared.faults.OpenFault.TheVariants as fault
use Rattle.el_tables.specs.ChainLists.{lists, listed_blocks}
use Rattle.el_tables.specs.Lists.{ListedTx}
use Rattle.el_tables.specs.Tables.{heads, in_both, tables_of}
use Rattle.el_tables.proofs.Tables.{length_heads}
use Rattle.el_schema.specs.Standing.{StandWith}
use Rattle.el_schema.specs.Rows.{head_fields}
use Rattle.el_schema.proofs.StandingLemmas.{held_with, same_with}
use Rattle.el_schema.proofs.Held.{count_tx_heads, count_script_heads}
use Rattle.el_pages.specs.declared.layout.TheConstants.{FORMAT_2}
use Rattle.el_pages.specs.Indexes.{IsRooted}
use Rattle.el_pages.specs.declared.store.Pages.{Pages}
use Rattle.el_pages.specs.Stores.{rows_of, bits_of, lists_long}
use Rattle.el_pages.proofs.Laid.{limits_2}
use Rattle.el_recovery.specs.Checks.{Found, bad_index, IsIndex, HasHeadOfEachBucket, IsBadBody, IsBadIndex}
use Rattle.el_recovery.proofs.OneIndex.{one_index, heads_long}
use Rattle.el_migrate.specs.declared.old_files.TheConstants.{OLD_BUCKETS}
use Rattle.el_migrate.specs.OldRows.{old_bytes_of}
use Rattle.el_migrate.specs.ImageChains.{StandsNew, StandsOld, ImageStands, IsOldIndex, IsAnyIndex, IsBadAny, IsOtherFile}
use Rattle.el_migrate.specs.within.Ready.{IsReady}
use Rattle.el_migrate.proofs.Images.{rooted_or_not}
use Rattle.el_migrate.proofs.SameFiles.{index_there, index_with, bad_there, body_there}
use Rattle.el_migrate.proofs.OldStanding.{held_old}
use Rattle.el_migrate.proofs.Migrations.{new_of}

-- ---- results

-- what follows from two facts of a result
pub ok_two : {T E : Type 0} (r : Result T E) (A B C : T → Type 0) → ((x : T) → A x → B x → C x) → IfOk r A → IfOk r B → IfOk r C
ok_two (Ok x) A B C gives a b = gives x a b
ok_two (Err e) A B C gives a b = tt

pub ok_more : {T E : Type 0} (r : Result T E) (A C : T → Type 0) → ((x : T) → A x → C x) → IfOk r A → IfOk r C
ok_more (Ok x) A C gives a = gives x a
ok_more (Err e) A C gives a = tt

pub err_more : {T E : Type 0} (r : Result T E) (A C : E → Type 0) → ((e : E) → A e → C e) → IfErr r A → IfErr r C
err_more (Ok x) A C gives a = tt
err_more (Err e) A C gives a = gives e a

-- ---- bits

pub one_power : (a b : ℕ) → 2 ^ a ≡ 2 ^ b → a ≡ b
one_power a b same = ⊎_elim
    (λ (lt : a < b). absurd (let below = pow_below a b lt in omega (arith, below, same)))
    (λ (ge : b ≤ a). ⊎_elim
    (λ (lt : b < a). absurd (let below = pow_below b a lt in omega (arith, below, same)))
    (λ (le : a ≤ b). omega (arith, ge, le))
    (cases_lt b a))
    (cases_lt a b)

-- an image of format 2 is one index
pub same_index : (magic : List ℕ) (image : Image) (a b : Tables) → length (image 29) < 2 ^ 62 → IsIndex magic image a → IsIndex magic image b → Same a b
same_index magic image a b small x y =
    one_index FORMAT_2 (λ t. omega (arith, limits_2 t, few_rows t)) (head_bytes magic x.bits) (head_bytes magic y.bits) (heads_long magic x.bits y.bits) image a b small x.shows y.shows

-- so its bits are one number
pub same_bits : (magic : List ℕ) (image : Image) (a b : Tables) → length (image 29) < 2 ^ 62 → (x : IsIndex magic image a) (y : IsIndex magic image b) → x.bits ≡ y.bits
same_bits magic image a b small x y =
    one_power x.bits y.bits (sym x.heads.0 ∙ ap (λ (rows : List (List ℕ)). length rows) (sym (same_index magic image a b small x y table.TxHeads)) ∙ y.heads.0)

-- ---- what stands for a chain is an index

pub stands_index : (magic : List ℕ) (image : Image) (chain : Chain) (s : StandsNew magic image chain) → IsIndex magic image s.tables
stands_index magic image chain s =
    let held = (held_with (2 ^ s.bits) s.tables chain s.stand).1 in
    record {
      bits = s.bits;
      may_be = s.may_be;
      shows = s.shows;
      heads = (
        count_tx_heads (in_both (2 ^ s.bits)) (listed_blocks chain) (lists chain) s.tables held,
        count_script_heads (in_both (2 ^ s.bits)) (listed_blocks chain) (lists chain) s.tables held,
      );
    }

no_old_rows : (t : Table) → length (old_bytes_of (tables_of (in_both 0) (listed_blocks []) (lists [])) t) ≡ 0
no_old_rows t = elim t as (λ u. length (old_bytes_of (tables_of (in_both 0) (listed_blocks []) (lists [])) u) ≡ 0) [
  | table.Blocks ↦ refl
  | table.Txs ↦ refl
  | table.TxHeads ↦ refl
  | table.Outs ↦ refl
  | table.Ins ↦ refl
  | table.Scripts ↦ refl
  | table.ScriptHeads ↦ refl
  | table.Entries ↦ refl
]

pub stands_old_index : (magic : List ℕ) (image : Image) (chain : Chain) (s : StandsOld magic image chain) → IsOldIndex magic image s.tables
stands_old_index magic image [] s =
    let held = (held_old s.tables [] s.stand).1 in
    record { shows = s.shows; heads = inr (λ t. ap (λ (rows : List (List ℕ)). length rows) (held.each t) ∙ no_old_rows t) }
stands_old_index magic image (b ∷ bs) s =
    let held = (held_old s.tables (b ∷ bs) s.stand).1 in
    let l = lists (b ∷ bs) in
    record {
      shows = s.shows;
      heads = inl (
        ap (λ (rows : List (List ℕ)). length rows) (held.each table.TxHeads) ∙ length-map (heads OLD_BUCKETS (λ (t : ListedTx). t.txid) l.txs) (λ link. old_head_row_bytes (head_fields link))
            ∙ length_heads OLD_BUCKETS (λ (t : ListedTx). t.txid) l.txs,
        ap (λ (rows : List (List ℕ)). length rows) (held.each table.ScriptHeads) ∙ length-map (heads OLD_BUCKETS (λ (h : Hash32). h) l.scripts) (λ link. old_head_row_bytes (head_fields link))
            ∙ length_heads OLD_BUCKETS (λ (h : Hash32). h) l.scripts,
      );
    }

pub stands_any : (magic : List ℕ) (image : Image) (chain : Chain) → ImageStands magic image chain → (tables : Tables) × IsAnyIndex magic image tables
stands_any magic image chain (inl s) = (s.tables, inl (s.rooted, stands_index magic image chain s))
stands_any magic image chain (inr s) = (s.tables, inr (s.unrooted, stands_old_index magic image chain s))

-- the rows of an index stand for the chain for which its image stands
pub rows_stand : (magic : List ℕ) (image : Image) (rows : Tables) (chain : Chain) (bits : ℕ) → length (image 29) < 2 ^ 62 → IsRooted image → ImageStands magic image chain
    → IsIndex magic image rows → length (rows table.TxHeads) ≡ 2 ^ bits → StandWith (2 ^ bits) rows chain
unfolding stands_index
rows_stand magic image rows chain bits small rooted stands i many =
    let s = new_of magic image chain rooted stands in
    let x = stands_index magic image chain s in
    let same = same_index magic image s.tables rows small x i in
    let powers : 2 ^ s.bits ≡ 2 ^ bits = sym x.heads.0 ∙ ap (λ (some : List (List ℕ)). length some) (sym (same table.TxHeads)) ∙ many in
    subst (λ (n : ℕ). StandWith n rows chain) powers (same_with (2 ^ s.bits) s.tables rows chain s.stand same)

-- a file beyond both formats' is beyond format 2's
pub beyond_new : (f : ℕ) → IsOtherFile f → (f < 20) ⊎ (30 < f)
beyond_new f (inl at) = inl at.1
beyond_new f (inr at) = inr at

-- ---- format 2 is opened, once it is ready

module _ {D N : Type 0} {G : disk.Ghosts D} {H : network.Ghosts N} (old mid : D) (bits : ℕ) (ready : IsReady G H.magic bits (G.seen old) mid)
    (reads : LeftNow G.moment G.left_since mid (G.seen mid)) (small : length (G.seen mid 29) < 2 ^ 62) (r : Result (Pages D N G H) (OpenFault × D)) where
  abbrev was : Image
  was = G.seen old

  abbrev now : Image
  now = G.seen mid

  rows_long : (store : Pages D N G H) (t : Table) → length (rows_of store t) ≡ count_at store.counts t
  rows_long store t = lists_long G store.told.value store.counts t

  -- format 2's files were the same
  same_files : IsRooted was → (f : ℕ) → 20 ≤ f → f < 30 → was f ≡ now f
  same_files live f low lt = sym (ready.stays live f (omega (arith, low)))

  module _ (shows : IfOk r (λ store. IsIndex H.magic now (rows_of store))) where
    pub index_after : IfOk r (λ store. (tables : Tables) × IsAnyIndex H.magic was tables)
    index_after = ok_more r (λ store. IsIndex H.magic now (rows_of store)) (λ store. (tables : Tables) × IsAnyIndex H.magic was tables)
        (λ store i. ⊎_elim
        (λ live. (rows_of store, inl (live, index_there H.magic now was (rows_of store) (same_files live) i)))
        (λ not. let index = ready.index not in (index.0, inr (not, index.1)))
        (rooted_or_not was))
        shows

    module _ (heads_of : IfOk r (λ store. HasHeadOfEachBucket (bits_of store) (count_at store.counts))) where
      pub shows_after : IsRooted was → IfOk r (λ store. (index : IsIndex H.magic was (rows_of store)) × (index.bits ≡ bits_of store))
      shows_after live = ok_two r (λ store. IsIndex H.magic now (rows_of store)) (λ store. HasHeadOfEachBucket (bits_of store) (count_at store.counts))
          (λ store. (index : IsIndex H.magic was (rows_of store)) × (index.bits ≡ bits_of store))
          (λ store i has.
          let j = index_with H.magic now was (rows_of store) (same_files live) i in
          (j.0, j.1 ∙ one_power i.bits (bits_of store) (sym i.heads.0 ∙ rows_long store table.TxHeads ∙ has.0)))
          shows heads_of

      pub moved_after : (IsRooted was → ⊥) → IfOk r (λ store. bits_of store ≡ bits)
      moved_after not = ok_two r (λ store. IsIndex H.magic now (rows_of store)) (λ store. HasHeadOfEachBucket (bits_of store) (count_at store.counts)) (λ store. bits_of store ≡ bits)
          (λ store i has.
          let m = ready.moved not in
          sym (one_power i.bits (bits_of store) (sym i.heads.0 ∙ rows_long store table.TxHeads ∙ has.0)) ∙ same_bits H.magic now (rows_of store) m.tables small i m.index ∙ m.is)
          shows heads_of

      pub chain_after : (chain : Chain) → ImageStands H.magic was chain → IfOk r (λ store. StandWith (2 ^ bits_of store) (rows_of store) chain)
      chain_after chain stands = ok_two r (λ store. IsIndex H.magic now (rows_of store)) (λ store. HasHeadOfEachBucket (bits_of store) (count_at store.counts))
          (λ store. StandWith (2 ^ bits_of store) (rows_of store) chain)
          (λ store i has. rows_stand H.magic now (rows_of store) chain (bits_of store) small (ready.rooted now reads) (ready.chain chain stands) i (rows_long store table.TxHeads ∙ has.0))
          shows heads_of

  pub opens_after : ((tables : Tables) → IsIndex H.magic now tables → IfErr r (λ e. (e.0 ≡ fault.DiskFailed) ⊎ (e.0 ≡ fault.Memory)))
      → (tables : Tables) → IsAnyIndex H.magic was tables → IfErr r (λ e. (e.0 ≡ fault.DiskFailed) ⊎ (e.0 ≡ fault.Memory))
  opens_after opens tables (inl x) = opens tables (index_there H.magic was now tables (λ f low lt. sym (same_files x.0 f low lt)) x.1)
  opens_after opens tables (inr x) = let m = ready.moved x.0 in opens m.tables m.index

  pub memory_after : IfErr r (λ e. e.0 ≡ fault.Memory → (tables : Tables) × IsIndex H.magic now tables) → IfErr r (λ e. e.0 ≡ fault.Memory → (tables : Tables) × IsAnyIndex H.magic was tables)
  memory_after memory = err_more r (λ e. e.0 ≡ fault.Memory → (tables : Tables) × IsIndex H.magic now tables) (λ e. e.0 ≡ fault.Memory → (tables : Tables) × IsAnyIndex H.magic was tables)
      (λ e has is. ⊎_elim
      (λ live. let i = has is in (i.0, inl (live, index_there H.magic now was i.0 (same_files live) i.1)))
      (λ not. let index = ready.index not in (index.0, inr (not, index.1)))
      (rooted_or_not was))
      memory

  module _ (number : ℕ) where
    abbrev NewBad : OpenFault × D → Type 0
    NewBad e = (e.0 ≡ fault.DiskFailed) ⊎ ((e.0 ≡ fault.Memory) ⊎ ((found : Found) × (e.0 ≡ bad_index found) × IsBadIndex FORMAT_2 number now found))

    abbrev AnyBad : OpenFault × D → Type 0
    AnyBad e = (e.0 ≡ fault.DiskFailed) ⊎ ((e.0 ≡ fault.Memory) ⊎ ((found : Found) × (e.0 ≡ bad_index found) × IsBadAny number was found))

    abbrev Few : OpenFault × D → Type 0
    Few e = (e.0 ≡ fault.DiskFailed) ⊎ (e.0 ≡ fault.Memory)

    pub bad_after : IfErr r NewBad → ((tables : Tables) → IsIndex H.magic now tables → IfErr r Few) → IfErr r AnyBad
    bad_after bad opens = ⊎_elim
        (λ live. err_more r NewBad AnyBad
        (λ e b. ⊎_elim
        (λ failed. inl failed)
        (λ more. inr (⊎_elim
        (λ memory. inl memory)
        (λ found. inr (found.0, found.1, inl (live, bad_there FORMAT_2 now was (λ f low le. same_files live f low (omega (arith, le))) found.0 number found.2)))
        more))
        b)
        bad)
        (λ not. err_more r Few AnyBad
        (λ e few. ⊎_elim (λ failed. inl failed) (λ memory. inr (inl memory)) few)
        (let m = ready.moved not in opens m.tables m.index))
        (rooted_or_not was)

  pub untouched_after : (now2 : Image) → IsRooted was → ((found : Found) → IsBadBody FORMAT_2 now found → IfErr r (λ e. (e.0 ≡ fault.DiskFailed) ⊎ (now2 ≡ now)))
      → (found : Found) → IsBadBody FORMAT_2 was found → IfErr r (λ e. (e.0 ≡ fault.DiskFailed) ⊎ ((f : ℕ) → 9 < f → now2 f ≡ was f))
  untouched_after now2 live untouched found body = err_more r (λ e. (e.0 ≡ fault.DiskFailed) ⊎ (now2 ≡ now)) (λ e. (e.0 ≡ fault.DiskFailed) ⊎ ((f : ℕ) → 9 < f → now2 f ≡ was f))
      (λ e which. ⊎_elim (λ failed. inl failed) (λ same. inr (λ f high. ap (λ (s : Image). s f) same ∙ ready.stays live f high)) which)
      (untouched found (body_there FORMAT_2 was now (λ f low le. sym (same_files live f low (omega (arith, le)))) found body))
