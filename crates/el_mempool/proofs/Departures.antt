-- The kept ones without some that are dropped, and over another chain: what stands, and which script hashes change.
use Rattle.std.proofs.Common.{◌≡◌, ◌≢◌, ◌⊎◌, inl, inr, ℕ, true, false, Bool, cond, not, ◌||◌, ◌&&◌, List, [], ◌∷◌, ◌++◌, None, Some, refl, ap, sym, ◌∙◌}
use Rattle.std.proofs.lemmas.Bool.{cases_Bool, or_parts}
use Rattle.std.specs.List.{AllByRecursion, list_any, filter}
use Rattle.std.specs.Prelude.{map, option_map, option_to_list}
use Rattle.std.specs.Option.{is_some}
use Rattle.el_base.specs.declared.hash.Hash32.{Hash32}
use Rattle.el_tx.specs.declared.types.TxIn.{TxIn}
use Rattle.el_tx.specs.declared.types.Tx.{Tx}
use Rattle.el_tx.specs.Hashing.{txid}
use Rattle.el_block.specs.Blocks.{AllDiffer}
use Rattle.el_chain.specs.Chains.{Chain}
use Rattle.el_chain.specs.Headers.{same_hash}
use Rattle.el_chain.specs.History.{funds}
use Rattle.el_mempool.specs.declared.held.KeptTx.{KeptTx}
use Rattle.el_mempool.specs.Sift.{output_among, named, may_join, sift, other_than}
use Rattle.el_mempool.specs.Unconfirmed.{has_script, concerns_script, entry}
use Rattle.el_mempool.specs.Standing.{source_at, sources, kept_tx, HaveDifferentTxids, KeptStandFor, AreChanged}
use Rattle.el_mempool.proofs.Sifting.{stay, folds, kept_again, joins_of}
use Rattle.el_mempool.proofs.Dropping.{rest, names_gone, IsDropped, AreUnconfirmed, among_rest, named_rest, held_rest, drops}
use Rattle.el_mempool.proofs.Changes.{seen, apart_from}
use Rattle.el_mempool.proofs.Changed.{TellsOf, changes_are}
use Rattle.el_mempool.proofs.Arrivals.{nothing, all_stay, fresh_from, over_all}

-- ---- what stands

-- the entries whose txid isn't gone
abbrev pub rest_entries : (Hash32 → Bool) → List KeptTx → List KeptTx
rest_entries gone ks = filter (λ (k : KeptTx). not (gone k.txid)) ks

sources_rest : (chain : Chain) (gone : Hash32 → Bool) (ts : List Tx) (is : List TxIn) → names_gone gone is ≡ false → sources chain (rest gone ts) is ≡ sources chain ts is
sources_rest chain gone ts [] h = refl
sources_rest chain gone ts (i ∷ is) h =
    let parts = or_parts (gone i.from.txid) (names_gone gone is) h in
    ap (λ x. option_to_list (option_map (source_at i) x) ++ sources chain (rest gone ts) is) (named_rest chain gone i.from ts parts.0)
    ∙ ap (λ l. option_to_list (option_map (source_at i) (named chain ts i.from)) ++ l) (sources_rest chain gone ts is parts.1)

flag_rest : (gone : Hash32 → Bool) (ts : List Tx) (is : List TxIn) → names_gone gone is ≡ false
    → list_any (λ (i : TxIn). is_some (output_among i.from (rest gone ts))) is ≡ list_any (λ (i : TxIn). is_some (output_among i.from ts)) is
flag_rest gone ts [] h = refl
flag_rest gone ts (i ∷ is) h =
    let parts = or_parts (gone i.from.txid) (names_gone gone is) h in
    ap (λ x. is_some x || list_any (λ (j : TxIn). is_some (output_among j.from (rest gone ts))) is) (among_rest gone i.from ts parts.0)
    ∙ ap (λ b. is_some (output_among i.from ts) || b) (flag_rest gone ts is parts.1)

kept_rest : (chain : Chain) (gone : Hash32 → Bool) (ts : List Tx) (t : Tx) → names_gone gone t.inputs ≡ false → kept_tx chain (rest gone ts) t ≡ kept_tx chain ts t
kept_rest chain gone ts t h =
    let held = held_rest chain gone ts t.inputs h in
    let flags = flag_rest gone ts t.inputs h in
    let from = sources_rest chain gone ts t.inputs h in
    rw (held, flags, from) refl

entries_rest : (chain : Chain) (gone : Hash32 → Bool) (id : Hash32) (all ts : List Tx) → IsDropped id gone ts → rest_entries gone (map (kept_tx chain all) ts) ≡ map (kept_tx chain (rest gone all)) (rest gone ts)
entries_rest chain gone id all [] law = refl
entries_rest chain gone id all (t ∷ ts) law = elim (cases_Bool (gone (txid t))) [
  | inl g ↦ rw g (entries_rest chain gone id all ts law.1)
  | inr g ↦
      let parts = or_parts (same_hash (txid t) id) (names_gone gone t.inputs) (sym law.0 ∙ g) in
      rw g (ap (λ k. k ∷ rest_entries gone (map (kept_tx chain all) ts)) (sym (kept_rest chain gone all t parts.1))
      ∙ ap (λ l. kept_tx chain (rest gone all) t ∷ l) (entries_rest chain gone id all ts law.1))
]

all_rest : (P : Hash32 → Type 0) (gone : Hash32 → Bool) (ts : List Tx) → AllByRecursion P (map txid ts) → AllByRecursion P (map txid (rest gone ts))
all_rest P gone [] h = tt
all_rest P gone (t ∷ ts) h = elim (cases_Bool (gone (txid t))) [
  | inl g ↦ rw g (all_rest P gone ts h.1)
  | inr g ↦ rw g (h.0, all_rest P gone ts h.1)
]

once_rest : (gone : Hash32 → Bool) (ts : List Tx) → AllDiffer (map txid ts) → AllDiffer (map txid (rest gone ts))
once_rest gone [] h = tt
once_rest gone (t ∷ ts) h = elim (cases_Bool (gone (txid t))) [
  | inl g ↦ rw g (once_rest gone ts h.1)
  | inr g ↦ rw g (all_rest (λ x. txid t ≢ x) gone ts h.0, once_rest gone ts h.1)
]

-- The entries that aren't gone stand for the sift without the dropped one, over each chain over which all stood.
pub stands_rest : (entries : List KeptTx) (chain : Chain) (gone : Hash32 → Bool) (id : Hash32) (kept : List Tx) → KeptStandFor entries chain kept → AreUnconfirmed chain gone → IsDropped id gone kept
    → KeptStandFor (rest_entries gone entries) chain (sift chain (other_than id kept))
stands_rest entries chain gone id kept h fresh law =
    let is = drops chain gone id kept fresh law h.sifted in
    record {
      sifted = kept_again (may_join chain) (other_than id kept);
      are = ap (rest_entries gone) h.are ∙ entries_rest chain gone id kept kept law ∙ ap (λ l. map (kept_tx chain l) l) (sym is);
      once = rw is (once_rest gone kept h.once);
    }

all_stayed : (P : Hash32 → Type 0) (p : List Tx → Tx → Bool) (before ts : List Tx) → AllByRecursion P (map txid ts) → AllByRecursion P (map txid (stay p before ts))
all_stayed P p before [] h = tt
all_stayed P p before (t ∷ ts) h = elim (cases_Bool (p before t)) [
  | inl g ↦ rw g (h.0, all_stayed P p (before ++ t ∷ []) ts h.1)
  | inr g ↦ rw g (all_stayed P p before ts h.1)
]

once_stayed : (p : List Tx → Tx → Bool) (before ts : List Tx) → AllDiffer (map txid ts) → AllDiffer (map txid (stay p before ts))
once_stayed p before [] h = tt
once_stayed p before (t ∷ ts) h = elim (cases_Bool (p before t)) [
  | inl g ↦ rw g (all_stayed (λ x. txid t ≢ x) p (before ++ t ∷ []) ts h.0, once_stayed p (before ++ t ∷ []) ts h.1)
  | inr g ↦ rw g (once_stayed p before ts h.1)
]

-- what the sift keeps over any chain stands for it
pub stands_sifted : (chain : Chain) (kept : List Tx) → HaveDifferentTxids kept → KeptStandFor (map (kept_tx chain (sift chain kept)) (sift chain kept)) chain (sift chain kept)
stands_sifted chain kept once = record {
  sifted = kept_again (may_join chain) kept;
  are = refl;
  once = let is = folds (may_join chain) [] kept in rw is (once_stayed (may_join chain) [] kept once);
}

-- ---- which script hashes change where some are dropped

entry_rest : (chain : Chain) (gone : Hash32 → Bool) (ts : List Tx) (t : Tx) → names_gone gone t.inputs ≡ false → entry chain (rest gone ts) t ≡ entry chain ts t
entry_rest chain gone ts t h =
    let held = held_rest chain gone ts t.inputs h in
    let flags = flag_rest gone ts t.inputs h in
    rw (held, flags) refl

concerns_rest : (chain : Chain) (gone : Hash32 → Bool) (ts : List Tx) (t : Tx) (s : List ℕ) → names_gone gone t.inputs ≡ false → concerns_script chain (rest gone ts) s t ≡ concerns_script chain ts s t
concerns_rest chain gone ts t s h = ap (λ l. funds s t || list_any (has_script s) l) (held_rest chain gone ts t.inputs h)

-- a dropped one that concerns the script hash
abbrev pub is_gone_at : Chain → (Hash32 → Bool) → List Tx → Hash32 → Tx → Bool
is_gone_at chain gone kept s t = gone (txid t) && concerns_script chain kept s.0 t

tells_dropped : (chain : Chain) (gone : Hash32 → Bool) (id : Hash32) (kept : List Tx) (s : Hash32) (ts : List Tx) → IsDropped id gone ts
    → AllByRecursion (TellsOf chain chain nothing gone kept s (is_gone_at chain gone kept s)) ts
tells_dropped chain gone id kept s [] law = tt
tells_dropped chain gone id kept s (t ∷ ts) law = (by (cases_Bool (gone (txid t))), tells_dropped chain gone id kept s ts law.1)
  where
    before : seen chain nothing kept s.0 t ≡ cond (concerns_script chain kept s.0 t) (Some (entry chain kept t)) None
    before = ap (λ l. cond (concerns_script chain l s.0 t) (Some (entry chain l t)) None) (all_stay kept)

    none_at : (b : Bool) → cond b (Some (entry chain kept t)) None ≡ None → b ≡ false
    none_at false e = refl
    none_at true e = absurd (cc)

    stays : gone (txid t) ≡ false → seen chain nothing kept s.0 t ≡ seen chain gone kept s.0 t
    stays g =
        let parts = or_parts (same_hash (txid t) id) (names_gone gone t.inputs) (sym law.0 ∙ g) in
        let c = concerns_rest chain gone kept t s.0 parts.1 in
        let e = entry_rest chain gone kept t parts.1 in
        before ∙ rw g (ap (λ b. cond b (Some (entry chain kept t)) None) (sym c) ∙ ap (λ x. cond (concerns_script chain (rest gone kept) s.0 t) (Some x) None) (sym e))

    by : (gone (txid t) ≡ true) ⊎ (gone (txid t) ≡ false) → TellsOf chain chain nothing gone kept s (is_gone_at chain gone kept s) t
    by (inl g) =
        let off : seen chain gone kept s.0 t ≡ None = rw g refl in (
          (λ no_one. let here = rw g at no_one in before ∙ ap (λ b. cond b (Some (entry chain kept t)) None) here ∙ sym off),
          (λ same. rw g (none_at (concerns_script chain kept s.0 t) (sym before ∙ same ∙ off))),
        )
    by (inr g) = ((λ _. stays g), (λ _. rw g refl))

-- dropping changes the script hashes that the dropped ones concern
pub drop_changes : (entries : List KeptTx) (chain : Chain) (gone : Hash32 → Bool) (id : Hash32) (kept : List Tx) (scripts : List Hash32) → KeptStandFor entries chain kept → AreUnconfirmed chain gone
    → IsDropped id gone kept → AllDiffer scripts → ((s : Hash32) → list_any (same_hash s) scripts ≡ list_any (is_gone_at chain gone kept s) kept)
    → AreChanged chain kept chain (sift chain (other_than id kept)) scripts
drop_changes entries chain gone id kept scripts h unconfirmed law once are =
    let fresh = fresh_from chain [] kept (joins_of (may_join chain) kept h.sifted) in
    let is = drops chain gone id kept unconfirmed law h.sifted in
    let all = all_stay kept in
    let changed = changes_are chain chain nothing gone kept (is_gone_at chain gone kept) scripts (apart_from kept h.once) (over_all chain nothing kept fresh) (over_all chain gone kept fresh)
    (λ s. tells_dropped chain gone id kept s kept law) once are in
    rw is (rw all at changed)
