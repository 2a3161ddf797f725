-- A redo file says one thing: its bytes are read in one way.
use Rattle.std.proofs.Common.{◌≡◌, ⊎_elim, ◌<◌, ◌+◌, ◌^◌, ℕ, List, [], ◌∷◌, ◌++◌, length, get_or, drop, refl, ap, sym, ◌∙◌, arith, subst, append_assoc, length-append}
use Rattle.std.specs.List.{AllByRecursion}
use Rattle.std.specs.Int.{w64, to_le_bytes, from_le_bytes}
use Rattle.std.proofs.lemmas.Nat.{from_le_bytes-to_le_bytes_8}
use Rattle.el_base.proofs.Lists.{same_cut}
use Rattle.el_row_formats.specs.declared.table.Table.{Table}
use Rattle.el_row_formats.specs.declared.table.RowKey.{RowKey}
use Rattle.el_row_formats.specs.Tables.{number_of, key}
use Rattle.el_row_formats.proofs.Keys.{same_index}
use Rattle.el_rows.specs.Changes.{Changes}
use Rattle.el_redo.specs.RedoBody.{change_bytes, changes_bytes}
use Rattle.el_redo.proofs.BodyLemmas.{length-change}
use Rattle.el_redone.specs.Redone.{Write, IsClosed, Waits, Pending, record_bytes}
use Rattle.el_pages.specs.declared.layout.Layout.{Layout}
use Rattle.el_pages.specs.Layouts.{size_in}
use Rattle.el_pages.specs.Records.{Spells, IsWhole, writes_of}

pub same_number : (a b : ℕ) → a < 2 ^ 64 → b < 2 ^ 64 → to_le_bytes w64 a ≡ to_le_bytes w64 b → a ≡ b
same_number a b below under e =
    sym (from_le_bytes-to_le_bytes_8 a below) ∙ ap (λ (l : List ℕ). from_le_bytes w64 l) e ∙ from_le_bytes-to_le_bytes_8 b under

-- ---- changed rows

pair_is : (e f : RowKey × List ℕ) → e.0.table ≡ f.0.table → e.0.row ≡ f.0.row → e.1 ≡ f.1 → e ≡ f
pair_is e f tables rows bytes =
    let keys : e.0 ≡ f.0 = ap (λ (t : Table). key t e.0.row) tables ∙ ap (λ (i : ℕ). key f.0.table i) rows in
    let first : (e.0, e.1) ≡ (f.0, e.1) = ap (λ (k : RowKey). let p : RowKey × List ℕ = (k, e.1) in p) keys in
    let second : (f.0, e.1) ≡ (f.0, f.1) = ap (λ (b : List ℕ). let p : RowKey × List ℕ = (f.0, b) in p) bytes in
    first ∙ second

module _ (l : Layout) where
  pub one_change : (e f : RowKey × List ℕ) (r s : List ℕ) → IsWhole l e → IsWhole l f → change_bytes e ++ r ≡ change_bytes f ++ s → (e ≡ f) × (r ≡ s)
  unfolding change_bytes
  one_change e f r s fits other same =
      let first = to_le_bytes w64 e.0.row in
      let second = to_le_bytes w64 f.0.row in
      let numbers : number_of e.0.table ≡ number_of f.0.table = ap (λ (b : List ℕ). get_or b 0 0) same in
      let tables : e.0.table ≡ f.0.table = same_index e.0.table f.0.table (omega (arith, numbers)) in
      let tails : (first ++ e.1) ++ r ≡ (second ++ f.1) ++ s = ap (λ (b : List ℕ). drop 1 b) same in
      let cut = same_cut first (e.1 ++ r) second (f.1 ++ s) refl (sym (append_assoc first e.1 r) ∙ tails ∙ append_assoc second f.1 s) in
      let rows : e.0.row ≡ f.0.row = same_number e.0.row f.0.row fits.small other.small cut.0 in
      let more = same_cut e.1 r f.1 s (fits.sized ∙ ap (size_in l) tables ∙ sym other.sized) cut.1 in
      (pair_is e f tables rows more.0, more.1)

  pub no_change : (e : RowKey × List ℕ) (rest : List ℕ) → [] ≡ change_bytes e ++ rest → ⊥
  no_change e rest is = absurd (omega (arith, ap (λ (b : List ℕ). length b) is, length-append (change_bytes e) rest, length-change e))

  same_changes : (a b : Changes) → AllByRecursion (IsWhole l) a → AllByRecursion (IsWhole l) b → changes_bytes a ≡ changes_bytes b → a ≡ b
  same_changes [] [] fit fits same = refl
  same_changes [] (f ∷ fs) fit fits same = absurd (no_change f (changes_bytes fs) same)
  same_changes (e ∷ es) [] fit fits same = absurd (no_change e (changes_bytes es) (sym same))
  same_changes (e ∷ es) (f ∷ fs) fit fits same =
      let one = one_change e f (changes_bytes es) (changes_bytes fs) fit.0 fits.0 same in
      ap (λ (x : RowKey × List ℕ). x ∷ es) one.0 ∙ ap (λ (c : Changes). f ∷ c) (same_changes es fs fit.1 fits.1 one.1)

  -- a body spells one list of writes
  pub one_spelled : (body : List ℕ) (ws vs : List Write) → Spells l body ws → Spells l body vs → ws ≡ vs
  one_spelled body ws vs a b =
      let cut = same_cut a.meta (changes_bytes a.changes) b.meta (changes_bytes b.changes) (a.long ∙ sym b.long) (sym a.is ∙ b.is) in
      a.writes ∙ ap (λ (m : List ℕ). writes_of l m a.changes) cut.0 ∙ ap (λ (c : Changes). writes_of l b.meta c) (same_changes a.changes b.changes a.whole b.whole cut.1) ∙ sym b.writes

  -- ---- records

  one_body : (a b after behind : List ℕ) → length a < 2 ^ 64 → length b < 2 ^ 64 → record_bytes a ++ after ≡ record_bytes b ++ behind → a ≡ b
  unfolding record_bytes
  one_body a b after behind small less same =
      let first = to_le_bytes w64 (length a) in
      let second = to_le_bytes w64 (length b) in
      let cut = same_cut first (a ++ after) second (b ++ behind) refl (sym (append_assoc first a after) ∙ same ∙ append_assoc second b behind) in
      (same_cut a after b behind (same_number (length a) (length b) small less cut.0) cut.1).0

  long_record : (body : List ℕ) → length (record_bytes body) ≡ 8 + length body
  unfolding record_bytes
  long_record body = length-append (to_le_bytes w64 (length body)) body

  -- what waits in a redo file with an open gate and a whole body is what the body spells
  pub one_pending : (file body stale : List ℕ) (ws vs : List Write) → length file < 2 ^ 62 → file ≡ 1 ∷ (record_bytes body ++ stale) → Spells l body ws → Pending (Spells l) file vs → vs ≡ ws
  one_pending file body stale ws vs small is spelled pending =
      let long : length file ≡ 9 + length body + length stale =
      ap (λ (b : List ℕ). length b) is ∙ (let two = length-append (record_bytes body) stale in let e : 1 + length (record_bytes body ++ stale) ≡ 9 + length body + length stale = omega (arith, two, long_record body) in let f : length (1 ∷ (record_bytes body ++ stale)) ≡ 1 + length (record_bytes body ++ stale) = omega arith in f ∙ e) in
      ⊎_elim
      (λ none. ⊎_elim
      (λ (short : length file < 2). absurd (omega (arith, short, long)))
      (λ (closed : IsClosed file). absurd (closed.closed (ap (λ (b : List ℕ). get_or b 0 0) (sym closed.is ∙ is))))
      none.0)
      (λ (waits : Waits (Spells l) file vs).
      let tails : record_bytes waits.body ++ waits.stale ≡ record_bytes body ++ stale = ap (λ (b : List ℕ). drop 1 b) (sym waits.is ∙ is) in
      let other : length file ≡ 9 + length waits.body + length waits.stale =
      ap (λ (b : List ℕ). length b) waits.is ∙ (let two = length-append (record_bytes waits.body) waits.stale in let e : 1 + length (record_bytes waits.body ++ waits.stale) ≡ 9 + length waits.body + length waits.stale = omega (arith, two, long_record waits.body) in let f : length (1 ∷ (record_bytes waits.body ++ waits.stale)) ≡ 1 + length (record_bytes waits.body ++ waits.stale) = omega arith in f ∙ e) in
      let same : waits.body ≡ body = one_body waits.body body waits.stale stale (omega (arith, small, other)) (omega (arith, small, long)) tails in
      one_spelled body vs ws (subst (λ (b : List ℕ). Spells l b vs) same waits.spelled) spelled)
      pending
