-- The front of a redo file.
use Rattle.std.proofs.Common.{◌≡◌, ◌≢◌, ◌<◌, ◌≤◌, ◌+◌, ◌-◌, ℕ, List, [], ◌∷◌, ◌++◌, length, get_or, take, drop, min, refl, ap, sym, subst, ◌∙◌, arith, append_assoc, length-drop}
use Rattle.std.specs.Int.{w64, to_le_bytes, from_le_bytes}
use Rattle.std.proofs.lemmas.Nat.{le_bytes_8}
use Rattle.std.proofs.lemmas.List.{get_or-take, get_or-drop, take_all, take-append-drop, length-take-le}
use Rattle.el_outside.specs.Disk.{Image}
use Rattle.el_redo.proofs.BodyLemmas.{eight_are}
use Rattle.el_redone.specs.Redone.{IsClosed, record_bytes}
use Rattle.el_redo.specs.declared.faults.OpenFault.TheVariants as fault
use Rattle.el_pages.specs.declared.layout.Layout.{Layout}
use Rattle.el_pages.specs.Layouts.{redo_of}
use Rattle.el_recovery.specs.Checks.{IsGateOpen, length_told, bad_index}

-- a fault by its numbers
pub fault_is : {f g w v x y : ℕ} → f ≡ g → w ≡ v → x ≡ y → fault.BadIndex f w x ≡ bad_index (g, v, y)
fault_is {f} {g} {w} {v} {x} {y} files wanted found =
    ap (λ n. fault.BadIndex n w x) files ∙ ap (λ n. fault.BadIndex g n x) wanted ∙ ap (λ n. fault.BadIndex g v n) found

-- the number in the bytes behind the first
abbrev pub eight_of : List ℕ → List ℕ
eight_of front = get_or front 1 0 ∷ get_or front 2 0 ∷ get_or front 3 0 ∷ get_or front 4 0 ∷ get_or front 5 0 ∷ get_or front 6 0 ∷ get_or front 7 0 ∷ get_or front 8 0 ∷ []

module _ (file front : List ℕ) (size : ℕ) (long : length file ≡ size) (two : 2 ≤ size) (same : take (min 9 size) front ≡ take (min 9 size) file) where
  gate_is : get_or file 0 0 ≡ get_or front 0 0
  gate_is = sym (get_or-take (min 9 size) file 0 0 (omega arith)) ∙ ap (λ (l : List ℕ). get_or l 0 0) (sym same) ∙ get_or-take (min 9 size) front 0 0 (omega arith)

  pub is_shut : get_or front 0 0 ≢ 1 → IsClosed file
  is_shut ne = shut file (omega (arith, long, two)) (λ e. ne (sym gate_is ∙ e))
    where
      shut : (l : List ℕ) → 2 ≤ length l → get_or l 0 0 ≢ 1 → IsClosed l
      shut [] le ne = absurd (omega (arith, le))
      shut (x ∷ rest) le ne = record { gate = x; rest = rest; is = refl; closed = ne }

  pub is_open : get_or front 0 0 ≡ 1 → IsGateOpen file
  is_open is = opened file (omega (arith, long, two)) (gate_is ∙ is)
    where
      opened : (l : List ℕ) → 2 ≤ length l → get_or l 0 0 ≡ 1 → IsGateOpen l
      opened [] le is = absurd (omega (arith, le))
      opened (x ∷ rest) le is = (rest, ap (λ h. h ∷ rest) is, le)

  module _ (nine : length front ≡ 9) (enough : 9 ≤ size) where
    front_is : front ≡ take 9 file
    front_is =
        let least : min 9 size ≡ 9 = omega (arith, enough) in
        sym (take_all 9 front (omega (arith, nine))) ∙ ap (λ n. take n front) (sym least) ∙ same ∙ ap (λ n. take n file) least

    eight_is : eight_of front ≡ drop 1 front
    eight_is = eight front nine
      where
        eight : (l : List ℕ) → length l ≡ 9 → eight_of l ≡ drop 1 l
        eight [] e = absurd (omega (arith, e))
        eight (x ∷ rest) e = eight_are rest (omega (arith, e))

    told_bytes : take 8 (drop 1 file) ≡ eight_of front
    told_bytes = behind file ∙ ap (λ (l : List ℕ). drop 1 l) (sym front_is) ∙ sym eight_is
      where
        behind : (l : List ℕ) → take 8 (drop 1 l) ≡ drop 1 (take 9 l)
        behind [] = refl
        behind (x ∷ rest) = refl

    pub length_is : (n : ℕ) → n ≡ from_le_bytes w64 (eight_of front) → length_told file ≡ n
    length_is n is = ap (λ (l : List ℕ). from_le_bytes w64 l) told_bytes ∙ sym is

    pub record_there : (n : ℕ) → n ≡ from_le_bytes w64 (eight_of front) → ((i : ℕ) → get_or front i 0 < 256) → get_or front 0 0 ≡ 1 → n ≤ size - 9
        → (body stale : List ℕ) × (length body ≡ n) × (file ≡ 1 ∷ (record_bytes body ++ stale))
    unfolding record_bytes
    record_there n is small gate fits =
        let body = take n (drop 9 file) in
        let stale = drop n (drop 9 file) in
        let sized : length body ≡ n = length-take-le n (drop 9 file) (omega (arith, length-drop 9 file, long, fits)) in
        let bytes : to_le_bytes w64 n ≡ eight_of front = le_bytes_8 (eight_of front) n refl (λ i. few i (small (1 + i))) is in
        let head : take 9 file ≡ 1 ∷ eight_of front = sym front_is ∙ whole front nine gate in (
          body,
          stale,
          sized,
          sym (take-append-drop 9 file)
              ∙ ap (λ (l : List ℕ). l ++ drop 9 file) head
              ∙ ap (λ (l : List ℕ). 1 ∷ (l ++ drop 9 file)) (sym bytes)
              ∙ ap (λ (l : List ℕ). 1 ∷ (to_le_bytes w64 n ++ l)) (sym (take-append-drop n (drop 9 file)))
              ∙ ap (λ (l : List ℕ). 1 ∷ l) (sym (append_assoc (to_le_bytes w64 n) body stale))
              ∙ ap (λ k. 1 ∷ ((to_le_bytes w64 k ++ body) ++ stale)) (sym sized),
        )
      where
        few : (i : ℕ) → get_or front (1 + i) 0 < 256 → get_or (eight_of front) i 0 < 256
        few i lt = omega (arith, lt, ap (λ (l : List ℕ). get_or l i 0) eight_is, get_or-drop 1 front i 0)

        whole : (l : List ℕ) → length l ≡ 9 → get_or l 0 0 ≡ 1 → l ≡ 1 ∷ eight_of l
        whole [] e is = absurd (omega (arith, e))
        whole (x ∷ rest) e is = ap (λ h. h ∷ rest) is ∙ ap (λ (r : List ℕ). 1 ∷ r) (sym (eight_are rest (omega (arith, e))))

-- what was read of a redo file's front
pub front_there : (l : Layout) (seen now : Image) (redo size : ℕ) (front : List ℕ) → redo ≡ redo_of l → now ≡ seen → length (seen (redo_of l)) ≡ size
    → (size ≤ length (now redo) → take (min 9 (size - 0)) front ≡ take (min 9 (size - 0)) (now redo)) → take (min 9 size) front ≡ take (min 9 size) (seen (redo_of l))
front_there l seen now redo size front at same long said =
    let there : now redo ≡ seen (redo_of l) = ap (λ (s : Image). s redo) same ∙ ap seen at in
    let less : size - 0 ≡ size = omega arith in
    subst (λ n. take (min 9 n) front ≡ take (min 9 n) (seen (redo_of l))) less
    (said (omega (arith, long, ap (λ (b : List ℕ). length b) there)) ∙ ap (λ (b : List ℕ). take (min 9 (size - 0)) b) there)
