-- Bytes put behind the gate, through a buffer.
use Rattle.std.proofs.Common.{◌≡◌, ℕ, zero, suc, ◌+◌, ◌-◌, ◌≤◌, List, [], ◌∷◌, ◌++◌, length, take, drop, sym, ◌∙◌, ap, arith, append-nil, append_assoc, length-append, length-drop, length-take}
use Rattle.std.proofs.lemmas.List.{take_at, drop_at, take-append-drop, length-take-le}
use Rattle.std.specs.Int.{w64, to_le_bytes}
use Rattle.el_outside.specs.Disk.{over}
use Rattle.el_outside.proofs.Bytes.{length-over}
use Rattle.el_redone.specs.Redone.{record_bytes}
use Rattle.el_pages.specs.within.Staging.{behind, written_so_far}

-- a write at the place where they end
pub behind_over : (file : List ℕ) (at : ℕ) (x : List ℕ) (end : ℕ) → 1 ≤ at → at ≤ length file → end ≡ at + length x → behind (over file at x) end ≡ behind file at ++ x
behind_over [] at x end low le is = absurd (omega (arith, low, le))
behind_over (g ∷ rest) zero x end low le is = absurd (omega (arith, low))
behind_over (g ∷ rest) (suc a) x end low le is =
    let front = take a rest ++ x in
    let long : length front ≡ end - 1 = length-append (take a rest) x ∙ ap (λ n. n + length x) (length-take-le a rest (omega (arith, le))) ∙ (let e : a + length x ≡ end - 1 = omega (arith, is) in e) in
    take_at front (drop (suc a + length x) (g ∷ rest)) (end - 1) long
    ∙ ap (λ n. take n rest ++ x) (let e : a ≡ suc a - 1 = omega arith in e)

-- the buffer is written
pub flushed : (file buffer : List ℕ) (at used end : ℕ) → 1 ≤ at → at ≤ length file → used ≤ length buffer → end ≡ at + used → behind (over file at (take used buffer)) end ≡ written_so_far file at buffer used
flushed file buffer at used end low le filled is = behind_over file at (take used buffer) end low le (omega (arith, is, length-take-le used buffer filled))

-- nothing waits in it then
pub none_waits : (file buffer : List ℕ) (at used : ℕ) → used ≡ 0 → written_so_far file at buffer used ≡ behind file at
none_waits file buffer at used none = ap (λ n. behind file at ++ take n buffer) none ∙ append-nil (behind file at)

-- bytes are copied into it
pub copied : (file old new bytes : List ℕ) (at used : ℕ) → take (used + length bytes) new ≡ take used old ++ bytes
    → written_so_far file at new (used + length bytes) ≡ written_so_far file at old used ++ bytes
copied file old new bytes at used put = ap (λ (l : List ℕ). behind file at ++ l) put ∙ sym (append_assoc (behind file at) (take used old) bytes)

pub long_after : (file new : List ℕ) (at used end : ℕ) (buffer : List ℕ) → at ≤ length file → used ≤ length buffer → end ≡ at + used → new ≡ over file at (take used buffer) → end ≤ length new
long_after file new at used end buffer le filled is put =
    omega (arith, is, ap (λ (l : List ℕ). length l) put, length-over file at (take used buffer) le, length-take-le used buffer filled)

-- a file whose bytes behind the gate are these
pub parts : (file : List ℕ) (at : ℕ) → 1 ≤ length file → (gate : ℕ) × (file ≡ gate ∷ (behind file at ++ drop (at - 1) (drop 1 file)))
parts [] at le = absurd (omega (arith, le))
parts (g ∷ rest) at le = (g, ap (λ (l : List ℕ). g ∷ l) (sym (take-append-drop (at - 1) rest)))

-- how many bytes stand behind the gate up to a place
length-behind : (file : List ℕ) (at : ℕ) → 1 ≤ at → at ≤ length file → length (behind file at) + 1 ≡ at
length-behind file at low le = omega (arith, length-take (at - 1) (drop 1 file), length-drop 1 file)

-- a body after eight bytes of room
pub body_put : (file : List ℕ) (end n : ℕ) (zeros meta ch : List ℕ) → 1 ≤ end → end ≤ length file → length zeros ≡ 8 → behind file end ≡ (zeros ++ meta) ++ ch → n ≡ end - 9
    → (9 + n ≤ length file) × ((room : List ℕ) × (length room ≡ 8) × (behind file (9 + n) ≡ room ++ (meta ++ ch)))
body_put file end n zeros meta ch low le eight is sized =
    let whole : length (behind file end) ≡ 8 + length meta + length ch = ap (λ (l : List ℕ). length l) is ∙ length-append (zeros ++ meta) ch ∙ ap (λ k. k + length ch) (length-append zeros meta ∙ ap (λ k. k + length meta) eight) in
    let end_is : end ≡ 9 + n = omega (arith, sized, whole, length-behind file end low le) in (
      omega (arith, end_is, le),
      (zeros, eight, ap (λ m. behind file m) (sym end_is) ∙ is ∙ append_assoc zeros meta ch),
    )

-- the length is written over the room before the body
pub length_put : (file new room body : List ℕ) (n : ℕ) → 9 + n ≤ length file → length room ≡ 8 → behind file (9 + n) ≡ room ++ body → new ≡ over file 1 (to_le_bytes w64 n)
    → (gate : ℕ) × (stale : List ℕ) × (new ≡ gate ∷ (record_bytes body ++ stale))
unfolding record_bytes
length_put [] new room body n le long is put = absurd (omega (arith, le))
length_put (g ∷ rest) new room body n le long is put =
    let stale = drop (9 + n - 1) rest in
    let number = to_le_bytes w64 n in
    let sized : n ≡ length body = omega (arith, length-behind (g ∷ rest) (9 + n) (omega arith) le, ap (λ (l : List ℕ). length l) is, length-append room body, long) in
    let split : rest ≡ (room ++ body) ++ stale = sym (take-append-drop (9 + n - 1) rest) ∙ ap (λ (l : List ℕ). l ++ stale) is in
    let after : drop 8 rest ≡ body ++ stale = ap (λ (l : List ℕ). drop 8 l) (split ∙ append_assoc room body stale) ∙ drop_at room (body ++ stale) 8 long in (
      g,
      stale,
      put ∙ ap (λ (l : List ℕ). g ∷ (number ++ l)) after ∙ ap (λ (l : List ℕ). g ∷ l) (sym (append_assoc number body stale)) ∙ ap (λ m. g ∷ ((to_le_bytes w64 m ++ body) ++ stale)) sized,
    )
