-- A CompactSize is read where it is encoded, and nowhere else.
use Rattle.std.proofs.Common.{◌≡◌, ◌⊎◌, inl, inr, ℕ, ◌+◌, ◌<◌, ◌≤◌, ◌^◌, Bool, true, false, cond, List, [], ◌∷◌, ◌++◌, length, take, drop, Result, Ok, Err, refl, sym, ap, subst, ◌∙◌, arith, ltb-false, le-ltb, lt-ltb, ltb-true, eqb-true, ◌==◌, length-append, nat_lt}
use Rattle.std.specs.Int.{Width, w16, w32, w64, byte_len, from_le_bytes, to_le_bytes}
use Rattle.std.proofs.lemmas.Bool.{eqb-false, cases_Bool}
use Rattle.std.proofs.lemmas.Nat.{le_bytes_2, le_bytes_4, le_bytes_8, from_le_bytes-to_le_bytes_2, from_le_bytes-to_le_bytes_4, from_le_bytes-to_le_bytes_8}
use Rattle.std.proofs.lemmas.List.{take_at, take-append-drop, length-take-le}
use Rattle.el_base.specs.Left.{AreBytes}
use Rattle.el_base.specs.Compact as spec
use Rattle.el_base.specs.Compact.{EncodesCompact, compact, EndsInCompact, BeginsLong, FirstCompactFault}
use Rattle.el_base.specs.CompactReading.{number_at, wide_at, width_of}
use Rattle.el_base.specs.declared.compact.CompactFault.{CompactFault}
use Rattle.el_base.specs.declared.compact.CompactFault.TheVariants.{Short, LongSpelling}
use Rattle.el_base.proofs.ByteLemmas.{tail_bytes, front_bytes, below_2, below_4, below_8}

chosen : {A : Type 0} (b : Bool) (x y z : A) → cond b x y ≡ z → ((b ≡ true) × (x ≡ z)) ⊎ ((b ≡ false) × (y ≡ z))
chosen true x y z e = inl (refl, e)
chosen false x y z e = inr (refl, e)

-- a byte that is none of those before
last_byte : (b : ℕ) → nat_lt b 253 ≡ false → b == 253 ≡ false → b == 254 ≡ false → b < 256 → b ≡ 255
last_byte b h k m lt =
    let le = ltb-false b 253 h in
    let x = eqb-false b 253 k in
    let y = eqb-false b 254 m in
    omega arith

ok_is : {A E : Type 0} (x y : A) → ◌≡◌ {A = Result A E} (Ok x) (Ok y) → x ≡ y
ok_is x y e = cc

err_is : {A E : Type 0} (x y : E) → ◌≡◌ {A = Result A E} (Err x) (Err y) → x ≡ y
err_is x y e = cc

cons_both : (a b : ℕ) (xs ys : List ℕ) → a ≡ b → xs ≡ ys → a ∷ xs ≡ b ∷ ys
cons_both a b xs ys p q = rw (p, q) refl

rejoined : (k : ℕ) (text rest : List ℕ) → text ≡ take k rest → rest ≡ text ++ drop k rest
rejoined k text rest is = sym (take-append-drop k rest) ∙ ap (λ (t : List ℕ). t ++ drop k rest) (sym is)

-- the parts of a wide number
pub record Wide (w : Width) (least : ℕ) (rest : List ℕ) (n : ℕ) : Type 0 where
  pub long : byte_len w ≤ length rest
  pub above : least ≤ n
  pub value : from_le_bytes w (take (byte_len w) rest) ≡ n

wide_takes : (place : ℕ) (w : Width) (least : ℕ) (rest : List ℕ) (n : ℕ) → wide_at place w least rest ≡ Ok n → Wide w least rest n
wide_takes place w least rest n e =
    elim (chosen (nat_lt (length rest) (byte_len w)) _ _ _ e) [
      | inl h ↦ absurd (let k = h.1 in cc)
      | inr h ↦ elim (chosen (nat_lt (from_le_bytes w (take (byte_len w) rest)) least) _ _ _ h.1) [
        | inl k ↦ absurd (let m = k.1 in cc)
        | inr k ↦
            let same = ok_is _ _ k.1 in
            record { long = ltb-false (length rest) (byte_len w) h.0; above = rw (← same) (ltb-false _ least k.0); value = same }
      ]
    ]

-- the parts of a fault
wide_faults : (place : ℕ) (w : Width) (least : ℕ) (rest : List ℕ) (f : CompactFault) → wide_at place w least rest ≡ Err f
    → ((length rest < byte_len w) × (f ≡ Short place))
    ⊎ ((byte_len w ≤ length rest) × (from_le_bytes w (take (byte_len w) rest) < least) × (f ≡ LongSpelling place))
wide_faults place w least rest f e =
    elim (chosen (nat_lt (length rest) (byte_len w)) _ _ _ e) [
      | inl h ↦ inl (ltb-true (length rest) (byte_len w) h.0, sym (err_is _ _ h.1))
      | inr h ↦ elim (chosen (nat_lt (from_le_bytes w (take (byte_len w) rest)) least) _ _ _ h.1) [
        | inl k ↦ inr (ltb-false (length rest) (byte_len w) h.0, ltb-true _ least k.0, sym (err_is _ _ k.1))
        | inr k ↦ absurd (let m = k.1 in cc)
      ]
    ]

wide_again : (place : ℕ) (w : Width) (least : ℕ) (text rest : List ℕ) (n : ℕ) → length text ≡ byte_len w → from_le_bytes w text ≡ n → least ≤ n
    → wide_at place w least (text ++ rest) ≡ Ok n
wide_again place w least text rest n l v above =
    let enough : nat_lt (length (text ++ rest)) (byte_len w) ≡ false = le-ltb (length (text ++ rest)) (byte_len w) (simp length-append (omega arith)) in
    rw (enough, take_at text rest (byte_len w) l, v, le-ltb n least above) refl

wide_long : (place : ℕ) (w : Width) (least : ℕ) (text rest : List ℕ) (n : ℕ) → length text ≡ byte_len w → from_le_bytes w text ≡ n → n < least
    → wide_at place w least (text ++ rest) ≡ Err (LongSpelling place)
wide_long place w least text rest n l v below =
    let enough : nat_lt (length (text ++ rest)) (byte_len w) ≡ false = le-ltb (length (text ++ rest)) (byte_len w) (simp length-append (omega arith)) in
    rw (enough, take_at text rest (byte_len w) l, v, lt-ltb n least below) refl

wide_short : (place : ℕ) (w : Width) (least : ℕ) (rest : List ℕ) → length rest < byte_len w → wide_at place w least rest ≡ Err (Short place)
wide_short place w least rest lt = rw (lt-ltb (length rest) (byte_len w) lt) refl

-- each number below 2 ^ 64 has an encoding, and no other
pub encoded : (n : ℕ) → n < 2 ^ 64 → EncodesCompact (compact n) n
unfolding compact
encoded n lt =
    elim (cases_Bool (nat_lt n 253)) [
      | inl h ↦ spec.one (ltb-true n 253 h) (rw h refl)
      | inr h ↦ elim (cases_Bool (nat_lt n (2 ^ 16))) [
        | inl k ↦ spec.two (ltb-false n 253 h) (ltb-true n (2 ^ 16) k) (rw (h, k) refl)
        | inr k ↦ elim (cases_Bool (nat_lt n (2 ^ 32))) [
          | inl m ↦ spec.four (ltb-false n (2 ^ 16) k) (ltb-true n (2 ^ 32) m) (rw (h, k, m) refl)
          | inr m ↦ spec.eight (ltb-false n (2 ^ 32) m) lt (rw (h, k, m) refl)
        ]
      ]
    ]

pub only_encoding : (bytes : List ℕ) (n : ℕ) → EncodesCompact bytes n → (n < 2 ^ 64) × (bytes ≡ compact n)
unfolding compact
only_encoding bytes n (spec.one lt is) = (omega arith, rw (is, lt-ltb n 253 lt) refl)
only_encoding bytes n (spec.two le lt is) = (omega arith, rw (is, le-ltb n 253 le, lt-ltb n (2 ^ 16) lt) refl)
only_encoding bytes n (spec.four le lt is) = (omega arith, rw (is, le-ltb n 253 (omega arith), le-ltb n (2 ^ 16) le, lt-ltb n (2 ^ 32) lt) refl)
only_encoding bytes n (spec.eight le lt is) =
    (lt, rw (is, le-ltb n 253 (omega arith), le-ltb n (2 ^ 16) (omega arith), le-ltb n (2 ^ 32) le) refl)

-- what is read is encoded so
pub takes : (place : ℕ) (bytes : List ℕ) (n : ℕ) → AreBytes bytes → number_at place bytes ≡ Ok n
    → (text : List ℕ) × EncodesCompact text n × (bytes ≡ text ++ drop (width_of bytes) bytes) × (length text ≡ width_of bytes)
unfolding number_at
takes place [] n all e = absurd cc
takes place (b ∷ rest) n all e =
    elim (chosen (nat_lt b 253) _ _ _ e) [
      | inl h ↦
          let same = ok_is _ _ h.1 in
          (n ∷ [], spec.one (rw (← same) (ltb-true b 253 h.0)) refl, rw (h.0, same) refl, rw h.0 refl)
      | inr h ↦ elim (chosen (b == 253) _ _ _ h.1) [
        | inl k ↦
            let w = wide_takes place w16 253 rest n k.1 in
            let fits = front_bytes 2 rest (tail_bytes b rest all) in
            let is : to_le_bytes w16 n ≡ take 2 rest = le_bytes_2 (take 2 rest) n (length-take-le 2 rest w.long) fits (sym w.value) in (
              253 ∷ to_le_bytes w16 n,
              spec.two w.above (rw (← w.value) (below_2 (take 2 rest) fits)) refl,
              rw (h.0, k.0) (cons_both b 253 rest (to_le_bytes w16 n ++ drop 2 rest) (eqb-true b 253 k.0) (rejoined 2 _ rest is)),
              rw (h.0, k.0) refl,
            )
        | inr k ↦ elim (chosen (b == 254) _ _ _ k.1) [
          | inl m ↦
              let w = wide_takes place w32 (2 ^ 16) rest n m.1 in
              let fits = front_bytes 4 rest (tail_bytes b rest all) in
              let is : to_le_bytes w32 n ≡ take 4 rest = le_bytes_4 (take 4 rest) n (length-take-le 4 rest w.long) fits (sym w.value) in (
                254 ∷ to_le_bytes w32 n,
                spec.four w.above (rw (← w.value) (below_4 (take 4 rest) fits)) refl,
                rw (h.0, k.0, m.0) (cons_both b 254 rest (to_le_bytes w32 n ++ drop 4 rest) (eqb-true b 254 m.0) (rejoined 4 _ rest is)),
                rw (h.0, k.0, m.0) refl,
              )
          | inr m ↦
              let w = wide_takes place w64 (2 ^ 32) rest n m.1 in
              let fits = front_bytes 8 rest (tail_bytes b rest all) in
              let is : to_le_bytes w64 n ≡ take 8 rest = le_bytes_8 (take 8 rest) n (length-take-le 8 rest w.long) fits (sym w.value) in (
                255 ∷ to_le_bytes w64 n,
                spec.eight w.above (rw (← w.value) (below_8 (take 8 rest) fits)) refl,
                rw (h.0, k.0, m.0) (cons_both b 255 rest (to_le_bytes w64 n ++ drop 8 rest) (last_byte b h.0 k.0 m.0 (all 0)) (rejoined 8 _ rest is)),
                rw (h.0, k.0, m.0) refl,
              )
        ]
      ]
    ]

-- what is encoded so is read
pub again : (place : ℕ) (text rest : List ℕ) (n : ℕ) → EncodesCompact text n → number_at place (text ++ rest) ≡ Ok n
unfolding number_at
again place text rest n (spec.one lt is) = rw (is, lt-ltb n 253 lt) refl
again place text rest n (spec.two le lt is) =
    rw is (wide_again place w16 253 (to_le_bytes w16 n) rest n refl (from_le_bytes-to_le_bytes_2 n lt) le)
again place text rest n (spec.four le lt is) =
    rw is (wide_again place w32 (2 ^ 16) (to_le_bytes w32 n) rest n refl (from_le_bytes-to_le_bytes_4 n lt) le)
again place text rest n (spec.eight le lt is) =
    rw is (wide_again place w64 (2 ^ 32) (to_le_bytes w64 n) rest n refl (from_le_bytes-to_le_bytes_8 n lt) le)

-- a number in too many bytes is refused
pub refuses_long : (place : ℕ) (bytes : List ℕ) → BeginsLong bytes → number_at place bytes ≡ Err (LongSpelling place)
unfolding number_at
refuses_long place bytes (spec.two n rest lt is) =
    rw is (wide_long place w16 253 (to_le_bytes w16 n) rest n refl (from_le_bytes-to_le_bytes_2 n (omega arith)) lt)
refuses_long place bytes (spec.four n rest lt is) =
    rw is (wide_long place w32 (2 ^ 16) (to_le_bytes w32 n) rest n refl (from_le_bytes-to_le_bytes_4 n (omega arith)) lt)
refuses_long place bytes (spec.eight n rest lt is) =
    rw is (wide_long place w64 (2 ^ 32) (to_le_bytes w64 n) rest n refl (from_le_bytes-to_le_bytes_8 n (omega arith)) lt)

-- bytes that end within a number are refused
pub refuses_short : (place : ℕ) (bytes : List ℕ) → EndsInCompact bytes → number_at place bytes ≡ Err (Short place)
unfolding number_at
refuses_short place [] ends = refl
refuses_short place (b ∷ rest) (inl h) = rw h.0 (wide_short place w16 253 rest h.1)
refuses_short place (b ∷ rest) (inr (inl h)) = rw h.0 (wide_short place w32 (2 ^ 16) rest h.1)
refuses_short place (b ∷ rest) (inr (inr h)) = rw h.0 (wide_short place w64 (2 ^ 32) rest h.1)

-- what is refused has that fault
pub first_fault : (place : ℕ) (bytes : List ℕ) (f : CompactFault) → AreBytes bytes → number_at place bytes ≡ Err f → FirstCompactFault place bytes f
unfolding number_at
first_fault place [] f all e = let is : Short place ≡ f = err_is _ _ e in subst (FirstCompactFault place []) is (tt, refl)
first_fault place (b ∷ rest) f all e =
    elim (chosen (nat_lt b 253) _ _ _ e) [
      | inl h ↦ absurd (let m = h.1 in cc)
      | inr h ↦ elim (chosen (b == 253) _ _ _ h.1) [
        | inl k ↦ elim (wide_faults place w16 253 rest f k.1) [
          | inl s ↦ rw s.1 (inl (eqb-true b 253 k.0, s.0), refl)
          | inr s ↦
              let fits = front_bytes 2 rest (tail_bytes b rest all) in
              let is : to_le_bytes w16 (from_le_bytes w16 (take 2 rest)) ≡ take 2 rest = le_bytes_2 (take 2 rest) _ (length-take-le 2 rest s.0) fits refl in
              rw s.2 (
                spec.two (from_le_bytes w16 (take 2 rest)) (drop 2 rest) s.1
                    (cons_both b 253 rest (to_le_bytes w16 (from_le_bytes w16 (take 2 rest)) ++ drop 2 rest) (eqb-true b 253 k.0) (rejoined 2 _ rest is)),
                refl,
              )
        ]
        | inr k ↦ elim (chosen (b == 254) _ _ _ k.1) [
          | inl m ↦ elim (wide_faults place w32 (2 ^ 16) rest f m.1) [
            | inl s ↦ rw s.1 (inr (inl (eqb-true b 254 m.0, s.0)), refl)
            | inr s ↦
                let fits = front_bytes 4 rest (tail_bytes b rest all) in
                let is : to_le_bytes w32 (from_le_bytes w32 (take 4 rest)) ≡ take 4 rest = le_bytes_4 (take 4 rest) _ (length-take-le 4 rest s.0) fits refl in
                rw s.2 (
                  spec.four (from_le_bytes w32 (take 4 rest)) (drop 4 rest) s.1
                      (cons_both b 254 rest (to_le_bytes w32 (from_le_bytes w32 (take 4 rest)) ++ drop 4 rest) (eqb-true b 254 m.0) (rejoined 4 _ rest is)),
                  refl,
                )
          ]
          | inr m ↦ elim (wide_faults place w64 (2 ^ 32) rest f m.1) [
            | inl s ↦ rw s.1 (inr (inr (last_byte b h.0 k.0 m.0 (all 0), s.0)), refl)
            | inr s ↦
                let fits = front_bytes 8 rest (tail_bytes b rest all) in
                let is : to_le_bytes w64 (from_le_bytes w64 (take 8 rest)) ≡ take 8 rest = le_bytes_8 (take 8 rest) _ (length-take-le 8 rest s.0) fits refl in
                rw s.2 (
                  spec.eight (from_le_bytes w64 (take 8 rest)) (drop 8 rest) s.1
                      (cons_both b 255 rest (to_le_bytes w64 (from_le_bytes w64 (take 8 rest)) ++ drop 8 rest) (last_byte b h.0 k.0 m.0 (all 0)) (rejoined 8 _ rest is)),
                  refl,
                )
          ]
        ]
      ]
    ]

-- as many bytes are there as encode it
pub wide_enough : (place : ℕ) (bytes : List ℕ) (n : ℕ) → AreBytes bytes → number_at place bytes ≡ Ok n → width_of bytes ≤ length bytes
wide_enough place bytes n all e =
    let t = takes place bytes n all e in
    let whole = ap length t.2 in
    let size = t.3 in
    let joined = length-append t.0 (drop (width_of bytes) bytes) in
    omega arith

-- the encoding was passed
pub passed : (place : ℕ) (bytes : List ℕ) (n : ℕ) → AreBytes bytes → number_at place bytes ≡ Ok n
    → EncodesCompact (compact n) n × (bytes ≡ compact n ++ drop (width_of bytes) bytes) × (place + width_of bytes ≡ place + length (compact n))
passed place bytes n all e =
    let t = takes place bytes n all e in
    let only = only_encoding t.0 n t.1 in
    (encoded n only.0, t.2 ∙ ap (λ (text : List ℕ). text ++ drop (width_of bytes) bytes) only.1, ap (λ k. place + k) (sym t.3 ∙ ap length only.1))
