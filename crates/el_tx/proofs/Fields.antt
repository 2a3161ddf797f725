-- Fields: what is read is encoded so or has that fault, what is encoded so is read, and what has a fault is refused with it.
use Rattle.std.proofs.Common.{◌≡◌, ℕ, ◌+◌, ◌<◌, ◌^◌, false, List, ◌++◌, length, take, drop, Result, Ok, Err, refl, sym, ap, subst, ◌∙◌, length-append, arith, ltb-false, le-ltb, lt-ltb, ltb-true, nat_lt}
use Rattle.std.specs.Int.{Width, w32, w64, byte_len, from_le_bytes, to_le_bytes}
use Rattle.std.proofs.lemmas.List.{take_at, drop_at, take-append-drop, length-take-le}
use Rattle.std.proofs.lemmas.Nat.{le_bytes_4, le_bytes_8, from_le_bytes-to_le_bytes_4, from_le_bytes-to_le_bytes_8}
use Rattle.el_base.specs.Left.{Left, AreBytes}
use Rattle.el_base.specs.Left as left_of
use Rattle.el_base.specs.Compact.{compact, EncodesCompact, FirstCompactFault}
use Rattle.el_base.specs.Compact as spec
use Rattle.el_base.specs.CompactReading as base
use Rattle.el_base.specs.declared.compact.CompactFault.{CompactFault}
use Rattle.el_base.specs.declared.compact.CompactFault.TheVariants as number
use Rattle.el_base.proofs.CompactLemmas as lemmas
use Rattle.el_base.proofs.ByteLemmas.{bytes_after, front_bytes, below_4, below_8}
use Rattle.el_tx.specs.declared.fault.TxFault.{TxFault}
use Rattle.el_tx.specs.declared.fault.TxFault.TheVariants as fault
use Rattle.el_tx.specs.Encoding.{sized, IsItem}
use Rattle.el_tx.specs.FirstFault.{FaultInField, FaultInNumber, FaultInSized, in_number, after_number, fault_of}
use Rattle.el_tx.specs.within.Reading.{◌>>=◌, with_fault, bytes_at, number_at, count_at, sized_at}
use Rattle.el_tx.proofs.Passed.{Passed, Took, Took-then, middle, Passed-front, Passed-back, Left-is, after, stand, stand_passed, Sound, err, done, step, weaker, guarded}

-- ---- the next n bytes

pub bytes_sound : (n : ℕ) (left : Left) → AreBytes left.rest
    → Sound (bytes_at n left) (λ x. Took left x.0 x.1 × (length x.0 ≡ n) × AreBytes x.0) (FaultInField n left.place left.rest)
bytes_sound n left fits =
    guarded (nat_lt (length left.rest) n) (fault.Short left.place) (Ok (take n left.rest, left_of.after n left))
    (λ h. (ltb-true (length left.rest) n h, refl))
    (λ h.
    let enough = ltb-false (length left.rest) n h in
    let size = length-take-le n left.rest enough in
    done (take n left.rest, left_of.after n left) (
      record {
        passed = record { parts = sym (take-append-drop n left.rest); place = ap (λ (k : ℕ). left.place + k) (sym size) };
        fits = bytes_after n left.rest fits;
      },
      size,
      front_bytes n left.rest fits,
    ))

pub bytes_again : (n : ℕ) (left : Left) (text : List ℕ) (next : Left) → length text ≡ n → Passed left text next → bytes_at n left ≡ Ok (text, next)
bytes_again n left text next size p =
    let enough : nat_lt (length left.rest) n ≡ false = rw p.parts (le-ltb (length (text ++ next.rest)) n (simp length-append (omega arith))) in
    let front : take n left.rest ≡ text = rw p.parts (take_at text next.rest n size) in
    let back : drop n left.rest ≡ next.rest = rw p.parts (drop_at text next.rest n size) in
    let place : left.place + n ≡ next.place = rw (← size) (sym p.place) in
    let there : left_of.after n left ≡ next = Left-is (left_of.after n left) next place back in
    rw (enough, front, there) refl

pub bytes_refuses : (n : ℕ) (left : Left) (f : TxFault) → FaultInField n left.place left.rest f → bytes_at n left ≡ Err f
bytes_refuses n left f s = rw (lt-ltb (length left.rest) n s.0, s.1) refl

-- ---- numbers

-- numbers of a width
pub record IsWide (w : Width) (limit : ℕ) : Type 0 where
  pub len : (n : ℕ) → length (to_le_bytes w n) ≡ byte_len w
  pub back : (bytes : List ℕ) → length bytes ≡ byte_len w → AreBytes bytes → to_le_bytes w (from_le_bytes w bytes) ≡ bytes
  pub again : (n : ℕ) → n < limit → from_le_bytes w (to_le_bytes w n) ≡ n
  pub below : (bytes : List ℕ) → AreBytes bytes → from_le_bytes w bytes < limit

pub wide32 : IsWide w32 (2 ^ 32)
wide32 = record {
  len = λ n. refl;
  back = λ bytes len fits. le_bytes_4 bytes _ len fits refl;
  again = λ n lt. from_le_bytes-to_le_bytes_4 n lt;
  below = below_4;
}

pub wide64 : IsWide w64 (2 ^ 64)
wide64 = record {
  len = λ n. refl;
  back = λ bytes len fits. le_bytes_8 bytes _ len fits refl;
  again = λ n lt. from_le_bytes-to_le_bytes_8 n lt;
  below = below_8;
}

pub number_sound : (w : Width) (limit : ℕ) (wide : IsWide w limit) (left : Left) → AreBytes left.rest
    → Sound (number_at w left) (λ x. Took left (to_le_bytes w x.0) x.1 × (x.0 < limit)) (FaultInField (byte_len w) left.place left.rest)
number_sound w limit wide left fits =
    step (bytes_at (byte_len w) left) _ (bytes_sound (byte_len w) left fits)
    (λ x p. done (from_le_bytes w x.0, x.1) (
      subst (λ (text : List ℕ). Took left text x.1) (sym (wide.back x.0 p.1 p.2)) p.0,
      wide.below x.0 p.2,
    ))
    (λ e s. s)

pub number_passes : (w : Width) (left : Left) (text : List ℕ) (next : Left) → length text ≡ byte_len w → Passed left text next
    → number_at w left ≡ Ok (from_le_bytes w text, next)
number_passes w left text next size p =
    ap (λ r. r >>= λ x. Ok (from_le_bytes w x.0, x.1)) (bytes_again (byte_len w) left text next size p)

pub number_again : (w : Width) (limit : ℕ) (wide : IsWide w limit) (n : ℕ) (left next : Left) → n < limit → Passed left (to_le_bytes w n) next
    → number_at w left ≡ Ok (n, next)
number_again w limit wide n left next lt p =
    number_passes w left (to_le_bytes w n) next (wide.len n) p ∙ ap (λ k. Ok (k, next)) (wide.again n lt)

pub number_refuses : (w : Width) (left : Left) (f : TxFault) → FaultInField (byte_len w) left.place left.rest f → number_at w left ≡ Err f
number_refuses w left f s = ap (λ r. r >>= λ x. Ok (from_le_bytes w x.0, x.1)) (bytes_refuses (byte_len w) left f s)

-- ---- a CompactSize

width_again : (text rest : List ℕ) (n : ℕ) → EncodesCompact text n → base.width_of (text ++ rest) ≡ length text
width_again text rest n (spec.one lt is) = rw (is, lt-ltb n 253 lt) refl
width_again text rest n (spec.two le lt is) = rw is refl
width_again text rest n (spec.four le lt is) = rw is refl
width_again text rest n (spec.eight le lt is) = rw is refl

count_took : (left : Left) (n : ℕ) → AreBytes left.rest → base.number_at left.place left.rest ≡ Ok n
    → Took left (compact n) (left_of.after (base.width_of left.rest) left) × (n < 2 ^ 64)
count_took left n fits e =
    let p = lemmas.passed left.place left.rest n fits e in (
      record { passed = record { parts = p.1; place = p.2 }; fits = bytes_after (base.width_of left.rest) left.rest fits },
      (lemmas.only_encoding (compact n) n p.0).0,
    )

count_sound_of : (left : Left) (r : Result ℕ CompactFault) → AreBytes left.rest → base.number_at left.place left.rest ≡ r
    → Sound (with_fault (base.with_left left r)) (λ x. Took left (compact x.0) x.1 × (x.0 < 2 ^ 64)) (FaultInNumber left.place left.rest)
count_sound_of left (Ok n) fits e = done (n, left_of.after (base.width_of left.rest) left) (count_took left n fits e)
count_sound_of left (Err d) fits e = err (fault_of d) refl (d, lemmas.first_fault left.place left.rest d fits e, refl)

pub count_sound : (left : Left) → AreBytes left.rest
    → Sound (count_at left) (λ x. Took left (compact x.0) x.1 × (x.0 < 2 ^ 64)) (FaultInNumber left.place left.rest)
unfolding count_at
count_sound left fits = count_sound_of left (base.number_at left.place left.rest) fits refl

pub count_again : (n : ℕ) (left next : Left) → n < 2 ^ 64 → Passed left (compact n) next → count_at left ≡ Ok (n, next)
unfolding count_at
count_again n left next lt p =
    let encoded = lemmas.encoded n lt in
    let read : base.number_at left.place left.rest ≡ Ok n = rw p.parts (lemmas.again left.place (compact n) next.rest n encoded) in
    let width : base.width_of left.rest ≡ length (compact n) = rw p.parts (width_again (compact n) next.rest n encoded) in
    let back : drop (length (compact n)) left.rest ≡ next.rest = rw p.parts (drop_at (compact n) next.rest (length (compact n)) refl) in
    let there : left_of.after (length (compact n)) left ≡ next = Left-is (left_of.after (length (compact n)) left) next (sym p.place) back in
    let first : with_fault (base.with_left left (base.number_at left.place left.rest)) ≡ Ok (n, left_of.after (base.width_of left.rest) left) = ap (λ r. with_fault (base.with_left left r)) read in
    first ∙ ap (λ k. Ok (n, left_of.after k left)) width ∙ ap (λ l. Ok (n, l)) there

refused : (place : ℕ) (bytes : List ℕ) (d : CompactFault) → FirstCompactFault place bytes d → base.number_at place bytes ≡ Err d
refused place bytes (number.Short at_place) s = rw s.1 (lemmas.refuses_short place bytes s.0)
refused place bytes (number.LongSpelling at_place) s = rw s.1 (lemmas.refuses_long place bytes s.0)

pub count_refuses : (left : Left) (f : TxFault) → FaultInNumber left.place left.rest f → count_at left ≡ Err f
unfolding count_at
count_refuses left f s = ap (λ r. with_fault (base.with_left left r)) (refused left.place left.rest s.0 s.1) ∙ ap (λ e. Err e) (sym s.2)

-- ---- bytes after their number

pub sized_sound : (left : Left) → AreBytes left.rest → Sound (sized_at left) (λ x. Took left (sized x.0) x.1 × IsItem x.0) (FaultInSized left.place left.rest)
unfolding sized_at
sized_sound left fits =
    step (count_at left) _ (count_sound left fits)
    (λ n p. weaker (bytes_at n.0 n.1) (bytes_sound n.0 n.1 p.0.fits)
    (λ x q.
    let whole = Took-then left (compact n.0) n.1 x.0 x.1 p.0 q.0 in (
      subst (λ (k : ℕ). Took left (compact k ++ x.0) x.1) (sym q.1) whole,
      (rw q.1 p.1, q.2),
    ))
    (λ e s. after_number n.0 p.1 (after (compact n.0) (FaultInField n.0) left n.1 e p.0.passed s)))
    (λ e s. in_number s)

pub sized_again : (s : List ℕ) (left next : Left) → length s < 2 ^ 64 → Passed left (sized s) next → sized_at left ≡ Ok (s, next)
unfolding sized_at
sized_again s left next lt p =
    let mid = middle left (compact (length s)) s next in
    let first : count_at left ≡ Ok (length s, mid) = count_again (length s) left mid lt (Passed-front left (compact (length s)) s next p) in
    rw first (bytes_again (length s) mid s next refl (Passed-back left (compact (length s)) s next p))

pub sized_refuses : (left : Left) (f : TxFault) → FaultInSized left.place left.rest f → sized_at left ≡ Err f
unfolding sized_at
sized_refuses left f (in_number s) = rw (count_refuses left f s) refl
sized_refuses left f (after_number n lt b) =
    let there = stand (compact n) left b.more in
    let first : count_at left ≡ Ok (n, there) = count_again n left there lt (stand_passed (compact n) (FaultInField n) left f b) in
    rw first (bytes_refuses n there f b.next)
