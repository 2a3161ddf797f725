-- Bytes that are written in parts.
use Rattle.std.proofs.Common.{◌≡◌, ⊎_elim, inl, inr, ◌∙◌, ◌≤◌, ◌+◌, ◌-◌, ℕ, List, ◌++◌, length, take, drop, ap, sym, arith, length-append, append_assoc, append-nil}
use Rattle.std.proofs.lemmas.List.{length-take-le, take_all, take_at, drop_at, drop-drop, take-append-drop}
use Rattle.std.proofs.Math.Seq.{take-add}
use Rattle.el_outside.specs.Disk.{over, Torn, Cut}
use Rattle.el_outside.proofs.Bytes.{length-over}

-- a write, and one of the rest of it
pub torn_rest : (at n done here rest : ℕ) → done ≤ n → here ≡ at + done → rest ≡ n - done
    → (a b c : List ℕ) → Torn at n a b → Torn here rest b c → Torn at n a c
torn_rest at n done here rest le is left a b c first second = record {
  same = λ k out. ⊎_elim
      (λ lt. second.same k (inl (omega (arith, lt, is))) ∙ first.same k (inl lt))
      (λ ge. second.same k (inr (omega (arith, ge, le, is, left))) ∙ first.same k (inr ge)) out;
  no_shorter = omega (arith, first.no_shorter, second.no_shorter);
  no_longer = omega (arith, le, is, left, first.no_longer, second.no_longer);
}

pub cut_not : (n : ℕ) (old : List ℕ) → Cut n old old
cut_not n old = record { front = sym (take_all (length old) old (omega arith)); no_shorter = omega arith }

pub over_none : (old : List ℕ) (at : ℕ) (bytes : List ℕ) → over old at (take 0 bytes) ≡ old
over_none old at bytes = ap (λ (l : List ℕ). l ++ drop (at + 0) old) (append-nil (take at old))
    ∙ ap (λ n. take at old ++ drop n old) (omega arith) ∙ take-append-drop at old

pub over_more : (old : List ℕ) (at : ℕ) (x y : List ℕ) → at ≤ length old → over (over old at x) (at + length x) y ≡ over old at (x ++ y)
over_more old at x y le =
    let front = take at old ++ x in
    let back = drop (at + length x) old in
    let long : length front ≡ at + length x = length-append (take at old) x ∙ ap (λ n. n + length x) (length-take-le at old le) in
    let taken : take (at + length x) (front ++ back) ≡ front = take_at front back (at + length x) long in
    let left : drop (at + length x + length y) (front ++ back) ≡ drop (at + length (x ++ y)) old =
    sym (drop-drop (length y) (at + length x) (front ++ back))
    ∙ ap (λ (l : List ℕ). drop (length y) l) (drop_at front back (at + length x) long)
    ∙ drop-drop (length y) (at + length x) old
    ∙ ap (λ n. drop n old) (omega (arith, length-append x y)) in
    ap (λ (l : List ℕ). (l ++ y) ++ drop (at + length x + length y) (front ++ back)) taken
    ∙ ap (λ (l : List ℕ). (front ++ y) ++ l) left
    ∙ ap (λ (l : List ℕ). l ++ drop (at + length (x ++ y)) old) (append_assoc (take at old) x y)

-- n bytes more of the same
pub over_rest : (old mid new : List ℕ) (at done n here : ℕ) (bytes rest : List ℕ) → at ≤ length old → done ≤ length bytes
    → here ≡ at + done → rest ≡ drop done bytes → mid ≡ over old at (take done bytes) → new ≡ over mid here (take n rest)
    → new ≡ over old at (take (done + n) bytes)
over_rest old mid new at done n here bytes rest le within is left so_far written =
    let long : length (take done bytes) ≡ done = length-take-le done bytes within in
    written ∙ ap (λ (l : List ℕ). over l here (take n rest)) so_far
    ∙ ap (λ h. over (over old at (take done bytes)) h (take n rest)) (is ∙ ap (λ d. at + d) (sym long))
    ∙ over_more old at (take done bytes) (take n rest) le
    ∙ ap (over old at) (ap (λ (l : List ℕ). take done bytes ++ take n l) left ∙ sym (take-add done n bytes))

-- where the next part starts
pub reached : (old now : List ℕ) (at done here : ℕ) (bytes : List ℕ) → at ≤ length old → done ≤ length bytes
    → here ≡ at + done → now ≡ over old at (take done bytes) → here ≤ length now
reached old now at done here bytes le within is so_far = rw so_far
    (omega (arith, is, length-over old at (take done bytes) le, length-take-le done bytes within))

-- all of it
pub over_all : (old now : List ℕ) (at done : ℕ) (bytes : List ℕ) → length bytes ≤ done → now ≡ over old at (take done bytes)
    → now ≡ over old at bytes
over_all old now at done bytes le so_far = so_far ∙ ap (over old at) (take_all done bytes le)
