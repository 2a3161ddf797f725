-- How traces go on, how counts rise, how files grow.
use Rattle.std.proofs.Common.{◌≡◌, ℕ, ◌+◌, List, [], ◌∷◌, ◌++◌, refl, sym, ◌∙◌, append_assoc, append-nil, arith, Bool, true, false, not, ◌&&◌, ◌||◌, ◌==◌, eq-eqb, IsTrue}
use Rattle.std.proofs.Math.Bool.{or-true, or-false}
use Rattle.std.proofs.lemmas.List.Folds.{list_any-append}
use Rattle.std.specs.List.{list_any}
use Rattle.el_outside.specs.Trace.{Trace, ArrivalWithBytes, opened, Message, Closing, GoesOn, opens, leaves, is_open, is_unused, is_new, was_closed}
use Rattle.el_outside.specs.declared.link.Why.{Why}
use Rattle.el_outside.specs.Counts.{RoseBy}
use Rattle.el_outside.specs.Files.{Grows, AllGrow}

-- a trace goes on by nothing
pub goes_none : (s : Trace) → GoesOn s s [] [] []
goes_none s = simp append-nil

-- a trace goes on twice
pub goes_more : (a b c : Trace) (xs ys : List ArrivalWithBytes) (ms ns : List Message) (cs ds : List Closing)
    → GoesOn a b xs ms cs → GoesOn b c ys ns ds → GoesOn a c (xs ++ ys) (ms ++ ns) (cs ++ ds)
goes_more a b c xs ys ms ns cs ds h k = let e = rw h at k in e ∙ simp append_assoc

-- counts rise together
pub rose_more : (a b c m n : ℕ) → RoseBy a b m → RoseBy b c n → RoseBy a c (m + n)
rose_more a b c m n h k = omega arith

pub rose_none : (a : ℕ) → RoseBy a a 0
rose_none a = omega arith

-- files grow by nothing, and twice
pub grows_none : (xs : List ℕ) → Grows xs xs
grows_none xs = ([], sym (append-nil xs))

pub grows_more : (xs ys zs : List ℕ) → Grows xs ys → Grows ys zs → Grows xs zs
grows_more xs ys zs (a, h) (b, k) = (a ++ b, rw (k, h) (append_assoc xs a b))

-- what stands after bytes is more of them
pub grows_by : (xs more : List ℕ) → Grows xs (xs ++ more)
grows_by xs more = (more, refl)

pub all_grow_none : (f : ℕ → List ℕ) → AllGrow f f
all_grow_none f = λ n. grows_none (f n)

pub all_grow_more : (f g h : ℕ → List ℕ) → AllGrow f g → AllGrow g h → AllGrow f h
all_grow_more f g h p q = λ n. grows_more (f n) (g n) (h n) (p n) (q n)

same_number : (p : ℕ) → p == p ≡ true
same_number p = eq-eqb p p refl

opened_open : (xs : List ArrivalWithBytes) (c : Bool) (p : ℕ) → IsTrue (not (list_any (leaves p) xs) && not c)
    → IsTrue (list_any (opens p) (xs ++ opened p ∷ []) && (not (list_any (leaves p) (xs ++ opened p ∷ [])) && not c))
opened_open xs c p unused = rw (list_any-append (opens p) xs (opened p ∷ []), list_any-append (leaves p) xs (opened p ∷ []), same_number p, or-true, or-false) unused

arrived_open : (xs : List ArrivalWithBytes) (c : Bool) (p : ℕ) (a : ArrivalWithBytes) → IsTrue (list_any (opens p) xs && (not (list_any (leaves p) xs) && not c)) → leaves p a ≡ false
    → IsTrue (list_any (opens p) (xs ++ a ∷ []) && (not (list_any (leaves p) (xs ++ a ∷ [])) && not c))
arrived_open xs c p a is stays =
    rw (list_any-append (opens p) xs (a ∷ []), list_any-append (leaves p) xs (a ∷ []), stays, or-false (list_any (leaves p) xs))
    (still (list_any (opens p) xs) (opens p a) (not (list_any (leaves p) xs) && not c) is)
  where
    still : (a b c : Bool) → IsTrue (a && c) → IsTrue ((a || (b || false)) && c)
    still true b c h = h
    still false b c h = absurd (let k = h in cc)

other_open : (o l : Bool) (cs : List Closing) (p q : ℕ) (why : Why) → IsTrue (o && (not l && not (list_any (λ (c : Closing). p == c.peer) cs))) → p == q ≡ false
    → IsTrue (o && (not l && not (list_any (λ (c : Closing). p == c.peer) (cs ++ record { peer = q; why = why } ∷ []))))
other_open o l cs p q why is other =
    rw (list_any-append (λ (c : Closing). p == c.peer) cs (record { peer = q; why = why } ∷ []), other, or-false (list_any (λ (c : Closing). p == c.peer) cs)) is

-- a new peer with an unused number is open
pub opened_is_open : (s t : Trace) (p : ℕ) → IsTrue (is_unused s p) → GoesOn s t (opened p ∷ []) [] [] → IsTrue (is_open t p)
opened_is_open s t p unused goes =
    rw goes (simp append-nil (opened_open s.arrivals (was_closed s p) p unused))

-- it stays open while messages are sent
pub sent_stays_open : (s t : Trace) (p : ℕ) (ms : List Message) → IsTrue (is_open s p) → GoesOn s t [] ms [] → IsTrue (is_open t p)
sent_stays_open s t p ms is goes = rw goes (simp append-nil is)

-- and where an arrival is not that it left
pub arrived_stays_open : (s t : Trace) (p : ℕ) (a : ArrivalWithBytes) → IsTrue (is_open s p) → leaves p a ≡ false → GoesOn s t (a ∷ []) [] [] → IsTrue (is_open t p)
arrived_stays_open s t p a is stays goes = rw goes (simp append-nil (arrived_open s.arrivals (was_closed s p) p a is stays))

-- and where another peer is closed
pub other_stays_open : (s t : Trace) (p q : ℕ) (why : Why) → IsTrue (is_open s p) → p == q ≡ false
    → GoesOn s t [] [] (record { peer = q; why = why } ∷ []) → IsTrue (is_open t p)
other_stays_open s t p q why is other goes =
    rw goes (simp append-nil (other_open (list_any (opens p) s.arrivals) (list_any (leaves p) s.arrivals) s.closings p q why is other))

both_true : (a b : Bool) → IsTrue (a && b) → IsTrue a × IsTrue b
both_true true b h = (refl, h)
both_true false b h = absurd (let k = h in cc)

no_and : (a b : Bool) → IsTrue (not a) → (a && b) ≡ false
no_and true b h = absurd (let k = h in cc)
no_and false b h = refl

-- a new number is unused, and nobody with it is open
pub new_unused : (s : Trace) (p : ℕ) → IsTrue (is_new s p) → IsTrue (is_unused s p)
new_unused s p h = (both_true (not (list_any (opens p) s.arrivals)) (is_unused s p) h).1

pub new_not_open : (s : Trace) (p : ℕ) → IsTrue (is_new s p) → is_open s p ≡ false
new_not_open s p h = no_and (list_any (opens p) s.arrivals) (is_unused s p) (both_true (not (list_any (opens p) s.arrivals)) (is_unused s p) h).0
