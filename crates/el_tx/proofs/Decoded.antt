-- Bytes begin with one transaction or have one first fault.
use Rattle.std.proofs.Common.{◌≡◌, ◌≢◌, ℕ, ℤ, ◌+◌, ◌≤◌, Bool, true, false, cond, List, [], ◌∷◌, ◌++◌, length, take, Result, Ok, Err, refl, sym, ap, subst, ◌∙◌, append_assoc, length-append, arith, inl, inr, ◌⊎◌}
use Rattle.std.specs.Prelude.{IfOk, IfErr}
use Rattle.std.specs.List.{flat_map}
use Rattle.std.specs.Int.{w32, from_le_bytes, to_le_bytes, cast_signed, cast_unsigned}
use Rattle.std.proofs.lemmas.List.{take_at, append_cancel_right}
use Rattle.el_base.specs.Left.{Left, AreBytes}
use Rattle.el_base.specs.Compact as spec
use Rattle.el_base.specs.Compact.{compact, EncodesCompact}
use Rattle.el_base.proofs.CompactLemmas as lemmas
use Rattle.el_tx.specs.declared.fault.TxFault.{TxFault}
use Rattle.el_tx.specs.declared.fault.TxFault.TheVariants as fault
use Rattle.el_tx.specs.declared.types.Tx.{Tx}
use Rattle.el_tx.specs.Encoding.{counted, input_encoding, output_encoding, stripped_encoding, witness_encoding, IsLawful, Encodes, stripped, with_witness, HasEncoding}
use Rattle.el_tx.specs.Hashing.{full_encoding}
use Rattle.el_tx.specs.FirstFault.{FaultInWitnessForm, FaultAfterVersion, HasNoMarker, FirstFault}
use Rattle.el_tx.specs.FirstFault as first_fault
use Rattle.el_tx.specs.within.Reading.{Answers, form_at, stripped_at, witnessed_at, version_at, tx_at}
use Rattle.el_tx.proofs.Passed.{Passed, Took, Took-then, middle, Passed-then, Passed-front, Passed-back, after, stand, stand_passed, Sound, ok, err, step, weaker}
use Rattle.el_tx.proofs.Whole.{Fits, version_sound, version_again, version_passes, version_refuses, Formed, not_marked, form_sound, form_again, flag_faults, stripped_rest, stripped_sound, stripped_again, stripped_refuses, full_rest, witnessed_sound, witnessed_again, witnessed_refuses}

abbrev pub start : List ℕ → Left
start bytes = record { place = 0; rest = bytes }

-- ---- what is read is encoded so, and what is refused has that fault

abbrev number_encoding : ℤ → List ℕ
number_encoding version = to_le_bytes w32 (cast_unsigned w32 version)

-- the text after the version
abbrev RestEncodes : ℤ → Left → Tx × Left → Type 0
RestEncodes version left x = (text : List ℕ) × Took left text x.1 × Encodes (number_encoding version ++ text) x.0

rest_sound : (version : ℤ) (left next : Left) (v : Bool) → Fits version → AreBytes left.rest → Formed left v next
    → Sound (cond v (witnessed_at version next) (stripped_at version next)) (RestEncodes version left) (FaultAfterVersion left.place left.rest)
rest_sound version left next true fits bytes formed =
    weaker (witnessed_at version next) (witnessed_sound version next fits formed.fits)
    (λ x q.
    let same : number_encoding version ++ (0 ∷ 1 ∷ full_rest x.0) ≡ witness_encoding x.0 = ap (λ (z : ℤ). number_encoding z ++ (0 ∷ 1 ∷ full_rest x.0)) (sym q.3) in
    (0 ∷ 1 ∷ full_rest x.0, Took-then left (0 ∷ 1 ∷ []) next (full_rest x.0) x.1 formed q.0, with_witness q.1 q.2 same))
    (λ e s. first_fault.witnessed (after (0 ∷ 1 ∷ []) FaultInWitnessForm left next e formed.passed s))
rest_sound version left next false fits bytes formed =
    rw formed.0 (weaker (stripped_at version left) (stripped_sound version left fits bytes)
    (λ x q.
    let same : number_encoding version ++ stripped_rest x.0 ≡ stripped_encoding x.0 = ap (λ (z : ℤ). number_encoding z ++ stripped_rest x.0) (sym q.3) in
    (stripped_rest x.0, q.0, stripped q.1 q.2 same))
    (λ e s. first_fault.stripped formed.1 s))

-- the text from the front
abbrev pub EncodesFrom : List ℕ → Tx × Left → Type 0
EncodesFrom bytes x = (text : List ℕ) × Passed (start bytes) text x.1 × Encodes text x.0

pub tx_sound : (bytes : List ℕ) → AreBytes bytes → Sound (tx_at (start bytes)) (EncodesFrom bytes) (FirstFault bytes)
unfolding tx_at
tx_sound bytes fits =
    step (version_at (start bytes)) _ (version_sound (start bytes) fits)
    (λ version p.
    let front = number_encoding version.0 in
    let four : length (number_encoding version.0) ≡ 4 = refl in
    step (form_at version.1) _ (form_sound version.1.place version.1.rest p.0.fits)
    (λ form q. weaker (cond form.0 (witnessed_at version.0 form.1) (stripped_at version.0 form.1))
    (rest_sound version.0 version.1 form.1 form.0 p.1 p.0.fits q)
    (λ x r. (front ++ r.0, Passed-then (start bytes) front version.1 r.0 x.1 p.0.passed r.1.passed, r.2))
    (λ e s. first_fault.after_version front four (after front FaultAfterVersion (start bytes) version.1 e p.0.passed s)))
    (λ e s. first_fault.after_version front four (after front FaultAfterVersion (start bytes) version.1 e p.0.passed s)))
    (λ e s. first_fault.in_version s)

-- ---- what is encoded so is read

-- the number of inputs, which isn't 0, begins with no marker
begins_plain : (n : ℕ) (rest : List ℕ) → 1 ≤ n → EncodesCompact (compact n) n → HasNoMarker (compact n ++ rest)
begins_plain n rest some (spec.one lt is) = rw is (λ e. omega arith)
begins_plain n rest some (spec.two le lt is) = rw is (λ e. omega arith)
begins_plain n rest some (spec.four le lt is) = rw is (λ e. omega arith)
begins_plain n rest some (spec.eight le lt is) = rw is (λ e. omega arith)

regroup : (a b c d e : List ℕ) → (((a ++ b) ++ c) ++ d) ++ e ≡ a ++ (b ++ (c ++ (d ++ e)))
regroup a b c d e = simp append_assoc

body_begins : (t : Tx) (rest : List ℕ) → IsLawful t → HasNoMarker (stripped_rest t ++ rest)
body_begins t rest is =
    let inputs = flat_map input_encoding t.inputs in
    let outputs = counted output_encoding t.outputs in
    let lock = to_le_bytes w32 t.lock in
    let first = begins_plain (length t.inputs) (inputs ++ (outputs ++ (lock ++ rest))) is.some_inputs (lemmas.encoded (length t.inputs) is.few_inputs) in
    subst HasNoMarker (sym (regroup (compact (length t.inputs)) inputs outputs lock rest)) first

pub tx_again : (text : List ℕ) (t : Tx) (left next : Left) → Encodes text t → Passed left text next → tx_at left ≡ Ok (t, next)
unfolding tx_at
tx_again text t left next (stripped is none e) p =
    let front = number_encoding t.version in
    let q : Passed left (front ++ stripped_rest t) next = subst (λ (w : List ℕ). Passed left w next) e p in
    let mid = middle left front (stripped_rest t) next in
    let fits : Fits t.version = record { least = is.version.least; most = is.version.most } in
    let a = version_again t.version left mid fits (Passed-front left front (stripped_rest t) next q) in
    let b = not_marked mid.place mid.rest (body_begins t next.rest is) in
    let c = stripped_again t mid next is none (Passed-back left front (stripped_rest t) next q) in
    rw (a, b, c) refl
tx_again text t left next (with_witness is some e) p =
    let front = number_encoding t.version in
    let q : Passed left (front ++ (0 ∷ 1 ∷ full_rest t)) next = subst (λ (w : List ℕ). Passed left w next) e p in
    let mid = middle left front (0 ∷ 1 ∷ full_rest t) next in
    let rest : Passed mid ((0 ∷ 1 ∷ []) ++ full_rest t) next = Passed-back left front (0 ∷ 1 ∷ full_rest t) next q in
    let last = middle mid (0 ∷ 1 ∷ []) (full_rest t) next in
    let fits : Fits t.version = record { least = is.version.least; most = is.version.most } in
    let a = version_again t.version left mid fits (Passed-front left front (0 ∷ 1 ∷ full_rest t) next q) in
    let b = form_again mid last (Passed-front mid (0 ∷ 1 ∷ []) (full_rest t) next rest) in
    let c = witnessed_again t last next is some (Passed-back mid (0 ∷ 1 ∷ []) (full_rest t) next rest) in
    rw (a, b, c) refl

-- ---- what has a fault is refused with it

form_refuses : (version : ℤ) (left there : Left) (f : TxFault) → version_at left ≡ Ok (version, there) → FaultAfterVersion there.place there.rest f → tx_at left ≡ Err f
unfolding tx_at
form_refuses version left there f a (first_fault.stripped h s) = rw (a, not_marked there.place there.rest h, stripped_refuses version there f s) refl
form_refuses version left there f a (first_fault.in_flag b) = rw (a, flag_faults there f b) refl
form_refuses version left there f a (first_fault.witnessed b) =
    let last = stand (0 ∷ 1 ∷ []) there b.more in
    rw (a, form_again there last (stand_passed (0 ∷ 1 ∷ []) FaultInWitnessForm there f b), witnessed_refuses version last f b.next) refl

pub tx_refuses : (bytes : List ℕ) (f : TxFault) → FirstFault bytes f → tx_at (start bytes) ≡ Err f
unfolding tx_at
tx_refuses bytes f (first_fault.in_version s) = rw (version_refuses (start bytes) f s) refl
tx_refuses bytes f (first_fault.after_version version four b) =
    let there = stand version (start bytes) b.more in
    form_refuses (cast_signed w32 (from_le_bytes w32 version)) (start bytes) there f (version_passes (start bytes) version there four (stand_passed version FaultAfterVersion (start bytes) f b)) b.next

ok_is : {A : Type 0} (x y : A) → ◌≡◌ {A = Result A TxFault} (Ok x) (Ok y) → x ≡ y
ok_is x y e = cc

-- ---- what a function answers that gives what reading gives

at_ok : {A : Type 0} (r : Result A TxFault) (x : A) {P : A → Type 0} {Q : TxFault → Type 0} → Sound r P Q → r ≡ Ok x → P x
at_ok r x {P = P} (ok y e p) h = subst P (let same : y ≡ x = cc in same) p
at_ok r x (err f e q) h = absurd cc

at_err : {A : Type 0} (r : Result A TxFault) (f : TxFault) {P : A → Type 0} {Q : TxFault → Type 0} → Sound r P Q → r ≡ Err f → Q f
at_err r f (ok y e p) h = absurd cc
at_err r f {Q = Q} (err d e q) h = subst Q (let same : d ≡ f = cc in same) q

front_is : (bytes text rest : List ℕ) (n : ℕ) → bytes ≡ text ++ rest → length text ≡ n → take n bytes ≡ text
front_is bytes text rest n parts size = rw parts (take_at text rest n size)

pub reads : (bytes : List ℕ) (r : Result (Tx × ℕ) TxFault) → AreBytes bytes → Answers r (tx_at (start bytes))
    → IfOk r (λ x. (x.1 ≤ length bytes) × Encodes (take x.1 bytes) x.0)
reads bytes (Err e) fits a = tt
reads bytes (Ok x) fits a =
    let s = at_ok (tx_at (start bytes)) (x.0, a.0) (tx_sound bytes fits) a.1 in
    let place = s.1.place in
    let there = a.2 in
    let size : length s.0 ≡ x.1 = omega arith in
    let whole = ap length s.1.parts in
    let sum = length-append s.0 a.0.rest in
    let front = front_is bytes s.0 a.0.rest x.1 s.1.parts size in
    (omega arith, rw front s.2)

pub only : (bytes : List ℕ) (r : Result (Tx × ℕ) TxFault) → Answers r (tx_at (start bytes)) → r ≢ Err fault.Memory → (text rest : List ℕ) (t : Tx) → Encodes text t → bytes ≡ text ++ rest
    → r ≡ Ok (t, length text)
only bytes (Ok x) a not_memory text rest t s e =
    let next : Left = record { place = 0 + length text; rest = rest } in
    let again = tx_again text t (start bytes) next s (record { parts = e; place = refl }) in
    let same : ◌≡◌ {A = Tx × Left} (x.0, a.0) (t, next) = ok_is (x.0, a.0) (t, next) (sym a.1 ∙ again) in
    let value : x.0 ≡ t = ap (λ (y : Tx × Left). y.0) same in
    let there : a.0.place ≡ 0 + length text = ap (λ (y : Tx × Left). y.1.place) same in
    let after = a.2 in
    let size : x.1 ≡ length text = omega arith in
    ap (λ (u : Tx). Ok (u, x.1)) value ∙ ap (λ (k : ℕ). Ok (t, k)) size
only bytes (Err d) (inl memory) not_memory text rest t s e = absurd (not_memory (ap (λ (f : TxFault). Err f) memory))
only bytes (Err d) (inr is) not_memory text rest t s e =
    let again = tx_again text t (start bytes) (record { place = 0 + length text; rest = rest }) s (record { parts = e; place = refl }) in
    absurd cc

pub faults : (bytes : List ℕ) (r : Result (Tx × ℕ) TxFault) → AreBytes bytes → Answers r (tx_at (start bytes)) → IfErr r (λ e. (e ≡ fault.Memory) ⊎ FirstFault bytes e)
faults bytes (Ok x) fits a = tt
faults bytes (Err e) fits (inl memory) = inl memory
faults bytes (Err e) fits (inr is) = inr (at_err (tx_at (start bytes)) e (tx_sound bytes fits) is)

pub refuses : (bytes : List ℕ) (r : Result (Tx × ℕ) TxFault) → Answers r (tx_at (start bytes)) → r ≢ Err fault.Memory → (f : TxFault) → FirstFault bytes f → r ≡ Err f
refuses bytes (Ok x) a not_memory f s =
    let refused = tx_refuses bytes f s in
    let read = a.1 in
    absurd cc
refuses bytes (Err e) (inl memory) not_memory f s = absurd (not_memory (ap (λ (g : TxFault). Err g) memory))
refuses bytes (Err e) (inr is) not_memory f s =
    let refused = tx_refuses bytes f s in
    let same : e ≡ f = cc in
    ap (λ (g : TxFault). Err g) same

-- ---- laws

pub one_reading : (a b x y : List ℕ) (t u : Tx) → Encodes a t → Encodes b u → a ++ x ≡ b ++ y → (a ≡ b) × (t ≡ u) × (x ≡ y)
one_reading a b x y t u s r e =
    let first : Left = record { place = 0 + length a; rest = x } in
    let second : Left = record { place = 0 + length b; rest = y } in
    let one = tx_again a t (start (a ++ x)) first s (record { parts = refl; place = refl }) in
    let two = tx_again b u (start (a ++ x)) second r (record { parts = e; place = refl }) in
    let same : ◌≡◌ {A = Tx × Left} (t, first) (u, second) = ok_is (t, first) (u, second) (sym one ∙ two) in
    let rest : x ≡ y = ap (λ (z : Tx × Left). z.1.rest) same in
    let front : a ++ x ≡ b ++ x = e ∙ ap (λ (w : List ℕ). b ++ w) (sym rest) in
    (append_cancel_right a b x front, ap (λ (z : Tx × Left). z.0) same, rest)

pub one_encoding : (a b : List ℕ) (t : Tx) → Encodes a t → Encodes b t → a ≡ b
one_encoding a b t (stripped is none e) (stripped is' none' e') = e ∙ sym e'
one_encoding a b t (stripped is none e) (with_witness is' some e') = absurd cc
one_encoding a b t (with_witness is some e) (stripped is' none e') = absurd cc
one_encoding a b t (with_witness is some e) (with_witness is' some' e') = e ∙ sym e'

-- it is the full encoding
pub is_full_encoding : (bytes : List ℕ) (t : Tx) → Encodes bytes t → bytes ≡ full_encoding t
is_full_encoding bytes t (stripped is none e) = rw none e
is_full_encoding bytes t (with_witness is some e) = rw some e

pub full_encoded : (t : Tx) → HasEncoding t → Encodes (full_encoding t) t
full_encoded t has = subst (λ (b : List ℕ). Encodes b t) (is_full_encoding has.0 t has.1) has.1

-- as many bytes are passed as encode the transaction
pub size_read : (bytes : List ℕ) (t : Tx) (left : Left) → AreBytes bytes → tx_at (start bytes) ≡ Ok (t, left) → left.place ≡ length (full_encoding t)
size_read bytes t left fits is =
    let s = at_ok (tx_at (start bytes)) (t, left) (tx_sound bytes fits) is in
    let place = s.1.place in
    let same = ap length (is_full_encoding s.0 t s.2) in
    omega arith

pub one_fault : (bytes : List ℕ) (e f : TxFault) → FirstFault bytes e → FirstFault bytes f → e ≡ f
one_fault bytes e f s r =
    let one = tx_refuses bytes e s in
    let two = tx_refuses bytes f r in
    cc

pub never_both : (text rest : List ℕ) (t : Tx) (f : TxFault) → Encodes text t → FirstFault (text ++ rest) f → ⊥
never_both text rest t f s r =
    let one = tx_again text t (start (text ++ rest)) (record { place = 0 + length text; rest = rest }) s (record { parts = refl; place = refl }) in
    let two = tx_refuses (text ++ rest) f r in
    cc

either_of : (bytes : List ℕ) (r : Result (Tx × Left) TxFault) → Sound r (EncodesFrom bytes) (FirstFault bytes)
    → ((t : Tx) × (text : List ℕ) × (rest : List ℕ) × Encodes text t × (bytes ≡ text ++ rest)) ⊎ ((f : TxFault) × FirstFault bytes f)
either_of bytes r (ok x e p) = inl (x.0, p.0, x.1.rest, p.2, p.1.parts)
either_of bytes r (err f e s) = inr (f, s)

pub one_or_other : (bytes : List ℕ) → AreBytes bytes
    → ((t : Tx) × (text : List ℕ) × (rest : List ℕ) × Encodes text t × (bytes ≡ text ++ rest)) ⊎ ((f : TxFault) × FirstFault bytes f)
one_or_other bytes fits = either_of bytes (tx_at (start bytes)) (tx_sound bytes fits)
