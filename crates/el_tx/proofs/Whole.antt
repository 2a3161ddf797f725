-- A whole transaction: what is read is encoded so or has that fault, and the other way round.
use Rattle.std.proofs.Common.{◌≡◌, ◌≢◌, ℕ, ℤ, pos, negsuc, ◌≤ℤ◌, ◌<ℤ◌, ◌+◌, ◌<◌, ◌^◌, ◌==◌, Bool, true, false, List, [], ◌∷◌, ◌++◌, length, map, Ok, Err, refl, sym, ap, subst, ◌∙◌, arith, eqb-true, inl, inr, ◌⊎◌}
use Rattle.std.specs.List.{flat_map, AllByRecursion}
use Rattle.std.specs.Int.{w32, from_le_bytes, to_le_bytes, cast_signed, cast_unsigned}
use Rattle.std.specs.Str.{bytes_eq}
use Rattle.std.proofs.lemmas.Bool.{eqb-false, cases_Bool}
use Rattle.std.proofs.lemmas.Int.{of_z-to_z, to_z-of_z, ints}
use Rattle.std.proofs.lemmas.Slice.Eq.{bytes_eq-Decides}
use Rattle.std.proofs.lemmas.List.{nil_from_length}
use mir.Val.{SFits}
use Rattle.el_base.specs.Left.{Left, AreBytes}
use Rattle.el_base.proofs.ByteLemmas.{tail_bytes}
use Rattle.el_base.proofs.Lists.{all_weaker}
use Rattle.el_tx.specs.declared.fault.TxFault.{TxFault}
use Rattle.el_tx.specs.declared.fault.TxFault.TheVariants as fault
use Rattle.el_tx.specs.declared.types.TxIn.{TxIn}
use Rattle.el_tx.specs.declared.types.TxOut.{TxOut}
use Rattle.el_tx.specs.declared.types.Tx.{Tx}
use Rattle.el_tx.specs.Encoding.{some_witness, stack_encoding, body_encoding, has_witness, IsInput, IsLawful}
use Rattle.el_tx.specs.FirstFault.{After, FaultInField, FaultHere, FaultInStacks, FaultInStrippedForm, FaultInWitnessForm, FaultAfterVersion, FaultInFlag, HasNoMarker, FirstFault}
use Rattle.el_tx.specs.FirstFault as first_fault
use Rattle.el_tx.specs.within.Reading.{bytes_at, number_at, witnesses_at, body_at, version_at, flag_at, is_marked, form_at, stripped_at, witnessed_at}
use Rattle.el_tx.proofs.Passed.{Passed, Took, Took-then, middle, Passed-then, Passed-front, Passed-back, after, stand, stand_passed, Sound, ok, err, done, step, weaker, either}
use Rattle.el_tx.proofs.Fields.{bytes_again, wide32, number_sound, number_passes, number_again, number_refuses}
use Rattle.el_tx.proofs.Parts.{IsBare, bare}
use Rattle.el_tx.proofs.Body.{SomeInputs, SomeOutputs, parts_encoding, body_sound, body_again, body_refuses, Full, FaultInWitnesses, within, all_empty, witnesses_sound, witnesses_again, witnesses_stop, witnesses_refuse}

-- ---- the version

pub record Fits (version : ℤ) : Type 0 where
  pub least : negsuc 2147483647 ≤ℤ version
  pub most : version <ℤ pos 2147483648

signed_fits : (n : ℕ) → n < 2 ^ 32 → Fits (cast_signed w32 n)
signed_fits n lt = record { least = omega (arith, ints); most = omega (arith, ints) }

fits_signed : (z : ℤ) → Fits z → SFits w32 z
fits_signed (pos n) fits = let most = fits.most in record { sfits = omega (arith, ints) }
fits_signed (negsuc n) fits = let least = fits.least in record { sfits = omega (arith, ints) }

unsigned_below : (z : ℤ) → Fits z → cast_unsigned w32 z < 2 ^ 32
unsigned_below (pos n) fits = let most = fits.most in omega (arith, ints)
unsigned_below (negsuc n) fits = omega arith

pub version_sound : (left : Left) → AreBytes left.rest
    → Sound (version_at left) (λ x. Took left (to_le_bytes w32 (cast_unsigned w32 x.0)) x.1 × Fits x.0) (FaultInField 4 left.place left.rest)
unfolding version_at
version_sound left fits =
    step (number_at w32 left) _ (number_sound w32 (2 ^ 32) wide32 left fits)
    (λ n p. done (cast_signed w32 n.0, n.1) (
      subst (λ (k : ℕ). Took left (to_le_bytes w32 k) n.1) (sym (of_z-to_z w32 n.0 p.1)) p.0,
      signed_fits n.0 p.1,
    ))
    (λ e s. s)

pub version_again : (z : ℤ) (left next : Left) → Fits z → Passed left (to_le_bytes w32 (cast_unsigned w32 z)) next → version_at left ≡ Ok (z, next)
unfolding version_at
version_again z left next fits p =
    let same : cast_signed w32 (cast_unsigned w32 z) ≡ z = to_z-of_z w32 z (fits_signed z fits) in
    rw (number_again w32 (2 ^ 32) wide32 (cast_unsigned w32 z) left next (unsigned_below z fits) p) (ap (λ (v : ℤ). Ok (v, next)) same)

-- any four bytes are one
pub version_passes : (left : Left) (text : List ℕ) (next : Left) → length text ≡ 4 → Passed left text next → version_at left ≡ Ok (cast_signed w32 (from_le_bytes w32 text), next)
unfolding version_at
version_passes left text next size p = rw (number_passes w32 left text next size p) refl

pub version_refuses : (left : Left) (f : TxFault) → FaultInField 4 left.place left.rest f → version_at left ≡ Err f
unfolding version_at
version_refuses left f s = rw (number_refuses w32 left f s) refl

-- ---- marker and flag

-- one byte is passed
one_passed : (place b : ℕ) (rest : List ℕ) → Passed (record { place = place; rest = b ∷ rest }) (b ∷ []) (record { place = place + 1; rest = rest })
one_passed place b rest = record { parts = refl; place = refl }

one_read : (place b : ℕ) (rest : List ℕ) → bytes_at 1 (record { place = place; rest = b ∷ rest }) ≡ Ok (b ∷ [], record { place = place + 1; rest = rest })
one_read place b rest = bytes_again 1 (record { place = place; rest = b ∷ rest }) (b ∷ []) (record { place = place + 1; rest = rest }) refl (one_passed place b rest)

is_flag : (b : ℕ) → b ≡ 1 → bytes_eq (b ∷ []) (1 ∷ []) ≡ true
is_flag b e = (bytes_eq-Decides (b ∷ []) (1 ∷ [])).1 (rw e refl)

no_flag : (b : ℕ) → b ≢ 1 → bytes_eq (b ∷ []) (1 ∷ []) ≡ false
no_flag b h =
    elim (cases_Bool (bytes_eq (b ∷ []) (1 ∷ []))) [
      | inl t ↦ absurd (h (let same = (bytes_eq-Decides (b ∷ []) (1 ∷ [])).0 t in cc))
      | inr t ↦ t
    ]

flag_sound : (place : ℕ) (bytes : List ℕ) → AreBytes bytes
    → Sound (flag_at (record { place = place; rest = bytes })) (λ x. (x.0 ≡ true) × Took (record { place = place; rest = bytes }) (1 ∷ []) x.1) (FaultInFlag place bytes)
unfolding flag_at
flag_sound place [] fits = err (fault.Short place) refl refl
flag_sound place (b ∷ rest) fits =
    rw (one_read place b rest) (either (bytes_eq (b ∷ []) (1 ∷ [])) (Ok (true, record { place = place + 1; rest = rest })) (Err (fault.BadFlag place))
    (λ h.
    let same : b ∷ [] ≡ 1 ∷ [] = (bytes_eq-Decides (b ∷ []) (1 ∷ [])).0 h in
    done (true, record { place = place + 1; rest = rest }) (
      refl,
      record {
        passed = subst (λ (t : List ℕ). Passed (record { place = place; rest = b ∷ rest }) t (record { place = place + 1; rest = rest })) same (one_passed place b rest);
        fits = tail_bytes b rest fits;
      },
    ))
    (λ h. err (fault.BadFlag place) refl ((λ e. (let t = is_flag b e in cc)), refl)))

flag_refuses : (place : ℕ) (bytes : List ℕ) (f : TxFault) → FaultInFlag place bytes f → flag_at (record { place = place; rest = bytes }) ≡ Err f
unfolding flag_at
flag_refuses place [] f s = rw s refl
flag_refuses place (b ∷ rest) f s = rw (one_read place b rest, no_flag b s.0, s.1) refl

flag_again : (place : ℕ) (rest : List ℕ) → flag_at (record { place = place; rest = 1 ∷ rest }) ≡ Ok (true, record { place = place + 1; rest = rest })
unfolding flag_at
flag_again place rest = rw (one_read place 1 rest, is_flag 1 refl) refl

-- what stands at the place after the version
abbrev pub Formed : Left → Bool → Left → Type 0
Formed left true next = Took left (0 ∷ 1 ∷ []) next
Formed left false next = (next ≡ left) × HasNoMarker left.rest

first_is : (b : ℕ) (rest : List ℕ) → is_marked (b ∷ rest) ≡ false → HasNoMarker (b ∷ rest)
first_is b rest h = eqb-false b 0 h

marked : (place : ℕ) (rest : List ℕ) → form_at (record { place = place; rest = 0 ∷ rest }) ≡ flag_at (record { place = place + 1; rest = rest })
unfolding form_at
marked place rest = rw (one_read place 0 rest) refl

pub not_marked : (place : ℕ) (bytes : List ℕ) → HasNoMarker bytes → form_at (record { place = place; rest = bytes }) ≡ Ok (false, record { place = place; rest = bytes })
unfolding form_at
not_marked place [] h = refl
not_marked place (b ∷ rest) h =
    let no : is_marked (b ∷ rest) ≡ false = elim (cases_Bool (b == 0)) [
      | inl t ↦ absurd (h (eqb-true b 0 t))
      | inr t ↦ t
    ] in
    rw no refl

form_by : (place b : ℕ) (rest : List ℕ) → AreBytes (b ∷ rest) → ((b ≡ 0) ⊎ (b ≢ 0))
    → Sound (form_at (record { place = place; rest = b ∷ rest })) (λ x. Formed (record { place = place; rest = b ∷ rest }) x.0 x.1) (FaultAfterVersion place (b ∷ rest))
form_by place b rest fits (inr h) =
    ok (false, record { place = place; rest = b ∷ rest }) (not_marked place (b ∷ rest) h) (refl, h)
form_by place b rest fits (inl z) =
    let start : Left = record { place = place; rest = b ∷ rest } in
    let flag : Left = record { place = place + 1; rest = rest } in
    let same : form_at start ≡ flag_at flag = ap (λ k. form_at (record { place = place; rest = k ∷ rest })) z ∙ marked place rest in
    let front : Passed start (0 ∷ []) flag = subst (λ (k : ℕ). Passed start (k ∷ []) flag) z (one_passed place b rest) in
    rw same (weaker (flag_at flag) (flag_sound (place + 1) rest (tail_bytes b rest fits))
    (λ x p.
    let whole : Took start (0 ∷ 1 ∷ []) x.1 = record { passed = Passed-then start (0 ∷ []) flag (1 ∷ []) x.1 front p.1.passed; fits = p.1.fits } in
    subst (λ (v : Bool). Formed start v x.1) (sym p.0) whole)
    (λ e s. first_fault.in_flag (after (0 ∷ []) FaultInFlag start flag e front s)))

pub form_sound : (place : ℕ) (bytes : List ℕ) → AreBytes bytes
    → Sound (form_at (record { place = place; rest = bytes })) (λ x. Formed (record { place = place; rest = bytes }) x.0 x.1) (FaultAfterVersion place bytes)
form_sound place [] fits = ok (false, record { place = place; rest = [] }) (not_marked place [] tt) (refl, tt)
form_sound place (b ∷ rest) fits =
    form_by place b rest fits (elim (cases_Bool (b == 0)) [
      | inl t ↦ inl (eqb-true b 0 t)
      | inr t ↦ inr (eqb-false b 0 t)
    ])

pub form_again : (left next : Left) → Passed left (0 ∷ 1 ∷ []) next → form_at left ≡ Ok (true, next)
form_again left next p =
    let start : Left = record { place = left.place; rest = 0 ∷ 1 ∷ next.rest } in
    let rest = p.parts in
    let same : left ≡ start = ap (λ (bytes : List ℕ). record { place = left.place; rest = bytes }) rest in
    let place : left.place + 1 + 1 ≡ next.place = (let h = p.place in omega arith) in
    ap form_at same ∙ marked left.place (1 ∷ next.rest) ∙ flag_again (left.place + 1) next.rest ∙ ap (λ (k : ℕ). Ok (true, record { place = k; rest = next.rest })) place

pub flag_faults : (left : Left) (f : TxFault) → After (0 ∷ []) FaultInFlag left.place left.rest f → form_at left ≡ Err f
flag_faults left f b =
    let same : left ≡ record { place = left.place; rest = 0 ∷ b.more } = ap (λ (bytes : List ℕ). record { place = left.place; rest = bytes }) b.parts in
    ap form_at same ∙ marked left.place b.more ∙ flag_refuses (left.place + 1) b.more f b.next

-- ---- lawful transactions

abbrev pub made : ℤ → List TxIn → List TxOut → ℕ → Tx
made version is os lock = record { version = version; inputs = is; outputs = os; lock = lock }

-- inputs and outputs that were read, with witnesses that were read
lawful : (version : ℤ) (is full : List TxIn) (os : List TxOut) (lock : ℕ) → Fits version → SomeInputs is → Full is full → SomeOutputs os → lock < 2 ^ 32
    → IsLawful (made version full os lock)
lawful version is full os lock fits ins filled outs lt =
    let size = filled.size in
    let some = ins.some in
    let few = ins.few in
    record {
      version = record { least = fits.least; most = fits.most };
      some_inputs = omega arith;
      few_inputs = omega arith;
      inputs = filled.all;
      some_outputs = outs.some;
      few_outputs = outs.few;
      outputs = outs.are.0;
      money = outs.are.1;
      lock = lt;
    }

-- no witness was read
as_read : (is : List TxIn) → AllByRecursion IsBare is → Full is is
as_read is bares = record { all = all_weaker IsBare IsInput is (λ i b. b.0) bares; text = refl; size = refl }

no_witness : (is : List TxIn) → AllByRecursion IsBare is → some_witness is ≡ false
no_witness [] bares = refl
no_witness (i ∷ is) bares = rw bares.0.1 (no_witness is bares.1)

-- inputs without witnesses are those that are read
bare_is : (is : List TxIn) → some_witness is ≡ false → map bare is ≡ is
bare_is [] none = refl
bare_is (i ∷ is) none =
    elim (cases_Bool (length i.witness == 0)) [
      | inl t ↦
          let empty : i.witness ≡ [] = nil_from_length i.witness (eqb-true (length i.witness) 0 t) in
          let others : some_witness is ≡ false = rw t at none in
          let first : bare i ≡ i = ap (λ (w : List (List ℕ)). record i { witness = w }) (sym empty) in
          ap (λ (j : TxIn). j ∷ map bare is) first ∙ ap (λ (js : List TxIn). i ∷ js) (bare_is is others)
      | inr t ↦ absurd (let some : true ≡ false = rw t at none in cc)
    ]

zero_fits : Fits (pos 0)
zero_fits = record { least = omega (arith, ints); most = omega (arith, ints) }

zero_below : 0 < 2 ^ 32
zero_below = omega arith

-- ---- the form without witnesses

-- what stands after the version
abbrev pub stripped_rest : Tx → List ℕ
stripped_rest t = body_encoding t ++ to_le_bytes w32 t.lock

pub stripped_sound : (version : ℤ) (left : Left) → Fits version → AreBytes left.rest
    → Sound (stripped_at version left) (λ x. Took left (stripped_rest x.0) x.1 × IsLawful x.0 × (has_witness x.0 ≡ false) × (x.0.version ≡ version)) (FaultInStrippedForm left.place left.rest)
unfolding stripped_at
stripped_sound version left version_fits fits =
    step (body_at left) _ (body_sound left fits)
    (λ body p. step (number_at w32 body.1) _ (number_sound w32 (2 ^ 32) wide32 body.1 p.0.fits)
    (λ lock q. done (made version body.0.0 body.0.1 lock.0, lock.1) (
      Took-then left (parts_encoding body.0.0 body.0.1) body.1 (to_le_bytes w32 lock.0) lock.1 p.0 q.0,
      lawful version body.0.0 body.0.0 body.0.1 lock.0 version_fits p.1 (as_read body.0.0 p.1.bare) p.2 q.1,
      no_witness body.0.0 p.1.bare,
      refl,
    ))
    (λ e s. first_fault.FaultInStrippedForm.in_lock (made (pos 0) body.0.0 body.0.1 0) (lawful (pos 0) body.0.0 body.0.0 body.0.1 0 zero_fits p.1 (as_read body.0.0 p.1.bare) p.2 zero_below)
    (after (parts_encoding body.0.0 body.0.1) (FaultInField 4) left body.1 e p.0.passed s)))
    (λ e s. first_fault.FaultInStrippedForm.in_body s)

pub stripped_again : (t : Tx) (left next : Left) → IsLawful t → has_witness t ≡ false → Passed left (stripped_rest t) next → stripped_at t.version left ≡ Ok (t, next)
unfolding stripped_at
stripped_again t left next is none p =
    let mid = middle left (body_encoding t) (to_le_bytes w32 t.lock) next in
    let a = body_again t left mid is (Passed-front left (body_encoding t) (to_le_bytes w32 t.lock) next p) in
    let b = number_again w32 (2 ^ 32) wide32 t.lock mid next is.lock (Passed-back left (body_encoding t) (to_le_bytes w32 t.lock) next p) in
    let same = bare_is t.inputs none in
    rw (a, b) (ap (λ (js : List TxIn). Ok (made t.version js t.outputs t.lock, next)) same)

pub stripped_refuses : (version : ℤ) (left : Left) (f : TxFault) → FaultInStrippedForm left.place left.rest f → stripped_at version left ≡ Err f
unfolding stripped_at
stripped_refuses version left f (first_fault.FaultInStrippedForm.in_body s) = rw (body_refuses left f s) refl
stripped_refuses version left f (first_fault.FaultInStrippedForm.in_lock t is b) =
    let there = stand (body_encoding t) left b.more in
    rw (body_again t left there is (stand_passed (body_encoding t) (FaultInField 4) left f b), number_refuses w32 there f b.next) refl

-- ---- the form with witnesses

abbrev pub full_rest : Tx → List ℕ
full_rest t = body_encoding t ++ (flat_map stack_encoding t.inputs ++ to_le_bytes w32 t.lock)

-- the text of the parts, with witnesses that were read
same_parts : (version : ℤ) (is full : List TxIn) (os : List TxOut) (lock : ℕ) → Full is full → parts_encoding is os ≡ body_encoding (made version full os lock)
same_parts version is full os lock filled = rw (filled.text, filled.size) refl

witnesses_stopped : (is : List TxIn) (os : List TxOut) (left next : Left) (f : TxFault) → SomeInputs is → SomeOutputs os → Passed left (parts_encoding is os) next
    → FaultInWitnesses is next.place next.rest f → FaultInWitnessForm left.place left.rest f
witnesses_stopped is os left next f ins outs p (within s) =
    first_fault.FaultInWitnessForm.in_stacks (made (pos 0) is os 0) (lawful (pos 0) is is os 0 zero_fits ins (as_read is ins.bare) outs zero_below)
    (after (parts_encoding is os) (FaultInStacks (length is)) left next f p s)
witnesses_stopped is os left next f ins outs p (all_empty full filled none b) =
    let t = made (pos 0) full os 0 in
    let there = stand (flat_map stack_encoding full) next b.more in
    let body : Passed left (body_encoding t) next = subst (λ (text : List ℕ). Passed left text next) (same_parts (pos 0) is full os 0 filled) p in
    let whole = Passed-then left (body_encoding t) next (flat_map stack_encoding full) there body (stand_passed (flat_map stack_encoding full) (FaultHere fault.EmptyWitness) next f b) in
    first_fault.FaultInWitnessForm.no_witness t (lawful (pos 0) is full os 0 zero_fits ins filled outs zero_below) none
    (after (body_encoding t ++ flat_map stack_encoding full) (FaultHere fault.EmptyWitness) left there f whole b.next)

pub witnessed_sound : (version : ℤ) (left : Left) → Fits version → AreBytes left.rest
    → Sound (witnessed_at version left) (λ x. Took left (full_rest x.0) x.1 × IsLawful x.0 × (has_witness x.0 ≡ true) × (x.0.version ≡ version)) (FaultInWitnessForm left.place left.rest)
unfolding witnessed_at
witnessed_sound version left version_fits fits =
    step (body_at left) _ (body_sound left fits)
    (λ body p. step (witnesses_at body.0.0 body.1) _ (witnesses_sound body.0.0 body.1 p.1.bare p.0.fits)
    (λ full q.
    let parts : Took left (parts_encoding full.0 body.0.1) body.1 = subst (λ (text : List ℕ). Took left text body.1) (same_parts (pos 0) body.0.0 full.0 body.0.1 0 q.1) p.0 in
    step (number_at w32 full.1) _ (number_sound w32 (2 ^ 32) wide32 full.1 q.0.fits)
    (λ lock r. done (made version full.0 body.0.1 lock.0, lock.1) (
      Took-then left (parts_encoding full.0 body.0.1) body.1 (flat_map stack_encoding full.0 ++ to_le_bytes w32 lock.0) lock.1 parts (Took-then body.1 (flat_map stack_encoding full.0) full.1 (to_le_bytes w32 lock.0) lock.1 q.0 r.0),
      lawful version body.0.0 full.0 body.0.1 lock.0 version_fits p.1 q.1 p.2 r.1,
      q.2,
      refl,
    ))
    (λ e s. first_fault.FaultInWitnessForm.in_lock (made (pos 0) full.0 body.0.1 0) (lawful (pos 0) body.0.0 full.0 body.0.1 0 zero_fits p.1 q.1 p.2 zero_below) q.2
    (after (parts_encoding full.0 body.0.1 ++ flat_map stack_encoding full.0) (FaultInField 4) left full.1 e (Passed-then left (parts_encoding full.0 body.0.1) body.1 (flat_map stack_encoding full.0) full.1 parts.passed q.0.passed) s)))
    (λ e s. witnesses_stopped body.0.0 body.0.1 left body.1 e p.1 p.2 p.0.passed s))
    (λ e s. first_fault.FaultInWitnessForm.in_body s)

pub witnessed_again : (t : Tx) (left next : Left) → IsLawful t → has_witness t ≡ true → Passed left (full_rest t) next → witnessed_at t.version left ≡ Ok (t, next)
unfolding witnessed_at
witnessed_again t left next is some p =
    let lock = to_le_bytes w32 t.lock in
    let first = middle left (body_encoding t) (flat_map stack_encoding t.inputs ++ lock) next in
    let second = middle first (flat_map stack_encoding t.inputs) lock next in
    let q = Passed-back left (body_encoding t) (flat_map stack_encoding t.inputs ++ lock) next p in
    let a = body_again t left first is (Passed-front left (body_encoding t) (flat_map stack_encoding t.inputs ++ lock) next p) in
    let b = witnesses_again t.inputs first second is.inputs some (Passed-front first (flat_map stack_encoding t.inputs) lock next q) in
    let c = number_again w32 (2 ^ 32) wide32 t.lock second next is.lock (Passed-back first (flat_map stack_encoding t.inputs) lock next q) in
    rw (a, b, c) refl

pub witnessed_refuses : (version : ℤ) (left : Left) (f : TxFault) → FaultInWitnessForm left.place left.rest f → witnessed_at version left ≡ Err f
unfolding witnessed_at
witnessed_refuses version left f (first_fault.FaultInWitnessForm.in_body s) = rw (body_refuses left f s) refl
witnessed_refuses version left f (first_fault.FaultInWitnessForm.in_stacks t is b) =
    let there = stand (body_encoding t) left b.more in
    rw (body_again t left there is (stand_passed (body_encoding t) (FaultInStacks (length t.inputs)) left f b), witnesses_refuse t.inputs there f b.next) refl
witnessed_refuses version left f (first_fault.FaultInWitnessForm.no_witness t is none b) =
    let there = stand (body_encoding t ++ flat_map stack_encoding t.inputs) left b.more in
    let p = stand_passed (body_encoding t ++ flat_map stack_encoding t.inputs) (FaultHere fault.EmptyWitness) left f b in
    let mid = middle left (body_encoding t) (flat_map stack_encoding t.inputs) there in
    let a = body_again t left mid is (Passed-front left (body_encoding t) (flat_map stack_encoding t.inputs) there p) in
    let c = witnesses_stop t.inputs mid there is.inputs none (Passed-back left (body_encoding t) (flat_map stack_encoding t.inputs) there p) in
    rw (a, c, b.next) refl
witnessed_refuses version left f (first_fault.FaultInWitnessForm.in_lock t is some b) =
    let there = stand (body_encoding t ++ flat_map stack_encoding t.inputs) left b.more in
    let p = stand_passed (body_encoding t ++ flat_map stack_encoding t.inputs) (FaultInField 4) left f b in
    let mid = middle left (body_encoding t) (flat_map stack_encoding t.inputs) there in
    let a = body_again t left mid is (Passed-front left (body_encoding t) (flat_map stack_encoding t.inputs) there p) in
    let c = witnesses_again t.inputs mid there is.inputs some (Passed-back left (body_encoding t) (flat_map stack_encoding t.inputs) there p) in
    rw (a, c, number_refuses w32 there f b.next) refl
