-- The inputs, the outputs and the witnesses of a transaction: what is read is encoded so or has that fault, and the other way round.
use Rattle.std.proofs.Common.{◌≡◌, ℕ, ◌+◌, ◌<◌, ◌≤◌, ◌==◌, true, false, List, [], ◌∷◌, ◌++◌, length, map, Ok, Err, refl, sym, ap, subst, ◌∙◌, append_assoc, length-append, arith, eqb-true, inl, inr}
use Rattle.std.specs.List.{flat_map, AllByRecursion}
use Rattle.std.proofs.lemmas.Bool.{eqb-false, cases_Bool}
use Rattle.std.proofs.lemmas.List.{length-map, append-nil, flat_map_more}
use Rattle.std.proofs.lemmas.List.Concat.{flat_map-cons}
use Rattle.std.proofs.lemmas.List.Folds.{flat_map-map}
use Rattle.el_base.specs.Left.{Left, AreBytes}
use Rattle.el_base.specs.Compact.{compact}
use Rattle.el_base.proofs.Lists.{all_more, all_weaker}
use Rattle.el_tx.specs.declared.fault.TxFault.{TxFault}
use Rattle.el_tx.specs.declared.fault.TxFault.TheVariants as fault
use Rattle.el_tx.specs.declared.types.TxIn.{TxIn}
use Rattle.el_tx.specs.declared.types.TxOut.{TxOut}
use Rattle.el_tx.specs.declared.types.Tx.{Tx}
use Rattle.el_tx.specs.Encoding.{some_witness, sized, counted, input_encoding, output_encoding, stack_encoding, body_encoding, Countable, IsItem, IsInput, IsLawful}
use Rattle.el_tx.specs.FirstFault.{After, FaultHere, FaultInCounted, in_number, after_number, FaultInSized, FaultAmong, FaultInInputs, FaultInOutputs, FaultInBody, in_inputs, in_outputs, FaultInStack, FaultInStacks, IsStack, AreOutputs}
use Rattle.el_tx.specs.FirstFault as first_fault
use Rattle.el_tx.specs.within.Reading.{count_at, inputs_at, outputs_at, items_at, stack_at, stacks_at, witnesses_at, some_inputs_at, some_outputs_at, body_at}
use Rattle.el_tx.proofs.Passed.{Passed, Took, Took-then, middle, Passed-front, Passed-back, none_passed, after, stand, stand_passed, Sound, err, done, step, weaker, guarded, either}
use Rattle.el_tx.proofs.Fields.{count_sound, count_again, count_refuses}
use Rattle.el_tx.proofs.Parts.{IsBare, bare, inputs_sound, inputs_again, inputs_refuse, outputs_sound, outputs_again, outputs_refuse, items_sound, items_again, items_refuse}

is_zero : (n : ℕ) → n ≡ 0 → n == 0 ≡ true
is_zero n e = rw e refl

not_zero : (n : ℕ) → 0 < n → n == 0 ≡ false
not_zero n h =
    elim (cases_Bool (n == 0)) [
      | inl t ↦ absurd (let none = eqb-true n 0 t in omega arith)
      | inr t ↦ t
    ]

-- ---- the inputs after their number

pub record SomeInputs (is : List TxIn) : Type 0 where
  pub some : 1 ≤ length is
  pub few : Countable is
  pub bare : AllByRecursion IsBare is

pub some_inputs_sound : (left : Left) → AreBytes left.rest
    → Sound (some_inputs_at left) (λ x. Took left (counted input_encoding x.0) x.1 × SomeInputs x.0) (FaultInCounted FaultInInputs left.place left.rest)
unfolding some_inputs_at
some_inputs_sound left fits =
    step (count_at left) _ (count_sound left fits)
    (λ n p. guarded (n.0 == 0) fault.NoInputs (inputs_at n.0 n.1)
    (λ h. after_number n.0 p.1 (after (compact n.0) (FaultInInputs n.0) left n.1 fault.NoInputs p.0.passed (first_fault.FaultInInputs.none (eqb-true n.0 0 h) refl)))
    (λ h. weaker (inputs_at n.0 n.1) (inputs_sound n.0 n.1 p.0.fits)
    (λ x q.
    let whole = Took-then left (compact n.0) n.1 (flat_map input_encoding x.0) x.1 p.0 q.0 in
    let not_none = eqb-false n.0 0 h in
    let size = q.1 in
    let few = p.1 in (
      subst (λ (k : ℕ). Took left (compact k ++ flat_map input_encoding x.0) x.1) (sym q.1) whole,
      record { some = omega arith; few = omega arith; bare = q.2 },
    ))
    (λ e s. after_number n.0 p.1 (after (compact n.0) (FaultInInputs n.0) left n.1 e p.0.passed (first_fault.FaultInInputs.among s)))))
    (λ e s. in_number s)

pub some_inputs_again : (is : List TxIn) (left next : Left) → 1 ≤ length is → Countable is → AllByRecursion IsInput is → Passed left (counted input_encoding is) next
    → some_inputs_at left ≡ Ok (map bare is, next)
unfolding some_inputs_at
some_inputs_again is left next some few all p =
    let mid = middle left (compact (length is)) (flat_map input_encoding is) next in
    let a : count_at left ≡ Ok (length is, mid) = count_again (length is) left mid few (Passed-front left (compact (length is)) (flat_map input_encoding is) next p) in
    let b = inputs_again is mid next all (Passed-back left (compact (length is)) (flat_map input_encoding is) next p) in
    rw (a, not_zero (length is) (omega arith), b) refl

inputs_counted : (n : ℕ) (left there : Left) (f : TxFault) → count_at left ≡ Ok (n, there) → FaultInInputs n there.place there.rest f → some_inputs_at left ≡ Err f
unfolding some_inputs_at
inputs_counted n left there f a (first_fault.FaultInInputs.none is s) = rw (a, is_zero n is, s) refl
inputs_counted n left there f a (first_fault.FaultInInputs.among s) =
    let fewer = s.fewer in
    rw (a, not_zero n (omega arith), inputs_refuse n there f s) refl

pub some_inputs_refuse : (left : Left) (f : TxFault) → FaultInCounted FaultInInputs left.place left.rest f → some_inputs_at left ≡ Err f
unfolding some_inputs_at
some_inputs_refuse left f (in_number s) = rw (count_refuses left f s) refl
some_inputs_refuse left f (after_number n lt b) =
    let there = stand (compact n) left b.more in
    inputs_counted n left there f (count_again n left there lt (stand_passed (compact n) (FaultInInputs n) left f b)) b.next

-- ---- the outputs after their number

pub record SomeOutputs (os : List TxOut) : Type 0 where
  pub some : 1 ≤ length os
  pub few : Countable os
  pub are : AreOutputs os

pub some_outputs_sound : (left : Left) → AreBytes left.rest
    → Sound (some_outputs_at left) (λ x. Took left (counted output_encoding x.0) x.1 × SomeOutputs x.0) (FaultInCounted FaultInOutputs left.place left.rest)
unfolding some_outputs_at
some_outputs_sound left fits =
    step (count_at left) _ (count_sound left fits)
    (λ n p. guarded (n.0 == 0) fault.NoOutputs (outputs_at n.0 n.1)
    (λ h. after_number n.0 p.1 (after (compact n.0) (FaultInOutputs n.0) left n.1 fault.NoOutputs p.0.passed (first_fault.FaultInOutputs.none (eqb-true n.0 0 h) refl)))
    (λ h. weaker (outputs_at n.0 n.1) (outputs_sound n.0 n.1 p.0.fits)
    (λ x q.
    let whole = Took-then left (compact n.0) n.1 (flat_map output_encoding x.0) x.1 p.0 q.0 in
    let not_none = eqb-false n.0 0 h in
    let size = q.1 in
    let few = p.1 in (
      subst (λ (k : ℕ). Took left (compact k ++ flat_map output_encoding x.0) x.1) (sym q.1) whole,
      record { some = omega arith; few = omega arith; are = q.2 },
    ))
    (λ e s. after_number n.0 p.1 (after (compact n.0) (FaultInOutputs n.0) left n.1 e p.0.passed (first_fault.FaultInOutputs.among s)))))
    (λ e s. in_number s)

pub some_outputs_again : (os : List TxOut) (left next : Left) → SomeOutputs os → Passed left (counted output_encoding os) next → some_outputs_at left ≡ Ok (os, next)
unfolding some_outputs_at
some_outputs_again os left next are p =
    let mid = middle left (compact (length os)) (flat_map output_encoding os) next in
    let a : count_at left ≡ Ok (length os, mid) = count_again (length os) left mid are.few (Passed-front left (compact (length os)) (flat_map output_encoding os) next p) in
    let b = outputs_again os mid next are.are (Passed-back left (compact (length os)) (flat_map output_encoding os) next p) in
    let some = are.some in
    rw (a, not_zero (length os) (omega arith), b) refl

outputs_counted : (n : ℕ) (left there : Left) (f : TxFault) → count_at left ≡ Ok (n, there) → FaultInOutputs n there.place there.rest f → some_outputs_at left ≡ Err f
unfolding some_outputs_at
outputs_counted n left there f a (first_fault.FaultInOutputs.none is s) = rw (a, is_zero n is, s) refl
outputs_counted n left there f a (first_fault.FaultInOutputs.among s) =
    let fewer = s.fewer in
    rw (a, not_zero n (omega arith), outputs_refuse n there f s) refl

pub some_outputs_refuse : (left : Left) (f : TxFault) → FaultInCounted FaultInOutputs left.place left.rest f → some_outputs_at left ≡ Err f
unfolding some_outputs_at
some_outputs_refuse left f (in_number s) = rw (count_refuses left f s) refl
some_outputs_refuse left f (after_number n lt b) =
    let there = stand (compact n) left b.more in
    outputs_counted n left there f (count_again n left there lt (stand_passed (compact n) (FaultInOutputs n) left f b)) b.next

-- ---- both

-- the text of the inputs and the outputs
abbrev pub parts_encoding : List TxIn → List TxOut → List ℕ
parts_encoding is os = counted input_encoding is ++ counted output_encoding os

pub body_sound : (left : Left) → AreBytes left.rest
    → Sound (body_at left) (λ x. Took left (parts_encoding x.0.0 x.0.1) x.1 × SomeInputs x.0.0 × SomeOutputs x.0.1) (FaultInBody left.place left.rest)
unfolding body_at
body_sound left fits =
    step (some_inputs_at left) _ (some_inputs_sound left fits)
    (λ is p. step (some_outputs_at is.1) _ (some_outputs_sound is.1 p.0.fits)
    (λ os q. done ((is.0, os.0), os.1) (Took-then left (counted input_encoding is.0) is.1 (counted output_encoding os.0) os.1 p.0 q.0, p.1, q.1))
    (λ e s. in_outputs is.0 p.1.some p.1.few (all_weaker IsBare IsInput is.0 (λ i b. b.0) p.1.bare) (after (counted input_encoding is.0) (FaultInCounted FaultInOutputs) left is.1 e p.0.passed s)))
    (λ e s. in_inputs s)

pub body_again : (t : Tx) (left next : Left) → IsLawful t → Passed left (body_encoding t) next → body_at left ≡ Ok ((map bare t.inputs, t.outputs), next)
unfolding body_at
body_again t left next lawful p =
    let mid = middle left (counted input_encoding t.inputs) (counted output_encoding t.outputs) next in
    let a : some_inputs_at left ≡ Ok (map bare t.inputs, mid) = some_inputs_again t.inputs left mid lawful.some_inputs lawful.few_inputs lawful.inputs (Passed-front left (counted input_encoding t.inputs) (counted output_encoding t.outputs) next p) in
    let outputs : SomeOutputs t.outputs = record { some = lawful.some_outputs; few = lawful.few_outputs; are = (lawful.outputs, lawful.money) } in
    let b = some_outputs_again t.outputs mid next outputs (Passed-back left (counted input_encoding t.inputs) (counted output_encoding t.outputs) next p) in
    rw (a, b) refl

pub body_refuses : (left : Left) (f : TxFault) → FaultInBody left.place left.rest f → body_at left ≡ Err f
unfolding body_at
body_refuses left f (in_inputs s) = rw (some_inputs_refuse left f s) refl
body_refuses left f (in_outputs is some few all b) =
    let there = stand (counted input_encoding is) left b.more in
    let a = some_inputs_again is left there some few all (stand_passed (counted input_encoding is) (FaultInCounted FaultInOutputs) left f b) in
    rw (a, some_outputs_refuse there f b.next) refl

-- ---- the witness of one input

pub stack_sound : (left : Left) → AreBytes left.rest → Sound (stack_at left) (λ x. Took left (counted sized x.0) x.1 × IsStack x.0) (FaultInStack left.place left.rest)
unfolding stack_at
stack_sound left fits =
    step (count_at left) _ (count_sound left fits)
    (λ n p. weaker (items_at n.0 n.1) (items_sound n.0 n.1 p.0.fits)
    (λ x q.
    let whole = Took-then left (compact n.0) n.1 (flat_map sized x.0) x.1 p.0 q.0 in (
      subst (λ (k : ℕ). Took left (compact k ++ flat_map sized x.0) x.1) (sym q.1) whole,
      (rw q.1 p.1, q.2),
    ))
    (λ e s. after_number n.0 p.1 (after (compact n.0) (FaultAmong (AllByRecursion IsItem) sized (λ _. FaultInSized) n.0) left n.1 e p.0.passed s)))
    (λ e s. in_number s)

pub stack_again : (stack : List (List ℕ)) (left next : Left) → IsStack stack → Passed left (counted sized stack) next → stack_at left ≡ Ok (stack, next)
unfolding stack_at
stack_again stack left next is p =
    let mid = middle left (compact (length stack)) (flat_map sized stack) next in
    let a : count_at left ≡ Ok (length stack, mid) = count_again (length stack) left mid is.0 (Passed-front left (compact (length stack)) (flat_map sized stack) next p) in
    let b = items_again stack mid next is.1 (Passed-back left (compact (length stack)) (flat_map sized stack) next p) in
    rw (a, b) refl

pub stack_refuses : (left : Left) (f : TxFault) → FaultInStack left.place left.rest f → stack_at left ≡ Err f
unfolding stack_at
stack_refuses left f (in_number s) = rw (count_refuses left f s) refl
stack_refuses left f (after_number n lt b) =
    let there = stand (compact n) left b.more in
    let a = count_again n left there lt (stand_passed (compact n) (FaultAmong (AllByRecursion IsItem) sized (λ _. FaultInSized) n) left f b) in
    rw (a, items_refuse n there f b.next) refl

-- ---- the witnesses of all inputs

-- the witnesses as the relation names them
abbrev pub witness_of : TxIn → List (List ℕ)
witness_of i = i.witness

stacks_of : (is : List TxIn) → AllByRecursion IsInput is → AllByRecursion IsStack (map witness_of is)
stacks_of [] all = tt
stacks_of (i ∷ is) all = ((all.0.items, all.0.witness), stacks_of is all.1)

stack_encodings : (is : List TxIn) → flat_map (counted sized) (map witness_of is) ≡ flat_map stack_encoding is
stack_encodings is = flat_map-map (counted sized) witness_of is

-- the same inputs, with witnesses
pub record Full (is full : List TxIn) : Type 0 where
  pub all : AllByRecursion IsInput full
  pub text : flat_map input_encoding full ≡ flat_map input_encoding is
  pub size : length full ≡ length is

with_witness : (i : TxIn) (stack : List (List ℕ)) → IsInput i → IsStack stack → IsInput (record i { witness = stack })
with_witness i stack is s = record { txid_size = is.txid_size; txid_bytes = is.txid_bytes; index = is.index; script = is.script; sequence = is.sequence; items = s.0; witness = s.1 }

-- a fault in the witness of the next input
stacks_stop : (start left : Left) (count : ℕ) (full : List TxIn) (f : TxFault) → length full < count → AllByRecursion IsInput full → Passed start (flat_map stack_encoding full) left
    → FaultInStack left.place left.rest f → FaultInStacks count start.place start.rest f
stacks_stop start left count full f fewer all p s =
    let text : Passed start (flat_map (counted sized) (map witness_of full)) left = subst (λ (t : List ℕ). Passed start t left) (sym (stack_encodings full)) p in
    record {
      before = map witness_of full;
      fewer = rw length-map fewer;
      lawful = stacks_of full all;
      next = after (flat_map (counted sized) (map witness_of full)) FaultInStack start left f text s;
    }

-- the inputs with witnesses and those without, in order
more_text : (full rest : List TxIn) (i : TxIn) (stack : List (List ℕ)) (all : List TxIn) → flat_map input_encoding full ++ flat_map input_encoding (i ∷ rest) ≡ flat_map input_encoding all
    → flat_map input_encoding (full ++ record i { witness = stack } ∷ []) ++ flat_map input_encoding rest ≡ flat_map input_encoding all
more_text full rest i stack all e =
    let first = flat_map_more input_encoding [] full (record i { witness = stack }) in
    let second = flat_map-cons input_encoding i rest in
    ap (λ (t : List ℕ). t ++ flat_map input_encoding rest) (sym first) ∙ append_assoc (flat_map input_encoding full) (input_encoding i) (flat_map input_encoding rest) ∙ ap (λ (t : List ℕ). flat_map input_encoding full ++ t) (sym second) ∙ e

pub stacks_sound : (is : List TxIn) (start : Left) (full rest : List TxIn) (left : Left) → length full + length rest ≡ length is
    → flat_map input_encoding full ++ flat_map input_encoding rest ≡ flat_map input_encoding is → Took start (flat_map stack_encoding full) left → AllByRecursion IsInput full → AllByRecursion IsInput rest
    → Sound (stacks_at full rest left) (λ xs. Took start (flat_map stack_encoding xs.0) xs.1 × Full is xs.0) (FaultInStacks (length is) start.place start.rest)
unfolding stacks_at
stacks_sound is start full [] left size text took all others =
    done (full, left) (took, record { all = all; text = sym (append-nil (flat_map input_encoding full)) ∙ text; size = omega arith })
stacks_sound is start full (i ∷ rest) left size text took all others =
    step (stack_at left) _ (stack_sound left took.fits)
    (λ stack p.
    let next = full ++ record i { witness = stack.0 } ∷ [] in
    let longer : length (full ++ record i { witness = stack.0 } ∷ []) + length rest ≡ length is = simp length-append (omega arith) in
    let whole : Took start (flat_map stack_encoding next) stack.1 = subst (λ (t : List ℕ). Took start t stack.1) (flat_map_more stack_encoding [] full (record i { witness = stack.0 })) (Took-then start (flat_map stack_encoding full) left (counted sized stack.0) stack.1 took p.0) in
    stacks_sound is start next rest stack.1 longer (more_text full rest i stack.0 is text) whole (all_more IsInput full (record i { witness = stack.0 }) all (with_witness i stack.0 others.0 p.1)) others.1)
    (λ e s. stacks_stop start left (length is) full e (omega arith) all took.passed s)

pub stacks_again : (full is : List TxIn) (left next : Left) → AllByRecursion IsInput is → Passed left (flat_map stack_encoding is) next → stacks_at full (map bare is) left ≡ Ok (full ++ is, next)
unfolding stacks_at
stacks_again full [] left next all p =
    let same = none_passed left next p in
    rw (same, append-nil full) refl
stacks_again full (i ∷ is) left next all p =
    let q : Passed left (stack_encoding i ++ flat_map stack_encoding is) next = rw flat_map-cons at p in
    let mid = middle left (stack_encoding i) (flat_map stack_encoding is) next in
    let a : stack_at left ≡ Ok (i.witness, mid) = stack_again i.witness left mid (all.0.items, all.0.witness) (Passed-front left (stack_encoding i) (flat_map stack_encoding is) next q) in
    let b = stacks_again (full ++ i ∷ []) is mid next all.1 (Passed-back left (stack_encoding i) (flat_map stack_encoding is) next q) in
    let start : stacks_at full (map bare (i ∷ is)) left ≡ stacks_at (full ++ i ∷ []) (map bare is) mid = rw a refl in
    start ∙ b ∙ ap (λ (xs : List TxIn). Ok (xs, next)) (append_assoc full (i ∷ []) is)

-- stacks in front of a fault
refused_after : (full is : List TxIn) (stacks : List (List (List ℕ))) (left there : Left) (f : TxFault) → length stacks < length is → AllByRecursion IsStack stacks
    → Passed left (flat_map (counted sized) stacks) there → FaultInStack there.place there.rest f → stacks_at full is left ≡ Err f
unfolding stacks_at
refused_after full [] stacks left there f fewer all p s = absurd (omega arith)
refused_after full (i ∷ is) [] left there f fewer all p s =
    let same = none_passed left there p in
    rw (same, stack_refuses there f s) refl
refused_after full (i ∷ is) (stack ∷ stacks) left there f fewer all p s =
    let q : Passed left (counted sized stack ++ flat_map (counted sized) stacks) there = rw flat_map-cons at p in
    let mid = middle left (counted sized stack) (flat_map (counted sized) stacks) there in
    let a : stack_at left ≡ Ok (stack, mid) = stack_again stack left mid all.0 (Passed-front left (counted sized stack) (flat_map (counted sized) stacks) there q) in
    let b = refused_after (full ++ record i { witness = stack } ∷ []) is stacks mid there f (omega arith) all.1 (Passed-back left (counted sized stack) (flat_map (counted sized) stacks) there q) s in
    rw a b

pub stacks_refuse : (full is : List TxIn) (left : Left) (f : TxFault) → FaultInStacks (length is) left.place left.rest f → stacks_at full is left ≡ Err f
stacks_refuse full is left f s =
    let there = stand (flat_map (counted sized) s.before) left s.next.more in
    refused_after full is s.before left there f s.fewer s.lawful (stand_passed (flat_map (counted sized) s.before) FaultInStack left f s.next) s.next.next

-- the witnesses, of which some is not empty

pub data FaultInWitnesses (is : List TxIn) (place : ℕ) (bytes : List ℕ) (f : TxFault) : Type 0 where
  within : FaultInStacks (length is) place bytes f → FaultInWitnesses is place bytes f
  all_empty : (full : List TxIn) → Full is full → some_witness full ≡ false → After (flat_map stack_encoding full) (FaultHere fault.EmptyWitness) place bytes f → FaultInWitnesses is place bytes f

pub witnesses_sound : (is : List TxIn) (left : Left) → AllByRecursion IsBare is → AreBytes left.rest
    → Sound (witnesses_at is left) (λ xs. Took left (flat_map stack_encoding xs.0) xs.1 × Full is xs.0 × (some_witness xs.0 ≡ true)) (FaultInWitnesses is left.place left.rest)
unfolding witnesses_at
witnesses_sound is left bares fits =
    let all = all_weaker IsBare IsInput is (λ i b. b.0) bares in
    let nothing : Took left (flat_map stack_encoding []) left = record { passed = record { parts = refl; place = omega arith }; fits = fits } in
    let size : 0 + length is ≡ length is = omega arith in
    step (stacks_at [] is left) _ (stacks_sound is left [] is left size refl nothing tt all)
    (λ xs p. either (some_witness xs.0) (Ok xs) (Err fault.EmptyWitness)
    (λ h. done xs (p.0, p.1, h))
    (λ h. err fault.EmptyWitness refl (all_empty xs.0 p.1 h (after (flat_map stack_encoding xs.0) (FaultHere fault.EmptyWitness) left xs.1 fault.EmptyWitness p.0.passed refl))))
    (λ e s. within s)

pub witnesses_again : (is : List TxIn) (left next : Left) → AllByRecursion IsInput is → some_witness is ≡ true → Passed left (flat_map stack_encoding is) next
    → witnesses_at (map bare is) left ≡ Ok (is, next)
unfolding witnesses_at
witnesses_again is left next all some p = rw (stacks_again [] is left next all p, some) refl

pub witnesses_stop : (is : List TxIn) (left next : Left) → AllByRecursion IsInput is → some_witness is ≡ false → Passed left (flat_map stack_encoding is) next
    → witnesses_at (map bare is) left ≡ Err fault.EmptyWitness
unfolding witnesses_at
witnesses_stop is left next all some p = rw (stacks_again [] is left next all p, some) refl

pub witnesses_refuse : (is : List TxIn) (left : Left) (f : TxFault) → FaultInStacks (length is) left.place left.rest f → witnesses_at (map bare is) left ≡ Err f
unfolding witnesses_at
witnesses_refuse is left f s =
    let same : FaultInStacks (length (map bare is)) left.place left.rest f = rw length-map s in
    rw (stacks_refuse [] (map bare is) left f same) refl
