-- The parts of a transaction: what is read is encoded so or has that fault, and the other way round.
use Rattle.std.proofs.Common.{◌≡◌, ℕ, ◌+◌, ◌<◌, ◌≤◌, ◌^◌, List, [], ◌∷◌, ◌++◌, length, map, Ok, Err, refl, sym, ap, subst, ◌∙◌, arith, ltb-false, le-ltb, lt-ltb, ltb-true, nat_lt}
use Rattle.std.specs.List.{flat_map, AllByRecursion}
use Rattle.std.specs.Int.{w32, w64, from_le_bytes, to_le_bytes}
use Rattle.std.proofs.lemmas.List.{length-map}
use Rattle.std.proofs.lemmas.List.Concat.{flat_map-cons}
use Rattle.std.proofs.lemmas.List.Sums.{sum_by_push, sum_by-cons}
use Rattle.el_base.specs.Left.{Left, AreBytes}
use Rattle.el_base.proofs.Lists.{all_more, all_weaker}
use Rattle.el_tx.specs.declared.fault.TxFault.{TxFault}
use Rattle.el_tx.specs.declared.fault.TxFault.TheVariants as fault
use Rattle.el_tx.specs.declared.types.Outpoint.{Outpoint}
use Rattle.el_tx.specs.declared.types.TxIn.{TxIn}
use Rattle.el_tx.specs.declared.types.TxOut.{TxOut}
use Rattle.el_tx.specs.Encoding.{sized, outpoint_encoding, input_encoding, output_encoding, max_money, total_value, IsItem, IsInput, IsOutput}
use Rattle.el_tx.specs.FirstFault.{After, FaultInField, FaultHere, FaultInSized, FaultAmong, FaultInInput, in_txid, in_index, in_script, in_sequence, FaultInOutput, AreOutputs}
use Rattle.el_tx.specs.FirstFault as first_fault
use Rattle.el_tx.specs.within.Reading.{bytes_at, number_at, sized_at, outpoint_at, input_at, inputs_at, value_at, output_at, next_output_at, outputs_at, items_at}
use Rattle.el_tx.proofs.Passed.{Passed, Took, Took-then, middle, Passed-then, Passed-front, Passed-back, after, stand, stand_passed, Sound, done, step, weaker, guarded}
use Rattle.el_tx.proofs.Fields.{bytes_sound, bytes_again, bytes_refuses, wide32, wide64, number_sound, number_passes, number_again, number_refuses, sized_sound, sized_again, sized_refuses}
use Rattle.el_tx.proofs.Many.{Chain, Chain-all, many_sound, many_again, many_refuses}

-- ---- outpoints

pub record IsOutpoint (o : Outpoint) : Type 0 where
  pub txid_size : length o.txid.0 ≡ 32
  pub txid_bytes : AreBytes o.txid.0
  pub index : o.index < 2 ^ 32

-- where no outpoint is read
pub data FaultInOutpoint (place : ℕ) (bytes : List ℕ) (f : TxFault) : Type 0 where
  first : FaultInField 32 place bytes f → FaultInOutpoint place bytes f
  second : (txid : List ℕ) → length txid ≡ 32 → After txid (FaultInField 4) place bytes f → FaultInOutpoint place bytes f

pub outpoint_sound : (left : Left) → AreBytes left.rest
    → Sound (outpoint_at left) (λ x. Took left (outpoint_encoding x.0) x.1 × IsOutpoint x.0) (FaultInOutpoint left.place left.rest)
unfolding outpoint_at
outpoint_sound left fits =
    step (bytes_at 32 left) _ (bytes_sound 32 left fits)
    (λ txid p. step (number_at w32 txid.1) _ (number_sound w32 (2 ^ 32) wide32 txid.1 p.0.fits)
    (λ index q. done (record { txid = record { 0 = txid.0 }; index = index.0 }, index.1) (
      Took-then left txid.0 txid.1 (to_le_bytes w32 index.0) index.1 p.0 q.0,
      record { txid_size = p.1; txid_bytes = p.2; index = q.1 },
    ))
    (λ e s. second txid.0 p.1 (after txid.0 (FaultInField 4) left txid.1 e p.0.passed s)))
    (λ e s. first s)

pub outpoint_again : (o : Outpoint) (left next : Left) → IsOutpoint o → Passed left (outpoint_encoding o) next → outpoint_at left ≡ Ok (o, next)
unfolding outpoint_at
outpoint_again o left next is p =
    let mid = middle left o.txid.0 (to_le_bytes w32 o.index) next in
    let a : bytes_at 32 left ≡ Ok (o.txid.0, mid) = bytes_again 32 left o.txid.0 mid is.txid_size (Passed-front left o.txid.0 (to_le_bytes w32 o.index) next p) in
    let b : number_at w32 mid ≡ Ok (o.index, next) = number_again w32 (2 ^ 32) wide32 o.index mid next is.index (Passed-back left o.txid.0 (to_le_bytes w32 o.index) next p) in
    rw (a, b) refl

-- any 36 bytes are one
pub outpoint_passes : (left : Left) (txid index : List ℕ) (next : Left) → length txid ≡ 32 → length index ≡ 4 → Passed left (txid ++ index) next
    → outpoint_at left ≡ Ok (record { txid = record { 0 = txid }; index = from_le_bytes w32 index }, next)
unfolding outpoint_at
outpoint_passes left txid index next size four p =
    let mid = middle left txid index next in
    let a : bytes_at 32 left ≡ Ok (txid, mid) = bytes_again 32 left txid mid size (Passed-front left txid index next p) in
    let b : number_at w32 mid ≡ Ok (from_le_bytes w32 index, next) = number_passes w32 mid index next four (Passed-back left txid index next p) in
    rw (a, b) refl

pub outpoint_refuses : (left : Left) (f : TxFault) → FaultInOutpoint left.place left.rest f → outpoint_at left ≡ Err f
unfolding outpoint_at
outpoint_refuses left f (first s) = rw (bytes_refuses 32 left f s) refl
outpoint_refuses left f (second txid size b) =
    let there = stand txid left b.more in
    let a : bytes_at 32 left ≡ Ok (txid, there) = bytes_again 32 left txid there size (stand_passed txid (FaultInField 4) left f b) in
    rw (a, number_refuses w32 there f b.next) refl

-- ---- inputs

-- an input, as yet without its witness
abbrev pub IsBare : TxIn → Type 0
IsBare i = IsInput i × (i.witness ≡ [])

outpoint_faults : (place : ℕ) (bytes : List ℕ) (f : TxFault) → FaultInOutpoint place bytes f → FaultInInput place bytes f
outpoint_faults place bytes f (first s) = in_txid s
outpoint_faults place bytes f (second txid size b) = in_index txid size b

pub input_sound : (left : Left) → AreBytes left.rest
    → Sound (input_at left) (λ x. Took left (input_encoding x.0) x.1 × IsBare x.0) (FaultInInput left.place left.rest)
unfolding input_at
input_sound left fits =
    step (outpoint_at left) _ (outpoint_sound left fits)
    (λ from p. step (sized_at from.1) _ (sized_sound from.1 p.0.fits)
    (λ script q. step (number_at w32 script.1) _ (number_sound w32 (2 ^ 32) wide32 script.1 q.0.fits)
    (λ sequence r. done (record { from = from.0; script = script.0; sequence = sequence.0; witness = [] }, sequence.1) (
      Took-then left (outpoint_encoding from.0) from.1 (sized script.0 ++ to_le_bytes w32 sequence.0) sequence.1 p.0 (Took-then from.1 (sized script.0) script.1 (to_le_bytes w32 sequence.0) sequence.1 q.0 r.0),
      (
        record { txid_size = p.1.txid_size; txid_bytes = p.1.txid_bytes; index = p.1.index; script = q.1; sequence = r.1; items = omega arith; witness = tt },
        refl,
      ),
    ))
    (λ e s. in_sequence from.0.txid.0 (to_le_bytes w32 from.0.index) script.0 p.1.txid_size refl q.1
    (after (outpoint_encoding from.0 ++ sized script.0) (FaultInField 4) left script.1 e (Passed-then left (outpoint_encoding from.0) from.1 (sized script.0) script.1 p.0.passed q.0.passed) s)))
    (λ e s. in_script from.0.txid.0 (to_le_bytes w32 from.0.index) p.1.txid_size refl (after (outpoint_encoding from.0) FaultInSized left from.1 e p.0.passed s)))
    (λ e s. outpoint_faults left.place left.rest e s)

-- the input without its witness
abbrev pub bare : TxIn → TxIn
bare i = record i { witness = [] }

pub input_again : (i : TxIn) (left next : Left) → IsInput i → Passed left (input_encoding i) next → input_at left ≡ Ok (bare i, next)
unfolding input_at
input_again i left next is p =
    let sequence = to_le_bytes w32 i.sequence in
    let first = middle left (outpoint_encoding i.from) (sized i.script ++ sequence) next in
    let second = middle first (sized i.script) sequence next in
    let q = Passed-back left (outpoint_encoding i.from) (sized i.script ++ sequence) next p in
    let a : outpoint_at left ≡ Ok (i.from, first) = outpoint_again i.from left first (record { txid_size = is.txid_size; txid_bytes = is.txid_bytes; index = is.index }) (Passed-front left (outpoint_encoding i.from) (sized i.script ++ sequence) next p) in
    let b : sized_at first ≡ Ok (i.script, second) = sized_again i.script first second is.script.0 (Passed-front first (sized i.script) sequence next q) in
    let c : number_at w32 second ≡ Ok (i.sequence, next) = number_again w32 (2 ^ 32) wide32 i.sequence second next is.sequence (Passed-back first (sized i.script) sequence next q) in
    rw (a, b, c) refl

pub input_refuses : (left : Left) (f : TxFault) → FaultInInput left.place left.rest f → input_at left ≡ Err f
unfolding input_at
input_refuses left f (in_txid s) = rw (outpoint_refuses left f (first s)) refl
input_refuses left f (in_index txid size b) = rw (outpoint_refuses left f (second txid size b)) refl
input_refuses left f (in_script txid index size four b) =
    let there = stand (txid ++ index) left b.more in
    let a = outpoint_passes left txid index there size four (stand_passed (txid ++ index) FaultInSized left f b) in
    rw (a, sized_refuses there f b.next) refl
input_refuses left f (in_sequence txid index script size four item b) =
    let there = stand (txid ++ index ++ sized script) left b.more in
    let p = stand_passed (txid ++ index ++ sized script) (FaultInField 4) left f b in
    let mid = middle left (txid ++ index) (sized script) there in
    let a = outpoint_passes left txid index mid size four (Passed-front left (txid ++ index) (sized script) there p) in
    let c = sized_again script mid there item.0 (Passed-back left (txid ++ index) (sized script) there p) in
    rw (a, c, number_refuses w32 there f b.next) refl

-- many inputs

pub bare_encodings : (is : List TxIn) → flat_map input_encoding (map bare is) ≡ flat_map input_encoding is
bare_encodings [] = refl
bare_encodings (i ∷ is) = flat_map-cons input_encoding (bare i) (map bare is) ∙ ap (λ (t : List ℕ). input_encoding i ++ t) (bare_encodings is) ∙ sym (flat_map-cons input_encoding i is)

bare_all : (is : List TxIn) → AllByRecursion IsInput is → AllByRecursion IsBare (map bare is)
bare_all [] all = tt
bare_all (i ∷ is) all =
    let is_bare : IsInput (bare i) = record { txid_size = all.0.txid_size; txid_bytes = all.0.txid_bytes; index = all.0.index; script = all.0.script; sequence = all.0.sequence; items = omega arith; witness = tt } in
    ((is_bare, refl), bare_all is all.1)

-- a bare input is read whole
bare_again : (before : List TxIn) (i : TxIn) (left after : Left) → IsBare i → Passed left (input_encoding i) after → input_at left ≡ Ok (i, after)
bare_again before i left after is p =
    let same : bare i ≡ i = ap (λ (w : List (List ℕ)). record i { witness = w }) (sym is.1) in
    input_again i left after is.0 p ∙ ap (λ (x : TxIn). Ok (x, after)) same

pub inputs_sound : (n : ℕ) (left : Left) → AreBytes left.rest
    → Sound (inputs_at n left) (λ xs. Took left (flat_map input_encoding xs.0) xs.1 × (length xs.0 ≡ n) × AllByRecursion IsBare xs.0) (FaultAmong (AllByRecursion IsInput) input_encoding (λ _. FaultInInput) n left.place left.rest)
inputs_sound n left fits =
    let nothing : Took left (flat_map input_encoding []) left = record { passed = record { parts = refl; place = omega arith }; fits = fits } in
    let zero_and : 0 + n ≡ n = omega arith in
    weaker (inputs_at n left)
    (many_sound (λ _. input_at) (AllByRecursion IsBare) input_encoding (λ _. FaultInInput)
    (λ before l are bs. weaker (input_at l) (input_sound l bs) (λ x p. (p.0, all_more IsBare before x.0 are p.1)) (λ e s. s))
    left n [] n left zero_and nothing tt)
    (λ xs p. p)
    (λ e s. record { before = s.before; fewer = s.fewer; lawful = all_weaker IsBare IsInput s.before (λ i b. b.0) s.lawful; next = s.next })

pub inputs_again : (is : List TxIn) (left next : Left) → AllByRecursion IsInput is → Passed left (flat_map input_encoding is) next
    → inputs_at (length is) left ≡ Ok (map bare is, next)
inputs_again is left next all p =
    let q : Passed left (flat_map input_encoding (map bare is)) next = subst (λ (t : List ℕ). Passed left t next) (sym (bare_encodings is)) p in
    ap (λ n. inputs_at n left) (sym (length-map is bare))
    ∙ many_again (λ _. input_at) (λ _. IsBare) input_encoding bare_again (map bare is) left next (Chain-all IsBare [] (map bare is) (bare_all is all)) q

pub inputs_refuse : (n : ℕ) (left : Left) (f : TxFault) → FaultAmong (AllByRecursion IsInput) input_encoding (λ _. FaultInInput) n left.place left.rest f → inputs_at n left ≡ Err f
inputs_refuse n left f s =
    let there = stand (flat_map input_encoding s.before) left s.next.more in
    let p = stand_passed (flat_map input_encoding s.before) FaultInInput left f s.next in
    let q : Passed left (flat_map input_encoding (map bare s.before)) there = subst (λ (t : List ℕ). Passed left t there) (sym (bare_encodings s.before)) p in
    let fewer : length (map bare s.before) < n = rw length-map s.fewer in
    many_refuses (λ _. input_at) (λ _. IsBare) input_encoding bare_again (map bare s.before) n left there f fewer (Chain-all IsBare [] (map bare s.before) (bare_all s.before s.lawful)) q (input_refuses there f s.next.next)

-- ---- outputs

pub value_sound : (before : List TxOut) (left : Left) → AreBytes left.rest
    → Sound (value_at (length before) (total_value before) left) (λ x. Took left (to_le_bytes w64 x.0) x.1 × (x.0 < 2 ^ 64) × (total_value before + x.0 ≤ max_money)) (FaultInOutput before left.place left.rest)
unfolding value_at
value_sound before left fits =
    step (number_at w64 left) _ (number_sound w64 (2 ^ 64) wide64 left fits)
    (λ value p. guarded (nat_lt max_money (total_value before + value.0)) (fault.Money (length before)) (Ok value)
    (λ h. first_fault.too_much value.0 p.1 (ltb-true max_money (total_value before + value.0) h) (after (to_le_bytes w64 value.0) (FaultHere (fault.Money (length before))) left value.1 (fault.Money (length before)) p.0.passed refl))
    (λ h. done value (p.0, p.1, ltb-false max_money (total_value before + value.0) h)))
    (λ e s. first_fault.in_value s)

pub value_again : (index sum value : ℕ) (left next : Left) → value < 2 ^ 64 → sum + value ≤ max_money → Passed left (to_le_bytes w64 value) next
    → value_at index sum left ≡ Ok (value, next)
unfolding value_at
value_again index sum value left next lt le p =
    rw (number_again w64 (2 ^ 64) wide64 value left next lt p, le-ltb max_money (sum + value) le) refl

pub output_sound : (before : List TxOut) (left : Left) → AreBytes left.rest
    → Sound (next_output_at before left) (λ x. Took left (output_encoding x.0) x.1 × IsOutput x.0 × (total_value before + x.0.value ≤ max_money)) (FaultInOutput before left.place left.rest)
unfolding output_at
output_sound before left fits =
    step (value_at (length before) (total_value before) left) _ (value_sound before left fits)
    (λ value p. step (sized_at value.1) _ (sized_sound value.1 p.0.fits)
    (λ script q. done (record { value = value.0; script = script.0 }, script.1) (
      Took-then left (to_le_bytes w64 value.0) value.1 (sized script.0) script.1 p.0 q.0,
      record { value = p.1; script = q.1 },
      p.2,
    ))
    (λ e s. first_fault.in_script value.0 p.2 (after (to_le_bytes w64 value.0) FaultInSized left value.1 e p.0.passed s)))
    (λ e s. s)

-- an output within the bound
abbrev pub FitsAfter : List TxOut → TxOut → Type 0
FitsAfter before o = IsOutput o × (total_value before + o.value ≤ max_money)

pub output_again : (before : List TxOut) (o : TxOut) (left next : Left) → FitsAfter before o → Passed left (output_encoding o) next → next_output_at before left ≡ Ok (o, next)
unfolding output_at
output_again before o left next is p =
    let mid = middle left (to_le_bytes w64 o.value) (sized o.script) next in
    let a = value_again (length before) (total_value before) o.value left mid is.0.value is.1 (Passed-front left (to_le_bytes w64 o.value) (sized o.script) next p) in
    let b = sized_again o.script mid next is.0.script.0 (Passed-back left (to_le_bytes w64 o.value) (sized o.script) next p) in
    rw (a, b) refl

value_refuses : (before : List TxOut) (value : ℕ) (left : Left) (f : TxFault) → value < 2 ^ 64 → max_money < total_value before + value
    → After (to_le_bytes w64 value) (FaultHere (fault.Money (length before))) left.place left.rest f → value_at (length before) (total_value before) left ≡ Err f
unfolding value_at
value_refuses before value left f lt above b =
    let there = stand (to_le_bytes w64 value) left b.more in
    let a = number_again w64 (2 ^ 64) wide64 value left there lt (stand_passed (to_le_bytes w64 value) (FaultHere (fault.Money (length before))) left f b) in
    rw (a, lt-ltb max_money (total_value before + value) above, b.next) refl

short_value_refuses : (before : List TxOut) (left : Left) (f : TxFault) → FaultInField 8 left.place left.rest f → value_at (length before) (total_value before) left ≡ Err f
unfolding value_at
short_value_refuses before left f s = rw (number_refuses w64 left f s) refl

pub output_refuses : (before : List TxOut) (left : Left) (f : TxFault) → FaultInOutput before left.place left.rest f → next_output_at before left ≡ Err f
unfolding output_at
output_refuses before left f (first_fault.in_value s) = rw (short_value_refuses before left f s) refl
output_refuses before left f (first_fault.too_much value lt above b) = rw (value_refuses before value left f lt above b) refl
output_refuses before left f (first_fault.in_script value le b) =
    let there = stand (to_le_bytes w64 value) left b.more in
    let a = value_again (length before) (total_value before) value left there (omega arith) le (stand_passed (to_le_bytes w64 value) FaultInSized left f b) in
    rw (a, sized_refuses there f b.next) refl

-- outputs within the bound fit one after the other
Chain-outputs : (before xs : List TxOut) → AllByRecursion IsOutput xs → total_value before + total_value xs ≤ max_money → Chain FitsAfter before xs
Chain-outputs before [] all le = tt
Chain-outputs before (o ∷ os) all le =
    let front = sum_by_push (λ (o : TxOut). o.value) before o in
    let back = sum_by-cons (λ (o : TxOut). o.value) o os in
    ((all.0, omega arith), Chain-outputs (before ++ o ∷ []) os all.1 (omega arith))

pub outputs_sound : (n : ℕ) (left : Left) → AreBytes left.rest
    → Sound (outputs_at n left) (λ xs. Took left (flat_map output_encoding xs.0) xs.1 × (length xs.0 ≡ n) × AreOutputs xs.0) (FaultAmong AreOutputs output_encoding FaultInOutput n left.place left.rest)
outputs_sound n left fits =
    let nothing : Took left (flat_map output_encoding []) left = record { passed = record { parts = refl; place = omega arith }; fits = fits } in
    let zero_and : 0 + n ≡ n = omega arith in
    many_sound next_output_at AreOutputs output_encoding FaultInOutput
    (λ before l are bs. weaker (next_output_at before l) (output_sound before l bs)
    (λ x p. (p.0, (all_more IsOutput before x.0 are.0 p.1, rw sum_by_push p.2)))
    (λ e s. s))
    left n [] n left zero_and nothing (tt, omega arith)

pub outputs_again : (os : List TxOut) (left next : Left) → AreOutputs os → Passed left (flat_map output_encoding os) next → outputs_at (length os) left ≡ Ok (os, next)
outputs_again os left next are p =
    many_again next_output_at FitsAfter output_encoding output_again os left next (Chain-outputs [] os are.0 (omega (arith, are.1))) p

pub outputs_refuse : (n : ℕ) (left : Left) (f : TxFault) → FaultAmong AreOutputs output_encoding FaultInOutput n left.place left.rest f → outputs_at n left ≡ Err f
outputs_refuse n left f s =
    let there = stand (flat_map output_encoding s.before) left s.next.more in
    let p = stand_passed (flat_map output_encoding s.before) (FaultInOutput s.before) left f s.next in
    many_refuses next_output_at FitsAfter output_encoding output_again s.before n left there f s.fewer (Chain-outputs [] s.before s.lawful.0 (omega (arith, s.lawful.1))) p (output_refuses s.before there f s.next.next)

-- ---- the items of a witness

item_again : (before : List (List ℕ)) (s : List ℕ) (left next : Left) → IsItem s → Passed left (sized s) next → sized_at left ≡ Ok (s, next)
item_again before s left next is p = sized_again s left next is.0 p

pub items_sound : (n : ℕ) (left : Left) → AreBytes left.rest
    → Sound (items_at n left) (λ xs. Took left (flat_map sized xs.0) xs.1 × (length xs.0 ≡ n) × AllByRecursion IsItem xs.0) (FaultAmong (AllByRecursion IsItem) sized (λ _. FaultInSized) n left.place left.rest)
items_sound n left fits =
    let nothing : Took left (flat_map sized []) left = record { passed = record { parts = refl; place = omega arith }; fits = fits } in
    let zero_and : 0 + n ≡ n = omega arith in
    many_sound (λ _. sized_at) (AllByRecursion IsItem) sized (λ _. FaultInSized)
    (λ before l are bs. weaker (sized_at l) (sized_sound l bs) (λ x p. (p.0, all_more IsItem before x.0 are p.1)) (λ e s. s))
    left n [] n left zero_and nothing tt

pub items_again : (xs : List (List ℕ)) (left next : Left) → AllByRecursion IsItem xs → Passed left (flat_map sized xs) next → items_at (length xs) left ≡ Ok (xs, next)
items_again xs left next all p = many_again (λ _. sized_at) (λ _. IsItem) sized item_again xs left next (Chain-all IsItem [] xs all) p

pub items_refuse : (n : ℕ) (left : Left) (f : TxFault) → FaultAmong (AllByRecursion IsItem) sized (λ _. FaultInSized) n left.place left.rest f → items_at n left ≡ Err f
items_refuse n left f s =
    let there = stand (flat_map sized s.before) left s.next.more in
    let p = stand_passed (flat_map sized s.before) FaultInSized left f s.next in
    many_refuses (λ _. sized_at) (λ _. IsItem) sized item_again s.before n left there f s.fewer (Chain-all IsItem [] s.before s.lawful) p (sized_refuses there f s.next.next)
