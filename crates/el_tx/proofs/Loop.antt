-- Reading things one after the other, as a loop does.
use Rattle.std.proofs.Common.{◌≡◌, ℕ, suc, ◌-◌, ◌+◌, ◌≤◌, ◌<◌, List, [], ◌∷◌, ◌++◌, length, Result, Ok, Err, refl, sym, ◌∙◌, arith}
use Rattle.el_base.specs.Left.{Left}
use Rattle.el_tx.specs.declared.fault.TxFault.{TxFault}
use Rattle.el_tx.specs.declared.reading.ReadError.{ReadError}
use Rattle.el_tx.specs.declared.reading.ReadError.TheVariants as errors
use Rattle.el_tx.specs.declared.types.TxIn.{TxIn}
use Rattle.el_tx.specs.declared.types.TxOut.{TxOut}
use Rattle.el_tx.specs.Encoding.{total_value}
use Rattle.el_tx.specs.within.Reading.{Fails, many_at, output_at, next_output_at, stack_at, stacks_at}

pub goes_on : {A : Type 0} (next : List A → Left → Result (A × Left) TxFault) (before : List A) (count i : ℕ) (left : Left) (x : A) (after : Left) (total : Result (List A × Left) TxFault)
    → i < count → next before left ≡ Ok (x, after) → many_at next before (count - i) left ≡ total → many_at next (before ++ x ∷ []) (count - (i + 1)) after ≡ total
unfolding many_at
goes_on next before count i left x after total lt h so_far =
    let k : count - i ≡ suc (count - (i + 1)) = omega arith in
    let one : many_at next before (count - i) left ≡ many_at next (before ++ x ∷ []) (count - (i + 1)) after = rw (k, h) refl in
    sym one ∙ so_far

pub ends : {A : Type 0} (next : List A → Left → Result (A × Left) TxFault) (e : ReadError) (before : List A) (count i : ℕ) (left : Left) (total : Result (List A × Left) TxFault)
    → i < count → Fails e (next before left) → many_at next before (count - i) left ≡ total → Fails e total
unfolding many_at
ends next errors.Memory before count i left total lt h so_far = tt
ends next (errors.Fault f) before count i left total lt h so_far =
    let k : count - i ≡ suc (count - (i + 1)) = omega arith in
    let one : many_at next before (count - i) left ≡ Err f = rw (k, h) refl in
    sym so_far ∙ one

pub is_done : {A : Type 0} (next : List A → Left → Result (A × Left) TxFault) (before : List A) (count i : ℕ) (left : Left) (total : Result (List A × Left) TxFault)
    → count ≤ i → many_at next before (count - i) left ≡ total → total ≡ Ok (before, left)
unfolding many_at
is_done next before count i left total le so_far =
    let k : count - i ≡ 0 = omega arith in
    let one : many_at next before (count - i) left ≡ Ok (before, left) = rw k refl in
    sym so_far ∙ one

-- reading the output of this index and sum is reading the next one
pub next_output : (outputs : List TxOut) (index sum : ℕ) (left : Left) → index ≡ length outputs → sum ≡ total_value outputs → output_at index sum left ≡ next_output_at outputs left
next_output outputs index sum left p q = rw (p, q) refl

-- the witnesses
pub stack_goes_on : (full rest : List TxIn) (i : TxIn) (all : List TxIn) (left : Left) (stack : List (List ℕ)) (after : Left) (total : Result (List TxIn × Left) TxFault)
    → all ≡ i ∷ rest → stack_at left ≡ Ok (stack, after) → stacks_at full all left ≡ total → stacks_at (full ++ record i { witness = stack } ∷ []) rest after ≡ total
unfolding stacks_at
stack_goes_on full rest i all left stack after total parts h so_far =
    let one : stacks_at full all left ≡ stacks_at (full ++ record i { witness = stack } ∷ []) rest after = rw (parts, h) refl in
    sym one ∙ so_far

pub stack_ends : (e : ReadError) (full rest : List TxIn) (i : TxIn) (all : List TxIn) (left : Left) (total : Result (List TxIn × Left) TxFault)
    → all ≡ i ∷ rest → Fails e (stack_at left) → stacks_at full all left ≡ total → Fails e total
unfolding stacks_at
stack_ends errors.Memory full rest i all left total parts h so_far = tt
stack_ends (errors.Fault f) full rest i all left total parts h so_far =
    let one : stacks_at full all left ≡ Err f = rw (parts, h) refl in
    sym so_far ∙ one

pub stacks_done : (full all : List TxIn) (left : Left) (total : Result (List TxIn × Left) TxFault) → all ≡ [] → stacks_at full all left ≡ total → total ≡ Ok (full, left)
unfolding stacks_at
stacks_done full all left total none so_far =
    let one : stacks_at full all left ≡ Ok (full, left) = rw none refl in
    sym so_far ∙ one
