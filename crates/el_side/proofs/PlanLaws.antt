-- The moves of a tip line, worked off one after the other.
use Rattle.std.proofs.Common.{◌≡◌, ◌≤◌, ℕ, zero, suc, List, [], ◌∷◌, ◌++◌, length, take, refl, ap, ◌∙◌, arith}
use Rattle.std.specs.Prelude.{flat_map}
use Rattle.std.proofs.lemmas.List.{length-drop, take-append-drop}
use Rattle.el_chain.specs.declared.node.Node.{Node}
use Rattle.el_chain.specs.declared.moves.Plan.{Plan}
use Rattle.el_chain.specs.Chains.{Chain}
use Rattle.el_chain.specs.Moves.{max_forward}
use Rattle.el_side.specs.Plans.{back_of, rest_of, IsMoving, plan_of, left_of, plans_forward, plans_of, plan}

-- a move that puts in blocks leaves fewer
left_less : (n : Node) (ns : List Node) → length (left_of (n ∷ ns)) ≤ length ns
left_less n ns = omega (arith, length-drop max_forward (n ∷ ns))

left_le : (rest : List Node) → length (left_of rest) ≤ length rest
left_le rest = omega (arith, length-drop max_forward rest)

-- any bound on how many moves there are gives the same ones
same_moves : (a b : ℕ) (rest : List Node) → length rest ≤ a → length rest ≤ b → plans_forward a rest ≡ plans_forward b rest
same_moves zero zero rest ha hb = refl
same_moves zero (suc b) [] ha hb = refl
same_moves (suc a) zero [] ha hb = refl
same_moves (suc a) (suc b) [] ha hb = refl
same_moves zero (suc b) (n ∷ ns) ha hb = absurd (omega (arith, ha))
same_moves (suc a) zero (n ∷ ns) ha hb = absurd (omega (arith, hb))
same_moves (suc a) (suc b) (n ∷ ns) ha hb =
    let less = left_less n ns in
    ap (λ (ps : List Plan). plan_of 0 (n ∷ ns) ∷ ps) (same_moves a b (left_of (n ∷ ns)) (omega (arith, ha, less)) (omega (arith, hb, less)))

pub first_move : (back : ℕ) (rest : List Node) → IsMoving back rest → plans_of back rest ≡ plan_of back rest ∷ plans_of 0 (left_of rest)
first_move zero [] moving = absurd moving
first_move zero (n ∷ ns) moving =
    ap (λ (ps : List Plan). plan_of 0 (n ∷ ns) ∷ ps) (same_moves (length ns) (length (left_of (n ∷ ns))) (left_of (n ∷ ns)) (left_less n ns) (omega arith))
first_move (suc back) rest moving =
    ap (λ (ps : List Plan). plan_of (suc back) rest ∷ ps) (same_moves (length rest) (length (left_of rest)) (left_of rest) (left_le rest) (omega arith))

pub no_move : (back : ℕ) (rest : List Node) → (IsMoving back rest → ⊥) → plans_of back rest ≡ []
no_move zero [] still = refl
no_move zero (n ∷ ns) still = absurd (still tt)
no_move (suc back) rest still = absurd (still tt)

put_in : (most : ℕ) (rest : List Node) → length rest ≤ most → flat_map (λ (p : Plan). p.forward) (plans_forward most rest) ≡ rest
put_in zero [] h = refl
put_in zero (n ∷ ns) h = absurd (omega (arith, h))
put_in (suc most) [] h = refl
put_in (suc most) (n ∷ ns) h =
    let less = left_less n ns in
    ap (λ (after : List Node). take max_forward (n ∷ ns) ++ after) (put_in most (left_of (n ∷ ns)) (omega (arith, h, less))) ∙ take-append-drop max_forward (n ∷ ns)

all_put_in : (back : ℕ) (rest : List Node) → flat_map (λ (p : Plan). p.forward) (plans_of back rest) ≡ rest
all_put_in zero rest = put_in (length rest) rest (omega arith)
all_put_in (suc back) rest =
    ap (λ (after : List Node). take max_forward rest ++ after) (put_in (length rest) (left_of rest) (left_le rest)) ∙ take-append-drop max_forward rest

pub whole_path : (chain : Chain) (path : List Node) → flat_map (λ (p : Plan). p.forward) (plan chain path) ≡ rest_of chain path
whole_path chain path = all_put_in (back_of chain path) (rest_of chain path)
