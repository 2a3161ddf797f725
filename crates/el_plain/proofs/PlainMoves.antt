-- What a plain ledger has moved to.
use Rattle.std.proofs.Common.{◌≡◌, ℕ, suc, ◌+◌, ◌-◌, List, [], ◌∷◌, ◌++◌, length, drop, Option, Some, Result, Ok, Err, refl, sym, ap, ap₂, ◌∙◌, arith, length-append}
use Rattle.std.proofs.lemmas.List.{length-take-le}
use Rattle.std.specs.Result.{IfOk, IfErr, IsErrOf}
use Rattle.el_base.specs.declared.hash.Hash32.{Hash32}
use Rattle.el_block.specs.Blocks.{AllDiffer}
use Rattle.el_chain.specs.declared.moves.Plan.{Plan}
use Rattle.el_chain.specs.declared.node.Node.{Node}
use Rattle.el_chain.specs.declared.moves.Moved.{Moved}
use Rattle.el_chain.specs.declared.moves.MoveFault.{MoveFault}
use Rattle.el_chain.specs.declared.moves.MoveFault.TheVariants as stop
use Rattle.el_outside.specs.Counts.{CountsOnly}
use Rattle.el_chain.specs.Faults.{IsGood}
use Rattle.el_chain.specs.Chains.{Chain, tip, zero_hash}
use Rattle.el_chain.proofs.MoveSteps.{tip_joined, blocks_tip, last_any}
use Rattle.el_plain.specs.Plain.{IsPlain}
use Rattle.el_model.proofs.Heights.{blocks_are}
use Rattle.el_model.specs.Queries.{blocks_in, tip_of, height_of}
use Rattle.el_chain.specs.Coins.{coins}
use Rattle.el_chain.specs.Moves.{IsPlan, AreRead, AreBlocks, AreNextBlocks, Moves, target, shorter, last_hash}
use Rattle.el_chain.specs.Touches.{Touch, AreTouched}

pub plain_moved : (stood : Node → List ℕ → Type 0) (old new : Chain) (p : Plan) (texts : List (List ℕ)) (nodes : List Node) (scripts : List Hash32) → nodes ≡ p.forward
    → AreRead stood nodes texts
    → (fresh : Chain) × (new ≡ shorter p.back old ++ fresh) × AreNextBlocks (shorter p.back old) nodes texts fresh
    × Touch scripts (coins (shorter p.back old)) (drop (length old - p.back) old ++ fresh) → AllDiffer scripts
    → (blocks : Chain) × Moves stood old p blocks × (new ≡ target p old blocks) × AreTouched p old blocks scripts
plain_moved stood old new p texts nodes scripts same read (fresh, is, next, touch) once = (
  fresh,
  record { texts = texts; read = rw same at read; blocks_are = rw same at next },
  is,
  record { each = touch; once = once },
)

some_tip : (chain : Chain) → (chain ≡ [] → ⊥) → tip_of chain ≡ Some (tip chain)
some_tip [] some = absurd (some refl)
some_tip (b ∷ bs) some = refl

none_joined : (ns : List Node) (ts : List (List ℕ)) (a bs : Chain) → AreBlocks ns ts bs → (ns ≡ [] → ⊥) → a ++ bs ≡ [] → ⊥
none_joined [] ts a bs are some e = some refl
none_joined (n ∷ ns) [] a bs are some e = are
none_joined (n ∷ ns) (t ∷ ts) a [] are some e = are
none_joined (n ∷ ns) (t ∷ ts) [] (b ∷ bs) are some e = cc
none_joined (n ∷ ns) (t ∷ ts) (x ∷ a) (b ∷ bs) are some e = cc

-- the tip is then the last node's
pub plain_last : (stood : Node → List ℕ → Type 0) (base new : Chain) (p : Plan) (texts : List (List ℕ)) (nodes : List Node) (P : Chain → Type 0) → IsPlan p → nodes ≡ p.forward
    → AreRead stood nodes texts → (fresh : Chain) × (new ≡ base ++ fresh) × AreNextBlocks base nodes texts fresh × P fresh → (p.forward ≡ [] → ⊥)
    → tip_of new ≡ Some (last_hash zero_hash p.forward)
plain_last stood base new p texts nodes P plan same read (fresh, is, next, touch) some =
    let of = rw same at read.of in
    let are = rw same at next.are in
    rw is (some_tip (base ++ fresh) (none_joined p.forward texts base fresh are some)
    ∙ ap Some (tip_joined zero_hash base fresh ∙ blocks_tip (tip base) p.forward texts fresh plan.nodes of are ∙ last_any (tip base) zero_hash p.forward some))

-- what it stands for then
pub plain_went : (X : Chain → Chain → Type 0) (r : Result Moved MoveFault) (stood : Node → List ℕ → Type 0) (old new : Chain) (p : Plan) → IsGood new
    → IfOk r (λ m. (blocks : Chain) × Moves stood old p blocks × (new ≡ target p old blocks) × AreTouched p old blocks m.touched)
    → (chain : Chain) → IsPlain old chain
    → IfOk r (λ m. (blocks : Chain) × Moves stood chain p blocks × IsPlain new (target p chain blocks) × AreTouched p chain blocks m.touched × (⊥ → X chain blocks))
plain_went X (Err e) stood old new p good h chain plain = tt
plain_went X (Ok m) stood old new p good (blocks, moves, is, touched) chain plain = (
  blocks,
  rw plain.is at moves,
  record { is = rw plain.is at is; good = rw (← plain.is, ← is) good },
  rw plain.is at touched,
  λ told. absurd told,
)

-- no device of an index fails
pub never_disk : (r : Result Moved MoveFault) → IfErr r (λ e. e ≡ stop.DiskFailed → ⊥) → IsErrOf r stop.DiskFailed → ⊥
never_disk r h is = (rw is at h) refl

pub plain_counts : (r : Result Moved MoveFault) → IfErr r (λ e. e ≡ stop.DiskFailed → ⊥) → CountsOnly 0 0 stop.DiskFailed r
plain_counts (Ok m) h = record { counted = λ is. absurd (never_disk (Ok m) h is); uncounted = refl; others_uncounted = tt }
plain_counts (Err e) h = record { counted = λ is. absurd (never_disk (Err e) h is); uncounted = tt; others_uncounted = λ other. refl }

as_many : (ns : List Node) (ts : List (List ℕ)) (bs : Chain) → AreBlocks ns ts bs → length bs ≡ length ns
as_many [] [] [] are = refl
as_many [] [] (b ∷ bs) are = absurd are
as_many [] (t ∷ ts) bs are = absurd are
as_many (n ∷ ns) [] bs are = absurd are
as_many (n ∷ ns) (t ∷ ts) [] are = absurd are
as_many (n ∷ ns) (t ∷ ts) (b ∷ bs) are = ap suc (as_many ns ts bs are.2)

-- and how many after a move
pub plain_top : (old new : Chain) (back : ℕ) (forward : List Node) (texts : List (List ℕ)) (P : Chain → Type 0) (height : Option ℕ)
    → (fresh : Chain) × (new ≡ shorter back old ++ fresh) × AreNextBlocks (shorter back old) forward texts fresh × P fresh → height ≡ height_of new
    → blocks_in height ≡ (blocks_in (height_of old) - back) + length forward
plain_top old new back forward texts P height (fresh, is, next, more) top =
    ap blocks_in top ∙ blocks_are new ∙ ap length is ∙ length-append (shorter back old) fresh
    ∙ ap₂ (λ (a b : ℕ). a + b) (length-take-le (length old - back) old (omega arith) ∙ ap (λ n. n - back) (sym (blocks_are old))) (as_many forward texts fresh next.are)
