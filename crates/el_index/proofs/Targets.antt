-- What a move of the index has led to, or why it is refused.
use Rattle.std.proofs.Common.{◌≡◌, ◌≢◌, ◌⊎◌, inl, inr, ℕ, zero, suc, ◌-◌, List, [], ◌∷◌, ◌++◌, length, slice_index_or, Option, Some, refl, sym, ap, ◌∙◌, Result, Err, arith}
use Rattle.std.specs.List.{AllByRecursion}
use Rattle.el_base.specs.declared.hash.Hash32.{Hash32}
use Rattle.el_block.specs.Blocks.{AllDiffer}
use Rattle.el_chain.specs.declared.moves.MoveFault.{MoveFault}
use Rattle.el_chain.specs.declared.moves.MoveFault.TheVariants as stop
use Rattle.el_chain.specs.declared.moves.Plan.{Plan}
use Rattle.el_chain.specs.declared.node.Node.{Node}
use Rattle.el_chain.specs.Chains.{Chain, tip, zero_hash}
use Rattle.el_chain.specs.Headers.{last_node}
use Rattle.el_chain.specs.Moves.{AreOf, AreRead, AreBlocks, FaultInAt, InFlight, IsPlan, IsRefused, last_hash, shorter, target}
use Rattle.el_chain.specs.Records.{IsNode}
use Rattle.el_chain.specs.Touches.{AreTouched}
use Rattle.el_chain.proofs.MoveSteps.{tip_joined, blocks_tip}
use Rattle.el_model.specs.Queries.{tip_of}
use Rattle.el_row_formats.specs.Tables.{Tables}
use Rattle.el_rows.specs.Reads.{Same}
use Rattle.el_index.proofs.IndexRows.{same_rows}
use Rattle.el_index.specs.within.Adding.{AreMoved, FliesTo, IsOwn}

-- equal rows
pub moved_rows : (heads : ℕ) (p : Plan) (chain : Chain) (texts : List (List ℕ)) (scripts : List Hash32) (a b : Tables) (blocks : Chain) → AreMoved heads p chain texts scripts a blocks → Same a b → AreMoved heads p chain texts scripts b blocks
moved_rows heads p chain texts scripts a b blocks m same = record {
  next = m.next;
  stand = same_rows heads a b (target p chain blocks) m.stand same;
  touched = m.touched;
}

some_tip : (a : Chain) (ns : List Node) (ts : List (List ℕ)) (n : Node) (bs : Chain) → AreBlocks (n ∷ ns) ts bs → tip_of (a ++ bs) ≡ Some (tip (a ++ bs))
some_tip a ns [] n bs are = absurd are
some_tip a ns (t ∷ ts) n [] are = absurd are
some_tip [] ns (t ∷ ts) n (b ∷ bs) are = refl
some_tip (x ∷ a) ns (t ∷ ts) n (b ∷ bs) are = refl

-- the hash that is kept after the move
tip_by : (base : Chain) (nodes : List Node) (texts : List (List ℕ)) (blocks : Chain) (hash : Option Hash32) → AreBlocks nodes texts blocks → AllByRecursion IsNode nodes → AreOf nodes texts
    → (nodes ≢ [] → hash ≡ Some (last_hash zero_hash nodes)) → (nodes ≡ [] → hash ≡ tip_of (base ++ blocks)) → hash ≡ tip_of (base ++ blocks)
tip_by base [] texts blocks hash are all of some none = none refl
tip_by base (n ∷ ns) texts blocks hash are all of some none =
    some (λ e. cc)
    ∙ ap Some (sym (tip_joined zero_hash base blocks ∙ blocks_tip (tip base) (n ∷ ns) texts blocks all of are))
    ∙ sym (some_tip base ns texts n blocks are)

pub tip_moved : (heads : ℕ) (p : Plan) (chain : Chain) (texts : List (List ℕ)) (scripts : List Hash32) (rows : Tables) (blocks : Chain) (hash : Option Hash32) → AreMoved heads p chain texts scripts rows blocks → IsPlan p
    → AreOf p.forward texts → (p.forward ≢ [] → hash ≡ Some (last_hash zero_hash p.forward)) → (p.forward ≡ [] → hash ≡ tip_of (target p chain blocks)) → hash ≡ tip_of (target p chain blocks)
tip_moved heads p chain texts scripts rows blocks hash m plan of some none = tip_by (shorter p.back chain) p.forward texts blocks hash m.next.are plan.nodes of some none

-- why it is refused
pub refused_is : (stood : Node → List ℕ → Type 0) (chain : Chain) (p : Plan) (texts : List (List ℕ)) (e : MoveFault) → AreRead stood p.forward texts
    → IsOwn e ⊎ FaultInAt (shorter p.back chain) p.forward texts e → IsRefused stood chain p e
refused_is stood chain p texts stop.DiskFailed read h = tt
refused_is stood chain p texts stop.ArchiveFailed read h = tt
refused_is stood chain p texts stop.Memory read h = tt
refused_is stood chain p texts (stop.Changed w f) read (inl (inl is)) = absurd cc
refused_is stood chain p texts (stop.Changed w f) read (inl (inr is)) = absurd cc
refused_is stood chain p texts (stop.Changed w f) read (inr fault) = absurd fault.first_fault
refused_is stood chain p texts (stop.BadBlock h f) read (inl (inl is)) = absurd cc
refused_is stood chain p texts (stop.BadBlock h f) read (inl (inr is)) = absurd cc
refused_is stood chain p texts (stop.BadBlock h f) read (inr fault) = record { texts = texts; read = read; first_fault = fault }
refused_is stood chain p texts (stop.Refused h f) read (inl (inl is)) = absurd cc
refused_is stood chain p texts (stop.Refused h f) read (inl (inr is)) = absurd cc
refused_is stood chain p texts (stop.Refused h f) read (inr fault) = record { texts = texts; read = read; first_fault = fault }

-- what is in flight where the device failed
pub flies : (stood : Node → List ℕ → Type 0) (chain : Chain) (p : Plan) (texts : List (List ℕ)) (next : Chain) → AreRead stood p.forward texts → FliesTo p chain texts next
    → InFlight stood chain p next
flies stood chain p texts next read (inl is) = inl is
flies stood chain p texts next read (inr to) = inr (to.0, record { texts = texts; read = read; blocks_are = to.1 }, to.2)

pub touched_once : (heads : ℕ) (p : Plan) (chain : Chain) (texts : List (List ℕ)) (scripts : List Hash32) (rows : Tables) (blocks : Chain) → AreMoved heads p chain texts scripts rows blocks → AllDiffer scripts
    → AreTouched p chain blocks scripts
touched_once heads p chain texts scripts rows blocks m once = record { each = m.touched; once = once }

-- the last node's hash is the last hash
pub last_named : (nodes : List Node) (d : Node) → nodes ≢ [] → (slice_index_or nodes (length nodes - 1) d).hash ≡ last_hash zero_hash nodes
last_named [] d some = absurd (some refl)
last_named (n ∷ ns) d some = ap (λ (m : Node). m.hash) (last_at ns n (length (n ∷ ns) - 1) (omega arith)) ∙ sym (last_of zero_hash n ns)
  where
    last_of : (before : Hash32) (n : Node) (ns : List Node) → last_hash before (n ∷ ns) ≡ (last_node n ns).hash
    last_of before n [] = refl
    last_of before n (m ∷ ns) = last_of n.hash m ns

    last_at : (ns : List Node) (n : Node) (k : ℕ) → k ≡ length ns → slice_index_or (n ∷ ns) k d ≡ last_node n ns
    last_at [] n zero is = refl
    last_at [] n (suc k) is = absurd (let none : suc k ≡ 0 = is in omega arith)
    last_at (m ∷ ns) n zero is = absurd (let some : 0 ≡ suc (length ns) = is in omega arith)
    last_at (m ∷ ns) n (suc k) is = last_at ns m k (omega (arith, is))

-- one answer has one fault
pub same_fault : {T : Type 0} (result : Result T MoveFault) (e f : MoveFault) → result ≡ Err e → result ≡ Err f → e ≡ f
same_fault result e f is also = cc
