-- Blocks that are put in one after the other along a path.
use Rattle.std.proofs.Common.{◌≡◌, ℕ, zero, suc, ◌+◌, ◌-◌, ◌<◌, ◌≤◌, List, [], ◌∷◌, ◌++◌, length, take, drop, get_or, refl, sym, ap, subst, ◌∙◌, arith, append_assoc, append-nil, take_all}
use Rattle.std.specs.List.{AllByRecursion}
use Rattle.std.proofs.lemmas.List.{get_or_default}
use Rattle.el_base.specs.declared.hash.Hash32.{Hash32}
use Rattle.el_base.proofs.Lists.{cut_at, left_at, taken_at}
use Rattle.el_outside.specs.Files.{AllGrow}
use Rattle.el_outside.specs.declared.archive.Archive as block_files
use Rattle.el_outside.proofs.Traces.{all_grow_none}
use Rattle.el_outside.proofs.Calls.{HasRead, has_none, has_then}
use Rattle.el_chain.specs.declared.moves.MoveFault.{MoveFault}
use Rattle.el_chain.specs.declared.node.Node.{Node}
use Rattle.el_chain.specs.Chains.{Chain, tip, tip_after, zero_hash}
use Rattle.el_chain.specs.Faults.{AreNext, IsGood}
use Rattle.el_chain.specs.Headers.{AreLinked}
use Rattle.el_chain.specs.Moves.{AllStood, AreBlocks, AreNextBlocks, AreOf, AreRead, FitsChain, IsPlan, IsRefused, Moves, StoodAt, shorter}
use Rattle.el_chain.specs.Records.{IsNode}
use Rattle.el_chain.proofs.MoveSteps.{blocks_tip, tip_joined}
use Rattle.el_model.proofs.ReadBodies.{moves_weaker, refused_weaker, stood_longer}
use Rattle.el_audit_run.specs.Findings.{putting, IsBadBlock}

pub shorter_none : (chain : Chain) → shorter 0 chain ≡ chain
shorter_none chain = take_all (length chain - 0) chain (omega arith)

-- ---- one move after another

of_append : (ns ms : List Node) (ts us : List (List ℕ)) → AreOf ns ts → AreOf ms us → AreOf (ns ++ ms) (ts ++ us)
of_append [] ms [] us h k = k
of_append [] ms (t ∷ ts) us h k = absurd h
of_append (n ∷ ns) ms [] us h k = absurd h
of_append (n ∷ ns) ms (t ∷ ts) us h k = (h.0, of_append ns ms ts us h.1 k)

stood_append : (stood : Node → List ℕ → Type 0) (ns ms : List Node) (ts us : List (List ℕ)) → AllStood stood ns ts → AllStood stood ms us → AllStood stood (ns ++ ms) (ts ++ us)
stood_append stood [] ms [] us h k = k
stood_append stood [] ms (t ∷ ts) us h k = absurd h
stood_append stood (n ∷ ns) ms [] us h k = absurd h
stood_append stood (n ∷ ns) ms (t ∷ ts) us h k = (h.0, stood_append stood ns ms ts us h.1 k)

blocks_append : (ns ms : List Node) (ts us : List (List ℕ)) (bs cs : Chain) → AreBlocks ns ts bs → AreBlocks ms us cs → AreBlocks (ns ++ ms) (ts ++ us) (bs ++ cs)
blocks_append [] ms [] us [] cs h k = k
blocks_append [] ms [] us (b ∷ bs) cs h k = absurd h
blocks_append [] ms (t ∷ ts) us bs cs h k = absurd h
blocks_append (n ∷ ns) ms [] us bs cs h k = absurd h
blocks_append (n ∷ ns) ms (t ∷ ts) us [] cs h k = absurd h
blocks_append (n ∷ ns) ms (t ∷ ts) us (b ∷ bs) cs h k = (h.0, h.1, blocks_append ns ms ts us bs cs h.2 k)

next_append : (before xs ys : Chain) → AreNext before xs → AreNext (before ++ xs) ys → AreNext before (xs ++ ys)
next_append before [] ys h k = subst (λ c. AreNext c ys) (append-nil before) k
next_append before (x ∷ xs) ys h k = (h.0, next_append (before ++ x ∷ []) xs ys h.1 (subst (λ c. AreNext c ys) (sym (append_assoc before (x ∷ []) xs)) k))

pub moves_more : (stood : Node → List ℕ → Type 0) (front : List Node) (n : Node) (chain blocks : Chain) → Moves stood [] (putting front) chain → Moves stood chain (putting (n ∷ [])) blocks
    → Moves stood [] (putting (front ++ n ∷ [])) (chain ++ blocks)
moves_more stood front n chain blocks m k = record {
  texts = m.texts ++ k.texts;
  read = record {
    of = of_append front (n ∷ []) m.texts k.texts m.read.of k.read.of;
    told = stood_append stood front (n ∷ []) m.texts k.texts m.read.told k.read.told;
  };
  blocks_are = record {
    are = blocks_append front (n ∷ []) m.texts k.texts chain blocks m.blocks_are.are k.blocks_are.are;
    next = next_append [] chain blocks m.blocks_are.next (subst (λ c. AreNext c blocks) (shorter_none chain) k.blocks_are.next);
  };
}

-- such blocks are a good chain, with a block for each node
pub moved_good : (stood : Node → List ℕ → Type 0) (path : List Node) (chain : Chain) → Moves stood [] (putting path) chain → IsGood chain
moved_good stood path chain m = record { each = m.blocks_are.next }

as_many : (ns : List Node) (ts : List (List ℕ)) (bs : Chain) → AreBlocks ns ts bs → length bs ≡ length ns
as_many [] [] [] are = refl
as_many [] [] (b ∷ bs) are = absurd are
as_many [] (t ∷ ts) bs are = absurd are
as_many (n ∷ ns) [] bs are = absurd are
as_many (n ∷ ns) (t ∷ ts) [] are = absurd are
as_many (n ∷ ns) (t ∷ ts) (b ∷ bs) are = ap suc (as_many ns ts bs are.2)

pub moved_length : (stood : Node → List ℕ → Type 0) (path : List Node) (chain : Chain) → Moves stood [] (putting path) chain → length chain ≡ length path
moved_length stood path chain m = as_many path m.texts chain m.blocks_are.are

-- a plan that puts in one block
pub one_plan : (n : Node) → IsNode n → IsPlan (putting (n ∷ []))
one_plan n is = record { back = omega arith; few = omega arith; nodes = (is, tt) }

pub one_fits : (chain : Chain) (n : Node) → n.header.previous ≡ tip chain → FitsChain (putting (n ∷ [])) chain
one_fits chain n names = record { within = omega arith; linked = (names ∙ ap tip (sym (shorter_none chain)), tt) }

-- ---- the loop over the path

-- What it keeps: the blocks of the first nodes, as many as were passed, were put in.
pub record Round {A : Type 0} (of_files : block_files.Ghosts A) (before now : A) (path : List Node) (i : ℕ) (chain : Chain) : Type 0 where
  pub moves : Moves (StoodAt of_files (of_files.bytes before) (of_files.bytes now)) [] (putting (take i path)) chain
  pub nodes : AllByRecursion IsNode (drop i path)
  pub linked : AreLinked (tip chain) (drop i path)
  pub read : HasRead of_files.tells (of_files.bytes before) (of_files.bytes now) (of_files.faults before) (of_files.faults now)

pub round_none : {A : Type 0} (of_files : block_files.Ghosts A) (before : A) (path : List Node) → AllByRecursion IsNode path → AreLinked zero_hash path → Round of_files before before path 0 []
round_none of_files before path nodes linked = record {
  moves = record { texts = []; read = record { of = tt; told = tt }; blocks_are = record { are = tt; next = tt } };
  nodes = nodes;
  linked = linked;
  read = has_none of_files.tells (of_files.bytes before) (of_files.faults before);
}

-- the next node, and what is left after it
pub record Next (path : List Node) (i : ℕ) (chain : Chain) (n : Node) : Type 0 where
  pub node : IsNode n
  pub names : n.header.previous ≡ tip chain
  pub nodes : AllByRecursion IsNode (drop (i + 1) path)
  pub linked : AreLinked n.hash (drop (i + 1) path)
  pub front : take (i + 1) path ≡ take i path ++ n ∷ []
  pub whole : path ≡ take i path ++ n ∷ drop (i + 1) path

pub round_next : {A : Type 0} (of_files : block_files.Ghosts A) (before now : A) (path : List Node) (i : ℕ) (chain : Chain) (n d : Node) → Round of_files before now path i chain → i < length path
    → n ≡ get_or path i d → Next path i chain n
round_next of_files before now path i chain n d r lt is' =
    let is : n ≡ get_or path i n = is' ∙ get_or_default path i d n lt in
    let left = left_at path i n lt is in
    let nodes = rw left at r.nodes in
    let linked = rw left at r.linked in
    record {
      node = nodes.0;
      names = linked.0;
      nodes = nodes.1;
      linked = linked.1;
      front = taken_at path i n lt is;
      whole = cut_at path i n lt is;
    }

moves_longer : {A : Type 0} (of_files : block_files.Ghosts A) (f g h i : ℕ → List ℕ) (chain blocks : Chain) (nodes : List Node) → (of_files.tells → AllGrow f g) → (of_files.tells → AllGrow h i)
    → Moves (StoodAt of_files g h) chain (putting nodes) blocks → Moves (StoodAt of_files f i) chain (putting nodes) blocks
moves_longer of_files f g h i chain blocks nodes before after m =
    moves_weaker (StoodAt of_files g h) (StoodAt of_files f i) chain (putting nodes) blocks (λ n t. stood_longer of_files f g h i n t before after) m

-- its block was put in
pub round_more : {A : Type 0} (of_files : block_files.Ghosts A) (before now later : A) (path : List Node) (i : ℕ) (chain longer : Chain) (n d : Node)
    → Round of_files before now path i chain → i < length path → n ≡ get_or path i d
    → HasRead of_files.tells (of_files.bytes now) (of_files.bytes later) (of_files.faults now) (of_files.faults later)
    → (blocks : Chain) × Moves (StoodAt of_files (of_files.bytes now) (of_files.bytes later)) chain (putting (n ∷ [])) blocks × (longer ≡ chain ++ blocks)
    → Round of_files before later path (i + 1) longer
round_more of_files before now later path i chain longer n d r lt is read (blocks, one, same) =
    let next = round_next of_files before now path i chain n d r lt is in
    let f = of_files.bytes before in
    let g = of_files.bytes now in
    let h = of_files.bytes later in
    let first = moves_longer of_files f f g h [] chain (take i path) (λ t. all_grow_none f) read.keeps r.moves in
    let last = moves_longer of_files f g h h chain blocks (n ∷ []) r.read.keeps (λ t. all_grow_none h) one in
    let ends : tip longer ≡ n.hash =
    ap tip same ∙ tip_joined zero_hash chain blocks ∙ blocks_tip (tip chain) (n ∷ []) one.texts blocks (next.node, tt) one.read.of one.blocks_are.are in
    record {
      moves = rw (same, next.front) (moves_more (StoodAt of_files f h) (take i path) n chain blocks first last);
      nodes = next.nodes;
      linked = rw ends next.linked;
      read = has_then r.read read;
    }

-- or it can't be put in
pub round_refused : {A : Type 0} (of_files : block_files.Ghosts A) (before now later : A) (path : List Node) (i : ℕ) (chain : Chain) (n d : Node) (e : MoveFault)
    → Round of_files before now path i chain → i < length path → n ≡ get_or path i d → (of_files.tells → AllGrow (of_files.bytes now) (of_files.bytes later))
    → IsRefused (StoodAt of_files (of_files.bytes now) (of_files.bytes later)) chain (putting (n ∷ [])) e
    → IsBadBlock (StoodAt of_files (of_files.bytes before) (of_files.bytes later)) path e
round_refused of_files before now later path i chain n d e r lt is grows why =
    let next = round_next of_files before now path i chain n d r lt is in
    let f = of_files.bytes before in
    let g = of_files.bytes now in
    let h = of_files.bytes later in
    record {
      front = take i path;
      node = n;
      after = drop (i + 1) path;
      whole = next.whole;
      blocks = chain;
      before = moves_longer of_files f f g h [] chain (take i path) (λ t. all_grow_none f) grows r.moves;
      refused = refused_weaker (StoodAt of_files g h) (StoodAt of_files f h) chain (putting (n ∷ [])) e
          (λ m t. stood_longer of_files f g h h m t r.read.keeps (λ tl. all_grow_none h)) why;
    }

pub round_all : {A : Type 0} (of_files : block_files.Ghosts A) (before now : A) (path : List Node) (i : ℕ) (chain : Chain) → Round of_files before now path i chain → length path ≤ i
    → Moves (StoodAt of_files (of_files.bytes before) (of_files.bytes now)) [] (putting path) chain
round_all of_files before now path i chain r most = rw (take_all i path most) at r.moves
