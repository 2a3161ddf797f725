-- What the node is answered over a sure side is an `at` line that tells where the chain then ends; or it is none, and the
-- chain is as it was.
use Rattle.std.proofs.Common.{◌≡◌, ◌≢◌, ◌⊎◌, inl, inr, ℕ, zero, suc, ◌-◌, ◌<◌, ◌≤◌, ◌==◌, Bool, true, false, not, ◌&&◌, if◌then◌else◌, List, [], ◌∷◌, ◌++◌, length, take, Option, None, Some, refl, sym, ap, ◌∙◌, arith, length-append, true≢false, eq-eqb}
use Rattle.std.proofs.lemmas.List.{length-take-le}
use Rattle.std.specs.Prelude.{option_map}
use Rattle.el_base.specs.declared.hash.Hash32.{Hash32}
use Rattle.el_side.specs.Deeds.{Deed}
use Rattle.el_outside.specs.declared.archive.Archive as block_files
use Rattle.el_chain.specs.Chains.{Chain, tip}
use Rattle.el_chain.specs.Headers.{is_known, is_second}
use Rattle.el_chain.specs.Moves.{AreBlocks, shorter, max_forward}
use Rattle.el_chain.specs.declared.node.Node.{Node}
use Rattle.el_chain.specs.declared.moves.MoveFault.{MoveFault}
use Rattle.el_chain.specs.declared.moves.MoveFault.TheVariants as stop
use Rattle.el_mempool.specs.declared.fault.PoolFault.{PoolFault}
use Rattle.el_mempool.specs.declared.fault.PoolFault.TheVariants as unkept
use Rattle.el_model.specs.Queries.{tip_of, height_of}
use Rattle.el_lines.specs.Lines.{LineEvent, line, too_long}
use Rattle.el_lines.specs.NodeLines as says
use Rattle.el_lines.specs.NodeLines.{NodeLine}
use Rattle.el_lines.specs.NodeAnswers.{text_of, at_text, refusal_text, bad_text, bad_refused, block_flaw, connect_flaw, move_refused, pool_refused}
use Rattle.el_lines.specs.declared.node_answer.NodeAnswer.{NodeAnswer}
use Rattle.el_lines.specs.declared.node_answer.NodeAnswer.TheVariants as say
use Rattle.el_lines.specs.declared.node_answer.NodeRefusal.{NodeRefusal}
use Rattle.el_lines.specs.declared.node_answer.NodeRefusal.TheVariants as refusal
use Rattle.el_lines.specs.declared.node_answer.Flaw.{Flaw}
use Rattle.el_side.specs.Plans.{common, common_up_to, back_of, rest_of, IsMoving}
use Rattle.el_side.specs.Side as side_of
use Rattle.el_side.specs.Side.{Side, IsSure, Looks, found_answer, Moving, GoesAlong, Tips, Adds, Drops, Orders, OrdersLine}

-- the answer is no `at` line
abbrev pub TellsNoTip : NodeAnswer → Type 0
TellsNoTip (say.At tip' height) = ⊥
TellsNoTip other = Unit {0}

-- the answer is an `at` line that tells where the chain ends then, or none, where the chain is as it was
pub data TellsEnd (before : Chain) (answer : NodeAnswer) (after : Chain) : Type 0 where
  tells : (h : Hash32) (height : ℕ) → answer ≡ say.At (Some h) (Some height) → tip_of after ≡ Some h
      → height_of after ≡ Some height → TellsEnd before answer after
  stays : TellsNoTip answer → after ≡ before → TellsEnd before answer after

-- ---- a chain that has blocks

tells_of : (before : Chain) (answer : NodeAnswer) (after : Chain)
    → answer ≡ say.At (tip_of after) (height_of after) → 0 < length after → TellsEnd before answer after
tells_of before answer [] e some = absurd (omega (arith, some))
tells_of before answer (b ∷ bs) e some = tells (tip (b ∷ bs)) (length bs) e refl refl

-- as many blocks as nodes
as_many : (ns : List Node) (ts : List (List ℕ)) (bs : Chain) → AreBlocks ns ts bs → length bs ≡ length ns
as_many [] [] [] are = refl
as_many [] [] (b ∷ bs) are = absurd are
as_many [] (t ∷ ts) bs are = absurd are
as_many (n ∷ ns) [] bs are = absurd are
as_many (n ∷ ns) (t ∷ ts) [] are = absurd are
as_many (n ∷ ns) (t ∷ ts) (b ∷ bs) are = ap suc (as_many ns ts bs are.2)

-- a move that puts in blocks, or leaves some
moved_some : (back : ℕ) (chain blocks : Chain) (rest : List Node) → length blocks ≡ length (take max_forward rest)
    → (0 < length chain - back) ⊎ (0 < length rest) → 0 < length (shorter back chain ++ blocks)
moved_some back chain blocks rest many (inl left) =
    let kept = length-take-le (length chain - back) chain (omega arith) in
    rw (length-append (shorter back chain) blocks) (omega (arith, kept, left))
moved_some back chain blocks [] many (inr some) = absurd (omega (arith, some))
moved_some back chain blocks (n ∷ ns) many (inr some) =
    let one : 0 < length (take max_forward (n ∷ ns)) = omega arith in
    rw (length-append (shorter back chain) blocks) (omega (arith, many, one))

-- a side that has blocks ahead
pub busy_some : (ahead : List Node) → IsMoving 0 ahead → 0 < length ahead
busy_some [] moving = absurd moving
busy_some (n ∷ ns) moving = omega arith

up_to_within : (same : Bool) (above most : ℕ) → above ≤ most → common_up_to same above ≤ suc most
up_to_within same (suc above) most le = omega (arith, le)
up_to_within true zero most le = omega arith
up_to_within false zero most le = omega arith

common_within : (chain : Chain) (path : List Node) → common chain path ≤ length chain
common_within [] path = omega arith
common_within (b ∷ bs) [] = omega arith
common_within (b ∷ bs) (n ∷ ns) = up_to_within _ (common bs ns) (length bs) (common_within bs ns)

-- along a path some blocks stay, or some are put in
path_some : (chain : Chain) (first : Node) (path : List Node)
    → (0 < length chain - back_of chain (first ∷ path)) ⊎ (0 < length (rest_of chain (first ∷ path)))
path_some chain first path = by (common chain (first ∷ path)) refl
  where
    by : (n : ℕ) → common chain (first ∷ path) ≡ n
        → (0 < length chain - back_of chain (first ∷ path)) ⊎ (0 < length (rest_of chain (first ∷ path)))
    by zero e = inr (rw e (omega arith))
    by (suc n) e = let within = common_within chain (first ∷ path) in inl (omega (arith, e, within))

-- where nothing is to be moved along it, the chain has blocks
there_some : (chain : Chain) (first : Node) (path : List Node) → rest_of chain (first ∷ path) ≡ []
    → 0 < length chain
there_some chain first path none = by (path_some chain first path)
  where
    by : (0 < length chain - back_of chain (first ∷ path)) ⊎ (0 < length (rest_of chain (first ∷ path)))
        → 0 < length chain
    by (inl left) = omega (arith, left)
    by (inr some) =
        let not_so : length (rest_of chain (first ∷ path)) ≡ 0 = ap (λ (ns : List Node). length ns) none in
        absurd (omega (arith, some, not_so))

-- ---- texts

first_byte : List ℕ → ℕ
first_byte [] = 0
first_byte (b ∷ bs) = b

at_begins : (h : Hash32) (n : ℕ) → first_byte (text_of (say.At (Some h) (Some n))) ≡ 97
unfolding text_of at_text first_byte
at_begins h n = refl

refused_begins : (why : NodeRefusal) → first_byte (refusal_text why) ≡ 114
unfolding refusal_text bad_text first_byte
refused_begins refusal.Line = refl
refused_begins refusal.Long = refl
refused_begins refusal.Place = refl
refused_begins (refusal.Genesis h) = refl
refused_begins (refusal.Unknown h) = refl
refused_begins (refusal.Unconnected h) = refl
refused_begins (refusal.Deep n) = refl
refused_begins refusal.Archive = refl
refused_begins (refusal.Changed h) = refl
refused_begins (refusal.Bad h f) = refl
refused_begins refusal.Form = refl
refused_begins refusal.Coinbase = refl
refused_begins (refusal.Confirmed id) = refl
refused_begins (refusal.Known id) = refl
refused_begins (refusal.Missing id index) = refl
refused_begins (refusal.Conflict id) = refl
refused_begins (refusal.Overspends taken given) = refl
refused_begins (refusal.Full count bytes) = refl
refused_begins (refusal.Absent id) = refl

-- a text that begins with another byte
no_at : (text : List ℕ) (b : ℕ) → first_byte text ≡ b → (b == 97) ≡ false → (h : Hash32) (height : ℕ)
    → text ≢ text_of (say.At (Some h) (Some height))
no_at text b is differs h height e =
    let same : b ≡ 97 = sym is ∙ ap first_byte e ∙ at_begins h height in
    true≢false (sym (eq-eqb b 97 same) ∙ differs)

block_begins : (id : Hash32) → first_byte (text_of (say.Block id)) ≡ 98
unfolding text_of first_byte
block_begins id = refl

tx_begins : (id : Hash32) → first_byte (text_of (say.Tx id)) ≡ 116
unfolding text_of first_byte
tx_begins id = refl

gone_begins : (id : Hash32) → first_byte (text_of (say.Gone id)) ≡ 103
unfolding text_of first_byte
gone_begins id = refl

refusal_begins : (why : NodeRefusal) → first_byte (text_of (say.Refused why)) ≡ 114
unfolding text_of
refusal_begins why = refused_begins why

pub no_at_text : (answer : NodeAnswer) → TellsNoTip answer → (h : Hash32) (height : ℕ)
    → text_of answer ≢ text_of (say.At (Some h) (Some height))
no_at_text (say.Block id) not_so = no_at _ 98 (block_begins id) refl
no_at_text (say.At tip' height) not_so = absurd not_so
no_at_text (say.Tx id) not_so = no_at _ 116 (tx_begins id) refl
no_at_text (say.Gone id) not_so = no_at _ 103 (gone_begins id) refl
no_at_text (say.Refused why) not_so = no_at _ 114 (refusal_begins why) refl

-- ---- the node's lines

some_is : {x y : NodeAnswer} → Some x ≡ Some y → y ≡ x
some_is e = cc

of_flaw : (h : Hash32) (found : Option Flaw) (answer : NodeAnswer) → option_map (bad_refused h) found ≡ Some answer
    → TellsNoTip answer
of_flaw h None answer is = absurd cc
of_flaw h (Some f) answer is = rw (some_is is) tt

of_move : (e : MoveFault) (answer : NodeAnswer) → move_refused e ≡ Some answer → TellsNoTip answer
of_move (stop.Changed wanted found) answer is = rw (some_is is) tt
of_move (stop.BadBlock h f) answer is = of_flaw h (block_flaw f) answer is
of_move (stop.Refused h f) answer is = of_flaw h (connect_flaw f) answer is
of_move stop.DiskFailed answer is = absurd cc
of_move stop.ArchiveFailed answer is = absurd cc
of_move stop.Memory answer is = absurd cc

of_pool : (id : Hash32) (e : PoolFault) (answer : NodeAnswer) → pool_refused id e ≡ Some answer
    → TellsNoTip answer
of_pool id unkept.Bad answer is = rw (some_is is) tt
of_pool id unkept.CoinbaseForm answer is = rw (some_is is) tt
of_pool id unkept.Confirmed answer is = rw (some_is is) tt
of_pool id unkept.Known answer is = rw (some_is is) tt
of_pool id (unkept.Missing outpoint) answer is = rw (some_is is) tt
of_pool id (unkept.Conflict outpoint kept) answer is = rw (some_is is) tt
of_pool id (unkept.Overspends taken given) answer is = rw (some_is is) tt
of_pool id (unkept.Full count bytes) answer is = rw (some_is is) tt
of_pool id unkept.DiskFailed answer is = absurd cc
of_pool id unkept.Memory answer is = absurd cc

-- what is found at a place
of_found : (known : List Node) (found : Option Node) → TellsNoTip (found_answer known found)
of_found known None = tt
of_found known (Some n) = by (not (is_known known n.hash) && is_second known n)
  where
    by : (b : Bool) → TellsNoTip (if b then say.Refused (refusal.Genesis n.hash) else say.Block n.hash)
    by true = tt
    by false = tt

-- the chain of a side that is as it was but for other parts
same_chain : (side : Side) {next wanted : Side} → next ≡ wanted → wanted.chain ≡ side.chain
    → next.chain ≡ side.chain
same_chain side e f = ap (λ (s : Side). s.chain) e ∙ f

module _ {A : Type 0} (of_files : block_files.Ghosts A) (side : Side) (sure : IsSure side) (answer : NodeAnswer) (losses : List Deed) (next : Side) where
  never : side.sure ≡ false → ⊥
  never un = true≢false (sym sure ∙ un)

  of_looks : (file at : ℕ) → Looks of_files side file at answer losses next
      → TellsEnd side.chain answer next.chain
  of_looks file at (side_of.looks found files looked e n z) =
      stays (rw e (of_found side.found found)) (same_chain side n refl)
  of_looks file at (side_of.fails files grows e n z) = stays (rw e tt) (same_chain side n refl)

  pub of_moving : (back : ℕ) (rest : List Node) → (0 < length side.chain - back) ⊎ (0 < length rest)
      → Moving of_files side back rest answer losses next → TellsEnd side.chain answer next.chain
  of_moving back rest some (side_of.commits files blocks grows moved n e z) =
      let many = as_many (take max_forward rest) moved.texts blocks moved.blocks_are.are in
      tells_of side.chain answer next.chain e (rw n (moved_some back side.chain blocks rest many some))
  of_moving back rest some (side_of.refuses files e grows word refused n z) =
      stays (of_move e answer word) (same_chain side n refl)
  of_moving back rest some (side_of.fails files grows e n z) = stays (rw e tt) (same_chain side n refl)
  of_moving back rest some (side_of.unsure un left files grows may n z) = absurd (never un)

  of_path : (first : Node) (path : List Node) → GoesAlong of_files side (first ∷ path) answer losses next
      → TellsEnd side.chain answer next.chain
  of_path first path (side_of.deep many e n z) = stays (rw e tt) (same_chain side n refl)
  of_path first path (side_of.there back rest e n z) =
      tells_of side.chain answer next.chain (rw n e) (rw n (there_some side.chain first path rest))
  of_path first path (side_of.moves few moving made) = of_moving _ _ (path_some side.chain first path) made
  of_path first path (side_of.unsure un back same goes) = absurd (never un)

  of_tip : (h : Hash32) → Tips of_files side h answer losses next → TellsEnd side.chain answer next.chain
  of_tip h (side_of.unknown known e n z) = stays (rw e tt) (same_chain side n refl)
  of_tip h (side_of.unconnected known none e n z) = stays (rw e tt) (same_chain side n refl)
  of_tip h (side_of.along path is goes) = of_path is.first is.rest (rw is.whole at goes)

  of_added : (bytes : List ℕ) → Adds side bytes answer losses next → TellsEnd side.chain answer next.chain
  of_added bytes (side_of.joins t is none e n z) = stays (rw e tt) (same_chain side n refl)
  of_added bytes (side_of.refuses t e is why word n z) = stays (of_pool _ e answer word) (same_chain side n refl)
  of_added bytes (side_of.misread none e n z) = stays (rw e tt) (same_chain side n refl)
  of_added bytes (side_of.unsure un may n z) = absurd (never un)

  of_dropped : (id : Hash32) → Drops side id answer losses next → TellsEnd side.chain answer next.chain
  of_dropped id (side_of.goes is e n z) = stays (rw e tt) (same_chain side n refl)
  of_dropped id (side_of.absent is e n z) = stays (rw e tt) (same_chain side n refl)
  of_dropped id (side_of.unsure un may n z) = absurd (never un)

  of_orders : (said : Option NodeLine) → Orders of_files side said answer losses next
      → TellsEnd side.chain answer next.chain
  of_orders (Some (says.block file at)) o = of_looks file at o
  of_orders (Some (says.tip hash)) o = of_tip _ o
  of_orders (Some (says.tx bytes)) o = of_added bytes o
  of_orders (Some (says.dropped id)) o = of_dropped _ o
  of_orders None o = stays (rw o.0 tt) (same_chain side o.1 refl)

  pub of_line : (met : LineEvent) → OrdersLine of_files side met answer losses next
      → TellsEnd side.chain answer next.chain
  of_line (line bytes) o = of_orders o.0 o.2
  of_line too_long o = stays (rw o.0 tt) (same_chain side o.1 refl)
