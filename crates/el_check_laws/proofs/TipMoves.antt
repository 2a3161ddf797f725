-- Where a tip line leads along a path of made nodes, and by how many moves.
use Rattle.std.proofs.Common.{◌≡◌, ◌≢◌, ◌⊎◌, inl, inr, ⊎_elim, ℕ, ◌+◌, ◌-◌, ◌*◌, ◌<◌, ◌≤◌, true, List, [], ◌∷◌, length, length-drop, take, drop, refl, sym, ap, ◌∙◌, arith, subst, take_all, drop_of_length-le, true≢false}
use Rattle.std.specs.Prelude.{Option, Some, Contains}
use Rattle.std.specs.List.{AllByRecursion}
use Rattle.std.proofs.lemmas.Bool.{cases_lt, false≢true}
use Rattle.std.proofs.lemmas.List.{drop-drop}
use Rattle.el_base.specs.declared.hash.Hash32.{Hash32}
use Rattle.el_side.specs.Deeds.{Deed, archive, failures}
use Rattle.el_outside.specs.Files.{Grows}
use Rattle.el_block.specs.declared.block.Block.{Block}
use Rattle.el_chain.specs.declared.node.Node.{Node}
use Rattle.el_chain.specs.Chains.{Chain}
use Rattle.el_chain.specs.Headers.{has_hash, is_known, names_none, last_node, IsPath}
use Rattle.el_chain.specs.Moves.{max_back, max_forward, shorter}
use Rattle.el_chain.proofs.TouchLemmas.{hash_from}
use Rattle.el_headers.proofs.Places.{any_from}
use Rattle.el_headers.proofs.Paths.{place_of, member_at, found_at}
use Rattle.el_lines.specs.Lines.{line}
use Rattle.el_lines.specs.NodeLines.{NodeLine}
use Rattle.el_lines.specs.declared.node_answer.NodeAnswer.{NodeAnswer}
use Rattle.el_model.specs.Queries.{tip_of}
use Rattle.el_side.specs.Side.{Side, IsSure, Moving, commits, refuses, fails, unsure, GoesAlong, deep, there, moves, Tips, unknown, unconnected, along, Orders, OrdersLine}
use Rattle.el_side.specs.Plans.{common, back_of, rest_of}
use Rattle.el_check_chain.specs.Checked.{steady}
use Rattle.el_check_chain.specs.Leading as leading
use Rattle.el_check_chain.specs.Leading.{tip_line, moves_told, MovesOn, none, more, LeadsTo, led}
use Rattle.el_check_laws.specs.MadeNodes.{LeadsAlone}
use Rattle.el_check_laws.proofs.MadeBlocks.{IsHash}
use Rattle.el_check_laws.proofs.MadeScans.{grown}
use Rattle.el_check_laws.proofs.TipLines.{SayOne, tip_said}
use Rattle.el_check_laws.proofs.PlacedChains.{placed_of}
use Rattle.el_check_laws.proofs.MadeMoves.{IsMadePath, never_refused, put_in}

-- ---- one move

-- A move was done that put in the blocks from one height on.
pub record Moved (bytes : List ℕ) (bs : List Block) (ns : List Node) (k : ℕ) (side next : Side) (answer : NodeAnswer) : Type 0 where
  pub chain : next.chain ≡ take (k + max_forward) (placed_of bs ns)
  pub ahead : next.ahead ≡ drop (k + max_forward) ns
  pub told : moves_told answer ≡ 1
  pub sure : IsSure next
  pub found : next.found ≡ side.found
  pub grows : Grows bytes (next.files 0)

pub moved : (bytes : List ℕ) (of : ℕ → ℕ) (most : ℕ) (bs : List Block) (ns : List Node) → IsMadePath bytes of most bs ns
    → (side next : Side) (back k : ℕ) (answer : NodeAnswer) (losses : List Deed) → IsSure side → Grows bytes (side.files 0)
    → shorter back side.chain ≡ take k (placed_of bs ns) → Moving steady side back (drop k ns) answer losses next → failures archive losses ≡ 0
    → Moved bytes bs ns k side next answer
moved bytes of most bs ns path side next back k answer losses sure grows stays (commits files blocks keeps put is told lost) ok = record {
  chain = ap (λ (s : Side). s.chain) is ∙ put_in bytes of most bs ns path side.files files grows side.chain back k stays blocks put;
  ahead = ap (λ (s : Side). s.ahead) is ∙ drop-drop max_forward k ns;
  told = ap moves_told told;
  sure = ap (λ (s : Side). s.sure) is ∙ sure;
  found = ap (λ (s : Side). s.found) is;
  grows = subst (λ (t : List ℕ). Grows bytes t) (sym (ap (λ (s : Side). s.files 0) is)) (grown bytes (side.files 0) (files 0) grows (keeps tt 0));
}
moved bytes of most bs ns path side next back k answer losses sure grows stays (refuses files e keeps told why is lost) ok =
    absurd (never_refused bytes of most bs ns path side.files files grows side.chain back k stays e answer told why)
moved bytes of most bs ns path side next back k answer losses sure grows stays (fails files keeps told is lost) ok =
    absurd (let one : failures archive losses ≡ 1 = ap (failures archive) lost in omega (arith, one, ok))
moved bytes of most bs ns path side next back k answer losses sure grows stays (unsure un left files keeps told is lost) ok =
    absurd (true≢false (sym sure ∙ un))

-- ---- the moves after it

-- So many moves, each of which put in blocks that were left, led to this side.
pub record OnWay (bytes : List ℕ) (bs : List Block) (ns : List Node) (start : Side) (from n : ℕ) (side : Side) : Type 0 where
  pub chain : side.chain ≡ take (from + 16 * n) (placed_of bs ns)
  pub ahead : side.ahead ≡ drop (from + 16 * n) ns
  pub sure : IsSure side
  pub found : side.found ≡ start.found
  pub grows : Grows bytes (side.files 0)
  pub least : (n ≡ 0) ⊎ (from + 16 * n < length ns + 16)

none_back : (chain : Chain) → shorter 0 chain ≡ chain
none_back chain = take_all (length chain - 0) chain (omega arith)

pub on_way : (bytes : List ℕ) (of : ℕ → ℕ) (most : ℕ) (bs : List Block) (ns : List Node) → IsMadePath bytes of most bs ns → (start : Side) (from : ℕ)
    → start.chain ≡ take from (placed_of bs ns) → start.ahead ≡ drop from ns → IsSure start → Grows bytes (start.files 0)
    → {n : ℕ} {side : Side} → MovesOn steady start n side → OnWay bytes bs ns start from n side
on_way bytes of most bs ns path start from chain ahead sure grows none =
    let e : from ≡ from + 16 * 0 = omega arith in
    record {
      chain = chain ∙ ap (λ (k : ℕ). take k (placed_of bs ns)) e;
      ahead = ahead ∙ ap (λ (k : ℕ). drop k ns) e;
      sure = sure;
      found = refl;
      grows = grows;
      least = inl refl;
    }
on_way bytes of most bs ns path start from chain ahead sure grows (more n side next answer losses before some moving ok) =
    let was = on_way bytes of most bs ns path start from chain ahead sure grows before in
    let here = subst (λ (l : List Node). Moving steady side 0 l answer losses next) was.ahead moving in
    let now = moved bytes of most bs ns path side next 0 (from + 16 * n) answer losses was.sure was.grows (none_back side.chain ∙ was.chain) here ok in
    let told = now.told in
    let e : from + 16 * n + max_forward ≡ from + 16 * (n + moves_told answer) = omega (arith, told) in
    record {
      chain = now.chain ∙ ap (λ (k : ℕ). take k (placed_of bs ns)) e;
      ahead = now.ahead ∙ ap (λ (k : ℕ). drop k ns) e;
      sure = now.sure;
      found = now.found ∙ was.found;
      grows = now.grows;
      least = elim (cases_lt (from + 16 * n) (length ns)) [
        | inl lt ↦ inr (omega (arith, lt, told))
        | inr le ↦ absurd (some (was.ahead ∙ drop_of_length-le ns le))
      ];
    }

-- ---- a tip line

-- A path to a hash has it among the found nodes.
last_member : (found : List Node) (g : Node) (rest : List Node) → Contains found g → AllByRecursion (Contains found) rest → Contains found (last_node g rest)
last_member found g [] inside all = inside
last_member found g (n ∷ rest) inside all = last_member found n rest all.0 all.1

path_known : (found : List Node) (h : Hash32) (path : List Node) → IsPath found h path → is_known found h ≡ true
path_known found h path p =
    let at = found_at names_none found p.first p.begins in
    let last = last_member found p.first p.rest (member_at found at.0 p.first at.1) p.members in
    let place = place_of found (last_node p.first p.rest) last in
    any_from (has_hash h) found place.0 (last_node p.first p.rest) place.1 (hash_from (last_node p.first p.rest).hash h p.ends)

-- How a side's chain leaves a path of nodes.
pub record Departs (bs : List Block) (ns : List Node) (side : Side) : Type 0 where
  pub stays : shorter (back_of side.chain ns) side.chain ≡ take (common side.chain ns) (placed_of bs ns)
  pub near : back_of side.chain ns ≤ max_back
  pub moving : back_of side.chain ns ≡ 0 → rest_of side.chain ns ≡ [] → ⊥

-- A tip line led to the chain of all blocks of the path, by one move and so many more.
pub record Led (bytes : List ℕ) (bs : List Block) (ns : List Node) (side last : Side) (n : ℕ) : Type 0 where
  pub chain : last.chain ≡ placed_of bs ns
  pub sure : IsSure last
  pub found : last.found ≡ side.found
  pub grows : Grows bytes (last.files 0)
  pub later : ℕ
  pub count : n ≡ 1 + later
  pub enough : length ns ≤ common side.chain ns + 16 + 16 * later
  pub least : (later ≡ 0) ⊎ (common side.chain ns + 16 * later < length ns)

module _ (bytes : List ℕ) (of : ℕ → ℕ) (most : ℕ) (bs : List Block) (ns : List Node) (path : IsMadePath bytes of most bs ns) (same : length (placed_of bs ns) ≡ length ns)
    (says_one : SayOne) (side : Side) (to : Hash32) (hash : IsHash to) (alone : LeadsAlone side.found to ns) (departs : Departs bs ns side) (sure : IsSure side) (grows : Grows bytes (side.files 0)) where
  first_move : (first : Side) (answer : NodeAnswer) (losses : List Deed) → failures archive losses ≡ 0
      → GoesAlong steady side ns answer losses first → Moved bytes bs ns (common side.chain ns) side first answer
  first_move first answer losses ok (deep far told is lost) = let near = departs.near in absurd (omega (arith, far, near))
  first_move first answer losses ok (there back rest told is lost) = absurd (departs.moving back rest)
  first_move first answer losses ok (moves near moving goes) =
      moved bytes of most bs ns path side first (back_of side.chain ns) (common side.chain ns) answer losses sure grows departs.stays goes ok
  first_move first answer losses ok (unsure un back same goes) = absurd (true≢false (sym sure ∙ un))

  tip_move : (first : Side) (answer : NodeAnswer) (losses : List Deed) → failures archive losses ≡ 0
      → Tips steady side to answer losses first → Moved bytes bs ns (common side.chain ns) side first answer
  tip_move first answer losses ok (unknown new told is lost) = absurd (false≢true (sym new ∙ path_known side.found to ns alone.is_path))
  tip_move first answer losses ok (unconnected known no_path told is lost) = absurd (no_path ns alone.is_path)
  tip_move first answer losses ok (along other is_path goes) =
      first_move first answer losses ok (subst (λ (p : List Node). GoesAlong steady side p answer losses first) (alone.alone other is_path) goes)

  line_move : (first : Side) (answer : NodeAnswer) (losses : List Deed) → failures archive losses ≡ 0
      → OrdersLine steady side (line (tip_line to)) answer losses first → Moved bytes bs ns (common side.chain ns) side first answer
  line_move first answer losses ok (said, says, orders) =
      tip_move first answer losses ok (subst (λ (s : Option NodeLine). Orders steady side s answer losses first) (tip_said says_one to said hash says) orders)

  pub line_leads : (n : ℕ) (last : Side) → tip_of side.chain ≢ Some to → LeadsTo steady side to n last → Led bytes bs ns side last n
  line_leads n last other (leading.there here is same_side) = absurd (other here)
  line_leads n last other (led elsewhere answer losses first orders ok later on done is) =
      let one = line_move first answer losses ok orders in
      let way = on_way bytes of most bs ns path first (common side.chain ns + max_forward) one.chain one.ahead one.sure one.grows on in
      let nothing : length (drop (common side.chain ns + max_forward + 16 * later) ns) ≡ 0 = ap length (sym way.ahead ∙ done) in
      let left = length-drop (common side.chain ns + max_forward + 16 * later) ns in
      let told = one.told in
      let fewest = way.least in
      let enough : length ns ≤ common side.chain ns + 16 + 16 * later = omega (arith, nothing, left) in
      record {
        chain = way.chain ∙ take_all (common side.chain ns + max_forward + 16 * later) (placed_of bs ns) (omega (arith, same, enough));
        sure = way.sure;
        found = way.found ∙ one.found;
        grows = way.grows;
        later = later;
        count = is ∙ ap (λ (m : ℕ). m + later) told;
        enough = enough;
        least = ⊎_elim (λ zero_more. inl zero_more) (λ lt. inr (omega (arith, lt))) fewest;
      }
