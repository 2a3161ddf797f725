-- Steps of the node after which no memory was found for what they touched.
use Rattle.std.proofs.Common.{◌≡◌, ◌⊎◌, inl, inr, ℕ, Bool, true, false, List, [], ◌∷◌, Option, Some, None, refl, ap, subst}
use Rattle.el_base.specs.declared.hash.Hash32.{Hash32}
use Rattle.el_outside.specs.declared.archive.Archive as archives
use Rattle.el_side.specs.Deeds as deed
use Rattle.el_side.specs.Deeds.{Deed, archive, offers}
use Rattle.el_outside.specs.Files.{AllGrow}
use Rattle.el_chain.specs.declared.node.Node.{Node}
use Rattle.el_chain.specs.declared.moves.Plan.{Plan}
use Rattle.el_chain.specs.Chains.{Chain}
use Rattle.el_chain.specs.Moves.{Moves, StoodAt, StoodBy, target}
use Rattle.el_model.specs.LedgerCalls.{Moved}
use Rattle.el_model.proofs.ReadBodies.{moves_weaker, stood_up_to}
use Rattle.el_lines.specs.Lines.{LineEvent, line, too_long}
use Rattle.el_lines.specs.declared.node_answer.NodeAnswer.{NodeAnswer}
use Rattle.el_lines.specs.declared.node_answer.NodeAnswer.TheVariants as say
use Rattle.el_lines.specs.declared.node_answer.NodeRefusal.TheVariants as refusal
use Rattle.el_lines.specs.NodeLines.{NodeLine, block, tip, tx, dropped, ReadsNodeLine}
use Rattle.el_side.specs.NodeSteps.{Leads, StepLeft}
use Rattle.el_side.specs.UnderWay.{IsFirstMove, before as not_moved, in_move}
use Rattle.el_side.specs.Plans.{back_of, rest_of, plan_of}
use Rattle.el_side.specs.Side as side_of
use Rattle.el_side.proofs.Settled.{not_both}
use Rattle.el_side.specs.Side.{Side, IsSure, IsSaid, Looks, Moving, GoesUnsure, GoesAlong, Orders, OrdersLine, Tips, Adds, Drops}
use Rattle.el_sync.specs.Steps.{by_memory, untold, StepFails, StopsAt}
use Rattle.el_model.specs.declared.fault.QueryFault.TheVariants as fault
use Rattle.el_side.specs.Beneath.{Beneath, Ghosts, Lost}

-- the chain is as it was, or the target of the move
data Ends (stood : Node → List ℕ → Type 0) (chain : Chain) (is_move : Plan → Type 0) (answer : NodeAnswer) (losses : List Deed) (next : Chain) : Type 0 where
  stays : next ≡ chain → losses ≡ [] → Ends stood chain is_move answer losses next
  lost : answer ≡ say.Refused refusal.Archive → next ≡ chain → losses ≡ deed.lost archive ∷ [] → Ends stood chain is_move answer losses next
  moved : (p : Plan) (blocks : Chain) → is_move p → Moves stood chain p blocks → next ≡ target p chain blocks → losses ≡ [] → Ends stood chain is_move answer losses next

module _ (stood : Node → List ℕ → Type 0) (side : Side) (P : Plan → Type 0) (answer : NodeAnswer) (losses : List Deed) (next : Side) where
  of_tx : (bytes : List ℕ) → Adds side bytes answer losses next → Ends stood side.chain P answer losses next.chain
  of_tx bytes (side_of.joins t encodes right answer_is next_is none) = stays (ap (λ (s : Side). s.chain) next_is) none
  of_tx bytes (side_of.refuses t e encodes why answer_is next_is none) = stays (ap (λ (s : Side). s.chain) next_is) none
  of_tx bytes (side_of.misread other answer_is next_is none) = stays (ap (λ (s : Side). s.chain) next_is) none
  of_tx bytes (side_of.unsure un may next_is none) = stays (ap (λ (s : Side). s.chain) next_is) none

  of_drop : (id : Hash32) → Drops side id answer losses next → Ends stood side.chain P answer losses next.chain
  of_drop id (side_of.goes is answer_is next_is none) = stays (ap (λ (s : Side). s.chain) next_is) none
  of_drop id (side_of.absent is answer_is next_is none) = stays (ap (λ (s : Side). s.chain) next_is) none
  of_drop id (side_of.unsure un may next_is none) = stays (ap (λ (s : Side). s.chain) next_is) none

module _ {A : Type 0} (f : archives.Ghosts A) (side : Side) where
  of_moving : (back : ℕ) (rest : List Node) (answer : NodeAnswer) (losses : List Deed) (next : Side) (files : ℕ → List ℕ) → (f.tells → AllGrow next.files files) → Moving f side back rest answer losses next
      → Ends (StoodBy f files) side.chain (λ (p : Plan). p ≡ plan_of back rest) answer losses next.chain
  of_moving back rest answer losses next files grows (side_of.commits read blocks more moves next_is answer_is none) =
      let grows' : f.tells → AllGrow read files = λ t. subst (λ (s : Side). AllGrow s.files files) next_is (grows t) in
      let by : (n : Node) (t : List ℕ) → StoodAt f side.files read n t → StoodBy f files n t = λ n t stood. stood_up_to f side.files read files n t grows' stood in
      moved (plan_of back rest) blocks refl (moves_weaker (StoodAt f side.files read) (StoodBy f files) side.chain (plan_of back rest) blocks by moves) (ap (λ (s : Side). s.chain) next_is) none
  of_moving back rest answer losses next files grows (side_of.refuses read e more answer_is why next_is none) = stays (ap (λ (s : Side). s.chain) next_is) none
  of_moving back rest answer losses next files grows (side_of.fails read more answer_is next_is one) = lost answer_is (ap (λ (s : Side). s.chain) next_is) one
  of_moving back rest answer losses next files grows (side_of.unsure un left read more may next_is none) = stays (ap (λ (s : Side). s.chain) next_is) none

  ends_by : (P Q : Plan → Type 0) (answer : NodeAnswer) (losses : List Deed) (chain next : Chain) (files : ℕ → List ℕ) → ((p : Plan) → P p → Q p) → Ends (StoodBy f files) chain P answer losses next → Ends (StoodBy f files) chain Q answer losses next
  ends_by P Q answer losses chain next files gives (stays same none) = stays same none
  ends_by P Q answer losses chain next files gives (lost says same one) = lost says same one
  ends_by P Q answer losses chain next files gives (moved p blocks is moves next_is none) = moved p blocks (gives p is) moves next_is none

  of_tip : (bytes hash : List ℕ) (answer : NodeAnswer) (losses : List Deed) (next : Side) (files : ℕ → List ℕ) → IsSure side → (f.tells → AllGrow next.files files) → ReadsNodeLine bytes (tip hash)
      → Tips f side (record { 0 = hash }) answer losses next → Ends (StoodBy f files) side.chain (IsFirstMove side (line bytes)) answer losses next.chain
  of_tip bytes hash answer losses next files sure grows reads (side_of.unknown none_known answer_is next_is none) = stays (ap (λ (s : Side). s.chain) next_is) none
  of_tip bytes hash answer losses next files sure grows reads (side_of.unconnected is_known no_path answer_is next_is none) = stays (ap (λ (s : Side). s.chain) next_is) none
  of_tip bytes hash answer losses next files sure grows reads (side_of.along path is_path (side_of.deep far answer_is next_is none)) = stays (ap (λ (s : Side). s.chain) next_is) none
  of_tip bytes hash answer losses next files sure grows reads (side_of.along path is_path (side_of.there none_back none_left answer_is next_is none)) = stays (ap (λ (s : Side). s.chain) next_is) none
  of_tip bytes hash answer losses next files sure grows reads (side_of.along path is_path (side_of.moves few moving move)) =
      ends_by (λ (p : Plan). p ≡ plan_of (back_of side.chain path) (rest_of side.chain path)) (IsFirstMove side (line bytes)) answer losses side.chain next.chain files
      (λ p is. record { bytes = bytes; hash = hash; path = path; met_is = refl; reads = reads; is_path = is_path; few = few; moving = moving; plan_is = is })
      (of_moving (back_of side.chain path) (rest_of side.chain path) answer losses next files grows move)
  of_tip bytes hash answer losses next files sure grows reads (side_of.along path is_path (side_of.unsure un back same goes)) = absurd (not_both side sure un)

module _ {A : Type 0} (f : archives.Ghosts A) (side : Side) where
  of_place : (P : Plan → Type 0) (answer : NodeAnswer) (losses : List Deed) (next : Side) (files : ℕ → List ℕ) (file at : ℕ) → Looks f side file at answer losses next
      → Ends (StoodBy f files) side.chain P answer losses next.chain
  of_place P answer losses next files file at (side_of.looks found read up answer_is next_is none) = stays (ap (λ (s : Side). s.chain) next_is) none
  of_place P answer losses next files file at (side_of.fails read more answer_is next_is one) = lost answer_is (ap (λ (s : Side). s.chain) next_is) one

  of_said : (bytes : List ℕ) (answer : NodeAnswer) (losses : List Deed) (next : Side) (files : ℕ → List ℕ) (said : Option NodeLine) → IsSure side → (f.tells → AllGrow next.files files) → IsSaid bytes said → Orders f side said answer losses next
      → Ends (StoodBy f files) side.chain (IsFirstMove side (line bytes)) answer losses next.chain
  of_said bytes answer losses next files None sure grows says orders = stays (ap (λ (s : Side). s.chain) orders.1) orders.2
  of_said bytes answer losses next files (Some (block file at)) sure grows says orders = of_place (IsFirstMove side (line bytes)) answer losses next files file at orders
  of_said bytes answer losses next files (Some (tip hash)) sure grows says orders = of_tip f side bytes hash answer losses next files sure grows says orders
  of_said bytes answer losses next files (Some (tx b)) sure grows says orders = of_tx (StoodBy f files) side (IsFirstMove side (line bytes)) answer losses next b orders
  of_said bytes answer losses next files (Some (dropped id)) sure grows says orders = of_drop (StoodBy f files) side (IsFirstMove side (line bytes)) answer losses next (record { 0 = id }) orders

  of_line : (e : LineEvent) (answer : NodeAnswer) (losses : List Deed) (next : Side) (files : ℕ → List ℕ) → IsSure side → (f.tells → AllGrow next.files files) → OrdersLine f side e answer losses next
      → Ends (StoodBy f files) side.chain (IsFirstMove side e) answer losses next.chain
  of_line too_long answer losses next files sure grows orders = stays (ap (λ (s : Side). s.chain) orders.1) orders.2
  of_line (line bytes) answer losses next files sure grows orders = of_said bytes answer losses next files orders.0 sure grows orders.1 orders.2

module _ {G A : Type 0} (of : Ghosts G A) where
  ends_stops : (was now : Beneath G A) (chain next : Chain) (later : Bool) (P : Plan → Type 0) (answer : NodeAnswer) (losses : List Deed) → (answer ≡ say.Refused refusal.Archive → later ≡ true)
      → Moved of.ledger was.ledger now.ledger chain next → Lost of was now losses → Ends (StoodBy of.files (of.files.bytes now.files)) chain P answer losses next
      → StopsAt of was now chain later P fault.Memory
  ends_stops was now chain next later P answer losses again went rose (stays same none) = record {
    next = next;
    flight = not_moved same;
    crash = went.crash;
    stood = λ m. went;
    losses = losses;
    fails = by_memory refl none;
    rose = rose;
  }
  ends_stops was now chain next later P answer losses again went rose (lost says same one) = record {
    next = next;
    flight = not_moved same;
    crash = went.crash;
    stood = λ m. went;
    losses = losses;
    fails = untold (again says) refl one same;
    rose = rose;
  }
  ends_stops was now chain next later P answer losses again went rose (moved p blocks is moves next_is none) = record {
    next = next;
    flight = in_move p is (inr (blocks, moves, next_is));
    crash = went.crash;
    stood = λ m. went;
    losses = losses;
    fails = by_memory refl none;
    rose = rose;
  }

  -- after a later move of a tip line
  pub move_starves : (side : Side) (start : Chain) (rest : List Node) (left : StepLeft G A) → IsSure side → Leads of (Moving of.files side 0 rest) side start left
      → StopsAt of left.was left.now side.chain true (λ (p : Plan). p ≡ plan_of 0 rest) fault.Memory
  move_starves side start rest left sure led =
      ends_stops left.was left.now side.chain led.next.chain true (λ (p : Plan). p ≡ plan_of 0 rest) left.answer led.losses (λ says. refl) (led.went sure) led.rose
      (of_moving of.files side 0 rest left.answer led.losses led.next (of.files.bytes left.now.files) led.told led.led)

  -- after a line, whose answer isn't that the block files failed
  pub line_starves : (side : Side) (start : Chain) (e : LineEvent) (left : StepLeft G A) → (left.answer ≡ say.Refused refusal.Archive → ⊥) → IsSure side → Leads of (OrdersLine of.files side e) side start left
      → StopsAt of left.was left.now side.chain false (IsFirstMove side e) fault.Memory
  line_starves side start e left apart sure led =
      ends_stops left.was left.now side.chain led.next.chain false (IsFirstMove side e) left.answer led.losses (λ says. absurd (apart says)) (led.went sure) led.rose
      (of_line of.files side e left.answer led.losses led.next (of.files.bytes left.now.files) sure led.told led.led)

-- ---- what is lost in a step of whatever side

-- nothing was lost, or the block files failed and that is told
abbrev LostOrNot : NodeAnswer → List Deed → Type 0
LostOrNot answer losses = (losses ≡ []) ⊎ ((answer ≡ say.Refused refusal.Archive) × (losses ≡ deed.lost archive ∷ []))

module _ {A : Type 0} (f : archives.Ghosts A) (side : Side) (answer : NodeAnswer) (losses : List Deed) (next : Side) where
  lost_moving : (back : ℕ) (rest : List Node) → Moving f side back rest answer losses next → LostOrNot answer losses
  lost_moving back rest (side_of.commits read blocks more moves next_is answer_is none) = inl none
  lost_moving back rest (side_of.refuses read e more answer_is why next_is none) = inl none
  lost_moving back rest (side_of.fails read more answer_is next_is one) = inr (answer_is, one)
  lost_moving back rest (side_of.unsure un left read more may next_is none) = inl none

  lost_unsure : (back : ℕ) (rest : List Node) → GoesUnsure f side back rest answer losses next → LostOrNot answer losses
  lost_unsure back rest (side_of.deep far answer_is next_is none) = inl none
  lost_unsure back rest (side_of.there hash height none_back none_left answer_is next_is none) = inl none
  lost_unsure back rest (side_of.moves few moving move) = lost_moving back rest move

  lost_along : (path : List Node) → GoesAlong f side path answer losses next → LostOrNot answer losses
  lost_along path (side_of.deep far answer_is next_is none) = inl none
  lost_along path (side_of.there none_back none_left answer_is next_is none) = inl none
  lost_along path (side_of.moves few moving move) = lost_moving _ _ move
  lost_along path (side_of.unsure un back same goes) = lost_unsure _ _ goes

  lost_tip : (h : Hash32) → Tips f side h answer losses next → LostOrNot answer losses
  lost_tip h (side_of.unknown none_known answer_is next_is none) = inl none
  lost_tip h (side_of.unconnected is_known no_path answer_is next_is none) = inl none
  lost_tip h (side_of.along path is_path goes) = lost_along path goes

  lost_place : (file at : ℕ) → Looks f side file at answer losses next → LostOrNot answer losses
  lost_place file at (side_of.looks found read up answer_is next_is none) = inl none
  lost_place file at (side_of.fails read more answer_is next_is one) = inr (answer_is, one)

  lost_tx : (bytes : List ℕ) → Adds side bytes answer losses next → LostOrNot answer losses
  lost_tx bytes (side_of.joins t encodes right answer_is next_is none) = inl none
  lost_tx bytes (side_of.refuses t e encodes why answer_is next_is none) = inl none
  lost_tx bytes (side_of.misread other answer_is next_is none) = inl none
  lost_tx bytes (side_of.unsure un may next_is none) = inl none

  lost_drop : (id : Hash32) → Drops side id answer losses next → LostOrNot answer losses
  lost_drop id (side_of.goes is answer_is next_is none) = inl none
  lost_drop id (side_of.absent is answer_is next_is none) = inl none
  lost_drop id (side_of.unsure un may next_is none) = inl none

  lost_said : (said : Option NodeLine) → Orders f side said answer losses next → LostOrNot answer losses
  lost_said None orders = inl orders.2
  lost_said (Some (block file at)) orders = lost_place file at orders
  lost_said (Some (tip hash)) orders = lost_tip (record { 0 = hash }) orders
  lost_said (Some (tx b)) orders = lost_tx b orders
  lost_said (Some (dropped id)) orders = lost_drop (record { 0 = id }) orders

  lost_line : (e : LineEvent) → OrdersLine f side e answer losses next → LostOrNot answer losses
  lost_line too_long orders = inl orders.2
  lost_line (line bytes) orders = lost_said orders.0 orders.2

-- no offer is among it
none_offered : (answer : NodeAnswer) (losses : List Deed) → LostOrNot answer losses → offers losses ≡ []
none_offered answer losses (inl none) = ap offers none
none_offered answer losses (inr one) = ap offers one.1

pub moving_offers : {A : Type 0} (f : archives.Ghosts A) (side : Side) (answer : NodeAnswer) (losses : List Deed) (next : Side) (back : ℕ) (rest : List Node)
    → Moving f side back rest answer losses next → offers losses ≡ []
moving_offers f side answer losses next back rest move = none_offered answer losses (lost_moving f side answer losses next back rest move)

pub line_offers : {A : Type 0} (f : archives.Ghosts A) (side : Side) (answer : NodeAnswer) (losses : List Deed) (next : Side) (e : LineEvent)
    → OrdersLine f side e answer losses next → offers losses ≡ []
line_offers f side answer losses next e orders = none_offered answer losses (lost_line f side answer losses next e orders)

module _ {G A : Type 0} (of : Ghosts G A) where
  fails_so : (was now : Beneath G A) (chain : Chain) (later : Bool) (answer : NodeAnswer) (losses : List Deed) → (answer ≡ say.Refused refusal.Archive → later ≡ true) → Lost of was now losses
      → LostOrNot answer losses → StepFails of was now chain later fault.Memory
  fails_so was now chain later answer losses again rose (inl none) = record { losses = losses; fails = by_memory refl none; rose = rose }
  fails_so was now chain later answer losses again rose (inr one) = record { losses = losses; fails = untold (again one.0) refl one.1 refl; rose = rose }

  -- no memory was found after a later move of a tip line
  pub move_fails : (side : Side) (start : Chain) (rest : List Node) (left : StepLeft G A) → Leads of (Moving of.files side 0 rest) side start left → StepFails of left.was left.now side.chain true fault.Memory
  move_fails side start rest left led =
      fails_so left.was left.now side.chain true left.answer led.losses (λ says. refl) led.rose (lost_moving of.files side left.answer led.losses led.next 0 rest led.led)

  -- nor after a line, whose answer isn't that the block files failed
  pub line_fails : (side : Side) (start : Chain) (e : LineEvent) (left : StepLeft G A) → (left.answer ≡ say.Refused refusal.Archive → ⊥) → Leads of (OrdersLine of.files side e) side start left
      → StepFails of left.was left.now side.chain false fault.Memory
  line_fails side start e left apart led =
      fails_so left.was left.now side.chain false left.answer led.losses (λ says. absurd (apart says)) led.rose (lost_line of.files side left.answer led.losses led.next e led.led)
