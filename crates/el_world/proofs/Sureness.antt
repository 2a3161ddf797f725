-- A side that is sure stays so, and no other becomes so, through lines of the node, turns, runs and stops.
use Rattle.std.proofs.Common.{◌≡◌, ℕ, ◌==◌, Bool, true, false, if◌then◌else◌, List, ◌++◌, map, length, nat_lt, Option, None, Some, refl, ap, ◌∙◌}
use Rattle.std.specs.Prelude.{find, MatchBool}
use Rattle.el_base.specs.declared.hash.Hash32.{Hash32}
use Rattle.el_side.specs.Deeds.{Deed}
use Rattle.el_outside.specs.declared.archive.Archive as block_files
use Rattle.el_outside.specs.Trace.{ArrivalWithBytes, opened, brought, closed, quiet, ended, Message, Closing}
use Rattle.el_chain.specs.declared.node.Node.{Node}
use Rattle.el_lines.specs.Lines.{LineEvent, line, too_long}
use Rattle.el_lines.specs.NodeLines as says
use Rattle.el_lines.specs.NodeLines.{NodeLine}
use Rattle.el_lines.specs.declared.node_answer.NodeAnswer.{NodeAnswer}
use Rattle.el_replies.specs.declared.line.LineReply.{LineReply}
use Rattle.el_sessions.specs.declared.session.Session as client
use Rattle.el_side.specs.Side as side_of
use Rattle.el_side.specs.Side.{Side, Looks, Moving, GoesUnsure, GoesAlong, Tips, Adds, Drops, Orders, OrdersLine}
use Rattle.el_world.specs.World as world_of
use Rattle.el_world.specs.World.{World, Session, Event, Outs, Takes, IsLed, IsAnswered, Replied, Notifies, is_peer, is_client, with_session, without_client, hearing, after_hearing, client_limit, after_reply}
use Rattle.el_world.specs.Run as run_of
use Rattle.el_world.specs.Run.{OneTurn, Delivers, Turns, Run}

-- ---- lines of the node

-- the side is as sure as the one that the next is
is_as : (side : Side) {next wanted : Side} → next ≡ wanted → wanted.sure ≡ side.sure → next.sure ≡ side.sure
is_as side e f = ap (λ (s : Side). s.sure) e ∙ f

module _ {A : Type 0} (of_files : block_files.Ghosts A) (side : Side) (answer : NodeAnswer) (losses : List Deed) (next : Side) where
  of_looks : (file at : ℕ) → Looks of_files side file at answer losses next → next.sure ≡ side.sure
  of_looks file at (side_of.looks found files looked e n z) = is_as side n refl
  of_looks file at (side_of.fails files grows e n z) = is_as side n refl

  pub moving_sure : (back : ℕ) (rest : List Node) → Moving of_files side back rest answer losses next → next.sure ≡ side.sure
  moving_sure back rest (side_of.commits files blocks grows moved n e z) = is_as side n refl
  moving_sure back rest (side_of.refuses files e grows word refused n z) = is_as side n refl
  moving_sure back rest (side_of.fails files grows e n z) = is_as side n refl
  moving_sure back rest (side_of.unsure un left files grows may n z) = is_as side n refl

  of_unsure : (back : ℕ) (rest : List Node) → GoesUnsure of_files side back rest answer losses next → next.sure ≡ side.sure
  of_unsure back rest (side_of.deep many e n z) = is_as side n refl
  of_unsure back rest (side_of.there hash height none nothing e n z) = is_as side n refl
  of_unsure back rest (side_of.moves few moving made) = moving_sure back rest made

  of_path : (path : List Node) → GoesAlong of_files side path answer losses next → next.sure ≡ side.sure
  of_path path (side_of.deep many e n z) = is_as side n refl
  of_path path (side_of.there back rest e n z) = is_as side n refl
  of_path path (side_of.moves few moving made) = moving_sure _ _ made
  of_path path (side_of.unsure un back same goes) = of_unsure _ _ goes

  of_tip : (h : Hash32) → Tips of_files side h answer losses next → next.sure ≡ side.sure
  of_tip h (side_of.unknown known e n z) = is_as side n refl
  of_tip h (side_of.unconnected known none e n z) = is_as side n refl
  of_tip h (side_of.along path is goes) = of_path path goes

  of_added : (bytes : List ℕ) → Adds side bytes answer losses next → next.sure ≡ side.sure
  of_added bytes (side_of.joins t is none e n z) = is_as side n refl
  of_added bytes (side_of.refuses t e is why word n z) = is_as side n refl
  of_added bytes (side_of.misread none e n z) = is_as side n refl
  of_added bytes (side_of.unsure un may n z) = is_as side n refl

  of_dropped : (id : Hash32) → Drops side id answer losses next → next.sure ≡ side.sure
  of_dropped id (side_of.goes is e n z) = is_as side n refl
  of_dropped id (side_of.absent is e n z) = is_as side n refl
  of_dropped id (side_of.unsure un may n z) = is_as side n refl

  of_orders : (said : Option NodeLine) → Orders of_files side said answer losses next → next.sure ≡ side.sure
  of_orders (Some (says.block file at)) o = of_looks file at o
  of_orders (Some (says.tip hash)) o = of_tip _ o
  of_orders (Some (says.tx bytes)) o = of_added bytes o
  of_orders (Some (says.dropped id)) o = of_dropped _ o
  of_orders None o = is_as side o.1 refl

  pub line_sure : (met : LineEvent) → OrdersLine of_files side met answer losses next → next.sure ≡ side.sure
  line_sure (line bytes) o = of_orders o.0 o.2
  line_sure too_long o = is_as side o.1 refl

-- ---- turns

-- a client's line leaves the side
pub replied_side : (p : ℕ) (reply : LineReply) (session : Session) (kept : client.Session) (world : World)
    → (after_reply p reply session kept world).side ≡ world.side
replied_side p reply session kept world = by reply.closes
  where
    by : (b : Bool) → (if b then without_client p world
        else with_session p (record session { client = kept }) world).side ≡ world.side
    by true = refl
    by false = refl

-- the world is as sure as the one that the next is
world_as : (world : World) {next wanted : World} → next ≡ wanted → wanted.side ≡ world.side → next.side.sure ≡ world.side.sure
world_as world e f = ap (λ (w : World). w.side.sure) e ∙ ap (λ (s : Side). s.sure) f

led_sure : (leads : NodeAnswer → List Deed → Side → Type 0) (world first : World) (outs : Outs) (losses : List Deed) (next : World)
    → ((answer : NodeAnswer) (side : Side) → leads answer losses side → side.sure ≡ world.side.sure)
    → IsLed leads first outs losses next → next.side.sure ≡ world.side.sure
led_sure leads world first outs losses next sure l = ap (λ (w : World). w.side.sure) l.next_is ∙ sure l.answer l.side l.led

module _ {A : Type 0} (of_files : block_files.Ghosts A) (world : World) (outs : Outs) (losses : List Deed) (next : World) where
  answered_sure : (p : ℕ) (bytes : List ℕ) (session : Session) → IsAnswered of_files.tells world p bytes session outs losses next
      → next.side.sure ≡ world.side.sure
  answered_sure p bytes session (world_of.replied reply kept desk comes o n) = world_as world n (replied_side p reply session kept (record world { desk = desk }))
  answered_sure p bytes session (world_of.starved e kept desk comes o n) = world_as world n refl

  replied_sure : (p : ℕ) (bytes : List ℕ) (found : Option Session) → Replied of_files.tells world p bytes found outs losses next
      → next.side.sure ≡ world.side.sure
  replied_sure p bytes None r = world_as world r.1 refl
  replied_sure p bytes (Some session) r = answered_sure p bytes session r

  taken_sure : (event : Event) → Takes of_files world event outs losses next → next.side.sure ≡ world.side.sure
  taken_sure (world_of.joins p) t = by (nat_lt (length world.sessions) client_limit) t
    where
      by : (b : Bool) → MatchBool b (world_of.OnlyDoes world_of.nothing (world_of.with_client p world) outs losses next)
          (world_of.OnlyDoes (world_of.closes_surplus p) world outs losses next) → next.side.sure ≡ world.side.sure
      by true d = world_as world d.1 refl
      by false d = world_as world d.1 refl
  taken_sure (world_of.leaves p) t = world_as world t.1 refl
  taken_sure (world_of.says p (line bytes)) t = replied_sure p bytes (find (is_peer p) world.sessions) t
  taken_sure (world_of.says p too_long) t = by (is_client p world) t
    where
      by : (b : Bool) → MatchBool b (world_of.OnlyDoes (world_of.closes_long p) (without_client p world) outs losses next)
          (world_of.OnlyDoes world_of.nothing world outs losses next) → next.side.sure ≡ world.side.sure
      by true d = world_as world d.1 refl
      by false d = world_as world d.1 refl
  taken_sure (world_of.orders met) t =
      led_sure (OrdersLine of_files world.side met) world (world_of.begun world) outs losses next
      (λ answer side o. line_sure of_files world.side answer losses side met o) t

  told_sure : Notifies world outs losses next → next.side.sure ≡ world.side.sure
  told_sure (world_of.tells session is o n z) = world_as world n refl
  told_sure (world_of.fails session is o n z) = world_as world n refl
  told_sure (world_of.unsure un session texts now is all stays o n z) = world_as world n refl

  pub turn_sure : (done : List Event) → OneTurn of_files world done outs losses next → next.side.sure ≡ world.side.sure
  turn_sure done (run_of.takes event still everyone d t) = taken_sure event t
  turn_sure done (run_of.works busy d w) =
      led_sure (Moving of_files world.side 0 world.side.ahead) world world outs losses next
      (λ answer side m. moving_sure of_files world.side answer losses side 0 world.side.ahead m) w
  turn_sure done (run_of.notifies still d n) = told_sure n
  turn_sure done (run_of.departs p is d o n z) = world_as world n refl

-- what a turn gave is sent, and leaves the side
pub same_side : {world next : World} {messages sent : List Message} {closing : Option Closing}
    {closings : List Closing} {losses : List Deed}
    → Delivers world messages closing sent closings losses next → next.side ≡ world.side
same_side (run_of.all world closing) = refl
same_side (run_of.sends world m messages closing sent closings losses next d) = same_side d
same_side (run_of.loses world m messages closing reason sent closings losses next is departs d) = same_side d

pub turns_sure : {A : Type 0} {of_files : block_files.Ghosts A} {first world : World} {past : List Event} {messages : List Message}
    {closings : List Closing} {losses : List Deed}
    → Turns of_files first past messages closings losses world → world.side.sure ≡ first.side.sure
turns_sure run_of.none = refl
turns_sure {of_files = of_files} (run_of.more past messages closings losses world done outs failed left sent closed' lost next turns turn d) =
    ap (λ (s : Side). s.sure) (same_side d) ∙ turn_sure of_files world outs failed left done turn ∙ turns_sure turns

-- what an arrival brings leaves the side
pub heard_side : (arrival : ArrivalWithBytes) (world : World) → (after_hearing arrival world).side ≡ world.side
heard_side (opened p) world = refl
heard_side (brought p bytes) world = by (p == 0)
  where
    by : (b : Bool) → (if b then record world { heard = world.heard ++ bytes }
        else record world { sessions = map (hearing p bytes) world.sessions }).side ≡ world.side
    by true = refl
    by false = refl
heard_side (closed p) world = refl
heard_side quiet world = refl
heard_side ended world = refl

pub run_sure : {A : Type 0} {of_files : block_files.Ghosts A} {first world : World} {arrivals : List ArrivalWithBytes}
    {messages : List Message} {closings : List Closing} {losses : List Deed}
    → Run of_files first arrivals messages closings losses world → world.side.sure ≡ first.side.sure
run_sure run_of.none = refl
run_sure (run_of.more arrivals messages closings losses world arrival more_messages more_closings more_losses next run turns still everyone) =
    turns_sure turns ∙ ap (λ (s : Side). s.sure) (heard_side arrival world) ∙ run_sure run
