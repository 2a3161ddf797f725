-- Through lines of the node, turns and runs a side keeps its magic, and the node's files only grow.
use Rattle.std.proofs.Common.{◌≡◌, ℕ, Bool, true, false, if◌then◌else◌, List, [], length, nat_lt, Option, None, Some, refl, sym, ap, ◌∙◌, subst}
use Rattle.std.specs.Prelude.{find, MatchBool}
use Rattle.el_base.specs.declared.hash.Hash32.{Hash32}
use Rattle.el_side.specs.Deeds.{Deed}
use Rattle.el_outside.specs.Files.{AllGrow}
use Rattle.el_outside.specs.Trace.{ArrivalWithBytes, Message, Closing}
use Rattle.el_outside.specs.declared.archive.Archive as block_files
use Rattle.el_outside.proofs.Traces.{all_grow_none, all_grow_more}
use Rattle.el_chain.specs.declared.node.Node.{Node}
use Rattle.el_lines.specs.Lines.{LineEvent, line, too_long}
use Rattle.el_lines.specs.NodeLines as says
use Rattle.el_lines.specs.NodeLines.{NodeLine}
use Rattle.el_lines.specs.declared.node_answer.NodeAnswer.{NodeAnswer}
use Rattle.el_side.specs.Side as side_of
use Rattle.el_side.specs.Side.{Side, Looks, Moving, GoesUnsure, GoesAlong, Tips, Adds, Drops, Orders, OrdersLine}
use Rattle.el_world.specs.World as world_of
use Rattle.el_world.specs.World.{World, Session, Outs, Event, Takes, IsLed, IsAnswered, Replied, Notifies, is_peer, is_client, without_client, after_hearing, client_limit}
use Rattle.el_world.specs.Run as run_of
use Rattle.el_world.specs.Run.{OneTurn, Turns, Run, Stops, StopsIn, files_at, files_left}
use Rattle.el_world.proofs.Sureness.{replied_side, same_side, heard_side}

-- the next side is one that the side may become
pub record Forward (side next : Side) : Type 0 where
  pub magic : next.magic ≡ side.magic
  pub grows : AllGrow side.files next.files

pub stays : (side : Side) → Forward side side
stays side = record { magic = refl; grows = all_grow_none side.files }

pub further : {a b c : Side} → Forward a b → Forward b c → Forward a c
further {a} {b} {c} f g = record { magic = g.magic ∙ f.magic; grows = all_grow_more a.files b.files c.files f.grows g.grows }

becomes : (side : Side) {next wanted : Side} → next ≡ wanted → wanted.magic ≡ side.magic → AllGrow side.files wanted.files → Forward side next
becomes side e m g = rw e (record { magic = m; grows = g })

-- ---- lines of the node

module _ {A : Type 0} (of_files : block_files.Ghosts A) (told : of_files.tells) (side : Side) (answer : NodeAnswer) (losses : List Deed) (next : Side) where
  same : next ≡ side → Forward side next
  same e = becomes side e refl (all_grow_none side.files)

  of_looks : (file at : ℕ) → Looks of_files side file at answer losses next → Forward side next
  of_looks file at (side_of.looks found files looked e n z) = becomes side n refl (looked.grows told)
  of_looks file at (side_of.fails files grows e n z) = becomes side n refl (grows told)

  pub moving_forward : (back : ℕ) (rest : List Node) → Moving of_files side back rest answer losses next → Forward side next
  moving_forward back rest (side_of.commits files blocks grows moved n e z) = becomes side n refl (grows told)
  moving_forward back rest (side_of.refuses files e grows word refused n z) = becomes side n refl (grows told)
  moving_forward back rest (side_of.fails files grows e n z) = becomes side n refl (grows told)
  moving_forward back rest (side_of.unsure un left files grows may n z) = becomes side n refl (grows told)

  of_unsure : (back : ℕ) (rest : List Node) → GoesUnsure of_files side back rest answer losses next → Forward side next
  of_unsure back rest (side_of.deep many e n z) = same n
  of_unsure back rest (side_of.there hash height none nothing e n z) = same n
  of_unsure back rest (side_of.moves few moving made) = moving_forward back rest made

  of_path : (path : List Node) → GoesAlong of_files side path answer losses next → Forward side next
  of_path path (side_of.deep many e n z) = same n
  of_path path (side_of.there back rest e n z) = same n
  of_path path (side_of.moves few moving made) = moving_forward _ _ made
  of_path path (side_of.unsure un back back_same goes) = of_unsure _ _ goes

  of_tip : (h : Hash32) → Tips of_files side h answer losses next → Forward side next
  of_tip h (side_of.unknown known e n z) = same n
  of_tip h (side_of.unconnected known none e n z) = same n
  of_tip h (side_of.along path is goes) = of_path path goes

  of_added : (bytes : List ℕ) → Adds side bytes answer losses next → Forward side next
  of_added bytes (side_of.joins t is none e n z) = becomes side n refl (all_grow_none side.files)
  of_added bytes (side_of.refuses t e is why word n z) = same n
  of_added bytes (side_of.misread none e n z) = same n
  of_added bytes (side_of.unsure un may n z) = same n

  of_dropped : (id : Hash32) → Drops side id answer losses next → Forward side next
  of_dropped id (side_of.goes is e n z) = becomes side n refl (all_grow_none side.files)
  of_dropped id (side_of.absent is e n z) = same n
  of_dropped id (side_of.unsure un may n z) = same n

  of_orders : (said : Option NodeLine) → Orders of_files side said answer losses next → Forward side next
  of_orders (Some (says.block file at)) o = of_looks file at o
  of_orders (Some (says.tip hash)) o = of_tip _ o
  of_orders (Some (says.tx bytes)) o = of_added bytes o
  of_orders (Some (says.dropped id)) o = of_dropped _ o
  of_orders None o = same o.1

  pub line_forward : (met : LineEvent) → OrdersLine of_files side met answer losses next → Forward side next
  line_forward (line bytes) o = of_orders o.0 o.2
  line_forward too_long o = same o.1

-- ---- turns

module _ {A : Type 0} (of_files : block_files.Ghosts A) (told : of_files.tells) (world : World) (outs : Outs) (losses : List Deed) (next : World) where
  -- one that leaves the side
  left : {wanted : World} → next ≡ wanted → wanted.side ≡ world.side → Forward world.side next.side
  left e f = rw (ap (λ (w : World). w.side) e ∙ f) (stays world.side)

  led : (leads : NodeAnswer → List Deed → Side → Type 0) (first : World)
      → ((answer : NodeAnswer) (side : Side) → leads answer losses side → Forward world.side side) → IsLed leads first outs losses next
      → Forward world.side next.side
  led leads first goes l = rw (ap (λ (w : World). w.side) l.next_is) (goes l.answer l.side l.led)

  answered : (p : ℕ) (bytes : List ℕ) (session : Session) → IsAnswered of_files.tells world p bytes session outs losses next → Forward world.side next.side
  answered p bytes session (world_of.replied reply kept desk comes o n) = left n (replied_side p reply session kept (record world { desk = desk }))
  answered p bytes session (world_of.starved e kept desk comes o n) = left n refl

  replied : (p : ℕ) (bytes : List ℕ) (found : Option Session) → Replied of_files.tells world p bytes found outs losses next → Forward world.side next.side
  replied p bytes None r = left r.1 refl
  replied p bytes (Some session) r = answered p bytes session r

  taken : (event : Event) → Takes of_files world event outs losses next → Forward world.side next.side
  taken (world_of.joins p) t = by (nat_lt (length world.sessions) client_limit) t
    where
      by : (b : Bool) → MatchBool b (world_of.OnlyDoes world_of.nothing (world_of.with_client p world) outs losses next)
          (world_of.OnlyDoes (world_of.closes_surplus p) world outs losses next) → Forward world.side next.side
      by true d = left d.1 refl
      by false d = left d.1 refl
  taken (world_of.leaves p) t = left t.1 refl
  taken (world_of.says p (line bytes)) t = replied p bytes (find (is_peer p) world.sessions) t
  taken (world_of.says p too_long) t = by (is_client p world) t
    where
      by : (b : Bool) → MatchBool b (world_of.OnlyDoes (world_of.closes_long p) (without_client p world) outs losses next)
          (world_of.OnlyDoes world_of.nothing world outs losses next) → Forward world.side next.side
      by true d = left d.1 refl
      by false d = left d.1 refl
  taken (world_of.orders met) t =
      led (OrdersLine of_files world.side met) (world_of.begun world) (λ answer side o. line_forward of_files told world.side answer losses side met o) t

  notified : Notifies world outs losses next → Forward world.side next.side
  notified (world_of.tells session is o n z) = left n refl
  notified (world_of.fails session is o n z) = left n refl
  notified (world_of.unsure un session texts now is all still o n z) = left n refl

  pub turn_forward : (done : List Event) → OneTurn of_files world done outs losses next → Forward world.side next.side
  turn_forward done (run_of.takes event still everyone d t) = taken event t
  turn_forward done (run_of.works busy d w) =
      led (Moving of_files world.side 0 world.side.ahead) world
      (λ answer side m. moving_forward of_files told world.side answer losses side 0 world.side.ahead m) w
  turn_forward done (run_of.notifies still d n) = notified n
  turn_forward done (run_of.departs p is d o n z) = left n refl

-- ---- runs

module _ {A : Type 0} (of_files : block_files.Ghosts A) (told : of_files.tells) where
  pub turns_forward : {first world : World} {past : List Event} {messages : List Message} {closings : List Closing} {losses : List Deed}
      → Turns of_files first past messages closings losses world → Forward first.side world.side
  turns_forward {first} run_of.none = stays first.side
  turns_forward (run_of.more past messages closings losses world done outs failed after sent closed lost next turns turn d) =
      rw (same_side d) (further (turns_forward turns) (turn_forward of_files told world outs failed after done turn))

  pub arrival_forward : (arrival : ArrivalWithBytes) (world : World) {next : World} {past : List Event} {messages : List Message} {closings : List Closing} {losses : List Deed}
      → Turns of_files (after_hearing arrival world) past messages closings losses next → Forward world.side next.side
  arrival_forward arrival world turns = rw (heard_side arrival world) at (turns_forward turns)

  pub run_forward : {first world : World} {arrivals : List ArrivalWithBytes} {messages : List Message} {closings : List Closing} {losses : List Deed}
      → Run of_files first arrivals messages closings losses world → Forward first.side world.side
  run_forward {first} run_of.none = stays first.side
  run_forward (run_of.more arrivals messages closings losses world arrival more_messages more_closings more_losses next run turns still everyone) =
      further (run_forward run) (arrival_forward arrival world turns)

  -- up to where a run stops
  pub stop_forward : {world : World} {events : List Event} {stop : run_of.Stop} {sent : List Message} {closings : List Closing} {losses : List Deed}
      → (s : Stops of_files world events stop sent closings losses) → AllGrow world.side.files (files_at s)
  stop_forward {world} (run_of.disk_failed by_ nodes silent closed lost) = all_grow_none world.side.files
  stop_forward {world} (run_of.sift_failed by_ busy silent closed lost) = all_grow_none world.side.files
  stop_forward {world} (run_of.no_memory by_ nodes silent closed lost) = all_grow_none world.side.files
  stop_forward {world} (run_of.untold by_ busy silent closed lost) = all_grow_none world.side.files
  stop_forward {world} (run_of.unsent done rest outs failed after front back m lost last next whole turn cut node delivers by_ z) =
      (turn_forward of_files told world outs failed after done turn).grows

  pub stops_in_forward : {world : World} {arrival : ArrivalWithBytes} {stop : run_of.Stop} {messages : List Message} {closings : List Closing} {losses : List Deed}
      → (s : StopsIn of_files world arrival stop messages closings losses) → AllGrow world.side.files (files_left s)
  stops_in_forward {world} (run_of.unheard starves by_ silent closed lost) = all_grow_none world.side.files
  stops_in_forward {world} {arrival} (run_of.in_turn done rest past sent past_closings closed past_losses lost mid whole turns stops a b c) =
      all_grow_more world.side.files mid.side.files (files_at stops) (arrival_forward arrival world turns).grows (stop_forward stops)
