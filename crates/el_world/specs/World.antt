-- What the server stands for, and what each event does to it. Peer 0 is the node, and the others are clients.
use Rattle.std.specs.Prelude.{◌≡◌, ℕ, ◌==◌, nat_lt, Bool, true, false, not, if◌then◌else◌, List, [], ◌∷◌, ◌++◌, length, map, filter, find, MatchBool, Option, Some, None, Result, Ok, Err}
use Rattle.std.specs.List.{AllByRecursion, list_any, flat_map}
use Rattle.std.specs.Map.{keys_of}
use Rattle.std.specs.Option.{option_to_list}
use Rattle.el_side.specs.Deeds as deed
use Rattle.el_side.specs.Deeds.{Deed, disk}
use Rattle.el_outside.specs.Trace.{ArrivalWithBytes, opened, brought, closed, quiet, ended, Message, Closing}
use Rattle.el_outside.specs.declared.archive.Archive as block_files
use Rattle.el_outside.specs.declared.link.Why.TheVariants as why
use Rattle.el_base.specs.declared.hash.Hash32.{Hash32}
use Rattle.el_base.specs.declared.memory.OutOfMemory.{OutOfMemory}
use Rattle.el_chain.specs.declared.node.Node.{Node}
use Rattle.el_chain.specs.Chains.{Chain}
use Rattle.el_mempool.specs.declared.entry.PoolLimits.{PoolLimits}
use Rattle.el_model.specs.Queries.{tip_of}
use Rattle.el_lines.specs.declared.limits.TheConstants.{LINE_LIMIT}
use Rattle.el_outside.specs.declared.link.TheConstants.{CLIENT_LIMIT}
use Rattle.el_lines.specs.Lines.{LineEvent, line, too_long, added_lines}
use Rattle.el_lines.specs.NodeAnswers.{node_limit, text_of}
use Rattle.el_lines.specs.declared.node_answer.NodeAnswer.{NodeAnswer}
use Rattle.el_side.specs.Plans.{IsMoving}
use Rattle.el_sessions.specs.declared.session.Session as client
use Rattle.el_relay.specs.Desk.{DeskState, empty_desk}
use Rattle.el_replies.specs.Losses.{AnswersOf}
use Rattle.el_replies.specs.Spending.{spent}
use Rattle.el_replies.specs.LineReplies.{IsLineReply}
use Rattle.el_replies.specs.declared.line.LineReply.{LineReply}
use Rattle.el_subs.specs.Told.{status}
use Rattle.el_subs.specs.Notices.{notices, notified, IsNotice}
use Rattle.el_side.specs.Side.{Side, quiet_side, Moving, OrdersLine}

-- how many bytes a client's line may have, without its byte 10
abbrev pub line_limit : ℕ
line_limit = LINE_LIMIT

-- how many clients may be connected at once
abbrev pub client_limit : ℕ
client_limit = CLIENT_LIMIT

-- A client: its number, all bytes that it has sent, what is kept of it for its requests, and whether it is
-- still to be told of the node's last line.
pub record Session : Type 0 where
  pub peer : ℕ
  pub heard : List ℕ
  pub client : client.Session
  pub waits : Bool

-- what is kept of one that has asked for nothing
abbrev pub new_client : client.Session
new_client = record { version = None; headers = false; subs = [] }

-- one that has just come
abbrev pub new_session : ℕ → Session
new_session p = record { peer = p; heard = []; client = new_client; waits = false }

-- What the server knows: the side that the node leads; its clients in the order in which they came; all
-- bytes that the node has sent; the tip before the node's last line; and what the desk of broadcasts keeps.
pub record World : Type 0 where
  pub side : Side
  pub sessions : List Session
  pub heard : List ℕ
  pub before : Option Hash32
  pub desk : DeskState

-- the world of a chain before any client came and the node said anything; the desk of broadcasts may be on
abbrev pub initial_world : Bool → Chain → List ℕ → PoolLimits → List Node → (ℕ → List ℕ) → Bool → World
initial_world sure chain magic limits found files relays = record {
  side = quiet_side sure chain magic limits found files;
  sessions = [];
  heard = [];
  before = None;
  desk = empty_desk relays;
}

-- the session is that of this client
abbrev pub is_peer : ℕ → Session → Bool
is_peer p session = session.peer == p

-- this client is connected
abbrev pub is_client : ℕ → World → Bool
is_client p world = list_any (is_peer p) world.sessions

-- one client more, which has sent nothing
abbrev pub with_client : ℕ → World → World
with_client p world = record world { sessions = world.sessions ++ new_session p ∷ [] }

-- the world without this client
abbrev pub without_client : ℕ → World → World
without_client p world =
    record world { sessions = filter (λ (session : Session). not (is_peer p session)) world.sessions }

-- this client has that session now
abbrev pub with_session : ℕ → Session → World → World
with_session p now world =
    record world {
      sessions = map (λ (session : Session). if is_peer p session then now else session) world.sessions;
    }

-- a session after bytes of this client: it has them too if it is this client's, and is unchanged otherwise
abbrev pub hearing : ℕ → List ℕ → Session → Session
hearing p bytes session =
    if is_peer p session then record session { heard = session.heard ++ bytes } else session

-- the world after bytes of a peer, before what they ask for
abbrev pub heard_from : ℕ → List ℕ → World → World
heard_from p bytes world =
    if p == 0 then record world { heard = world.heard ++ bytes }
    else record world { sessions = map (hearing p bytes) world.sessions }

-- the world after the bytes of an arrival, before what they ask for
abbrev pub after_hearing : ArrivalWithBytes → World → World
after_hearing (opened p) world = world
after_hearing (brought p bytes) world = heard_from p bytes world
after_hearing (closed p) world = world
after_hearing quiet world = world
after_hearing ended world = world

-- a client comes, leaves, or a line of its bytes is met; or a line of the node's bytes is met
pub data Event : Type 0 where
  joins : ℕ → Event
  leaves : ℕ → Event
  says : ℕ → LineEvent → Event
  orders : LineEvent → Event

-- the lines that a client says by bytes, where the session is its own; before the bytes are heard
abbrev pub lines_said : ℕ → List ℕ → Session → List Event
lines_said p bytes session =
    if is_peer p session then map (says p) (added_lines line_limit session.heard bytes) else []

-- the lines that bytes of a peer add; of a peer that is no connected client they are none
abbrev pub lines_from : ℕ → List ℕ → World → List Event
lines_from p bytes world =
    if p == 0 then map orders (added_lines node_limit world.heard bytes)
    else flat_map (lines_said p bytes) world.sessions

-- the events of an arrival; peer 0 is no client, which comes or leaves
abbrev pub events : World → ArrivalWithBytes → List Event
events world (opened p) = if p == 0 then [] else joins p ∷ []
events world (brought p bytes) = lines_from p bytes world
events world (closed p) = leaves p ∷ []
events world quiet = []
events world ended = []

-- an arrival as a command without a node takes it: bytes of peer 0 are ignored, as if nothing had come
abbrev pub without_node : ArrivalWithBytes → ArrivalWithBytes
without_node (opened p) = opened p
without_node (brought p bytes) = if p == 0 then quiet else brought p bytes
without_node (closed p) = closed p
without_node quiet = quiet
without_node ended = ended

-- what an event sends, in order, and whom it then closes
pub record Outs : Type 0 where
  pub messages : List Message
  pub closing : Option Closing

-- nothing is sent or closed
abbrev pub nothing : Outs
nothing = record { messages = []; closing = None }

-- this peer gets this text
abbrev pub reply_to : ℕ → List ℕ → Outs
reply_to p text = record { messages = record { peer = p; text = text } ∷ []; closing = None }

-- this peer gets these texts, in order
abbrev pub texts_to : ℕ → List (List ℕ) → Outs
texts_to p texts = record {
  messages = map (λ (t : List ℕ). record { peer = p; text = t }) texts;
  closing = None;
}

-- the node gets this text
abbrev pub to_node : List ℕ → Outs
to_node text = reply_to 0 text

-- this client is closed for a line that is too long
abbrev pub closes_long : ℕ → Outs
closes_long p = record { messages = []; closing = Some (record { peer = p; why = why.Long }) }

-- this client is closed, since there are enough
abbrev pub closes_surplus : ℕ → Outs
closes_surplus p = record { messages = []; closing = Some (record { peer = p; why = why.Clients }) }

-- what is sent and closed where this comes of a line of the client
abbrev pub outs_of_reply : ℕ → LineReply → Outs
outs_of_reply p reply = record {
  messages = map (λ (t : List ℕ). record { peer = p; text = t }) (option_to_list reply.text);
  closing = if reply.closes then Some (record { peer = p; why = why.Version }) else None;
}

-- this client is closed as out of memory
abbrev pub closes_memory : ℕ → Outs
closes_memory p = record { messages = []; closing = Some (record { peer = p; why = why.Memory }) }

-- this client is closed, since the index's device failed while it was told
abbrev pub closes_disk : ℕ → Outs
closes_disk p = record { messages = []; closing = Some (record { peer = p; why = why.Disk }) }

-- the world after it, where that is then kept of the client for its requests
abbrev pub after_reply : ℕ → LineReply → Session → client.Session → World → World
after_reply p reply session kept world =
    if reply.closes then without_client p world
    else with_session p (record session { client = kept }) world

-- what is kept for a client's requests: of the client, and of the desk of broadcasts
pub record Standing : Type 0 where
  pub client : client.Session
  pub desk : DeskState

-- these two as one
abbrev pub standing_of : client.Session → DeskState → Standing
standing_of session desk = record { client = session; desk = desk }

-- What comes of a client's line over the side: each of its requests is answered as it is defined, or that a
-- device failed, which is lost. A broadcast goes to the desk. A request that reads the block files is
-- answered as it is defined where these have the transaction that it asks for at its place; whatever they
-- have, never with another one's bytes, nor as if the chain had none. Of a side that is unsure no more is
-- said of what the chain and the unconfirmed set give than that it is an answer. `was` is what the line
-- finds, `now` what it leaves, and `losses` are the deeds meanwhile.
abbrev pub Comes : Type 0 → Side → List ℕ → Standing → List Deed → Standing → Result LineReply OutOfMemory
    → Type 0
Comes tells side bytes was losses now result =
    IsLineReply (AnswersOf tells side) bytes (spent [] was.desk) was.client (spent losses now.desk) now.client
    result

-- A line of a client with this session gets its reply; or no memory was found for it, and the client is
-- closed.
pub data IsAnswered (tells : Type 0) (world : World) (p : ℕ) (bytes : List ℕ) (session : Session)
    (outs : Outs) (losses : List Deed) (next : World) : Type 0 where
  replied : (reply : LineReply) (kept : client.Session) (desk : DeskState)
      → Comes tells world.side bytes (standing_of session.client world.desk) losses (standing_of kept desk)
      (Ok reply)
      → outs ≡ outs_of_reply p reply → next ≡ after_reply p reply session kept (record world { desk = desk })
      → IsAnswered tells world p bytes session outs losses next
  starved : (e : OutOfMemory) (kept : client.Session) (desk : DeskState)
      → Comes tells world.side bytes (standing_of session.client world.desk) losses (standing_of kept desk)
      (Err e)
      → outs ≡ closes_memory p → next ≡ without_client p (record world { desk = desk })
      → IsAnswered tells world p bytes session outs losses next

-- The event sends and closes this, loses nothing, and leaves that world.
abbrev pub OnlyDoes : Outs → World → Outs → List Deed → World → Type 0
OnlyDoes does after outs losses next = (outs ≡ does) × (next ≡ after) × (losses ≡ [])

-- A line of a client with one of these sessions, the first of which counts, is answered; one of a client that
-- is closed has no effect.
abbrev pub Replied : Type 0 → World → ℕ → List ℕ → Option Session → Outs → List Deed → World → Type 0
Replied tells world p bytes (Some session) outs losses next =
    IsAnswered tells world p bytes session outs losses next
Replied tells world p bytes None outs losses next = OnlyDoes nothing world outs losses next

-- The node gets an answer, and its side of the world becomes another one: `leads` says which may be.
pub record IsLed (leads : NodeAnswer → List Deed → Side → Type 0) (world : World) (outs : Outs)
    (losses : List Deed) (next : World) : Type 0 where
  pub answer : NodeAnswer
  pub side : Side
  pub led : leads answer losses side
  pub outs_is : outs ≡ to_node (text_of answer)
  pub next_is : next ≡ record world { side = side }

-- The world as a line of the node begins: its tip is kept, and each client is to be told of the line.
abbrev pub begun : World → World
begun world = record world {
  before = tip_of world.side.chain;
  sessions = map (λ (session : Session). record session { waits = true }) world.sessions;
}

-- One event: what it sends and closes, the device of each call that failed and was answered so, and the world
-- after it. Of a tip line it is the first move; what the line leaves to do stands in the world, and is worked
-- off before the next event. `of_files` is what the type of the block files says of them.
abbrev pub Takes : {A : Type 0} → block_files.Ghosts A → World → Event → Outs → List Deed → World
    → Type 0
-- a client joins, unless there would be too many
Takes of_files world (joins p) outs losses next =
    MatchBool (nat_lt (length world.sessions) client_limit)
    (OnlyDoes nothing (with_client p world) outs losses next)
    (OnlyDoes (closes_surplus p) world outs losses next)
-- a client leaves
Takes of_files world (leaves p) outs losses next = OnlyDoes nothing (without_client p world) outs losses next
-- a line of a client
Takes of_files world (says p (line bytes)) outs losses next =
    Replied of_files.tells world p bytes (find (is_peer p) world.sessions) outs losses next
-- a line that is too long closes its client
Takes of_files world (says p too_long) outs losses next =
    MatchBool (is_client p world)
    (OnlyDoes (closes_long p) (without_client p world) outs losses next)
    (OnlyDoes nothing world outs losses next)
-- a line of the node
Takes of_files world (orders met) outs losses next =
    IsLed (OrdersLine of_files world.side met) (begun world) outs losses next

-- nothing is left to do before the next event
abbrev pub IsStill : World → Type 0
IsStill world = world.side.ahead ≡ []

-- the node's last tip line leaves something to do
abbrev pub IsBusy : World → Type 0
IsBusy world = IsMoving 0 world.side.ahead

-- The next move of that line.
abbrev pub Works : {A : Type 0} → block_files.Ghosts A → World → Outs → List Deed → World → Type 0
Works of_files world outs losses next =
    IsLed (Moving of_files world.side 0 world.side.ahead) world outs losses next

-- the first client that is still to be told of the node's last line; clients stand by rising number
abbrev pub next_told : World → Option Session
next_told world = find (λ (session : Session). session.waits) world.sessions

-- nobody is still to be told of it
abbrev pub AllTold : World → Type 0
AllTold world = next_told world ≡ None

-- the client was told: what it was told last of each script hash is its status
abbrev pub told : World → Session → Session
told world session = record session {
  client = notified (status world.side.chain world.side.kept) session.client;
  waits = false;
}

-- all that it is told, in order
abbrev pub outs_of_telling : World → Session → Outs
outs_of_telling world session =
    texts_to session.peer
    (notices (status world.side.chain world.side.kept) world.before world.side.chain session.client)

-- what is kept of a client that was told something, whatever that was: it subscribes to the same
pub record StaysSubscribed (was now : client.Session) : Type 0 where
  pub only_subs : now ≡ record was { subs = now.subs }
  pub keys : keys_of now.subs ≡ keys_of was.subs

-- The next client is told of the node's last line, once all of its moves are done; or the index's device
-- failed while it was told, for which it is closed, and is told nothing.
pub data Notifies (world : World) (outs : Outs) (losses : List Deed) (next : World) : Type 0 where
  tells : (session : Session) → next_told world ≡ Some session → outs ≡ outs_of_telling world session
      → next ≡ with_session session.peer (told world session) world → losses ≡ []
      → Notifies world outs losses next
  fails : (session : Session) → next_told world ≡ Some session → outs ≡ closes_disk session.peer
      → next ≡ without_client session.peer world → losses ≡ deed.lost disk ∷ []
      → Notifies world outs losses next
  -- the side is unsure: it is told some tip and some statuses
  unsure : world.side.sure ≡ false → (session : Session) (texts : List (List ℕ)) (now : client.Session)
      → next_told world ≡ Some session → AllByRecursion IsNotice texts → StaysSubscribed session.client now
      → outs ≡ texts_to session.peer texts
      → next ≡ with_session session.peer (record session { client = now; waits = false }) world → losses ≡ []
      → Notifies world outs losses next
