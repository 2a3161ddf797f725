-- What the server keeps, and which world it stands for.
use Rattle.std.specs.Prelude.{◌≡◌, ℕ, ◌+◌, ◌*◌, ◌≤◌, ◌<◌, ◌==◌, nat_lt, ⊤, Bool, true, false, List, [], ◌∷◌, ◌++◌, length, map, filter, find, drop, Option, Some, None}
use Rattle.std.specs.List.{AllByRecursion, AllZip, list_any}
use Rattle.el_base.specs.declared.hash.Hash32.{Hash32}
use Rattle.el_chain.specs.declared.node.Node.{Node}
use Rattle.el_chain.specs.Chains.{Chain}
use Rattle.el_lines.specs.Lines.{lines}
use Rattle.el_lines.specs.NodeAnswers.{node_limit}
use Rattle.el_sessions.specs.declared.session.Session as client
use Rattle.el_sessions.specs.Sessions.{Subscription}
use Rattle.el_subs.specs.Told as status_told
use Rattle.el_subs.specs.Told.{status, is_touched, IsTold}
use Rattle.el_status.specs.Untouched.{LooksSame}
use Rattle.el_side.specs.declared.caches.Caches.{Caches}
use Rattle.el_relay.specs.Desk.{DeskState}
use Rattle.el_replies.specs.Spending.{Asking, asking}
use Rattle.el_side.specs.declared.holdings.Holdings.{Holdings}
use Rattle.el_side.specs.Beneath.{Beneath, beneath}
use Rattle.el_side.specs.NodeSteps.{SetStands}
use Rattle.el_side.specs.Side.{Side, IsSure}
use Rattle.el_world.specs.World.{World, Session, Event, says, orders, joins, leaves, is_peer, line_limit, client_limit}
use Rattle.el_lines.specs.LineStates.{LineState, WasFed, held_bytes}

-- What is kept of a client: its bytes, as a line buffer keeps them that was fed all of them; whether bytes of
-- it were lost where memory ran out; what is kept of it for its requests; and whether it is still to be told
-- of the node's last line.
pub record ClientState : Type 0 where
  pub peer : ℕ
  pub buffer : LineState
  pub lost : Bool
  pub session : client.Session
  pub waits : Bool

-- the ledger, of some type; what is held beside it; what was computed once; what the desk of broadcasts
-- keeps; the node's bytes, as a line buffer keeps them; the blocks that its last tip line is still to put in;
-- the clients, in the order in which they came; the one whose bytes came last, until all of its lines are
-- met; a client too many that isn't closed yet; the tip before the node's last line; and the script hashes
-- that this line touched so far, of those to which clients subscribe
pub record State (G : Type 0) : Type 0 where
  pub ledger : G
  pub holdings : Holdings
  pub caches : Caches
  pub desk : DeskState
  pub node : LineState
  pub ahead : List Node
  pub clients : List ClientState
  pub speaker : Option ℕ
  pub surplus : Option ℕ
  pub before : Option Hash32
  pub touched : List Hash32

-- the server, and the block files that it reads, at some moment
pub record Serving (G A : Type 0) : Type 0 where
  pub server : State G
  pub files : A

-- these two, as they are at some moment
abbrev pub serving : {G A : Type 0} → State G → A → Serving G A
serving server files = record { server = server; files = files }

-- the server, and the block files and the relay that it is lent, at some moment
pub record Lent (G A Y : Type 0) : Type 0 where
  pub server : State G
  pub files : A
  pub relay : Y

-- these three, as they are at some moment
abbrev pub lent : {G A Y : Type 0} → State G → A → Y → Lent G A Y
lent server files relay = record { server = server; files = files; relay = relay }

-- what is asked for clients' lines
abbrev pub asking_of : {G A Y : Type 0} → Lent G A Y → Asking G A Y
asking_of now = asking now.server.ledger now.files now.relay now.server.desk

-- what the server asks below it
abbrev pub beneath_of : {G A : Type 0} → Serving G A → Beneath G A
beneath_of now = beneath now.server.ledger now.files

-- all lines of the bytes that were fed, which are cut at each byte 10, were given
abbrev pub HasGivenAll : LineState → Type 0
HasGivenAll b = (fed : List ℕ) (given : ℕ) → WasFed b fed given → given ≡ length (lines b.limit fed)

-- nothing of the client is left to do
pub record IsHeardOut (c : ClientState) : Type 0 where
  pub given_all : HasGivenAll c.buffer
  pub kept : c.lost ≡ false

-- nothing is left to do of the client, if there is one
abbrev pub HasNoWork : Option ClientState → Type 0
HasNoWork None = Unit {0}
HasNoWork (Some c) = IsHeardOut c

-- the client has this number
abbrev pub is_numbered : ℕ → ClientState → Bool
is_numbered p c = c.peer == p

-- clients that are still to be told of the node's last line
abbrev pub waiting : List ClientState → List ClientState
waiting clients = filter (λ (c : ClientState). c.waits) clients

-- no client has a greater number
abbrev pub AreUpTo : ℕ → List ClientState → Type 0
AreUpTo last clients = AllByRecursion (λ (c : ClientState). c.peer ≤ last) clients

-- the work of the last arrival is done
pub record IsIdle {G : Type 0} (s : State G) : Type 0 where
  pub ahead : s.ahead ≡ []
  pub told : waiting s.clients ≡ []
  pub speaker : s.speaker ≡ None
  pub surplus : s.surplus ≡ None

-- How many turns a client may still take at most: a line takes at least one byte, and the closing comes last.
abbrev pub work_of_client : Option ClientState → ℕ
work_of_client None = 0
work_of_client (Some c) = held_bytes c.buffer + 1

-- how many turns all of these may still take at most
abbrev pub work_of_clients : List ClientState → ℕ
work_of_clients [] = 0
work_of_clients (c ∷ cs) = work_of_client (Some c) + work_of_clients cs

-- where a client speaks, of all of them, so that it needn't be known which
abbrev pub work_of_speaker : Option ℕ → List ClientState → ℕ
work_of_speaker None clients = 0
work_of_speaker (Some p) clients = work_of_clients clients

-- one too many has its closing
abbrev pub work_of_surplus : Option ℕ → ℕ
work_of_surplus None = 0
work_of_surplus (Some p) = 1

-- where a client speaks, and of one too many
abbrev pub work_of_peers : {G : Type 0} → State G → ℕ
work_of_peers s = work_of_speaker s.speaker s.clients + work_of_surplus s.surplus

-- a line of the node takes at least one byte, finds one more node at most, and leaves no more blocks to put
-- in than there are found nodes
unfoldable pub work_of_node : ℕ → ℕ → ℕ → ℕ
work_of_node bytes found ahead = bytes * (found + bytes + 1) + ahead

-- at most how many turns are left: after each turn of the node each client is told once
abbrev pub work : {G : Type 0} → State G → ℕ
work s =
    work_of_node (held_bytes s.node) (length s.holdings.tree) (length s.ahead) * (length s.clients + 1)
    + length (waiting s.clients)
    + work_of_peers s

-- the event is a line of the client
abbrev pub IsSaidBy : ℕ → Event → Type 0
IsSaidBy p (says q met) = q ≡ p
IsSaidBy p (joins q) = ⊥
IsSaidBy p (leaves q) = ⊥
IsSaidBy p (orders met) = ⊥

-- lines of clients that are none of these, which have no effect
abbrev pub AllVoid : List Session → List Event → Type 0
AllVoid sessions left =
    AllByRecursion (λ e. (p : ℕ) × IsSaidBy p e × (find (is_peer p) sessions ≡ None)) left

-- The client's bytes, all of which it sent since it came, leave these events.
pub data HearsLeft (c : ClientState) (heard : List ℕ) (left : List Event) : Type 0 where
  -- the lines that weren't met yet
  in_order : (given : ℕ) → c.lost ≡ false → WasFed c.buffer heard given
      → given ≤ length (lines line_limit heard)
      → left ≡ map (says c.peer) (drop given (lines line_limit heard))
      → HearsLeft c heard left
  -- some lines of the client, whose bytes were lost where memory ran out
  losing : c.lost ≡ true → AllByRecursion (IsSaidBy c.peer) left → HearsLeft c heard left

-- All lines of the client were met.
pub record IsMet (c : ClientState) (heard : List ℕ) : Type 0 where
  pub kept : c.lost ≡ false
  pub at : WasFed c.buffer heard (length (lines line_limit heard))

-- The session is the client's. Of the client that speaks these events are left, and of each other one all
-- lines were met.
pub record IsSession (speaker : Option ℕ) (left : List Event) (c : ClientState) (x : Session) : Type 0 where
  pub peer : c.peer ≡ x.peer
  pub limit : c.buffer.limit ≡ line_limit
  pub kept : c.session ≡ x.client
  pub waits : c.waits ≡ x.waits
  pub met : (speaker ≡ Some c.peer → ⊥) → IsMet c x.heard
  pub speaks : speaker ≡ Some c.peer → HearsLeft c x.heard left

-- the numbers of the sessions' peers rise
abbrev pub Rising : List Session → Type 0
Rising [] = ⊤
Rising (x ∷ xs) = AllByRecursion (λ (y : Session). x.peer < y.peer) xs × Rising xs

-- Which events are left: those of the client that speaks, or that a client too many joins.
abbrev pub AreEventsLeft : Option ℕ → Option ℕ → List Session → List Event → Type 0
AreEventsLeft None None sessions left = AllVoid sessions left
AreEventsLeft None (Some p) sessions left =
    (left ≡ joins p ∷ []) × (nat_lt (length sessions) client_limit ≡ false)
AreEventsLeft (Some p) None sessions left = list_any (is_peer p) sessions ≡ true
AreEventsLeft (Some p) (Some q) sessions left = ⊥

-- The sessions are the clients', place by place, and these events are left.
pub record SessionsAre (clients : List ClientState) (speaker surplus : Option ℕ) (sessions : List Session)
    (left : List Event) : Type 0 where
  pub each : AllZip (IsSession speaker left) clients sessions
  pub rising : Rising sessions
  pub leaves_left : AreEventsLeft speaker surplus sessions left

-- nobody is still to be told of the node's last line
abbrev pub NoneWaits : List Session → Type 0
NoneWaits sessions = AllByRecursion (λ (x : Session). x.waits ≡ false) sessions

-- Where its script hash isn't touched, the status that was told last is the one over the start of the node's
-- last line and what is kept, and the script hash looks over the side's chain as over that start.
abbrev pub IsUntouched : Side → Chain → List Hash32 → Subscription → Type 0
IsUntouched side start touched sub =
    is_touched touched sub ≡ false
    → IsTold (status start side.kept) sub × LooksSame start side.chain sub.0.0

-- What was told last is right, where the side is sure: of script hashes that aren't touched, and, once the
-- node's last line is worked off, of all where the client was told of it. Nobody is told before.
pub record Tellings (side : Side) (start : Chain) (touched : List Hash32) (sessions : List Session)
    : Type 0 where
  pub untouched : IsSure side → AllByRecursion
      (λ (x : Session). AllByRecursion (IsUntouched side start touched) x.client.subs) sessions
  pub told : IsSure side → side.ahead ≡ [] → AllByRecursion
      (λ (x : Session). x.waits ≡ false
      → status_told.AllTold (status side.chain side.kept) x.client.subs) sessions
  pub busy : (side.ahead ≡ [] → ⊥) → AllByRecursion (λ (x : Session). x.waits ≡ true) sessions

-- The node's bytes, all of which it has sent, leave these lines.
pub record NodeLeaves (node : LineState) (heard : List ℕ) (left : List Event) : Type 0 where
  pub limit : node.limit ≡ node_limit
  pub given : ℕ
  pub at : WasFed node heard given
  pub few : given ≤ length (lines node_limit heard)
  pub left_is : left ≡ map orders (drop given (lines node_limit heard))

-- The server stands for the world, and these events of the last arrival are left: the node's lines, and then
-- what the clients' bytes leave. `stands` says for which chains its ledger stands: where the side is sure, it
-- stands for the side's chain; `start` is the chain that was there when the node's last tip line began, or
-- the side's.
pub record Stands {G : Type 0} (stands : G → Chain → Type 0) (s : State G) (world : World) (left : List Event)
    : Type 0 where
  pub chain : IsSure world.side → stands s.ledger world.side.chain
  pub magic : s.holdings.magic ≡ world.side.magic
  pub found : s.holdings.tree ≡ world.side.found
  pub ahead : s.ahead ≡ world.side.ahead
  pub start : Chain
  pub set : SetStands s.holdings s.caches world.side start
  pub ordered : List Event
  pub node : NodeLeaves s.node world.heard ordered
  pub said : List Event
  pub sessions : SessionsAre s.clients s.speaker s.surplus world.sessions said
  -- where a client speaks, or one too many waits, the node has nothing left, and everyone was told
  pub speaker_last : (p : ℕ) → s.speaker ≡ Some p → (ordered ≡ []) × NoneWaits world.sessions
  pub surplus_last : (p : ℕ) → s.surplus ≡ Some p → (ordered ≡ []) × NoneWaits world.sessions
  pub before : IsSure world.side → s.before ≡ world.before
  pub desk : s.desk ≡ world.desk
  pub tellings : Tellings world.side start s.touched world.sessions
  pub left_is : left ≡ ordered ++ said
