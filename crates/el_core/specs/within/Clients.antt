-- What the server's parts do with its clients.
use Rattle.std.specs.List.{AllByRecursion}
use Rattle.std.specs.Option.{is_some}
use Rattle.std.specs.Prelude.{IfSome, OnSome, nat_lt, Bool, not, map, take, zero, suc, ◌∷◌, ◌≡◌, ℕ, ◌+◌, ◌≤◌, ◌<◌, true, false, List, [], ◌++◌, length, Option, Some, None, Ok, Err, MatchBool, slice_get}
use Rattle.el_base.specs.declared.hash.Hash32.{Hash32}
use Rattle.el_base.specs.declared.memory.OutOfMemory.{OutOfMemory}
use Rattle.el_chain.specs.Chains.{Chain}
use Rattle.el_mempool.specs.Standing.{KeptStandFor}
use Rattle.el_relay.specs.Desk.{DeskState}
use Rattle.el_replies.specs.Spending.{AskedGhosts, Asking, Did}
use Rattle.el_side.specs.Deeds.{Deed}
use Rattle.el_lines.specs.Lines.{LineEvent, line, lines}
use Rattle.el_sessions.specs.declared.session.Session as known
use Rattle.el_replies.specs.declared.line.LineReply.{LineReply}
use Rattle.el_subs.specs.Told.{status, OthersTold}
use Rattle.el_subs.specs.Notices.{notices, notified, IsNotice}
use Rattle.el_side.specs.declared.holdings.Holdings.{Holdings}
use Rattle.el_side.specs.Side.{Side, IsSure}
use Rattle.el_world.specs.World as model
use Rattle.el_world.specs.World.{client_limit, line_limit, new_client, standing_of, Comes, StaysSubscribed, outs_of_reply, texts_to, closes_long, closes_memory, closes_disk, closes_surplus}
use Rattle.el_lines.specs.LineStates.{LineState, WasFed, as_listed}
use Rattle.el_lines.specs.declared.line_buffer.LineEvent as met
use Rattle.el_lines.specs.declared.line_buffer.LineEvent.TheVariants as event
use Rattle.el_core.specs.State.{State, ClientState, IsHeardOut, is_numbered, waiting, work_of_client}
use Rattle.el_core.specs.Turn.{outs_of}
use Rattle.el_core.specs.declared.out.Outs.{Outs}

-- a client that has sent nothing
pub record IsNewClient (p : ℕ) (c : ClientState) : Type 0 where
  pub peer : c.peer ≡ p
  pub limit : c.buffer.limit ≡ line_limit
  pub at : WasFed c.buffer [] 0
  pub kept : c.lost ≡ false
  pub session : c.session ≡ new_client
  pub waits : c.waits ≡ false

-- a peer comes: it is a client, one too many, or the node, which is none
pub data Opens {G : Type 0} (p : ℕ) (s next : State G) : Type 0 where
  node : p ≡ 0 → next ≡ s → Opens p s next
  joins : (p ≡ 0 → ⊥) → (c : ClientState) → IsNewClient p c → nat_lt (length s.clients) client_limit ≡ true
      → next ≡ record s { clients = s.clients ++ c ∷ [] } → Opens p s next
  one_more : (p ≡ 0 → ⊥) → nat_lt (length s.clients) client_limit ≡ false
      → next ≡ record s { surplus = Some p } → Opens p s next

-- all are to be told of a line of the node
abbrev pub all_wait : List ClientState → List ClientState
all_wait clients = map (λ (c : ClientState). record c { waits = true }) clients

-- the server as a line of the node begins, where this is the tip: nothing is touched yet
abbrev pub begun_at : {G : Type 0} → Option Hash32 → State G → State G
begun_at tip s = record s { clients = all_wait s.clients; before = tip; touched = [] }

-- the lines are those after these bytes were fed too
abbrev pub IsFed : LineState → List ℕ → LineState → Type 0
IsFed b bytes next = (fed : List ℕ) (given : ℕ) → WasFed b fed given → WasFed next (fed ++ bytes) given

-- the client's bytes are kept, or lost where memory runs out
pub record KeepsBytes (bytes : List ℕ) (c next : ClientState) : Type 0 where
  pub limit : next.buffer.limit ≡ c.buffer.limit
  pub peer : next.peer ≡ c.peer
  pub session : next.session ≡ c.session
  pub waits : next.waits ≡ c.waits
  pub kept : MatchBool next.lost (next.buffer ≡ c.buffer) (IsFed c.buffer bytes next.buffer)

-- the list with another client at that place, or without it
abbrev pub client_replaced : {A : Type 0} → ℕ → Option A → List A → List A
client_replaced i next [] = []
client_replaced zero (Some y) (x ∷ xs) = y ∷ xs
client_replaced zero None (x ∷ xs) = xs
client_replaced (suc i) next (x ∷ xs) = x ∷ client_replaced i next xs

-- there is no client with this number, or the first stands there
abbrev pub IsClientPlace : ℕ → List ClientState → Option ℕ → Type 0
IsClientPlace p clients None = AllByRecursion (λ (c : ClientState). is_numbered p c ≡ false) clients
IsClientPlace p clients (Some i) =
    (c : ClientState) × (slice_get clients i ≡ Some c) × (c.peer ≡ p)
    × AllByRecursion (λ (d : ClientState). is_numbered p d ≡ false) (take i clients)

-- nobody is still to be told of the node's last line, or the first such client stands there
abbrev pub IsFirstWaiting : List ClientState → Option ℕ → Type 0
IsFirstWaiting clients None = waiting clients ≡ []
IsFirstWaiting clients (Some i) =
    (c : ClientState) × (slice_get clients i ≡ Some c) × (c.waits ≡ true) × (waiting (take i clients) ≡ [])

-- the client at that place keeps its bytes, or that there was no memory for them
abbrev pub HearsAt : ℕ → List ℕ → List ClientState → List ClientState → Type 0
HearsAt i bytes clients next =
    (c kept : ClientState) × (slice_get clients i ≡ Some c) × KeepsBytes bytes c kept
    × (next ≡ client_replaced i (Some kept) clients)

-- bytes of a peer come, which is a client or nobody; it then speaks
pub data Hears {G : Type 0} (p : ℕ) (bytes : List ℕ) (s next : State G) : Type 0 where
  nobody : IsClientPlace p s.clients None → next ≡ s → Hears p bytes s next
  client : (i : ℕ) (c kept : ClientState) → slice_get s.clients i ≡ Some c → c.peer ≡ p
      → KeepsBytes bytes c kept
      → next ≡ record s { clients = client_replaced i (Some kept) s.clients; speaker = Some p }
      → Hears p bytes s next

-- the next event of the bytes that were fed, and the buffer after it
abbrev pub GivesEvent : LineState → LineEvent → LineState → Type 0
GivesEvent b e next = (fed : List ℕ) (given : ℕ) → WasFed b fed given
    → (slice_get (lines b.limit fed) given ≡ Some e) × WasFed next fed (given + 1)

-- the next event is a whole line
abbrev pub NextIsLine : LineState → Type 0
NextIsLine b = (fed : List ℕ) (given : ℕ) → WasFed b fed given → given ≤ length (lines b.limit fed)
    → (bytes : List ℕ) × (slice_get (lines b.limit fed) given ≡ Some (line bytes))

-- What a turn finds and leaves beside the clients: what the desk of broadcasts kept, and what it keeps; and
-- what these deeds show of the devices.
pub record Passing : Type 1 where
  pub was : DeskState
  pub now : DeskState
  pub did : List Deed → Type 0

-- what passes between these two moments
abbrev pub passing : {G A Y : Type 0} → AskedGhosts G A Y → Asking G A Y → Asking G A Y → Passing
passing of was now = record { was = was.desk; now = now.desk; did = Did of was now }

-- no device was asked
pub record IsIdly (rose : Passing) : Type 0 where
  pub desk : rose.now ≡ rose.was
  pub did : rose.did []

-- What comes of a line of a client over the side: it gets what the line is replied, and may then be closed;
-- or no memory was found for that. `was` is what is kept of it for its requests, and then `now`; `rose` says
-- what passed meanwhile.
pub data LineAnswered (tells : Type 0) (side : Side) (rose : Passing) (p : ℕ) (bytes : List ℕ)
    (was now : known.Session) (outs : model.Outs) (stays : Bool) : Type 0 where
  replied : (losses : List Deed) (reply : LineReply)
      → Comes tells side bytes (standing_of was rose.was) losses (standing_of now rose.now) (Ok reply)
      → outs ≡ outs_of_reply p reply → stays ≡ not reply.closes → rose.did losses
      → LineAnswered tells side rose p bytes was now outs stays
  starved : (losses : List Deed) (e : OutOfMemory)
      → Comes tells side bytes (standing_of was rose.was) losses (standing_of now rose.now) (Err e)
      → outs ≡ closes_memory p → stays ≡ false → rose.did losses
      → LineAnswered tells side rose p bytes was now outs stays

-- the client, where it stays
abbrev pub left_if : Bool → ClientState → Option ClientState
left_if true c = Some c
left_if false c = None

-- what is sent or closed for an event of this client, what is then kept of it, and whether it stays
abbrev pub AnswersClient : Type 0 → Side → Passing → ℕ → met.LineEvent → known.Session
    → known.Session → model.Outs → Bool → Type 0
AnswersClient tells side rose p (event.Line bytes) was now outs stays =
    LineAnswered tells side rose p bytes was now outs stays
AnswersClient tells side rose p (event.TooLong limit) was now outs stays =
    (outs ≡ closes_long p) × (stays ≡ false) × IsIdly rose

-- a turn of a client
pub data ClientTurn (tells : Type 0) (side : Side) (rose : Passing) (c : ClientState)
    (outs : Option Outs) (next : Option ClientState) : Type 0 where
  -- bytes of it were lost
  loses : (o : Outs) → c.lost ≡ true → outs ≡ Some o → outs_of o ≡ closes_memory c.peer → next ≡ None
      → IsIdly rose → ClientTurn tells side rose c outs next
  -- no memory for its next line
  departs : (o : Outs) → c.lost ≡ false → NextIsLine c.buffer → outs ≡ Some o
      → outs_of o ≡ closes_memory c.peer → next ≡ None → IsIdly rose → ClientTurn tells side rose c outs next
  -- its next event
  answers : (o : Outs) (e : met.LineEvent) (b : LineState) (now : known.Session) (stays : Bool)
      → c.lost ≡ false → b.limit ≡ c.buffer.limit → GivesEvent c.buffer (as_listed e) b
      → AnswersClient tells side rose c.peer e c.session now (outs_of o) stays
      → next ≡ left_if stays (record c { buffer = b; session = now }) → outs ≡ Some o
      → ClientTurn tells side rose c outs next
  -- no line is left
  waits : IsHeardOut c → outs ≡ None → next ≡ Some c → IsIdly rose → ClientTurn tells side rose c outs next

-- A turn of the client at that place, which is left or not: what `says` says of both.
pub record TurnsAt (says : ClientState → Option ClientState → Type 0) (i : ℕ) (clients : List ClientState)
    (outs : Option Outs) (stays : Bool) (next : List ClientState) : Type 0 where
  pub client : ClientState
  pub left : Option ClientState
  pub at : slice_get clients i ≡ Some client
  pub next_is : next ≡ client_replaced i left clients
  pub stays_is : stays ≡ is_some left
  pub same : IfSome left (λ d. (d.peer ≡ client.peer) × (d.waits ≡ client.waits))
  pub less : OnSome outs (work_of_client left < work_of_client (Some client))
  pub said : says client left

-- who speaks after a turn of the client that spoke
abbrev pub speaker_after : Option Outs → Option ClientState → Option ℕ
speaker_after None left = None
speaker_after (Some o) None = None
speaker_after (Some o) (Some c) = Some c.peer

-- a turn of the client that speaks, if there is one
pub data SpeakerSteps {G : Type 0} (tells : Type 0) (side : Side) (rose : Passing) (s : State G)
    (outs : Option Outs) (next : State G) : Type 0 where
  nobody : s.speaker ≡ None → outs ≡ None → next ≡ s → IsIdly rose → SpeakerSteps tells side rose s outs next
  gone : (p : ℕ) → s.speaker ≡ Some p → IsClientPlace p s.clients None → outs ≡ None
      → next ≡ record s { speaker = None } → IsIdly rose → SpeakerSteps tells side rose s outs next
  steps : (p i : ℕ) (c : ClientState) (left : Option ClientState) → s.speaker ≡ Some p
      → slice_get s.clients i ≡ Some c → c.peer ≡ p → ClientTurn tells side rose c outs left
      → next ≡ record s {
        ledger = next.ledger;
        caches = next.caches;
        desk = next.desk;
        clients = client_replaced i left s.clients;
        speaker = speaker_after outs left;
      } → SpeakerSteps tells side rose s outs next

-- a turn where the node has nothing left: a client too many is closed, or the client that speaks has its turn
pub data PeersTurn {G : Type 0} (tells : Type 0) (side : Side) (rose : Passing) (s : State G)
    (outs : Option Outs) (next : State G) : Type 0 where
  closes : (p : ℕ) (o : Outs) → s.surplus ≡ Some p → outs ≡ Some o → outs_of o ≡ closes_surplus p
      → next ≡ record s { surplus = None } → IsIdly rose → PeersTurn tells side rose s outs next
  has_turn : s.surplus ≡ None → SpeakerSteps tells side rose s outs next
      → PeersTurn tells side rose s outs next

-- all that the client is told of the node's last line, over the side
abbrev pub told_outs : Side → Option Hash32 → ClientState → model.Outs
told_outs side before c = texts_to c.peer (notices (status side.chain side.kept) before side.chain c.session)

-- the client once it was told
abbrev pub told_client : Side → ClientState → ClientState
told_client side c =
    record c { session = notified (status side.chain side.kept) c.session; waits = false }

-- From these a client is told over the side: where that is sure, the ledger stands for its chain and the set
-- for what is kept, and each subscription to a script hash that isn't touched was told its status.
pub record IsToTell {G : Type 0} (stands : G → Chain → Type 0) (l : G) (holdings : Holdings)
    (touched : List Hash32) (side : Side) (c : ClientState) : Type 0 where
  pub stood : IsSure side → stands l side.chain
  pub set : IsSure side → KeptStandFor holdings.pool.entries side.chain side.kept
  pub others : IsSure side → OthersTold (status side.chain side.kept) touched c.session.subs

-- The client gets some notices, and subscribes to the same as before.
pub record TellsSome (c : ClientState) (outs : model.Outs) (left : Option ClientState) : Type 0 where
  pub texts : List (List ℕ)
  pub told : AllByRecursion IsNotice texts
  pub outs_are : outs ≡ texts_to c.peer texts
  pub now : known.Session
  pub stays : StaysSubscribed c.session now
  pub left_is : left ≡ Some (record c { session = now; waits = false })

-- What a client gets that is told of the node's last line: all of it, or its closing; or, where the side is
-- unsure, some notices. `rose` says by how much the count of the disk's failed calls rose.
pub data TellTurn (side : Side) (before : Option Hash32) (rose : ℕ → Type 0) (c : ClientState)
    (outs : model.Outs) (left : Option ClientState) : Type 0 where
  tells : IsSure side → outs ≡ told_outs side before c → left ≡ Some (told_client side c) → rose 0
      → TellTurn side before rose c outs left
  fails : outs ≡ closes_disk c.peer → left ≡ None → rose 1 → TellTurn side before rose c outs left
  starves : outs ≡ closes_memory c.peer → left ≡ None → rose 0 → TellTurn side before rose c outs left
  unsure : side.sure ≡ false → TellsSome c outs left → rose 0 → TellTurn side before rose c outs left

-- The telling of the client at that place, which is left or not: what `says` says of both.
pub record TellsAt (says : ClientState → Option ClientState → Type 0) (i : ℕ)
    (clients next : List ClientState) : Type 0 where
  pub client : ClientState
  pub left : Option ClientState
  pub at : slice_get clients i ≡ Some client
  pub next_is : next ≡ client_replaced i left clients
  pub told : IfSome left (λ d. d.waits ≡ false)
  pub same : IfSome left (λ d. (d.buffer ≡ client.buffer) × (d.peer ≡ client.peer))
  pub said : says client left
