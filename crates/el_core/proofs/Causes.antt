-- Why a client is closed by a turn.
use Rattle.std.proofs.Common.{◌≡◌, ◌⊎◌, inl, inr, ℕ, ◌+◌, ◌≤◌, Bool, true, false, true≢false, List, [], ◌∷◌, ◌++◌, length, map, drop, Option, Some, None, ap, sym, ◌∙◌, subst, eqb-true}
use Rattle.std.specs.Prelude.{IfSome, Contains}
use Rattle.std.specs.List.{slice_get, AllZip, list_any}
use Rattle.std.proofs.lemmas.Option.{slice_get_within, get_or_from_slice_get}
use Rattle.std.proofs.lemmas.List.Elements.{Contains-get_or}
use Rattle.el_outside.specs.Trace.{Closing}
use Rattle.el_outside.specs.declared.link.Why.TheVariants as why
use Rattle.el_side.specs.Deeds.{Deed}
use Rattle.el_base.specs.declared.hash.Hash32.{Hash32}
use Rattle.el_chain.specs.Chains.{Chain}
use Rattle.el_lines.specs.Lines.{LineEvent, line, too_long, lines}
use Rattle.el_lines.specs.NodeAnswers.{node_limit}
use Rattle.el_side.specs.Side.{Side}
use Rattle.el_world.specs.World as model
use Rattle.el_world.specs.World.{World, Session, Event, joins, says, orders, outs_of_reply, closes_long, closes_memory, closes_disk, closes_surplus, reply_to, AllTold, is_client, is_peer, line_limit}
use Rattle.el_world.specs.Run.{IsNodesTurn}
use Rattle.el_lines.proofs.Cuts.{either}
use Rattle.el_lines.specs.LineStates.{LineState}
use Rattle.el_lines.specs.declared.line_buffer.LineEvent.TheVariants as event
use Rattle.el_core.specs.State.{State, ClientState, HearsLeft, in_order, losing, IsSession, SessionsAre, NodeLeaves, Stands}
use Rattle.el_core.specs.Turn.{HasLost, MeetsLine, WaitsToBeTold, outs_of, closing_of}
use Rattle.el_core.specs.within.Clients.{Passing, replied, starved, GivesEvent, NextIsLine, ClientTurn, nobody, gone, steps, loses, departs, answers, waits, PeersTurn, closes, has_turn, TellTurn, TellsAt, IsToTell, IsFirstWaiting}
use Rattle.el_core.specs.within.Clients as telling
use Rattle.el_core.specs.declared.out.Outs as code
use Rattle.el_core.proofs.Places.{there_at, all_at, zip_at}
use Rattle.el_core.proofs.Sessions.{left_first, left_none, ordered, all_met}
use Rattle.el_core.proofs.Peers.{Speaking, speaking, gone_not}
use Rattle.el_core.proofs.Tellings.{none_wait_world}
use Rattle.el_core.proofs.Told.{first_waits, to_tell}

-- the next event is none of the node's: then no line of the node is left
said_next : (b : LineState) (heard : List ℕ) (own said : List Event) (e : Event) (rest : List Event) → NodeLeaves b heard own → e ∷ rest ≡ own ++ said → ((met : LineEvent) → e ≡ orders met → ⊥)
    → (own ≡ []) × (said ≡ e ∷ rest)
said_next b heard own said e rest n is other = by (drop n.given (lines node_limit heard)) n.left_is
  where
    by : (ls : List LineEvent) → own ≡ map orders ls → (own ≡ []) × (said ≡ e ∷ rest)
    by [] o = (o, sym (is ∙ ap (λ (l : List Event). l ++ said) o))
    by (l ∷ ls) o = absurd (other l (let f = is ∙ ap (λ (x : List Event). x ++ said) o in cc))

nothing_next : (b : LineState) (heard : List ℕ) (own : List Event) (x : LineEvent) (n : NodeLeaves b heard own) → own ≡ [] → slice_get (lines b.limit heard) n.given ≡ Some x → ⊥
nothing_next b heard own x n none is =
    let listed = subst (λ (l : ℕ). slice_get (lines l heard) n.given ≡ Some x) n.limit is in
    let first = left_first orders (lines node_limit heard) n.given x listed in
    let e = sym none ∙ n.left_is ∙ first in
    cc

pub none_given : (b next : LineState) (heard : List ℕ) (own : List Event) (x : LineEvent) → NodeLeaves b heard own → own ≡ [] → GivesEvent b x next → ⊥
none_given b next heard own x n none gives = nothing_next b heard own x n none (gives heard n.given n.at).0

pub none_unread : (b : LineState) (heard : List ℕ) (own : List Event) → NodeLeaves b heard own → own ≡ [] → NextIsLine b → ⊥
none_unread b heard own n none next_line =
    let few = subst (λ (l : ℕ). n.given ≤ length (lines l heard)) (sym n.limit) n.few in
    let g = next_line heard n.given n.at few in
    nothing_next b heard own (line g.0) n none g.1

-- a whole line of the node is next
pub nodes_turn : {G : Type 0} (stands : G → Chain → Type 0) (s : State G) (world : World) (left : List Event) → Stands stands s world left → NextIsLine s.node → AllTold world → IsNodesTurn world left
nodes_turn stands s world left stood next_line all_told =
    let n = stood.node in
    let few = subst (λ (l : ℕ). n.given ≤ length (lines l world.heard)) (sym n.limit) n.few in
    let g = next_line world.heard n.given n.at few in
    let listed = subst (λ (l : ℕ). slice_get (lines l world.heard) n.given ≡ Some (line g.0)) n.limit g.1 in
    let first = left_first orders (lines node_limit world.heard) n.given (line g.0) listed in
    rw (stood.left_is ∙ ap (λ (l : List Event). l ++ stood.said) (n.left_is ∙ first)) (inr all_told)

orders_no_line : (p : ℕ) (e met : LineEvent) → ◌≡◌ {A = Event} (says p e) (orders met) → ⊥
orders_no_line p e met is = cc

orders_no_joining : (p : ℕ) (met : LineEvent) → ◌≡◌ {A = Event} (joins p) (orders met) → ⊥
orders_no_joining p met is = cc

-- ---- why a client is closed

same_outs : (o p : code.Outs) → ◌≡◌ {A = Option code.Outs} (Some o) (Some p) → o ≡ p
same_outs o p e = cc

no_outs : (o : code.Outs) → ◌≡◌ {A = Option code.Outs} (Some o) None → ⊥
no_outs o e = cc

-- the closing of what a turn gives
abbrev CloseIs : Option Closing → ℕ → Type 0
CloseIs found p = found ≡ Some (record { peer = p; why = why.Memory })

closing_is : (o o' : code.Outs) (outs : model.Outs) (p : ℕ) → ◌≡◌ {A = Option code.Outs} (Some o) (Some o') → outs_of o' ≡ outs → CloseIs (outs_of o).closing p → CloseIs outs.closing p
closing_is o o' outs p some is told =
    let e : outs_of o ≡ outs = ap outs_of (same_outs o o' some) ∙ is in
    ap (λ (x : model.Outs). x.closing) (sym e) ∙ told

one_closing : (x y : Closing) → ◌≡◌ {A = Option Closing} (Some x) (Some y) → x ≡ y
one_closing x y e = cc

same_peer : (p q : ℕ) → CloseIs (closes_memory p).closing q → p ≡ q
same_peer p q e = ap (λ (x : Closing). x.peer) (one_closing _ _ e)

long_other : (p q : ℕ) → CloseIs (closes_long p).closing q → ⊥
long_other p q e = let w : why.Long ≡ why.Memory = ap (λ (x : Closing). x.why) (one_closing _ _ e) in cc

disk_other : (p q : ℕ) → CloseIs (closes_disk p).closing q → ⊥
disk_other p q e = let w : why.Disk ≡ why.Memory = ap (λ (x : Closing). x.why) (one_closing _ _ e) in cc

none_other : (q : ℕ) → CloseIs None q → ⊥
none_other q e = cc

surplus_other : (p q : ℕ) → CloseIs (closes_surplus p).closing q → ⊥
surplus_other p q e = let w : why.Clients ≡ why.Memory = ap (λ (x : Closing). x.why) (one_closing _ _ e) in cc

pub reply_other : (o : model.Outs) (p q : ℕ) (text : List ℕ) → o ≡ reply_to p text → CloseIs o.closing q → ⊥
reply_other o p q text is told = let e = ap (λ (x : model.Outs). x.closing) (sym is) ∙ told in cc

version_other : (p q : ℕ) (text : Option (List ℕ)) (closes_it : Bool) → CloseIs (outs_of_reply p (record { text = text; closes = closes_it })).closing q → ⊥
version_other p q text true told = let w : why.Version ≡ why.Memory = ap (λ (x : Closing). x.why) (one_closing _ _ told) in cc
version_other p q text false told = cc

-- the next event is a whole line
meets : (c : ClientState) (heard : List ℕ) (left : List Event) (p : ℕ) → c.lost ≡ false → c.buffer.limit ≡ line_limit → HearsLeft c heard left → NextIsLine c.buffer → c.peer ≡ p → MeetsLine p left
meets c heard left p kept limit hears next_line is =
    let o = ordered c heard left kept hears in
    let few = subst (λ (l : ℕ). o.given ≤ length (lines l heard)) (sym limit) o.few in
    let g = next_line heard o.given o.at few in
    let listed : slice_get (lines line_limit heard) o.given ≡ Some (line g.0) = subst (λ (l : ℕ). slice_get (lines l heard) o.given ≡ Some (line g.0)) limit g.1 in
    rw (← is) (record {
      bytes = g.0;
      rest = map (says c.peer) (drop (o.given + 1) (lines line_limit heard));
      is = o.left_is ∙ left_first (says c.peer) (lines line_limit heard) o.given (line g.0) listed;
    })

gives_line : (c : ClientState) (b : LineState) (bytes : List ℕ) → GivesEvent c.buffer (line bytes) b → NextIsLine c.buffer
gives_line c b bytes gives = λ fed given at few. (bytes, (gives fed given at).0)

contains_at : (cs : List ClientState) (i : ℕ) (c : ClientState) → slice_get cs i ≡ Some c → Contains cs c
contains_at cs i c at = subst (λ (x : ClientState). Contains cs x) (get_or_from_slice_get cs i c c at) (Contains-get_or cs i c (slice_get_within cs i c at))

other_event : (p q : ℕ) (bytes : List ℕ) (xs ys : List Event) → ◌≡◌ {A = List Event} (says p too_long ∷ xs) (says q (line bytes) ∷ ys) → ⊥
other_event p q bytes xs ys e = cc

-- what a turn gives closes this client for a line that is too long
abbrev LongBy : ℕ → Option code.Outs → Type 0
LongBy p o = (o' : code.Outs) × (o ≡ Some o') × (outs_of o' ≡ closes_long p)

-- who speaks says what is next
says_first : (q p : ℕ) (e : LineEvent) (ls : List LineEvent) (rest : List Event) → ◌≡◌ {A = List Event} (says p e ∷ rest) (map (says q) ls) → q ≡ p
says_first q p e [] rest is = absurd (let f = is in cc)
says_first q p e (l ∷ ls) rest is = cc

whose : (c : ClientState) (heard : List ℕ) (p : ℕ) (e : LineEvent) (rest : List Event) → HearsLeft c heard (says p e ∷ rest) → c.peer ≡ p
whose c heard p e rest (in_order given kept at few is) = says_first c.peer p e (drop given (lines line_limit heard)) rest is
whose c heard p e rest (losing lost all_said) = sym all_said.0

no_joining : (q p : ℕ) (ls : List LineEvent) (rest : List Event) → joins p ∷ rest ≡ map (says q) ls → ⊥
no_joining q p [] rest e = cc
no_joining q p (l ∷ ls) rest e = cc

joined : (q p : ℕ) (rest : List Event) → ◌≡◌ {A = List Event} (joins p ∷ rest) (joins q ∷ []) → q ≡ p
joined q p rest e = cc

waits_hears : (c : ClientState) (heard : List ℕ) (rest : List Event) (p : ℕ) → HearsLeft c heard (joins p ∷ rest) → ⊥
waits_hears c heard rest p (in_order given kept at few is) = no_joining c.peer p (drop given (lines line_limit heard)) rest is
waits_hears c heard rest p (losing lost all_said) = all_said.0

-- the client that speaks is there
spoken : (q : ℕ) (left : List Event) (cs : List ClientState) (ss : List Session) → AllZip (IsSession (Some q) left) cs ss → list_any (is_peer q) ss ≡ true → (c : ClientState) × (heard : List ℕ) × HearsLeft c heard left
spoken q left [] [] z there = absurd (true≢false (sym there))
spoken q left [] (y ∷ ys) z there = absurd z
spoken q left (x ∷ xs) [] z there = absurd z
spoken q left (x ∷ xs) (y ∷ ys) z there = elim (either (is_peer q y)) [
  | inl h ↦ (x, y.heard, z.0.speaks (ap (λ (n : ℕ). Some n) (sym (z.0.peer ∙ eqb-true y.peer q h))))
  | inr h ↦ spoken q left xs ys z.1 (rw h at there)
]

waits_by : (clients : List ClientState) (speaker surplus : Option ℕ) (ss : List Session) (p : ℕ) (rest : List Event) → SessionsAre clients speaker surplus ss (joins p ∷ rest) → surplus ≡ Some p
waits_by clients None None ss p rest are = absurd are.leaves_left.0.1
waits_by clients None (Some q) ss p rest are = ap Some (joined q p rest are.leaves_left.0)
waits_by clients (Some q) None ss p rest are = let s = spoken q (joins p ∷ rest) clients ss are.each are.leaves_left in absurd (waits_hears s.0 s.1 rest p s.2)
waits_by clients (Some q) (Some r) ss p rest are = absurd are.leaves_left

-- while a client too many waits, no line is left
pub no_line : (clients : List ClientState) (speaker : Option ℕ) (ss : List Session) (rest : List Event) (p q : ℕ) (e : LineEvent) → SessionsAre clients speaker (Some q) ss (says p e ∷ rest) → ⊥
no_line clients None ss rest p q e are = let f = are.leaves_left.0 in cc
no_line clients (Some r) ss rest p q e are = are.leaves_left

module _ {G : Type 0} (stands : G → Chain → Type 0) where
  pub waiting_joins : (s : State G) (world : World) (p : ℕ) (rest : List Event) → Stands stands s world (joins p ∷ rest) → s.surplus ≡ Some p
  waiting_joins s world p rest stood =
      let n = said_next s.node world.heard stood.ordered stood.said (joins p) rest stood.node stood.left_is (orders_no_joining p) in
      waits_by s.clients s.speaker s.surplus world.sessions p rest (rw n.1 at stood.sessions)

  -- a line of a client is next: then none of the node's is
  pub none_ordered_before : (s : State G) (world : World) (p : ℕ) (e : LineEvent) (rest : List Event) (stood : Stands stands s world (says p e ∷ rest))
      → (stood.ordered ≡ []) × (stood.said ≡ says p e ∷ rest)
  none_ordered_before s world p e rest stood = said_next s.node world.heard stood.ordered stood.said (says p e) rest stood.node stood.left_is (orders_no_line p e)

  memory_of : (tells : Type 0) (side : Side) (rose : Passing) (s : State G) (world : World) (c : ClientState) (o : code.Outs) (next : Option ClientState) (left : List Event) (p q i : ℕ) → Speaking s world left q i c
      → slice_get s.clients i ≡ Some c → ClientTurn tells side rose c (Some o) next → CloseIs (outs_of o).closing p → HasLost p s.clients ⊎ MeetsLine p left
  memory_of tells side rose s world c o next left p q i w at (loses o' lost some is gone_is still) told = inl (c, contains_at s.clients i c at, same_peer c.peer p (closing_is o o' _ p some is told), lost)
  memory_of tells side rose s world c o next left p q i w at (departs o' kept next_line some is gone_is still) told =
      inr (meets c w.session.heard left p kept w.is.limit w.hears next_line (same_peer c.peer p (closing_is o o' _ p some is told)))
  memory_of tells side rose s world c o next left p q i w at (answers o' (event.Line bytes) b now st kept limit gives (replied losses reply comes outs_is st_is lost) now_is some) told =
      absurd (version_other c.peer p reply.text reply.closes (closing_is o o' _ p some outs_is told))
  memory_of tells side rose s world c o next left p q i w at (answers o' (event.Line bytes) b now st kept limit gives (starved losses e comes outs_is st_is lost) now_is some) told =
      inr (meets c w.session.heard left p kept w.is.limit w.hears (gives_line c b bytes gives) (same_peer c.peer p (closing_is o o' _ p some outs_is told)))
  memory_of tells side rose s world c o next left p q i w at (answers o' (event.TooLong most) b now st kept limit gives a now_is some) told =
      absurd (long_other c.peer p (closing_is o o' _ p some a.0 told))
  memory_of tells side rose s world c o next left p q i w at (waits idle none_is same still) told = absurd (no_outs o none_is)

  pub peers_memory : (old new : State G) (world : World) (left : List Event) (tells : Type 0) (side : Side) (rose : Passing) (o : code.Outs) (p : ℕ) (stood : Stands stands old world left) → stood.ordered ≡ []
      → PeersTurn tells side rose old (Some o) new → CloseIs (outs_of o).closing p → HasLost p old.clients ⊎ MeetsLine p left
  peers_memory old new world left tells side rose o p stood none (closes q o' is some outs_is next still) told = absurd (surplus_other q p (closing_is o o' _ p some outs_is told))
  peers_memory old new world left tells side rose o p stood none (has_turn unused (nobody no_speaker none_is next still)) told = absurd (no_outs o none_is)
  peers_memory old new world left tells side rose o p stood none (has_turn unused (gone q is absent none_is next still)) told = absurd (no_outs o none_is)
  peers_memory old new world left tells side rose o p stood none (has_turn unused (steps q i c now is at peer_is turn next)) told =
      let l : left ≡ stood.said = stood.left_is ∙ ap (λ (x : List Event). x ++ stood.said) none in
      rw l (memory_of tells side rose old world c o now stood.said p q i (speaking old world stood.said q i c (rw (is, unused) at stood.sessions) at peer_is) at turn told)

  pub found_memory : (old new : State G) (world : World) (left : List Event) (tells : Type 0) (side : Side) (rose : Passing) (o : Option code.Outs) (p : ℕ) (stood : Stands stands old world left) → stood.ordered ≡ []
      → PeersTurn tells side rose old o new → IfSome o (λ out. out.close ≡ Some (p, why.Memory) → HasLost p old.clients ⊎ (MeetsLine p left ⊎ WaitsToBeTold p world))
  found_memory old new world left tells side rose None p stood none turn = tt
  found_memory old new world left tells side rose (Some o) p stood none turn = λ told. elim (peers_memory old new world left tells side rose o p stood none turn (ap closing_of told)) [
    | inl lost ↦ inl lost
    | inr line_met ↦ inr (inl line_met)
  ]

  -- who is told is closed as out of memory
  tell_starves : (side : Side) (before : Option Hash32) (rose : ℕ → Type 0) (c : ClientState) (outs : model.Outs) (now : Option ClientState) (p : ℕ) → TellTurn side before rose c outs now → CloseIs outs.closing p → c.peer ≡ p
  tell_starves side before rose c outs now p (telling.tells sure outs_is now_is rose_so) told = absurd (none_other p (ap (λ (x : model.Outs). x.closing) (sym outs_is) ∙ told))
  tell_starves side before rose c outs now p (telling.fails outs_is now_is rose_so) told = absurd (disk_other c.peer p (ap (λ (x : model.Outs). x.closing) (sym outs_is) ∙ told))
  tell_starves side before rose c outs now p (telling.starves outs_is now_is rose_so) told = same_peer c.peer p (ap (λ (x : model.Outs). x.closing) (sym outs_is) ∙ told)
  tell_starves side before rose c outs now p (telling.unsure un some rose_so) told = absurd (none_other p (ap (λ (x : model.Outs). x.closing) (sym some.outs_are) ∙ told))

  pub tell_memory : (old : State G) (world : World) (left : List Event) (rose : ℕ → Type 0) (outs : model.Outs) (i p : ℕ) (next : List ClientState) → Stands stands old world left → old.ahead ≡ [] → IsFirstWaiting old.clients (Some i)
      → TellsAt (λ c now. (side : Side) → IsToTell stands old.ledger old.holdings old.touched side c → TellTurn side old.before rose c outs now) i old.clients next → CloseIs outs.closing p → WaitsToBeTold p world
  tell_memory old world left rose outs i p next stood ahead first t told =
      let f = first_waits stands old world left i stood first t.client t.at in
      let peer = tell_starves world.side old.before rose t.client outs t.left p (t.said world.side (to_tell stands old world left i t.client stood (sym stood.ahead ∙ ahead) t.at)) told in
      (f.0, f.1, sym f.2 ∙ peer)

  -- who is still to be told is none where all are told
  pub tell_none : (old : State G) (world : World) (left : List Event) (i : ℕ) → Stands stands old world left → IsFirstWaiting old.clients (Some i) → AllTold world → ⊥
  tell_none old world left i stood first all_told =
      let z = zip_at (IsSession old.speaker stood.said) old.clients world.sessions i first.0 stood.sessions.each first.1 in
      true≢false (sym (sym z.2.waits ∙ first.2) ∙ all_at _ world.sessions i z.0 (none_wait_world world.sessions all_told) z.1)

  long_of : (tells : Type 0) (side : Side) (rose : Passing) (s : State G) (world : World) (c : ClientState) (o : Option code.Outs) (next : Option ClientState) (rest : List Event) (p q i : ℕ) → Speaking s world (says p too_long ∷ rest) q i c
      → slice_get s.clients i ≡ Some c → (HasLost p s.clients → ⊥) → ClientTurn tells side rose c o next → LongBy p o
  long_of tells side rose s world c o next rest p q i w at kept (loses o' lost some is gone_is still) = absurd (kept (c, contains_at s.clients i c at, whose c w.session.heard p too_long rest w.hears, lost))
  long_of tells side rose s world c o next rest p q i w at kept (departs o' k next_line some is gone_is still) =
      let m = meets c w.session.heard (says p too_long ∷ rest) p k w.is.limit w.hears next_line (whose c w.session.heard p too_long rest w.hears) in
      absurd (other_event p p m.bytes rest m.rest m.is)
  long_of tells side rose s world c o next rest p q i w at kept (answers o' (event.Line bytes) b now st k limit gives a now_is some) =
      let m = meets c w.session.heard (says p too_long ∷ rest) p k w.is.limit w.hears (gives_line c b bytes gives) (whose c w.session.heard p too_long rest w.hears) in
      absurd (other_event p p m.bytes rest m.rest m.is)
  long_of tells side rose s world c o next rest p q i w at kept (answers o' (event.TooLong most) b now st k limit gives a now_is some) = (o', some, a.0 ∙ ap closes_long (whose c w.session.heard p too_long rest w.hears))
  long_of tells side rose s world c o next rest p q i w at kept (waits idle none_is now_is still) =
      let d = ordered c w.session.heard (says p too_long ∷ rest) idle.kept w.hears in
      let none_after = left_none (says c.peer) (lines line_limit w.session.heard) d.given (all_met c w.session.heard d.given w.is.limit idle.given_all d.at) in
      absurd (let e = d.left_is ∙ none_after in cc)

  pub peers_long : (old new : State G) (world : World) (p : ℕ) (rest : List Event) (tells : Type 0) (side : Side) (rose : Passing) (o : Option code.Outs) → Stands stands old world (says p too_long ∷ rest)
      → is_client p world ≡ true → (HasLost p old.clients → ⊥) → PeersTurn tells side rose old o new → LongBy p o
  peers_long old new world p rest tells side rose o stood is_one kept (closes q o' waits_q some outs_is next still) =
      let n = none_ordered_before old world p too_long rest stood in
      absurd (no_line old.clients old.speaker world.sessions rest p q too_long (rw (waits_q, n.1) at stood.sessions))
  peers_long old new world p rest tells side rose o stood is_one kept (has_turn unused (nobody no_speaker none_is next still)) =
      let n = none_ordered_before old world p too_long rest stood in
      let are : SessionsAre old.clients None None world.sessions (says p too_long ∷ rest) = rw (no_speaker, unused, n.1) at stood.sessions in
      let v = are.leaves_left.0 in
      absurd (there_at p world.sessions is_one (rw v.1 v.2))
  peers_long old new world p rest tells side rose o stood is_one kept (has_turn unused (gone q is absent none_is next still)) =
      absurd (gone_not q old.clients world.sessions stood.said (rw (is, unused) at stood.sessions) absent)
  peers_long old new world p rest tells side rose o stood is_one kept (has_turn unused (steps q i c now is at peer_is turn next)) =
      let n = none_ordered_before old world p too_long rest stood in
      long_of tells side rose old world c o now rest p q i (speaking old world (says p too_long ∷ rest) q i c (rw (is, unused, n.1) at stood.sessions) at peer_is) at kept turn
