-- How many rows a client's line reads.
use Rattle.std.proofs.Common.{◌≡◌, inl, inr, ℕ, ◌<◌, false, List, [], ◌∷◌, length, Option, Some, None, Result, Ok, Err, refl, sym, ◌∙◌, subst, arith}
use Rattle.std.specs.Prelude.{slice_get, get_or}
use Rattle.std.proofs.lemmas.Option.{slice_get_read}
use Rattle.el_chain.specs.Chains.{Chain}
use Rattle.el_json.specs.Lines.{line_says}
use Rattle.el_json.specs.declared.request.Item.{Item}
use Rattle.el_json.specs.declared.request.Item.TheVariants.{Good, Invalid}
use Rattle.el_json.specs.declared.request.Envelope.{Envelope}
use Rattle.el_json.specs.declared.request.Envelope.TheVariants.{One, Batch}
use Rattle.el_json.specs.declared.request.LineFault.{LineFault}
use Rattle.el_lines.specs.Lines.{line, lines}
use Rattle.el_lines.specs.LineStates.{LineState, as_listed}
use Rattle.el_lines.specs.declared.line_buffer.LineEvent as met
use Rattle.el_lines.specs.declared.line_buffer.LineEvent.TheVariants as event
use Rattle.el_replies.specs.RowBounds.{ItemReads, ItemsRead, LineReads, ReadsWithin}
use Rattle.el_world.specs.World.{World, Event, says, line_limit}
use Rattle.el_core.specs.State.{State, ClientState, SessionsAre, Stands}
use Rattle.el_core.specs.within.Clients.{GivesEvent}
use Rattle.el_core.specs.within.RowBounds.{EventReads, NextReads, ClientReads, SpeakerReads}
use Rattle.el_core.proofs.Causes.{no_line, none_ordered_before}
use Rattle.el_core.proofs.Peers.{speaking}
use Rattle.el_core.proofs.Sessions.{left_first, ordered}

-- ---- none

item_none : (chain : Chain) (buckets : ℕ) (i : Item) → ItemReads chain buckets i 0
item_none chain buckets (Good r) = inl refl
item_none chain buckets (Invalid id) = refl

items_none : (chain : Chain) (buckets : ℕ) (is : List Item) → ItemsRead chain buckets is 0
items_none chain buckets [] = refl
items_none chain buckets (i ∷ is) = (0, 0, item_none chain buckets i, items_none chain buckets is, refl)

pub line_none : (chain : Chain) (buckets : ℕ) (said : Result Envelope LineFault) → LineReads chain buckets said 0
line_none chain buckets (Ok (One r)) = inl refl
line_none chain buckets (Ok (Batch items)) = items_none chain buckets items
line_none chain buckets (Err e) = refl

-- where none are read, no more are than may be
pub none_within : (may : ℕ → Type 0) (was now : ℕ) → may 0 → now ≡ was → ReadsWithin may was now
none_within may was now zero same = (0, zero, omega (arith, same))

-- what fewer may be, more may be
pub within_more : (may other : ℕ → Type 0) (was now : ℕ) → ((n : ℕ) → may n → other n) → ReadsWithin may was now → ReadsWithin other was now
within_more may other was now more (n, is, le) = (n, more n is, le)

-- what was met is the next line of a client whose bytes were all kept
pub met_reads : (chain : Chain) (buckets : ℕ) (c : ClientState) (e : met.LineEvent) (b : LineState) → c.lost ≡ false → GivesEvent c.buffer (as_listed e) b
    → (n : ℕ) → EventReads chain buckets e n → ClientReads chain buckets c n
met_reads chain buckets c (event.Line bytes) b kept gives n reads = inr (record { kept = kept; bytes = bytes; next = b; gives = gives; reads = reads })
met_reads chain buckets c (event.TooLong limit) b kept gives n zero = inl zero

-- ---- the client at a place

same_some : (c d : ClientState) → Some c ≡ Some d → c ≡ d
same_some c d e = cc

pub client_there : (items : List ClientState) (i : ℕ) (c d : ClientState) → i < length items → c ≡ get_or items i c → slice_get items i ≡ Some d → c ≡ d
client_there items i c d lt read at = same_some c d (sym (slice_get_read items (length items) i c refl lt read) ∙ at)

-- that it speaks
pub spoken_reads : (chain : Chain) (buckets : ℕ) (speaker : Option ℕ) (clients : List ClientState) (i : ℕ) (c : ClientState) → speaker ≡ Some c.peer → slice_get clients i ≡ Some c
    → (n : ℕ) → ClientReads chain buckets c n → SpeakerReads chain buckets speaker clients n
spoken_reads chain buckets speaker clients i c is at n (inl zero) = inl zero
spoken_reads chain buckets speaker clients i c is at n (inr reads) = inr (record { client = c; place = i; speaks = is; at = at; reads = reads })

-- ---- its next line

one_line : (p q : ℕ) (xs ys : List ℕ) (rest more : List Event) → ◌≡◌ {A = List Event} (says p (line xs) ∷ rest) (says q (line ys) ∷ more) → ys ≡ xs
one_line p q xs ys rest more e = cc

module _ {G : Type 0} (stands : G → Chain → Type 0) (s : State G) (world : World) (p : ℕ) (bytes : List ℕ) (rest : List Event)
    (stood : Stands stands s world (says p (line bytes) ∷ rest)) (chain : Chain) (buckets : ℕ) where
  said_line : (n i : ℕ) (c : ClientState) → SessionsAre s.clients (Some c.peer) None world.sessions (says p (line bytes) ∷ rest) → slice_get s.clients i ≡ Some c
      → NextReads chain buckets c n → LineReads chain buckets (line_says bytes) n
  said_line n i c are at r =
      let w = speaking s world (says p (line bytes) ∷ rest) c.peer i c are at refl in
      let o = ordered c w.session.heard (says p (line bytes) ∷ rest) r.kept w.hears in
      let given = (r.gives w.session.heard o.given o.at).0 in
      let listed : slice_get (lines line_limit w.session.heard) o.given ≡ Some (line r.bytes) =
      subst (λ (l : ℕ). slice_get (lines l w.session.heard) o.given ≡ Some (line r.bytes)) w.is.limit given in
      let first = left_first (says c.peer) (lines line_limit w.session.heard) o.given (line r.bytes) listed in
      let same : r.bytes ≡ bytes = one_line p c.peer bytes r.bytes rest _ (o.left_is ∙ first) in
      rw same at r.reads

  by_surplus : (surplus : Option ℕ) (n i : ℕ) (c : ClientState) → SessionsAre s.clients (Some c.peer) surplus world.sessions (says p (line bytes) ∷ rest)
      → slice_get s.clients i ≡ Some c → NextReads chain buckets c n → LineReads chain buckets (line_says bytes) n
  by_surplus None n i c are at r = said_line n i c are at r
  by_surplus (Some q) n i c are at r = absurd (no_line s.clients (Some c.peer) world.sessions rest p q (line bytes) are)

  pub turn_reads : (n : ℕ) → SpeakerReads chain buckets s.speaker s.clients n → LineReads chain buckets (line_says bytes) n
  turn_reads n (inl zero) = rw zero (line_none chain buckets (line_says bytes))
  turn_reads n (inr r) =
      let before = none_ordered_before stands s world p (line bytes) rest stood in
      by_surplus s.surplus n r.place r.client (rw (r.speaks, before.1) at stood.sessions) r.at r.reads
