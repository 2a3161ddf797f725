-- How many rows of the index a client's turn reads at most: those of its next line, whose requests each ask
-- for a call once.
use Rattle.std.specs.Prelude.{◌≡◌, ◌⊎◌, ℕ, false, List, Option, Some, slice_get}
use Rattle.el_chain.specs.Chains.{Chain}
use Rattle.el_json.specs.Lines.{line_says}
use Rattle.el_lines.specs.Lines.{line}
use Rattle.el_lines.specs.LineStates.{LineState}
use Rattle.el_lines.specs.declared.line_buffer.LineEvent as met
use Rattle.el_lines.specs.declared.line_buffer.LineEvent.TheVariants as event
use Rattle.el_replies.specs.RowBounds.{LineReads}
use Rattle.el_core.specs.State.{ClientState}
use Rattle.el_core.specs.within.Clients.{GivesEvent}

-- so many rows for what was met in its bytes: none for a line that is too long
abbrev pub EventReads : Chain → ℕ → met.LineEvent → ℕ → Type 0
EventReads chain buckets (event.Line bytes) n = LineReads chain buckets (line_says bytes) n
EventReads chain buckets (event.TooLong limit) n = n ≡ 0

-- so many rows for the line that is the client's next event, whose bytes were all kept
pub record NextReads (chain : Chain) (buckets : ℕ) (c : ClientState) (n : ℕ) : Type 0 where
  pub kept : c.lost ≡ false
  pub bytes : List ℕ
  pub next : LineState
  pub gives : GivesEvent c.buffer (line bytes) next
  pub reads : LineReads chain buckets (line_says bytes) n

-- so many rows for a turn of the client: none, or those of its next line
abbrev pub ClientReads : Chain → ℕ → ClientState → ℕ → Type 0
ClientReads chain buckets c n = (n ≡ 0) ⊎ NextReads chain buckets c n

-- so many rows for the next line of the client that speaks, where one does
pub record SpokenReads (chain : Chain) (buckets : ℕ) (speaker : Option ℕ) (clients : List ClientState)
    (n : ℕ) : Type 0 where
  pub client : ClientState
  pub place : ℕ
  pub speaks : speaker ≡ Some client.peer
  pub at : slice_get clients place ≡ Some client
  pub reads : NextReads chain buckets client n

-- so many rows for a turn of the client that speaks: none, or those of its next line
abbrev pub SpeakerReads : Chain → ℕ → Option ℕ → List ClientState → ℕ → Type 0
SpeakerReads chain buckets speaker clients n = (n ≡ 0) ⊎ SpokenReads chain buckets speaker clients n
