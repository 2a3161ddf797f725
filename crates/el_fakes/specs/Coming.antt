-- What comes over a link in memory.
use Rattle.std.specs.Prelude.{ℕ, ◌||◌, nat_le, nat_lt, Bool, false, if◌then◌else◌, List, [], ◌∷◌, length, take, drop}
use Rattle.el_outside.specs.Trace.{ArrivalWithBytes, opened, brought, closed, quiet, ended, Trace, was_closed}
use Rattle.el_outside.specs.declared.link.TheConstants.{BUFFER_SIZE}
use Rattle.el_fakes.specs.declared.coming.Coming.{Coming}
use Rattle.el_fakes.specs.declared.coming.Coming.TheVariants as step
use Rattle.el_fakes.specs.Greatest.{greatest_peer}

-- A link whose calls never fail: what went over it, the steps that are still to come, and how often `next`
-- was called.
pub record SteadyState : Type 0 where
  pub trace : Trace
  pub coming : List Coming
  pub calls : ℕ

-- A link some of whose calls fail: also the numbers of the calls of `next` and of `send` that fail, how often
-- `send` was called, and how many calls failed.
pub record LinkState : Type 0 where
  pub trace : Trace
  pub coming : List Coming
  pub next_failing : List ℕ
  pub send_failing : List ℕ
  pub calls : ℕ
  pub sends : ℕ
  pub faults : ℕ

-- No link may hand the step over: a new peer whose number isn't greater than the last, no bytes, and what a
-- peer does that was closed.
abbrev pub is_unlawful : ℕ → (ℕ → Bool) → Coming → Bool
is_unlawful last is_closed (step.Opened p) = nat_le p last
is_unlawful last is_closed (step.Bytes p bytes) = nat_le (length bytes) 0 || is_closed p
is_unlawful last is_closed (step.Closed p) = is_closed p
is_unlawful last is_closed step.Quiet = false

-- an arrival, and the steps that are still to come after it
pub record Handed : Type 0 where
  pub arrival : ArrivalWithBytes
  pub coming : List Coming

-- bytes of a peer come in pieces as long as the buffer, of which the last may be shorter
abbrev pub bytes_left : ℕ → List ℕ → List Coming → List Coming
bytes_left p bytes rest =
    if nat_lt BUFFER_SIZE (length bytes) then step.Bytes p (drop BUFFER_SIZE bytes) ∷ rest else rest

-- the step is handed over, where these come after it
abbrev pub hand : Coming → List Coming → Handed
hand (step.Opened p) rest = record { arrival = opened p; coming = rest }
hand (step.Bytes p bytes) rest = record {
  arrival = brought p (take BUFFER_SIZE bytes);
  coming = bytes_left p bytes rest;
}
hand (step.Closed p) rest = record { arrival = closed p; coming = rest }
hand step.Quiet rest = record { arrival = quiet; coming = rest }

-- The first step that may be handed over is, and those before it are passed over; where there is none, it is
-- the end.
abbrev pub hand_first : ℕ → (ℕ → Bool) → List Coming → Handed
hand_first last is_closed [] = record { arrival = ended; coming = [] }
hand_first last is_closed (c ∷ cs) =
    if is_unlawful last is_closed c then hand_first last is_closed cs else hand c cs

-- what comes next after a trace
abbrev pub next_after : Trace → List Coming → Handed
next_after trace coming = hand_first (greatest_peer trace) (was_closed trace) coming
