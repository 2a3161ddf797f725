-- How a link in memory takes what comes next from its list.
use Rattle.std.specs.Prelude.{◌≡◌, ℕ, ◌+◌, ◌-◌, ◌≤◌, nat_le, if◌then◌else◌, List, [], ◌∷◌, length, take, drop, min, IsTrue}
use Rattle.el_outside.specs.declared.link.Arrival.{Arrival}
use Rattle.el_outside.specs.declared.link.Arrival.TheVariants as arrival
use Rattle.el_outside.specs.declared.link.TheConstants.{BUFFER_SIZE}
use Rattle.el_fakes.specs.declared.coming.Coming.{Coming}
use Rattle.el_fakes.specs.declared.coming.Coming.TheVariants as step
use Rattle.el_outside.specs.Trace.{IsNextArrival, with_bytes, names}
use Rattle.el_fakes.specs.declared.kept.Closed.{Closed}
use Rattle.el_fakes.specs.declared.taking.Spot.{Spot}
use Rattle.el_fakes.specs.declared.taking.Taken.{Taken}
use Rattle.el_fakes.specs.within.Peers.{adds, greatest_after, closed_in}

-- the step without the bytes that were handed over
abbrev pub step_left : ℕ → Coming → Coming
step_left given (step.Opened p) = step.Opened p
step_left given (step.Bytes p bytes) = step.Bytes p (drop given bytes)
step_left given (step.Closed p) = step.Closed p
step_left given step.Quiet = step.Quiet

-- the steps, of which the first lacks the bytes that were handed over
abbrev pub steps_left : ℕ → List Coming → List Coming
steps_left given [] = []
steps_left given (c ∷ cs) = step_left given c ∷ cs

-- the steps that are still to come from the spot on
abbrev pub steps_from : Spot → List Coming → List Coming
steps_from spot steps = steps_left spot.given (drop spot.place steps)

-- What is taken at a place of the list or after it is lawful after the greatest number so far, and names no
-- peer that was closed. Each place opens one peer at most.
pub record MayBeHanded (taken : Taken) (place last : ℕ) (closed : List Closed) (buf : List ℕ) : Type 0 where
  pub forward : place + adds taken.arrival ≤ taken.spot.place
  pub lawful : IsNextArrival last taken.arrival (greatest_after last taken.arrival)
  pub silent : (p : ℕ) → IsTrue (names p (with_bytes taken.arrival buf)) → IsTrue (closed_in closed p) → ⊥

-- after a piece of the bytes: in the step while bytes are left, and else after the step
abbrev pub after_piece : List ℕ → Spot → Spot
after_piece bytes spot =
    if nat_le (length bytes - spot.given) BUFFER_SIZE then record { place = spot.place + 1; given = 0 }
    else record { place = spot.place; given = spot.given + BUFFER_SIZE }

-- The arrival is the next piece of a peer's bytes, as many as the buffer holds, and the link stands after it.
pub record IsPiece (p : ℕ) (bytes : List ℕ) (spot : Spot) (taken : Taken) (buf : List ℕ) : Type 0 where
  pub peer : taken.arrival ≡ arrival.Bytes p (min BUFFER_SIZE (length bytes - spot.given))
  pub text : take (min BUFFER_SIZE (length bytes - spot.given)) buf
      ≡ take (min BUFFER_SIZE (length bytes - spot.given)) (drop spot.given bytes)
  pub place : taken.spot ≡ after_piece bytes spot

-- the arrival of a whole step, after which the link then stands
abbrev pub taken_whole : Arrival → Spot → Taken
taken_whole a spot = record { arrival = a; spot = record { place = spot.place + 1; given = 0 } }

-- the step at the spot is handed over so
abbrev pub IsHanded : Coming → Spot → Taken → List ℕ → Type 0
IsHanded (step.Opened p) spot taken buf = taken ≡ taken_whole (arrival.Opened p) spot
IsHanded (step.Bytes p bytes) spot taken buf = IsPiece p bytes spot taken buf
IsHanded (step.Closed p) spot taken buf = taken ≡ taken_whole (arrival.Closed p) spot
IsHanded step.Quiet spot taken buf = taken ≡ taken_whole arrival.Quiet spot
