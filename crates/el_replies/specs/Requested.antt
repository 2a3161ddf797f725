-- What a call is answered over a side: what is defined, or that a device failed, which its count tells.
use Rattle.std.specs.Prelude.{◌≡◌, ℕ, Option, None, Some, Result, Ok, Err, MatchResult}
use Rattle.serde_json.specs.Data.{Data}
use Rattle.el_side.specs.Side.{Side}
use Rattle.el_methods.specs.Outcomes.{IsCounted}
use Rattle.el_methods.specs.Replied.{IsGiven}
use Rattle.el_calls.specs.declared.call.Call.{Call}
use Rattle.el_calls.specs.declared.refusal.Refusal.{Refusal}
use Rattle.el_calls.specs.declared.refusal.Refusal.TheVariants as refusal
use Rattle.el_sessions.specs.declared.session.Session.{Session}
use Rattle.el_methods.specs.declared.stop.Stop.{Stop}
use Rattle.el_methods.specs.declared.stop.Stop.TheVariants as stop

-- what the client is told of a call; nothing where memory ran out
abbrev pub told_of : Result Data Stop → Option (Result Data Refusal)
told_of (Ok answer) = Some (Ok answer)
told_of (Err (stop.Refused r)) = Some (Err r)
told_of (Err stop.Disk) = Some (Err refusal.DiskFailed)
told_of (Err stop.Archive) = Some (Err refusal.ArchiveFailed)
told_of (Err stop.Changed) = Some (Err refusal.ArchiveChanged)
told_of (Err stop.Memory) = None

-- The call is answered so over the side, to a client with that session then, which is told so; nothing where
-- memory ran out. `disk` and `archive` say by how much the counts of the two devices rose.
pub record IsAnswered {E : Type 0} (tells : Type 0) (side : Side) (c : Call) (s t : Session)
    (disk archive : ℕ → Type 0) (told : Result (Result Data Refusal) E) : Type 0 where
  pub given : Result Data Stop
  pub is_given : IsGiven tells side c s t given
  pub counted : IsCounted disk archive given
  pub told_is : MatchResult told (λ answer. told_of given ≡ Some answer) (λ e. told_of given ≡ None)
