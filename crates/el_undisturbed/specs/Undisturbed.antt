-- What is sent and closed where no call of a device fails.
use Rattle.std.specs.Prelude.{◌≢◌, List, ⊤}
use Rattle.std.specs.List.{AllByRecursion}
use Rattle.el_base.specs.declared.hash.Hash32.{Hash32}
use Rattle.el_outside.specs.Trace.{Message, Closing}
use Rattle.el_outside.specs.declared.link.Why.{Why}
use Rattle.el_outside.specs.declared.link.Why.TheVariants as why
use Rattle.el_lines.specs.NodeAnswers.{text_of}
use Rattle.el_lines.specs.declared.node_answer.NodeAnswer.TheVariants as say
use Rattle.el_lines.specs.declared.node_answer.NodeRefusal.{NodeRefusal}
use Rattle.el_lines.specs.declared.node_answer.NodeRefusal.TheVariants as refusal

-- a client is closed for what it did, since there are enough, or for want of memory, and for no device
abbrev pub IsDue : Why → Type 0
IsDue why.Gone = ⊥
IsDue why.Disk = ⊥
IsDue other = ⊤

-- the line that tells the node that its line or a move is refused for this
abbrev pub refused_line : NodeRefusal → Message
refused_line reason = record { peer = 0; text = text_of (say.Refused reason) }

-- the message tells the node neither that the block files failed nor that they have changed
pub record TellsNoFailure (m : Message) : Type 0 where
  pub archive : m ≢ refused_line refusal.Archive
  pub changed : (h : Hash32) → m ≢ refused_line (refusal.Changed h)

-- nothing is sent or closed for a device that failed
pub record Undisturbed (messages : List Message) (closings : List Closing) : Type 0 where
  pub sent : AllByRecursion TellsNoFailure messages
  pub closed : AllByRecursion (λ (c : Closing). IsDue c.why) closings
