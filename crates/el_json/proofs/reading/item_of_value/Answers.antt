use Rattle.std.proofs.Common.{subst, sym}
use Rattle.serde_json.specs.Data.{object}
use Rattle.serde_json.specs.View.{members_view}
use Rattle.el_json.specs.Lines.{HasPrintableId}
use Rattle.el_json.proofs.Printable.{printable_item}
use Rattle.el_json.proofs.reading.item_of_value.Goals as goal

pub returns-in-Object-clause-printable : goal.returns-in-Object-clause-printable
returns-in-Object-clause-printable c =
    subst HasPrintableId (sym c.item_in.ensures) (printable_item (object (members_view c.in-Object.map.entries)))
