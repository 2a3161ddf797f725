use Rattle.std.proofs.Common.{Some, ap, ◌∙◌, arith}
use Rattle.serde_json.specs.View.{view}
use Rattle.serde_json.proofs.Views.{get_item_within, get_item_past}
use Rattle.el_json.proofs.params.value_at.Goals as goal

pub returns-then-place-list : goal.returns-then-place-list
returns-then-place-list c =
    ap (λ v. Some (view v)) c.index-list-place.is
    ∙ get_item_within c.args.list.now c.args.place c.index-list-place.result (omega arith)

pub returns-else-place-list : goal.returns-else-place-list
returns-else-place-list c = get_item_past c.args.list.now c.args.place (omega arith)
