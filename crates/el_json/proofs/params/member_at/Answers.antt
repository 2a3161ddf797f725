use Rattle.std.proofs.Common.{option_map, ap, ◌∙◌}
use Rattle.serde_json.specs.View.{view}
use Rattle.serde_json.proofs.Views.{view-lookup}
use Rattle.el_json.proofs.params.member_at.Goals as goal

pub returns-in-Some : goal.returns-in-Some
returns-in-Some c =
    ap (option_map view) c.in-Some.ensures.value ∙ view-lookup c.args.name.now c.args.map.now.entries

pub returns-in-None : goal.returns-in-None
returns-in-None c =
    ap (option_map view) c.in-None.ensures.value ∙ view-lookup c.args.name.now c.args.map.now.entries
