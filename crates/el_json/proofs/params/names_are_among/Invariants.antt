use Rattle.std.proofs.Common.{◌≡◌}
use Rattle.serde_json.specs.View.{members_view}
use Rattle.el_json.specs.Parameters.{all_among, texts_of}
use Rattle.el_json.proofs.params.names_are_among.Given as goal

abbrev pub invariant-loop-name : goal.invariant-loop-name
invariant-loop-name l =
    all_among (texts_of l.names) (members_view l.name-iterator) ≡ all_among (texts_of l.names) (members_view l.map.entries)
