use Rattle.std.proofs.Common.{◌<◌, ◌∙◌, length, refl, sym, arith, subst}
use Rattle.std.specs.Option.{IsSome}
use Rattle.std.proofs.lemmas.Option.{slice_get_read, slice_get_within}
use Rattle.el_headers.proofs.Growing.{parent_number, is_parent}
use Rattle.el_headers.proofs.path.parent_of.Goals as goal

pub unwrap-requires : goal.unwrap-requires
unwrap-requires c =
    let table = c.requires.table in
    let above = c.requires.above in
    let lt = slice_get_within c.args.table.now.heights.items c.args.number _ above.1 in
    let count = table.heights.count in
    let within : c.args.number < length c.args.table.now.nodes.items = omega arith in
    let at = slice_get_read c.args.table.now.nodes.items (length c.args.table.now.nodes.items) c.args.number c.index.result.now refl within c.index.ensures in
    let g = parent_number c.args.table.now.nodes.items c.args.table.now.heights.items table.heights c.args.number above.0 c.index.result.now at above.1 in
    subst IsSome (sym (c.number_of.ensures ∙ table.numbers c.index.result.now.header.previous ∙ g.1)) refl

pub returns : goal.returns
returns c =
    let table = c.requires.table in
    let above = c.requires.above in
    let lt = slice_get_within c.args.table.now.heights.items c.args.number _ above.1 in
    let count = table.heights.count in
    let within : c.args.number < length c.args.table.now.nodes.items = omega arith in
    let at = slice_get_read c.args.table.now.nodes.items (length c.args.table.now.nodes.items) c.args.number c.index.result.now refl within c.index.ensures in
    is_parent c.args.table.now.nodes.items c.args.table.now.heights.items table.heights table.found.differ c.args.number above.0 c.unwrap.result c.index.result.now at above.1
    (sym (table.numbers c.index.result.now.header.previous) ∙ sym c.number_of.ensures ∙ c.unwrap.ensures)
