use Rattle.std.proofs.Common.{◌<◌, length, refl, sym, ap, ◌∙◌, arith}
use Rattle.std.specs.Option.{is_some}
use Rattle.std.proofs.lemmas.Option.{slice_get_read, slice_get_within}
use Rattle.el_chain.specs.declared.node.Node.{Node}
use Rattle.el_chain.specs.Headers.{has_hash}
use Rattle.el_headers.proofs.Growing.{parent_at}
use Rattle.el_headers.proofs.Paths.{member_at}
use Rattle.el_headers.proofs.Places.{at_one}
use Rattle.el_headers.proofs.Putting.{any_greatest}
use Rattle.el_headers.proofs.path.parent_in.Goals as goal

pub returns-in_default-clause-none : goal.returns-in_default-clause-none
returns-in_default-clause-none c =
    sym (any_greatest (has_hash c.args.node.now.header.previous) c.args.table.now.nodes.items)
    ∙ ap is_some (sym (c.requires.numbers c.args.node.now.header.previous) ∙ sym c.number_of.ensures ∙ c.in_default.is)

pub index-requires : goal.index-requires
index-requires c =
    let is = sym (c.requires.numbers c.args.node.now.header.previous) ∙ sym c.number_of.ensures ∙ c.in-Some.is in
    let n = parent_at c.args.table.now.nodes.items c.args.node.now.header.previous c.in-Some.number is in
    let lt = slice_get_within c.args.table.now.nodes.items c.in-Some.number n.0 n.1 in
    let long = c.args.table.now.nodes.ok.0 in
    omega arith

pub returns-clause-some : goal.returns-clause-some
returns-clause-some c =
    let is = sym (c.requires.numbers c.args.node.now.header.previous) ∙ sym c.number_of.ensures ∙ c.in-Some.is in
    let n = parent_at c.args.table.now.nodes.items c.args.node.now.header.previous c.in-Some.number is in
    let within : c.in-Some.number < length c.args.table.now.nodes.items = slice_get_within c.args.table.now.nodes.items c.in-Some.number n.0 n.1 in
    let here = slice_get_read c.args.table.now.nodes.items (length c.args.table.now.nodes.items) c.in-Some.number c.index.result.now refl within c.index.ensures in
    let one = at_one c.args.table.now.nodes.items c.in-Some.number n.0 c.index.result.now n.1 here in
    (member_at c.args.table.now.nodes.items c.in-Some.number c.index.result.now here, ap (λ (m : Node). m.hash) (sym one) ∙ n.2)
