use Rattle.std.proofs.Common.{◌<◌, Some, length, refl, sym, ap, ◌∙◌, subst}
use Rattle.std.proofs.lemmas.Option.{slice_get_read, slice_get_within}
use Rattle.el_base.specs.declared.hash.Hash32.{Hash32}
use Rattle.el_chain.specs.declared.node.Node.{Node}
use Rattle.el_chain.specs.Headers.{IsPath}
use Rattle.el_headers.proofs.Paths.{path_there, last_at}
use Rattle.el_headers.proofs.Places.{at_one}
use Rattle.el_headers.proofs.path.path_end_in.Goals as goal

pub returns-clause-end : goal.returns-clause-end
returns-clause-end c =
    let table = c.requires in
    let n = c.in_ok-number.ensures.place in
    let there = path_there c.args.table.now.nodes.items c.args.table.now.heights.items table.heights c.in_ok-number.number c.in_ok-number.height n.0 n.1 n.3 in
    let within : c.in_ok-number.number < length c.args.table.now.nodes.items = slice_get_within c.args.table.now.nodes.items c.in_ok-number.number n.0 n.1 in
    let here = slice_get_read c.args.table.now.nodes.items (length c.args.table.now.nodes.items) c.in_ok-number.number c.index.result.now refl within c.index.ensures in
    let one = at_one c.args.table.now.nodes.items c.in_ok-number.number n.0 c.index.result.now n.1 here in (
      there.0,
      subst (λ (h : Hash32). IsPath c.args.table.now.nodes.items h there.0) n.2 there.1,
      (last_at there.0 c.in_ok-number.height n.0 there.3 ∙ ap Some one, there.2),
    )

pub returns-clause-hash : goal.returns-clause-hash
returns-clause-hash c =
    let n = c.in_ok-number.ensures.place in
    let within : c.in_ok-number.number < length c.args.table.now.nodes.items = slice_get_within c.args.table.now.nodes.items c.in_ok-number.number n.0 n.1 in
    let here = slice_get_read c.args.table.now.nodes.items (length c.args.table.now.nodes.items) c.in_ok-number.number c.index.result.now refl within c.index.ensures in
    ap (λ (m : Node). m.hash) (sym (at_one c.args.table.now.nodes.items c.in_ok-number.number n.0 c.index.result.now n.1 here)) ∙ n.2
