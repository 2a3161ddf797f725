use Rattle.std.proofs.Common.{subst, arith}
use Rattle.std.proofs.lemmas.Result.{err_from_is_err_and}
use Rattle.el_base.specs.declared.hash.Hash32.{Hash32}
use Rattle.el_chain.specs.Headers.{IsPath}
use Rattle.el_chain.specs.Records.{IsNode}
use Rattle.el_headers.proofs.Paths.{path_there, path_nodes, all_drop, drop_past}
use Rattle.el_headers.proofs.path.path_in.Goals as goal

pub returns-then-first-height-clause-path : goal.returns-then-first-height-clause-path
returns-then-first-height-clause-path c =
    let table = c.requires in
    let n = c.in_ok-number.ensures.place in
    let there = path_there c.args.table.now.nodes.items c.args.table.now.heights.items table.heights c.in_ok-number.number c.in_ok-number.height n.0 n.1 n.3 in
    let none = c.new.ensures.items in (
      there.0,
      subst (λ (h : Hash32). IsPath c.args.table.now.nodes.items h there.0) n.2 there.1,
      rw none (drop_past c.args.first there.0 (let long = there.2 in let lt = c.if-first-height.true in omega arith)),
    )

pub returns-in_err-path-clause-fault : goal.returns-in_err-path-clause-fault
returns-in_err-path-clause-fault c =
    let table = c.requires in
    let n = c.in_ok-number.ensures.place in
    let there = path_there c.args.table.now.nodes.items c.args.table.now.heights.items table.heights c.in_ok-number.number c.in_ok-number.height n.0 n.1 n.3 in
    let p = err_from_is_err_and c.from_residual-in_err-path.result c.from_residual-in_err-path.ensures.1 in
    rw (p.1, p.2) (there.0, subst (λ (h : Hash32). IsPath c.args.table.now.nodes.items h there.0) n.2 there.1)

pub returns-clause-nodes : goal.returns-clause-nodes
returns-clause-nodes c =
    let n = c.in_ok-number.ensures.place in
    let p = c.in_ok-path.ensures.path n.0 n.1 in
    rw p.3 (all_drop IsNode c.args.first p.0 (path_nodes IsNode c.args.table.now.nodes.items n.0.hash p.0 c.requires.found.nodes p.1))
