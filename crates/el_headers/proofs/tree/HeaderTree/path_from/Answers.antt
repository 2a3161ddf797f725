use Rattle.std.proofs.Common.{List, drop, ap, ◌∙◌, subst}
use Rattle.std.proofs.lemmas.Result.{IfOk-weaker}
use Rattle.std.specs.Result.{IfErr}
use Rattle.el_chain.specs.declared.node.Node.{Node}
use Rattle.el_headers.specs.Adding.{HasNoPath}
use Rattle.el_headers.proofs.OnePath.{one_path}
use Rattle.el_headers.proofs.tree.HeaderTree.path_from.Goals as goal

pub returns-clause-fault : goal.returns-clause-fault
returns-clause-fault c = subst (λ (found : List Node). IfErr c.path_in.result (HasNoPath found c.args.hash)) c.self.view_is c.path_in.ensures.fault

pub returns-clause-after : goal.returns-clause-after
returns-clause-after c = rw (← c.self.view_is) (λ path p.
    IfOk-weaker c.path_in.result _ _ (λ after a. a.2 ∙ ap (drop c.args.height) (one_path c.self.inside.table.nodes.items c.args.hash a.0 path c.self.invariant.found a.1 p)) c.path_in.ensures.path)
