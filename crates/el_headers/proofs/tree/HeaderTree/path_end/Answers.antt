use Rattle.std.proofs.Common.{List, subst}
use Rattle.std.proofs.lemmas.Result.{IfOk-weaker}
use Rattle.std.specs.Result.{IfErr}
use Rattle.el_chain.specs.declared.node.Node.{Node}
use Rattle.el_headers.specs.Adding.{HasNoPath, IsEndOf}
use Rattle.el_headers.proofs.OnePath.{one_path}
use Rattle.el_headers.proofs.tree.HeaderTree.path_end.Goals as goal

pub returns-clause-fault : goal.returns-clause-fault
returns-clause-fault c = subst (λ (found : List Node). IfErr c.path_end_in.result (HasNoPath found c.args.hash.now)) c.self.view_is c.path_end_in.ensures.fault

pub returns-clause-end : goal.returns-clause-end
returns-clause-end c = rw (← c.self.view_is) (λ path p.
    IfOk-weaker c.path_end_in.result _ _ (λ e a. subst (λ (xs : List Node). IsEndOf xs e.node e.height) (one_path c.self.inside.table.nodes.items c.args.hash.now a.0 path c.self.invariant.found a.1 p) a.2) c.path_end_in.ensures.end)
