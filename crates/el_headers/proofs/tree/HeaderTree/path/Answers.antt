use Rattle.std.proofs.Common.{List, subst}
use Rattle.std.specs.Result.{IfErr}
use Rattle.el_chain.specs.declared.node.Node.{Node}
use Rattle.el_headers.specs.Adding.{HasNoPath}
use Rattle.el_headers.proofs.tree.HeaderTree.path.Goals as goal

pub returns-clause-fault : goal.returns-clause-fault
returns-clause-fault c = subst (λ (found : List Node). IfErr c.path_in.result (HasNoPath found c.args.hash)) c.self.view_is c.path_in.ensures.fault
