use Rattle.std.proofs.Common.{List, subst}
use Rattle.std.specs.Result.{IfOk}
use Rattle.el_chain.specs.declared.node.Node.{Node}
use Rattle.el_headers.specs.Adding.{Tells}
use Rattle.el_headers.proofs.tree.HeaderTree.add.Goals as goal

pub returns-clause-answer : goal.returns-clause-answer
returns-clause-answer c = subst (λ (found : List Node). IfOk c.add_new.result (Tells found c.args.node)) c.self.view_is c.add_new.ensures.answer
