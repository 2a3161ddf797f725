use Rattle.std.proofs.Common.{◌∙◌}
use Rattle.el_fees.proofs.Balance.{follows}
use Rattle.el_fees.proofs.table.FeeTable.follow.Goals as goal

pub returns : goal.returns
returns c = λ old new was same fit.
    follows old new c.args.changes.now c.self.inside.sizes c.follow_all.new.sizes (c.self.view_is ∙ was) same fit c.follow_all.array_long c.follow_all.ensures.small
    c.follow_all.ensures.balanced
