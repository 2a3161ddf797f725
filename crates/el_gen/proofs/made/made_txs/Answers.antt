use Rattle.std.proofs.Common.{rules}
use Rattle.el_gen.proofs.Branches.{made_first, made_above}
use Rattle.el_gen.proofs.made.made_txs.Goals as goal

pub returns-then-height-eq0-clause-are : goal.returns-then-height-eq0-clause-are
returns-then-height-eq0-clause-are c =
    rw (made_first c.args.before c.args.branch c.args.height c.if-height-eq0.true) (search rules)

pub returns-clause-are : goal.returns-clause-are
returns-clause-are c =
    rw (made_above c.args.before c.args.branch c.args.height c.if-height-eq0.false) (search rules)
