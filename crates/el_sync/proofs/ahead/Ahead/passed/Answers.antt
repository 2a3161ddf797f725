use Rattle.std.proofs.Common.{arith}
use Rattle.el_chain.specs.Moves.{max_forward}
use Rattle.el_sync.proofs.Lists.{passed_over}
use Rattle.el_sync.proofs.ahead.Ahead.passed.Goals as goal

pub returns : goal.returns
returns c = rw (← c.self.view_is) (passed_over c.self.inside.path.items c.self.inside.from c.min.result max_forward c.self.invariant
    (let l = c.len.ensures in let m = c.min.ensures in omega arith))
