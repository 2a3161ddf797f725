use Rattle.std.proofs.Common.{arith}
use Rattle.el_server_tests.proofs.server.open.Goals as goal

pub returns-in_ok-take : goal.returns-in_ok-take
returns-in_ok-take c = record {
  numbers = c.in_ok-take.ensures.numbers c.args.last.now c.args.p
      (let above = c.if-p-last.true in omega arith) c.requires.numbers (omega arith);
}
