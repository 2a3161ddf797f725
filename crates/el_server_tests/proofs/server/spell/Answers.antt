use Rattle.std.proofs.Common.{arith}
use Rattle.el_server_tests.proofs.server.spell.Goals as goal

pub returns : goal.returns
returns c = record {
  numbers = c.in_ok-take.ensures.numbers c.args.last c.args.last (omega arith) c.requires.numbers tt;
}
