use Rattle.std.proofs.Common.{arith, rules}
use Rattle.el_fakes.proofs.Growing.{reveals}
use Rattle.el_fakes.proofs.archive.MemArchiveArchive.files.Goals as goal

pub returns-then-is_failing-clause-keeps : goal.returns-then-is_failing-clause-keeps
returns-then-is_failing-clause-keeps c = reveals c.args.self.now c.fault.new.self (search rules) (search rules) (search (rules, arith))

pub returns-clause-keeps : goal.returns-clause-keeps
returns-clause-keeps c = reveals c.args.self.now c.is_failing.new.self (search rules) (search rules) (search (rules, arith))
