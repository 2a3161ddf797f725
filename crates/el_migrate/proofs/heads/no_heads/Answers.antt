use Rattle.std.proofs.Common.{rules}
use Rattle.el_migrate.proofs.HeadLists.{none_in}
use Rattle.el_migrate.proofs.heads.no_heads.Goals as goal

pub returns-clause-none : goal.returns-clause-none
returns-clause-none c = none_in _ c.bucket_count.result (search rules) (search rules)
