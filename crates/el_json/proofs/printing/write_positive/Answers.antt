use Rattle.std.proofs.Common.{arith}
use Rattle.std.proofs.lemmas.Result.{on_ok_weaker}
use Rattle.el_json.proofs.Written.{of_unsigned}
use Rattle.el_json.proofs.printing.write_positive.Goals as goal

pub returns-clause-ok : goal.returns-clause-ok
returns-clause-ok c =
    on_ok_weaker c.u64.result (λ e. of_unsigned c.args.n _ _ (omega arith) e) c.u64.ensures.ok
