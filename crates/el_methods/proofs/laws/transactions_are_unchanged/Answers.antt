use Rattle.el_methods.proofs.Unchanged.{unchanged}
use Rattle.el_methods.proofs.laws.transactions_are_unchanged.Goals as goal

pub returns : goal.returns
returns c = unchanged
