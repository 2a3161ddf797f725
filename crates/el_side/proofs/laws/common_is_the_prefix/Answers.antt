use Rattle.el_side.proofs.Prefixes.{prefix_is}
use Rattle.el_side.proofs.laws.common_is_the_prefix.Goals as goal

pub returns : goal.returns
returns c = prefix_is
