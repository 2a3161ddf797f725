use Rattle.el_mempool.specs.Sift.{may_join}
use Rattle.el_mempool.proofs.Sifting.{kept_again}
use Rattle.el_mempool.proofs.laws.what_is_kept_stays.Goals as goal

pub returns : goal.returns
returns c = λ chain list. kept_again (may_join chain) list
