use Rattle.el_mempool.proofs.Departures.{stands_sifted}
use Rattle.el_mempool.proofs.laws.what_is_kept_stands.Goals as goal

pub returns : goal.returns
returns c = λ chain list once. stands_sifted chain list once
