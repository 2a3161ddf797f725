use Rattle.std.proofs.Common.{sym, ◌∙◌}
use Rattle.el_chain.proofs.GivenChains.{one_chain}
use Rattle.el_chain.proofs.laws.file_gives_one_chain.Goals as goal

pub returns : goal.returns
returns c = λ magic file bytes a b p q. one_chain bytes a b (p.places ∙ sym q.places) p.bodies q.bodies
