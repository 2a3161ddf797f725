use Rattle.el_chain.proofs.TouchLemmas.{any_added}
use Rattle.el_sift.proofs.moving.leave.Goals as goal

pub returns-clause-gone : goal.returns-clause-gone
returns-clause-gone c = λ id. any_added id c.args.entry.now.txid c.args.gone.now c.add.new.self c.in_ok-add.ensures.ok
