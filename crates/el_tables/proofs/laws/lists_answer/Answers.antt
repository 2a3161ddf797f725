use Rattle.el_tables.proofs.Answering.{coin_answers, balances}
use Rattle.el_chain.specs.History.{positions}
use Rattle.el_tables.proofs.Spenders.{states_agree}
use Rattle.el_tables.proofs.SpentBy.{spender_answers}
use Rattle.el_tables.proofs.Unspents.{unspent_answers}
use Rattle.el_tables.proofs.laws.lists_answer.Goals as goal

pub returns : goal.returns
returns c = record { coin = coin_answers; unspent = unspent_answers; balance = balances; state = λ chain o. states_agree (positions chain) o; spender = spender_answers }
