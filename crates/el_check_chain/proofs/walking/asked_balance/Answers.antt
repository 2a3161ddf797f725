use Rattle.std.proofs.Common.{List, ℕ, ap, ◌∙◌}
use Rattle.sha2.specs.Sha256.{sha256}
use Rattle.el_model.specs.Queries.{balance}
use Rattle.el_model.proofs.LedgerMoves.{asked_none}
use Rattle.el_check_chain.proofs.walking.asked_balance.Goals as goal

pub returns-in_err-script-clause-asked : goal.returns-in_err-script-clause-asked
returns-in_err-script-clause-asked g c = asked_none g.G.Ledger c.args.ledger.now

pub returns-clause-balance : goal.returns-clause-balance
returns-clause-balance g c = λ chain stood.
    c.in_ok-sum.ensures.balance chain stood ∙ ap (λ (h : List ℕ). balance chain h)
    (c.sha256-script_hash.ensures ∙ ap (λ (s : List ℕ). sha256 s) (c.as_slice.ensures ∙ c.in_ok-script.ensures))
