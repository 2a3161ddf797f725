use Rattle.std.proofs.Common.{◌∙◌, sym, true≢false}
use Rattle.el_words.proofs.ProofLemmas.{branch_none}
use Rattle.el_words.proofs.proof_words.shows_branch.Goals as goal

pub returns-else-is_dash-clause-none : goal.returns-else-is_dash-clause-none
returns-else-is_dash-clause-none c = λ no branch.
    branch_none c.args.text.now branch (λ is. true≢false (sym (c.is_dash.ensures.1 is) ∙ c.if-is_dash.false)) (c.shows_hashes.ensures.none no)
