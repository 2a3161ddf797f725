use Rattle.std.proofs.Common.{◌∙◌, sym, true≢false}
use Rattle.el_words.proofs.ProofLemmas.{branch_none}
use Rattle.el_words.proofs.proof_words.branch_of.Goals as goal

pub returns-in-None-clause-none : goal.returns-in-None-clause-none
returns-in-None-clause-none c = λ branch.
    branch_none c.args.text.now branch (λ is. true≢false (sym (c.is_dash.ensures.1 is) ∙ c.if-is_dash.false)) (rw c.in-None.is at c.in_ok-hashes.ensures.none)
