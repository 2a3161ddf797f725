use Rattle.std.proofs.Common.{◌==◌, not, rules}
use Rattle.std.proofs.lemmas.Fn.{filter_same}
use Rattle.el_fakes.proofs.peers.remove.Goals as goal

-- the closure keeps each peer but `p`
pub returns-clause-without : goal.returns-clause-without
returns-clause-without c =
    filter_same _ (λ q. not (c.args.p == q)) _ (λ x b f k. search rules) _ _ c.retain.ensures.filtered
