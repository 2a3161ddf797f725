use Rattle.std.proofs.Common.{rules}
use Rattle.indexmap.proofs.CallerLemmas.{filter-RetainsPairs}
use Rattle.el_kept.proofs.taking.remove_empty.Goals as goal

pub returns-clause-filtered : goal.returns-clause-filtered
returns-clause-filtered c = filter-RetainsPairs _ _ _ (λ k v b w g call. search rules) _ _ c.retain.ensures.filtered
