use Rattle.el_base.proofs.CompactLemmas.{encoded, only_encoding}
use Rattle.el_base.proofs.laws.compact_is_the_encoding.Goals as goal

pub returns : goal.returns
returns c = λ bytes n. (only_encoding bytes n, λ h. rw h.1 (encoded n h.0))
