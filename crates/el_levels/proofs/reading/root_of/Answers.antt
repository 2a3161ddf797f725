use Rattle.std.proofs.Common.{◌∙◌, ap}
use Rattle.el_merkle.specs.Merkle.{root}
use Rattle.el_levels.specs.Kept.{block_hashes}
use Rattle.el_levels.proofs.GroupLemmas.{group_read}
use Rattle.el_levels.proofs.reading.root_of.Goals as goal

pub returns-clause-root : goal.returns-clause-root
returns-clause-root g c = λ chain stands.
    c.in_ok-hash.ensures
    ∙ ap root (c.as_slice.ensures.value ∙ c.in_ok-list.ensures.hashes chain stands ∙ group_read (block_hashes chain) c.args.number)
