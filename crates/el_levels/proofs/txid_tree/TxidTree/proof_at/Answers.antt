use Rattle.std.proofs.Common.{◌≡◌, ◌∙◌, [], List, ap}
use Rattle.std.specs.Prelude.{slice_index_or}
use Rattle.el_base.specs.declared.hash.Hash32.{Hash32}
use Rattle.el_levels.specs.Blocks.{BlockTxids}
use Rattle.el_levels.proofs.BlockLemmas.{proves_at}
use Rattle.el_levels.proofs.txid_tree.TxidTree.proof_at.Goals as goal

pub returns-clause-proves : goal.returns-clause-proves
returns-clause-proves c =
    let same : c.self.inside.tree.leaves ≡ c.args.self.now.txids = ap (λ (b : BlockTxids). b.txids) c.self.view_is in
    proves_at c.args.self.now.txids c.self.inside.tree _ (record { 0 = [] }) same c.self.invariant c.requires
    (ap (λ (l : List Hash32). slice_index_or l c.args.pos (record { 0 = [] })) (c.leaves.ensures ∙ same)) c.in_ok-branch.ensures
