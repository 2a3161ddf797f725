-- The proof of a transaction by the tree of its block.
use Rattle.std.proofs.Common.{◌≡◌, ◌∙◌, ◌<◌, List, length, get_or, Some, sym, ap}
use Rattle.std.proofs.lemmas.Option.{slice_get-get_or}
use Rattle.el_base.specs.declared.hash.Hash32.{Hash32}
use Rattle.el_merkle.specs.Merkle.{branch_through}
use Rattle.el_levels.specs.declared.sought.Proof.{Proof}
use Rattle.el_levels.specs.Trees.{Grown, whole_tree}
use Rattle.el_levels.specs.Blocks.{Proves}
use Rattle.el_levels.proofs.GroupLemmas.{whole_branch}

-- what is read at a place of a whole tree
pub proves_at : (ids : List Hash32) (tree : Grown) (proof : Proof) (d : Hash32) → tree.leaves ≡ ids → tree ≡ whole_tree tree.leaves
    → proof.pos < length ids → proof.txid ≡ get_or ids proof.pos d
    → proof.branch.items ≡ branch_through tree.levels tree.leaves proof.pos → Proves proof ids
proves_at ids tree proof d same is within txid branch = record {
  txid = slice_get-get_or ids proof.pos d within ∙ ap Some (sym txid);
  branch =
      branch
      ∙ ap (λ (t : Grown). branch_through t.levels t.leaves proof.pos) (is ∙ ap whole_tree same)
      ∙ whole_branch ids proof.pos;
}
