use Rattle.std.proofs.Common.{◌≡◌, ◌≤◌, ◌+◌, List, Some}
use Rattle.std.specs.Prelude.{slice_get}
use Rattle.el_base.specs.declared.hash.Hash32.{Hash32}
use Rattle.el_chain.specs.declared.node.Node.{Node}
use Rattle.el_chain.specs.Headers.{IsPath}
use Rattle.el_headers.specs.Adding.{IsEndOf}
use Rattle.el_sync.proofs.comparing.last_of.Given as goal

abbrev pub invariant-loop-below : goal.invariant-loop-below
invariant-loop-below l = record {
  least : l.count ≤ l.end.height + 1 → l.count ≤ l.below + 1;
  node : (hash : Hash32) (path : List Node) → IsPath l.tree hash path → IsEndOf path l.end.node l.end.height → slice_get path l.below ≡ Some l.node;
}
