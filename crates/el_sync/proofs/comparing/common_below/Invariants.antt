use Rattle.std.proofs.Common.{◌≡◌, ◌≤◌, ◌+◌, List}
use Rattle.el_base.specs.declared.hash.Hash32.{Hash32}
use Rattle.el_chain.specs.declared.node.Node.{Node}
use Rattle.el_chain.specs.Chains.{Chain}
use Rattle.el_chain.specs.Headers.{IsPath}
use Rattle.el_model.specs.LedgerCalls.{Asked}
use Rattle.el_sync.specs.within.Below.{IsBelow}
use Rattle.el_sync.proofs.comparing.common_below.Given as goal

abbrev pub invariant-loop-height : goal.invariant-loop-height
invariant-loop-height g l =
    let d = g.G.Ledger in
    record {
      asked : Asked d l.initial.ledger l.ledger;
      disk_count : d.faults l.ledger ≡ d.faults l.initial.ledger;
      rows : d.reads l.ledger + l.height ≤ d.reads l.initial.ledger + l.count;
      below : (hash : Hash32) (path : List Node) (chain : Chain) → IsPath l.tree hash path → d.stands l.initial.ledger chain → IsBelow chain path l.count l.fn.last → IsBelow chain path l.height l.at;
    }
