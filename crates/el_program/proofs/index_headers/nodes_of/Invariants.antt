use Rattle.std.proofs.Common.{◌≡◌, ◌≤◌, ◌+◌, ◌*◌, take}
use Rattle.std.specs.List.{AllByRecursion}
use Rattle.el_chain.specs.Chains.{Chain}
use Rattle.el_chain.specs.Records.{IsNode}
use Rattle.el_model.specs.LedgerCalls.{Asked}
use Rattle.el_program.specs.Opened.{nodes_of_chain}
use Rattle.el_program.proofs.index_headers.nodes_of.Given as goal

-- the nodes so far
abbrev pub invariant-loop-h : goal.invariant-loop-h
invariant-loop-h g l =
    let d = g.G.Ledger in
    record {
      quiet : Asked d l.initial.ledger l.ledger;
      still : d.faults l.ledger ≡ d.faults l.initial.ledger;
      nodes : AllByRecursion IsNode l.nodes.items;
      so_far : (chain : Chain) → d.stands l.initial.ledger chain
          → l.nodes.items ≡ take l.h (nodes_of_chain chain);
      rows : d.reads l.ledger ≤ d.reads l.initial.ledger + 2 * l.h;
    }
