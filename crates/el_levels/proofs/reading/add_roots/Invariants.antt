use Rattle.std.proofs.Common.{◌≡◌, ◌≤◌, ◌+◌, ◌*◌, take, length}
use Rattle.el_chain.specs.Chains.{Chain}
use Rattle.el_model.specs.LedgerCalls.{Asked}
use Rattle.el_levels.specs.Groups.{group_roots}
use Rattle.el_levels.specs.Kept.{block_hashes}
use Rattle.el_levels.proofs.reading.add_roots.Given as goal

abbrev pub invariant-loop-number : goal.invariant-loop-number
invariant-loop-number g l =
    let d = g.G.Ledger in
    record {
      quiet : Asked d l.initial.ledger l.ledger;
      few : l.number ≤ l.count;
      len : length l.roots.items ≡ l.number;
      roots : (chain : Chain) → d.stands l.initial.ledger chain → l.fn.roots.items ≡ take (length l.fn.roots.items) (group_roots (block_hashes chain))
          → l.roots.items ≡ take l.number (group_roots (block_hashes chain));
      rows : d.reads l.ledger + 2048 * length l.fn.roots.items ≤ d.reads l.initial.ledger + 2048 * l.number;
      unfailed : d.faults l.ledger ≡ d.faults l.initial.ledger;
    }
