use Rattle.std.proofs.Common.{◌≡◌, ◌≤◌, ◌+◌, take, drop, length}
use Rattle.el_chain.specs.Chains.{Chain}
use Rattle.el_model.specs.LedgerCalls.{Asked}
use Rattle.el_levels.specs.Kept.{block_hashes}
use Rattle.el_levels.proofs.reading.hashes_from.Given as goal

abbrev pub invariant-loop-i : goal.invariant-loop-i
invariant-loop-i g l =
    let d = g.G.Ledger in
    record {
      quiet : Asked d l.initial.ledger l.ledger;
      hashes : (chain : Chain) → d.stands l.initial.ledger chain → l.hashes.items ≡ take l.i (drop l.first (block_hashes chain));
      len : length l.hashes.items ≡ l.i;
      rows : d.reads l.ledger ≤ d.reads l.initial.ledger + l.i;
      unfailed : d.faults l.ledger ≡ d.faults l.initial.ledger;
    }
