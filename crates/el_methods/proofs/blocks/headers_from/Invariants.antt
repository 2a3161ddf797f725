use Rattle.std.proofs.Common.{◌≡◌, ◌≤◌, ◌+◌}
use Rattle.el_chain.specs.Chains.{Chain}
use Rattle.el_model.specs.LedgerCalls.{Asked}
use Rattle.el_methods.specs.Results.{headers_bytes}
use Rattle.el_methods.proofs.blocks.headers_from.Given as goal

abbrev pub invariant-loop-i : goal.invariant-loop-i
invariant-loop-i g l =
    let d = g.G.Ledger in
    record {
      quiet : Asked d l.initial.ledger l.ledger;
      bytes : (chain : Chain) → d.stands l.initial.ledger chain → l.bytes.items ≡ headers_bytes chain l.start l.i;
      rows : d.reads l.ledger ≤ d.reads l.initial.ledger + l.i;
      unfailed : d.faults l.ledger ≡ d.faults l.initial.ledger;
    }
