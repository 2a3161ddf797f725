use Rattle.std.proofs.Common.{◌≡◌, List}
use Rattle.std.specs.List.{list_any}
use Rattle.el_chain.specs.Chains.{Chain}
use Rattle.el_tx.specs.declared.types.Tx.{Tx}
use Rattle.el_model.specs.LedgerCalls.{Asked}
use Rattle.el_kept.specs.Named.{IsTableOver}
use Rattle.el_join.specs.within.Tables.{is_output_at}
use Rattle.el_join.proofs.Asked.{SoFar}
use Rattle.el_join.proofs.asking.sources_of.Given as goal

-- what the inputs so far take
abbrev pub invariant-loop-input : goal.invariant-loop-input
invariant-loop-input g l =
    let d = g.G.Ledger in
    record {
      quiet : Asked d
          l.initial.ledger l.ledger;
      still : d.faults l.ledger ≡ d.faults l.initial.ledger;
      any : l.any_kept ≡ list_any (is_output_at l.table) l.sources.items;
      so_far : (chain : Chain) (kept : List Tx) → IsTableOver l.table chain kept → d.stands l.initial.ledger chain
          → SoFar chain kept l.inputs l.input-index l.sources.items;
    }
