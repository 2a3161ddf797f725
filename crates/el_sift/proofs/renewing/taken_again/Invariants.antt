use Rattle.std.proofs.Common.{◌≡◌, List}
use Rattle.std.specs.List.{list_any}
use Rattle.std.specs.Option.{is_some}
use Rattle.el_chain.specs.Chains.{Chain}
use Rattle.el_tx.specs.declared.types.Tx.{Tx}
use Rattle.el_mempool.specs.declared.held.Source.{Source}
use Rattle.el_mempool.specs.Sift.{output_among}
use Rattle.el_model.specs.LedgerCalls.{Asked}
use Rattle.el_sift.specs.within.Renewal.{output_left, AreSeen}
use Rattle.el_sift.proofs.Renewed.{SoFar}
use Rattle.el_sift.proofs.renewing.taken_again.Given as goal

-- what the inputs so far take
abbrev pub invariant-loop-input : goal.invariant-loop-input
invariant-loop-input g l =
    let d = g.G.Ledger in
    record {
      quiet : Asked d
          l.initial.ledger l.ledger;
      still : d.faults l.ledger ≡ d.faults l.initial.ledger;
      any : (chain : Chain) (kept : List Tx) → AreSeen (output_left l.table l.gone l.any) chain kept l.inputs → d.stands l.initial.ledger chain
          → l.any_kept ≡ list_any (λ (s : Source). is_some (output_among s.from kept)) l.sources.items;
      so_far : (chain : Chain) (kept : List Tx) → AreSeen (output_left l.table l.gone l.any) chain kept l.inputs → d.stands l.initial.ledger chain
          → SoFar chain kept l.inputs l.input-index l.sources.items;
    }
