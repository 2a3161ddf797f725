use Rattle.std.proofs.Common.{◌≡◌, List}
use Rattle.el_chain.specs.Chains.{Chain}
use Rattle.el_tx.specs.declared.types.Tx.{Tx}
use Rattle.el_model.specs.LedgerCalls.{Asked}
use Rattle.el_kept.specs.Tables.{undropped}
use Rattle.el_kept.specs.Named.{IsTableOver}
use Rattle.std.specs.Prelude.{IfSome}
use Rattle.el_sift.specs.Untouched.{KeepsUntouched}
use Rattle.el_sift.specs.within.Renewal.{KnowsAll}
use Rattle.el_sift.proofs.Sifts.{AreLeft}
use Rattle.el_sift.proofs.moving.sift_all.Given as goal

-- what is left of all entries
abbrev pub invariant-loop-slot : goal.invariant-loop-slot
invariant-loop-slot g l =
    let d = g.G.Ledger in
    record {
      can_next : (goal.iterator-loop-slot g).can_next l.slot-iterator;
      is_finite : (goal.iterator-loop-slot g).is_finite l.slot-iterator;
      quiet : Asked d
          l.initial.ledger l.ledger;
      still : d.faults l.ledger ≡ d.faults l.initial.ledger;
      told : (chain : Chain) → KnowsAll chain l.confirmed (undropped l.table.kept.entries) → KnowsAll chain l.confirmed (undropped l.slot-iterator);
      left : (before chain : Chain) (all : List Tx) → IsTableOver l.table before all → KnowsAll chain l.confirmed (undropped l.table.kept.entries)
          → IfSome l.reach (λ r. KeepsUntouched before chain r.same r.touched.now) → d.stands l.initial.ledger chain
          → AreLeft before chain all l.found.gone l.found.changed l.found.fees l.found.touched (undropped l.slot-iterator);
    }
