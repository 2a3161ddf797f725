use Rattle.std.proofs.Common.{◌≡◌, ◌++◌, map}
use Rattle.el_mempool.specs.declared.held.KeptTx.{KeptTx}
use Rattle.el_kept.specs.Tables.{undropped}
use Rattle.el_sift.proofs.confirming.txids_in.Given as goal

-- those so far and those of the rest are all
abbrev pub invariant-loop-slot : goal.invariant-loop-slot
invariant-loop-slot l = l.ids.items ++ map (λ (k : KeptTx). k.txid) (undropped l.slot-iterator) ≡ map (λ (k : KeptTx). k.txid) (undropped l.table.kept.entries)
