use Rattle.std.proofs.Common.{take}
use Rattle.el_kept.specs.Tables.{undropped, without_txids, HasEntries}
use Rattle.el_kept.specs.Listings.{AreListed}
use Rattle.el_kept.proofs.taking.take_out_all.Given as goal

-- those before are taken out
abbrev pub invariant-loop-id : goal.invariant-loop-id
invariant-loop-id l = record {
  table : HasEntries l.table (without_txids (take l.id-index l.ids) (undropped l.initial.table.kept.entries));
  listed : AreListed l.listings (without_txids (take l.id-index l.ids) (undropped l.initial.table.kept.entries));
}
