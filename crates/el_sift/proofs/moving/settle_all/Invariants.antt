use Rattle.std.proofs.Common.{◌≡◌}
use Rattle.std.specs.Prelude.{map}
use Rattle.el_kept.specs.Tables.{undropped, HasEntries}
use Rattle.el_kept.specs.Listings.{AreListed}
use Rattle.el_sift.specs.within.Renewal.{settled}
use Rattle.el_sift.proofs.moving.settle_all.Given as goal

-- those that are left make the whole
abbrev pub invariant-loop-takes : goal.invariant-loop-takes
invariant-loop-takes l = record {
  table : HasEntries l.table (undropped l.table.kept.entries);
  listed : AreListed l.listings (undropped l.table.kept.entries);
  whole : map (settled l.takes-iterator.rest.items) (undropped l.table.kept.entries) ≡ map (settled l.fn.changed) (undropped l.initial.table.kept.entries);
}
