use Rattle.std.proofs.Common.{◌≡◌, ◌++◌}
use Rattle.std.specs.Prelude.{map}
use Rattle.el_kept.specs.Listings.{pool_entry, listings_under, entries_listed}
use Rattle.el_kept.proofs.telling.entries_at.Given as goal

-- those so far and those that are left
abbrev pub invariant-loop-listing : goal.invariant-loop-listing
invariant-loop-listing l = l.found.items ++ map pool_entry (entries_listed l.table l.listing-iterator)
    ≡ map pool_entry (entries_listed l.table (listings_under l.script l.listings))
