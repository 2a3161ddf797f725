use Rattle.std.proofs.Common.{◌≡◌, ◌≤◌, ◌-◌, ℕ, length}
use Rattle.std.specs.Map.{keys_of}
use Rattle.el_row_formats.specs.declared.table.Table.{Table}
use Rattle.el_row_formats.specs.Tables.{Tables}
use Rattle.el_rows.specs.Changes.{IsMadeFrom}
use Rattle.el_page_cache.specs.Pages.{Agrees}
use Rattle.el_pages.proofs.PageChanges.{AreLeft}
use Rattle.el_pages.proofs.caching.change_pages.Given as goal

abbrev pub invariant-loop-k : goal.invariant-loop-k
invariant-loop-k l = record {
  within : l.k ≤ length l.sealed.changes;
  same : keys_of l.cache ≡ keys_of l.fn.cache;
  left : (lists : Tables) (base : Table → ℕ) → IsMadeFrom base l.sealed.counts l.sealed.changes → Agrees l.fn.cache lists base → AreLeft lists l.sealed.counts l.sealed.changes l.k l.cache;
}

abbrev pub decreases-loop-k : goal.decreases-loop-k
decreases-loop-k l = length l.sealed.changes - l.k
