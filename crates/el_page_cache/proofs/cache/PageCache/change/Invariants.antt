use Rattle.std.proofs.Common.{◌-◌, ◌≡◌, ◌≤◌}
use Rattle.std.specs.Map.{keys_of}
use Rattle.el_page_cache.specs.Pages.{ArePagesWritten}
use Rattle.el_page_cache.proofs.cache.PageCache.change.Given as goal

abbrev pub invariant-loop-done : goal.invariant-loop-done
invariant-loop-done l = record {
  within : l.done ≤ l.rows;
  same : keys_of l.self ≡ keys_of l.fn.self;
  written : ArePagesWritten l.fn.self l.self l.t l.first l.done l.bytes;
}

abbrev pub decreases-loop-done : goal.decreases-loop-done
decreases-loop-done l = l.rows - l.done
