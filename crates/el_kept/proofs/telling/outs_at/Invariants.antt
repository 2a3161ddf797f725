use Rattle.std.proofs.Common.{◌≡◌, ◌++◌}
use Rattle.std.specs.List.{flat_map}
use Rattle.el_mempool.specs.declared.held.KeptTx.{KeptTx}
use Rattle.el_kept.specs.Listings.{outs_from, listings_under, entries_listed}
use Rattle.el_kept.proofs.telling.outs_at.Given as goal

-- those so far and those that are left
abbrev pub invariant-loop-listing : goal.invariant-loop-listing
invariant-loop-listing l =
    l.found.items ++ flat_map (λ (k : KeptTx). outs_from l.table l.script k.txid 0 k.outputs) (entries_listed l.table l.listing-iterator)
    ≡ flat_map (λ (k : KeptTx). outs_from l.table l.script k.txid 0 k.outputs) (entries_listed l.table (listings_under l.script l.listings))
