use Rattle.std.proofs.Common.{◌≡◌, ◌&&◌, cond, false, take}
use Rattle.std.specs.List.{list_any}
use Rattle.el_chain.specs.Headers.{same_hash}
use Rattle.el_mempool.specs.Standing.{is_coin_at}
use Rattle.el_kept.specs.declared.listing.Listing.{Listing}
use Rattle.el_kept.specs.Listings.{is_in, txid_of}
use Rattle.el_kept.proofs.listing.remove_inputs.Given as goal

-- it is listed under none of those before
abbrev pub invariant-loop-source : goal.invariant-loop-source
invariant-loop-source l = (x : Listing) → is_in l.listings x
    ≡ cond (list_any (is_coin_at x.script.0) (take l.source-index l.inputs) && same_hash l.txid (txid_of x)) false (is_in l.initial.listings x)
