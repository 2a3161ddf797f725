use Rattle.std.proofs.Common.{◌≡◌, ◌&&◌, cond, false, take}
use Rattle.std.specs.List.{list_any}
use Rattle.el_chain.specs.Headers.{same_hash}
use Rattle.el_mempool.specs.Unconfirmed.{has_script}
use Rattle.el_kept.specs.declared.listing.Listing.{Listing}
use Rattle.el_kept.specs.Listings.{is_in, txid_of}
use Rattle.el_kept.proofs.listing.remove_outputs.Given as goal

-- it is listed under none of those before
abbrev pub invariant-loop-held : goal.invariant-loop-held
invariant-loop-held l = (x : Listing) → is_in l.listings x
    ≡ cond (list_any (has_script x.script.0) (take l.held-index l.outputs) && same_hash l.txid (txid_of x)) false (is_in l.initial.listings x)
