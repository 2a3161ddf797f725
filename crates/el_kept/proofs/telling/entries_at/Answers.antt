use Rattle.std.proofs.Common.{◌∙◌, List, refl}
use Rattle.std.specs.Prelude.{map}
use Rattle.el_kept.specs.declared.listing.Listing.{Listing}
use Rattle.el_kept.specs.Listings.{pool_entry, entries_listed}
use Rattle.el_kept.proofs.Told.{history_told, at_end}
use Rattle.el_kept.proofs.telling.entries_at.Goals as goal

pub returns : goal.returns
returns c = λ chain kept h.
    at_end (λ (ls : List Listing). map pool_entry (entries_listed c.args.table.now ls)) c.loop-listing.found.items
    c.loop-listing.listing-iterator _ c.in-None.ensures.steps.0 refl c.loop-listing.invariant
    ∙ history_told c.args.table.now c.args.listings.now chain kept c.args.script.now c.requires.table c.requires.listed h
    c.listed-listing-items.ensures.ordered
