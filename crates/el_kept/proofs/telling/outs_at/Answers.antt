use Rattle.std.proofs.Common.{◌∙◌, List, refl}
use Rattle.std.specs.List.{flat_map}
use Rattle.el_mempool.specs.declared.held.KeptTx.{KeptTx}
use Rattle.el_kept.specs.declared.listing.Listing.{Listing}
use Rattle.el_kept.specs.Listings.{outs_from, entries_listed}
use Rattle.el_kept.proofs.Told.{unspent_told, at_end}
use Rattle.el_kept.proofs.telling.outs_at.Goals as goal

pub returns : goal.returns
returns c = λ chain kept h.
    at_end (λ (ls : List Listing). flat_map (λ (k : KeptTx). outs_from c.args.table.now c.args.script.now k.txid 0 k.outputs)
    (entries_listed c.args.table.now ls)) c.loop-listing.found.items c.loop-listing.listing-iterator _
    c.in-None.ensures.steps.0 refl c.loop-listing.invariant
    ∙ unspent_told c.args.table.now c.args.listings.now chain kept c.args.script.now c.requires.table c.requires.listed h
    c.listed-listing-items.ensures.ordered
