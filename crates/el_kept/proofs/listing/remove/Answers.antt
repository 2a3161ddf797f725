use Rattle.std.proofs.Common.{◌∙◌, ap, cond, false}
use Rattle.std.specs.Ordering.{is_eq}
use Rattle.el_kept.specs.declared.listing.Listing.{Listing}
use Rattle.el_kept.specs.Listings.{is_in, listing_cmp}
use Rattle.el_kept.proofs.Listed.{listed_is}
use Rattle.el_kept.proofs.listing.remove.Goals as goal

pub returns : goal.returns
returns c = λ l.
    c.remove.ensures.updates.0 l
    ∙ ap (λ b. cond b false (is_in c.args.listings.now l))
    (ap (λ (x : Listing). is_eq (listing_cmp x l)) c.listing_of.ensures ∙ listed_is c.args.script.now c.args.txid.now l)
