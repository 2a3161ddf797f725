use Rattle.std.proofs.Common.{◌∙◌, ap, cond, true}
use Rattle.std.specs.Ordering.{is_eq}
use Rattle.el_kept.specs.declared.listing.Listing.{Listing}
use Rattle.el_kept.specs.Listings.{is_in, listing_cmp}
use Rattle.el_kept.proofs.Listed.{listed_is}
use Rattle.el_kept.proofs.listing.add.Goals as goal

pub returns-clause-ok : goal.returns-clause-ok
returns-clause-ok c = λ l.
    c.in_ok-insert.ensures.updates.0 l
    ∙ ap (λ b. cond b true (is_in c.args.listings.now l))
    (ap (λ (x : Listing). is_eq (listing_cmp x l)) c.listing_of.ensures ∙ listed_is c.args.script.now c.args.txid.now l)
