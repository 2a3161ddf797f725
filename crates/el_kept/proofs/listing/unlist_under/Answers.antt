use Rattle.std.specs.List.{list_any}
use Rattle.el_chain.specs.Headers.{same_hash}
use Rattle.el_kept.specs.Listings.{is_in, txid_of}
use Rattle.el_kept.proofs.Listed.{one_test}
use Rattle.el_kept.proofs.listing.unlist_under.Goals as goal

pub returns : goal.returns
returns c = λ l.
    one_test (list_any (same_hash l.script) c.args.scripts.now) (same_hash c.args.txid.now (txid_of l))
    (is_in c.args.listings.now l) (is_in c.remove_all.new.listings l) (c.remove_all.ensures l)
    (λ same. c.requires l same)
