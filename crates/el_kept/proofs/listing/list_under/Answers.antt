use Rattle.std.specs.List.{list_any}
use Rattle.el_chain.specs.Headers.{same_hash}
use Rattle.el_kept.specs.Listings.{is_in, txid_of}
use Rattle.el_kept.proofs.Listed.{one_added, taken_back}
use Rattle.el_kept.proofs.listing.list_under.Goals as goal

pub returns-in-Ok-clause-ok : goal.returns-in-Ok-clause-ok
returns-in-Ok-clause-ok c = λ l.
    one_added (list_any (same_hash l.script) c.args.scripts.now) (same_hash c.args.txid.now (txid_of l))
    (is_in c.args.listings.now l) (is_in c.add_all.new.listings l) (rw c.in-Ok.is at (c.add_all.ensures.ok l))
    (λ same. c.requires l same)

pub returns-in-Err-clause-err : goal.returns-in-Err-clause-err
returns-in-Err-clause-err c = λ l.
    taken_back (list_any (same_hash l.script) c.args.scripts.now) (same_hash c.args.txid.now (txid_of l))
    (is_in c.args.listings.now l) (is_in c.add_all.new.listings l) (is_in c.remove_all.new.listings l)
    (c.remove_all.ensures l) (λ none. c.add_all.ensures.others l none) (λ same. c.requires l same)
