use Rattle.std.proofs.Common.{[], None, ◌∙◌, ap, cond}
use Rattle.std.specs.List.{list_any}
use Rattle.el_chain.specs.Headers.{same_hash}
use Rattle.el_kept.specs.Tables.{undropped}
use Rattle.el_kept.specs.Listings.{is_in, txid_of}
use Rattle.el_kept.proofs.Listed.{own_listings, others_all, listed_in, taken_off, own_when}
use Rattle.el_kept.proofs.putting.put_listed.Goals as goal

pub list_under-requires : goal.list_under-requires
list_under-requires c = λ l same.
    own_listings c.args.listings.now (undropped c.args.table.now.kept.entries) None c.args.entry.txid c.requires.listed
    c.requires.new l same

pub unlist_under-requires : goal.unlist_under-requires
unlist_under-requires c = λ l same. own_when _ _ _ (c.in_ok-list_under.ensures.ok l) same

pub returns-in-Ok-clause-listed : goal.returns-in-Ok-clause-listed
returns-in-Ok-clause-listed c =
    listed_in c.args.listings.now c.list_under.new.listings (undropped c.args.table.now.kept.entries) [] c.args.entry
    (others_all c.args.listings.now c.args.entry.txid (undropped c.args.table.now.kept.entries) c.requires.listed)
    c.requires.new
    (λ l. c.in_ok-list_under.ensures.ok l
    ∙ ap (λ b. cond (same_hash c.args.entry.txid (txid_of l)) b (is_in c.args.listings.now l)) (c.requires.scripts l.script))

pub returns-in-Err-clause-as_before : goal.returns-in-Err-clause-as_before
returns-in-Err-clause-as_before c = λ l.
    taken_off (list_any (same_hash l.script) c.args.scripts.now) (same_hash c.args.entry.txid (txid_of l))
    (is_in c.args.listings.now l) (is_in c.list_under.new.listings l) (is_in c.unlist_under.new.listings l)
    (c.in_ok-list_under.ensures.ok l) (c.unlist_under.ensures l)
    (λ same. own_listings c.args.listings.now (undropped c.args.table.now.kept.entries) None c.args.entry.txid
    c.requires.listed c.requires.new l same)
    ∙ c.requires.listed l
