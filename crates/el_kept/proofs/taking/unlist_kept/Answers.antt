use Rattle.el_kept.specs.Tables.{undropped}
use Rattle.el_kept.proofs.Listed.{kept_found, kept_none, found_listings, found_out, listed_as}
use Rattle.el_kept.proofs.Cleared.{none_without}
use Rattle.el_kept.proofs.taking.unlist_kept.Goals as goal

pub unlist-requires : goal.unlist-requires
unlist-requires c = λ l same.
    found_listings c.args.listings.now (undropped c.args.table.now.kept.entries) c.args.id.now c.in-Some.entry.now
    c.requires.listed
    (kept_found c.args.table.now c.args.id.now c.kept_under.result c.in-Some.entry c.requires.table
    c.kept_under.ensures c.in-Some.is) l same

pub returns-in-Some : goal.returns-in-Some
returns-in-Some c =
    found_out c.args.listings.now c.unlist.new.listings (undropped c.args.table.now.kept.entries) c.args.id.now
    c.in-Some.entry.now c.requires.listed
    (kept_found c.args.table.now c.args.id.now c.kept_under.result c.in-Some.entry c.requires.table
    c.kept_under.ensures c.in-Some.is) (λ l. c.unlist.ensures l)

pub returns-in_default : goal.returns-in_default
returns-in_default c =
    listed_as c.args.listings.now (undropped c.args.table.now.kept.entries) _ c.requires.listed
    (none_without c.args.id.now (undropped c.args.table.now.kept.entries)
    (kept_none c.args.table.now c.args.id.now c.kept_under.result c.requires.table c.kept_under.ensures c.in_default.is))
