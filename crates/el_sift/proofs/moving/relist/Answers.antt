use Rattle.std.proofs.Common.{ap, sym, ◌∙◌}
use Rattle.std.proofs.lemmas.Bool.{true≢false}
use Rattle.std.specs.Prelude.{option_copied}
use Rattle.el_kept.specs.Tables.{undropped, is_of}
use Rattle.el_kept.proofs.Listed.{kept_found, found_listings}
use Rattle.el_sift.proofs.Relisted.{relisted_ok}
use Rattle.el_sift.proofs.moving.relist.Goals as goal

pub list_again-requires : goal.list_again-requires
list_again-requires c = λ l same.
    found_listings c.args.listings.now (undropped c.args.table.now.kept.entries) c.args.takes.now.txid c.in-Some.entry.now c.requires.listed
    (kept_found c.args.table.now c.args.takes.now.txid c.kept_under.result c.in-Some.entry c.requires.table c.kept_under.ensures c.in-Some.is) l same

pub returns-in-Some : goal.returns-in-Some
returns-in-Some c =
    relisted_ok c.list_again.result c.args.listings.now c.list_again.new.listings (undropped c.args.table.now.kept.entries) c.args.takes.now c.in-Some.entry.now c.requires.listed
    (kept_found c.args.table.now c.args.takes.now.txid c.kept_under.result c.in-Some.entry c.requires.table c.kept_under.ensures c.in-Some.is)
    (sym (ap (is_of c.args.takes.now) (sym c.kept_under.ensures ∙ ap option_copied c.in-Some.is)) ∙ c.requires.of)
    (λ l. rw c.as_slice.ensures at (c.list_again.ensures l))

pub returns-in-None : goal.returns-in-None
returns-in-None c =
    absurd (true≢false (sym c.requires.of ∙ ap (is_of c.args.takes.now) (sym c.kept_under.ensures ∙ ap option_copied c.in-None.is)))
