use Rattle.std.proofs.Common.{◌∙◌, ap}
use Rattle.el_view.specs.within.Sums.{given_by, taken_by}
use Rattle.el_view.proofs.Tallied.{change_is, ok_same}
use Rattle.el_view.proofs.views.unconfirmed_of.Goals as goal

pub returns : goal.returns
returns c = λ chain kept stands.
    let s = c.args.script_hash.now.0 in
    let entries = c.as_slice.ensures.value ∙ c.in_ok-entries.ensures chain kept stands in
    ok_same _ _ _ (change_is c.args.pool.now.entries chain kept s stands c.in_ok-sums.sums.given c.in_ok-sums.sums.taken
    (c.in_ok-sums.ensures.given chain kept stands ∙ ap (given_by chain kept s) entries)
    (c.in_ok-sums.ensures.taken chain kept stands ∙ ap (taken_by chain kept s) entries)) c.change_of.ensures.change
