use Rattle.std.proofs.Common.{sym, ◌∙◌}
use Rattle.el_kept.specs.Tables.{undropped}
use Rattle.el_kept.proofs.Listed.{listed_as}
use Rattle.el_kept.proofs.Retaken.{untold, not_told}
use Rattle.el_sift.proofs.moving.settle_one.Goals as goal

pub returns-then-not-is_of_kept-clause-table : goal.returns-then-not-is_of_kept-clause-table
returns-then-not-is_of_kept-clause-table c =
    not_told c.args.table.now c.args.takes c.requires.table (sym c.is_of_kept.ensures ∙ c.if-not-is_of_kept.true)

pub returns-then-not-is_of_kept-clause-listed : goal.returns-then-not-is_of_kept-clause-listed
returns-then-not-is_of_kept-clause-listed c =
    listed_as c.args.listings.now (undropped c.args.table.now.kept.entries) _ c.requires.listed
    (untold c.args.table.now c.args.takes c.requires.table (sym c.is_of_kept.ensures ∙ c.if-not-is_of_kept.true))
