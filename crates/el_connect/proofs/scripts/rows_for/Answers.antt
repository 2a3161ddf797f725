use Rattle.std.proofs.Common.{sym, ◌∙◌}
use Rattle.el_connect.specs.within.Parts.{output_scripts}
use Rattle.el_connect.proofs.ScriptLemmas.{old_among, old_found, new_found}
use Rattle.el_connect.proofs.scripts.rows_for.Goals as goal

pub returns-then-is_among-clause-rows : goal.returns-then-is_among-clause-rows
returns-then-is_among-clause-rows g c counts bs l told hold fits some =
    old_among c.args.hash.now l.scripts (output_scripts c.args.before.now) (sym c.if-is_among.true ∙ c.is_among.ensures)

pub returns-in-Some-clause-rows : goal.returns-in-Some-clause-rows
returns-in-Some-clause-rows g c counts bs l told hold fits some =
    old_found c.args.hash.now l.scripts (output_scripts c.args.before.now) _ fits.numbered.once (sym c.in-Some.is ∙ c.in-Ok.ensures.newest counts bs l told hold some)

pub returns-in-None-clause-rows : goal.returns-in-None-clause-rows
returns-in-None-clause-rows g c counts bs l told hold fits some =
    new_found c.args.hash.now l.scripts (output_scripts c.args.before.now) fits.numbered.once (sym c.if-is_among.false ∙ c.is_among.ensures) (sym c.in-None.is ∙ c.in-Ok.ensures.newest counts bs l told hold some)
