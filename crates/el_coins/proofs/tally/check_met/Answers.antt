use Rattle.std.proofs.Common.{◌∙◌, inr, ap, arith}
use Rattle.std.proofs.lemmas.Result.{err_from_is_err_and}
use Rattle.std.specs.Option.{option_or}
use Rattle.el_chain.specs.Faults.{full}
use Rattle.el_chain.proofs.CoinSteps.{err_passed}
use Rattle.el_coins.proofs.Tallies.{met_room, met_by_counts}
use Rattle.el_coins.proofs.tally.check_met.Goals as goal

pub returns-then-tally-room-clause-none : goal.returns-then-tally-room-clause-none
returns-then-tally-room-clause-none c = λ ps h m. met_room c.args.tally.now ps h m.once
    (omega (arith, c.if-tally-room.true, c.min-room.ensures, c.row_limit.ensures, c.row_limit-2.ensures))
    (omega (arith, c.if-tally-room.true, c.min-room.ensures, c.row_limit.ensures, c.row_limit-2.ensures))

pub returns-in_err-check_table-clause-fault : goal.returns-in_err-check_table-clause-fault
returns-in_err-check_table-clause-fault c = λ ps h m.
    let counts = met_by_counts ps _ c.in_ok-scripts.scripts c.in_ok-scripts.entries m.met_are c.in_ok-scripts.ensures.scripts c.in_ok-scripts.ensures.entries in
    err_passed c.from_residual-in_err-check_table.result _ c.in_err-check_table.field-0.0
    (err_from_is_err_and c.from_residual-in_err-check_table.result c.from_residual-in_err-check_table.ensures.1)
    (inr (counts ∙ ap (λ r. option_or r (full 8 c.in_ok-scripts.entries)) c.in_err-check_table.ensures))

pub returns-in_err-check_table-2-clause-fault : goal.returns-in_err-check_table-2-clause-fault
returns-in_err-check_table-2-clause-fault c = λ ps h m.
    let counts = met_by_counts ps _ c.in_ok-scripts.scripts c.in_ok-scripts.entries m.met_are c.in_ok-scripts.ensures.scripts c.in_ok-scripts.ensures.entries in
    err_passed c.from_residual-in_err-check_table-2.result _ c.in_err-check_table-2.field-0.0
    (err_from_is_err_and c.from_residual-in_err-check_table-2.result c.from_residual-in_err-check_table-2.ensures.1)
    (inr (counts ∙ ap (λ r. option_or r (full 8 c.in_ok-scripts.entries)) c.in_ok-check_table.ensures ∙ c.in_err-check_table-2.ensures))

pub returns-clause-none : goal.returns-clause-none
returns-clause-none c = λ ps h m.
    let counts = met_by_counts ps _ c.in_ok-scripts.scripts c.in_ok-scripts.entries m.met_are c.in_ok-scripts.ensures.scripts c.in_ok-scripts.ensures.entries in
    counts ∙ ap (λ r. option_or r (full 8 c.in_ok-scripts.entries)) c.in_ok-check_table.ensures ∙ c.in_ok-check_table-2.ensures
