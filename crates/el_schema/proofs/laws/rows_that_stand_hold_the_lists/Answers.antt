use Rattle.el_schema.proofs.StandingLemmas.{held_with, stands}
use Rattle.el_schema.proofs.laws.rows_that_stand_hold_the_lists.Goals as goal

pub returns : goal.returns
returns c = record { hold = held_with; stand = stands }
