use Rattle.el_program.proofs.LifeLemmas.{lives_go, empty_stands}
use Rattle.el_program.proofs.lives.lives_go_on.Goals as goal

pub returns-clause-empty : goal.returns-clause-empty
returns-clause-empty g c = λ magic image none. empty_stands magic image none

pub returns-clause-go_on : goal.returns-clause-go_on
returns-clause-go_on g c = λ magic d was flight lives told left are serves calls.
    lives_go _ _ _ _ magic d was flight lives told left are serves calls
