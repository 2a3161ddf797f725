use Rattle.el_schema.proofs.StandingLemmas.{equal_with_as_many}
use Rattle.el_laws.proofs.exact.rows_of_two_indexes.Goals as goal

pub returns : goal.returns
returns g c = record { exact = λ chain a b many. rw (c.into_rows.ensures, c.into_rows-2.ensures) (equal_with_as_many _ _ chain (_, a.stand) (_, b.stand) many) }
