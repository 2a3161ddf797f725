use Rattle.el_queries.proofs.Counting.{scripts_among, scripts_in_buckets}
use Rattle.el_queries.proofs.laws.scripts_of_lists_are_those_of_outputs.Goals as goal

pub returns : goal.returns
returns c = record { outputs = scripts_among; buckets = scripts_in_buckets }
