use Rattle.std.proofs.Common.{[]}
use Rattle.el_chain.proofs.NoHistories.{chain_none, no_own}
use Rattle.el_chain.proofs.laws.unknown_has_no_history.Goals as goal

pub returns : goal.returns
returns c = λ chain script_hash all. chain_none script_hash 0 chain [] (no_own script_hash) all
