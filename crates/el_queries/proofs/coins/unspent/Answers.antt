use Rattle.std.proofs.Common.{◌∙◌, arith}
use Rattle.el_rows.specs.Transaction.{with_edits}
use Rattle.el_tables.specs.ChainLists.{lists, listed_blocks}
use Rattle.el_tables.proofs.FitLemmas.{chain_fits}
use Rattle.el_tables.specs.Tables.{in_both}
use Rattle.el_schema.proofs.StandingLemmas.{holds}
use Rattle.el_queries.proofs.ChainEntries.{unspent_rows}
use Rattle.el_queries.proofs.OwnCoins.{unspent_found}
use Rattle.el_queries.proofs.Counting.{chain_buckets}
use Rattle.el_queries.proofs.Scripts.{chain_has_heads}
use Rattle.el_queries.proofs.coins.unspent.Goals as goal

pub returns-clause-unspent : goal.returns-clause-unspent
returns-clause-unspent g c chain told stand =
    let held = (holds (with_edits {G = g.R.Rows} c.args.t.now) chain stand).1 in
    c.reverse.ensures.items ∙ c.in_ok-found.ensures.found (in_both stand.0) (listed_blocks chain) (lists chain) told held (chain_has_heads stand.0 chain stand.1.some) (chain_fits chain) ∙ unspent_found chain c.args.script_hash.now

pub returns-clause-rows : goal.returns-clause-rows
returns-clause-rows g c chain told stand =
    let held = (holds (with_edits {G = g.R.Rows} c.args.t.now) chain stand).1 in
    let s = c.args.script_hash.now in
    omega (arith, c.newest_first.ensures.rows (in_both stand.0) (listed_blocks chain) (lists chain) told held (chain_has_heads stand.0 chain stand.1.some) (chain_fits chain), chain_buckets stand.0 (with_edits {G = g.R.Rows} c.args.t.now) chain s held, unspent_rows chain s)

pub returns-in_err-found-clause-rows : goal.returns-in_err-found-clause-rows
returns-in_err-found-clause-rows g c chain told stand =
    let held = (holds (with_edits {G = g.R.Rows} c.args.t.now) chain stand).1 in
    let s = c.args.script_hash.now in
    omega (arith, c.newest_first.ensures.rows (in_both stand.0) (listed_blocks chain) (lists chain) told held (chain_has_heads stand.0 chain stand.1.some) (chain_fits chain), chain_buckets stand.0 (with_edits {G = g.R.Rows} c.args.t.now) chain s held, unspent_rows chain s)
