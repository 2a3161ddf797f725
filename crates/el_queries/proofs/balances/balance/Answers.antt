use Rattle.std.proofs.Common.{◌∙◌, ap, sym, arith}
use Rattle.el_rows.specs.Transaction.{with_edits}
use Rattle.el_row_formats.specs.declared.script_row.ScriptRow.{ScriptRow}
use Rattle.el_tables.specs.ChainLists.{lists, listed_blocks}
use Rattle.el_tables.proofs.Answering.{balances}
use Rattle.el_tables.proofs.FitLemmas.{chain_fits}
use Rattle.el_tables.specs.Tables.{in_both}
use Rattle.el_schema.proofs.StandingLemmas.{holds}
use Rattle.el_queries.proofs.Counting.{chain_buckets}
use Rattle.el_queries.proofs.Scripts.{chain_has_heads, script_there, script_absent, none_balance}
use Rattle.el_queries.proofs.balances.balance.Goals as goal

pub returns-in-Some-clause-balance : goal.returns-in-Some-clause-balance
returns-in-Some-clause-balance g c chain told stand =
    let held = (holds (with_edits {G = g.R.Rows} c.args.t.now) chain stand).1 in
    let s = c.args.script_hash.now in
    let l = lists chain in
    let found = c.in_ok-script.ensures.found (in_both stand.0) (listed_blocks chain) l told held (chain_has_heads stand.0 chain stand.1.some) in
    ap (λ (r : ScriptRow). r.balance) (script_there s (in_both stand.0) l c.in-Some.script (chain_fits chain) (sym c.in-Some.is ∙ found)).1 ∙ sym (balances chain s.0)

pub returns-in-None-clause-balance : goal.returns-in-None-clause-balance
returns-in-None-clause-balance g c chain told stand =
    let held = (holds (with_edits {G = g.R.Rows} c.args.t.now) chain stand).1 in
    let s = c.args.script_hash.now in
    let l = lists chain in
    let found = c.in_ok-script.ensures.found (in_both stand.0) (listed_blocks chain) l told held (chain_has_heads stand.0 chain stand.1.some) in
    sym (none_balance s l (chain_fits chain) (script_absent s (in_both stand.0) l (chain_fits chain) (sym c.in-None.is ∙ found))) ∙ sym (balances chain s.0)

pub returns-in-Some-clause-rows : goal.returns-in-Some-clause-rows
returns-in-Some-clause-rows g c chain told stand =
    let held = (holds (with_edits {G = g.R.Rows} c.args.t.now) chain stand).1 in
    omega (arith, c.found_script.ensures.rows (in_both stand.0) (listed_blocks chain) (lists chain) told held (chain_has_heads stand.0 chain stand.1.some), chain_buckets stand.0 (with_edits {G = g.R.Rows} c.args.t.now) chain c.args.script_hash.now held)

pub returns-in-None-clause-rows : goal.returns-in-None-clause-rows
returns-in-None-clause-rows g c chain told stand =
    let held = (holds (with_edits {G = g.R.Rows} c.args.t.now) chain stand).1 in
    omega (arith, c.found_script.ensures.rows (in_both stand.0) (listed_blocks chain) (lists chain) told held (chain_has_heads stand.0 chain stand.1.some), chain_buckets stand.0 (with_edits {G = g.R.Rows} c.args.t.now) chain c.args.script_hash.now held)

pub returns-in_err-script-clause-rows : goal.returns-in_err-script-clause-rows
returns-in_err-script-clause-rows g c chain told stand =
    let held = (holds (with_edits {G = g.R.Rows} c.args.t.now) chain stand).1 in
    omega (arith, c.found_script.ensures.rows (in_both stand.0) (listed_blocks chain) (lists chain) told held (chain_has_heads stand.0 chain stand.1.some), chain_buckets stand.0 (with_edits {G = g.R.Rows} c.args.t.now) chain c.args.script_hash.now held)
