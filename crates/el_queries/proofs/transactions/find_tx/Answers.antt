use Rattle.std.proofs.Common.{◌≡◌, Some, option_map, ap, sym, subst, ◌∙◌, arith}
use Rattle.el_rows.specs.Transaction.{with_edits, reads_in}
use Rattle.el_schema.proofs.StandingLemmas.{holds}
use Rattle.el_tables.specs.ChainLists.{lists, listed_blocks}
use Rattle.el_tables.specs.Tables.{tables_of, in_both}
use Rattle.el_tables.specs.Lists.{newest_tx}
use Rattle.el_schema.specs.Rows.{Encode}
use Rattle.el_schema.proofs.Answered.{if_ok}
use Rattle.el_position.specs.Numbered.{found_number}
use Rattle.el_queries.proofs.Spots.{newest_in, rows_in, in_its_block, spot_told, none_told}
use Rattle.el_queries.proofs.transactions.find_tx.Goals as goal

pub returns-in-Some-clause-spot : goal.returns-in-Some-clause-spot
returns-in-Some-clause-spot g c chain told stand =
    let shown = with_edits {G = g.R.Rows} c.args.t.now in
    let id = c.args.txid.now in
    let tb = tables_of (in_both stand.0) (listed_blocks chain) (lists chain) in
    let hold = (holds shown chain stand).1 in
    let after = subst (λ T. Encode T tb) (sym c.newest_row.ensures.read.tables) hold in
    let found = c.in-Some.found in
    let newest = newest_in stand.0 chain shown id c.in_ok-found.field-0 stand.1.some hold (λ counts bs l h some. c.in_ok-found.ensures.newest counts bs l told h some) in
    let number : Some found.number ≡ newest_tx id (lists chain).txs = sym (ap (option_map found_number) c.in-Some.is) ∙ newest in
    let row = c.in_ok-found.ensures.row tb told hold found c.in-Some.is in
    if_ok c.spot_of.result (c.spot_of.ensures.spot tb told after (in_its_block (in_both stand.0).txs chain found row))
    (λ s is. is ∙ spot_told (in_both stand.0).txs chain id found number row)

pub returns-in-None-clause-spot : goal.returns-in-None-clause-spot
returns-in-None-clause-spot g c chain told stand =
    let shown = with_edits {G = g.R.Rows} c.args.t.now in
    let id = c.args.txid.now in
    let newest = newest_in stand.0 chain shown id c.in_ok-found.field-0 stand.1.some (holds shown chain stand).1
    (λ counts bs l h some. c.in_ok-found.ensures.newest counts bs l told h some) in
    none_told chain id (sym (ap (option_map found_number) c.in-None.is) ∙ newest)

pub returns-in_err-found-clause-rows : goal.returns-in_err-found-clause-rows
returns-in_err-found-clause-rows g c chain told stand =
    let shown = with_edits {G = g.R.Rows} c.args.t.now in
    let few = rows_in stand.0 chain shown c.args.txid.now (reads_in {G = g.R.Rows} c.args.t.now) (reads_in {G = g.R.Rows} c.newest_row.new.t) stand.1.some (holds shown chain stand).1
    (λ counts bs l hold some. c.newest_row.ensures.rows counts bs l told hold some) in
    omega (arith, few)

pub returns-in-Some-clause-rows : goal.returns-in-Some-clause-rows
returns-in-Some-clause-rows g c chain told stand =
    let shown = with_edits {G = g.R.Rows} c.args.t.now in
    let few = rows_in stand.0 chain shown c.args.txid.now (reads_in {G = g.R.Rows} c.args.t.now) (reads_in {G = g.R.Rows} c.newest_row.new.t) stand.1.some (holds shown chain stand).1
    (λ counts bs l hold some. c.newest_row.ensures.rows counts bs l told hold some) in
    omega (arith, few, c.spot_of.ensures.rows)

pub returns-in-None-clause-rows : goal.returns-in-None-clause-rows
returns-in-None-clause-rows g c chain told stand =
    let shown = with_edits {G = g.R.Rows} c.args.t.now in
    let few = rows_in stand.0 chain shown c.args.txid.now (reads_in {G = g.R.Rows} c.args.t.now) (reads_in {G = g.R.Rows} c.newest_row.new.t) stand.1.some (holds shown chain stand).1
    (λ counts bs l hold some. c.newest_row.ensures.rows counts bs l told hold some) in
    omega (arith, few)
