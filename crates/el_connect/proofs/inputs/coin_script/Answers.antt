use Rattle.std.proofs.Common.{◌≡◌, ℕ, IfOk, sym, subst}
use Rattle.el_row_formats.specs.Tables as held
use Rattle.el_tables.specs.Lists.{script_at}
use Rattle.el_schema.specs.Rows.{Hold}
use Rattle.el_connect.proofs.inputs.coin_script.Goals as goal

pub returns-clause-script : goal.returns-clause-script
returns-clause-script g c counts bs l told hold =
    let coin = c.in_ok-coin.ensures.coin counts bs l told hold in
    let two = subst (λ (T : held.Tables). Hold counts bs l T) (sym c.input_coin.ensures.read.tables) hold in
    subst (λ (k : ℕ). IfOk c.script_number.result (λ n. n ≡ script_at k l.outs)) coin (c.script_number.ensures.script counts bs l told two)
