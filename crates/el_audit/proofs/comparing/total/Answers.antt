use Rattle.std.proofs.Common.{[], get_or, refl, arith}
use Rattle.el_chain.specs.declared.coin.Coin.{Coin}
use Rattle.el_audit.proofs.Bounds.{supply_more}
use Rattle.el_audit.proofs.comparing.total.Goals as goal

-- stands where there is no coin
abbrev no_coin : Coin
no_coin = record { outpoint = record { txid = record { 0 = [] }; index = 0 }; value = 0; script = record { 0 = [] }; height = 0 }

pub overflow_add-sum : goal.overflow_add-sum
overflow_add-sum c =
    let step = supply_more c.args.coins.now c.loop-coin.coin-index (get_or c.args.coins.now c.loop-coin.coin-index no_coin) no_coin c.loop-coin-test.true refl in
    let most = step.1 in
    let sum = c.loop-coin.invariant in
    let money = c.requires in
    record { fits = omega (arith, most, sum, money) }

pub loop-coin-preserved : goal.loop-coin-preserved
loop-coin-preserved c =
    let step = supply_more c.args.coins.now c.loop-coin.coin-index (get_or c.args.coins.now c.loop-coin.coin-index no_coin) no_coin c.loop-coin-test.true refl in
    let more = step.0 in
    let sum = c.loop-coin.invariant in
    omega (arith, more, sum)
