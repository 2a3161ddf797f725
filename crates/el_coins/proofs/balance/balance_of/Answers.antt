use Rattle.std.proofs.Common.{rules, ◌≡◌, ◌∙◌, ap, arith, []}
use Rattle.indexmap.specs.IndexMap.{values}
use Rattle.el_coins.specs.within.Balances.{own_values}
use Rattle.el_coins.proofs.BalanceLemmas.{held, within}
use Rattle.el_coins.proofs.balance.balance_of.Goals as goal

pub loop-coin-init : goal.loop-coin-init
loop-coin-init c = record {
  sum = let e = ap (own_values c.args.script_hash.now.0) (c.into_iter-coin-iterator.ensures.into_iter_gives ∙ c.values-coin-items.ensures.rest) in omega (arith, e);
  few = within c.args.script_hash.now.0 c.args.table.now.supply c.args.table.now.map.entries c.len-len.ensures.unique c.requires.money c.requires.stands;
}

pub returns : goal.returns
returns c = λ coins h.
    let none : c.loop-coin.coin-iterator ≡ [] = search rules in
    let e : own_values c.args.script_hash.now.0 c.loop-coin.coin-iterator ≡ 0 = ap (own_values c.args.script_hash.now.0) none in
    let sum = c.loop-coin.invariant.sum in
    let all : c.loop-coin.total ≡ own_values c.args.script_hash.now.0 (values c.args.table.now.map) = omega (arith, sum, e) in
    all ∙ held c.args.script_hash.now.0 coins c.args.table.now.map.entries h.once c.len-len.ensures.unique h.each
