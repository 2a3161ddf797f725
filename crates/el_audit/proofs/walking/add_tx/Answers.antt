use Rattle.std.proofs.Common.{◌∙◌, ap, subst, arith, ◌||◌}
use Rattle.std.specs.List.{list_any}
use Rattle.el_tx.specs.Hashing.{txid}
use Rattle.el_chain.specs.Coins.{coins_left}
use Rattle.el_chain.specs.Headers.{same_hash}
use Rattle.el_chain.specs.History.{funds, spends}
use Rattle.el_audit.specs.within.Lists.{is_in_set}
use Rattle.el_audit.specs.within.OwnCoins.{AreOwn, put_coins}
use Rattle.el_audit.proofs.Walks.{put_outputs, listed_so, entry_is}
use Rattle.el_audit.proofs.walking.add_tx.Goals as goal

pub coins_of-requires : goal.coins_of-requires
coins_of-requires c = let few = c.requires.few in rw c.as_slice.ensures (omega (arith, few))

pub concerned-requires : goal.concerned-requires
concerned-requires c = (c.args.height, rw (c.in_ok-txid.ensures, c.as_slice.ensures) at (c.as_slice-2.ensures.value ∙ c.in_ok-made.ensures))

pub list_entry-requires : goal.list_entry-requires
list_entry-requires c = rw c.list.ensures.same c.list.ensures.once

pub returns-clause-own : goal.returns-clause-own
returns-clause-own c = λ coins h.
    let t = c.args.tx.now in
    let left = c.in_ok-take_spent.ensures (is_in_set c.args.names.now) coins h in
    let put = c.in_ok-put_made.ensures (coins_left t coins) left in
    let made = rw (c.in_ok-txid.ensures, c.as_slice.ensures) at (c.as_slice-3.ensures.value ∙ c.in_ok-made.ensures) in
    subst (AreOwn c.put_made.new.own (is_in_set c.args.names.now)) (ap (λ l. put_coins l (coins_left t coins)) made ∙ put_outputs (txid t) c.args.height 0 t.outputs (coins_left t coins)) put

pub returns-clause-lists : goal.returns-clause-lists
returns-clause-lists c = λ coins h s named.
    let t = c.args.tx.now in
    listed_so s c.args.height t coins _ _ _ _ (funds s.0 t || spends s.0 coins t) (record { height = c.args.height; txid = txid t })
    (ap (list_any (same_hash s)) c.list.ensures.same ∙ c.in_ok-scripts.ensures (is_in_set c.args.names.now) coins h s named)
    (entry_is c.args.height _ (txid t) c.in_ok-txid.ensures)
    (c.in_ok-list_entry.ensures s)
