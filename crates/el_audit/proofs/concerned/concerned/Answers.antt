use Rattle.std.proofs.Common.{ap, ◌∙◌, ◌||◌, Bool}
use Rattle.std.specs.List.{list_any}
use Rattle.el_tx.specs.Hashing.{txid}
use Rattle.el_chain.specs.declared.coin.Coin.{Coin}
use Rattle.el_chain.specs.Headers.{same_hash}
use Rattle.el_chain.specs.History.{funds, spends}
use Rattle.el_audit.proofs.Walks.{made_funds, both_touched}
use Rattle.el_audit.proofs.concerned.concerned.Goals as goal

pub returns : goal.returns
returns c = λ is_named coins h s named.
    both_touched s c.new-scripts.result c.touch_made.new.touched c.touch_taken.new.touched (funds s.0 c.args.tx.now) (spends s.0 coins c.args.tx.now) c.new-scripts.ensures
    (c.in_ok-touch_made.ensures s ∙ ap (λ (b : Bool). list_any (same_hash s) c.new-scripts.result || b)
    (ap (list_any (λ (x : Coin). same_hash s x.script)) c.requires.1 ∙ made_funds s (txid c.args.tx.now) c.requires.0 0 c.args.tx.now.outputs))
    (c.in_ok-touch_taken.ensures is_named coins h s named)
