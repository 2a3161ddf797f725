use Rattle.std.proofs.Common.{◌≡◌, ◌||◌, drop}
use Rattle.std.specs.List.{list_any}
use Rattle.el_base.specs.declared.hash.Hash32.{Hash32}
use Rattle.el_chain.specs.declared.coin.Coin.{Coin}
use Rattle.el_chain.specs.Headers.{same_hash}
use Rattle.el_audit.proofs.concerned.touch_made.Given as goal

abbrev pub invariant-loop-coin : goal.invariant-loop-coin
invariant-loop-coin l = (s : Hash32) → (list_any (same_hash s) l.touched || list_any (λ (c : Coin). same_hash s c.script) (drop l.coin-index l.made)) ≡ (list_any (same_hash s) l.initial.touched || list_any (λ (c : Coin). same_hash s c.script) l.made)
