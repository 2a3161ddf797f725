use Rattle.std.proofs.Common.{◌≡◌, ◌||◌, drop}
use Rattle.std.specs.List.{list_any}
use Rattle.el_base.specs.declared.hash.Hash32.{Hash32}
use Rattle.el_tx.specs.declared.types.TxOut.{TxOut}
use Rattle.std.specs.Str.{bytes_eq}
use Rattle.el_chain.specs.Coins.{script_hash_of}
use Rattle.el_chain.specs.Headers.{same_hash}
use Rattle.el_coins.proofs.touching.touch_outputs.Given as goal

abbrev pub invariant-loop-output : goal.invariant-loop-output
invariant-loop-output l = (s : Hash32) → (list_any (same_hash s) l.touched || list_any (λ (o : TxOut). bytes_eq (script_hash_of o) s.0) (drop l.output-index l.outputs)) ≡ (list_any (same_hash s) l.initial.touched || list_any (λ (o : TxOut). bytes_eq (script_hash_of o) s.0) l.outputs)
