use Rattle.std.proofs.Common.{◌≡◌, ◌||◌, drop}
use Rattle.std.specs.List.{list_any}
use Rattle.std.specs.Str.{bytes_eq}
use Rattle.el_base.specs.declared.hash.Hash32.{Hash32}
use Rattle.el_tx.specs.declared.types.TxOut.{TxOut}
use Rattle.el_chain.specs.Coins.{script_hash_of}
use Rattle.el_audit.specs.within.Lists.{is_in_set}
use Rattle.el_audit.proofs.scripts.add_outputs.Given as goal

-- what was added, and what is left
abbrev pub invariant-loop-output : goal.invariant-loop-output
invariant-loop-output l = (s : Hash32) → (is_in_set l.scripts s || list_any (λ (o : TxOut). bytes_eq (script_hash_of o) s.0) (drop l.output-index l.outputs)) ≡ (is_in_set l.initial.scripts s || list_any (λ (o : TxOut). bytes_eq (script_hash_of o) s.0) l.outputs)
