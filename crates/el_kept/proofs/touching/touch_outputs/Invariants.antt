use Rattle.std.proofs.Common.{◌≡◌, ◌||◌, drop}
use Rattle.std.specs.List.{list_any}
use Rattle.el_base.specs.declared.hash.Hash32.{Hash32}
use Rattle.el_chain.specs.Headers.{same_hash}
use Rattle.el_mempool.specs.Unconfirmed.{has_script}
use Rattle.el_kept.proofs.touching.touch_outputs.Given as goal

abbrev pub invariant-loop-held : goal.invariant-loop-held
invariant-loop-held l = (s : Hash32) → (list_any (same_hash s) l.touched || list_any (has_script s.0) (drop l.held-index l.outputs)) ≡ (list_any (same_hash s) l.initial.touched || list_any (has_script s.0) l.outputs)
