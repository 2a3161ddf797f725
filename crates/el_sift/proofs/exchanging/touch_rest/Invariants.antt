use Rattle.std.proofs.Common.{◌≡◌, ◌&&◌, ◌||◌, not, drop}
use Rattle.std.specs.List.{list_any}
use Rattle.el_base.specs.declared.hash.Hash32.{Hash32}
use Rattle.el_chain.specs.Headers.{same_hash}
use Rattle.el_mempool.specs.declared.held.Source.{Source}
use Rattle.el_mempool.specs.Unconfirmed.{has_script}
use Rattle.el_sift.proofs.exchanging.touch_rest.Given as goal

abbrev pub invariant-loop-source : goal.invariant-loop-source
invariant-loop-source l = (s : Hash32)
    → (list_any (same_hash s) l.touched || list_any (λ (x : Source). has_script s.0 x.held && not (list_any (same_hash s) l.others)) (drop l.source-index l.inputs))
    ≡ (list_any (same_hash s) l.initial.touched || list_any (λ (x : Source). has_script s.0 x.held && not (list_any (same_hash s) l.others)) l.inputs)
