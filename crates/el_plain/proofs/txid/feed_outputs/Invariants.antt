use Rattle.std.proofs.Common.{◌≡◌, ℕ, List, ◌++◌, drop}
use Rattle.std.specs.List.{flat_map}
use Rattle.el_tx.specs.Encoding.{counted, output_encoding}
use Rattle.el_plain.proofs.txid.feed_outputs.Given as goal

-- what was fed, and what is left to feed
abbrev pub invariant-loop-output : goal.invariant-loop-output
invariant-loop-output g l = (m : List ℕ) → g.D.Digest.holds l.fn.hasher m → (fed : List ℕ) × g.D.Digest.holds l.hasher fed
    × (fed ++ flat_map output_encoding (drop l.output-index l.outputs) ≡ m ++ counted output_encoding l.outputs)
