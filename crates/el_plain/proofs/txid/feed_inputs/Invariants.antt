use Rattle.std.proofs.Common.{◌≡◌, ℕ, List, ◌++◌, drop}
use Rattle.std.specs.List.{flat_map}
use Rattle.el_tx.specs.Encoding.{counted, input_encoding}
use Rattle.el_plain.proofs.txid.feed_inputs.Given as goal

-- what was fed, and what is left to feed
abbrev pub invariant-loop-input : goal.invariant-loop-input
invariant-loop-input g l = (m : List ℕ) → g.D.Digest.holds l.fn.hasher m → (fed : List ℕ) × g.D.Digest.holds l.hasher fed
    × (fed ++ flat_map input_encoding (drop l.input-index l.inputs) ≡ m ++ counted input_encoding l.inputs)
