use Rattle.std.proofs.Common.{◌≡◌, ℕ, List, length, take}
use Rattle.std.specs.List.{list_any}
use Rattle.el_mempool.specs.Standing.{is_coin_at}
use Rattle.el_sift.proofs.exchanging.have_same_scripts.Given as goal

-- as many, and those before have the same script hashes
abbrev pub invariant-loop-number : goal.invariant-loop-number
invariant-loop-number l = record {
  sizes : length l.old ≡ length l.new;
  same : (s : List ℕ) → list_any (is_coin_at s) (take l.number l.old) ≡ list_any (is_coin_at s) (take l.number l.new);
}
