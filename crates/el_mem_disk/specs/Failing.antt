-- Which calls of a disk in memory fail, and what a failing write leaves.
use Rattle.std.specs.Prelude.{ℕ, ◌==◌, ◌||◌, nat_le, min, Bool, false, Option, Some, None}
use Rattle.std.specs.List.{list_any}
use Rattle.el_mem_disk.specs.declared.failing.FailingCalls.{FailingCalls}
use Rattle.el_mem_disk.specs.declared.failing.Residue.{Residue}
use Rattle.el_mem_disk.specs.declared.failing.Residue.TheVariants as residue

-- the call is this one or a later one
abbrev pub is_from : Option ℕ → ℕ → Bool
is_from None call = false
is_from (Some first) call = nat_le first call

-- the call with this number fails
abbrev pub is_failing : FailingCalls → ℕ → Bool
is_failing failing call = is_from failing.from call || list_any (λ n. call == n) failing.listed.items

-- how many of n bytes a failing write leaves
abbrev pub residue_of : Residue → ℕ → ℕ
residue_of residue.Nothing n = 0
residue_of (residue.Front k) n = min k n
residue_of residue.All n = n
