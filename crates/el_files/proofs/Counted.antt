-- How many calls the scan of a file makes.
use Rattle.std.proofs.Common.{◌≡◌, ℕ, ◌+◌, ◌-◌, ◌*◌, ◌/◌, ◌≤◌, arith}
use Rattle.std.proofs.lemmas.Nat.{le-div}
use Rattle.el_files.specs.Scanning.{calls_for}

-- so many pieces were read of a file that has this size
pub pieces_read : (old now size : ℕ) → 65449 * now ≤ 65449 * (old + 1) + (size + 65449) → now ≤ old + calls_for size
pieces_read old now size read =
    let few : (now - (old + 2)) * 65449 ≤ size = omega (arith, read) in
    let least : now - (old + 2) ≤ size / 65449 = le-div (now - (old + 2)) size 65449 (omega arith) few in
    omega (arith, least)

-- the size alone was asked
pub size_asked : (old now long : ℕ) → now ≡ old + 1 → now ≤ old + calls_for long
size_asked old now long is = omega (arith, is)
