-- Tables that are kept with all their versions, the oldest first.
use Rattle.std.specs.Prelude.{◌≤◌, ◌<◌, ◌-◌, ℕ, List, [], length, get_or}
use Rattle.std.proofs.Common.{◌≡◌, ◌+◌, ap, ◌∙◌, arith}
use Rattle.el_row_formats.specs.Tables.{Tables, tables_listed}
use Rattle.el_rows.specs.Reads.{Same}

-- the last of the versions; of none it has no tables
abbrev pub last_version : List (List (List (List ℕ))) → List (List (List ℕ))
last_version versions = get_or versions (length versions - 1) []

-- one of the versions from some number on
abbrev pub IsOneSince : List (List (List (List ℕ))) → ℕ → Tables → Type 0
IsOneSince versions t c = (k : ℕ) × (t ≤ k) × (k < length versions)
    × Same (tables_listed (get_or versions k [])) c

-- since the last moment there is the last version alone
pub only_last : (versions : List (List (List (List ℕ)))) (t : ℕ) (c : Tables) → length versions ≤ t + 1
    → IsOneSince versions t c → Same (tables_listed (last_version versions)) c
only_last versions t c most one u =
    let is : one.0 ≡ length versions - 1 = omega (arith, most, one.1, one.2) in
    one.3 u ∙ ap (λ k. tables_listed (get_or versions k []) u) is

-- the versions from a later number on are among those from an earlier one on
pub earlier_since : (versions : List (List (List (List ℕ)))) (t u : ℕ) (c : Tables) → t ≤ u
    → IsOneSince versions u c → IsOneSince versions t c
earlier_since versions t u c le one = (
  one.0,
  (let e : t ≤ one.0 = omega (arith, le, one.1) in e),
  one.2,
  one.3,
)

-- at a live store's moment there is the last version alone
pub live_last : (versions : List (List (List (List ℕ)))) (faults : ℕ) (c : Tables) → faults ≡ 0
    → IsOneSince versions (length versions - (faults + 1)) c → Same (tables_listed (last_version versions)) c
live_last versions faults c live one = only_last versions (length versions - (faults + 1)) c
    (omega (arith, live)) one
