-- How many clients subscribe to a script hash.
use Rattle.std.specs.Prelude.{◌≡◌, ◌≤◌, ℕ, ◌+◌, if◌then◌else◌, List, [], ◌∷◌, Some}
use Rattle.std.specs.Map.{keys_of, lookup}
use Rattle.std.specs.Option.{unwrap_or}
use Rattle.el_base.specs.declared.hash.Hash32.{Hash32}
use Rattle.el_sessions.specs.Sessions.{Subscription, same_script}

-- how often the script hash is among these
abbrev pub times : Hash32 → List Hash32 → ℕ
times s [] = 0
times s (k ∷ keys) = (if same_script s k then 1 else 0) + times s keys

-- the number beside the script hash; 0 where it isn't there
abbrev pub counted : List (Hash32 × ℕ) → Hash32 → ℕ
counted entries s = unwrap_or (lookup (same_script s) entries) 0

-- 0 stands beside no script hash: one to which nobody subscribes has no place
abbrev pub NoneIdle : List (Hash32 × ℕ) → Type 0
NoneIdle entries = (s : Hash32) → lookup (same_script s) entries ≡ Some 0 → ⊥

-- Of each script hash as many more are counted, or fewer, as the client has more subscriptions to it than it
-- had, or fewer; where those that it had were counted.
abbrev pub Follows : List Subscription → List Subscription → List (Hash32 × ℕ) → List (Hash32 × ℕ) → Type 0
Follows was now before after =
    (s : Hash32) → times s (keys_of was) ≤ counted before s
    → counted after s + times s (keys_of was) ≡ counted before s + times s (keys_of now)
