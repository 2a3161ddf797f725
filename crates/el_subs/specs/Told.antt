-- What a client that subscribes to script hashes is told (Electrum Protocol 1.4,
-- blockchain.scripthash.subscribe): for each subscription its status, where it isn't the one told last.
use Rattle.std.specs.Prelude.{◌≡◌, ℕ, ◌+◌, Bool, false, not, if◌then◌else◌, List, [], ◌∷◌, map, filter, Option}
use Rattle.std.specs.List.{AllByRecursion, list_any}
use Rattle.std.specs.Option.{option_eq}
use Rattle.el_base.specs.declared.hash.Hash32.{Hash32}
use Rattle.el_tx.specs.declared.types.Tx.{Tx}
use Rattle.el_chain.specs.Chains.{Chain}
use Rattle.el_chain.specs.Headers.{same_hash}
use Rattle.el_status.specs.Statuses as defined
use Rattle.el_sessions.specs.Sessions.{Subscription}

-- the statuses of script hashes
abbrev pub status : Chain → List Tx → Hash32 → Option Hash32
status chain kept s = defined.status chain kept s.0

-- the script hash of the subscription is among these
abbrev pub is_touched : List Hash32 → Subscription → Bool
is_touched touched sub = list_any (same_hash sub.0) touched

module _ (status : Hash32 → Option Hash32) where
  -- the status isn't the one told last
  abbrev pub is_news : Subscription → Bool
  is_news sub = not (option_eq same_hash (status sub.0) sub.1)

  -- the subscription once its status is told
  abbrev pub retold : Subscription → Subscription
  retold sub = (sub.0, status sub.0)

  -- what is told of subscriptions, in their order: all statuses are compared
  abbrev pub news : List Subscription → List Subscription
  news subs = map retold (filter is_news subs)

  -- The subscriptions after that. Where nothing is told, the status is the one told last.
  abbrev pub marked : List Subscription → List Subscription
  marked subs = map retold subs

  -- the status of the subscription is the one told last
  abbrev pub IsTold : Subscription → Type 0
  IsTold sub = sub.1 ≡ status sub.0

  -- each subscription is told
  abbrev pub AllTold : List Subscription → Type 0
  AllTold subs = AllByRecursion IsTold subs

  -- each subscription to a script hash that isn't among these is told
  abbrev pub OthersTold : List Hash32 → List Subscription → Type 0
  OthersTold touched subs = AllByRecursion (λ sub. is_touched touched sub ≡ false → IsTold sub) subs

-- what those of these script hashes that are among the touched cost together
abbrev pub cost_of : (Hash32 → ℕ) → List Hash32 → List Hash32 → ℕ
cost_of cost touched [] = 0
cost_of cost touched (s ∷ scripts) =
    (if list_any (same_hash s) touched then cost s else 0) + cost_of cost touched scripts
