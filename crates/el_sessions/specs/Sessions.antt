-- What the server keeps of a client for its requests (Electrum Protocol 1.4.2).
use Rattle.std.specs.Prelude.{Bool, if◌then◌else◌, List, [], ◌∷◌, filter, Option}
use Rattle.std.specs.List.{list_any}
use Rattle.std.specs.Map.{keys_of}
use Rattle.std.specs.Str.{bytes_eq}
use Rattle.el_base.specs.declared.hash.Hash32.{Hash32}

-- a subscription: the script hash, and the status that the client was last told
abbrev pub Subscription : Type 0
Subscription = Hash32 × Option Hash32

-- two script hashes are one
abbrev pub same_script : Hash32 → Hash32 → Bool
same_script a b = bytes_eq a.0 b.0

-- the subscription is to that script hash
abbrev pub is_to : Hash32 → Subscription → Bool
is_to s sub = same_script s sub.0

-- one of the subscriptions is to that script hash
abbrev pub is_subscribed : Hash32 → List Subscription → Bool
is_subscribed s subs = list_any (is_to s) subs

-- The subscriptions with one to that script hash, of which that status was told: one that is there keeps its
-- place, and a new one comes last.
abbrev pub subscribed : Hash32 → Option Hash32 → List Subscription → List Subscription
subscribed s told [] = (s, told) ∷ []
subscribed s told (sub ∷ subs) = if is_to s sub then (sub.0, told) ∷ subs else sub ∷ subscribed s told subs

-- the subscriptions without the one to that script hash; the others stay in their order
abbrev pub unsubscribed : Hash32 → List Subscription → List Subscription
unsubscribed s [] = []
unsubscribed s (sub ∷ subs) = if is_to s sub then subs else sub ∷ unsubscribed s subs

-- those of the script hashes to which there is a subscription, in the order of the subscriptions
abbrev pub held_among : List Hash32 → List Subscription → List Hash32
held_among scripts subs = filter (λ (s : Hash32). list_any (same_script s) scripts) (keys_of subs)
