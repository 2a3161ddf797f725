-- What is told of script hashes, one after the other.
use Rattle.std.specs.Prelude.{ℕ, if◌then◌else◌, List, [], ◌∷◌, ◌++◌, Option, option_map}
use Rattle.std.specs.Map.{lookup}
use Rattle.std.specs.Option.{option_to_list}
use Rattle.el_base.specs.declared.hash.Hash32.{Hash32}
use Rattle.el_sessions.specs.Sessions.{Subscription, same_script, is_subscribed, subscribed}
use Rattle.el_subs.specs.Told.{news}

-- the subscription to the script hash, if there is one
abbrev pub one_to : Hash32 → List Subscription → List Subscription
one_to s subs =
    option_to_list (option_map (λ (told : Option Hash32). (s, told)) (lookup (same_script s) subs))

module _ (status : Hash32 → Option Hash32) where
  -- the subscriptions once the one to the script hash, if there is one, is told its status
  abbrev pub noted : Hash32 → List Subscription → List Subscription
  noted s subs = if is_subscribed s subs then subscribed s (status s) subs else subs

  -- the same of each of the script hashes
  abbrev pub all_noted : List Hash32 → List Subscription → List Subscription
  all_noted [] subs = subs
  all_noted (s ∷ scripts) subs = all_noted scripts (noted s subs)

  -- what is told meanwhile
  abbrev pub all_news : List Hash32 → List Subscription → List Subscription
  all_news [] subs = []
  all_news (s ∷ scripts) subs = news status (one_to s subs) ++ all_news scripts (noted s subs)
