-- Subscriptions by the numbers that they got as they came.
use Rattle.std.specs.Prelude.{◌≡◌, ℕ, zero, suc, List, [], ◌∷◌, length, slice_get, Option, Some, None, option_map}
use Rattle.std.specs.List.{flat_map}
use Rattle.std.specs.List.Sorted.{IsPermutation, IsNonDecreasingBy}
use Rattle.std.specs.Map.{lookup}
use Rattle.std.specs.Option.{option_to_list}
use Rattle.el_base.specs.declared.hash.Hash32.{Hash32}
use Rattle.el_sessions.specs.Sessions.{Subscription, same_script}
use Rattle.el_sessions.specs.declared.slots.Held.{Held}
use Rattle.el_sessions.specs.declared.slots.Place.{Place}
use Rattle.el_sessions.specs.declared.slots.Slots.{Slots, Nothing, Put'}

-- this stands at that number, which is one of them or the next
abbrev pub put_at : List (Option Subscription) → ℕ → Option Subscription → List (Option Subscription)
put_at [] number sub = sub ∷ []
put_at (x ∷ xs) zero sub = sub ∷ xs
put_at (x ∷ xs) (suc number) sub = x ∷ put_at xs number sub

-- by number the subscription that came so; nothing where it was dropped
abbrev pub slots_of : Slots → List (Option Subscription)
slots_of Nothing = []
slots_of (Put' shape before number sub) = put_at (slots_of before) number sub

-- the subscriptions that are held, in the order in which they came
abbrev pub live : List (Option Subscription) → List Subscription
live [] = []
live (None ∷ slots) = live slots
live (Some sub ∷ slots) = sub ∷ live slots

-- the map has each subscription that is held, with its number, and nothing else
pub record AreHeld (slots : List (Option Subscription)) (entries : List (Hash32 × Held)) (next : ℕ)
    : Type 0 where
  pub next_is : length slots ≡ next
  pub many : length entries ≡ length (live slots)
  pub kept : (s : Hash32) (held : Held) → lookup (same_script s) entries ≡ Some held
      → slice_get slots held.number ≡ Some (Some (s, held.told))
  pub found : (number : ℕ) (sub : Subscription) → slice_get slots number ≡ Some (Some sub)
      → lookup (same_script sub.0) entries ≡ Some (record { told = sub.1; number = number })

-- the place of the script hash, if something is kept of it
abbrev pub places_of_one : List (Hash32 × Held) → Hash32 → List Place
places_of_one entries s =
    option_to_list (option_map (λ (held : Held). record { number = held.number; script_hash = s })
    (lookup (same_script s) entries))

-- the places of those of the script hashes of which something is kept, in their order
abbrev pub places_found : List (Hash32 × Held) → List Hash32 → List Place
places_found entries scripts = flat_map (places_of_one entries) scripts

-- these are those places, by numbers that don't fall
pub record ArePlaces (found places : List Place) : Type 0 where
  pub same : IsPermutation found places
  pub ordered : IsNonDecreasingBy (λ (p : Place). p.number) places
