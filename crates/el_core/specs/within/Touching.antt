-- Script hashes that a step touched, of those to which clients subscribe.
use Rattle.std.specs.Prelude.{◌≡◌, Bool, true, false, List}
use Rattle.std.specs.List.{list_any}
use Rattle.el_base.specs.declared.hash.Hash32.{Hash32}
use Rattle.el_sessions.specs.Sessions.{is_subscribed}
use Rattle.el_status.specs.Untouched.{is_among}
use Rattle.el_core.specs.State.{ClientState}

-- some client subscribes to the script hash
abbrev pub is_held : List ClientState → Hash32 → Bool
is_held clients s = list_any (λ (c : ClientState). is_subscribed s c.session.subs) clients

-- of the script hashes to which clients subscribe, each of the first and of the second is among all
abbrev pub HasAllSubscribed : List ClientState → List Hash32 → List Hash32 → List Hash32 → Type 0
HasAllSubscribed clients first second all =
    (s : Hash32) → is_held clients s ≡ true → is_among all s ≡ false
    → (is_among first s ≡ false) × (is_among second s ≡ false)

-- of the script hashes to which clients subscribe, each of the first, the moved and the changed is among all
abbrev pub CoversAll : List ClientState → List Hash32 → List Hash32 → List Hash32 → List Hash32 → Type 0
CoversAll clients first moved changed all =
    (s : Hash32) → is_held clients s ≡ true → is_among all s ≡ false
    → (is_among first s ≡ false) × (is_among moved s ≡ false) × (is_among changed s ≡ false)
