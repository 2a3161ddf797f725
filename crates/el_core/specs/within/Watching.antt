-- How many of the clients subscribe to a script hash.
use Rattle.std.specs.Prelude.{◌≡◌, ℕ, List, [], ◌∷◌, ◌++◌}
use Rattle.std.specs.Map.{keys_of}
use Rattle.el_base.specs.declared.hash.Hash32.{Hash32}
use Rattle.el_sessions.specs.Watching.{counted, times}
use Rattle.el_core.specs.State.{ClientState}

-- the script hashes to which clients subscribe, client by client, each of which has none twice
abbrev pub held_keys : List ClientState → List Hash32
held_keys [] = []
held_keys (c ∷ cs) = keys_of c.session.subs ++ held_keys cs

-- beside each script hash stands how many of the clients subscribe to it
abbrev pub CountWatchers : List (Hash32 × ℕ) → List ClientState → Type 0
CountWatchers entries clients = (s : Hash32) → counted entries s ≡ times s (held_keys clients)
