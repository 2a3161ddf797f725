-- The numbers of clients, of which none is greater than the last that was opened.
use Rattle.std.proofs.Common.{◌≡◌, ℕ, ◌<◌, ◌≤◌, Bool, true, not, List, [], ◌∷◌, ◌++◌, Option, Some, None, arith}
use Rattle.std.specs.Prelude.{IfSome}
use Rattle.std.specs.List.{AllByRecursion}
use Rattle.el_core.specs.State.{State, ClientState, AreUpTo, is_numbered}
use Rattle.el_core.specs.Arrivals.{kept_clients}
use Rattle.el_core.specs.within.Clients.{Opens, node, joins, one_more, Hears, nobody, client, TurnsAt, TellsAt, all_wait}
use Rattle.el_core.specs.declared.out.Outs.{Outs}
use Rattle.el_core.proofs.Places.{IfThere, all_at, all_map, all_filter, all_mapped, all_replaced}

pub up_to_later : (last now : ℕ) (cs : List ClientState) → last ≤ now → AreUpTo last cs → AreUpTo now cs
up_to_later last now cs later up = all_map (λ (c : ClientState). c.peer ≤ last) (λ (c : ClientState). c.peer ≤ now) cs (λ c le. (let e : c.peer ≤ now = omega (arith, le, later) in e)) up

-- who comes then has a greater number than each
pub all_below : (last p : ℕ) (cs : List ClientState) → last < p → AreUpTo last cs → AllByRecursion (λ (c : ClientState). c.peer < p) cs
all_below last p cs above up = all_map (λ (c : ClientState). c.peer ≤ last) (λ (c : ClientState). c.peer < p) cs (λ c le. (let e : c.peer < p = omega (arith, le, above) in e)) up

up_to_more : (now : ℕ) (cs : List ClientState) (c : ClientState) → AreUpTo now cs → c.peer ≤ now → AreUpTo now (cs ++ c ∷ [])
up_to_more now [] c up le = (le, tt)
up_to_more now (x ∷ xs) c up le = (up.0, up_to_more now xs c up.1 le)

pub up_to_gone : (last p : ℕ) (cs : List ClientState) → AreUpTo last cs → AreUpTo last (kept_clients p cs)
up_to_gone last p cs up = all_filter (λ (c : ClientState). c.peer ≤ last) (λ (c : ClientState). not (is_numbered p c)) cs up

pub up_to_opened : {G : Type 0} (s next : State G) (p last now : ℕ) → last ≤ now → AreUpTo last s.clients → p ≤ now → Opens p s next → AreUpTo now next.clients
up_to_opened s next p last now later up le (node is_zero same) = rw same (up_to_later last now s.clients later up)
up_to_opened s next p last now later up le (joins other c fresh few made) =
    rw made (up_to_more now s.clients c (up_to_later last now s.clients later up) (rw fresh.peer le))
up_to_opened s next p last now later up le (one_more other many made) = rw made (up_to_later last now s.clients later up)

pub up_to_heard : {G : Type 0} (s next : State G) (p last now : ℕ) (bytes : List ℕ) → last ≤ now → AreUpTo last s.clients → Hears p bytes s next → AreUpTo now next.clients
up_to_heard s next p last now bytes later up (nobody absent same) = rw same (up_to_later last now s.clients later up)
up_to_heard s next p last now bytes later up (client i c kept at is keeps made) =
    let all = up_to_later last now s.clients later up in
    let own = all_at (λ (d : ClientState). d.peer ≤ now) s.clients i c all at in
    rw made (all_replaced (λ (d : ClientState). d.peer ≤ now) s.clients i (Some kept) all (rw keeps.peer own))

pub up_to_turned : (says : ClientState → Option ClientState → Type 0) (i last : ℕ) (cs next : List ClientState) (outs : Option Outs) (stays : Bool) → TurnsAt says i cs outs stays next
    → AreUpTo last cs → AreUpTo last next
up_to_turned says i last cs next outs stays t up = rw t.next_is (all_replaced (λ (d : ClientState). d.peer ≤ last) cs i t.left up (by t.left t.same))
  where
    own : t.client.peer ≤ last
    own = all_at (λ (d : ClientState). d.peer ≤ last) cs i t.client up t.at

    by : (left : Option ClientState) → IfSome left (λ d. (d.peer ≡ t.client.peer) × (d.waits ≡ t.client.waits)) → IfThere (λ (d : ClientState). d.peer ≤ last) left
    by None same = tt
    by (Some d) same = rw same.0 own

pub up_to_waits : (last : ℕ) (cs : List ClientState) → AreUpTo last cs → AreUpTo last (all_wait cs)
up_to_waits last cs up = all_mapped (λ (c : ClientState). c.peer ≤ last) (λ (c : ClientState). c.peer ≤ last) (λ (c : ClientState). record c { waits = true }) cs (λ c le. le) up

pub up_to_told : (says : ClientState → Option ClientState → Type 0) (i last : ℕ) (cs next : List ClientState) → TellsAt says i cs next → AreUpTo last cs → AreUpTo last next
up_to_told says i last cs next t up = rw t.next_is (all_replaced (λ (d : ClientState). d.peer ≤ last) cs i t.left up (by t.left t.same))
  where
    own : t.client.peer ≤ last
    own = all_at (λ (d : ClientState). d.peer ≤ last) cs i t.client up t.at

    by : (left : Option ClientState) → IfSome left (λ d. (d.buffer ≡ t.client.buffer) × (d.peer ≡ t.client.peer)) → IfThere (λ (d : ClientState). d.peer ≤ last) left
    by None same = tt
    by (Some d) same = rw same.1 own
