-- A turn of the client that speaks, of which only lists are known, and the measure of all turns.
use Rattle.std.proofs.Common.{◌≡◌, ℕ, zero, suc, ◌+◌, ◌*◌, ◌<◌, ◌≤◌, ◌==◌, Bool, true, false, not, List, [], ◌∷◌, length, filter, slice_get, Option, Some, None, refl, sym, ap, ◌∙◌, subst, arith, true≢false, inl, inr}
use Rattle.std.specs.Prelude.{IfSome, IfNone, OnSome}
use Rattle.std.specs.Option.{is_some}
use Rattle.std.proofs.Math.Nat.{mul-le-mul_left, mul-le-mul_right, suc-mul}
use Rattle.el_side.specs.Deeds.{Deed}
use Rattle.el_lines.proofs.Cuts.{either}
use Rattle.el_side.specs.Side.{Side}
use Rattle.el_core.specs.State.{State, ClientState, IsIdle, is_numbered, waiting, work, work_of_node, work_of_client, work_of_clients, work_of_speaker, work_of_peers}
use Rattle.el_core.specs.Arrivals.{gone_from, kept_clients, kept_speaker}
use Rattle.el_lines.specs.LineStates.{held_bytes}
use Rattle.el_core.specs.within.Clients.{Passing, TellsAt, IsFirstWaiting, all_wait, client_replaced, IsClientPlace, ClientTurn, TurnsAt, SpeakerSteps, steps, speaker_after, PeersTurn, has_turn}
use Rattle.el_core.specs.declared.out.Outs.{Outs}
use Rattle.el_core.proofs.Places.{same_some, no_some}

pub speaker_gone : (outs : Option Outs) (left : Option ClientState) → is_some left ≡ false → None ≡ speaker_after outs left
speaker_gone None left e = refl
speaker_gone (Some o) None e = refl
speaker_gone (Some o) (Some c) e = absurd (true≢false e)

pub speaker_stays : (outs : Option Outs) (left : Option ClientState) (o : Outs) (p : ℕ) (c : ClientState) → is_some left ≡ true → outs ≡ Some o → IfSome left (λ d. (d.peer ≡ c.peer) × (d.waits ≡ c.waits)) → c.peer ≡ p
    → Some p ≡ speaker_after outs left
speaker_stays None left o p c e some same is = absurd (no_some o (sym some))
speaker_stays (Some q) None o p c e some same is = absurd (true≢false (sym e))
speaker_stays (Some q) (Some d) o p c e some same is = ap (λ (n : ℕ). Some n) (sym (same.0 ∙ is))

pub steps_of : {G : Type 0} (says : ClientState → Option ClientState → Type 0) (tells : Type 0) (side : Side) (rose : Passing) (s new : State G) (outs : Option Outs) (stays : Bool) (p i : ℕ) → s.speaker ≡ Some p → IsClientPlace p s.clients (Some i)
    → (t : TurnsAt says i s.clients outs stays new.clients) → ((c : ClientState) (left : Option ClientState) → says c left → ClientTurn tells side rose c outs left)
    → new ≡ record s { ledger = new.ledger; caches = new.caches; desk = new.desk; clients = new.clients; speaker = new.speaker } → (t.client.peer ≡ p → new.speaker ≡ speaker_after outs t.left) → SpeakerSteps tells side rose s outs new
steps_of {G} says tells side rose s new outs stays p i is place t turn same speaker =
    let peer : t.client.peer ≡ p = ap (λ (d : ClientState). d.peer) (same_some _ _ (sym t.at ∙ place.1)) ∙ place.2 in
    steps p i t.client t.left is t.at peer (turn t.client t.left t.said)
    (same ∙ ap (λ (cs : List ClientState). record s { ledger = new.ledger; caches = new.caches; desk = new.desk; clients = cs; speaker = new.speaker }) t.next_is
    ∙ ap (λ (u : Option ℕ). record s { ledger = new.ledger; caches = new.caches; desk = new.desk; clients = client_replaced i t.left s.clients; speaker = u }) (speaker peer))

length_replaced : (cs : List ClientState) (i : ℕ) (left : Option ClientState) → length (client_replaced i left cs) ≤ length cs
length_replaced [] i left = omega arith
length_replaced (c ∷ cs) zero None = omega arith
length_replaced (c ∷ cs) zero (Some d) = omega arith
length_replaced (c ∷ cs) (suc i) left = let l = length_replaced cs i left in omega arith

pub turned_fewer : (says : ClientState → Option ClientState → Type 0) (i : ℕ) (cs next : List ClientState) (outs : Option Outs) (stays : Bool) → TurnsAt says i cs outs stays next → length next ≤ length cs
turned_fewer says i cs next outs stays t = let l = length_replaced cs i t.left in subst (λ (n : List ClientState). length n ≤ length cs) (sym t.next_is) l

waits_replaced : (cs : List ClientState) (i : ℕ) (c : ClientState) (left : Option ClientState) → slice_get cs i ≡ Some c → IfSome left (λ d. (d.peer ≡ c.peer) × (d.waits ≡ c.waits)) → length (waiting (client_replaced i left cs)) ≤ length (waiting cs)
waits_replaced [] i c left at same = absurd (no_some c (sym at))
waits_replaced (x ∷ cs) zero c None at same = elim (either x.waits) [
  | inl h ↦ rw h (omega arith)
  | inr h ↦ rw h (omega arith)
]
waits_replaced (x ∷ cs) zero c (Some d) at same =
    let e : d.waits ≡ x.waits = same.1 ∙ ap (λ (y : ClientState). y.waits) (sym (same_some x c at)) in
    elim (either x.waits) [
      | inl h ↦ rw (e, h) (omega arith)
      | inr h ↦ rw (e, h) (omega arith)
    ]
waits_replaced (x ∷ cs) (suc i) c left at same =
    let l = waits_replaced cs i c left at same in
    elim (either x.waits) [
      | inl h ↦ rw h (omega arith)
      | inr h ↦ rw h l
    ]

pub turned_waits : (says : ClientState → Option ClientState → Type 0) (i : ℕ) (cs next : List ClientState) (outs : Option Outs) (stays : Bool) → TurnsAt says i cs outs stays next → length (waiting next) ≤ length (waiting cs)
turned_waits says i cs next outs stays t = subst (λ (n : List ClientState). length (waiting n) ≤ length (waiting cs)) (sym t.next_is) (waits_replaced cs i t.client t.left t.at t.same)

work_replaced : (cs : List ClientState) (i : ℕ) (c : ClientState) (left : Option ClientState) → slice_get cs i ≡ Some c → work_of_clients (client_replaced i left cs) + work_of_client (Some c) ≡ work_of_clients cs + work_of_client left
work_replaced [] i c left at = absurd (no_some c (sym at))
work_replaced (x ∷ cs) zero c None at = rw (same_some x c at) (omega arith)
work_replaced (x ∷ cs) zero c (Some d) at = rw (same_some x c at) (omega arith)
work_replaced (x ∷ cs) (suc i) c left at = let w = work_replaced cs i c left at in omega arith

-- the one that speaks has fewer bytes left
pub turned_less : (says : ClientState → Option ClientState → Type 0) (p i surplus : ℕ) (cs next : List ClientState) (outs : Option Outs) (o : Outs) (stays : Bool) → TurnsAt says i cs outs stays next
    → outs ≡ Some o → work_of_speaker (Some p) next + surplus < work_of_speaker (Some p) cs + surplus
turned_less says p i surplus cs next outs o stays t some =
    let less : work_of_client t.left < work_of_client (Some t.client) = subst (λ (x : Option Outs). OnSome x (work_of_client t.left < work_of_client (Some t.client))) some t.less in
    let w = work_replaced cs i t.client t.left t.at in
    let lt : work_of_clients (client_replaced i t.left cs) + surplus < work_of_clients cs + surplus = omega arith in
    subst (λ (n : List ClientState). work_of_clients n + surplus < work_of_clients cs + surplus) (sym t.next_is) lt

pub turned_gone : (says : ClientState → Option ClientState → Type 0) (p i surplus : ℕ) (cs next : List ClientState) (outs : Option Outs) (stays : Bool) → TurnsAt says i cs outs stays next
    → work_of_speaker None next + surplus < work_of_speaker (Some p) cs + surplus
turned_gone says p i surplus cs next outs stays t =
    let w = work_replaced cs i t.client None t.at in
    omega arith

pub on_some : {A : Type 0} (x : Option A) (P : Type 0) → P → OnSome x P
on_some None P p = tt
on_some (Some a) P p = p

-- the turn of the client that speaks, where no client too many waits
pub peers_of : {G : Type 0} (tells : Type 0) (side : Side) (rose : State G → Passing) (s mid next : State G) (o : Option Outs) → s.surplus ≡ None → mid ≡ record s { surplus = None }
    → SpeakerSteps tells side (rose mid) mid o next → PeersTurn tells side (rose s) s o next
peers_of {G} tells side rose s mid next o unused made turn =
    let same : mid ≡ s = made ∙ ap (λ (x : Option ℕ). record s { surplus = x }) (sym unused) in
    has_turn unused (subst (λ (m : State G). SpeakerSteps tells side (rose m) m o next) same turn)

-- ---- a client goes

length_filter : (f : ClientState → Bool) (cs : List ClientState) → length (filter f cs) ≤ length cs
length_filter f [] = omega arith
length_filter f (c ∷ cs) =
    let l = length_filter f cs in
    elim (either (f c)) [
      | inl h ↦ rw h (omega arith)
      | inr h ↦ rw h (omega arith)
    ]

waits_filter : (f : ClientState → Bool) (cs : List ClientState) → length (waiting (filter f cs)) ≤ length (waiting cs)
waits_filter f [] = omega arith
waits_filter f (c ∷ cs) =
    let l = waits_filter f cs in
    elim (either (f c)) [
      | inl h ↦ elim (either c.waits) [
        | inl k ↦ rw (h, k) (omega arith)
        | inr k ↦ rw (h, k) l
      ]
      | inr h ↦ elim (either c.waits) [
        | inl k ↦ rw (h, k) (omega arith)
        | inr k ↦ rw (h, k) l
      ]
    ]

work_filter : (f : ClientState → Bool) (cs : List ClientState) → work_of_clients (filter f cs) ≤ work_of_clients cs
work_filter f [] = omega arith
work_filter f (c ∷ cs) =
    let l = work_filter f cs in
    elim (either (f c)) [
      | inl h ↦ rw h (omega arith)
      | inr h ↦ rw h (omega arith)
    ]

speaker_filter : (p : ℕ) (u : Option ℕ) (cs : List ClientState) → work_of_speaker (kept_speaker p u) (kept_clients p cs) ≤ work_of_speaker u cs
speaker_filter p None cs = omega arith
speaker_filter p (Some q) cs =
    let w = work_filter (λ (c : ClientState). not (is_numbered p c)) cs in
    elim (either (q == p)) [
      | inl h ↦ rw h (omega arith)
      | inr h ↦ rw h w
    ]

pub gone_work : {G : Type 0} (s : State G) (p : ℕ) → work (gone_from s p) ≤ work s
gone_work {G} s p =
    let l = length_filter (λ (c : ClientState). not (is_numbered p c)) s.clients in
    let w = waits_filter (λ (c : ClientState). not (is_numbered p c)) s.clients in
    let k = speaker_filter p s.speaker s.clients in
    let m = mul-le-mul_left (work_of_node (held_bytes s.node) (length s.holdings.tree) (length s.ahead)) (let e : length (kept_clients p s.clients) + 1 ≤ length s.clients + 1 = omega arith in e) in
    omega arith

pub same_of : {G : Type 0} (s mid next : State G) → mid ≡ record s { surplus = None } → next ≡ record mid { ledger = next.ledger; caches = next.caches; desk = next.desk; clients = next.clients; speaker = next.speaker }
    → next ≡ record s { ledger = next.ledger; caches = next.caches; desk = next.desk; clients = next.clients; speaker = next.speaker; surplus = next.surplus }
same_of {G} s mid next a b =
    b ∙ ap (λ (m : State G). record m { ledger = next.ledger; caches = next.caches; desk = next.desk; clients = next.clients; speaker = next.speaker }) a
    ∙ ap (λ (u : Option ℕ). record s { ledger = next.ledger; caches = next.caches; desk = next.desk; clients = next.clients; speaker = next.speaker; surplus = u }) (sym (ap (λ (t : State G). t.surplus) b ∙ ap (λ (t : State G). t.surplus) a))

-- ---- the telling of a client

waits_first : (cs : List ClientState) (i : ℕ) (c : ClientState) (left : Option ClientState) → slice_get cs i ≡ Some c → c.waits ≡ true → IfSome left (λ d. d.waits ≡ false) → length (waiting (client_replaced i left cs)) < length (waiting cs)
waits_first [] i c left at is told = absurd (no_some c (sym at))
waits_first (x ∷ cs) zero c None at is told = rw (same_some x c at, is) (omega arith)
waits_first (x ∷ cs) zero c (Some d) at is told = rw (same_some x c at, is, told) (omega arith)
waits_first (x ∷ cs) (suc i) c left at is told =
    let l = waits_first cs i c left at is told in
    elim (either x.waits) [
      | inl h ↦ rw h (omega arith)
      | inr h ↦ rw h l
    ]

pub told_waits : (says : ClientState → Option ClientState → Type 0) (i : ℕ) (cs next : List ClientState) → TellsAt says i cs next → IsFirstWaiting cs (Some i) → length (waiting next) < length (waiting cs)
told_waits says i cs next t first =
    let is : t.client.waits ≡ true = ap (λ (d : ClientState). d.waits) (same_some _ _ (sym t.at ∙ first.1)) ∙ first.2 in
    subst (λ (n : List ClientState). length (waiting n) < length (waiting cs)) (sym t.next_is) (waits_first cs i t.client t.left t.at is t.told)

pub told_fewer : (says : ClientState → Option ClientState → Type 0) (i : ℕ) (cs next : List ClientState) → TellsAt says i cs next → length next ≤ length cs
told_fewer says i cs next t = subst (λ (n : List ClientState). length n ≤ length cs) (sym t.next_is) (length_replaced cs i t.left)

told_work : (says : ClientState → Option ClientState → Type 0) (i : ℕ) (cs next : List ClientState) (u : Option ℕ) → TellsAt says i cs next → work_of_speaker u next ≤ work_of_speaker u cs
told_work says i cs next None t = omega arith
told_work says i cs next (Some p) t = subst (λ (n : List ClientState). work_of_clients n ≤ work_of_clients cs) (sym t.next_is) (by t.left t.same)
  where
    by : (left : Option ClientState) → IfSome left (λ d. (d.buffer ≡ t.client.buffer) × (d.peer ≡ t.client.peer)) → work_of_clients (client_replaced i left cs) ≤ work_of_clients cs
    by None same = let w = work_replaced cs i t.client None t.at in omega arith
    by (Some d) same =
        let w = work_replaced cs i t.client (Some d) t.at in
        let e : held_bytes d.buffer ≡ held_bytes t.client.buffer = ap held_bytes same.0 in
        omega arith

pub told_peers : (says : ClientState → Option ClientState → Type 0) (i surplus : ℕ) (cs next : List ClientState) (u : Option ℕ) → TellsAt says i cs next → work_of_speaker u next + surplus ≤ work_of_speaker u cs + surplus
told_peers says i surplus cs next u t = let w = told_work says i cs next u t in omega arith

-- ---- turns come to an end

work_line : (l l' f f' a' : ℕ) → l' < l → f' ≤ f + 1 → a' ≤ f → l' * (f' + l' + 1) + a' < l * (f + l + 1)
work_line l l' f f' a' lt few ahead =
    let one : l' * (f' + l' + 1) ≤ l' * (f + l + 1) = mul-le-mul_left l' (omega arith) in
    let two : suc l' * (f + l + 1) ≤ l * (f + l + 1) = mul-le-mul_right (f + l + 1) (let e : suc l' ≤ l = omega arith in e) in
    let three = suc-mul l' (f + l + 1) in
    omega arith

-- less for the node makes room for telling all of the clients
room_for_all : (a b n w w' p : ℕ) → a < b → w' ≤ n → a * (n + 1) + w' + p < b * (n + 1) + w + p
room_for_all a b n w w' p lt few =
    let two : suc a * (n + 1) ≤ b * (n + 1) = mul-le-mul_right (n + 1) (let e : suc a ≤ b = omega arith in e) in
    let three = suc-mul a (n + 1) in
    omega arith

-- as much for the node, and fewer clients
room_kept : (a n n' w w' p p' : ℕ) → n' ≤ n → w' + p' < w + p → a * (n' + 1) + w' + p' < a * (n + 1) + w + p
room_kept a n n' w w' p p' fewer lt =
    let one = mul-le-mul_left a (let e : n' + 1 ≤ n + 1 = omega arith in e) in
    omega arith

pub ahead_less : {G : Type 0} (old new : State G) → length new.ahead < length old.ahead → new ≡ record old { ledger = new.ledger; holdings = new.holdings; caches = new.caches; ahead = new.ahead; touched = new.touched } → new.holdings.tree ≡ old.holdings.tree
    → work new < work old
unfolding work_of_node
ahead_less {G} old new fewer same tree =
    let lt : held_bytes old.node * (length old.holdings.tree + held_bytes old.node + 1) + length new.ahead < held_bytes old.node * (length old.holdings.tree + held_bytes old.node + 1) + length old.ahead = omega arith in
    let two = mul-le-mul_right (length old.clients + 1) lt in
    let three = suc-mul (held_bytes old.node * (length old.holdings.tree + held_bytes old.node + 1) + length new.ahead) (length old.clients + 1) in
    rw (tree, ap (λ (s : State G). s.node) same, ap (λ (s : State G). s.clients) same, ap (λ (s : State G). s.speaker) same, ap (λ (s : State G). s.surplus) same) (omega arith)

length_waits : (cs : List ClientState) → length (all_wait cs) ≡ length cs
length_waits [] = refl
length_waits (c ∷ cs) = ap suc (length_waits cs)

waiting_few : (cs : List ClientState) → length (waiting cs) ≤ length cs
waiting_few [] = omega arith
waiting_few (c ∷ cs) =
    let l = waiting_few cs in
    elim (either c.waits) [
      | inl h ↦ rw h (omega arith)
      | inr h ↦ rw h (omega arith)
    ]

work_waits : (u : Option ℕ) (cs : List ClientState) → work_of_speaker u (all_wait cs) ≡ work_of_speaker u cs
work_waits None cs = refl
work_waits (Some p) [] = refl
work_waits (Some p) (c ∷ cs) = ap (λ (n : ℕ). held_bytes c.buffer + 1 + n) (work_waits (Some p) cs)

pub line_less : {G : Type 0} (old mid new : State G) → mid ≡ record old { node = mid.node } → held_bytes mid.node < held_bytes old.node → length new.ahead ≤ length mid.holdings.tree → length new.holdings.tree ≤ length mid.holdings.tree + 1
    → new.clients ≡ all_wait mid.clients → new ≡ record mid { ledger = new.ledger; holdings = new.holdings; caches = new.caches; ahead = new.ahead; clients = new.clients; before = new.before; touched = new.touched } → work new < work old
unfolding work_of_node
line_less {G} old mid new same less fewer more all_wait_so then =
    let found : mid.holdings.tree ≡ old.holdings.tree = ap (λ (s : State G). s.holdings.tree) same in
    let clients : new.clients ≡ all_wait old.clients = all_wait_so ∙ ap all_wait (ap (λ (s : State G). s.clients) same) in
    let fewer' = rw found at fewer in
    let more' = rw found at more in
    let w = work_line (held_bytes old.node) (held_bytes mid.node) (length old.holdings.tree) (length new.holdings.tree) (length new.ahead) less more' fewer' in
    let few = waiting_few (all_wait old.clients) in
    let len = length_waits old.clients in
    let few' : length (waiting (all_wait old.clients)) ≤ length old.clients = omega arith in
    let w' : held_bytes mid.node * (length new.holdings.tree + held_bytes mid.node + 1) + length new.ahead < held_bytes old.node * (length old.holdings.tree + held_bytes old.node + 1) + length old.ahead = omega arith in
    let all = room_for_all _ _ (length old.clients) (length (waiting old.clients)) (length (waiting (all_wait old.clients))) (work_of_peers old) w' few' in
    rw (
      ap (λ (s : State G). s.node) then,
      ap (λ (s : State G). s.speaker) then,
      ap (λ (s : State G). s.surplus) then,
      ap (λ (s : State G). s.speaker) same,
      ap (λ (s : State G). s.surplus) same,
      clients,
      len,
      work_waits old.speaker old.clients,
    ) all

pub peers_less : {G : Type 0} (old new : State G) (o : Option Outs) → new ≡ record old { ledger = new.ledger; caches = new.caches; desk = new.desk; clients = new.clients; speaker = new.speaker; surplus = new.surplus }
    → length (waiting new.clients) ≤ length (waiting old.clients) → length new.clients ≤ length old.clients → OnSome o (work_of_peers new < work_of_peers old) → IfSome o (λ out. work new < work old)
peers_less old new None same waits fewer less = tt
peers_less {G} old new (Some o) same waits fewer less =
    let lt : length (waiting new.clients) + work_of_peers new < length (waiting old.clients) + work_of_peers old = omega arith in
    rw (ap (λ (s : State G). s.holdings.tree) same, ap (λ (s : State G). s.node) same, ap (λ (s : State G). s.ahead) same)
    (room_kept (work_of_node (held_bytes old.node) (length old.holdings.tree) (length old.ahead)) (length old.clients) (length new.clients) (length (waiting old.clients)) (length (waiting new.clients)) (work_of_peers old) (work_of_peers new) fewer lt)

-- a client was told, with so much work for the node
pub told_less : (says : ClientState → Option ClientState → Type 0) (n i surplus : ℕ) (cs next : List ClientState) (u : Option ℕ) → TellsAt says i cs next → IsFirstWaiting cs (Some i)
    → n * (length next + 1) + length (waiting next) + (work_of_speaker u next + surplus) < n * (length cs + 1) + length (waiting cs) + (work_of_speaker u cs + surplus)
told_less says n i surplus cs next u t first =
    let waits = told_waits says i cs next t first in
    let fewer = told_fewer says i cs next t in
    let peers = told_peers says i surplus cs next u t in
    let lt : length (waiting next) + (work_of_speaker u next + surplus) < length (waiting cs) + (work_of_speaker u cs + surplus) = omega arith in
    room_kept n (length cs) (length next) (length (waiting cs)) (length (waiting next)) (work_of_speaker u cs + surplus) (work_of_speaker u next + surplus) fewer lt

-- nothing is left to do
pub peers_idle : {G : Type 0} (old new : State G) (o : Option Outs) → old.ahead ≡ [] → waiting old.clients ≡ [] → length (waiting new.clients) ≤ length (waiting old.clients)
    → new ≡ record old { ledger = new.ledger; caches = new.caches; desk = new.desk; clients = new.clients; speaker = new.speaker; surplus = new.surplus }
    → IfNone o ((new.speaker ≡ None) × (new.surplus ≡ None)) → IfNone o (IsIdle new)
peers_idle old new (Some o) still quiet_all waits same done = tt
peers_idle {G} old new None still quiet_all waits same done = record {
  ahead = ap (λ (s : State G). s.ahead) same ∙ still;
  told = none_of (waiting new.clients) (rw quiet_all at waits);
  speaker = done.0;
  surplus = done.1;
}
  where
    none_of : (cs : List ClientState) → length cs ≤ 0 → cs ≡ []
    none_of [] few = refl
    none_of (c ∷ cs) few = absurd (omega arith)
