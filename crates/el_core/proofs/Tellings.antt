-- What clients were told: statuses of script hashes that weren't touched since.
use Rattle.std.proofs.Common.{◌≡◌, ◌||◌, inl, inr, ℕ, zero, suc, Bool, true, false, not, List, [], ◌∷◌, map, filter, find, take, slice_get, Option, Some, None, refl, sym, ap, ◌∙◌, subst, true≢false}
use Rattle.std.specs.List.{AllByRecursion, AllZip}
use Rattle.std.proofs.lemmas.Slice.Eq.{bytes_eq-Decides}
use Rattle.el_base.specs.declared.hash.Hash32.{Hash32}
use Rattle.el_chain.specs.Chains.{Chain}
use Rattle.el_sessions.specs.declared.session.Session as known
use Rattle.el_sessions.specs.Sessions.{Subscription, is_subscribed, is_to}
use Rattle.el_subs.specs.Told as status_told
use Rattle.el_subs.specs.Told.{status, OthersTold, marked}
use Rattle.el_lines.proofs.Cuts.{either}
use Rattle.el_side.specs.NodeSteps.{Touches}
use Rattle.el_side.specs.Side.{Side, IsSure}
use Rattle.el_world.specs.World.{Session, Event, is_peer}
use Rattle.el_core.specs.State.{ClientState, IsSession, IsUntouched, NoneWaits, Tellings, waiting}
use Rattle.el_core.specs.within.Clients.{client_replaced}
use Rattle.el_core.specs.within.Touching.{is_held, CoversAll}
use Rattle.el_core.proofs.Places.{IfThere, no_some, same_some, all_map, all_mapped, all_filter, all_replaced}

-- ---- who waits

-- nobody waits
pub all_told_world : (clients : List ClientState) (speaker : Option ℕ) (left : List Event) (sessions : List Session) → AllZip (IsSession speaker left) clients sessions → waiting clients ≡ []
    → find (λ (y : Session). y.waits) sessions ≡ None
all_told_world [] speaker left [] z w = refl
all_told_world [] speaker left (y ∷ ys) z w = absurd z
all_told_world (c ∷ cs) speaker left [] z w = absurd z
all_told_world (c ∷ cs) speaker left (y ∷ ys) z w = elim (either c.waits) [
  | inl h ↦ absurd (let e = rw h at w in cc)
  | inr h ↦ rw (sym z.0.waits ∙ h) (all_told_world cs speaker left ys z.1 (rw h at w))
]

pub none_wait_world : (ys : List Session) → find (λ (y : Session). y.waits) ys ≡ None → NoneWaits ys
none_wait_world [] none_found_so = tt
none_wait_world (y ∷ ys) none_found_so = elim (either y.waits) [
  | inl h ↦ absurd (no_some _ (rw h at none_found_so))
  | inr h ↦ (h, none_wait_world ys (rw h at none_found_so))
]

pub none_waits : (clients : List ClientState) → waiting clients ≡ [] → AllByRecursion (λ (c : ClientState). c.waits ≡ false) clients
none_waits [] w = tt
none_waits (c ∷ cs) w = elim (either c.waits) [
  | inl h ↦ absurd (let e = rw h at w in cc)
  | inr h ↦ (h, none_waits cs (rw h at w))
]

-- the first that waits
pub first_told : (ys : List Session) (i : ℕ) (x : Session) → slice_get ys i ≡ Some x → x.waits ≡ true → AllByRecursion (λ (y : Session). y.waits ≡ false) (take i ys) → find (λ (y : Session). y.waits) ys ≡ Some x
first_told [] i x at w all = absurd (no_some x (sym at))
first_told (y ∷ ys) zero x at w all =
    let e : y ≡ x = same_some y x at in
    rw (e, w) refl
first_told (y ∷ ys) (suc i) x at w all = rw all.0 (first_told ys i x at w all.1)

-- ---- what was told where nothing is ahead

-- where the start is the side's chain, what was told is told over both
pub untouched_of : (side : Side) (start : Chain) (touched : List Hash32) (subs : List Subscription) → start ≡ side.chain → status_told.AllTold (status side.chain side.kept) subs
    → AllByRecursion (IsUntouched side start touched) subs
untouched_of side start touched [] same all = tt
untouched_of side start touched (sub ∷ subs) same all =
    (rw same (λ e. (all.0, record { listed = refl; history = refl; unspent = refl; balance = refl })), untouched_of side start touched subs same all.1)

-- those that aren't touched were told
pub others_of : (side : Side) (start : Chain) (touched : List Hash32) (subs : List Subscription) → start ≡ side.chain → AllByRecursion (IsUntouched side start touched) subs
    → OthersTold (status side.chain side.kept) touched subs
others_of side start touched [] same all = tt
others_of side start touched (sub ∷ subs) same all = (λ e. rw same at (all.0 e).0, others_of side start touched subs same all.1)

pub marked_told : (st : Hash32 → Option Hash32) (subs : List Subscription) → status_told.AllTold st (marked st subs)
marked_told st [] = tt
marked_told st (sub ∷ subs) = (refl, marked_told st subs)

-- where nobody waits, all were told
pub all_statuses : (side : Side) (start : Chain) (touched : List Hash32) (sessions : List Session) → IsSure side → Tellings side start touched sessions → side.ahead ≡ [] → NoneWaits sessions
    → AllByRecursion (λ (x : Session). status_told.AllTold (status side.chain side.kept) x.client.subs) sessions
all_statuses side start touched sessions sure t still quiet_all = both sessions (t.told sure still) quiet_all
  where
    both : (ys : List Session) → AllByRecursion (λ (x : Session). x.waits ≡ false → status_told.AllTold (status side.chain side.kept) x.client.subs) ys → NoneWaits ys
        → AllByRecursion (λ (x : Session). status_told.AllTold (status side.chain side.kept) x.client.subs) ys
    both [] all w = tt
    both (y ∷ ys) all w = (all.0 w.0, both ys all.1 w.1)

-- ---- clients go, change and are told

pub tellings_gone : (side : Side) (start : Chain) (touched : List Hash32) (sessions : List Session) (p : ℕ) → Tellings side start touched sessions
    → Tellings side start touched (filter (λ (y : Session). not (is_peer p y)) sessions)
tellings_gone side start touched sessions p t = record {
  untouched = λ sure. all_filter _ _ sessions (t.untouched sure);
  told = λ sure still. all_filter _ _ sessions (t.told sure still);
  busy = λ some. all_filter _ _ sessions (t.busy some);
}

pub tellings_replaced : (side : Side) (start : Chain) (touched : List Hash32) (sessions : List Session) (i : ℕ) (session : Option Session) → Tellings side start touched sessions
    → (IsSure side → IfThere (λ (n : Session). AllByRecursion (IsUntouched side start touched) n.client.subs) session)
    → (IsSure side → IfThere (λ (n : Session). n.waits ≡ false → status_told.AllTold (status side.chain side.kept) n.client.subs) session)
    → side.ahead ≡ [] → Tellings side start touched (client_replaced i session sessions)
tellings_replaced side start touched sessions i session t untouched told still = record {
  untouched = λ sure. all_replaced _ sessions i session (t.untouched sure) (untouched sure);
  told = λ sure s. all_replaced _ sessions i session (t.told sure s) (told sure);
  busy = λ some. absurd (some still);
}

-- a line begins, where all were told of the last one
pub tellings_begun : (side : Side) (start : Chain) (touched : List Hash32) (sessions : List Session) → Tellings side start touched sessions → side.ahead ≡ [] → start ≡ side.chain → NoneWaits sessions
    → Tellings side start [] (map (λ (x : Session). record x { waits = true }) sessions)
tellings_begun side start touched sessions t still same quiet_all = record {
  untouched = λ sure. all_mapped _ _ (λ (x : Session). record x { waits = true }) sessions (λ x all. untouched_of side start [] x.client.subs same all) (all_statuses side start touched sessions sure t still quiet_all);
  told = λ sure s. all_mapped _ _ (λ (x : Session). record x { waits = true }) sessions (λ x w e. absurd (true≢false e)) quiet_all;
  busy = λ some. absurd (some still);
}

-- ---- a step of the node

or_first : (a b : Bool) → a ≡ true → (a || b) ≡ true
or_first true b e = refl
or_first false b e = absurd (true≢false (sym e))

or_second : (a b : Bool) → b ≡ true → (a || b) ≡ true
or_second true b e = refl
or_second false b e = e

-- the subscriptions of a client are held by it
subs_held : (all subs : List Subscription) → ((s : Hash32) → is_subscribed s subs ≡ true → is_subscribed s all ≡ true) → AllByRecursion (λ (sub : Subscription). is_subscribed sub.0 all ≡ true) subs
subs_held all [] more = tt
subs_held all (sub ∷ subs) more = (
  more sub.0 (or_first (is_to sub.0 sub) (is_subscribed sub.0 subs) ((bytes_eq-Decides sub.0.0 sub.0.0).1 refl)),
  subs_held all subs (λ s there. more s (or_second (is_to s sub) (is_subscribed s subs) there)),
)

-- and so by the clients
sessions_held : (speaker : Option ℕ) (left : List Event) (all cs : List ClientState) (ss : List Session) → AllZip (IsSession speaker left) cs ss → ((s : Hash32) → is_held cs s ≡ true → is_held all s ≡ true)
    → AllByRecursion (λ (x : Session). AllByRecursion (λ (sub : Subscription). is_held all sub.0 ≡ true) x.client.subs) ss
sessions_held speaker left all [] [] z more = tt
sessions_held speaker left all [] (y ∷ ys) z more = absurd z
sessions_held speaker left all (c ∷ cs) [] z more = absurd z
sessions_held speaker left all (c ∷ cs) (y ∷ ys) z more = (
  subst (λ (k : List Subscription). AllByRecursion (λ (sub : Subscription). is_held all sub.0 ≡ true) k) (ap (λ (k : known.Session). k.subs) z.0.kept)
      (all_map _ _ c.session.subs (λ sub own. more sub.0 (or_first (is_subscribed sub.0 c.session.subs) (is_held cs sub.0) own)) (subs_held c.session.subs c.session.subs (λ s there. there))),
  sessions_held speaker left all cs ys z.1 (λ s there. more s (or_second (is_subscribed s c.session.subs) (is_held cs s) there)),
)

both_all : {A : Type 0} (P Q R : A → Type 0) (xs : List A) → ((x : A) → P x → Q x → R x) → AllByRecursion P xs → AllByRecursion Q xs → AllByRecursion R xs
both_all P Q R [] f p q = tt
both_all P Q R (x ∷ xs) f p q = (f x p.0 q.0, both_all P Q R xs f p.1 q.1)

-- what the step didn't touch is as it was
pub tellings_led : (side next : Side) (start next_start : Chain) (moved changed touched now : List Hash32) (clients : List ClientState) (sessions : List Session) (speaker : Option ℕ) (left : List Event)
    → Tellings side start touched sessions → next.sure ≡ side.sure → (IsSure side → Touches side start next next_start moved changed) → CoversAll clients touched moved changed now → AllZip (IsSession speaker left) clients sessions
    → AllByRecursion (λ (x : Session). x.waits ≡ true) sessions → Tellings next next_start now sessions
tellings_led side next start next_start moved changed touched now clients sessions speaker left t sure_is touches covers each all_wait = record {
  untouched = λ sure. both_all _ _ _ sessions (λ x untouched held. both_all _ _ _ x.client.subs (one (sym sure_is ∙ sure)) untouched held) (t.untouched (sym sure_is ∙ sure)) (sessions_held speaker left clients clients sessions each (λ s there. there));
  told = λ sure still. all_map _ _ sessions (λ x w e. absurd (true≢false (sym w ∙ e))) all_wait;
  busy = λ some. all_wait;
}
  where
    one : IsSure side → (sub : Subscription) → IsUntouched side start touched sub → is_held clients sub.0 ≡ true → IsUntouched next next_start now sub
    one sure sub untouched held none =
        let t = touches sure in
        let c = covers sub.0 held none in
        let was = untouched c.0 in
        (was.0 ∙ sym (t.status_stays sub.0 c.1 c.2 was.1), t.looks sub.0 c.1 c.2 was.1)
