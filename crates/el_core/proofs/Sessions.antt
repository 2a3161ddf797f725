-- Clients and their sessions, place by place, and the events that their bytes leave.
use Rattle.std.proofs.Common.{◌≡◌, inl, inr, ℕ, suc, ◌+◌, ◌≤◌, ◌==◌, Bool, true, false, not, List, [], ◌∷◌, ◌++◌, length, map, filter, drop, slice_get, Option, Some, None, refl, sym, ap, ◌∙◌, arith, true≢false, eq-eqb, eqb-true}
use Rattle.std.specs.Prelude.{find}
use Rattle.std.specs.List.{AllByRecursion, AllZip, list_any}
use Rattle.std.proofs.lemmas.List.{drop_all}
use Rattle.std.proofs.lemmas.Option.{slice_get_within, get_or_from_slice_get}
use Rattle.el_base.proofs.Lists.{left_at}
use Rattle.el_chain.specs.Chains.{Chain}
use Rattle.el_sessions.specs.declared.session.Session as known
use Rattle.el_lines.specs.Lines.{LineEvent, lines}
use Rattle.el_world.specs.World.{World, Session, Event, says, is_peer, without_client, line_limit}
use Rattle.el_lines.proofs.Cuts.{either}
use Rattle.el_lines.specs.LineStates.{WasFed}
use Rattle.el_core.specs.State.{State, ClientState, HasGivenAll, HearsLeft, in_order, losing, IsSession, SessionsAre, AllVoid, IsSaidBy, Stands, is_numbered}
use Rattle.el_core.specs.Arrivals.{gone_from, kept_clients, kept_speaker}
use Rattle.el_core.proofs.Places.{differs, no_some, same_some, all_map, all_filter, rising_filter, gone_found, gone_itself, there_still}
use Rattle.el_core.proofs.Tellings.{tellings_gone}

-- lines that a client said
pub said_all : (p : ℕ) (ls : List LineEvent) → AllByRecursion (IsSaidBy p) (map (says p) ls)
said_all p [] = tt
said_all p (l ∷ ls) = (refl, said_all p ls)

pub void_all : (sessions : List Session) (p : ℕ) (es : List Event) → find (is_peer p) sessions ≡ None → AllByRecursion (IsSaidBy p) es → AllVoid sessions es
void_all sessions p [] none h = tt
void_all sessions p (e ∷ es) none h = ((p, h.0, none), void_all sessions p es none h.1)

-- the next event of a client's lines
pub left_first : (F : LineEvent → Event) (ls : List LineEvent) (given : ℕ) (e : LineEvent) → slice_get ls given ≡ Some e
    → map F (drop given ls) ≡ F e ∷ map F (drop (given + 1) ls)
left_first F ls given e is =
    ap (map F) (left_at ls given e (slice_get_within ls given e is) (sym (get_or_from_slice_get ls given e e is)))

-- none is left at the end
pub left_none : (F : LineEvent → Event) (ls : List LineEvent) (given : ℕ) → given ≡ length ls → map F (drop given ls) ≡ []
left_none F ls given all = ap (map F) (drop_all given ls (omega arith))

-- the lines of a client whose bytes were all kept are left in order
pub record Ordered (c : ClientState) (heard : List ℕ) (left : List Event) : Type 0 where
  pub given : ℕ
  pub at : WasFed c.buffer heard given
  pub few : given ≤ length (lines line_limit heard)
  pub left_is : left ≡ map (says c.peer) (drop given (lines line_limit heard))

pub ordered : (c : ClientState) (heard : List ℕ) (left : List Event) → c.lost ≡ false → HearsLeft c heard left → Ordered c heard left
ordered c heard left kept (in_order given same at few is) = record { given = given; at = at; few = few; left_is = is }
ordered c heard left kept (losing lost all_said) = absurd (let e = sym kept ∙ lost in cc)

pub left_void : (sessions : List Session) (c : ClientState) (heard : List ℕ) (left : List Event) → find (is_peer c.peer) sessions ≡ None → HearsLeft c heard left → AllVoid sessions left
left_void sessions c heard left none (in_order given same at few is) = rw is (void_all sessions c.peer _ none (said_all c.peer (drop given (lines line_limit heard))))
left_void sessions c heard left none (losing lost all_said) = void_all sessions c.peer left none all_said

-- what is kept of it for its requests, and whether it is to be told, don't matter
pub hears_told : (c : ClientState) (heard : List ℕ) (left : List Event) (session : known.Session) (waits : Bool) → HearsLeft c heard left
    → HearsLeft (record c { session = session; waits = waits }) heard left
hears_told c heard left session waits (in_order given kept at few is) = in_order given kept at few is
hears_told c heard left session waits (losing lost all) = losing lost all

-- all lines were met
pub all_met : (c : ClientState) (heard : List ℕ) (given : ℕ) → c.buffer.limit ≡ line_limit → HasGivenAll c.buffer → WasFed c.buffer heard given → given ≡ length (lines line_limit heard)
all_met c heard given limit all at = all heard given at ∙ ap (λ (l : ℕ). length (lines l heard)) limit

-- ---- zips

pub zip_map : {A B : Type 0} (R S : A → B → Type 0) (xs : List A) (ys : List B) → ((x : A) (y : B) → R x y → S x y) → AllZip R xs ys → AllZip S xs ys
zip_map R S [] [] f z = tt
zip_map R S [] (y ∷ ys) f z = absurd z
zip_map R S (x ∷ xs) [] f z = absurd z
zip_map R S (x ∷ xs) (y ∷ ys) f z = (f x y z.0, zip_map R S xs ys f z.1)

pub zip_push : {A B : Type 0} (R : A → B → Type 0) (xs : List A) (ys : List B) (x : A) (y : B) → AllZip R xs ys → R x y → AllZip R (xs ++ x ∷ []) (ys ++ y ∷ [])
zip_push R [] [] x y z r = (r, tt)
zip_push R [] (b ∷ ys) x y z r = absurd z
zip_push R (a ∷ xs) [] x y z r = absurd z
zip_push R (a ∷ xs) (b ∷ ys) x y z r = (z.0, zip_push R xs ys x y z.1 r)

pub zip_length : {A B : Type 0} (R : A → B → Type 0) (xs : List A) (ys : List B) → AllZip R xs ys → length xs ≡ length ys
zip_length R [] [] z = refl
zip_length R [] (b ∷ ys) z = absurd z
zip_length R (a ∷ xs) [] z = absurd z
zip_length R (a ∷ xs) (b ∷ ys) z = ap suc (zip_length R xs ys z.1)

pub zip_all : {A B : Type 0} (R : A → B → Type 0) (P : A → Type 0) (Q : B → Type 0) (xs : List A) (ys : List B) → ((x : A) (y : B) → R x y → P x → Q y) → AllZip R xs ys → AllByRecursion P xs → AllByRecursion Q ys
zip_all R P Q [] [] f z all = tt
zip_all R P Q [] (b ∷ ys) f z all = absurd z
zip_all R P Q (a ∷ xs) [] f z all = absurd z
zip_all R P Q (a ∷ xs) (b ∷ ys) f z all = (f a b z.0 all.0, zip_all R P Q xs ys f z.1 all.1)

pub zip_filter : {A B : Type 0} (R S : A → B → Type 0) (p : A → Bool) (q : B → Bool) (xs : List A) (ys : List B) → ((x : A) (y : B) → R x y → p x ≡ q y) → ((x : A) (y : B) → R x y → q y ≡ true → S x y) → AllZip R xs ys
    → AllZip S (filter p xs) (filter q ys)
zip_filter R S p q [] [] same f z = tt
zip_filter R S p q [] (b ∷ ys) same f z = absurd z
zip_filter R S p q (a ∷ xs) [] same f z = absurd z
zip_filter R S p q (a ∷ xs) (b ∷ ys) same f z = elim (either (q b)) [
  | inl h ↦ rw (same a b z.0, h) (f a b z.0 h, zip_filter R S p q xs ys same f z.1)
  | inr h ↦ rw (same a b z.0, h) (zip_filter R S p q xs ys same f z.1)
]

-- ---- a client goes

numbered_same : (speaker : Option ℕ) (left : List Event) (p : ℕ) (c : ClientState) (x : Session) → IsSession speaker left c x → not (is_numbered p c) ≡ not (is_peer p x)
numbered_same speaker left p c x s = ap (λ (n : ℕ). not (n == p)) s.peer

other_peer : (p : ℕ) (x : Session) → not (is_peer p x) ≡ true → x.peer ≡ p → ⊥
other_peer p x e same = true≢false (sym e ∙ ap not (eq-eqb x.peer p same))

pub void_still : (p : ℕ) (sessions : List Session) (left : List Event) → AllVoid sessions left → AllVoid (filter (λ (y : Session). not (is_peer p y)) sessions) left
void_still p sessions left all = all_map _ _ left (λ e v. (v.0, v.1, gone_found v.0 p sessions v.2)) all

-- the client that speaks, or another one, goes
gone_by : (clients : List ClientState) (speaker : Option ℕ) (sessions : List Session) (p : ℕ) (left : List Event) → SessionsAre clients speaker None sessions left
    → SessionsAre (kept_clients p clients) (kept_speaker p speaker) None (filter (λ (y : Session). not (is_peer p y)) sessions) left
gone_by clients None sessions p left are = record {
  each = zip_filter (IsSession None left) (IsSession None left) _ _ clients sessions (λ c x s. numbered_same None left p c x s) (λ c x s h. s) are.each;
  rising = rising_filter _ sessions are.rising;
  leaves_left = void_still p sessions left are.leaves_left;
}
gone_by clients (Some q) sessions p left are = elim (either (q == p)) [
  | inl h ↦
      let same = eqb-true q p h in
      rw h (record {
        each = zip_filter (IsSession (Some q) left) (IsSession None left) _ _ clients sessions (λ c x s. numbered_same (Some q) left p c x s)
            (λ c x s k. record {
              peer = s.peer;
              limit = s.limit;
              kept = s.kept;
              waits = s.waits;
              met = λ n. s.met (λ e. other_peer p x k (sym s.peer ∙ sym (same_some q c.peer e) ∙ same));
              speaks = λ e. absurd (no_some c.peer (sym e));
            }) are.each;
        rising = rising_filter _ sessions are.rising;
        leaves_left = void_of clients sessions q p left same are.each are.leaves_left;
      })
  | inr h ↦
      rw h (record {
        each = zip_filter (IsSession (Some q) left) (IsSession (Some q) left) _ _ clients sessions (λ c x s. numbered_same (Some q) left p c x s) (λ c x s k. s) are.each;
        rising = rising_filter _ sessions are.rising;
        leaves_left = there_still q p sessions (λ e. differs q p h (sym e)) are.leaves_left;
      })
]
  where
    void_of : (cs : List ClientState) (ss : List Session) (q p : ℕ) (left : List Event) → q ≡ p → AllZip (IsSession (Some q) left) cs ss → list_any (is_peer q) ss ≡ true
        → AllVoid (filter (λ (y : Session). not (is_peer p y)) ss) left
    void_of cs ss q p left same z there =
        let h = heard_of cs ss q left z there in
        left_void _ h.0 h.1 left (rw (h.2, same) (gone_itself p ss)) h.3
      where
        heard_of : (cs : List ClientState) (ss : List Session) (q : ℕ) (left : List Event) → AllZip (IsSession (Some q) left) cs ss → list_any (is_peer q) ss ≡ true
            → (c : ClientState) × (heard : List ℕ) × (c.peer ≡ q) × HearsLeft c heard left
        heard_of [] [] q left z there = absurd (true≢false (sym there))
        heard_of [] (y ∷ ys) q left z there = absurd z
        heard_of (x ∷ xs) [] q left z there = absurd z
        heard_of (x ∷ xs) (y ∷ ys) q left z there = elim (either (is_peer q y)) [
          | inl h ↦
              let e : x.peer ≡ q = z.0.peer ∙ eqb-true y.peer q h in
              (x, y.heard, e, z.0.speaks (ap (λ (n : ℕ). Some n) (sym e)))
          | inr h ↦ heard_of xs ys q left z.1 (rw h at there)
        ]

kept_some : (p : ℕ) (u : Option ℕ) (q : ℕ) → kept_speaker p u ≡ Some q → u ≡ Some q
kept_some p None q e = e
kept_some p (Some r) q e = elim (either (r == p)) [
  | inl h ↦ absurd (no_some q (sym (rw h at e)))
  | inr h ↦ rw h at e
]

module _ {G : Type 0} (stands : G → Chain → Type 0) where
  pub gone_stands : (s : State G) (world : World) (p : ℕ) (left : List Event) → s.surplus ≡ None → Stands stands s world left → Stands stands (gone_from s p) (without_client p world) left
  gone_stands s world p left unused stood = record {
    chain = stood.chain;
    magic = stood.magic;
    found = stood.found;
    ahead = stood.ahead;
    start = stood.start;
    set = stood.set;
    ordered = stood.ordered;
    node = stood.node;
    said = stood.said;
    sessions = rw unused (gone_by s.clients s.speaker world.sessions p stood.said (rw unused at stood.sessions));
    speaker_last = λ q e.
        let l = stood.speaker_last q (kept_some p s.speaker q e) in
        (l.0, all_filter _ _ world.sessions l.1);
    surplus_last = λ q e. absurd (no_some q (sym e ∙ unused));
    before = stood.before;
    desk = stood.desk;
    tellings = tellings_gone world.side stood.start s.touched world.sessions p stood.tellings;
    left_is = stood.left_is;
  }
