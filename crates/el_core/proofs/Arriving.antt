-- What the server makes of an arrival.
use Rattle.std.proofs.Common.{◌≡◌, Bool, inl, inr, ℕ, zero, suc, ◌<◌, ◌≤◌, true, false, nat_lt, List, [], ◌∷◌, ◌++◌, length, map, drop, slice_get, Option, Some, None, refl, sym, ap, ◌∙◌, append-nil, subst, eq-eqb, arith, length-append, length-drop}
use Rattle.std.specs.List.{AllByRecursion, AllZip, flat_map}
use Rattle.std.proofs.lemmas.List.{length-map}
use Rattle.el_outside.specs.declared.archive.Archive as archive
use Rattle.el_outside.specs.Trace.{ArrivalWithBytes, opened, brought, closed}
use Rattle.el_chain.specs.Chains.{Chain}
use Rattle.el_chain.specs.declared.node.Node.{Node}
use Rattle.el_lines.specs.Lines.{LineEvent, lines, added_lines}
use Rattle.el_lines.specs.NodeAnswers.{node_limit}
use Rattle.el_world.specs.World as model
use Rattle.el_world.specs.World.{World, Session, Event, new_session, IsStill, AllTold, nothing, joins, leaves, says, orders, events, after_hearing, lines_said, is_peer, with_client, without_client, hearing, line_limit, client_limit}
use Rattle.el_world.specs.Run as run
use Rattle.el_world.specs.Run.{Turns}
use Rattle.el_lines.proofs.Cuts.{either, pieces}
use Rattle.el_lines.specs.LineStates.{WasFed}
use Rattle.el_fees.specs.Tables.{IsTableOf}
use Rattle.el_side.specs.Caching.{CachesStand}
use Rattle.el_relay.specs.Desk.{empty_desk}
use Rattle.el_core.specs.State.{State, ClientState, IsIdle, IsMet, HearsLeft, in_order, losing, IsSession, Rising, SessionsAre, Tellings, NoneWaits, NodeLeaves, Stands, is_numbered}
use Rattle.el_core.specs.Arrivals.{TookArrival, IsAfterArrival, Quietly, none, joined, departed, gone_from}
use Rattle.el_core.specs.within.Clients.{IsNewClient, Opens, node, joins as adds, one_more, Hears, nobody, client, KeepsBytes, IsFed, IsClientPlace, client_replaced}
use Rattle.el_core.proofs.Places.{not_same, no_some, zip_at, zip_replaced, rising_replaced, rising_more, all_at, all_map, all_replaced, one_mapped, one_there, none_mapped}
use Rattle.el_core.proofs.Tellings.{none_waits}
use Rattle.el_core.proofs.Sessions.{said_all, gone_stands, zip_push, zip_length, zip_all}

-- turns that do the same as what was done at once
pub quiet_turns : {A : Type 0} (f : archive.Ghosts A) (world next : World) (done : List Event) → IsStill world → AllTold world → Quietly world done next → Turns f world done [] [] [] next
quiet_turns f world next done still all_told none = run.none
quiet_turns f world next done still all_told (joined p few) =
    run.more [] [] [] [] world (joins p ∷ []) nothing [] (with_client p world) [] [] [] (with_client p world) run.none
    (run.takes (joins p) still all_told refl (rw few (refl, refl, refl))) (run.all (with_client p world) None)
quiet_turns f world next done still all_told (departed p) =
    run.more [] [] [] [] world (leaves p ∷ []) nothing [] (without_client p world) [] [] [] (without_client p world) run.none
    (run.takes (leaves p) still all_told refl (refl, refl, refl)) (run.all (without_client p world) None)

all_more : {A : Type 0} (P : A → Type 0) (xs : List A) (y : A) → AllByRecursion P xs → P y → AllByRecursion P (xs ++ y ∷ [])
all_more P [] y all h = (h, tt)
all_more P (x ∷ xs) y all h = (all.0, all_more P xs y all.1 h)

no_first : (a b : List Event) → [] ≡ a ++ b → a ≡ []
no_first [] b e = refl
no_first (x ∷ a) b e = absurd (let f = e in cc)

no_second : (a b : List Event) → [] ≡ a ++ b → b ≡ []
no_second [] b e = sym e
no_second (x ∷ a) b e = absurd (let f = e in cc)

-- none is left
all_given : (ls : List LineEvent) (given : ℕ) → given ≤ length ls → map orders (drop given ls) ≡ [] → given ≡ length ls
all_given ls given few none_left =
    let e : length (map orders (drop given ls)) ≡ 0 = ap (λ (l : List Event). length l) none_left in
    let f = simp length-map at e in
    let d = length-drop given ls in
    omega arith

new_session_is : (p : ℕ) (c : ClientState) → IsNewClient p c → IsSession None [] c (new_session p)
new_session_is p c fresh = record {
  peer = fresh.peer;
  limit = fresh.limit;
  kept = fresh.session;
  waits = fresh.waits;
  met = λ n. record { kept = fresh.kept; at = fresh.at };
  speaks = λ e. absurd (no_some c.peer (sym e));
}

-- the lines that bytes of one client add
none_said : (p : ℕ) (bytes : List ℕ) (ys : List Session) → AllByRecursion (λ (y : Session). is_peer p y ≡ false) ys → flat_map (lines_said p bytes) ys ≡ []
none_said p bytes [] all = refl
none_said p bytes (y ∷ ys) all = rw all.0 (none_said p bytes ys all.1)

none_above : (p : ℕ) (ys : List Session) → AllByRecursion (λ (y : Session). p < y.peer) ys → AllByRecursion (λ (y : Session). is_peer p y ≡ false) ys
none_above p ys all = all_map _ _ ys (λ y l. not_same y.peer p (λ e. (let k : p < p = subst (λ (n : ℕ). p < n) e l in omega arith))) all

one_said : (p : ℕ) (bytes : List ℕ) (ys : List Session) (i : ℕ) (s : Session) → Rising ys → slice_get ys i ≡ Some s → s.peer ≡ p
    → flat_map (lines_said p bytes) ys ≡ map (says p) (added_lines line_limit s.heard bytes)
one_said p bytes [] i s up at is = absurd (no_some s (sym at))
one_said p bytes (y ∷ ys) zero s up at is =
    let e : y ≡ s = cc in
    let f : y.peer ≡ p = ap (λ (t : Session). t.peer) e ∙ is in
    let all = subst (λ (q : ℕ). AllByRecursion (λ (u : Session). q < u.peer) ys) f up.0 in
    rw (eq-eqb y.peer p f, none_said p bytes ys (none_above p ys all))
    (append-nil (map (says p) (added_lines line_limit y.heard bytes)) ∙ ap (λ (t : Session). map (says p) (added_lines line_limit t.heard bytes)) e)
one_said p bytes (y ∷ ys) (suc i) s up at is =
    let l = all_at (λ (u : Session). y.peer < u.peer) ys i s up.0 at in
    let e : is_peer p y ≡ false = not_same y.peer p (λ same. (let k : p < p = rw (same, is) at l in omega arith)) in
    rw e (one_said p bytes ys i s up.1 at is)

module _ {G : Type 0} (stands : G → Chain → Type 0) where
  sessions_none : (s : State G) (world : World) → Stands stands s world [] → SessionsAre s.clients s.speaker s.surplus world.sessions []
  sessions_none s world stood = subst (λ (l : List Event). SessionsAre s.clients s.speaker s.surplus world.sessions l) (no_second stood.ordered stood.said stood.left_is) stood.sessions

  -- only the clients change
  clients_change : (s : State G) (world : World) (clients : List ClientState) (speaker surplus : Option ℕ) (ss : List Session) (left : List Event) (stood : Stands stands s world [])
      → SessionsAre clients speaker surplus ss left → ((p : ℕ) → speaker ≡ Some p → NoneWaits ss) → ((p : ℕ) → surplus ≡ Some p → NoneWaits ss) → Tellings world.side stood.start s.touched ss
      → Stands stands (record s { clients = clients; speaker = speaker; surplus = surplus }) (record world { sessions = ss }) left
  clients_change s world clients speaker surplus ss left stood are spoken last tellings = record {
    chain = stood.chain;
    magic = stood.magic;
    found = stood.found;
    ahead = stood.ahead;
    start = stood.start;
    set = stood.set;
    ordered = [];
    node = subst (λ (l : List Event). NodeLeaves s.node world.heard l) (no_first stood.ordered stood.said stood.left_is) stood.node;
    said = left;
    sessions = are;
    speaker_last = λ p e. (refl, spoken p e);
    surplus_last = λ p e. (refl, last p e);
    before = stood.before;
    desk = stood.desk;
    tellings = tellings;
    left_is = refl;
  }

  -- a client joins
  joined_taken : (s : State G) (world : World) (p : ℕ) (c : ClientState) → (p ≡ 0 → ⊥) → IsIdle s → AllByRecursion (λ (d : ClientState). d.peer < p) s.clients → Stands stands s world [] → IsNewClient p c
      → nat_lt (length s.clients) client_limit ≡ true → TookArrival stands (opened p) world (record s { clients = s.clients ++ c ∷ [] })
  joined_taken s world p c other idle newest stood fresh few =
      let t = stood.tellings in
      let are : SessionsAre s.clients None None world.sessions [] = rw (idle.speaker, idle.surplus) at (sessions_none s world stood) in
      let here : SessionsAre (s.clients ++ c ∷ []) s.speaker s.surplus (with_client p world).sessions [] = rw (idle.speaker, idle.surplus) (record {
        each = zip_push (IsSession None []) s.clients world.sessions c (new_session p) are.each (new_session_is p c fresh);
        rising = rising_more world.sessions (new_session p) are.rising
            (zip_all (IsSession None []) (λ (d : ClientState). d.peer < p) (λ (u : Session). u.peer < p) s.clients world.sessions (λ d u r l. rw r.peer at l) are.each newest);
        leaves_left = tt;
      }) in
      record {
        done = joins p ∷ [];
        left = [];
        next = with_client p world;
        whole = rw (not_same p 0 other) refl;
        quietly = joined p (rw (← zip_length (IsSession None []) s.clients world.sessions are.each) few);
        stood = clients_change s world (s.clients ++ c ∷ []) s.speaker s.surplus (with_client p world).sessions [] stood here (λ q e. absurd (no_some q (sym e ∙ idle.speaker))) (λ q e. absurd (no_some q (sym e ∙ idle.surplus)))
            (record {
              untouched = λ sure. all_more _ world.sessions (new_session p) (t.untouched sure) tt;
              told = λ sure still. all_more _ world.sessions (new_session p) (t.told sure still) (λ w. tt);
              busy = λ some. absurd (some (sym stood.ahead ∙ idle.ahead));
            });
        after = inl (refl, idle.surplus);
      }

  -- a client too many comes
  more_taken : (s : State G) (world : World) (p : ℕ) → (p ≡ 0 → ⊥) → IsIdle s → Stands stands s world [] → nat_lt (length s.clients) client_limit ≡ false
      → TookArrival stands (opened p) world (record s { surplus = Some p })
  more_taken s world p other idle stood many =
      let are : SessionsAre s.clients None None world.sessions [] = rw (idle.speaker, idle.surplus) at (sessions_none s world stood) in
      record {
        done = [];
        left = joins p ∷ [];
        next = world;
        whole = rw (not_same p 0 other) refl;
        quietly = none;
        stood = clients_change s world s.clients s.speaker (Some p) world.sessions (joins p ∷ []) stood
            (rw idle.speaker (record {
              each = zip_again s.clients world.sessions are.each;
              rising = are.rising;
              leaves_left = (refl, rw (← zip_length (IsSession None []) s.clients world.sessions are.each) many);
            }))
            (λ q e. absurd (no_some q (sym e ∙ idle.speaker)))
            (λ q e. zip_all (IsSession None []) (λ (d : ClientState). d.waits ≡ false) (λ (u : Session). u.waits ≡ false) s.clients world.sessions (λ d u r l. sym r.waits ∙ l) are.each (none_waits s.clients idle.told))
            stood.tellings;
        after = inr (inl (refl, refl));
      }
    where
      zip_again : (cs : List ClientState) (ss : List Session) → AllZip (IsSession None []) cs ss → AllZip (IsSession None (joins p ∷ [])) cs ss
      zip_again [] [] z = tt
      zip_again [] (y ∷ ys) z = absurd z
      zip_again (x ∷ xs) [] z = absurd z
      zip_again (x ∷ xs) (y ∷ ys) z =
          (record { peer = z.0.peer; limit = z.0.limit; kept = z.0.kept; waits = z.0.waits; met = z.0.met; speaks = λ e. absurd (no_some x.peer (sym e)) }, zip_again xs ys z.1)

  pub opened_taken : (s next : State G) (world : World) (p : ℕ) → IsIdle s → AllByRecursion (λ (d : ClientState). d.peer < p) s.clients → Stands stands s world [] → Opens p s next → TookArrival stands (opened p) world next
  opened_taken s next world p idle newest stood (node is_zero same) = rw (same, is_zero) (record {
    done = [];
    left = [];
    next = world;
    whole = refl;
    quietly = none;
    stood = stood;
    after = inr (inr (refl, idle.surplus));
  })
  opened_taken s next world p idle newest stood (adds other c fresh few made) = rw made (joined_taken s world p c other idle newest stood fresh few)
  opened_taken s next world p idle newest stood (one_more other many made) = rw made (more_taken s world p other idle stood many)

  -- a client goes
  pub closed_taken : (s : State G) (world : World) (p : ℕ) → IsIdle s → Stands stands s world [] → TookArrival stands (closed p) world (gone_from s p)
  closed_taken s world p idle stood = record {
    done = leaves p ∷ [];
    left = [];
    next = without_client p world;
    whole = refl;
    quietly = departed p;
    stood = gone_stands stands s world p [] idle.surplus stood;
    after = (refl, idle.surplus);
  }

  -- nothing comes
  pub nothing_taken : (s : State G) (world : World) (arrival : ArrivalWithBytes) → events world arrival ≡ [] → after_hearing arrival world ≡ world → IsAfterArrival arrival world world s.surplus
      → Stands stands s world [] → TookArrival stands arrival world s
  nothing_taken s world arrival nothing_met same after stood = record {
    done = [];
    left = [];
    next = world;
    whole = nothing_met;
    quietly = rw same none;
    stood = stood;
    after = after;
  }

  -- bytes of a client come
  more_lines : (heard bytes : List ℕ) → length (lines line_limit heard) ≤ length (lines line_limit (heard ++ bytes))
  more_lines heard bytes = rw (pieces line_limit heard bytes) (simp length-append (omega arith))

  more_left : (c next : ClientState) (heard bytes : List ℕ) → IsMet c heard → KeepsBytes bytes c next → HearsLeft next (heard ++ bytes) (map (says c.peer) (added_lines line_limit heard bytes))
  more_left c next heard bytes met keeps = elim (either next.lost) [
    | inl h ↦ losing h (rw keeps.peer (said_all c.peer (added_lines line_limit heard bytes)))
    | inr h ↦
        let fed = rw h at keeps.kept in
        in_order (length (lines line_limit heard)) h (fed heard (length (lines line_limit heard)) met.at) (more_lines heard bytes) (rw keeps.peer refl)
  ]

  speaks_now : (p : ℕ) (left : List Event) (c kept : ClientState) (x : Session) (bytes : List ℕ) → c.peer ≡ p → left ≡ map (says p) (added_lines line_limit x.heard bytes) → KeepsBytes bytes c kept → IsSession None [] c x
      → IsSession (Some p) left kept (record x { heard = x.heard ++ bytes })
  speaks_now p left c kept x bytes is whole keeps s = record {
    peer = keeps.peer ∙ s.peer;
    limit = keeps.limit ∙ s.limit;
    kept = keeps.session ∙ s.kept;
    waits = keeps.waits ∙ s.waits;
    met = λ n. absurd (n (ap (λ (q : ℕ). Some q) (sym (keeps.peer ∙ is))));
    speaks = λ e. rw (whole, ← is) (more_left c kept x.heard bytes (s.met (λ f. no_some c.peer (sym f))) keeps);
  }

  pub client_taken : (s : State G) (world : World) (p : ℕ) (bytes : List ℕ) (i : ℕ) (c kept : ClientState) → (p ≡ 0 → ⊥) → IsIdle s → Stands stands s world [] → slice_get s.clients i ≡ Some c → c.peer ≡ p
      → KeepsBytes bytes c kept → TookArrival stands (brought p bytes) world (record s { clients = client_replaced i (Some kept) s.clients; speaker = Some p })
  client_taken s world p bytes i c kept other idle stood at is keeps =
      let are : SessionsAre s.clients None None world.sessions [] = rw (idle.speaker, idle.surplus) at (sessions_none s world stood) in
      let t = stood.tellings in
      let quiet_before : NoneWaits world.sessions =
      zip_all (IsSession None []) (λ (d : ClientState). d.waits ≡ false) (λ (u : Session). u.waits ≡ false) s.clients world.sessions (λ d u r l. sym r.waits ∙ l) are.each (none_waits s.clients idle.told) in
      let z = zip_at (IsSession None []) s.clients world.sessions i c are.each at in
      let x = z.0 in
      let xp : x.peer ≡ p = sym z.2.peer ∙ is in
      let left = map (says p) (added_lines line_limit x.heard bytes) in
      let heard : map (hearing p bytes) world.sessions ≡ client_replaced i (Some (record x { heard = x.heard ++ bytes })) world.sessions =
      one_mapped p (λ (y : Session). record y { heard = y.heard ++ bytes }) world.sessions i x are.rising z.1 xp in
      let ss = client_replaced i (Some (record x { heard = x.heard ++ bytes })) world.sessions in
      let now_are : SessionsAre (client_replaced i (Some kept) s.clients) (Some p) None ss left = record {
        each = zip_replaced (IsSession None []) (IsSession (Some p) left) s.clients world.sessions i x (Some kept) (Some (record x { heard = x.heard ++ bytes })) are.each are.rising z.1
            (λ d y r differ. record {
              peer = r.peer;
              limit = r.limit;
              kept = r.kept;
              waits = r.waits;
              met = λ n. r.met (λ f. no_some d.peer (sym f));
              speaks = λ e. absurd (differ (sym r.peer ∙ sym (same_number p d.peer e) ∙ sym xp));
            })
            (speaks_now p left c kept x bytes is refl keeps z.2);
        rising = rising_replaced world.sessions i x (Some (record x { heard = x.heard ++ bytes })) are.rising z.1 refl;
        leaves_left = one_there p ss i (record x { heard = x.heard ++ bytes }) (at_replaced world.sessions i x (record x { heard = x.heard ++ bytes }) z.1) xp;
      } in
      let now : Stands stands (record s { clients = client_replaced i (Some kept) s.clients; speaker = Some p; surplus = s.surplus }) (record world { sessions = ss }) left =
      clients_change s world (client_replaced i (Some kept) s.clients) (Some p) s.surplus ss left stood
      (subst (λ (u : Option ℕ). SessionsAre (client_replaced i (Some kept) s.clients) (Some p) u ss left) (sym idle.surplus) now_are)
      (λ q e. all_replaced _ world.sessions i (Some (record x { heard = x.heard ++ bytes })) quiet_before (all_at _ world.sessions i x quiet_before z.1))
      (λ q e. absurd (no_some q (sym e ∙ idle.surplus)))
      (record {
        untouched = λ sure. all_replaced _ world.sessions i (Some (record x { heard = x.heard ++ bytes })) (t.untouched sure) (all_at _ world.sessions i x (t.untouched sure) z.1);
        told = λ sure still. all_replaced _ world.sessions i (Some (record x { heard = x.heard ++ bytes })) (t.told sure still) (all_at _ world.sessions i x (t.told sure still) z.1);
        busy = λ some. absurd (some (sym stood.ahead ∙ idle.ahead));
      }) in
      record {
        done = [];
        left = left;
        next = record world { sessions = ss };
        whole = rw (not_same p 0 other) (one_said p bytes world.sessions i x are.rising z.1 xp);
        quietly = rw (not_same p 0 other, heard) none;
        stood = now;
        after = (rw (not_same p 0 other, heard) refl, idle.surplus);
      }
    where
      same_number : (a b : ℕ) → ◌≡◌ {A = Option ℕ} (Some a) (Some b) → a ≡ b
      same_number a b e = cc

      at_replaced : (ys : List Session) (j : ℕ) (y n : Session) → slice_get ys j ≡ Some y → slice_get (client_replaced j (Some n) ys) j ≡ Some n
      at_replaced [] j y n at = absurd (no_some y (sym at))
      at_replaced (u ∷ ys) zero y n at = refl
      at_replaced (u ∷ ys) (suc j) y n at = at_replaced ys j y n at

  -- bytes of nobody come
  pub nobody_taken : (s : State G) (world : World) (p : ℕ) (bytes : List ℕ) → (p ≡ 0 → ⊥) → IsIdle s → Stands stands s world [] → IsClientPlace p s.clients None → TookArrival stands (brought p bytes) world s
  nobody_taken s world p bytes other idle stood absent =
      let are : SessionsAre s.clients None None world.sessions [] = rw (idle.speaker, idle.surplus) at (sessions_none s world stood) in
      let no : AllByRecursion (λ (y : Session). is_peer p y ≡ false) world.sessions =
      zip_all (IsSession None []) (λ (d : ClientState). is_numbered p d ≡ false) (λ (y : Session). is_peer p y ≡ false) s.clients world.sessions (λ d y r l. rw r.peer at l) are.each absent in
      let same = none_mapped p (λ (y : Session). record y { heard = y.heard ++ bytes }) world.sessions no in
      record {
        done = [];
        left = [];
        next = world;
        whole = rw (not_same p 0 other) (none_said p bytes world.sessions no);
        quietly = rw (not_same p 0 other, same) none;
        stood = stood;
        after = (rw (not_same p 0 other, same) refl, idle.surplus);
      }

  pub heard_taken : (s next : State G) (world : World) (p : ℕ) (bytes : List ℕ) → (p ≡ 0 → ⊥) → IsIdle s → Stands stands s world [] → Hears p bytes s next → TookArrival stands (brought p bytes) world next
  heard_taken s next world p bytes other idle stood (nobody absent same) = rw same (nobody_taken s world p bytes other idle stood absent)
  heard_taken s next world p bytes other idle stood (client i c kept at is keeps made) = rw made (client_taken s world p bytes i c kept other idle stood at is keeps)

  -- bytes of the node come
  pub node_taken : (s next : State G) (world : World) (p : ℕ) (bytes : List ℕ) → p ≡ 0 → IsIdle s → Stands stands s world [] → next ≡ record s { node = next.node }
      → next.node.limit ≡ s.node.limit → IsFed s.node bytes next.node → TookArrival stands (brought p bytes) world next
  node_taken s next world p bytes zero_is idle stood same limit fed =
      let n = stood.node in
      let all : n.given ≡ length (lines node_limit world.heard) =
      all_given (lines node_limit world.heard) n.given n.few (sym n.left_is ∙ no_first stood.ordered stood.said stood.left_is) in
      let at' = fed world.heard n.given n.at in
      rw zero_is (record {
        done = [];
        left = map orders (added_lines node_limit world.heard bytes);
        next = record world { heard = world.heard ++ bytes };
        whole = refl;
        quietly = none;
        stood = record {
          chain = rw (ap (λ (u : State G). u.ledger) same) stood.chain;
          magic = ap (λ (u : State G). u.holdings.magic) same ∙ stood.magic;
          found = ap (λ (u : State G). u.holdings.tree) same ∙ stood.found;
          ahead = ap (λ (u : State G). u.ahead) same ∙ stood.ahead;
          start = stood.start;
          set = rw (ap (λ (u : State G). u.holdings) same, ap (λ (u : State G). u.caches) same) stood.set;
          ordered = map orders (added_lines node_limit world.heard bytes);
          node = record {
            limit = limit ∙ n.limit;
            given = n.given;
            at = at';
            few = rw (all, pieces node_limit world.heard bytes) (simp length-append (omega arith));
            left_is = rw all refl;
          };
          said = [];
          sessions = rw (ap (λ (u : State G). u.clients) same, ap (λ (u : State G). u.speaker) same, ap (λ (u : State G). u.surplus) same) (sessions_none s world stood);
          speaker_last = λ q e. absurd (no_some q (sym e ∙ ap (λ (u : State G). u.speaker) same ∙ idle.speaker));
          surplus_last = λ q e. absurd (no_some q (sym e ∙ ap (λ (u : State G). u.surplus) same ∙ idle.surplus));
          before = λ sure. ap (λ (u : State G). u.before) same ∙ stood.before sure;
          desk = ap (λ (u : State G). u.desk) same ∙ stood.desk;
          tellings = rw (ap (λ (u : State G). u.touched) same) stood.tellings;
          left_is = sym (append-nil (map orders (added_lines node_limit world.heard bytes)));
        };
        after = (refl, ap (λ (u : State G). u.surplus) same ∙ idle.surplus);
      })

  -- before any arrival
  pub new_stands : (s : State G) (sure relays : Bool) (chain : Chain) (magic : List ℕ) (found : List Node) (files : ℕ → List ℕ) → (sure ≡ true → stands s.ledger chain) → (sure ≡ true → CachesStand s.caches chain chain) → s.holdings.magic ≡ magic → s.holdings.tree ≡ found → s.ahead ≡ []
      → s.holdings.pool.entries ≡ [] → IsTableOf s.holdings.fees [] → s.clients ≡ [] → s.speaker ≡ None → s.surplus ≡ None → s.before ≡ None → s.desk ≡ empty_desk relays → s.node.limit ≡ node_limit → WasFed s.node [] 0
      → Stands stands s (model.initial_world sure chain magic s.holdings.pool.limits found files relays) []
  new_stands s sure relays chain magic found files stood kept m f a none_kept no_fees c sp u b d limit at' = record {
    chain = stood;
    magic = m;
    found = f;
    ahead = a;
    start = chain;
    set = record { stood = λ e. rw none_kept (record { sifted = refl; are = refl; once = tt }); fees = λ e. rw none_kept no_fees; computed = kept; still = λ e. refl; limits = refl };
    ordered = [];
    node = record { limit = limit; given = 0; at = at'; few = omega arith; left_is = refl };
    said = [];
    sessions = rw (c, sp, u) (record { each = tt; rising = tt; leaves_left = tt });
    speaker_last = λ q e. absurd (no_some q (sym e ∙ sp));
    surplus_last = λ q e. absurd (no_some q (sym e ∙ u));
    before = λ e. b;
    desk = d;
    tellings = record { untouched = λ e. tt; told = λ e still. tt; busy = λ some. tt };
    left_is = refl;
  }
