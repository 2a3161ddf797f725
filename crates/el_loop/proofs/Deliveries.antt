-- What a turn gave, sent and closed.
use Rattle.std.proofs.Common.{◌≡◌, ◌⊎◌, inl, inr, ℕ, ◌==◌, true, false, List, [], ◌∷◌, ◌++◌, Some, None, refl, append-nil, IsTrue, eqb-true, Option}
use Rattle.std.specs.Option.{option_to_list}
use Rattle.el_outside.specs.Trace.{Trace, Message, Closing, GoesOn, longer, is_open}
use Rattle.el_outside.proofs.Traces.{goes_more, sent_stays_open, other_stays_open}
use Rattle.el_chain.specs.Chains.{Chain}
use Rattle.el_world.specs.World.{World, Event, Outs, is_client}
use Rattle.el_world.specs.Run.{IsClosingOf}
use Rattle.el_side.specs.Deeds.{Deed}
use Rattle.el_lines.proofs.Cuts.{either}
use Rattle.el_core.specs.State.{State}
use Rattle.el_loop.specs.within.Sending.{AllOpen, CanClose, Delivering, whole, broken, SentAll, closing_left, Closes}
use Rattle.el_loop.specs.within.Progress.{IsNotClosed, Delivered}
use Rattle.el_loop.proofs.Openness.{stranger_left, all_strangers}
use Rattle.el_loop.proofs.Sendings.{delivers}

still_stranger : (w : World) (c : Option Closing) (ms sent : List Message) (cs : List Closing)
    (ls : List Deed) (next : World) (lost : Option ℕ) (p : ℕ) → is_client p w ≡ false
    → Delivering w ms c sent cs ls next lost → is_client p next ≡ false
still_stranger w c ms sent cs ls next None p missing (whole is none lossless same) = rw same missing
still_stranger w c ms sent cs ls next (Some q) p missing
    (broken front m more reason split client departure are closed lost gone) =
    rw gone (stranger_left w.sessions p m.peer missing)

same_files : (w : World) (c : Option Closing) (ms sent : List Message) (cs : List Closing)
    (ls : List Deed) (next : World) (lost : Option ℕ) → Delivering w ms c sent cs ls next lost
    → next.side.files ≡ w.side.files
same_files w c ms sent cs ls next None (whole is none lossless same) = rw same refl
same_files w c ms sent cs ls next (Some q)
    (broken front m more reason split client departure are closed lost gone) = rw gone refl

-- messages first, and then the closing
two_steps : (s t : Trace) (ms : List Message) (c : Closing) → GoesOn s t [] ms (c ∷ [])
    → GoesOn (longer [] ms [] s) t [] [] (c ∷ [])
two_steps s t ms c goes = simp append-nil (simp append-nil at goes)

-- a peer is another one than the one that is lost
abbrev pub IsApart : ℕ → Option ℕ → Type 0
IsApart p lost = (q : ℕ) → lost ≡ Some q → (p == q) ≡ false

stays_open : (s t : Trace) (w : World) (c : Option Closing) (ms sent : List Message) (cs : List Closing)
    (ls : List Deed) (next : World) (lost : Option ℕ) (p : ℕ) → IsTrue (is_open s p) → IsApart p lost
    → Delivering w ms c sent cs ls next lost → GoesOn s t [] sent cs → IsTrue (is_open t p)
stays_open s t w c ms sent cs ls next None p open' apart (whole is none lossless same) goes =
    sent_stays_open s t p sent open' (rw none at goes)
stays_open s t w c ms sent cs ls next (Some q) p open' apart
    (broken front m more reason split client departure are closed lost gone) goes =
    let mid = longer [] sent [] s in
    let first = sent_stays_open s mid p sent open' refl in
    other_stays_open mid t p m.peer reason first (apart m.peer refl)
    (two_steps s t sent (record { peer = m.peer; why = reason }) (rw closed at goes))

-- who is no client and isn't to be closed isn't lost
not_lost : (w : World) (c : Option Closing) (p q : ℕ) → is_client p w ≡ false → IsNotClosed p c
    → (is_client q w ≡ true) ⊎ IsClosingOf c q → (p == q) ≡ false
not_lost w c p q missing apart (inl client) = elim (either (p == q)) [
  | inl h ↦ absurd (let e = eqb-true p q h in let f = rw e at missing in cc)
  | inr h ↦ h
]
not_lost w None p q missing apart (inr is) = absurd is
not_lost w (Some c) p q missing apart (inr is) = rw is at apart

stranger_apart : (w : World) (c : Option Closing) (ms sent : List Message) (cs : List Closing)
    (ls : List Deed) (next : World) (lost : Option ℕ) (p : ℕ) → is_client p w ≡ false → IsNotClosed p c
    → Delivering w ms c sent cs ls next lost → IsApart p lost
stranger_apart w c ms sent cs ls next None p missing apart d q e = absurd cc
stranger_apart w c ms sent cs ls next (Some r) p missing apart
    (broken front m more reason split client departure are closed lost gone) q e =
    let same : m.peer ≡ q = cc in
    rw same at (not_lost w c p m.peer missing apart client)

-- the closing that is left is the one of the turn
left_is : (lost : Option ℕ) (closing : Option Closing) (c : Closing) → closing_left lost closing ≡ Some c
    → closing ≡ Some c
left_is None closing c is = is
left_is (Some p) None c is = absurd cc
left_is (Some p) (Some d) c is = elim (either (d.peer == p)) [
  | inl h ↦ absurd (let e = rw h at is in cc)
  | inr h ↦ rw h at is
]

-- and of another peer than the one that is lost
left_apart : (lost : Option ℕ) (closing : Option Closing) (c : Closing)
    → closing_left lost closing ≡ Some c → IsApart c.peer lost
left_apart None closing c is q e = absurd cc
left_apart (Some p) None c is q e = absurd cc
left_apart (Some p) (Some d) c is q e = elim (either (d.peer == p)) [
  | inl h ↦ absurd (let f = rw h at is in cc)
  | inr h ↦
      let same : p ≡ q = cc in
      let one : d ≡ c = (let f = rw h at is in cc) in
      rw (same, one) at h
]

-- a closing goes over the link
closes_one : (before mid after : Trace) (w next : World) (ms sent : List Message) (cs : List Closing)
    (ls : List Deed) (lost : Option ℕ) (closing left : Option Closing)
    → ((c : Closing) → left ≡ Some c → closing ≡ Some c) → ((c : Closing) → left ≡ Some c → IsApart c.peer lost)
    → CanClose w before closing
    → Delivering w ms closing sent cs ls next lost → GoesOn before mid [] sent cs
    → AllOpen mid next.sessions → Closes left mid after
    → GoesOn before after [] sent (cs ++ option_to_list left) × AllOpen after next.sessions
closes_one before mid after w next ms sent cs ls lost closing None is apart can d goes are same =
    (rw (same, append-nil cs) goes, rw same are)
closes_one before mid after w next ms sent cs ls lost closing (Some c) is apart can d goes are shut =
    let can' : IsTrue (is_open before c.peer) × (is_client c.peer w ≡ false) = (rw (is c refl) at can) in
    let open' = stays_open before mid w closing ms sent cs ls next lost c.peer can'.0 (apart c refl) d goes in
    let then' = shut open' in
    let both = goes_more before mid after [] [] sent [] cs (c ∷ []) goes then' in (
      rw (append-nil sent) at both,
      all_strangers mid after next.sessions c.peer c.why then' are
          (still_stranger w closing ms sent cs ls next lost c.peer can'.1 d),
    )

-- a peer that is not the one to close stays open
apart_left : (lost : Option ℕ) (closing : Option Closing) (q : ℕ) → IsNotClosed q closing
    → IsNotClosed q (closing_left lost closing)
apart_left None closing q apart = apart
apart_left (Some p) None q apart = tt
apart_left (Some p) (Some c) q apart = elim (either (c.peer == p)) [ inl h ↦ rw h tt | inr h ↦ rw h apart ]

apart_open : (mid after : Trace) (q : ℕ) (left : Option Closing) → IsNotClosed q left
    → ((c : Closing) → left ≡ Some c → IsTrue (is_open mid c.peer)) → IsTrue (is_open mid q)
    → Closes left mid after → IsTrue (is_open after q)
apart_open mid after q None apart shut open' same = rw same open'
apart_open mid after q (Some c) apart shut open' goes =
    other_stays_open mid after q c.peer c.why open' apart (goes (shut c refl))

pub delivered : {G : Type 0} (stands : G → Chain → Type 0) (tells : Type 0) (w : World) (rest : List Event)
    (outs : Outs) (lost : Option ℕ) (s now : State G)
    (before mid after : Trace) (low middle high : ℕ) → (tells → CanClose w before outs.closing)
    → SentAll stands tells w rest outs.closing outs.messages lost s before low now mid middle
    → (tells → Closes (closing_left lost outs.closing) mid after) → high ≡ middle
    → Delivered stands tells w rest outs s before low now after high
delivered stands tells w rest outs lost s now before mid after low middle high can far closes still =
    let both = λ (t : tells).
    closes_one before mid after w far.next outs.messages far.sent far.closings far.losses lost outs.closing
    (closing_left lost outs.closing)
    (left_is lost outs.closing) (left_apart lost outs.closing) (can t) far.delivers (far.trace t)
    (far.are_open t) (closes t) in
    record {
      sent = far.sent;
      closings = far.closings ++ option_to_list (closing_left lost outs.closing);
      losses = far.losses;
      next = far.next;
      delivers = delivers w outs.messages far.sent far.closings far.losses far.next lost outs.closing
          far.delivers;
      stood = far.stood;
      ledger = far.ledger;
      surplus = far.surplus;
      files = same_files w outs.closing outs.messages far.sent far.closings far.losses far.next lost
          far.delivers;
      trace = λ t. (both t).0;
      are_open = λ t. (both t).1;
      others = λ q t apart open' missing. (
        apart_open mid after q (closing_left lost outs.closing) (apart_left lost outs.closing q apart)
            (λ c is.
            let can' : IsTrue (is_open before c.peer) × (is_client c.peer w ≡ false) =
            (rw (left_is lost outs.closing c is) at (can t)) in
            stays_open before mid w outs.closing outs.messages far.sent far.closings far.losses far.next lost
            c.peer can'.0 (left_apart lost outs.closing c is) far.delivers (far.trace t))
            (stays_open before mid w outs.closing outs.messages far.sent far.closings far.losses far.next lost q
            open' (stranger_apart w outs.closing outs.messages far.sent far.closings far.losses far.next lost q
            missing apart far.delivers) far.delivers (far.trace t))
            (closes t),
        still_stranger w outs.closing outs.messages far.sent far.closings far.losses far.next lost q missing
            far.delivers,
      );
      rose = rw still far.rose;
    }
