-- A commit on a disk, step by step.
use Rattle.std.proofs.Common.{◌≡◌, ◌≢◌, inl, inr, ⊎_elim, ℕ, ◌<◌, ◌≤◌, List, [], ◌∷◌, ◌++◌, length, sym, ◌∙◌, ap, subst, arith}
use Rattle.el_outside.specs.declared.disk.Disk as disk
use Rattle.el_outside.specs.Disk.{Image, over, OnDisk}
use Rattle.el_outside.specs.Moments.{LeftNow}
use Rattle.el_outside.proofs.Moments.{joined, weaker}
use Rattle.el_row_formats.specs.declared.table.Table.{Table}
use Rattle.el_row_formats.specs.Tables.{Tables}
use Rattle.el_rows.specs.Reads.{IsEither}
use Rattle.el_redone.specs.Redone.{Write, overlaid, WritesFit, into, IsClosed, ImageStandsFor, record_bytes}
use Rattle.el_redone.specs.Steps.{EachNow, Leaves, HasRoot, IsAside, IsGated, WillBe, AreOnDisk, IsAtRest, StaysAside}
use Rattle.el_redone.specs.declared.steps.TheConstants.{ROOT}
use Rattle.el_redone.proofs.Runs.{now_has}
use Rattle.el_pages.specs.declared.layout.Layout.{Layout}
use Rattle.el_pages.specs.Layouts.{redo_of}
use Rattle.el_pages.specs.Records.{Spells}
use Rattle.el_pages.specs.Indexes.{HasCounts, ShowsTables, tables_in}
use Rattle.el_pages.proofs.Laid.{root_spared}
use Rattle.el_pages.proofs.Stands.{aside_stands, gated_stands, will_stand, settled_stands}

module _ {D : Type 0} (G : disk.Ghosts D) (earlier : (d : D) (t u : ℕ) (c : Image) → t ≤ u → G.left_since d u c → G.left_since d t c)
    (l : Layout) (body stale : List ℕ) (ws : List Write) where
  -- before it
  pub rest_aside : (old : D) → IsAtRest G l.first (redo_of l) old → EachNow G (IsAside l.first (redo_of l) (G.seen old)) old
  rest_aside old rest c left = record {
    same = λ f low lt. rest.on_disk f low lt c left;
    root = λ after. rest.root_on_disk after c left;
    closed = subst (λ (b : List ℕ). IsClosed b) (sym (rest.redo_on_disk c left)) rest.closed;
  }

  module _ (files : Image) where
    -- after step 1
    pub staged_gated : (old new : D) (gate : ℕ) → EachNow G (IsAside l.first (redo_of l) files) old → StaysAside G l.first (redo_of l) old new
        → G.seen new (redo_of l) ≡ gate ∷ (record_bytes body ++ stale) → OnDisk (redo_of l) (G.seen new) (LeftNow G.moment G.left_since new)
        → EachNow G (IsGated l.first (redo_of l) files (record_bytes body ++ stale)) new
    staged_gated old new gate each stays is durable c left =
        let aside = now_has G earlier old new (IsAside l.first (redo_of l) files) (stays.crash files each) c left in
        record { same = aside.same; root = aside.root; gate = gate; is = durable c left ∙ is }

    -- after step 2
    pub opened_will_be : (old new : D) → (redo_of l < ROOT → into ROOT ws ≡ []) → EachNow G (IsGated l.first (redo_of l) files (record_bytes body ++ stale)) old
        → (EachNow G (IsGated l.first (redo_of l) files (record_bytes body ++ stale)) old → Leaves G (IsGated l.first (redo_of l) files (record_bytes body ++ stale)) old new)
        → G.seen new (redo_of l) ≡ 1 ∷ (record_bytes body ++ stale) → OnDisk (redo_of l) (G.seen new) (LeftNow G.moment G.left_since new)
        → ((f : ℕ) → l.first ≤ f → f < redo_of l → WritesFit (into f ws) (length (files f)))
        → EachNow G (WillBe l.first (redo_of l) (λ f. overlaid (into f ws) (files f)) ws (1 ∷ (record_bytes body ++ stale))) new
    opened_will_be old new none each run is durable fits c left =
        let gated = now_has G earlier old new (IsGated l.first (redo_of l) files (record_bytes body ++ stale)) (run each) c left in
        record {
          file_is = durable c left ∙ is;
          root = λ after. gated.root after ∙ sym (ap (λ (w : List Write). overlaid w (files ROOT)) (none after));
          same = λ f low lt. ap (λ (b : List ℕ). overlaid (into f ws) b) (gated.same f low lt);
          fits = λ f low lt. subst (λ (b : List ℕ). WritesFit (into f ws) (length b)) (sym (gated.same f low lt)) (fits f low lt);
        }

    -- after step 3
    pub written_gated : (old new : D) → EachNow G (WillBe l.first (redo_of l) files ws (1 ∷ (record_bytes body ++ stale))) old
        → (EachNow G (WillBe l.first (redo_of l) files ws (1 ∷ (record_bytes body ++ stale))) old → Leaves G (WillBe l.first (redo_of l) files ws (1 ∷ (record_bytes body ++ stale))) old new)
        → AreOnDisk G l.first (redo_of l) new → ((f : ℕ) → l.first ≤ f → f < redo_of l → G.seen new f ≡ files f)
        → EachNow G (IsGated l.first (redo_of l) files (record_bytes body ++ stale)) new
    written_gated old new each run durable holds c left =
        let will = now_has G earlier old new (WillBe l.first (redo_of l) files ws (1 ∷ (record_bytes body ++ stale))) (run each) c left in
        record { same = λ f low lt. durable f low lt c left ∙ holds f low lt; root = will.root; gate = 1; is = will.file_is }

    -- after step 4
    pub closed_at_rest : (old new : D) → EachNow G (IsGated l.first (redo_of l) files (record_bytes body ++ stale)) old
        → (EachNow G (IsGated l.first (redo_of l) files (record_bytes body ++ stale)) old → Leaves G (IsGated l.first (redo_of l) files (record_bytes body ++ stale)) old new)
        → G.seen new (redo_of l) ≡ 0 ∷ (record_bytes body ++ stale) → OnDisk (redo_of l) (G.seen new) (LeftNow G.moment G.left_since new)
        → ((f : ℕ) → l.first ≤ f → f < redo_of l → G.seen new f ≡ files f) → LeftNow G.moment G.left_since new (G.seen new)
        → IsAtRest G l.first (redo_of l) new
    closed_at_rest old new each run is durable holds reads = record {
      on_disk = λ f low lt c left. (now_has G earlier old new (IsGated l.first (redo_of l) files (record_bytes body ++ stale)) (run each) c left).same f low lt ∙ sym (holds f low lt);
      redo_on_disk = durable;
      root_on_disk = λ after c left. (now_has G earlier old new (IsGated l.first (redo_of l) files (record_bytes body ++ stale)) (run each) c left).root after
          ∙ sym ((now_has G earlier old new (IsGated l.first (redo_of l) files (record_bytes body ++ stale)) (run each) (G.seen new) reads).root after);
      closed = record { gate = 0; rest = record_bytes body ++ stale; is = is; closed = λ e. absurd (omega (arith, e)) };
    }

-- ---- which tables

-- images of a step show the old tables or the new ones
module _ (l : Layout) (head : List ℕ) (files : Image) (counts new : List ℕ) (ws : List Write) (old_tables new_tables : Tables)
    (has : HasCounts l head files counts) (was : (t : Table) → old_tables t ≡ tables_in l files counts t)
    (has_new : HasCounts l head (λ f. overlaid (into f ws) (files f)) new) (is : (t : Table) → new_tables t ≡ tables_in l (λ f. overlaid (into f ws) (files f)) new t) where
  pub shows_old : (c : Image) → ImageStandsFor (Spells l) l.first (redo_of l) files c → ShowsTables l head c old_tables
  shows_old c stands = record { files = files; stands = stands; counts = counts; has = has; same = was }

  pub shows_new : (c : Image) → ImageStandsFor (Spells l) l.first (redo_of l) (λ f. overlaid (into f ws) (files f)) c → ShowsTables l head c new_tables
  shows_new c stands = record { files = λ f. overlaid (into f ws) (files f); stands = stands; counts = new; has = has_new; same = is }

  module _ {D : Type 0} (G : disk.Ghosts D) (body stale : List ℕ) (spelled : Spells l body ws) (fits : (f : ℕ) → l.first ≤ f → f < redo_of l → WritesFit (into f ws) (length (files f))) where
    abbrev either : Image → Type 0
    either c = HasRoot (redo_of l) files c × IsEither (ShowsTables l head) old_tables new_tables c

    spared : (c : Image) → HasRoot (redo_of l) (λ f. overlaid (into f ws) (files f)) c → HasRoot (redo_of l) files c
    spared c root after = root after ∙ ap (λ (w : List Write). overlaid w (files ROOT)) (root_spared l body ws spelled after)

    pub step_one : (a b : D) → Leaves G (IsAside l.first (redo_of l) files) a b → Leaves G either a b
    step_one a b run = weaker G.moment G.left_since a b (IsAside l.first (redo_of l) files) either (λ c aside. (aside.root, inl (shows_old c (aside_stands l files c aside)))) run

    pub step_two : (a b : D) → Leaves G (IsGated l.first (redo_of l) files (record_bytes body ++ stale)) a b → Leaves G either a b
    step_two a b run = weaker G.moment G.left_since a b (IsGated l.first (redo_of l) files (record_bytes body ++ stale)) either
        (λ c gated. (gated.root, ⊎_elim (λ old. inl (shows_old c old)) (λ now. inr (shows_new c now)) (gated_stands l files body stale ws c spelled fits gated))) run

    pub step_three : (a b : D) → Leaves G (WillBe l.first (redo_of l) (λ f. overlaid (into f ws) (files f)) ws (1 ∷ (record_bytes body ++ stale))) a b → Leaves G either a b
    step_three a b run = weaker G.moment G.left_since a b (WillBe l.first (redo_of l) (λ f. overlaid (into f ws) (files f)) ws (1 ∷ (record_bytes body ++ stale))) either
        (λ c will. (spared c will.root, inr (shows_new c (will_stand l (λ f. overlaid (into f ws) (files f)) body stale ws c spelled will)))) run

    pub step_four : (a b : D) → Leaves G (IsGated l.first (redo_of l) (λ f. overlaid (into f ws) (files f)) (record_bytes body ++ stale)) a b → Leaves G either a b
    step_four a b run = weaker G.moment G.left_since a b (IsGated l.first (redo_of l) (λ f. overlaid (into f ws) (files f)) (record_bytes body ++ stale)) either
        (λ c gated. (spared c gated.root, inr (shows_new c (settled_stands l files body stale ws c spelled fits gated)))) run

-- ---- all four

module _ {D : Type 0} (G : disk.Ghosts D) (earlier : (d : D) (t u : ℕ) (c : Image) → t ≤ u → G.left_since d u c → G.left_since d t c)
    (reads : (d : D) → LeftNow G.moment G.left_since d (G.seen d))
    (l : Layout) (head : List ℕ) (counts new : List ℕ) (body : List ℕ) (ws : List Write) (old_tables new_tables : Tables) (old : D)
    (has : HasCounts l head (G.seen old) counts) (was : (t : Table) → old_tables t ≡ tables_in l (G.seen old) counts t)
    (has_new : HasCounts l head (λ f. overlaid (into f ws) (G.seen old f)) new) (is : (t : Table) → new_tables t ≡ tables_in l (λ f. overlaid (into f ws) (G.seen old f)) new t)
    (spelled : Spells l body ws) (fits : (f : ℕ) → l.first ≤ f → f < redo_of l → WritesFit (into f ws) (length (G.seen old f)))
    (rest : IsAtRest G l.first (redo_of l) old) where
  abbrev either_one : Image → Type 0
  either_one c = HasRoot (redo_of l) (G.seen old) c × IsEither (ShowsTables l head) old_tables new_tables c

  abbrev after : Image
  after f = overlaid (into f ws) (G.seen old f)

  module _ (m1 : D) (s1 : StaysAside G l.first (redo_of l) old m1) where
    pub run_one : Leaves G either_one old m1
    run_one = step_one l head (G.seen old) counts new ws old_tables new_tables has was has_new is G body [] spelled fits old m1 (s1.crash (G.seen old) (rest_aside G earlier l body [] ws old rest))

    module _ (stale : List ℕ) (gate : ℕ) (w1 : G.seen m1 (redo_of l) ≡ gate ∷ (record_bytes body ++ stale)) (d1 : OnDisk (redo_of l) (G.seen m1) (LeftNow G.moment G.left_since m1))
        (m2 : D) (g2 : (files : Image) (tail : List ℕ) → EachNow G (IsGated l.first (redo_of l) files tail) m1 → Leaves G (IsGated l.first (redo_of l) files tail) m1 m2) where
      each_one : EachNow G (IsGated l.first (redo_of l) (G.seen old) (record_bytes body ++ stale)) m1
      each_one = staged_gated G earlier l body stale ws (G.seen old) old m1 gate (rest_aside G earlier l body stale ws old rest) s1 w1 d1

      pub run_two : Leaves G either_one old m2
      run_two = joined G.moment G.left_since old m1 m2 either_one run_one
          (step_two l head (G.seen old) counts new ws old_tables new_tables has was has_new is G body stale spelled fits m1 m2 (g2 (G.seen old) (record_bytes body ++ stale) each_one))

      module _ (w2 : G.seen m2 (redo_of l) ≡ over (G.seen m1 (redo_of l)) 0 (1 ∷ [])) (d2 : OnDisk (redo_of l) (G.seen m2) (LeftNow G.moment G.left_since m2))
          (o2 : (f : ℕ) → f ≢ redo_of l → G.seen m2 f ≡ G.seen m1 f)
          (m3 : D) (g3 : (files : Image) (file : List ℕ) → EachNow G (WillBe l.first (redo_of l) files ws file) m2 → Leaves G (WillBe l.first (redo_of l) files ws file) m2 m3) where
        opened : G.seen m2 (redo_of l) ≡ 1 ∷ (record_bytes body ++ stale)
        opened = w2 ∙ ap (λ (b : List ℕ). over b 0 (1 ∷ [])) w1

        each_two : EachNow G (WillBe l.first (redo_of l) after ws (1 ∷ (record_bytes body ++ stale))) m2
        each_two = opened_will_be G earlier l body stale ws (G.seen old) m1 m2 (root_spared l body ws spelled) each_one (g2 (G.seen old) (record_bytes body ++ stale)) opened d2 fits

        pub run_three : Leaves G either_one old m3
        run_three = joined G.moment G.left_since old m2 m3 either_one run_two
            (step_three l head (G.seen old) counts new ws old_tables new_tables has was has_new is G body stale spelled fits m2 m3 (g3 after (1 ∷ (record_bytes body ++ stale)) each_two))

        module _ (w3 : (f : ℕ) → l.first ≤ f → f < redo_of l → G.seen m3 f ≡ overlaid (into f ws) (G.seen m2 f)) (d3 : AreOnDisk G l.first (redo_of l) m3)
            (m4 : D) (g4 : (files : Image) (tail : List ℕ) → EachNow G (IsGated l.first (redo_of l) files tail) m3 → Leaves G (IsGated l.first (redo_of l) files tail) m3 m4) where
          apart : (f : ℕ) → f < redo_of l → f ≢ redo_of l
          apart f lt e = omega (arith, lt, e)

          pub holds_three : (f : ℕ) → l.first ≤ f → f < redo_of l → G.seen m3 f ≡ after f
          holds_three f low lt = w3 f low lt ∙ ap (λ (b : List ℕ). overlaid (into f ws) b) (o2 f (apart f lt) ∙ s1.others f (apart f lt))

          each_three : EachNow G (IsGated l.first (redo_of l) after (record_bytes body ++ stale)) m3
          each_three = written_gated G earlier l body stale ws after m2 m3 each_two (g3 after (1 ∷ (record_bytes body ++ stale))) d3 holds_three

          pub run_four : Leaves G either_one old m4
          run_four = joined G.moment G.left_since old m3 m4 either_one run_three
              (step_four l head (G.seen old) counts new ws old_tables new_tables has was has_new is G body stale spelled fits m3 m4 (g4 after (record_bytes body ++ stale) each_three))

          module _ (w4 : G.seen m4 (redo_of l) ≡ over (G.seen m3 (redo_of l)) 0 (0 ∷ [])) (d4 : OnDisk (redo_of l) (G.seen m4) (LeftNow G.moment G.left_since m4))
              (o4 : (f : ℕ) → f ≢ redo_of l → G.seen m4 f ≡ G.seen m3 f) where
            pub holds_four : (f : ℕ) → l.first ≤ f → f < redo_of l → G.seen m4 f ≡ after f
            holds_four f low lt = o4 f (apart f lt) ∙ holds_three f low lt

            pub rest_four : IsAtRest G l.first (redo_of l) m4
            rest_four = closed_at_rest G earlier l body stale ws after m3 m4 each_three (g4 after (record_bytes body ++ stale))
                (w4 ∙ ap (λ (b : List ℕ). over b 0 (0 ∷ [])) (now_has G earlier m2 m3 (WillBe l.first (redo_of l) after ws (1 ∷ (record_bytes body ++ stale))) (g3 after (1 ∷ (record_bytes body ++ stale)) each_two) (G.seen m3) (reads m3)).file_is)
                d4 holds_four (reads m4)
