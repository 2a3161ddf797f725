-- The steps of an opening that make a record's writes and close the gate.
use Rattle.std.proofs.Common.{◌≡◌, ◌≢◌, ◌<◌, ◌≤◌, ◌^◌, ℕ, List, [], ◌∷◌, ◌++◌, length, refl, ap, sym, ◌∙◌, arith, subst}
use Rattle.el_outside.specs.declared.disk.Disk as disk
use Rattle.el_outside.specs.Disk.{Image, over, OnDisk}
use Rattle.el_outside.specs.Moments.{LeftNow}
use Rattle.el_outside.proofs.Moments.{weaker, joined}
use Rattle.el_redone.specs.Redone.{Write, overlaid, WritesFit, into, ImageStandsFor, StandsAlike, record_bytes}
use Rattle.el_redone.specs.Steps.{EachNow, Leaves, HasRoot, WillBe, IsGated, IsAlikeTo, AreOnDisk, IsRootOnDisk, IsAtRest}
use Rattle.el_redone.specs.declared.steps.TheConstants.{ROOT}
use Rattle.el_redone.proofs.Runs.{now_has}
use Rattle.el_pages.specs.declared.layout.Layout.{Layout}
use Rattle.el_pages.specs.Layouts.{redo_of}
use Rattle.el_pages.specs.Records.{Spells}
use Rattle.el_pages.proofs.Laid.{root_spared}
use Rattle.el_pages.proofs.Stands.{stands_open, will_stand, settled_stands}
use Rattle.el_pages.proofs.Commits.{written_gated, closed_at_rest}
use Rattle.el_recovery.specs.within.Redoing.{HasRedoRecord}
use Rattle.el_recovery.proofs.Alike.{both_stand}

-- the gate's call speaks of the span's files
pub gate_at : {D : Type 0} (G : disk.Ghosts D) (l : Layout) (first redo : ℕ) (files : Image) (tail : List ℕ) (old new : D) → first ≡ l.first → redo ≡ redo_of l
    → (EachNow G (IsGated first redo files tail) old → Leaves G (IsGated first redo files tail) old new)
    → EachNow G (IsGated l.first (redo_of l) files tail) old → Leaves G (IsGated l.first (redo_of l) files tail) old new
gate_at G l first redo files tail old new low high run =
    subst (λ x. EachNow G (IsGated x (redo_of l) files tail) old → Leaves G (IsGated x (redo_of l) files tail) old new) low
    (subst (λ y. EachNow G (IsGated first y files tail) old → Leaves G (IsGated first y files tail) old new) high run)

-- what the record makes of the files
abbrev pub redone : List Write → Image → Image
redone ws seen = λ f. overlaid (into f ws) (seen f)

module _ {D : Type 0} (G : disk.Ghosts D) (earlier : (d : D) (t u : ℕ) (c : Image) → t ≤ u → G.left_since d u c → G.left_since d t c)
    (l : Layout) (old : D) (len : ℕ) (body stale : List ℕ) (ws : List Write) (rec : HasRedoRecord l (G.seen old) len body stale ws)
    (on_disk : AreOnDisk G l.first (redo_of l) old) (redo_disk : OnDisk (redo_of l) (G.seen old) (LeftNow G.moment G.left_since old))
    (root_disk : IsRootOnDisk G (redo_of l) old) (small : length (G.seen old (redo_of l)) < 2 ^ 62) where
  spared : (c : Image) → HasRoot (redo_of l) (redone ws (G.seen old)) c → HasRoot (redo_of l) (G.seen old) c
  spared c root after = root after ∙ ap (λ (w : List Write). overlaid w (G.seen old ROOT)) (root_spared l body ws rec.spelled after)

  will_be : EachNow G (WillBe l.first (redo_of l) (redone ws (G.seen old)) ws (1 ∷ (record_bytes body ++ stale))) old
  will_be c left = record {
    file_is = redo_disk c left ∙ rec.is;
    root = λ after. root_disk after c left ∙ sym (ap (λ (w : List Write). overlaid w (G.seen old ROOT)) (root_spared l body ws rec.spelled after));
    same = λ f low lt. ap (λ (b : List ℕ). overlaid (into f ws) b) (on_disk f low lt c left);
    fits = λ f low lt. subst (λ (b : List ℕ). WritesFit (into f ws) (length b)) (sym (on_disk f low lt c left)) (rec.fits f);
  }

  -- an image with this record behind any gate, that stands for the redone files
  alike_gate : (c : Image) (gate : ℕ) → c (redo_of l) ≡ gate ∷ (record_bytes body ++ stale) → ImageStandsFor (Spells l) l.first (redo_of l) (redone ws (G.seen old)) c
      → StandsAlike (Spells l) l.first (redo_of l) (G.seen old) c
  alike_gate c gate is stands =
      let now = ap (λ (b : List ℕ). length b) is in
      let was = ap (λ (b : List ℕ). length b) rec.is in
      both_stand l (redone ws (G.seen old)) (G.seen old) c small (omega (arith, small, now, was))
      (stands_open l (redone ws (G.seen old)) (G.seen old) body stale ws rec.spelled rec.is (λ f low lt. refl) (λ f low lt. rec.fits f))
      stands

  module _ (mid : D) (write : EachNow G (WillBe l.first (redo_of l) (redone ws (G.seen old)) ws (1 ∷ (record_bytes body ++ stale))) old
      → Leaves G (WillBe l.first (redo_of l) (redone ws (G.seen old)) ws (1 ∷ (record_bytes body ++ stale))) old mid) where
    pub written_alike : Leaves G (IsAlikeTo (Spells l) l.first (redo_of l) (G.seen old)) old mid
    written_alike = weaker G.moment G.left_since old mid (WillBe l.first (redo_of l) (redone ws (G.seen old)) ws (1 ∷ (record_bytes body ++ stale)))
        (IsAlikeTo (Spells l) l.first (redo_of l) (G.seen old))
        (λ c will. record { alike = alike_gate c 1 will.file_is (will_stand l (redone ws (G.seen old)) body stale ws c rec.spelled will); root = spared c will.root })
        (write will_be)

    module _ (durable : AreOnDisk G l.first (redo_of l) mid) (written : (f : ℕ) → G.seen mid f ≡ redone ws (G.seen old) f) (new : D)
        (close : EachNow G (IsGated l.first (redo_of l) (redone ws (G.seen old)) (record_bytes body ++ stale)) mid
        → Leaves G (IsGated l.first (redo_of l) (redone ws (G.seen old)) (record_bytes body ++ stale)) mid new) where
      gated : EachNow G (IsGated l.first (redo_of l) (redone ws (G.seen old)) (record_bytes body ++ stale)) mid
      gated = written_gated G earlier l body stale ws (redone ws (G.seen old)) old mid will_be write durable (λ f low lt. written f)

      pub closed_alike : Leaves G (IsAlikeTo (Spells l) l.first (redo_of l) (G.seen old)) old new
      closed_alike = joined G.moment G.left_since old mid new (IsAlikeTo (Spells l) l.first (redo_of l) (G.seen old)) written_alike
          (weaker G.moment G.left_since mid new (IsGated l.first (redo_of l) (redone ws (G.seen old)) (record_bytes body ++ stale))
          (IsAlikeTo (Spells l) l.first (redo_of l) (G.seen old))
          (λ c now. record { alike = alike_gate c now.gate now.is (settled_stands l (G.seen old) body stale ws c rec.spelled (λ f low lt. rec.fits f) now); root = spared c now.root })
          (close gated))

      module _ (reads : LeftNow G.moment G.left_since mid (G.seen mid)) (reads_new : LeftNow G.moment G.left_since new (G.seen new)) (shut : G.seen new (redo_of l) ≡ over (G.seen mid (redo_of l)) 0 (0 ∷ []))
          (durable_redo : OnDisk (redo_of l) (G.seen new) (LeftNow G.moment G.left_since new)) (others : (f : ℕ) → f ≢ redo_of l → G.seen new f ≡ G.seen mid f) where
        pub closed_files : (f : ℕ) → f ≢ redo_of l → G.seen new f ≡ redone ws (G.seen old) f
        closed_files f ne = others f ne ∙ written f

        shut_is : G.seen new (redo_of l) ≡ 0 ∷ (record_bytes body ++ stale)
        shut_is =
            let will = now_has G earlier old mid (WillBe l.first (redo_of l) (redone ws (G.seen old)) ws (1 ∷ (record_bytes body ++ stale))) (write will_be) (G.seen mid) reads in
            shut ∙ ap (λ (b : List ℕ). over b 0 (0 ∷ [])) will.file_is

        pub closed_rest : IsAtRest G l.first (redo_of l) new
        closed_rest = closed_at_rest G earlier l body stale ws (redone ws (G.seen old)) mid new gated close shut_is durable_redo
            (λ f low lt. closed_files f (λ e. absurd (omega (arith, lt, e)))) reads_new
