-- What an opening leaves at each of its steps.
use Rattle.std.proofs.Common.{◌≡◌, ◌≢◌, ◌⊎◌, inl, inr, ⊎_elim, ◌<◌, ◌≤◌, ◌+◌, ◌*◌, ◌^◌, ℕ, List, [], ◌∷◌, Option, Some, IfSome, length, get_or, refl, ap, sym, ◌∙◌, arith, subst}
use Rattle.std.proofs.Math.Path.{fun_ext}
use Rattle.std.proofs.lemmas.Bool.{cases_lt, cases_eq}
use Rattle.el_outside.specs.declared.disk.Disk as disk
use Rattle.el_outside.specs.Disk.{Image, OnDisk, NothingNew}
use Rattle.el_outside.specs.Moments.{LeftNow, Passes}
use Rattle.el_outside.proofs.Moments.{weaker, joined}
use Rattle.el_row_formats.specs.declared.table.Table.{Table}
use Rattle.el_redone.specs.Redone.{Write, overlaid, into, IsClosed, ImageStandsFor}
use Rattle.el_redone.specs.Steps.{EachNow, Leaves, AreOnDisk, IsRootOnDisk, IsAtRest, IsBegun, IsAlikeTo, IsAlike}
use Rattle.el_redone.specs.declared.steps.TheConstants.{ROOT}
use Rattle.el_redone.proofs.Runs.{stays, goes_on, now_has}
use Rattle.el_pages.specs.declared.layout.Layout.{Layout}
use Rattle.el_pages.specs.Layouts.{redo_of, size_in}
use Rattle.el_pages.specs.Records.{Spells}
use Rattle.el_recovery.specs.Checks.{Found, NoRecordWaits, length_told, IsGateOpen, IsBadBody}
use Rattle.el_recovery.specs.within.Redoing.{HasRedoRecord}
use Rattle.el_recovery.specs.within.Checking.{HasBody}
use Rattle.el_recovery.proofs.Bodies.{file_long, length_there}
use Rattle.el_recovery.proofs.Opens.{begun_stands, begun_alike}
use Rattle.el_recovery.proofs.Decided.{bad_opened}

module _ {D : Type 0} (G : disk.Ghosts D) where
  -- each image stands alike with the disk as it reads
  each_alike : (l : Layout) (d : D) → AreOnDisk G l.first (redo_of l) d → OnDisk (redo_of l) (G.seen d) (LeftNow G.moment G.left_since d) → IsRootOnDisk G (redo_of l) d
      → EachNow G (IsAlikeTo (Spells l) l.first (redo_of l) (G.seen d)) d
  each_alike l d on_disk redo_disk root_disk c left = record {
    alike = begun_alike l (G.seen d) c (λ f low lt. on_disk f low lt c left) (inl (redo_disk c left));
    root = λ after. root_disk after c left;
  }

  -- the disk was read
  pub reads_leave : (P : Image → Type 0) (old new : D) → Leaves G (LeftNow G.moment G.left_since old) old new → EachNow G P old → Leaves G P old new
  reads_leave P old new run each = weaker G.moment G.left_since old new (LeftNow G.moment G.left_since old) P each run

  pub one_read : (old new : D) → Passes G.moment G.left_since old new → NothingNew (LeftNow G.moment G.left_since old) (LeftNow G.moment G.left_since new)
      → Leaves G (LeftNow G.moment G.left_since old) old new
  one_read old new passes nothing = stays G old new (LeftNow G.moment G.left_since old) passes nothing (λ c left. left)

  pub read_on_disk : (first redo : ℕ) (old new : D) → ((c : Image) → LeftNow G.moment G.left_since new c → LeftNow G.moment G.left_since old c) → G.seen new ≡ G.seen old
      → AreOnDisk G first redo old → AreOnDisk G first redo new
  read_on_disk first redo old new fewer same on_disk f low lt c left = on_disk f low lt c (fewer c left) ∙ ap (λ (s : Image). s f) (sym same)

  pub read_redo_on_disk : (redo : ℕ) (old new : D) → ((c : Image) → LeftNow G.moment G.left_since new c → LeftNow G.moment G.left_since old c) → G.seen new ≡ G.seen old
      → OnDisk redo (G.seen old) (LeftNow G.moment G.left_since old) → OnDisk redo (G.seen new) (LeftNow G.moment G.left_since new)
  read_redo_on_disk redo old new fewer same on_disk c left = on_disk c (fewer c left) ∙ ap (λ (s : Image). s redo) (sym same)

  pub read_root_on_disk : (redo : ℕ) (old new : D) → ((c : Image) → LeftNow G.moment G.left_since new c → LeftNow G.moment G.left_since old c) → G.seen new ≡ G.seen old
      → IsRootOnDisk G redo old → IsRootOnDisk G redo new
  read_root_on_disk redo old new fewer same root_disk after = read_redo_on_disk ROOT old new fewer same (root_disk after)

  -- nothing waits
  pub rest_none : (first redo : ℕ) (old new : D) → ((c : Image) → LeftNow G.moment G.left_since new c → LeftNow G.moment G.left_since old c) → G.seen new ≡ G.seen old
      → AreOnDisk G first redo old → OnDisk redo (G.seen old) (LeftNow G.moment G.left_since old) → IsRootOnDisk G redo old → (length (G.seen old redo) < 2 → G.seen old redo ≡ 0 ∷ [])
      → (length (G.seen old redo) < 2) ⊎ IsClosed (G.seen old redo) → IsAtRest G first redo new
  rest_none first redo old new fewer same on_disk redo_disk root_disk begun none = record {
    on_disk = read_on_disk first redo old new fewer same on_disk;
    redo_on_disk = read_redo_on_disk redo old new fewer same redo_disk;
    root_on_disk = read_root_on_disk redo old new fewer same root_disk;
    closed = subst (λ (s : Image). IsClosed (s redo)) (sym same)
        (⊎_elim (λ short. record { gate = 0; rest = []; is = begun short; closed = λ e. absurd (omega (arith, e)) }) (λ closed. closed) none);
  }

  -- the disk was read between two commits
  pub rest_read : (first redo : ℕ) (old new : D) → ((c : Image) → LeftNow G.moment G.left_since new c → LeftNow G.moment G.left_since old c) → G.seen new ≡ G.seen old
      → IsAtRest G first redo old → IsAtRest G first redo new
  rest_read first redo old new fewer same rest = record {
    on_disk = read_on_disk first redo old new fewer same rest.on_disk;
    redo_on_disk = read_redo_on_disk redo old new fewer same rest.redo_on_disk;
    root_on_disk = read_root_on_disk redo old new fewer same rest.root_on_disk;
    closed = subst (λ (s : Image). IsClosed (s redo)) (sym same) rest.closed;
  }

-- the files are those that the disk stood for
pub stands_none : (l : Layout) (old new : Image) → new ≡ old → (length (old (redo_of l)) < 2) ⊎ IsClosed (old (redo_of l)) → ImageStandsFor (Spells l) l.first (redo_of l) new old
stands_none l old new same none = record {
  writes = [];
  pending = inl (none, refl);
  same = λ f low lt. ap (λ (s : Image). s f) (sym same);
  fits = λ f low lt. tt;
}

pub stands_redone : (l : Layout) (seen new : Image) (len : ℕ) (body stale : List ℕ) (ws : List Write) → HasRedoRecord l seen len body stale ws
    → ((f : ℕ) → f ≢ redo_of l → new f ≡ overlaid (into f ws) (seen f)) → ImageStandsFor (Spells l) l.first (redo_of l) new seen
stands_redone l seen new len body stale ws rec written = record {
  writes = ws;
  pending = inr (record { body = body; stale = stale; is = rec.is; spelled = rec.spelled });
  same = λ f low lt. sym (written f (λ is. omega (arith, is, lt)));
  fits = λ f low lt. rec.fits f;
}

-- what is said of a body that waits
pub some_there : (P : ℕ → Type 0) (o : Option ℕ) (n : ℕ) → IfSome o P → o ≡ Some n → P n
some_there P o n said is = subst (λ (x : Option ℕ). IfSome x P) is said

-- a body that waits, and its length
module _ (l : Layout) (seen : Image) (o : Option ℕ) (len : ℕ) (said : IfSome o (λ (n : ℕ). (body : List ℕ) × (stale : List ℕ) × HasBody l seen n body stale)) (is : o ≡ Some len) where
  pub body_there : (body : List ℕ) × (stale : List ℕ) × HasBody l seen len body stale
  body_there = some_there (λ (n : ℕ). (body : List ℕ) × (stale : List ℕ) × HasBody l seen n body stale) o len said is

  pub body_waits : NoRecordWaits (seen (redo_of l)) → ⊥
  body_waits none = ⊎_elim
      (λ (lt : length (seen (redo_of l)) < 2). omega (arith, lt, file_long (seen (redo_of l)) body_there.0 body_there.1 body_there.2.is))
      (λ (closed : IsClosed (seen (redo_of l))). closed.closed (ap (λ (b : List ℕ). get_or b 0 0) (sym closed.is ∙ body_there.2.is)))
      none

  pub body_told : IfSome o (λ (n : ℕ). 9 + n < 2 ^ 62) → length_told (seen (redo_of l)) ≡ len
  body_told low =
      let small = some_there (λ (n : ℕ). 9 + n < 2 ^ 62) o len low is in
      length_there (seen (redo_of l)) body_there.0 body_there.1 body_there.2.is (omega (arith, body_there.2.long, small)) ∙ body_there.2.long

-- what the start of an opening makes of the files: a redo file of fewer than two bytes gets one byte 0
pub record Begun (redo : ℕ) (old begun : Image) : Type 0 where
  pub others : (f : ℕ) → f ≢ redo → begun f ≡ old f
  pub kept : 2 ≤ length (old redo) → begun redo ≡ old redo
  pub short : length (old redo) < 2 → begun redo ≡ 0 ∷ []

module _ (l : Layout) (old begun : Image) (b : Begun (redo_of l) old begun) where
  here : (old (redo_of l) ≡ begun (redo_of l)) ⊎ ((length (begun (redo_of l)) < 2) × (length (old (redo_of l)) < 2))
  here = ⊎_elim
      (λ (lt : length (old (redo_of l)) < 2). inr (omega (arith, ap (λ (x : List ℕ). length x) (b.short lt)), lt))
      (λ ge. inl (sym (b.kept ge)))
      (cases_lt (length (old (redo_of l))) 2)

  pub begun_short_is : length (begun (redo_of l)) < 2 → begun (redo_of l) ≡ 0 ∷ []
  begun_short_is lt = ⊎_elim
      (λ (was : length (old (redo_of l)) < 2). b.short was)
      (λ ge. absurd (omega (arith, lt, ge, ap (λ (x : List ℕ). length x) (b.kept ge))))
      (cases_lt (length (old (redo_of l))) 2)

  pub stands_before : (files : Image) → ImageStandsFor (Spells l) l.first (redo_of l) files begun → ImageStandsFor (Spells l) l.first (redo_of l) files old
  stands_before files stands = begun_stands l files begun old (λ f low lt. sym (b.others f (λ e. absurd (omega (arith, lt, e))))) here stands

  -- what waited then waits
  pub begun_none : NoRecordWaits (old (redo_of l)) → NoRecordWaits (begun (redo_of l))
  begun_none none = ⊎_elim
      (λ (lt : length (old (redo_of l)) < 2). inl (omega (arith, ap (λ (x : List ℕ). length x) (b.short lt))))
      (λ ge. subst (λ (x : List ℕ). NoRecordWaits x) (sym (b.kept ge)) none)
      (cases_lt (length (old (redo_of l))) 2)

  same_open : IsGateOpen (begun (redo_of l)) → begun ≡ old
  same_open opened = fun_ext each
    where
      ge : 2 ≤ length (old (redo_of l))
      ge = ⊎_elim
          (λ (lt : length (old (redo_of l)) < 2). absurd (omega (arith, opened.2, ap (λ (x : List ℕ). length x) (b.short lt))))
          (λ le. le)
          (cases_lt (length (old (redo_of l))) 2)

      each : (f : ℕ) → begun f ≡ old f
      each f = ⊎_elim
          (λ (is : f ≡ redo_of l). subst (λ g. begun g ≡ old g) (sym is) (b.kept ge))
          (λ ne. b.others f ne)
          (cases_eq f (redo_of l))

  -- where the body is bad, nothing was changed
  pub bad_same : (sized : (t : Table) → 0 < size_in l t) (found : Found) → IsBadBody l begun found → begun ≡ old
  bad_same sized found bad = same_open (bad_opened l sized begun found bad)

  -- calls counted by the length that stood there
  pub calls_before : (m n : ℕ) → (NoRecordWaits (begun (redo_of l)) → n ≤ m + 2) → 2 * n ≤ 2 * m + (225 + length_told (begun (redo_of l))) → 2 * n ≤ 2 * m + (225 + length_told (old (redo_of l)))
  calls_before m n quiet calls = ⊎_elim
      (λ (lt : length (old (redo_of l)) < 2). omega (arith, quiet (begun_none (inl lt))))
      (λ ge. omega (arith, calls, ap (λ (x : List ℕ). length_told x) (b.kept ge)))
      (cases_lt (length (old (redo_of l))) 2)

-- ---- images in an opening

module _ {D : Type 0} (G : disk.Ghosts D) (earlier : (d : D) (t u : ℕ) (c : Image) → t ≤ u → G.left_since d u c → G.left_since d t c) where
  -- the disk was read, and read again
  pub reads_on : (old mid new : D) → Leaves G (LeftNow G.moment G.left_since old) old mid → Leaves G (LeftNow G.moment G.left_since mid) mid new
      → Leaves G (LeftNow G.moment G.left_since old) old new
  reads_on old mid new read again =
      goes_on G earlier old mid new (LeftNow G.moment G.left_since old) read (λ each. reads_leave G (LeftNow G.moment G.left_since old) mid new again each)

  -- a disk with all on it was read, and then a record was redone
  module _ (l : Layout) (old : D) (on_disk : AreOnDisk G l.first (redo_of l) old) (redo_disk : OnDisk (redo_of l) (G.seen old) (LeftNow G.moment G.left_since old))
      (root_disk : IsRootOnDisk G (redo_of l) old) (mid : D) (read : Leaves G (LeftNow G.moment G.left_since old) old mid) where
    pub read_alike : Leaves G (IsAlikeTo (Spells l) l.first (redo_of l) (G.seen old)) old mid
    read_alike = reads_leave G (IsAlikeTo (Spells l) l.first (redo_of l) (G.seen old)) old mid read (each_alike G l old on_disk redo_disk root_disk)

    module _ (same : G.seen mid ≡ G.seen old) where
      pub still_on_disk : AreOnDisk G l.first (redo_of l) mid
      still_on_disk = read_on_disk G l.first (redo_of l) old mid (now_has G earlier old mid (LeftNow G.moment G.left_since old) read) same on_disk

      pub still_redo_on_disk : OnDisk (redo_of l) (G.seen mid) (LeftNow G.moment G.left_since mid)
      still_redo_on_disk = read_redo_on_disk G (redo_of l) old mid (now_has G earlier old mid (LeftNow G.moment G.left_since old) read) same redo_disk

      pub still_root_on_disk : IsRootOnDisk G (redo_of l) mid
      still_root_on_disk = read_root_on_disk G (redo_of l) old mid (now_has G earlier old mid (LeftNow G.moment G.left_since old) read) same root_disk

      pub redone_alike : (new : D) → (AreOnDisk G l.first (redo_of l) mid → OnDisk (redo_of l) (G.seen mid) (LeftNow G.moment G.left_since mid) → IsRootOnDisk G (redo_of l) mid
          → Leaves G (IsAlikeTo (Spells l) l.first (redo_of l) (G.seen mid)) mid new) → Leaves G (IsAlikeTo (Spells l) l.first (redo_of l) (G.seen old)) old new
      redone_alike new run = joined G.moment G.left_since old mid new (IsAlikeTo (Spells l) l.first (redo_of l) (G.seen old)) read_alike
          (subst (λ (s : Image). Leaves G (IsAlikeTo (Spells l) l.first (redo_of l) s) mid new) same (run still_on_disk still_redo_on_disk still_root_on_disk))

-- the record that waits, once its body was gone over
pub record_found : (l : Layout) (seen mid new : Image) (o : Option ℕ) (len : ℕ) → mid ≡ seen → new ≡ mid
    → IfSome o (λ (n : ℕ). (body : List ℕ) × (stale : List ℕ) × HasBody l seen n body stale) → o ≡ Some len
    → ((body stale : List ℕ) → HasBody l mid len body stale → (ws : List Write) × HasRedoRecord l mid len body stale ws)
    → (body stale : List ℕ) × (ws : List Write) × HasRedoRecord l new len body stale ws
record_found l seen mid new o len same again said is gives =
    let found = body_there l seen o len said is in
    let has = gives found.0 found.1 (subst (λ (s : Image). HasBody l s len found.0 found.1) (sym same) found.2) in
    (found.0, found.1, has.0, subst (λ (s : Image). HasRedoRecord l s len found.0 found.1 has.0) (sym again) has.1)

-- an opening: its start, a record redone, and the files read
module _ {D : Type 0} (G : disk.Ghosts D) (earlier : (d : D) (t u : ℕ) (c : Image) → t ≤ u → G.left_since d u c → G.left_since d t c)
    (l : Layout) (old begun : D) (run : Leaves G (IsBegun G (redo_of l) old) old begun) where
  pub alike_begun : Leaves G (IsAlike G (Spells l) l.first (redo_of l) old) old begun
  alike_begun = weaker G.moment G.left_since old begun (IsBegun G (redo_of l) old) (IsAlike G (Spells l) l.first (redo_of l) old)
      (λ c b. record {
        from = b.from;
        left = b.left;
        alike = begun_alike l b.from c (λ f low lt. b.others f (λ e. absurd (omega (arith, lt, e)))) b.here;
        root = λ after. b.others ROOT (λ e. absurd (omega (arith, after, e)));
      })
      run

  module _ (reads : LeftNow G.moment G.left_since begun (G.seen begun)) (mid : D) (more : Leaves G (IsAlikeTo (Spells l) l.first (redo_of l) (G.seen begun)) begun mid) where
    pub alike_redone : Leaves G (IsAlike G (Spells l) l.first (redo_of l) old) old mid
    alike_redone =
        let was = now_has G earlier old begun (IsAlike G (Spells l) l.first (redo_of l) old) alike_begun (G.seen begun) reads in
        joined G.moment G.left_since old begun mid (IsAlike G (Spells l) l.first (redo_of l) old) alike_begun
        (weaker G.moment G.left_since begun mid (IsAlikeTo (Spells l) l.first (redo_of l) (G.seen begun)) (IsAlike G (Spells l) l.first (redo_of l) old)
        (λ c like. record {
          from = was.from;
          left = was.left;
          alike = record { there = λ files x. like.alike.there files (was.alike.there files x); back = λ files x. was.alike.back files (like.alike.back files x) };
          root = λ after. like.root after ∙ was.root after;
        })
        more)

    pub alike_read : (new : D) → Leaves G (LeftNow G.moment G.left_since mid) mid new → Leaves G (IsAlike G (Spells l) l.first (redo_of l) old) old new
    alike_read new read = goes_on G earlier old mid new (IsAlike G (Spells l) l.first (redo_of l) old) alike_redone
        (λ each. reads_leave G (IsAlike G (Spells l) l.first (redo_of l) old) mid new read each)
