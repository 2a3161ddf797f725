-- A record that an opening writes into the files.
use Rattle.std.proofs.Common.{◌≡◌, ◌≢◌, ⊎_elim, Bool, true, ℕ, ◌+◌, ◌≤◌, max, List, [], ◌∷◌, ◌++◌, length, take, drop, map, refl, sym, ◌∙◌, ap, subst, arith, append_assoc, length-append}
use Rattle.std.specs.Int.{w64, to_le_bytes}
use Rattle.std.proofs.lemmas.Bool.{cases_eq}
use Rattle.std.proofs.lemmas.List.{drop_at, drop-drop, take_at}
use Rattle.el_outside.specs.declared.disk.Disk as disk
use Rattle.el_outside.specs.Disk.{Image, over}
use Rattle.el_outside.specs.Moments.{LeftNow}
use Rattle.el_outside.proofs.Moments.{weaker}
use Rattle.el_row_formats.proofs.Keys.{index_within}
use Rattle.el_rows.specs.Changes.{Changes}
use Rattle.el_redo.specs.RedoBody.{changes_bytes}
use Rattle.el_redone.specs.Redone.{Write, overlaid, WritesFit, into, Covers, record_bytes}
use Rattle.el_redone.specs.Steps.{EachNow, Leaves, WillBe}
use Rattle.el_redone.proofs.Runs.{goes_on}
use Rattle.el_redone.proofs.Writes.{into_here, into_other, into_append, overlaid_append, covers_one}
use Rattle.el_pages.specs.declared.layout.Layout.{Layout}
use Rattle.el_pages.specs.Layouts.{redo_of}
use Rattle.el_pages.specs.Records.{write_of, writes_of}
use Rattle.el_recovery.specs.within.Redoing.{HasLeft, HasRedoRecord}
use Rattle.el_pages.proofs.Laid.{into_meta}

fits_front : (xs ys : List Write) (m : ℕ) → WritesFit (xs ++ ys) m → WritesFit xs m
fits_front [] ys m fits = tt
fits_front (x ∷ xs) ys m fits = (fits.0, fits_front xs ys (max m (x.at + length x.bytes)) fits.1)

abbrev pub meta_in : Layout → List ℕ → Write
meta_in l meta = record { file = l.first; at = 0; bytes = meta }

module _ (l : Layout) (meta : List ℕ) (changes : Changes) where
  split : (f : ℕ) → into f (writes_of l meta changes) ≡ into f (map (write_of l) changes) ++ into f (meta_in l meta ∷ [])
  split f = into_append (map (write_of l) changes) (meta_in l meta ∷ []) f

  rows_fit_first : (f m : ℕ) → WritesFit (into f (writes_of l meta changes)) m → WritesFit (into f (map (write_of l) changes)) m
  rows_fit_first f m fits = fits_front (into f (map (write_of l) changes)) (into f (meta_in l meta ∷ [])) m (subst (λ (w : List Write). WritesFit w m) (split f) fits)

  meta_covers : Covers (into l.first (writes_of l meta changes)) 0 (length meta)
  meta_covers = covers_one (into l.first (writes_of l meta changes)) [] (meta_in l meta) [] (into_meta l meta changes)

  -- the meta row over files that have the changed rows
  all_written : (start mid now : Image) → ((f : ℕ) → mid f ≡ overlaid (into f (map (write_of l) changes)) (start f)) → now l.first ≡ over (mid l.first) 0 meta → ((f : ℕ) → f ≢ l.first → now f ≡ mid f)
      → (f : ℕ) → now f ≡ overlaid (into f (writes_of l meta changes)) (start f)
  all_written start mid now rows here others f =
      one f
      ∙ ap (λ (b : List ℕ). overlaid (into f (meta_in l meta ∷ [])) b) (rows f)
      ∙ sym (ap (λ (w : List Write). overlaid w (start f)) (split f) ∙ overlaid_append (into f (map (write_of l) changes)) (into f (meta_in l meta ∷ [])) (start f))
    where
      one : (g : ℕ) → now g ≡ overlaid (into g (meta_in l meta ∷ [])) (mid g)
      one g = ⊎_elim
          (λ (is : g ≡ l.first). subst (λ h. now h ≡ overlaid (into h (meta_in l meta ∷ [])) (mid h)) (sym is) (here ∙ sym (ap (λ (w : List Write). overlaid w (mid l.first)) (into_here (meta_in l meta) [] l.first refl))))
          (λ (ne : g ≢ l.first). others g ne ∙ sym (ap (λ (w : List Write). overlaid w (mid g)) (into_other (meta_in l meta) [] g (λ e. ne (sym e)))))
          (cases_eq g l.first)

-- the meta row, read through a buffer of its size
pub meta_read : (l : Layout) (seen : Image) (redo n : ℕ) (answer : Bool) (buf : List ℕ) → redo ≡ redo_of l → n ≡ l.meta
    → (9 + n ≤ length (seen redo) → (answer ≡ true) × (buf ≡ take n (drop 9 (seen redo)))) → 9 + l.meta ≤ length (seen (redo_of l))
    → (answer ≡ true) × (buf ≡ take l.meta (drop 9 (seen (redo_of l))))
meta_read l seen redo n answer buf at long said room =
    let whole = said (subst (λ f. 9 + n ≤ length (seen f)) (sym at) (omega (arith, long, room))) in
    (whole.0, whole.1 ∙ ap (λ k. take k (drop 9 (seen redo))) long ∙ ap (λ f. take l.meta (drop 9 (seen f))) at)

-- and written
pub meta_covered : {D : Type 0} (G : disk.Ghosts D) (l : Layout) (meta : List ℕ) (changes : Changes) (files : Image) (file : List ℕ) (first redo : ℕ) (buf : List ℕ) (old new : D)
    → first ≡ l.first → redo ≡ redo_of l → buf ≡ meta
    → (Covers (into first (writes_of l meta changes)) 0 (length buf) → EachNow G (WillBe first redo files (writes_of l meta changes) file) old
    → Leaves G (WillBe first redo files (writes_of l meta changes) file) old new)
    → EachNow G (WillBe l.first (redo_of l) files (writes_of l meta changes) file) old → Leaves G (WillBe l.first (redo_of l) files (writes_of l meta changes) file) old new
meta_covered G l meta changes files file first redo buf old new low high is run =
    let ws : List Write = writes_of l meta changes in
    let covers : Covers (into first ws) 0 (length buf) = subst (λ f. Covers (into f ws) 0 (length buf)) (sym low)
    (subst (λ (b : List ℕ). Covers (into l.first ws) 0 (length b)) (sym is) (meta_covers l meta changes)) in
    subst (λ x. EachNow G (WillBe x (redo_of l) files ws file) old → Leaves G (WillBe x (redo_of l) files ws file) old new) low
    (subst (λ y. EachNow G (WillBe first y files ws file) old → Leaves G (WillBe first y files ws file) old new) high (run covers))

-- no row goes into the redo file
none_in_redo : (l : Layout) (es : Changes) → into (redo_of l) (map (write_of l) es) ≡ []
none_in_redo l [] = refl
none_in_redo l (e ∷ es) = into_other (write_of l e) (map (write_of l) es) (redo_of l) (λ is. omega (arith, is, index_within e.0.table)) ∙ none_in_redo l es

length-record : (body : List ℕ) → length (record_bytes body) ≡ 8 + length body
unfolding record_bytes
length-record body = length-append (to_le_bytes w64 (length body)) body

nine : (body stale : List ℕ) → drop 9 (1 ∷ (record_bytes body ++ stale)) ≡ body ++ stale
unfolding record_bytes
nine body stale = refl

module _ (l : Layout) (seen : Image) (len : ℕ) (body stale : List ℕ) (ws : List Write) (rec : HasRedoRecord l seen len body stale ws) where
  after_nine : drop 9 (seen (redo_of l)) ≡ rec.spelled.meta ++ (changes_bytes rec.spelled.changes ++ stale)
  after_nine = ap (λ (b : List ℕ). drop 9 b) rec.is ∙ nine body stale ∙ ap (λ (b : List ℕ). b ++ stale) rec.spelled.is ∙ append_assoc rec.spelled.meta (changes_bytes rec.spelled.changes) stale

  pub record_left : HasLeft l seen (9 + l.meta) (9 + len) rec.spelled.changes stale
  record_left = record {
    is = sym (drop-drop l.meta 9 (seen (redo_of l))) ∙ ap (λ (b : List ℕ). drop l.meta b) after_nine ∙ drop_at rec.spelled.meta (changes_bytes rec.spelled.changes ++ stale) l.meta rec.spelled.long;
    ends_at = omega (arith, rec.long, ap (λ (b : List ℕ). length b) rec.spelled.is, length-append rec.spelled.meta (changes_bytes rec.spelled.changes), rec.spelled.long);
    whole = rec.spelled.whole;
    fits = λ f. rows_fit_first l rec.spelled.meta rec.spelled.changes f (length (seen f)) (subst (λ (w : List Write). WritesFit (into f w) (length (seen f))) rec.spelled.writes (rec.fits f));
  }

  record_meta : take l.meta (drop 9 (seen (redo_of l))) ≡ rec.spelled.meta
  record_meta = ap (λ (b : List ℕ). take l.meta b) after_nine ∙ take_at rec.spelled.meta (changes_bytes rec.spelled.changes ++ stale) l.meta rec.spelled.long

  record_room : 9 + l.meta ≤ length (seen (redo_of l))
  record_room =
      let tail = length-append (record_bytes body) stale in
      omega (arith, ap (λ (b : List ℕ). length b) rec.is, tail, length-record body, ap (λ (b : List ℕ). length b) rec.spelled.is, length-append rec.spelled.meta (changes_bytes rec.spelled.changes), rec.spelled.long)

  -- while the files are written the redo file stays
  module _ (mid : Image) (after : (f : ℕ) → mid f ≡ overlaid (into f (map (write_of l) rec.spelled.changes)) (seen f)) where
    redo_there : mid (redo_of l) ≡ seen (redo_of l)
    redo_there = after (redo_of l) ∙ ap (λ (w : List Write). overlaid w (seen (redo_of l))) (none_in_redo l rec.spelled.changes)

    pub meta_there : take l.meta (drop 9 (mid (redo_of l))) ≡ rec.spelled.meta
    meta_there = ap (λ (b : List ℕ). take l.meta (drop 9 b)) redo_there ∙ record_meta

    pub room_there : 9 + l.meta ≤ length (mid (redo_of l))
    room_there = subst (λ (b : List ℕ). 9 + l.meta ≤ length b) (sym redo_there) record_room

    -- the meta row is written too
    pub record_written : (new : Image) → new l.first ≡ over (mid l.first) 0 (take l.meta (drop 9 (mid (redo_of l)))) → ((f : ℕ) → f ≢ l.first → new f ≡ mid f)
        → (f : ℕ) → new f ≡ overlaid (into f ws) (seen f)
    record_written new here others f =
        all_written l rec.spelled.meta rec.spelled.changes seen mid new after (here ∙ ap (λ (b : List ℕ). over (mid l.first) 0 b) meta_there) others f
        ∙ ap (λ (w : List Write). overlaid (into f w) (seen f)) (sym rec.spelled.writes)

-- the images meanwhile
module _ {D : Type 0} (G : disk.Ghosts D) (earlier : (d : D) (t u : ℕ) (c : Image) → t ≤ u → G.left_since d u c → G.left_since d t c)
    (l : Layout) (old : D) (len : ℕ) (body stale : List ℕ) (ws : List Write) (rec : HasRedoRecord l (G.seen old) len body stale ws) (files : Image) (file : List ℕ) where
  -- the rows are written
  pub body_run : (mid : D) → (HasLeft l (G.seen old) (9 + l.meta) (9 + len) rec.spelled.changes stale
      → EachNow G (WillBe l.first (redo_of l) files (writes_of l rec.spelled.meta rec.spelled.changes) file) old
      → Leaves G (WillBe l.first (redo_of l) files (writes_of l rec.spelled.meta rec.spelled.changes) file) old mid)
      → EachNow G (WillBe l.first (redo_of l) files ws file) old → Leaves G (WillBe l.first (redo_of l) files ws file) old mid
  body_run mid run =
      subst (λ (w : List Write). EachNow G (WillBe l.first (redo_of l) files w file) old → Leaves G (WillBe l.first (redo_of l) files w file) old mid) (sym rec.spelled.writes)
      (run (record_left l (G.seen old) len body stale ws rec))

  module _ (mid : D) (first : Leaves G (WillBe l.first (redo_of l) files ws file) old mid) where
    -- the meta row is
    pub meta_run : (new : D) → ((f : ℕ) → G.seen mid f ≡ overlaid (into f (map (write_of l) rec.spelled.changes)) (G.seen old f))
        → (take l.meta (drop 9 (G.seen mid (redo_of l))) ≡ rec.spelled.meta → 9 + l.meta ≤ length (G.seen mid (redo_of l))
        → EachNow G (WillBe l.first (redo_of l) files (writes_of l rec.spelled.meta rec.spelled.changes) file) mid
        → Leaves G (WillBe l.first (redo_of l) files (writes_of l rec.spelled.meta rec.spelled.changes) file) mid new)
        → Leaves G (WillBe l.first (redo_of l) files ws file) old new
    meta_run new after run = goes_on G earlier old mid new (WillBe l.first (redo_of l) files ws file) first
        (subst (λ (w : List Write). EachNow G (WillBe l.first (redo_of l) files w file) mid → Leaves G (WillBe l.first (redo_of l) files w file) mid new) (sym rec.spelled.writes)
        (run (meta_there l (G.seen old) len body stale ws rec (G.seen mid) after) (room_there l (G.seen old) len body stale ws rec (G.seen mid) after)))

    -- they are brought to the disk
    pub sync_run : (new : D) → Leaves G (LeftNow G.moment G.left_since mid) mid new → Leaves G (WillBe l.first (redo_of l) files ws file) old new
    sync_run new run = goes_on G earlier old mid new (WillBe l.first (redo_of l) files ws file) first
        (λ each. weaker G.moment G.left_since mid new (LeftNow G.moment G.left_since mid) (WillBe l.first (redo_of l) files ws file) each run)
