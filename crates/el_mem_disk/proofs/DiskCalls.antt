-- What a call of a disk in memory does to the images that a crash may leave.
use Rattle.std.proofs.Common.{◌≡◌, ◌≢◌, ⊎_elim, ℕ, ◌≤◌, Bool, List, length, refl, sym, ◌∙◌, ap, subst, arith}
use Rattle.std.proofs.lemmas.Bool.{cases_eq}
use Rattle.el_outside.specs.Disk.{Image, Torn, Cut, OnFile, Follows, NothingNew, OnDisk}
use Rattle.el_outside.specs.Images.{Kept, at_file, LeavesImages, LeftSince}
use Rattle.std.proofs.lemmas.List.{take_all}
use Rattle.el_outside.proofs.Bytes.{torn_not}
use Rattle.el_outside.proofs.Images.{at_here, at_other, left_now, only_now, write_follows, cut_follows, sync_keeps, sync_durable}
use Rattle.el_mem_disk.specs.DiskFiles.{FileState, IsSound, file_written, file_cut, file_synced}
use Rattle.el_mem_disk.specs.Disks.{DiskState, kept_in}

-- what is known of the files, where one was changed
kept_at : (files : ℕ → FileState) (file : ℕ) (here : FileState) → kept_in (at_file files file here) ≡ at_file (kept_in files) file here.kept
kept_at files file here = λ i f. pointwise f i
  where
    pointwise : (f : ℕ) → kept_in (at_file files file here) f ≡ at_file (kept_in files) file here.kept f
    pointwise f = ⊎_elim
        (λ (is : f ≡ file). ap (kept_in (at_file files file here)) is ∙ ap (λ (x : FileState). x.kept) (at_here files file here) ∙ sym (at_here (kept_in files) file here.kept) ∙ ap (at_file (kept_in files) file here.kept) (sym is))
        (λ ne. ap (λ (x : FileState). x.kept) (at_other files file here f ne) ∙ sym (at_other (kept_in files) file here.kept f ne))
        (cases_eq f file)

-- states that are the same have the same files
pub files_by : {a b : DiskState} → a ≡ b → a.files ≡ b.files
files_by same = ap (λ (s : DiskState). s.files) same

-- what a crash now may leave, by what is known now
abbrev Now : (ℕ → FileState) → List (ℕ → Kept) → Image → Type 0
Now files past c = LeftSince (kept_in files) past (length past) c

abbrev pub bytes_in : (ℕ → FileState) → Image
bytes_in files f = (files f).bytes

module _ (a b : ℕ → FileState) (p q : List (ℕ → Kept)) where
  -- a call that changed nothing
  pub nothing_new : b ≡ a → NothingNew (Now a p) (Now b q)
  nothing_new same c left = left_now (kept_in a) p c (subst (λ files. LeavesImages (kept_in files) c) same (only_now (kept_in b) q c left))

  module _ (sound : (f : ℕ) → IsSound (a f)) (file : ℕ) (here : FileState) (is : b ≡ at_file a file here) where
    leaves_of : (c : Image) → Now b q c → LeavesImages (at_file (kept_in a) file here.kept) c
    leaves_of c left = subst (λ kept. LeavesImages kept c) ((λ i. kept_in (is i)) ∙ kept_at a file here) (only_now (kept_in b) q c left)

    pub seen_here : (b file).bytes ≡ here.bytes
    seen_here = ap (λ files. (files file).bytes) is ∙ ap (λ (x : FileState). x.bytes) (at_here a file here)

    pub seen_others : (f : ℕ) → f ≢ file → (b f).bytes ≡ (a f).bytes
    seen_others f ne = ap (λ files. (files f).bytes) is ∙ ap (λ (x : FileState). x.bytes) (at_other a file here f ne)

    follows_of : (step : Image → Image → Type 0) → Follows step (LeavesImages (kept_in a)) (LeavesImages (at_file (kept_in a) file here.kept)) → Follows step (Now a p) (Now b q)
    follows_of step follows c left = let from = follows c (leaves_of c left) in (from.0, left_now (kept_in a) p from.0 from.1, from.2)

    nothing_of : NothingNew (LeavesImages (kept_in a)) (LeavesImages (at_file (kept_in a) file here.kept)) → NothingNew (Now a p) (Now b q)
    nothing_of new c left = left_now (kept_in a) p c (new c (leaves_of c left))

module _ (a b : ℕ → FileState) (p q : List (ℕ → Kept)) (sound : (f : ℕ) → IsSound (a f)) (file : ℕ) where
  pub write_crash : (at n : ℕ) (front : List ℕ) → at ≤ length (a file).bytes → b ≡ at_file a file (file_written at n front (a file)) → Follows (OnFile file (Torn at n)) (Now a p) (Now b q)
  write_crash at n front le is = follows_of a b p q sound file (file_written at n front (a file)) is (OnFile file (Torn at n))
      (write_follows (kept_in a) file at n (a file).bytes (sound file).image le)

  pub cut_crash : (n : ℕ) (is_seen : Bool) → b ≡ at_file a file (file_cut n is_seen (a file)) → Follows (OnFile file (Cut n)) (Now a p) (Now b q)
  cut_crash n is_seen is = follows_of a b p q sound file (file_cut n is_seen (a file)) is (OnFile file (Cut n))
      (cut_follows (kept_in a) file n (a file).bytes (sound file).image)

  pub sync_crash : b ≡ at_file a file (file_synced (a file)) → NothingNew (Now a p) (Now b q)
  sync_crash is = nothing_of a b p q sound file (file_synced (a file)) is (sync_keeps (kept_in a) file (a file).bytes (sound file).image)

  pub sync_seen : b ≡ at_file a file (file_synced (a file)) → bytes_in b ≡ bytes_in a
  sync_seen is = λ i f. pointwise f i
    where
      pointwise : (f : ℕ) → bytes_in b f ≡ bytes_in a f
      pointwise f = ⊎_elim
          (λ (same : f ≡ file). ap (bytes_in b) same ∙ seen_here a b p q sound file (file_synced (a file)) is ∙ ap (bytes_in a) (sym same))
          (λ ne. seen_others a b p q sound file (file_synced (a file)) is f ne)
          (cases_eq f file)

  pub sync_on_disk : b ≡ at_file a file (file_synced (a file)) → OnDisk file (bytes_in b) (Now b q)
  sync_on_disk is c left =
      sync_durable (kept_in a) file (bytes_in a) c (leaves_of a b p q sound file (file_synced (a file)) is c left)
      ∙ sym (λ i. sync_seen is i file)

-- a step that changes nothing
pub torn_nothing : (a b : ℕ → FileState) (p q : List (ℕ → Kept)) (file at n : ℕ) → b ≡ a → Follows (OnFile file (Torn at n)) (Now a p) (Now b q)
torn_nothing a b p q file at n same c left = (c, nothing_new a b p q same c left, record { here = torn_not at n (c file); others = λ f ne. refl })

pub cut_nothing : (a b : ℕ → FileState) (p q : List (ℕ → Kept)) (file n : ℕ) → b ≡ a → Follows (OnFile file (Cut n)) (Now a p) (Now b q)
cut_nothing a b p q file n same c left = (c, nothing_new a b p q same c left, record { here = record { front = sym (take_all (length (c file)) (c file) (omega arith)); no_shorter = omega arith }; others = λ f ne. refl })
