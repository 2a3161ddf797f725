-- What the calls of a folder in memory do, by what the disk below it did.
use Rattle.std.proofs.Common.{◌≡◌, ◌≢◌, ◌⊎◌, inl, inr, ⊎_elim, ℕ, zero, suc, ◌+◌, ◌-◌, ◌<◌, ◌≤◌, ◌==◌, min, max, Bool, true, false, List, [], ◌++◌, length, take, drop, Result, OnOk, OnErr, refl, sym, ◌∙◌, ap, subst, arith}
use Rattle.std.specs.List.{list_any}
use Rattle.std.proofs.lemmas.Bool.{cases_eq, cases_lt}
use Rattle.std.proofs.lemmas.List.{take_all, take-append-le}
use Rattle.el_outside.specs.Disk.{Image, Torn, Cut, OnFile, Follows, NothingNew, OnDisk}
use Rattle.el_outside.specs.Images.{at_file, LeavesImages, IsImage}
use Rattle.el_outside.specs.Moments.{LeftNow, Passes}
use Rattle.el_outside.proofs.Images.{at_here, at_other, left_now, only_now, keep_written, is_synced}
use Rattle.el_open_files.specs.Calls.{IsFront, Lasts, Idle, ChangesFile, Settles}
use Rattle.el_mem_disk.specs.DiskFiles.{FileState, never_written, file_written}
use Rattle.el_mem_disk.specs.Disks.{DiskState, disk_state, kept_in, seen_on, moment_of, left_on, ticked, with_file, failed, starving}
use Rattle.el_mem_disk.specs.MemFolders.{folder_seen, folder_moment, folder_left, folder_names}
use Rattle.el_mem_disk.specs.declared.disk.MemDisk.{MemDisk}
use Rattle.el_mem_disk.specs.declared.mem_folder.MemFolder.{MemFolder}
use Rattle.el_mem_disk.proofs.DiskCalls.{files_by}
use Rattle.el_mem_disk.proofs.DiskSound.{either}

abbrev pub Listed : ℕ → List ℕ → Bool
Listed f xs = list_any (λ n. f == n) xs

-- a file that isn't there was never written
abbrev pub Absent : List ℕ → (ℕ → FileState) → Type 0
Absent made files = (f : ℕ) → Listed f made ≡ false → files f ≡ never_written

pub absent_same : (made : List ℕ) (a b : ℕ → FileState) → b ≡ a → Absent made a → Absent made b
absent_same made a b same absent f out = ap (λ (files : ℕ → FileState). files f) same ∙ absent f out

pub absent_at : (made : List ℕ) (a b : ℕ → FileState) (file : ℕ) (here : FileState) → Listed file made ≡ true → b ≡ at_file a file here
    → Absent made a → Absent made b
absent_at made a b file here is same absent f out =
    ap (λ (files : ℕ → FileState). files f) same
    ∙ at_other a file here f (λ e. let both : true ≡ false = sym is ∙ ap (λ k. Listed k made) (sym e) ∙ out in cc both)
    ∙ absent f out

-- a call that changes no file
pub files_same : {T E : Type 0} (r : Result T E) (old new : DiskState) → OnOk r (new ≡ ticked old) → OnErr r (new ≡ failed (ticked old)) → new.files ≡ old.files
files_same r old new ok err = ⊎_elim (λ e. files_by e) (λ e. files_by e) (either r ok err)

-- a call that may change one file
abbrev pub SameOr : (a b : ℕ → FileState) (file : ℕ) → Type 0
SameOr a b file = (b ≡ a) ⊎ ((here : FileState) × (b ≡ at_file a file here))

pub files_changed : {T E : Type 0} (B : Type 0) (r : Result T E) (old new : DiskState) (file : ℕ) (here front : FileState)
    → OnOk r (new ≡ with_file (ticked old) file here)
    → OnErr r ((new ≡ starving (ticked old)) ⊎ (B × (new ≡ failed (with_file (ticked old) file front))))
    → SameOr old.files new.files file
files_changed B r old new file here front ok err = ⊎_elim
    (λ e. inr (here, files_by e))
    (λ rest. ⊎_elim (λ e. inl (files_by e)) (λ e. inr (front, files_by e.1)) rest)
    (either r ok err)

pub files_settled : {T E : Type 0} (B : Type 0) (r : Result T E) (old new : DiskState) (file : ℕ) (here : FileState)
    → OnOk r (new ≡ with_file (ticked old) file here)
    → OnErr r ((new ≡ starving (ticked old)) ⊎ (B × (new ≡ failed (ticked old)))) → SameOr old.files new.files file
files_settled B r old new file here ok err = ⊎_elim
    (λ e. inr (here, files_by e))
    (λ rest. ⊎_elim (λ e. inl (files_by e)) (λ e. inl (files_by e.1)) rest)
    (either r ok err)

-- a write, of which some front may be seen, or which did nothing
abbrev pub SameOrWritten : (a b : ℕ → FileState) (file at n : ℕ) → Type 0
SameOrWritten a b file at n = (b ≡ a) ⊎ ((front : List ℕ) × (b ≡ at_file a file (file_written at n front (a file))))

pub files_written : {T E : Type 0} (B : Type 0) (r : Result T E) (old new : DiskState) (file at n limit : ℕ) (bytes front : List ℕ)
    → (limit ≤ at + n → new ≡ failed (ticked old))
    → OnOk r (new ≡ with_file (ticked old) file (file_written at n bytes (old.files file)))
    → (at + n < limit → OnErr r ((new ≡ starving (ticked old))
    ⊎ (B × (new ≡ failed (with_file (ticked old) file (file_written at n front (old.files file)))))))
    → SameOrWritten old.files new.files file at n
files_written B r old new file at n limit bytes front long ok err = ⊎_elim
    (λ lt. ⊎_elim
    (λ e. inr (bytes, files_by e))
    (λ rest. ⊎_elim (λ e. inl (files_by e)) (λ e. inr (front, files_by e.1)) rest)
    (either r ok (err lt)))
    (λ le. inl (files_by (long le)))
    (cases_lt (at + n) limit)

pub same_or : (a b : ℕ → FileState) (file at n : ℕ) → SameOrWritten a b file at n → SameOr a b file
same_or a b file at n written = ⊎_elim (λ same. inl same) (λ one. inr (file_written at n one.0 (a file), one.1)) written

pub absent_after : (made : List ℕ) (a b : ℕ → FileState) (file : ℕ) → Listed file made ≡ true → SameOr a b file → Absent made a → Absent made b
absent_after made a b file is changed absent =
    ⊎_elim (λ same. absent_same made a b same absent) (λ one. absent_at made a b file one.0 is one.1 absent) changed

-- nothing was called
pub lasts_none : (folder : MemFolder) → Lasts folder_moment folder_left folder_names folder folder
lasts_none folder = record {
  time = record { later = omega arith; nothing_else = λ t c le left. inl left; keeps = λ t c le left. left };
  names = λ f named. named;
}

pub changes_none : (folder : MemFolder) (f : ℕ) (step : List ℕ → List ℕ → Type 0) → ((xs : List ℕ) → step xs xs)
    → ChangesFile folder_seen folder_moment folder_left folder_names f step folder folder
changes_none folder f step nothing = record {
  others = λ g ne. refl;
  crash = λ c left. (c, left, record { here = nothing (c f); others = λ g ne. refl });
  lasts = lasts_none folder;
}

pub changes_idle : (old new : MemFolder) (f : ℕ) (step : List ℕ → List ℕ → Type 0) → ((xs : List ℕ) → step xs xs)
    → Idle folder_seen folder_moment folder_left folder_names old new → ChangesFile folder_seen folder_moment folder_left folder_names f step old new
changes_idle old new f step nothing idle = record {
  others = λ g ne. ap (λ (s : Image). s g) idle.same;
  crash = λ c left. (c, idle.crash c left, record { here = nothing (c f); others = λ g ne. refl });
  lasts = idle.lasts;
}

pub cut_not : (n : ℕ) (xs : List ℕ) → Cut n xs xs
cut_not n xs = record { front = sym (take_all (length xs) xs (omega arith)); no_shorter = omega arith }

pub torn_wider : (at n m : ℕ) (old new : List ℕ) → n ≤ m → Torn at n old new → Torn at m old new
torn_wider at n m old new le torn = record {
  same = λ k out. torn.same k (⊎_elim (λ lt. inl lt) (λ past. inr (omega (arith, past, le))) out);
  no_shorter = torn.no_shorter;
  no_longer = omega (arith, torn.no_longer, le);
}

-- the disk's call, told of the folder
module _ (old new : MemFolder) (names : (f : ℕ) → folder_names old f → folder_names new f) where
  pub lasts_by : Passes moment_of left_on old.disk new.disk → Lasts folder_moment folder_left folder_names old new
  lasts_by passes = record { time = passes.time; names = names }

  pub changed : (file f : ℕ) (step wider : List ℕ → List ℕ → Type 0) → ((xs ys : List ℕ) → step xs ys → wider xs ys) → file ≡ f
      → ((g : ℕ) → g ≢ file → seen_on new.disk g ≡ seen_on old.disk g)
      → Follows (OnFile file step) (LeftNow moment_of left_on old.disk) (LeftNow moment_of left_on new.disk)
      → Passes moment_of left_on old.disk new.disk
      → ChangesFile folder_seen folder_moment folder_left folder_names f wider old new
  changed file f step wider widen is others crash passes = subst (λ g. ChangesFile folder_seen folder_moment folder_left folder_names g wider old new) is (record {
    others = others;
    crash = λ c left. let from = crash c left in (from.0, from.1, record { here = widen (from.0 file) (c file) from.2.here; others = from.2.others });
    lasts = lasts_by passes;
  })

  pub settled : (file f : ℕ) → file ≡ f → ((g : ℕ) → g ≢ file → seen_on new.disk g ≡ seen_on old.disk g)
      → NothingNew (LeftNow moment_of left_on old.disk) (LeftNow moment_of left_on new.disk)
      → Passes moment_of left_on old.disk new.disk
      → Settles folder_seen folder_moment folder_left folder_names f old new
  settled file f is others crash passes = subst (λ g. Settles folder_seen folder_moment folder_left folder_names g old new) is
      (record { others = others; crash = crash; lasts = lasts_by passes })

pub settles_idle : (old new : MemFolder) (f : ℕ) → Idle folder_seen folder_moment folder_left folder_names old new
    → Settles folder_seen folder_moment folder_left folder_names f old new
settles_idle old new f idle = record { others = λ g ne. ap (λ (s : Image). s g) idle.same; crash = idle.crash; lasts = idle.lasts }

-- what might be left before a write may be left after it
still_at : (a b : ℕ → FileState) (file at n : ℕ) (front : List ℕ) → b ≡ at_file a file (file_written at n front (a file)) → (c : Image)
    → LeavesImages (kept_in a) c → LeavesImages (kept_in b) c
still_at a b file at n front is c leaves f = subst (λ (files : ℕ → FileState). IsImage (files f).kept (c f)) (sym is) (⊎_elim
    (λ (same : f ≡ file). subst (λ g. IsImage (at_file a file (file_written at n front (a file)) g).kept (c g)) (sym same)
    (subst (λ (x : FileState). IsImage x.kept (c file)) (sym (at_here a file (file_written at n front (a file)))) (keep_written (a file).kept at n (c file) (leaves file))))
    (λ ne. subst (λ (x : FileState). IsImage x.kept (c f)) (sym (at_other a file (file_written at n front (a file)) f ne)) (leaves f))
    (cases_eq f file))

pub still : (old new : MemDisk) (file at n : ℕ) → SameOrWritten (disk_state old).files (disk_state new).files file at n
    → NothingNew (LeftNow moment_of left_on new) (LeftNow moment_of left_on old)
still old new file at n written c left =
    let a = (disk_state old).files in
    let b = (disk_state new).files in
    let leaves = only_now (kept_in a) (disk_state old).past c left in
    left_now (kept_in b) (disk_state new).past c (⊎_elim
    (λ same. subst (λ (files : ℕ → FileState). LeavesImages (kept_in files) c) (sym same) leaves)
    (λ some. still_at a b file at n some.0 some.1 c leaves)
    written)

-- a read that gave nothing had no room, or was at the end
read_none : (n sub buf most size at : ℕ) → n ≡ min sub (size - at) → sub ≡ min buf (max most 1) → n ≡ 0 → (buf ≡ 0) ⊎ (size ≤ at)
read_none n sub zero most size at count sized none = inl refl
read_none n sub (suc b) most size at count sized none = inr (grind (arith, count, sized, none))

pub end_of : (n sub buf most at number f : ℕ) (seen now : Image) → number ≡ f → now ≡ seen → n ≡ min sub (length (seen number) - at)
    → sub ≡ min buf (max most 1) → n ≡ 0 → (buf ≡ 0) ⊎ (length (now f) ≤ at)
end_of n sub buf most at number f seen now is same count sized none =
    subst (λ g. (buf ≡ 0) ⊎ (length (now g) ≤ at)) is (subst (λ (s : Image). (buf ≡ 0) ⊎ (length (s number) ≤ at)) (sym same)
    (read_none n sub buf most (length (seen number)) at count sized none))

pub front_of : (n at number f : ℕ) (buf rest : List ℕ) (seen now : Image) → number ≡ f → now ≡ seen → n ≤ length buf
    → n ≤ length (seen number) - at → take n buf ≡ take n (drop at (seen number)) → IsFront at n (buf ++ rest) (now f)
front_of n at number f buf rest seen now is same long there filled =
    subst (λ g. IsFront at n (buf ++ rest) (now g)) is (subst (λ (s : Image). IsFront at n (buf ++ rest) (s number)) (sym same)
    (record { there = there; bytes = take-append-le n buf rest long ∙ filled }))

-- of a file that was never written a crash leaves nothing
pub absent_on_disk : (disk : MemDisk) (f : ℕ) → (disk_state disk).files f ≡ never_written → OnDisk f (seen_on disk) (LeftNow moment_of left_on disk)
absent_on_disk disk f is c left =
    let image = subst (λ (x : FileState). IsImage x.kept (c f)) is (only_now (kept_in (disk_state disk).files) (disk_state disk).past c left f) in
    is_synced [] (c f) image ∙ sym (ap (λ (x : FileState). x.bytes) is)
