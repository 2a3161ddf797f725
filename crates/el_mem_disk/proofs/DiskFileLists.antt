-- The list of a disk's files, and the files after a crash.
use Rattle.std.proofs.Common.{◌≡◌, ◌≢◌, ⊎_elim, ℕ, zero, suc, ◌+◌, ◌<◌, ◌≤◌, List, [], ◌∷◌, ◌++◌, length, get_or, set, drop, map, refl, sym, ◌∙◌, ap, arith}
use Rattle.std.proofs.lemmas.Bool.{cases_eq, cases_lt}
use Rattle.std.proofs.lemmas.List.{get_or_past, get_or_append_left, get_or_push, get_or_read_under}
use Rattle.std.proofs.lemmas.Nat.{mod_below}
use Rattle.std.specs.List.{range_with_len}
use lib.Seq.{drop-drop}
use Rattle.el_outside.specs.Images.{at_file, synced}
use Rattle.el_outside.proofs.Images.{at_here, at_other}
use Rattle.el_mem_disk.specs.DiskFiles.{FileState, never_written, file_numbered, chosen, chosen_size, chosen_byte, numbers_before, crashed}

-- functions of numbers with the same values
pub same_files : (a b : ℕ → FileState) → ((f : ℕ) → a f ≡ b f) → a ≡ b
same_files a b h = λ i f. h f i

-- a file more that was never written
pub file_of_push : (files : List FileState) → file_numbered (files ++ never_written ∷ []) ≡ file_numbered files
file_of_push files = same_files _ _ (λ f. ⊎_elim
    (λ lt. get_or_append_left files (never_written ∷ []) never_written f lt)
    (λ le. ⊎_elim
    (λ (is : f ≡ length files). get_or_push files never_written never_written f (sym is) ∙ sym (get_or_past files f never_written le))
    (λ ne. get_or_past (files ++ never_written ∷ []) f never_written (longer f le ne) ∙ sym (get_or_past files f never_written le))
    (cases_eq f (length files)))
    (cases_lt f (length files)))
  where
    length_push : (xs : List FileState) → length (xs ++ never_written ∷ []) ≡ length xs + 1
    length_push [] = refl
    length_push (x ∷ xs) = let more = length_push xs in omega arith

    longer : (f : ℕ) → length files ≤ f → f ≢ length files → length (files ++ never_written ∷ []) ≤ f
    longer f le ne = omega (arith, length_push files)

-- one file put in the place of another
set_here : (files : List FileState) (k : ℕ) (file : FileState) → k < length files → file_numbered (set files k file) k ≡ file
set_here [] k file lt = absurd (omega arith)
set_here (x ∷ files) zero file lt = refl
set_here (x ∷ files) (suc k) file lt = set_here files k file (omega arith)

set_other : (files : List FileState) (k : ℕ) (file : FileState) (f : ℕ) → f ≢ k → file_numbered (set files k file) f ≡ file_numbered files f
set_other [] k file f ne = refl
set_other (x ∷ files) zero file zero ne = absurd (ne refl)
set_other (x ∷ files) zero file (suc f) ne = refl
set_other (x ∷ files) (suc k) file zero ne = refl
set_other (x ∷ files) (suc k) file (suc f) ne = set_other files k file f (λ e. ne (λ i. suc (e i)))

pub file_of_set : (files : List FileState) (k : ℕ) (file : FileState) → k < length files → file_numbered (set files k file) ≡ at_file (file_numbered files) k file
file_of_set files k file lt = same_files _ _ (λ f. ⊎_elim
    (λ (is : f ≡ k). ap (file_numbered (set files k file)) is ∙ set_here files k file lt ∙ sym (at_here (file_numbered files) k file) ∙ ap (at_file (file_numbered files) k file) (sym is))
    (λ ne. set_other files k file f ne ∙ sym (at_other (file_numbered files) k file f ne))
    (cases_eq f k))

-- and where the same file is put there
pub file_of_set_same : (files : List FileState) (k : ℕ) (file : FileState) → k < length files → file ≡ file_numbered files k → file_numbered (set files k file) ≡ file_numbered files
file_of_set_same files k file lt same = same_files _ _ (λ f. ⊎_elim
    (λ (is : f ≡ k). ap (file_numbered (set files k file)) is ∙ set_here files k file lt ∙ same ∙ ap (file_numbered files) (sym is))
    (λ ne. set_other files k file f ne)
    (cases_eq f k))

-- the file that is found in the list
pub found : (files : List FileState) (k : ℕ) (file : FileState) → k < length files → file ≡ get_or files k file → file ≡ file_numbered files k
found files k file lt is = get_or_read_under files k (length files) file never_written is lt refl

-- the files after a crash, one more
pub crash_more : (files : ℕ → FileState) (numbers : List ℕ) (all : List FileState) (n : ℕ) (file : FileState) → length all ≡ n
    → ((k : ℕ) → k < n → file_numbered all k ≡ crashed files numbers k) → file ≡ crashed files numbers n → (k : ℕ) → k < n + 1 → file_numbered (all ++ file ∷ []) k ≡ crashed files numbers k
crash_more files numbers all n file long done here k lt = ⊎_elim
    (λ (is : k ≡ n). get_or_push all file never_written k (long ∙ sym is) ∙ here ∙ ap (crashed files numbers) (sym is))
    (λ ne. let below : k < n = omega arith in get_or_append_left all (file ∷ []) never_written k (omega arith) ∙ done k below)
    (cases_eq k n)

pub next_numbers : (files : ℕ → FileState) (n : ℕ) → numbers_before files (n + 1) ≡ numbers_before files n + (1 + (files n).kept.greatest)
next_numbers files n = let on : n + 1 ≡ suc n = omega arith in ap (numbers_before files) on

pub rest_more : (files : ℕ → FileState) (numbers rest : List ℕ) (n g : ℕ) → rest ≡ drop (numbers_before files n) numbers → g ≡ (files n).kept.greatest
    → drop (1 + g) rest ≡ drop (numbers_before files (n + 1)) numbers
rest_more files numbers rest n g is great =
    ap (drop (1 + g)) is ∙ drop-drop (1 + g) (numbers_before files n) numbers
    ∙ ap (λ m. drop m numbers) (ap (λ h. numbers_before files n + (1 + h)) great ∙ sym (next_numbers files n))

-- a file that was never written reads so after a crash
pub none_chosen : (numbers : List ℕ) → chosen (synced []) numbers ≡ []
none_chosen numbers =
    let low = mod_below (get_or numbers 0 0) 1 (omega arith) in
    let none : chosen_size (synced []) numbers ≡ 0 = omega arith in
    ap (λ n. map (chosen_byte (synced []) numbers) (range_with_len 0 n)) none

crash_never : (numbers : List ℕ) → record { bytes = chosen (synced []) numbers; kept = synced [] } ≡ never_written
crash_never numbers = λ i. record { bytes = none_chosen numbers i; kept = synced [] }

pub crash_all : (files all : List FileState) (numbers : List ℕ) → length all ≡ length files
    → ((k : ℕ) → k < length files → file_numbered all k ≡ crashed (file_numbered files) numbers k) → file_numbered all ≡ crashed (file_numbered files) numbers
crash_all files all numbers long done = same_files _ _ (λ k. ⊎_elim
    (λ lt. done k lt)
    (λ le.
    get_or_past all k never_written (omega arith) ∙ sym (crash_never (drop (numbers_before (file_numbered files) k) numbers))
    ∙ ap (λ (file : FileState). record { bytes = chosen file.kept (drop (numbers_before (file_numbered files) k) numbers); kept = file.kept }) (sym (get_or_past files k never_written le)))
    (cases_lt k (length files)))
