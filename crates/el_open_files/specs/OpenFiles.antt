-- What contracts see of a disk over open files.
use Rattle.std.specs.Prelude.{◌≡◌, ℕ, List, [], Option, None, Some, IfSome, slice_index_or}
use Rattle.el_outside.specs.Disk.{Image, OnDisk}
use Rattle.el_outside.specs.Moments.{LeftNow}

-- the files, how many calls were made, and how often one has failed
pub record FilesOf (D : Type 0) : Type 0 where
  pub files : D
  pub made : ℕ
  pub faults : ℕ

-- the file that is open at its number
abbrev pub opened : {I : Type 0} → List (Option I) → ℕ → Option I
opened places f = slice_index_or places f None

-- each file that was open is still open, as it was
abbrev pub StayOpen : {I : Type 0} → List (Option I) → List (Option I) → Type 0
StayOpen old new = (f : ℕ) → IfSome (opened old f) (λ it. opened new f ≡ Some it)

-- What is open is the file of that number, and its name is on the disk.
pub record IsOpen (tells : Type 0) {D I : Type 0} (is_file : I → ℕ → Type 0) (is_named : D → ℕ → Type 0)
    (files : D) (f : ℕ) (it : I) : Type 0 where
  pub file : is_file it f
  pub named : tells → is_named files f

-- each file that is open is the one of its number, and its name is on the disk
abbrev pub Held : (tells : Type 0) {D I : Type 0} → (I → ℕ → Type 0) → (D → ℕ → Type 0) → D → List (Option I)
    → Type 0
Held tells is_file is_named files places =
    (f : ℕ) → IfSome (opened places f) (λ it. IsOpen tells is_file is_named files f it)

-- the file has no bytes, and a crash leaves none of it
pub record IsUnmade {D : Type 0} (seen : D → Image) (moment : D → ℕ) (left_since : D → ℕ → Image → Type 0)
    (file : ℕ) (files : D) : Type 0 where
  pub empty : seen files file ≡ []
  pub on_disk : OnDisk file (seen files) (LeftNow moment left_since files)
