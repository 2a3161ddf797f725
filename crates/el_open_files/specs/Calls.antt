-- What calls on open files do to what they hold, and to what a crash may leave of them.
use Rattle.std.specs.Prelude.{◌≡◌, ◌≢◌, ◌≤◌, ◌-◌, ℕ, List, length, take, drop}
use Rattle.el_outside.specs.Disk.{Image, OnFile, Follows, NothingNew}
use Rattle.el_outside.specs.Moments.{Elapses, LeftNow}

-- The first n bytes of the buffer are those of the file from the place on.
pub record IsFront (place n : ℕ) (buf file : List ℕ) : Type 0 where
  pub there : n ≤ length file - place
  pub bytes : take n buf ≡ take n (drop place file)

-- Time goes on, and no name that is on the disk is lost.
pub record Lasts {D : Type 0} (moment : D → ℕ) (left_since : D → ℕ → Image → Type 0)
    (is_named : D → ℕ → Type 0) (old new : D) : Type 0 where
  pub time : Elapses (moment old) (moment new) (left_since old) (left_since new)
      (LeftNow moment left_since new)
  pub names : (f : ℕ) → is_named old f → is_named new f

-- no file changes, and a crash leaves nothing that it mightn't have left before
pub record Idle {D : Type 0} (seen : D → Image) (moment : D → ℕ) (left_since : D → ℕ → Image → Type 0)
    (is_named : D → ℕ → Type 0) (old new : D) : Type 0 where
  pub same : seen new ≡ seen old
  pub crash : NothingNew (LeftNow moment left_since old) (LeftNow moment left_since new)
  pub lasts : Lasts moment left_since is_named old new

-- no other file changes, and what a crash leaves it might have left before, after this step of the one
pub record ChangesFile {D : Type 0} (seen : D → Image) (moment : D → ℕ) (left_since : D → ℕ → Image → Type 0)
    (is_named : D → ℕ → Type 0) (file : ℕ) (step : List ℕ → List ℕ → Type 0) (old new : D) : Type 0 where
  pub others : (f : ℕ) → f ≢ file → seen new f ≡ seen old f
  pub crash : Follows (OnFile file step) (LeftNow moment left_since old) (LeftNow moment left_since new)
  pub lasts : Lasts moment left_since is_named old new

-- no other file changes, and a crash leaves nothing that it mightn't have left before
pub record Settles {D : Type 0} (seen : D → Image) (moment : D → ℕ) (left_since : D → ℕ → Image → Type 0)
    (is_named : D → ℕ → Type 0) (file : ℕ) (old new : D) : Type 0 where
  pub others : (f : ℕ) → f ≢ file → seen new f ≡ seen old f
  pub crash : NothingNew (LeftNow moment left_since old) (LeftNow moment left_since new)
  pub lasts : Lasts moment left_since is_named old new
