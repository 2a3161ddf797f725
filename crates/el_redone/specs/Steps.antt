-- What each step of a commit leaves at each moment in it, and what holds between two steps.
use Rattle.std.specs.Prelude.{◌≡◌, ◌≢◌, ◌⊎◌, ◌≤◌, ◌<◌, ℕ, List, ◌∷◌, length}
use Rattle.el_outside.specs.declared.disk.Disk as disk
use Rattle.el_outside.specs.Disk.{Image, OnDisk}
use Rattle.el_outside.specs.Moments.{LeftNow, LeavesOnly}
use Rattle.el_redone.specs.Redone.{Write, overlaid, WritesFit, into, IsClosed, StandsAlike}
use Rattle.el_redone.specs.declared.steps.TheConstants.{ROOT}

-- each image that a crash now may leave has P
abbrev pub EachNow : {D : Type 0} → disk.Ghosts D → (Image → Type 0) → D → Type 0
EachNow G P d = (c : Image) → LeftNow G.moment G.left_since d c → P c

-- Each image that a crash since `old` may leave has P; one that a crash since an earlier moment may leave has
-- it or could be left before.
abbrev pub Leaves : {D : Type 0} → disk.Ghosts D → (Image → Type 0) → D → D → Type 0
Leaves G P old new = LeavesOnly G.moment G.left_since old new P

-- the root, where it comes after the redo file, is this one
abbrev pub HasRoot : ℕ → Image → Image → Type 0
HasRoot redo files c = redo < ROOT → c ROOT ≡ files ROOT

-- step 1: the files are as they were, and the gate is closed
pub record IsAside (first redo : ℕ) (files c : Image) : Type 0 where
  pub same : (f : ℕ) → first ≤ f → f < redo → c f ≡ files f
  pub root : HasRoot redo files c
  pub closed : IsClosed (c redo)

-- only the redo file was written, behind the closed gate
pub record StaysAside {D : Type 0} (G : disk.Ghosts D) (first redo : ℕ) (old new : D) : Type 0 where
  pub others : (f : ℕ) → f ≢ redo → G.seen new f ≡ G.seen old f
  pub crash : (files : Image) → EachNow G (IsAside first redo files) old
      → Leaves G (IsAside first redo files) old new

-- steps 2 and 4: the files are these, and behind the gate, whatever it is, stand these bytes
pub record IsGated (first redo : ℕ) (files : Image) (rest : List ℕ) (c : Image) : Type 0 where
  pub same : (f : ℕ) → first ≤ f → f < redo → c f ≡ files f
  pub root : HasRoot redo files c
  pub gate : ℕ
  pub is : c redo ≡ gate ∷ rest

-- step 3: the redo file is this one, and once these writes are made, the files are those
pub record WillBe (first redo : ℕ) (files : Image) (ws : List Write) (file : List ℕ)
    (c : Image) : Type 0 where
  pub file_is : c redo ≡ file
  pub root : HasRoot redo files c
  pub same : (f : ℕ) → first ≤ f → f < redo → overlaid (into f ws) (c f) ≡ files f
  pub fits : (f : ℕ) → first ≤ f → f < redo → WritesFit (into f ws) (length (c f))

-- the files from `first` up to `redo` are on the disk
abbrev pub AreOnDisk : {D : Type 0} → disk.Ghosts D → ℕ → ℕ → D → Type 0
AreOnDisk G first redo d = (f : ℕ) → first ≤ f → f < redo
    → OnDisk f (G.seen d) (LeftNow G.moment G.left_since d)

-- An image that a crash since an opening began may leave: one from before, but for a redo file that has fewer
-- than two bytes in both.
pub record IsBegun {D : Type 0} (G : disk.Ghosts D) (redo : ℕ) (old : D) (c : Image) : Type 0 where
  pub from : Image
  pub left : LeftNow G.moment G.left_since old from
  pub others : (f : ℕ) → f ≢ redo → c f ≡ from f
  pub here : (c redo ≡ from redo) ⊎ ((length (from redo) < 2) × (length (c redo) < 2))

-- An image that stands for the same files as the other, and has its root.
pub record IsAlikeTo (Spells : List ℕ → List Write → Type 0) (first redo : ℕ) (from c : Image) : Type 0 where
  pub alike : StandsAlike Spells first redo from c
  pub root : HasRoot redo from c

-- An image that stands for the same files as one that a crash of `old` might leave, and has its root.
pub record IsAlike {D : Type 0} (G : disk.Ghosts D) (Spells : List ℕ → List Write → Type 0)
    (first redo : ℕ) (old : D) (c : Image) : Type 0 where
  pub from : Image
  pub left : LeftNow G.moment G.left_since old from
  pub alike : StandsAlike Spells first redo from c
  pub root : HasRoot redo from c

-- the root is on the disk, where it comes after the redo file
abbrev pub IsRootOnDisk : {D : Type 0} → disk.Ghosts D → ℕ → D → Type 0
IsRootOnDisk G redo d = redo < ROOT → OnDisk ROOT (G.seen d) (LeftNow G.moment G.left_since d)

-- between two commits: all files are on the disk, and the gate is closed
pub record IsAtRest {D : Type 0} (G : disk.Ghosts D) (first redo : ℕ) (d : D) : Type 0 where
  pub on_disk : AreOnDisk G first redo d
  pub redo_on_disk : OnDisk redo (G.seen d) (LeftNow G.moment G.left_since d)
  pub root_on_disk : IsRootOnDisk G redo d
  pub closed : IsClosed (G.seen d redo)
