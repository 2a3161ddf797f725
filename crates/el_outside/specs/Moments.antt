-- What a crash since some moment may have left. C is what is left: an image, or what a layer above makes of
-- it.
use Rattle.std.specs.Prelude.{◌≡◌, ◌⊎◌, ◌<◌, ◌≤◌, ℕ}
use Rattle.el_outside.specs.Disk.{Image}

-- Time goes on: a crash since t might have left what it might have left before, or what it may leave now.
pub record Elapses {C : Type 0} (before now : ℕ) (past since : ℕ → C → Type 0)
    (may_leave : C → Type 0) : Type 0 where
  pub later : before ≤ now
  pub nothing_else : (t : ℕ) (c : C) → t ≤ before → since t c → past t c ⊎ may_leave c
  pub keeps : (t : ℕ) (c : C) → t ≤ before → past t c → since t c

-- Whatever a crash since old leaves has P, beside what a crash before old left.
pub record LeavesOnly {D C : Type 0} (moment : D → ℕ) (left_since : D → ℕ → C → Type 0)
    (old new : D) (P : C → Type 0) : Type 0 where
  pub later : moment old ≤ moment new
  pub each : (c : C) → left_since new (moment old) c → P c
  pub before : (t : ℕ) (c : C) → t ≤ moment old → left_since new t c → left_since old t c ⊎ P c

-- what a crash at this very moment may leave
abbrev pub LeftNow : {D C : Type 0} → (D → ℕ) → (D → ℕ → C → Type 0) → D → C → Type 0
LeftNow moment left_since d = left_since d (moment d)

-- A call was made: the clock moved on, and a crash since a moment before might have left what it might have
-- left by then, or what it may leave now.
pub record Passes {D C : Type 0} (moment : D → ℕ) (left_since : D → ℕ → C → Type 0)
    (old new : D) : Type 0 where
  pub ticks : moment old < moment new
  pub time : Elapses (moment old) (moment new) (left_since old) (left_since new)
      (LeftNow moment left_since new)

-- What a crash since some moment up to old leaves, it might have left by old: since old nothing came to it.
pub record LeavesNoMore {D C : Type 0} (moment : D → ℕ) (left_since : D → ℕ → C → Type 0)
    (old new : D) : Type 0 where
  pub later : moment old ≤ moment new
  pub before : (t : ℕ) (c : C) → t ≤ moment old → left_since new t c → left_since old t c

-- A call left what is below it as it was, where that is told: the files beside its own read as before, and a
-- crash leaves no more than one just before the call might have left.
pub record KeepsBelow {D C : Type 0} (tells : Type 0) (moment : D → ℕ)
    (left_since : D → ℕ → C → Type 0) (beside : D → Image) (old new : D) : Type 0 where
  pub crash : tells → LeavesNoMore moment left_since old new
  pub files : tells → beside new ≡ beside old
