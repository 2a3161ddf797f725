-- Lives of the program, one after the other, over one disk. Each is a call of `serve`.
use Rattle.std.specs.Prelude.{◌≡◌, ◌⊎◌, ℕ, List, [], ◌∷◌}
use Rattle.el_outside.specs.declared.archive.Archive as archive
use Rattle.el_outside.specs.declared.disk.Disk as disk
use Rattle.el_outside.specs.declared.link.Link as link
use Rattle.el_outside.specs.declared.relay.Relay as relay
use Rattle.el_outside.specs.Disk.{Image}
use Rattle.el_outside.specs.Moments.{LeftNow}
use Rattle.el_chain.specs.Chains.{Chain}
use Rattle.el_program.specs.Calls.{Call, CallEnds}
use Rattle.el_program.specs.Opened.{certain}
use Rattle.el_program.specs.OtherFiles.{OtherFilesStay}
use Rattle.el_program.specs.declared.status.Status.{Status}

-- a disk is one that another may have left: it reads as one of its images, and has no others
pub record IsLeftBy {D : Type 0} (of_disk : disk.Ghosts D) (before next : D) : Type 0 where
  pub reads : LeftNow of_disk.moment of_disk.left_since before (of_disk.seen next)
  pub images : (image : Image) → LeftNow of_disk.moment of_disk.left_since next image
      → LeftNow of_disk.moment of_disk.left_since before image

-- every file is empty, in each image that a crash now may leave
abbrev pub IsFresh : {D : Type 0} → disk.Ghosts D → D → Type 0
IsFresh of_disk d =
    (image : Image) → LeftNow of_disk.moment of_disk.left_since d image → (f : ℕ) → image f ≡ []

-- the lives follow each other, the first on a disk that this one may have left
abbrev pub AreLives : {D A Y K : Type 0} → disk.Ghosts D → D → List (Call D A Y K) → Type 0
AreLives of_disk d [] = Unit {0}
AreLives of_disk d (l ∷ more) = IsLeftBy of_disk d l.before.disk × AreLives of_disk l.after.disk more

-- the disk as the last of the lives left it; this one, where there is none
abbrev pub last_disk : {D A Y K : Type 0} → D → List (Call D A Y K) → D
last_disk d [] = d
last_disk d (l ∷ more) = last_disk l.after.disk more

-- a life left all files of its disk beyond the index's as they were
abbrev pub LeavesOthers : {D A Y K : Type 0} → disk.Ghosts D → Call D A Y K → Type 0
LeavesOthers of_disk l = OtherFilesStay of_disk l.before.disk l.after.disk

-- a life was lived over these block files, this relay and this link, and ended so
pub record IsOver {D A Y K : Type 0} (l : Call D A Y K) (words : List (List ℕ)) (turns : ℕ)
    (files files_after : A) (relay relay_after : Y) (link link_after : K) (end : Status) : Type 0 where
  pub words_are : l.words ≡ words
  pub turns_are : l.turns ≡ turns
  pub files_are : l.before.files ≡ files
  pub files_then : l.after.files ≡ files_after
  pub relay_is : l.before.relay ≡ relay
  pub relay_then : l.after.relay ≡ relay_after
  pub link_is : l.before.link ≡ link
  pub link_then : l.after.link ≡ link_after
  pub ends : l.status ≡ end

-- the lives were lived with these words over these block files, relays and links, and ended so, one for each
abbrev pub AreOver : {D A Y K : Type 0} → List (Call D A Y K) → List (List ℕ) → ℕ → List A → List A → List Y
    → List Y → List K → List K → List Status → Type 0
AreOver [] words turns [] [] [] [] [] [] [] = Unit {0}
AreOver (l ∷ ls) words turns (a ∷ as_) (b ∷ bs) (y ∷ ys) (z ∷ zs) (k ∷ ks) (j ∷ js) (e ∷ es) =
    IsOver l words turns a b y z k j e × AreOver ls words turns as_ bs ys zs ks js es
AreOver ls words turns files files_after relays relays_after links links_after ends = ⊥

module _ {D A Y K : Type 0} (of_disk : disk.Ghosts D) (of_files : archive.Ghosts A)
    (of_relay : relay.Ghosts Y) (of_link : link.Ghosts K) where
  -- Each life is a run from the chain that its opening found, which is one of the two of the life before: the
  -- one that was acknowledged, or the one in flight.
  pub data GoOn : Chain → Chain → List (Call D A Y K) → Type 0 where
    none : (was flight : Chain) → GoOn was flight []
    one : (was flight : Chain) (l : Call D A Y K) (more : List (Call D A Y K)) (chain acked in_flight : Chain)
        → (chain ≡ was) ⊎ (chain ≡ flight)
        → CallEnds of_disk of_files of_relay of_link l was flight (certain chain)
        (λ magic a b. (a ≡ acked) × (b ≡ in_flight)) → GoOn acked in_flight more → GoOn was flight (l ∷ more)
