-- The record while it is written behind the closed gate.
use Rattle.std.specs.Prelude.{◌≡◌, ◌+◌, ◌-◌, ◌*◌, ◌/◌, ◌≤◌, ◌<◌, ℕ, List, ◌++◌, length, take, drop}
use Rattle.el_outside.specs.declared.disk.Disk as disk
use Rattle.el_outside.specs.declared.archive.TheConstants.{SIZE_LIMIT}
use Rattle.el_pages.specs.declared.staging.Next.{Next}

-- the bytes behind the gate up to a place
abbrev pub behind : List ℕ → ℕ → List ℕ
behind file at = take (at - 1) (drop 1 file)

-- these, and those that wait in the buffer
abbrev pub written_so_far : List ℕ → ℕ → List ℕ → ℕ → List ℕ
written_so_far file at buffer used = behind file at ++ take used buffer

-- more bytes can be put
pub record CanPut {D : Type 0} (G : disk.Ghosts D) (redo : ℕ) (d : D) (buffer : List ℕ)
    (next : Next) : Type 0 where
  pub past_gate : 1 ≤ next.at
  pub small : next.at < SIZE_LIMIT
  pub filled : next.used ≤ length buffer
  pub reach : G.tells → next.at ≤ length (G.seen d redo)

-- How many bytes a buffer of that size has at least, where no 256 bytes more have room in it.
abbrev pub least_write : ℕ → ℕ
least_write size = size - 255

-- how many calls at most write so many bytes through it, where each call writes no fewer than those
abbrev pub full_writes : ℕ → ℕ → ℕ
full_writes size bytes = bytes / least_write size

-- How many calls at most write so many bytes through it, where each call but the last writes no fewer than
-- those.
abbrev pub writes_through : ℕ → ℕ → ℕ
writes_through size bytes = full_writes size bytes + 1

-- So many bytes were put after those of `old`, and each call of the disk meanwhile wrote no fewer than those.
pub record IsPaid (size calls_old calls_new : ℕ) (old new : Next) (bytes : ℕ) : Type 0 where
  pub end : new.at + new.used ≡ old.at + old.used + bytes
  pub paid : calls_new * least_write size + old.at ≤ calls_old * least_write size + new.at

-- The calls of the disk since then are few: the bytes pay for all of them but one.
abbrev pub ArePaidByBytes : ℕ → ℕ → ℕ → ℕ → Type 0
ArePaidByBytes size calls_old calls_new bytes =
    calls_new * least_write size ≤ calls_old * least_write size + (least_write size + bytes)
