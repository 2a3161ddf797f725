-- What the answers of the system's calls mean, by the numbers of errno(3) as Linux has them.
use Rattle.std.specs.Prelude.{◌≡◌, ◌⊎◌, ℤ, pos, Option, Some}

-- A call was refused since the system had no room left: no memory (ENOMEM), no open file in the system
-- (ENFILE) or in the process (EMFILE), no descriptor to watch (ENOSPC), no buffer (ENOBUFS).
abbrev pub LacksRoom : Option ℤ → Type 0
LacksRoom code = (code ≡ Some (pos 12)) ⊎ (code ≡ Some (pos 23)) ⊎ (code ≡ Some (pos 24))
    ⊎ (code ≡ Some (pos 28)) ⊎ (code ≡ Some (pos 105))
