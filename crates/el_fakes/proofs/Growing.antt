-- The files of an archive in memory only grow.
use Rattle.std.proofs.Common.{◌≡◌, ℕ, ◌≤◌, ◌==◌, ◌&&◌, nat_lt, min, Bool, true, false, if◌then◌else◌, List, [], ◌∷◌, ◌++◌, take, drop, refl, sym, ◌∙◌, ap, arith}
use Rattle.std.proofs.lemmas.List.{take-append-drop}
use Rattle.std.proofs.lemmas.Grind.{common_steps}
use Rattle.el_outside.specs.Files.{Grows, AllGrow}
use Rattle.el_fakes.specs.declared.growth.Later.{Later}
use Rattle.el_fakes.specs.Archives.{ArchiveState, file_bytes, size_by, bytes_now}

fewer_hide : (same : Bool) (calls calls_now call : ℕ) → calls ≤ calls_now → (same && nat_lt calls_now call) ≡ true → (same && nat_lt calls call) ≡ true
fewer_hide true calls calls_now call fewer is = grind arith
fewer_hide false calls calls_now call fewer is = is

less_shown : (hid hides : Bool) (from m n : ℕ) → (hides ≡ true → hid ≡ true) → m ≤ n → (if hid then min from m else m) ≤ (if hides then min from n else n)
less_shown true true from m n still less = omega arith
less_shown true false from m n still less = omega arith
less_shown false true from m n still less = absurd (let k : false ≡ true = still refl in cc)
less_shown false false from m n still less = less

-- after more calls no less is there
pub more_by : (calls calls_now file : ℕ) (ls : List Later) (m n : ℕ) → calls ≤ calls_now → m ≤ n → size_by calls file ls m ≤ size_by calls_now file ls n
more_by calls calls_now file [] m n fewer less = less
more_by calls calls_now file (l ∷ ls) m n fewer less =
    more_by calls calls_now file ls _ _ fewer
    (less_shown (file == l.file && nat_lt calls l.call) (file == l.file && nat_lt calls_now l.call) l.from m n (fewer_hide (file == l.file) calls calls_now l.call fewer) less)

-- a front grows into a longer one
pub fronts_grow : (m n : ℕ) (xs : List ℕ) → m ≤ n → Grows (take m xs) (take n xs)
fronts_grow m n xs less = (drop m (take n xs), sym (take-append-drop m (take n xs)) ∙ ap (λ (t : List ℕ). t ++ drop m (take n xs)) (shorter m n xs less))
  where
    shorter : (m n : ℕ) (xs : List ℕ) → m ≤ n → take m (take n xs) ≡ take m xs
    shorter m n xs less = grind (arith, common_steps)

-- after more calls each file has what it had, and may have more
pub reveals : (a b : ArchiveState) → b.files ≡ a.files → b.later ≡ a.later → a.calls ≤ b.calls → AllGrow (bytes_now a) (bytes_now b)
reveals a b same_files same_later fewer file =
    rw (same_files, same_later) (fronts_grow _ _ (file_bytes a.files file) (more_by a.calls b.calls file a.later _ _ fewer (omega arith)))
