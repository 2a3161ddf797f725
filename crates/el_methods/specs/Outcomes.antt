-- What a call answers, beside what is defined: a device may have failed, which its count tells.
use Rattle.std.specs.Prelude.{◌≡◌, ⊤, ℕ, Result, Ok, Err}
use Rattle.serde_json.specs.Data.{Data}
use Rattle.el_json.specs.Lines.{IsPrintable}
use Rattle.el_calls.specs.declared.refusal.Refusal.{Refusal}
use Rattle.el_methods.specs.declared.stop.Stop.{Stop}
use Rattle.el_methods.specs.declared.stop.Stop.TheVariants as stop

-- The answer is what is defined, unless a device failed, the block files have changed or memory ran out.
abbrev pub IsAnswer : Result Data Refusal → Result Data Stop → Type 0
IsAnswer wanted (Ok answer) = wanted ≡ Ok answer
IsAnswer wanted (Err (stop.Refused r)) = wanted ≡ Err r
IsAnswer wanted (Err stop.Disk) = ⊤
IsAnswer wanted (Err stop.Archive) = ⊤
IsAnswer wanted (Err stop.Changed) = ⊤
IsAnswer wanted (Err stop.Memory) = ⊤

-- The same where what is defined has also what is kept of the client afterwards: it stays as it was unless
-- there is an answer.
abbrev pub IsReplyWith : {S : Type 0} → Result (Data × S) Refusal → S → S → Result Data Stop → Type 0
IsReplyWith wanted old new (Ok answer) = wanted ≡ Ok (answer, new)
IsReplyWith wanted old new (Err (stop.Refused r)) = (wanted ≡ Err r) × (new ≡ old)
IsReplyWith wanted old new (Err stop.Disk) = new ≡ old
IsReplyWith wanted old new (Err stop.Archive) = new ≡ old
IsReplyWith wanted old new (Err stop.Changed) = new ≡ old
IsReplyWith wanted old new (Err stop.Memory) = new ≡ old

-- Each answer that names a failed device is counted, by one, and no other is. `disk` and `archive` say by
-- how much the two counts rose.
abbrev pub IsCounted : {T : Type 0} → (ℕ → Type 0) → (ℕ → Type 0) → Result T Stop → Type 0
IsCounted disk archive (Ok answer) = disk 0 × archive 0
IsCounted disk archive (Err (stop.Refused r)) = disk 0 × archive 0
IsCounted disk archive (Err stop.Disk) = disk 1 × archive 0
IsCounted disk archive (Err stop.Archive) = disk 0 × archive 1
IsCounted disk archive (Err stop.Changed) = disk 0 × archive 0
IsCounted disk archive (Err stop.Memory) = disk 0 × archive 0

-- The same of a call that reads no block files.
abbrev pub IsDiskCounted : {T : Type 0} → (ℕ → Type 0) → Result T Stop → Type 0
IsDiskCounted disk (Ok answer) = disk 0
IsDiskCounted disk (Err (stop.Refused r)) = disk 0
IsDiskCounted disk (Err stop.Disk) = disk 1
IsDiskCounted disk (Err stop.Archive) = ⊥
IsDiskCounted disk (Err stop.Changed) = ⊥
IsDiskCounted disk (Err stop.Memory) = disk 0

-- The answer tells nothing of the block files: neither that a call of them failed nor that they have changed.
abbrev pub TellsNoFiles : {T : Type 0} → Result T Stop → Type 0
TellsNoFiles (Ok answer) = ⊤
TellsNoFiles (Err (stop.Refused r)) = ⊤
TellsNoFiles (Err stop.Disk) = ⊤
TellsNoFiles (Err stop.Archive) = ⊥
TellsNoFiles (Err stop.Changed) = ⊥
TellsNoFiles (Err stop.Memory) = ⊤

-- A call is refused for these reasons alone.
abbrev pub RefusesOnly : {T : Type 0} → (Refusal → Type 0) → Result T Stop → Type 0
RefusesOnly may (Ok answer) = ⊤
RefusesOnly may (Err (stop.Refused r)) = may r
RefusesOnly may (Err stop.Disk) = ⊤
RefusesOnly may (Err stop.Archive) = ⊤
RefusesOnly may (Err stop.Changed) = ⊤
RefusesOnly may (Err stop.Memory) = ⊤

-- An answer can be printed: none of its numbers is a float.
abbrev pub IsPrintableAnswer : {E : Type 0} → Result Data E → Type 0
IsPrintableAnswer (Ok found) = IsPrintable found
IsPrintableAnswer (Err r) = ⊤
