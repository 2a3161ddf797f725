-- When a read of the block files tells that they have changed.
use Rattle.std.specs.Prelude.{Option, Result, Ok, Err}
use Rattle.el_base.specs.declared.hash.Hash32.{Hash32}
use Rattle.el_chain.specs.declared.read_fault.ReadFault.{ReadFault}
use Rattle.el_chain.specs.declared.read_fault.ReadFault.TheVariants as fault

-- this is so of the hash that was wanted and of the one that was found, where the answer is a change
abbrev pub IfChanged : {T : Type 0} → Result T ReadFault → (Hash32 → Option Hash32 → Type 0) → Type 0
IfChanged (Ok x) P = Unit {0}
IfChanged (Err fault.ArchiveFailed) P = Unit {0}
IfChanged (Err (fault.Changed wanted found)) P = P wanted found
IfChanged (Err fault.Memory) P = Unit {0}
