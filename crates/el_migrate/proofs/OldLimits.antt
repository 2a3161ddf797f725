-- Sizes and limits of format 1.
use Rattle.std.proofs.Common.{◌≡◌, ◌<◌, ◌≤◌, refl, arith}
use Rattle.el_row_formats.specs.declared.table.Table.{Table}
use Rattle.el_row_formats.specs.declared.table.Table.TheVariants as table
use Rattle.el_row_formats.specs.OldRowBytes.{old_size_of}
use Rattle.el_pages.specs.declared.layout.TheConstants.{FORMAT_1}
use Rattle.el_pages.specs.Layouts.{size_in, limit_in}

pub sizes_1 : (t : Table) → size_in FORMAT_1 t ≡ old_size_of t
sizes_1 t = elim t as (λ u. size_in FORMAT_1 u ≡ old_size_of u) [
  | table.Blocks ↦ refl
  | table.Txs ↦ refl
  | table.TxHeads ↦ refl
  | table.Outs ↦ refl
  | table.Ins ↦ refl
  | table.Scripts ↦ refl
  | table.ScriptHeads ↦ refl
  | table.Entries ↦ refl
]

pub some_old : (t : Table) → 0 < size_in FORMAT_1 t
some_old table.Blocks = omega arith
some_old table.Txs = omega arith
some_old table.TxHeads = omega arith
some_old table.Outs = omega arith
some_old table.Ins = omega arith
some_old table.Scripts = omega arith
some_old table.ScriptHeads = omega arith
some_old table.Entries = omega arith

pub limits_1 : (t : Table) → limit_in FORMAT_1 t ≡ 4294967295
limits_1 t = elim t as (λ u. limit_in FORMAT_1 u ≡ 4294967295) [
  | table.Blocks ↦ refl
  | table.Txs ↦ refl
  | table.TxHeads ↦ refl
  | table.Outs ↦ refl
  | table.Ins ↦ refl
  | table.Scripts ↦ refl
  | table.ScriptHeads ↦ refl
  | table.Entries ↦ refl
]

pub small_old : (t : Table) → old_size_of t ≤ 112
small_old t = elim t as (λ u. old_size_of u ≤ 112) [
  | table.Blocks ↦ omega arith
  | table.Txs ↦ omega arith
  | table.TxHeads ↦ omega arith
  | table.Outs ↦ omega arith
  | table.Ins ↦ omega arith
  | table.Scripts ↦ omega arith
  | table.ScriptHeads ↦ omega arith
  | table.Entries ↦ omega arith
]
