use Rattle.std.proofs.Common.{◌≡◌, [], ◌∷◌}
use Rattle.el_row_formats.specs.declared.table.Table.TheVariants as table
use Rattle.el_rows.specs.Changes.{count_at}
use Rattle.el_pages.specs.declared.layout.TheConstants.{FORMAT_1}
use Rattle.el_recovery.specs.Checks.{count_told}
use Rattle.el_migrate.proofs.old_files.read_counts.Goals as goal

pub returns : goal.returns
returns c t = elim t as (λ u. count_at (c.count_in.result ∷ c.count_in-2.result ∷ c.count_in-3.result ∷ c.count_in-4.result ∷ c.count_in-5.result ∷ c.count_in-6.result ∷ c.count_in-7.result ∷ c.count_in-8.result ∷ []) u ≡ count_told FORMAT_1 c.args.meta.now u) [
  | table.Blocks ↦ c.count_in.ensures
  | table.Txs ↦ c.count_in-2.ensures
  | table.TxHeads ↦ c.count_in-3.ensures
  | table.Outs ↦ c.count_in-4.ensures
  | table.Ins ↦ c.count_in-5.ensures
  | table.Scripts ↦ c.count_in-6.ensures
  | table.ScriptHeads ↦ c.count_in-7.ensures
  | table.Entries ↦ c.count_in-8.ensures
]
