use Rattle.std.proofs.Common.{◌≡◌, [], ◌∷◌, ap, ◌∙◌}
use Rattle.el_row_formats.specs.declared.table.Table.TheVariants as table
use Rattle.el_row_formats.specs.Tables.{size_of}
use Rattle.el_rows.specs.within.EditedTables.{edits_of}
use Rattle.el_rows.proofs.EditedLemmas.{none_of, none_edited}
use Rattle.el_rows.proofs.edits.Edits.new.Goals as goal

pub invariant_of-result : goal.invariant_of-result
invariant_of-result c = none_edited c.args.base (c.new.result ∷ c.new-2.result ∷ c.new-3.result ∷ c.new-4.result ∷ c.new-5.result ∷ c.new-6.result ∷ c.new-7.result ∷ c.new-8.result ∷ []) (λ t. elim t as (λ u. edits_of (c.new.result ∷ c.new-2.result ∷ c.new-3.result ∷ c.new-4.result ∷ c.new-5.result ∷ c.new-6.result ∷ c.new-7.result ∷ c.new-8.result ∷ []) u ≡ none_of (size_of u)) [
  | table.Blocks ↦ c.new.ensures ∙ ap none_of c.size.ensures
  | table.Txs ↦ c.new-2.ensures ∙ ap none_of c.size-2.ensures
  | table.TxHeads ↦ c.new-3.ensures ∙ ap none_of c.size-3.ensures
  | table.Outs ↦ c.new-4.ensures ∙ ap none_of c.size-4.ensures
  | table.Ins ↦ c.new-5.ensures ∙ ap none_of c.size-5.ensures
  | table.Scripts ↦ c.new-6.ensures ∙ ap none_of c.size-6.ensures
  | table.ScriptHeads ↦ c.new-7.ensures ∙ ap none_of c.size-7.ensures
  | table.Entries ↦ c.new-8.ensures ∙ ap none_of c.size-8.ensures
]) c.requires.limited
