use Rattle.el_rows.specs.within.EditedTables.{all_tables, keys_over}
use Rattle.el_rows.proofs.RunLemmas.{within_keys}
use Rattle.el_rows.proofs.sealed.Sealed.change.Goals as goal

pub place-table-requires : goal.place-table-requires
place-table-requires c = within_keys c.args.self.now c.self.inside.edits.counts c.self.inside.edits.changes (keys_over c.self.inside.rows all_tables) c.self.view_is c.args.i c.requires
