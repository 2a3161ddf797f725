use Rattle.std.proofs.Common.{refl}
use Rattle.el_kept.proofs.Cleared.{tidied, tidied_few}
use Rattle.el_kept.proofs.taking.tidy.Goals as goal

pub returns-then-len-table : goal.returns-then-len-table
returns-then-len-table c = record {
  table = tidied c.args.table.now _ c.requires c.remove_empty.ensures.filtered c.remove_empty.ensures.unique refl refl refl;
  slots = tidied_few c.args.table.now.kept.entries c.remove_empty.new.kept.entries c.args.table.now.count
      c.remove_empty.ensures.filtered c.requires.count;
}
