use Rattle.std.proofs.Common.{sym}
use Rattle.el_index.proofs.Kept.{same_index}
use Rattle.el_index.proofs.index.Index.over.Goals as goal

pub returns-in-Ok-clause-stands : goal.returns-in-Ok-clause-stands
returns-in-Ok-clause-stands g c chain told stand = record {
  told = told;
  stand = same_index (sym c.hash_in.ensures.reads.as_many) (sym c.hash_in.ensures.reads.same) stand;
  last = c.in-Ok.ensures.last (g.R.Rows.heads c.args.rows) chain told stand;
}
