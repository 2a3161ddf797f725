use Rattle.el_rows.specs.Changes.{Update}
use Rattle.el_rows.proofs.TableLemmas.{sealed_table}
use Rattle.el_rows.proofs.open.Txn+R.seal.Goals as goal

pub returns-clause-tables : goal.returns-clause-tables
returns-clause-tables g c = sealed_table (g.R.Rows.lists c.args.self.rows.now) c.args.self.edits (λ (s : Update). s.counts) (λ (s : Update). s.changes) c.seal.result c.seal.ensures.counts c.seal.ensures.changes
