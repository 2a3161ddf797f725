use Rattle.std.proofs.Common.{sym, ◌∙◌}
use Rattle.el_row_formats.specs.declared.table.Table.TheVariants as table
use Rattle.el_check_chain.proofs.Counting.{txs_counted, outs_counted}
use Rattle.el_check_chain.proofs.Walks.{summed_up}
use Rattle.el_check_chain.proofs.checking.check_chain.Goals as goal

pub returns-in-Ok-clause-checked : goal.returns-in-Ok-clause-checked
returns-in-Ok-clause-checked g c = λ stands.
    let w = c.in-Ok.ensures.walked stands in
    let here = w.stood in
    let stand = rw (← c.into_rows-rows.ensures) at here.stand in record {
      way = w.way;
      sums = c.summed.ensures ∙ summed_up c.args.count w.way c.in-Ok.walked _ _ w.moves_are w.height_is w.balance_is
          w.bytes_are
          (sym (g.met.R.Rows.counted c.into_rows-rows.result table.Txs here.told) ∙ txs_counted _ _ w.way.last.chain stand)
          (sym (g.met.R.Rows.counted c.into_rows-rows.result table.Outs here.told) ∙ outs_counted _ _ w.way.last.chain stand);
      stand = stand;
      leaves = λ told left now. (
        g.R.Rows.heads c.into_rows-rows.result,
        g.R.Rows.lists c.into_rows-rows.result,
        g.met.R.Rows.leaves_lists c.into_rows-rows.result left told
            (rw (← c.into_rows-rows.ensures) at c.in-Ok.ensures.live) now,
        stand,
      );
      between = λ told. let b = w.between told in (b.0.rows, b.1, rw c.into_rows-rows.ensures b.2, b.3);
    }
