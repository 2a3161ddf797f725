use Rattle.std.proofs.Common.{refl}
use Rattle.el_chain.specs.History.{positions}
use Rattle.el_tables.proofs.WholeBlocks.{txs_long, outs_long, ins_long, entries_long, good_sound}
use Rattle.el_tables.proofs.laws.rows_are_counted.Goals as goal

pub returns : goal.returns
returns c = record {
  txs = λ chain. txs_long (positions chain);
  outs = λ chain. outs_long (positions chain);
  ins = λ chain good. ins_long (positions chain) (good_sound chain good);
  scripts = λ chain. refl;
  entries = λ chain. entries_long (positions chain);
}
