use Rattle.el_tables.proofs.FitLemmas.{none_fits, chain_fits, tx_fits, tx_back_fits, touch_fits, entry_back_numbers, take_out_fits, add_out_fits, out_back_fits, unspend_fits}
use Rattle.el_tables.proofs.edits.steps_keep_scripts_in_order.Goals as goal

pub returns : goal.returns
returns c = record {
  none = none_fits;
  chain = chain_fits;
  add_tx = tx_fits;
  take_back_tx = tx_back_fits;
  add_entry = touch_fits;
  take_back_entry = entry_back_numbers;
  spend_output = take_out_fits;
  add_output = add_out_fits;
  take_back_output = out_back_fits;
  unspend = unspend_fits;
}
