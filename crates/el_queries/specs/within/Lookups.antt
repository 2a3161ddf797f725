-- What rows tell that were found.
use Rattle.std.specs.Prelude.{◌≡◌, ◌<◌, ◌-◌, List, Option, Some, option_and_then, get_or, slice_get}
use Rattle.el_chain.specs.Chains.{zero_hash}
use Rattle.el_chain.specs.declared.coin.Coin.{Coin}
use Rattle.el_chain.specs.declared.node.Spot.{Spot}
use Rattle.el_tx.specs.declared.types.Outpoint.{Outpoint}
use Rattle.el_tables.specs.ChainLists.{ListedBlock}
use Rattle.el_tables.specs.Lists.{Lists, output_number}
use Rattle.el_tables.specs.Queries.{height_at}
use Rattle.el_row_formats.specs.declared.out_row.OutRow.{OutRow}
use Rattle.el_spend.specs.Outputs.{output_numbered}
use Rattle.el_spend.specs.declared.lookup.NamedOutput.{NamedOutput}
use Rattle.el_position.specs.declared.lookup.NumberedTx.{NumberedTx}

-- where it stands, in a block that has this row
abbrev pub spot_in : NumberedTx → ListedBlock → Spot
spot_in x b = record {
  height = x.row.height;
  pos = x.number - b.first_tx;
  place = b.place;
  start = x.row.start;
  len = x.row.len;
}

-- where its block is there, the block has the transaction
abbrev pub IsInItsBlock : NumberedTx → List ListedBlock → Type 0
IsInItsBlock x bs = (b : ListedBlock) → slice_get bs x.row.height ≡ Some b → x.number - b.first_tx < b.txs

-- the output that an outpoint names, with its row
abbrev pub output_for_outpoint : Outpoint → Lists → Option NamedOutput
output_for_outpoint o l = option_and_then (output_numbered l.outs) (output_number o l.txs)

-- the output that has this row, as the coin of the outpoint
abbrev pub coin_of_row : Outpoint → Lists → OutRow → Coin
coin_of_row o l row = record {
  outpoint = o;
  value = row.value;
  script = get_or l.scripts row.script zero_hash;
  height = height_at row.tx l.txs;
}
