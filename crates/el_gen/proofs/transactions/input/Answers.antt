use Rattle.std.proofs.Common.{rules}
use Rattle.el_gen.proofs.transactions.input.Goals as goal

pub returns-clause-lawful : goal.returns-clause-lawful
returns-clause-lawful c = record {
  txid_size = search rules;
  txid_bytes = search rules;
  index = search rules;
  script = c.requires;
  sequence = search rules;
  items = search rules;
  witness = search rules;
}
