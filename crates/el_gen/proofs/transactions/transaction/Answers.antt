use Rattle.std.proofs.Common.{rules, refl}
use Rattle.el_tx.specs.Encoding.{stripped_encoding, stripped}
use Rattle.el_gen.specs.Generated as spec
use Rattle.el_gen.proofs.transactions.transaction.Goals as goal

pub returns-clause-encoded : goal.returns-clause-encoded
returns-clause-encoded c = (
  stripped_encoding (spec.transaction c.args.inputs c.args.outputs),
  stripped (record {
    version = search rules;
    some_inputs = c.requires.some_inputs;
    few_inputs = search rules;
    inputs = c.requires.lawful_inputs;
    some_outputs = c.requires.some_outputs;
    few_outputs = search rules;
    outputs = c.requires.lawful_outputs;
    money = c.requires.money;
    lock = search rules;
  }) c.requires.bare refl,
)
