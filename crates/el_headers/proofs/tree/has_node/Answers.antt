use Rattle.std.proofs.Common.{◌∙◌, ap}
use Rattle.std.specs.Option.{is_some}
use Rattle.el_chain.specs.Headers.{has_hash}
use Rattle.el_headers.proofs.Putting.{any_greatest}
use Rattle.el_headers.proofs.tree.has_node.Goals as goal

pub returns : goal.returns
returns c = c.is_some.ensures ∙ ap is_some (c.number_of.ensures ∙ c.requires.numbers c.args.hash.now) ∙ any_greatest (has_hash c.args.hash.now) c.args.table.now.nodes.items
