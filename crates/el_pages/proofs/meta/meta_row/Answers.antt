use Rattle.std.proofs.Common.{◌∙◌}
use Rattle.el_redo.specs.RedoBody.{head_bytes}
use Rattle.el_pages.proofs.StoreLemmas.{meta_same}
use Rattle.el_pages.proofs.meta.meta_row.Goals as goal

pub returns : goal.returns
returns c = c.meta_row_of.ensures ∙ meta_same (head_bytes c.args.magic c.args.bits) c.args.sealed.now.counts c.counts_of.result c.counts_of.ensures
