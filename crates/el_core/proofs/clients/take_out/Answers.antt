use Rattle.std.proofs.Common.{◌∙◌, length, refl}
use Rattle.std.proofs.lemmas.Option.{slice_get_read}
use Rattle.el_core.proofs.Counted.{gone_counts}
use Rattle.el_core.proofs.Replacing.{remove_is_replaced}
use Rattle.el_core.proofs.clients.take_out.Goals as goal

pub returns-clause-gone : goal.returns-clause-gone
returns-clause-gone c = c.remove.ensures.items ∙ remove_is_replaced c.args.list.now.items c.args.i

pub returns-clause-counts : goal.returns-clause-counts
returns-clause-counts c =
    let items = c.args.list.now.items in
    gone_counts c.args.watched.now c.uncount.new.self items c.remove.new.self.items c.args.i c.remove.result (slice_get_read items (length items) c.args.i c.remove.result refl c.requires.inside c.remove.ensures.value)
    c.requires.counts (λ t. rw c.into_subs-subs.ensures at (c.uncount.ensures.less t)) (c.remove.ensures.items ∙ remove_is_replaced items c.args.i)
