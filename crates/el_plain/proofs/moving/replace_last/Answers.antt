use Rattle.std.proofs.Common.{sym, ◌∙◌}
use Rattle.el_plain.proofs.BackMoves.{front_good, gone_fit}
use Rattle.el_plain.proofs.moving.replace_last.Goals as goal

pub coins_anew-requires-clause-good : goal.coins_anew-requires-clause-good
coins_anew-requires-clause-good c = front_good c.args.blocks.now.items c.split_at.result.0.now c.split_at.result.1.now (sym c.as_slice.ensures.value ∙ c.split_at.ensures.by_index.0) c.requires.kept.good

pub draft_move-requires-clause-gone : goal.draft_move-requires-clause-gone
draft_move-requires-clause-gone c = gone_fit c.args.blocks.now.items c.split_at.result.0.now c.split_at.result.1.now (sym c.as_slice.ensures.value ∙ c.split_at.ensures.by_index.0) c.requires.kept.good
