use Rattle.el_coins.proofs.GoodChains.{chain_fits}
use Rattle.el_plain.proofs.drafts.draft_move.Goals as goal

pub touched_by-requires-clause-fresh_fit : goal.touched_by-requires-clause-fresh_fit
touched_by-requires-clause-fresh_fit c = rw c.as_slice.ensures.value (chain_fits _ _ c.in_ok-fresh.ensures.next.next)
