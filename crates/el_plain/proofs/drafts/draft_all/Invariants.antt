use Rattle.el_plain.proofs.DraftSteps.{Drafting}
use Rattle.el_plain.proofs.drafts.draft_all.Given as goal

abbrev pub invariant-loop-index : goal.invariant-loop-index
invariant-loop-index l = Drafting l.base l.blocks l.nodes l.texts l.index l.changes l.tally l.fresh.items
