use Rattle.el_undisturbed.proofs.Answering.{line_as}
use Rattle.el_undisturbed.proofs.laws.lines_are_answered_as_defined.Goals as goal

pub returns : goal.returns
returns g c = λ side bytes was now deeds reply told sure has none comes.
    line_as g.A.Archive.tells side sure told
    (λ call. c.blocks_have_asked.ensures side.files side.chain call (c.records_stay.ensures.blocks side.files side.chain has.chain))
    bytes _ _ was.client now.client reply none comes
