use Rattle.el_chain.specs.Moves.{StoodAt}
use Rattle.el_plain.proofs.PlainMoves.{plain_went, never_disk, plain_counts}
use Rattle.el_plain.proofs.plain_calls.PlainLedgerLedger.go.Goals as goal

pub returns-clause-moved : goal.returns-clause-moved
returns-clause-moved g c =
    plain_went _ c.make_move-result.result (StoodAt g.A.Archive (g.A.Archive.bytes c.args.archive.now) (g.A.Archive.bytes c.make_move-result.new.archive)) c.args.self.now c.make_move-result.new.self c.args.plan.now c.blocks-now.ensures.good c.make_move-result.ensures.moved

pub returns-clause-crash_failed : goal.returns-clause-crash_failed
returns-clause-crash_failed g c = λ chain plain failed. absurd (never_disk c.make_move-result.result c.make_move-result.ensures.no_disk failed)

pub returns-clause-cause : goal.returns-clause-cause
returns-clause-cause g c = plain_counts c.make_move-result.result c.make_move-result.ensures.no_disk
