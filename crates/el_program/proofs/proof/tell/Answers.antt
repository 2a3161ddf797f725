use Rattle.std.proofs.Common.{refl}
use Rattle.el_program.specs.Audits.{IsVerdict}
use Rattle.el_program.proofs.Checks.{summary_sent, sent_caused}
use Rattle.el_program.proofs.proof.tell.Goals as goal

pub returns-clause-ends : goal.returns-clause-ends
returns-clause-ends g c = λ turns of_files of_disk of_relay.
    summary_sent g.K.Link c.args.link.now c.send_one.new.link (IsVerdict c.args.said.now) c.verdict.result.now of_relay turns of_files of_disk of_disk
    c.send_one.result c.send_one.ensures.ends c.send_one.ensures.sent c.send_one.ensures.not_sent c.send_one.ensures.counted
    c.send_one.ensures.uncounted c.send_one.ensures.same_calls refl c.verdict.ensures

pub returns-clause-causes : goal.returns-clause-causes
returns-clause-causes g c = λ turns of_files of_disk of_relay. sent_caused turns _ _ _ _ of_files of_disk of_disk
    c.send_one.result c.send_one.ensures.ends c.send_one.ensures.counted c.send_one.ensures.uncounted
    c.send_one.ensures.same_calls refl
