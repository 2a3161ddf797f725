use Rattle.std.proofs.Common.{◌∙◌, refl, ap, Err, arith}
use Rattle.std.proofs.lemmas.Result.{err_from_is_err_and}
use Rattle.el_chain.proofs.CoinSteps.{err_passed}
use Rattle.el_outside.proofs.Calls.{has_more, reads_failed, reads_other}
use Rattle.el_chain.specs.Moves.{StoodAt}
use Rattle.el_model.specs.within.Reading.{IsUnread}
use Rattle.el_model.proofs.ReadBodies.{reading_more, unread_at}
use Rattle.el_model.proofs.reading.read_all.Goals as goal

pub returns-in_err-text-clause-unread : goal.returns-in_err-text-clause-unread
returns-in_err-text-clause-unread g c =
    let a = g.A.Archive in
    err_passed c.from_residual.result (IsUnread (StoodAt a (a.bytes c.args.archive.now) (a.bytes c.read_one.new.archive)) c.args.nodes.now) c.in_err-text.field-0.0
    (err_from_is_err_and c.from_residual.result c.from_residual.ensures.1)
    (unread_at a (a.bytes c.args.archive.now) (a.bytes c.loop-node.archive) (a.bytes c.read_one.new.archive) c.args.nodes.now c.loop-node.node-index c.loop-node.texts.items _ _ c.in_err-text.field-0.0
    c.loop-node.invariant.reading c.loop-node-test.true refl c.loop-node.invariant.reads.keeps c.in_err-text.ensures.only_reads.keeps c.in_err-text.ensures.unread)

pub returns-in_err-text-clause-only_reads : goal.returns-in_err-text-clause-only_reads
returns-in_err-text-clause-only_reads g c =
    let p = err_from_is_err_and c.from_residual.result c.from_residual.ensures.1 in
    reads_failed c.loop-node.invariant.reads c.in_err-text.ensures.only_reads (p.1 ∙ ap Err p.2)

pub returns-in_err-push-clause-only_reads : goal.returns-in_err-push-clause-only_reads
returns-in_err-push-clause-only_reads g c =
    let p = err_from_is_err_and c.from_residual-in_err-push.result c.from_residual-in_err-push.ensures.1 in
    rw (p.1 ∙ ap Err p.2) (reads_other (has_more c.loop-node.invariant.reads c.in_ok-text.ensures.only_reads) (λ e. absurd (cc)))

pub loop-node-preserved : goal.loop-node-preserved
loop-node-preserved g c =
    let a = g.A.Archive in
    record {
      reading = reading_more a (a.bytes c.args.archive.now) (a.bytes c.loop-node.archive) (a.bytes c.read_one.new.archive) c.args.nodes.now c.loop-node.node-index c.loop-node.texts.items _ _
          c.in_ok-text.text c.push.new.self.items c.loop-node.invariant.reading c.loop-node-test.true refl c.loop-node.invariant.reads.keeps c.in_ok-text.ensures.only_reads.keeps c.in_ok-text.ensures.read c.in_ok-text.ensures.told
          c.in_ok-push.ensures.items;
      calls = omega (arith, c.loop-node.invariant.calls, c.read_one.ensures.calls);
      reads = has_more c.loop-node.invariant.reads c.in_ok-text.ensures.only_reads;
    }
