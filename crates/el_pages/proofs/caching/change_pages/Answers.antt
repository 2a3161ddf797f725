use Rattle.std.proofs.Common.{refl, ◌∙◌, arith}
use Rattle.el_pages.proofs.PageChanges.{left_first, left_after, left_last}
use Rattle.el_pages.proofs.caching.change_pages.Goals as goal

pub loop-k-init : goal.loop-k-init
loop-k-init c = record {
  within = omega arith;
  same = refl;
  left = λ lists base made agrees. left_first lists base c.args.sealed.now.counts c.args.sealed.now.changes made c.args.cache.now agrees;
}

pub loop-k-preserved : goal.loop-k-preserved
loop-k-preserved c =
    let was = c.loop-k.invariant in
    let run = c.run-run.result in
    record {
      within = omega (arith, c.run-run.ensures.within);
      same = c.change.ensures.same ∙ was.same;
      left = λ lists base made agrees. left_after c.args.sealed.now.changes c.loop-k.k run.table run.first run.rows run.bytes.now c.run-run.ensures.some c.run-run.ensures.each made.rising lists c.args.sealed.now.counts c.loop-k.cache c.change.new.self
          (was.left lists base made agrees) c.change.ensures.written;
    }

pub returns-clause-agrees : goal.returns-clause-agrees
returns-clause-agrees c lists base made agrees =
    left_last lists base c.args.sealed.now.counts c.args.sealed.now.changes made c.loop-k.cache c.loop-k.k (omega arith) (c.loop-k.invariant.left lists base made agrees)
