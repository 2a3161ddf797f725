use Rattle.std.proofs.Common.{◌∙◌}
use Rattle.el_vec_rows.proofs.InMemoryLemmas.{run_in}
use Rattle.el_vec_rows.proofs.vec_rows.write.Goals as goal

pub write_rows-requires-clause-within : goal.write_rows-requires-clause-within
write_rows-requires-clause-within c = run_in c.requires.made.0 c.args.sealed.now.counts c.args.sealed.now.changes c.args.kept.now c.loop-k.kept c.loop-k.k
    c.run-run.result.table c.run-run.result.first c.run-run.result.rows c.run-run.result.bytes.now c.requires.made.1 c.requires.room c.loop-k.invariant.writing c.run-run.ensures.some c.run-run.ensures.each

pub write_rows-requires-clause-sized : goal.write_rows-requires-clause-sized
write_rows-requires-clause-sized c = c.loop-k.invariant.writing.sizes c.run-run.result.table ∙ c.requires.sized c.run-run.result.table

pub loop-k-preserved : goal.loop-k-preserved
loop-k-preserved c = record {
  within = c.run-run.ensures.within;
  writing = c.write_rows.ensures c.requires.made.0 c.args.sealed.now.counts c.args.sealed.now.changes c.args.kept.now c.loop-k.k c.requires.made.1 c.requires.room c.requires.sized c.run-run.ensures.each c.loop-k.invariant.writing;
}
