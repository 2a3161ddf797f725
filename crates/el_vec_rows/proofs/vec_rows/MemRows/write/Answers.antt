use Rattle.el_vec_rows.proofs.PlacedLemmas.{still_kept, placed, in_kept, of_size}
use Rattle.el_vec_rows.proofs.vec_rows.MemRows.write.Goals as goal

pub write_one-requires-clause-within : goal.write_one-requires-clause-within
write_one-requires-clause-within c = in_kept c.args.self.now c.self.inside.kept c.self.inside.kept c.self.inside.counts c.args.t c.args.i c.args.row.now c.self.view_is c.self.invariant c.requires.within

pub write_one-requires-clause-sized : goal.write_one-requires-clause-sized
write_one-requires-clause-sized c = of_size c.args.self.now c.self.inside.kept c.self.inside.kept c.self.inside.counts c.args.t c.args.i c.args.row.now c.self.view_is c.self.invariant c.requires.within c.requires.sized

pub invariant_of-self : goal.invariant_of-self
invariant_of-self c = still_kept c.args.self.now c.self.inside.kept c.write_one.new.kept c.self.inside.counts c.args.t c.args.i c.args.row.now c.self.view_is c.self.invariant c.requires.within c.write_one.ensures

pub returns : goal.returns
returns c = placed c.args.self.now c.self.inside.kept c.write_one.new.kept c.self.inside.counts c.args.t c.args.i c.args.row.now c.self.view_is c.self.invariant c.requires.within c.write_one.ensures
