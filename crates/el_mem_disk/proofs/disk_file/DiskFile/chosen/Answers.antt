use Rattle.std.proofs.Common.{sym, ◌∙◌, arith}
use Rattle.std.proofs.lemmas.List.FromFn.{map-range_with_len_more}
use Rattle.el_mem_disk.specs.DiskFiles.{chosen_byte}
use Rattle.el_mem_disk.proofs.disk_file.DiskFile.chosen.Goals as goal

pub loop-i-preserved : goal.loop-i-preserved
loop-i-preserved c =
    c.in_ok-push.ensures.items ∙ rw (c.loop-i.invariant, c.chosen_byte.ensures)
    (sym (map-range_with_len_more (chosen_byte c.args.self.now.kept c.args.numbers.now) 0 c.loop-i.i c.loop-i.i (omega arith)))
