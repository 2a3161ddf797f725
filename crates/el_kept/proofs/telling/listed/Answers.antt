use Rattle.el_kept.proofs.Told.{least_first}
use Rattle.el_kept.proofs.telling.listed.Goals as goal

pub range-requires : goal.range-requires
range-requires c =
    let one = c.new.ensures.start in
    let two = c.new.ensures.end in
    rw (one, two) (least_first c.args.script.now)
