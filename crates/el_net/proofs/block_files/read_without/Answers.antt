use Rattle.std.proofs.Common.{◌∙◌, ap, arith}
use Rattle.std.proofs.lemmas.List.{take_at, length-take-le}
use Rattle.el_net.specs.Masks.{unmasked}
use Rattle.el_net.proofs.Unmasking.{unmasked_part}
use Rattle.el_net.proofs.block_files.read_without.Goals as goal

pub returns-clause-filled : goal.returns-clause-filled
returns-clause-filled g c = λ told.
    take_at c.unmask.new.bytes _ c.in_ok-n.n
    (c.unmask.auto.bytes ∙ length-take-le c.in_ok-n.n c.read_from.new.buf (omega (arith, c.in_ok-n.ensures.within, c.read_from.auto.buf)))
    ∙ c.unmask.ensures
    ∙ ap (unmasked c.args.mask.bytes c.args.at) (c.in_ok-n.ensures.front told).bytes
    ∙ unmasked_part c.args.mask.bytes c.args.at c.in_ok-n.n (g.F.Folder.bytes c.read_from.new.folder c.args.file)
