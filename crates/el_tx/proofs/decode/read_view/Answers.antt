use Rattle.std.proofs.Common.{◌∙◌, arith}
use Rattle.el_tx.proofs.Decoded.{size_read}
use Rattle.el_tx.proofs.decode.read_view.Goals as goal

pub new-requires : goal.new-requires
new-requires c =
    c.place-size.ensures ∙ size_read c.args.bytes.now c.in-Ok.parts c.parts_of.new.c (λ i. omega (arith, c.type_inv.bytes i)) (rw c.new-c.ensures at c.in-Ok.ensures)
