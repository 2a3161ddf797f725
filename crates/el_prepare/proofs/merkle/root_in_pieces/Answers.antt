use Rattle.std.proofs.Common.{◌≤◌, length, arith}
use Rattle.el_merkle.proofs.Rows.{root_of_row, row_some}
use Rattle.el_prepare.proofs.merkle.root_in_pieces.Goals as goal

pub root-requires-2 : goal.root-requires-2
root-requires-2 g c = rw (c.as_slice.ensures.value, c.in_ok-row.ensures) (row_some 6 c.args.hashes.now c.requires)

pub returns : goal.returns
returns g c =
    let many : 256 ≤ length c.args.hashes.now = c.if-hashes-lt-FEWEST.false in
    rw (c.as_slice.ensures.value, c.in_ok-row.ensures, root_of_row 6 c.args.hashes.now (omega arith)) at c.root-2.ensures
