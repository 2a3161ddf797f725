use Rattle.std.proofs.Common.{◌≡◌, drop}
use Rattle.el_mempool.specs.Fees.{edge_among}
use Rattle.el_fees.proofs.following.edge_among.Given as goal

abbrev pub invariant-loop-edge : goal.invariant-loop-edge
invariant-loop-edge l = edge_among (drop l.edge-index l.edges) l.fee l.vsize ≡ edge_among l.edges l.fee l.vsize
