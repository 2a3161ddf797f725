use Rattle.std.proofs.Common.{arith}
use Rattle.el_tx.proofs.Decoded.{reads, only, faults, refuses}
use Rattle.el_tx.proofs.decode.view_tx.Goals as goal

pub returns-clause-read : goal.returns-clause-read
returns-clause-read c = reads c.args.bytes.now c.read_view.result (λ i. omega (arith, c.type_inv.bytes i)) c.read_view.ensures

pub returns-clause-only : goal.returns-clause-only
returns-clause-only c = only c.args.bytes.now c.read_view.result c.read_view.ensures

pub returns-clause-fault : goal.returns-clause-fault
returns-clause-fault c = faults c.args.bytes.now c.read_view.result (λ i. omega (arith, c.type_inv.bytes i)) c.read_view.ensures

pub returns-clause-first_fault : goal.returns-clause-first_fault
returns-clause-first_fault c = refuses c.args.bytes.now c.read_view.result c.read_view.ensures
