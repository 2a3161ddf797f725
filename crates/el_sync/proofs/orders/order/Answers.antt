use Rattle.std.proofs.Common.{refl, sym, arith}
use Rattle.el_lines.specs.Lines.{too_long}
use Rattle.el_side.specs.Side.{OrdersLine}
use Rattle.el_model.proofs.LedgerMoves.{asked_moved, asked_none}
use Rattle.el_sync.proofs.Led.{answered}
use Rattle.el_outside.proofs.Traces.{all_grow_none}
use Rattle.el_sync.proofs.orders.order.Goals as goal

pub returns-in-Line-clause-node : goal.returns-in-Line-clause-node
returns-in-Line-clause-node g c = rw c.in-Line.is (rw c.as_slice.ensures at c.order_line.ensures.node)

pub returns-in-Line-clause-stopped : goal.returns-in-Line-clause-stopped
returns-in-Line-clause-stopped g c = rw c.in-Line.is (rw c.as_slice.ensures at c.order_line.ensures.stopped)

pub returns-in-TooLong-clause-node : goal.returns-in-TooLong-clause-node
returns-in-TooLong-clause-node g c = rw c.in-TooLong.is (λ side start at from.
    answered _ side start (OrdersLine g.A.Archive side too_long) _ at from.still
    (c.refusing.ensures.answer, refl, refl) (sym from.found) c.refusing.ensures.left (λ t. all_grow_none _) (λ sure. asked_moved g.G.Ledger c.args.ledger.now c.args.ledger.now side.chain (λ a d f h i j k. g.met.G.Ledger.leaves_own a d f h i j k) c.requires.live (asked_none g.G.Ledger c.args.ledger.now) (at.stood sure)) refl refl)

pub returns-in-Line-clause-rows : goal.returns-in-Line-clause-rows
returns-in-Line-clause-rows g c = rw c.in-Line.is (rw c.as_slice.ensures at c.order_line.ensures.rows)

pub returns-in-TooLong-clause-rows : goal.returns-in-TooLong-clause-rows
returns-in-TooLong-clause-rows g c = rw c.in-TooLong.is (λ side start sure at from. omega arith)

pub returns-in-Line-clause-memory : goal.returns-in-Line-clause-memory
returns-in-Line-clause-memory g c = rw c.in-Line.is (rw c.as_slice.ensures at c.order_line.ensures.memory)
