use Rattle.std.proofs.Common.{◌∙◌, arith}
use Rattle.el_headers.proofs.Heights.{read_open, read_known, some_open, attached_new, attached_same, stacked_new, stacked_same}
use Rattle.el_headers.proofs.attach.attach.Goals as goal

pub push_reserved-requires : goal.push_reserved-requires
push_reserved-requires c =
    let bare = read_open c.args.heights.now c.args.child c.is_none.result c.requires.child c.is_none.ensures c.if-is_none.true in
    let some = some_open c.args.heights.now c.args.child bare in
    omega arith

pub returns-then-is_none-clause-heights : goal.returns-then-is_none-clause-heights
returns-then-is_none-clause-heights c =
    attached_new c.args.heights.now c.args.child c.args.height
    (read_open c.args.heights.now c.args.child c.is_none.result c.requires.child c.is_none.ensures c.if-is_none.true)

pub returns-then-is_none-clause-stack : goal.returns-then-is_none-clause-stack
returns-then-is_none-clause-stack c =
    c.push_reserved.ensures.items ∙ stacked_new c.args.heights.now c.args.child c.args.stack.now.items
    (read_open c.args.heights.now c.args.child c.is_none.result c.requires.child c.is_none.ensures c.if-is_none.true)

pub returns-else-is_none-clause-heights : goal.returns-else-is_none-clause-heights
returns-else-is_none-clause-heights c =
    let known = read_known c.args.heights.now c.args.child c.is_none.result c.requires.child c.is_none.ensures c.if-is_none.false in
    attached_same c.args.heights.now c.args.child c.args.height known.0 known.1

pub returns-else-is_none-clause-stack : goal.returns-else-is_none-clause-stack
returns-else-is_none-clause-stack c =
    let known = read_known c.args.heights.now c.args.child c.is_none.result c.requires.child c.is_none.ensures c.if-is_none.false in
    stacked_same c.args.heights.now c.args.child known.0 c.args.stack.now.items known.1
