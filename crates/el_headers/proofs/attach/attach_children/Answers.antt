use Rattle.std.proofs.Common.{◌∙◌, None, get_or, refl, arith}
use Rattle.std.proofs.lemmas.Grind.{common_steps}
use Rattle.el_headers.proofs.Heights.{at_child, child_within, fewer_left, turn, children_start}
use Rattle.el_headers.proofs.attach.attach_children.Goals as goal

pub loop-newest-init : goal.loop-newest-init
loop-newest-init c =
    let s = children_start c.args.nodes.now c.args.heights.now c.args.stack.now.items c.args.parent c.args.height c.args.children.now c.number_of-newest.result _
    c.requires.parent c.requires.children c.number_of-newest.ensures c.requires.heights in
    record { heights = s.0; child = s.1; parent = c.requires.parent; known = λ i h k. k; sum = refl; capacity = refl }

pub attach-requires-clause-child : goal.attach-requires-clause-child
attach-requires-clause-child c =
    let i = c.loop-newest.invariant in
    (child_within c.args.nodes.now c.args.older.now c.loop-newest.heights c.loop-newest.stack.items c.args.parent c.args.height c.in-Some.child (get_or c.args.older.now c.in-Some.child None)
    (at_child c.args.nodes.now c.args.older.now c.loop-newest.heights c.loop-newest.stack.items c.args.parent c.args.height c.in-Some.child c.loop-newest.newest
    c.requires.older i.parent i.child i.heights c.in-Some.is)).0

pub offset_bounds-older-child : goal.offset_bounds-older-child
offset_bounds-older-child c =
    let i = c.loop-newest.invariant in
    let within = (child_within c.args.nodes.now c.args.older.now c.loop-newest.heights c.loop-newest.stack.items c.args.parent c.args.height c.in-Some.child (get_or c.args.older.now c.in-Some.child None)
    (at_child c.args.nodes.now c.args.older.now c.loop-newest.heights c.loop-newest.stack.items c.args.parent c.args.height c.in-Some.child c.loop-newest.newest
    c.requires.older i.parent i.child i.heights c.in-Some.is)).1 in
    grind (arith, common_steps)

pub bounds-older-child : goal.bounds-older-child
bounds-older-child c =
    let i = c.loop-newest.invariant in
    (child_within c.args.nodes.now c.args.older.now c.loop-newest.heights c.loop-newest.stack.items c.args.parent c.args.height c.in-Some.child (get_or c.args.older.now c.in-Some.child None)
    (at_child c.args.nodes.now c.args.older.now c.loop-newest.heights c.loop-newest.stack.items c.args.parent c.args.height c.in-Some.child c.loop-newest.newest
    c.requires.older i.parent i.child i.heights c.in-Some.is)).1

pub loop-newest-smaller : goal.loop-newest-smaller
loop-newest-smaller c =
    let i = c.loop-newest.invariant in
    fewer_left c.args.nodes.now c.args.older.now c.loop-newest.heights c.loop-newest.stack.items c.args.parent c.args.height c.in-Some.child (get_or c.args.older.now c.in-Some.child None) c.loop-newest.newest
    (at_child c.args.nodes.now c.args.older.now c.loop-newest.heights c.loop-newest.stack.items c.args.parent c.args.height c.in-Some.child c.loop-newest.newest
    c.requires.older i.parent i.child i.heights c.in-Some.is) c.in-Some.is

pub loop-newest-preserved : goal.loop-newest-preserved
loop-newest-preserved c =
    let i = c.loop-newest.invariant in
    let t = turn c.args.nodes.now c.args.older.now c.loop-newest.heights c.attach.new.heights c.loop-newest.stack.items c.attach.new.stack.items c.args.parent c.args.height c.in-Some.child
    (get_or c.args.older.now c.in-Some.child None)
    (at_child c.args.nodes.now c.args.older.now c.loop-newest.heights c.loop-newest.stack.items c.args.parent c.args.height c.in-Some.child c.loop-newest.newest
    c.requires.older i.parent i.child i.heights c.in-Some.is)
    c.attach.ensures.heights c.attach.ensures.stack in
    record {
      heights = t.are;
      child = t.named;
      parent = t.parent_is;
      known = λ j h k. t.known j h (i.known j h k);
      sum = t.sum ∙ i.sum;
      capacity = c.attach.ensures.capacity ∙ i.capacity;
    }
