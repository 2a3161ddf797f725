use Rattle.std.proofs.Common.{◌∙◌, Some, None, refl, sym, ap, arith, subst}
use Rattle.std.specs.Option.{IsSome}
use Rattle.std.proofs.lemmas.Grind.{common_steps}
use Rattle.std.proofs.lemmas.Option.{slice_get_within, get_or_from_slice_get}
use Rattle.el_headers.proofs.Heights.{popped}
use Rattle.el_headers.proofs.attach.attach_waiting.Goals as goal

pub offset_bounds-heights-parent : goal.offset_bounds-heights-parent
offset_bounds-heights-parent c =
    let p = popped c.args.nodes.now c.loop-parent.heights c.loop-parent.stack.items c.pop.new.self.items c.in-Some.parent c.in-Some.ensures.items c.loop-parent.invariant.heights in
    let lt = slice_get_within c.loop-parent.heights c.in-Some.parent (Some p.1.0) p.1.1 in
    grind (arith, common_steps)

pub slice_copy_out-unwrap : goal.slice_copy_out-unwrap
slice_copy_out-unwrap c =
    let p = popped c.args.nodes.now c.loop-parent.heights c.loop-parent.stack.items c.pop.new.self.items c.in-Some.parent c.in-Some.ensures.items c.loop-parent.invariant.heights in
    slice_get_within c.loop-parent.heights c.in-Some.parent (Some p.1.0) p.1.1

pub unwrap-height-requires : goal.unwrap-height-requires
unwrap-height-requires c =
    let p = popped c.args.nodes.now c.loop-parent.heights c.loop-parent.stack.items c.pop.new.self.items c.in-Some.parent c.in-Some.ensures.items c.loop-parent.invariant.heights in
    subst IsSome (sym (get_or_from_slice_get c.loop-parent.heights c.in-Some.parent (Some p.1.0) None p.1.1)) refl

pub attach_children-requires-clause-parent : goal.attach_children-requires-clause-parent
attach_children-requires-clause-parent c =
    let e = c.unwrap-height.ensures in
    let p = popped c.args.nodes.now c.loop-parent.heights c.loop-parent.stack.items c.pop.new.self.items c.in-Some.parent c.in-Some.ensures.items c.loop-parent.invariant.heights in
    p.1.1 ∙ ap Some (sym (get_or_from_slice_get c.loop-parent.heights c.in-Some.parent (Some p.1.0) None p.1.1) ∙ e)

pub attach_children-requires-clause-heights : goal.attach_children-requires-clause-heights
attach_children-requires-clause-heights c =
    (popped c.args.nodes.now c.loop-parent.heights c.loop-parent.stack.items c.pop.new.self.items c.in-Some.parent c.in-Some.ensures.items c.loop-parent.invariant.heights).0
