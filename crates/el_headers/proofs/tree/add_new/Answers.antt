use Rattle.std.proofs.Common.{◌∙◌, ◌∷◌, [], sym, ap, Some, Option, ℕ, List, length, cond, subst}
use Rattle.std.specs.Option.{is_some}
use Rattle.std.proofs.lemmas.List.{with_items_is}
use Rattle.el_headers.specs.within.Tables.{AreHeights, NoneLeft}
use Rattle.el_headers.proofs.Putting.{put_new, put_path, put_no_path}
use Rattle.el_headers.proofs.tree.add_new.Goals as goal

pub attach_waiting-requires-clause-children : goal.attach_waiting-requires-clause-children
attach_waiting-requires-clause-children c =
    let p = put_new c.args.table.now c.make_room.new.table c.keep.new.table c.args.node c.height_of-height.result c.requires.table c.in_ok-make_room.ensures.same c.requires.node c.requires.new
    c.height_of-height.ensures.height c.keep.ensures in
    λ h. rw c.as_slice.ensures.value (p.children h)

pub attach_waiting-requires-clause-older : goal.attach_waiting-requires-clause-older
attach_waiting-requires-clause-older c =
    let p = put_new c.args.table.now c.make_room.new.table c.keep.new.table c.args.node c.height_of-height.result c.requires.table c.in_ok-make_room.ensures.same c.requires.node c.requires.new
    c.height_of-height.ensures.height c.keep.ensures in
    rw (c.as_slice.ensures.value, c.as_slice-in-Some.ensures.value) p.older

pub attach_waiting-requires-clause-heights : goal.attach_waiting-requires-clause-heights
attach_waiting-requires-clause-heights c =
    let p = put_new c.args.table.now c.make_room.new.table c.keep.new.table c.args.node c.height_of-height.result c.requires.table c.in_ok-make_room.ensures.same c.requires.node c.requires.new
    c.height_of-height.ensures.height c.keep.ensures in
    rw (c.as_slice.ensures.value, c.as_mut_slice.ensures.value) p.heights

pub attach_waiting-requires-clause-room : goal.attach_waiting-requires-clause-room
attach_waiting-requires-clause-room c =
    let p = put_new c.args.table.now c.make_room.new.table c.keep.new.table c.args.node c.height_of-height.result c.requires.table c.in_ok-make_room.ensures.same c.requires.node c.requires.new
    c.height_of-height.ensures.height c.keep.ensures in
    rw c.as_mut_slice.ensures.value p.room

pub returns-in-Some-clause-table : goal.returns-in-Some-clause-table
returns-in-Some-clause-table c =
    let p = put_new c.args.table.now c.make_room.new.table c.keep.new.table c.args.node c.height_of-height.result c.requires.table c.in_ok-make_room.ensures.same c.requires.node c.requires.new
    c.height_of-height.ensures.height c.keep.ensures in
    let a = rw c.as_slice.ensures.value at c.attach_waiting.ensures.heights in
    let count = p.heights.count in
    let done = a.count in
    let long = c.keep.new.table.heights.ok.0 in
    let items = with_items_is c.keep.new.table.heights c.attach_waiting.new.heights (done ∙ sym count ∙ sym long) in
    record {
      found = p.found;
      numbers = p.numbers;
      children = p.children;
      older = p.older;
      heights = rw items a;
      stack = c.attach_waiting.ensures.stack;
      first = p.first;
    }

pub returns-in-Some-clause-answer : goal.returns-in-Some-clause-answer
returns-in-Some-clause-answer c =
    let p = put_new c.args.table.now c.make_room.new.table c.keep.new.table c.args.node c.height_of-height.result c.requires.table c.in_ok-make_room.ensures.same c.requires.node c.requires.new
    c.height_of-height.ensures.height c.keep.ensures in
    let a = rw c.as_slice.ensures.value at c.attach_waiting.ensures.heights in (
      c.requires.new,
      put_path c.args.table.now.nodes.items c.keep.new.table.nodes.items c.as_mut_slice.result.now c.attach_waiting.new.heights c.args.node c.in-Some.height c.requires.new p.nodes p.new_at
          (rw c.as_mut_slice.ensures.value (p.height_at ∙ ap Some c.in-Some.is)) c.attach_waiting.ensures.known a,
    )

pub returns-in-None-clause-table : goal.returns-in-None-clause-table
returns-in-None-clause-table c =
    let p = put_new c.args.table.now c.make_room.new.table c.keep.new.table c.args.node c.height_of-height.result c.requires.table c.in_ok-make_room.ensures.same c.requires.node c.requires.new
    c.height_of-height.ensures.height c.keep.ensures in
    let none = c.keep.ensures.stack ∙ ap (λ (o : Option ℕ). cond (is_some o) (length c.make_room.new.table.nodes.items ∷ []) []) c.in-None.is in
    record {
      found = p.found;
      numbers = p.numbers;
      children = p.children;
      older = p.older;
      heights = subst (λ (st : List ℕ). AreHeights c.keep.new.table.nodes.items c.keep.new.table.heights.items st NoneLeft) none p.heights;
      stack = none;
      first = p.first;
    }

pub returns-in-None-clause-answer : goal.returns-in-None-clause-answer
returns-in-None-clause-answer c =
    let p = put_new c.args.table.now c.make_room.new.table c.keep.new.table c.args.node c.height_of-height.result c.requires.table c.in_ok-make_room.ensures.same c.requires.node c.requires.new
    c.height_of-height.ensures.height c.keep.ensures in
    let none = c.keep.ensures.stack ∙ ap (λ (o : Option ℕ). cond (is_some o) (length c.make_room.new.table.nodes.items ∷ []) []) c.in-None.is in (
      c.requires.new,
      put_no_path c.args.table.now.nodes.items c.keep.new.table.nodes.items c.keep.new.table.heights.items c.args.node c.requires.new p.nodes p.found p.new_at
          (p.height_at ∙ ap Some c.in-None.is) (subst (λ (st : List ℕ). AreHeights c.keep.new.table.nodes.items c.keep.new.table.heights.items st NoneLeft) none p.heights),
    )
