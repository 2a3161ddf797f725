use Rattle.std.proofs.Common.{◌≡◌, ℕ, refl, ◌+◌, ◌<◌, ◌∙◌, sym, ap, subst, suc, Some, false, length, rules, arith}
use Rattle.std.proofs.lemmas.Option.{slice_get_read, slice_get_within}
use Rattle.el_chain.specs.Headers.{names_none}
use Rattle.el_headers.specs.within.Tables.{IsHeight}
use Rattle.el_headers.proofs.Growing.{unknown_parent, open_parent, known_parent, parent_at}
use Rattle.el_headers.proofs.attach.height_of.Goals as goal

pub returns-in_err-parent : goal.returns-in_err-parent
returns-in_err-parent c =
    let table = c.requires in
    let later : names_none c.args.node.now ≡ false = search rules in
    let none = sym (table.numbers c.args.node.now.header.previous) ∙ sym c.number_of.ensures ∙ c.in_err-parent.was in
    record { height = rw c.from_residual.ensures (unknown_parent c.args.table.now.nodes.items c.args.table.now.heights.items c.args.node.now later none) }

-- the number of the node's parent, and the nodes there
pub index-requires : goal.index-requires
index-requires c =
    let table = c.requires in
    let is = sym (table.numbers c.args.node.now.header.previous) ∙ sym c.number_of.ensures ∙ c.in_ok-parent.was in
    let parent = parent_at c.args.table.now.nodes.items c.args.node.now.header.previous c.in_ok-parent.parent is in
    let lt = slice_get_within c.args.table.now.nodes.items c.in_ok-parent.parent parent.0 parent.1 in
    let count = table.heights.count in
    let long = c.args.table.now.heights.ok.0 in
    omega arith

pub returns-in_err-height : goal.returns-in_err-height
returns-in_err-height c =
    let table = c.requires in
    let later : names_none c.args.node.now ≡ false = search rules in
    let is = sym (table.numbers c.args.node.now.header.previous) ∙ sym c.number_of.ensures ∙ c.in_ok-parent.was in
    let parent = parent_at c.args.table.now.nodes.items c.args.node.now.header.previous c.in_ok-parent.parent is in
    let lt = slice_get_within c.args.table.now.nodes.items c.in_ok-parent.parent parent.0 parent.1 in
    let count = table.heights.count in
    let within : c.in_ok-parent.parent < length c.args.table.now.heights.items = omega arith in
    let bare = slice_get_read c.args.table.now.heights.items (length c.args.table.now.heights.items) c.in_ok-parent.parent c.index.result.now refl within c.index.ensures ∙ ap Some c.in_err-height.was in
    record {
      height = rw c.from_residual-in_err-height.ensures (open_parent c.args.table.now.nodes.items c.args.table.now.heights.items c.args.node.now c.in_ok-parent.parent later
          table.found.differ is bare);
    }

pub overflow_add-result : goal.overflow_add-result
overflow_add-result c =
    let table = c.requires in
    let is = sym (table.numbers c.args.node.now.header.previous) ∙ sym c.number_of.ensures ∙ c.in_ok-parent.was in
    let parent = parent_at c.args.table.now.nodes.items c.args.node.now.header.previous c.in_ok-parent.parent is in
    let lt = slice_get_within c.args.table.now.nodes.items c.in_ok-parent.parent parent.0 parent.1 in
    let count = table.heights.count in
    let within : c.in_ok-parent.parent < length c.args.table.now.heights.items = omega arith in
    let known = slice_get_read c.args.table.now.heights.items (length c.args.table.now.heights.items) c.in_ok-parent.parent c.index.result.now refl within c.index.ensures ∙ ap Some c.in_ok-height.was in
    let low = table.heights.low c.in_ok-parent.parent c.in_ok-height.height known in
    let long = c.args.table.now.heights.ok.0 in
    omega arith

pub returns : goal.returns
returns c =
    let table = c.requires in
    let later : names_none c.args.node.now ≡ false = search rules in
    let is = sym (table.numbers c.args.node.now.header.previous) ∙ sym c.number_of.ensures ∙ c.in_ok-parent.was in
    let parent = parent_at c.args.table.now.nodes.items c.args.node.now.header.previous c.in_ok-parent.parent is in
    let lt = slice_get_within c.args.table.now.nodes.items c.in_ok-parent.parent parent.0 parent.1 in
    let count = table.heights.count in
    let within : c.in_ok-parent.parent < length c.args.table.now.heights.items = omega arith in
    let known = slice_get_read c.args.table.now.heights.items (length c.args.table.now.heights.items) c.in_ok-parent.parent c.index.result.now refl within c.index.ensures ∙ ap Some c.in_ok-height.was in
    let one : suc c.in_ok-height.height ≡ c.in_ok-height.height + 1 = omega arith in
    record {
      height = subst (λ (k : ℕ). IsHeight c.args.table.now.nodes.items c.args.table.now.heights.items c.args.node.now (Some k)) one
          (known_parent c.args.table.now.nodes.items c.args.table.now.heights.items c.args.node.now c.in_ok-parent.parent c.in_ok-height.height later is known);
    }
