use Rattle.std.proofs.Common.{◌<◌, Some, length, refl, sym, ap, ◌∙◌, arith, subst}
use Rattle.std.specs.Option.{is_some}
use Rattle.std.proofs.lemmas.Option.{slice_get_read, slice_get_within}
use Rattle.el_base.specs.declared.hash.Hash32.{Hash32}
use Rattle.el_chain.specs.Headers.{IsPath, has_hash}
use Rattle.el_headers.proofs.Growing.{parent_at}
use Rattle.el_headers.proofs.Paths.{no_path}
use Rattle.el_headers.proofs.Putting.{any_greatest, known_at}
use Rattle.el_headers.proofs.path.place_in.Goals as goal

pub returns-in_default-clause-fault : goal.returns-in_default-clause-fault
returns-in_default-clause-fault c =
    sym (any_greatest (has_hash c.args.hash.now) c.args.table.now.nodes.items)
    ∙ ap is_some (sym (c.requires.numbers c.args.hash.now) ∙ sym c.number_of.ensures ∙ c.in_default.is)

pub index-requires : goal.index-requires
index-requires c =
    let table = c.requires in
    let is = sym (table.numbers c.args.hash.now) ∙ sym c.number_of.ensures ∙ c.in-Some.is in
    let n = parent_at c.args.table.now.nodes.items c.args.hash.now c.in-Some.number is in
    let lt = slice_get_within c.args.table.now.nodes.items c.in-Some.number n.0 n.1 in
    let count = table.heights.count in
    let long = c.args.table.now.heights.ok.0 in
    omega arith

pub returns-in_default-index-clause-fault : goal.returns-in_default-index-clause-fault
returns-in_default-index-clause-fault c =
    let table = c.requires in
    let is = sym (table.numbers c.args.hash.now) ∙ sym c.number_of.ensures ∙ c.in-Some.is in
    let n = parent_at c.args.table.now.nodes.items c.args.hash.now c.in-Some.number is in
    let lt = slice_get_within c.args.table.now.nodes.items c.in-Some.number n.0 n.1 in
    let count = table.heights.count in
    let within : c.in-Some.number < length c.args.table.now.heights.items = omega arith in
    let bare = slice_get_read c.args.table.now.heights.items (length c.args.table.now.heights.items) c.in-Some.number c.index.result.now refl within c.index.ensures ∙ ap Some c.in_default-index.is in (
      known_at c.args.table.now.nodes.items c.args.hash.now c.in-Some.number is,
      λ path p. no_path c.args.table.now.nodes.items c.args.table.now.heights.items table.heights table.found.differ c.in-Some.number n.0 n.1 bare path
          (subst (λ (h : Hash32). IsPath c.args.table.now.nodes.items h path) (sym n.2) p),
    )

pub returns-clause-place : goal.returns-clause-place
returns-clause-place c =
    let table = c.requires in
    let is = sym (table.numbers c.args.hash.now) ∙ sym c.number_of.ensures ∙ c.in-Some.is in
    let n = parent_at c.args.table.now.nodes.items c.args.hash.now c.in-Some.number is in
    let lt = slice_get_within c.args.table.now.nodes.items c.in-Some.number n.0 n.1 in
    let count = table.heights.count in
    let within : c.in-Some.number < length c.args.table.now.heights.items = omega arith in
    (n.0, n.1, n.2, slice_get_read c.args.table.now.heights.items (length c.args.table.now.heights.items) c.in-Some.number c.index.result.now refl within c.index.ensures ∙ ap Some c.in-Some-index.is)
