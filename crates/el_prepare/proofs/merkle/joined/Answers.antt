use Rattle.std.proofs.Common.{ℕ, ◌<◌, ◌∷◌, ◌*◌, ◌/◌, ◌^◌, ◌≡◌, sym, subst, ap, ◌∙◌, arith}
use Rattle.std.proofs.lemmas.List.{nil_from_length}
use Rattle.el_merkle.specs.Merkle.{row}
use Rattle.el_merkle.proofs.Rows.{row_parts, row_of_none}
use Rattle.el_prepare.proofs.PieceLemmas.{joining_begins, joining_more, joining_ends}
use Rattle.el_prepare.proofs.merkle.joined.Goals as goal

pub loop-row-init : goal.loop-row-init
loop-row-init c =
    let len = c.args.rows.ok.0 in
    rw (c.in_ok-list.ensures.items, c.into_iter-row-iterator.ensures.into_iter_gives.0)
    (joining_begins (row 6) (λ v. v.items) c.args.size c.args.hashes.now c.args.rows.items c.requires.some (sym len ∙ c.requires.count)
    (λ n d lt. c.requires.each n d (subst (λ (k : ℕ). n < k) (sym len) lt)))

pub loop-row-preserved : goal.loop-row-preserved
loop-row-preserved c =
    let groups : c.args.size ≡ c.args.size / 64 * 2 ^ 6 = let g = c.requires.groups in omega arith in
    rw c.in_ok-append.ensures.items
    (joining_more (row 6) (λ v. v.items) c.args.size c.args.hashes.now c.loop-row.list.items c.loop-row.row-iterator.rest.items c.next.new.self.rest.items c.in_ok-part.part
    (λ xs. row_parts 6 (c.args.size / 64) c.args.size xs groups)
    (c.in-Some.ensures.steps.0 ∙ ap (λ r. r ∷ c.next.new.self.rest.items) c.in_ok-part.was) c.loop-row.invariant)

pub returns : goal.returns
returns c =
    let none = nil_from_length c.loop-row.row-iterator.rest.items (sym c.loop-row.row-iterator.rest.ok.0 ∙ c.in-None.ensures.steps.0) in
    joining_ends (row 6) (λ v. v.items) c.args.size c.args.hashes.now c.loop-row.list.items c.loop-row.row-iterator.rest.items (row_of_none 6) none c.loop-row.invariant
