use Rattle.std.proofs.Common.{◌≡◌, ◌≤◌, ◌<◌, ◌+◌, ◌/◌, ◌∷◌, length, get_or, refl, ap, sym, subst, inl, inr, ◌∙◌, arith}
use Rattle.el_rows.specs.Changes.{count_at}
use Rattle.el_pages.specs.Layouts.{file_of, redo_of, size_in}
use Rattle.el_recovery.specs.Checks.{Found}
use Rattle.el_recovery.proofs.Fronts.{fault_is}
use Rattle.el_recovery.proofs.NextKeys.{front_there, row_there}
use Rattle.el_recovery.proofs.checking.next_key.Goals as goal

pub returns-in_default-clause-bad : goal.returns-in_default-clause-bad
returns-in_default-clause-bad c rest left read =
    let first = front_there c.args.front.now rest c.args.left left c.requires.some read in (
      (redo_of c.args.layout.now, 8, get_or c.args.front.now 0 0),
      fault_is c.span-redo.ensures.redo refl c.from.ensures,
      inl (record {
        byte = get_or c.args.front.now 0 0;
        after = first.0;
        is = first.1;
        none = c.in_default.ensures.none;
        told = refl;
      }),
    )

pub returns-then-left-whole-clause-bad : goal.returns-then-left-whole-clause-bad
returns-then-left-whole-clause-bad c rest left read =
    let first = front_there c.args.front.now rest c.args.left left c.requires.some read in (
      (redo_of c.args.layout.now, 9 + size_in c.args.layout.now c.in-Some.table, length rest),
      fault_is c.span-redo.ensures.redo (ap (λ s. 9 + s) c.size-size.ensures) (sym left),
      inr (inl (record {
        of = c.in-Some.table;
        after = first.0;
        is = first.1 ∙ ap (λ n. n ∷ first.0) (sym c.in-Some.ensures.some);
        short = omega (arith, left, c.if-left-whole.true, c.size-size.ensures);
        told = refl;
      })),
    )

pub returns-then-row-most-clause-bad : goal.returns-then-row-most-clause-bad
returns-then-row-most-clause-bad c rest left read =
    let l = c.args.layout.now in
    let t = c.in-Some.table in
    let reach = count_at c.args.reach.now t in
    let most : c.number_in-reached.result / c.size-size.result ≡ reach / size_in l t =
    ap (λ n. n / c.size-size.result) c.number_in-reached.ensures ∙ ap (λ s. reach / s) c.size-size.ensures in
    let there = row_there l t c.args.front.now rest c.args.left left read c.told-front c.from_le_bytes-row.result c.from_le_bytes-row.ensures c.fits-front c.in-Some.ensures.some (omega (arith, c.if-left-whole.false, c.size-size.ensures)) in (
      (file_of l t, reach / size_in l t, c.from_le_bytes-row.result),
      fault_is c.file.ensures most refl,
      inr (inr (record {
        key = record { table = t; row = c.from_le_bytes-row.result };
        row = there.row;
        after = there.after;
        is = there.is;
        whole = record { sized = there.sized; small = there.small };
        beyond = subst (λ m. m < c.from_le_bytes-row.result) most c.if-row-most.true;
        told = refl;
      })),
    )

pub returns-clause-next : goal.returns-clause-next
returns-clause-next c rest left read =
    row_there c.args.layout.now c.in-Some.table c.args.front.now rest c.args.left left read c.told-front c.from_le_bytes-row.result c.from_le_bytes-row.ensures c.fits-front c.in-Some.ensures.some (omega (arith, c.if-left-whole.false, c.size-size.ensures))

pub returns-clause-near : goal.returns-clause-near
returns-clause-near c =
    let t = c.in-Some.table in
    let reach = count_at c.args.reach.now t in
    subst (λ m. c.from_le_bytes-row.result ≤ m) (ap (λ n. n / c.size-size.result) c.number_in-reached.ensures ∙ ap (λ s. reach / s) c.size-size.ensures) c.if-row-most.false

pub overflow_add-whole : goal.overflow_add-whole
overflow_add-whole c = omega (arith, c.size-size.ensures, c.requires.narrow c.in-Some.table)

pub nonzero_div-most : goal.nonzero_div-most
nonzero_div-most c = omega (arith, c.size-size.ensures, c.requires.sized c.in-Some.table)

pub returns-clause-room : goal.returns-clause-room
returns-clause-room c = omega (arith, c.if-left-whole.false, c.size-size.ensures)

pub returns-in_default-clause-only : goal.returns-in_default-clause-only
returns-in_default-clause-only c = let found : Found = (c.span-redo.result.redo, 8, c.from.result) in (found, refl)

pub returns-then-left-whole-clause-only : goal.returns-then-left-whole-clause-only
returns-then-left-whole-clause-only c = let found : Found = (c.span-redo.result.redo, 9 + c.size-size.result, c.args.left) in (found, refl)

pub returns-then-row-most-clause-only : goal.returns-then-row-most-clause-only
returns-then-row-most-clause-only c = let found : Found = (c.file.result, c.number_in-reached.result / c.size-size.result, c.from_le_bytes-row.result) in (found, refl)
