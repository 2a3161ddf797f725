use Rattle.std.proofs.Common.{◌-◌, length, inl, inr, refl, ap, sym, arith}
use Rattle.el_pages.specs.Layouts.{redo_of}
use Rattle.el_recovery.specs.Checks.{Found, length_told}
use Rattle.el_recovery.proofs.Fronts.{is_shut, is_open, length_is, record_there, fault_is}
use Rattle.el_recovery.proofs.waiting.told.Goals as goal

pub returns-then-gate-ne1-clause-none : goal.returns-then-gate-ne1-clause-none
returns-then-gate-ne1-clause-none c image long same none =
    is_shut (image (redo_of c.args.layout.now)) c.args.front.now c.args.size long c.requires.two same c.if-gate-ne1.true

pub returns-then-size-lt9-clause-bad : goal.returns-then-size-lt9-clause-bad
returns-then-size-lt9-clause-bad c image long same =
    let file = image (redo_of c.args.layout.now) in (
      (redo_of c.args.layout.now, 9, length file),
      fault_is c.span-redo.ensures.redo refl (sym long),
      inl (record {
        opened = is_open file c.args.front.now c.args.size long c.requires.two same c.if-gate-ne1.false;
        short = omega (arith, long, c.if-size-lt9.true);
        is = refl;
      }),
    )

pub returns-then-len-size-clause-bad : goal.returns-then-len-size-clause-bad
returns-then-len-size-clause-bad c image long same =
    let file = image (redo_of c.args.layout.now) in
    let told = length_is file c.args.front.now c.args.size long c.requires.two same c.told-front c.if-size-lt9.false c.from_le_bytes-len.result c.from_le_bytes-len.ensures in (
      (redo_of c.args.layout.now, length_told file, length file - 9),
      fault_is c.span-redo.ensures.redo (sym told) (ap (λ n. n - 9) (sym long)),
      inr (inl (record {
        opened = is_open file c.args.front.now c.args.size long c.requires.two same c.if-gate-ne1.false;
        nine = omega (arith, long, c.if-size-lt9.false);
        beyond = omega (arith, long, told, c.if-len-size.true);
        is = refl;
      })),
    )

pub returns-then-len-layout-clause-bad : goal.returns-then-len-layout-clause-bad
returns-then-len-layout-clause-bad c image long same =
    let file = image (redo_of c.args.layout.now) in
    let told = length_is file c.args.front.now c.args.size long c.requires.two same c.told-front c.if-size-lt9.false c.from_le_bytes-len.result c.from_le_bytes-len.ensures in (
      (redo_of c.args.layout.now, c.args.layout.now.meta, length_told file),
      fault_is c.span-redo.ensures.redo refl (sym told),
      inr (inr (record {
        opened = is_open file c.args.front.now c.args.size long c.requires.two same c.if-gate-ne1.false;
        nine = omega (arith, long, c.if-size-lt9.false);
        room = omega (arith, long, told, c.if-len-size.false);
        short = omega (arith, told, c.if-len-layout.true);
        is = refl;
      })),
    )

pub returns-clause-some : goal.returns-clause-some
returns-clause-some c image long same =
    let there = record_there (image (redo_of c.args.layout.now)) c.args.front.now c.args.size long c.requires.two same c.told-front c.if-size-lt9.false c.from_le_bytes-len.result c.from_le_bytes-len.ensures c.fits-front c.if-gate-ne1.false c.if-len-size.false in
    (there.0, there.1, record { long = there.2; is = there.3; room = c.if-len-layout.false })

pub returns-then-size-lt9-clause-only : goal.returns-then-size-lt9-clause-only
returns-then-size-lt9-clause-only c = let found : Found = (c.span-redo.result.redo, 9, c.args.size) in (found, refl)

pub returns-then-len-size-clause-only : goal.returns-then-len-size-clause-only
returns-then-len-size-clause-only c = let found : Found = (c.span-redo.result.redo, c.from_le_bytes-len.result, c.args.size - 9) in (found, refl)

pub returns-then-len-layout-clause-only : goal.returns-then-len-layout-clause-only
returns-then-len-layout-clause-only c = let found : Found = (c.span-redo.result.redo, c.args.layout.now.meta, c.from_le_bytes-len.result) in (found, refl)
