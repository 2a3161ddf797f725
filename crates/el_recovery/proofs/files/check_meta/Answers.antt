use Rattle.std.proofs.Common.{ℕ, inl, inr, subst}
use Rattle.std.proofs.lemmas.Result.{err_from_is_err_and}
use Rattle.std.proofs.Math.Path.{fun_ext}
use Rattle.el_row_formats.specs.declared.table.Table.{Table}
use Rattle.el_pages.specs.declared.layout.TheConstants.{FORMAT_2}
use Rattle.el_recovery.specs.Checks.{count_told, HasHeadOfEachBucket, IsBadHeads, IsBadCount}
use Rattle.el_recovery.proofs.Metas.{meta_is}
use Rattle.el_recovery.proofs.files.check_meta.Goals as goal

pub returns-in_err-bits-clause-bad : goal.returns-in_err-bits-clause-bad
returns-in_err-bits-clause-bad c =
    let p = err_from_is_err_and c.from_residual.result c.from_residual.ensures.1 in
    rw (p.1, p.2) (
    let bad = c.in_err-bits.ensures.bad in (bad.0, bad.1, inl bad.2)
    )

pub returns-in_err-check_heads-clause-bad : goal.returns-in_err-check_heads-clause-bad
returns-in_err-check_heads-clause-bad c =
    let p = err_from_is_err_and c.from_residual-in_err-check_heads.result c.from_residual-in_err-check_heads.ensures.1 in
    rw (p.1, p.2) (
    let bad = c.in_err-check_heads.ensures.bad in
    let same = fun_ext (λ (t : Table). c.read_counts-counts.ensures t) in
    let bits = (c.in_ok-bits.ensures.bits).0 in
    (bad.0, bad.1, inr (c.in_ok-bits.ensures.ok, inl (subst (λ b. IsBadHeads FORMAT_2 b (count_told FORMAT_2 c.args.meta.now) bad.0) bits (subst (λ (count : Table → ℕ). IsBadHeads FORMAT_2 c.in_ok-bits.bits count bad.0) same bad.2))))
    )

pub returns-in_err-check_counts-clause-bad : goal.returns-in_err-check_counts-clause-bad
returns-in_err-check_counts-clause-bad c =
    let p = err_from_is_err_and c.from_residual-in_err-check_counts.result c.from_residual-in_err-check_counts.ensures.1 in
    rw (p.1, p.2) (
    let bad = c.in_err-check_counts.ensures.bad in
    let same = fun_ext (λ (t : Table). c.read_counts-counts.ensures t) in
    let bits = (c.in_ok-bits.ensures.bits).0 in
    (bad.0, bad.1, inr (c.in_ok-bits.ensures.ok, inr (subst (λ b. HasHeadOfEachBucket b (count_told FORMAT_2 c.args.meta.now)) bits (subst (λ (count : Table → ℕ). HasHeadOfEachBucket c.in_ok-bits.bits count) same c.in_ok-check_heads.ensures.ok), subst (λ (count : Table → ℕ). IsBadCount FORMAT_2 count bad.0) same bad.2)))
    )

pub returns-clause-told : goal.returns-clause-told
returns-clause-told c t = c.read_counts-counts.ensures t

pub returns-clause-head : goal.returns-clause-head
returns-clause-head c = c.in_ok-bits.ensures.ok

pub returns-clause-bits : goal.returns-clause-bits
returns-clause-bits c = c.in_ok-bits.ensures.bits

pub check_heads-requires : goal.check_heads-requires
check_heads-requires c = (c.in_ok-bits.ensures.bits).1.1

pub returns-clause-heads : goal.returns-clause-heads
returns-clause-heads c = c.in_ok-check_heads.ensures.ok

pub returns-clause-limited : goal.returns-clause-limited
returns-clause-limited c t = c.in_ok-check_counts.ensures.ok t

pub returns-clause-is : goal.returns-clause-is
returns-clause-is c =
    let bytes = c.in_ok-bits.ensures.bytes in
    meta_is c.args.meta.now bytes.0.long bytes.0.small c.args.magic c.read_counts-counts.result c.in_ok-bits.bits bytes.1.long bytes.1.small c.in_ok-bits.ensures.ok (c.in_ok-bits.ensures.bits).0 (λ t. c.read_counts-counts.ensures t)
