use Rattle.std.proofs.Common.{◌^◌, inl, inr, refl, sym, ap, ◌∙◌}
use Rattle.std.proofs.lemmas.Result.{err_from_is_err_and}
use Rattle.el_row_formats.specs.declared.table.Table.TheVariants as table
use Rattle.el_rows.specs.Changes.{count_at}
use Rattle.el_pages.specs.declared.layout.TheConstants.{FORMAT_2}
use Rattle.el_pages.specs.Layouts.{file_of}
use Rattle.el_recovery.specs.Checks.{bad_index}
use Rattle.el_recovery.proofs.files.check_heads.Goals as goal

pub returns-in_err-check_head_count-clause-bad : goal.returns-in_err-check_head_count-clause-bad
returns-in_err-check_head_count-clause-bad c =
    let p = err_from_is_err_and c.from_residual.result c.from_residual.ensures.1 in
    rw (p.1, p.2) (
    let bad = c.in_err-check_head_count.ensures.bad in
    let count = count_at c.args.counts.now table.TxHeads in (
      (file_of FORMAT_2 table.TxHeads, 2 ^ c.args.bits, count),
      bad.1 ∙ ap (λ n. bad_index (file_of FORMAT_2 table.TxHeads, n, count)) c.bucket_count-rows.ensures,
      inl (λ e. bad.0 (e ∙ sym c.bucket_count-rows.ensures), refl),
    )
    )

pub returns-in_err-check_head_count-2-clause-bad : goal.returns-in_err-check_head_count-2-clause-bad
returns-in_err-check_head_count-2-clause-bad c =
    let p = err_from_is_err_and c.from_residual-in_err-check_head_count-2.result c.from_residual-in_err-check_head_count-2.ensures.1 in
    rw (p.1, p.2) (
    let bad = c.in_err-check_head_count-2.ensures.bad in
    let count = count_at c.args.counts.now table.ScriptHeads in (
      (file_of FORMAT_2 table.ScriptHeads, 2 ^ c.args.bits, count),
      bad.1 ∙ ap (λ n. bad_index (file_of FORMAT_2 table.ScriptHeads, n, count)) c.bucket_count-rows.ensures,
      inr (c.in_ok-check_head_count.ensures.ok ∙ c.bucket_count-rows.ensures, (λ e. bad.0 (e ∙ sym c.bucket_count-rows.ensures), refl)),
    )
    )

pub returns-clause-ok : goal.returns-clause-ok
returns-clause-ok c = (c.in_ok-check_head_count.ensures.ok ∙ c.bucket_count-rows.ensures, c.in_ok-check_head_count-2.ensures.ok ∙ c.bucket_count-rows.ensures)
