use Rattle.std.proofs.Common.{◌≡◌, true, false, inl, inr, refl, sym, ◌∙◌}
use Rattle.std.proofs.lemmas.Result.{err_from_is_err_and}
use Rattle.el_row_formats.specs.declared.table.Table.TheVariants as table
use Rattle.el_rows.specs.Changes.{count_at}
use Rattle.el_pages.specs.declared.layout.TheConstants.{FORMAT_1}
use Rattle.el_pages.specs.Layouts.{file_of}
use Rattle.el_migrate.proofs.old_files.check_heads.Goals as goal
use Rattle.el_migrate.specs.declared.old_files.TheConstants.{OLD_BUCKETS}

pub returns-then-are_empty-clause-ok : goal.returns-then-are_empty-clause-ok
returns-then-are_empty-clause-ok c = inr (c.are_empty.ensures.0 c.if-are_empty.true)

pub returns-in_err-check_head_count-clause-bad : goal.returns-in_err-check_head_count-clause-bad
returns-in_err-check_head_count-clause-bad c =
    let p = err_from_is_err_and c.from_residual.result c.from_residual.ensures.1 in
    rw (p.1, p.2) (
    let bad = c.in_err-check_head_count.ensures.bad in (
      (file_of FORMAT_1 table.TxHeads, OLD_BUCKETS, count_at c.args.counts.now table.TxHeads),
      bad.1,
      record {
        some = λ none. absurd (let e : true ≡ false = sym (c.are_empty.ensures.1 none) ∙ c.if-are_empty.false in cc);
        which = inl (bad.0, refl);
      },
    )
    )

pub returns-in_err-check_head_count-2-clause-bad : goal.returns-in_err-check_head_count-2-clause-bad
returns-in_err-check_head_count-2-clause-bad c =
    let p = err_from_is_err_and c.from_residual-in_err-check_head_count-2.result c.from_residual-in_err-check_head_count-2.ensures.1 in
    rw (p.1, p.2) (
    let bad = c.in_err-check_head_count-2.ensures.bad in (
      (file_of FORMAT_1 table.ScriptHeads, OLD_BUCKETS, count_at c.args.counts.now table.ScriptHeads),
      bad.1,
      record {
        some = λ none. absurd (let e : true ≡ false = sym (c.are_empty.ensures.1 none) ∙ c.if-are_empty.false in cc);
        which = inr (c.in_ok-check_head_count.ensures.ok, (bad.0, refl));
      },
    )
    )

pub returns-clause-ok : goal.returns-clause-ok
returns-clause-ok c = inl (c.in_ok-check_head_count.ensures.ok, c.in_ok-check_head_count-2.ensures.ok)
