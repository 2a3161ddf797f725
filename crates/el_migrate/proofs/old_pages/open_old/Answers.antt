use Rattle.std.proofs.lemmas.Result.{err_from_is_err_and}
use Rattle.el_migrate.proofs.old_pages.open_old.Goals as goal

pub returns-in_err-counts-clause-opens : goal.returns-in_err-counts-clause-opens
returns-in_err-counts-clause-opens g c told tables shows heads =
    let p = err_from_is_err_and c.from_residual.result c.from_residual.ensures.1 in
    rw (p.1, p.2) (c.in_err-counts.ensures.opens told tables shows heads)

pub returns-in_err-counts-clause-is_bad : goal.returns-in_err-counts-clause-is_bad
returns-in_err-counts-clause-is_bad g c told found bad =
    let p = err_from_is_err_and c.from_residual.result c.from_residual.ensures.1 in
    rw (p.1, p.2) (c.in_err-counts.ensures.is_bad told found bad)

pub returns-in_err-counts-clause-untouched : goal.returns-in_err-counts-clause-untouched
returns-in_err-counts-clause-untouched g c told found body =
    let p = err_from_is_err_and c.from_residual.result c.from_residual.ensures.1 in
    rw (p.1, p.2) (c.in_err-counts.ensures.untouched told found body)
