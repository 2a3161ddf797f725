use Rattle.std.proofs.Common.{ap, ◌∙◌, get_or, []}
use Rattle.el_rows.specs.Transaction.{with_edits}
use Rattle.el_buckets.proofs.Heads.{row_found}
use Rattle.el_buckets.proofs.walk.at_row.Goals as goal

pub returns-clause-hash : goal.returns-clause-hash
returns-clause-hash g c counts bs l told hold =
    let shown = with_edits {G = g.R.Rows} c.args.t.now in
    (row_found c.args.buckets counts bs l shown c.args.n c.get.new.buf c.hash_and_next-next.result.0 c.hash_and_next-next.result.1 hold c.requires.below
    (c.in_ok-get.ensures.row told ∙ ap (λ t. get_or (shown t) c.args.n []) c.rows.ensures) c.hash_and_next-next.ensures.tx c.hash_and_next-next.ensures.script).0

pub returns-clause-next : goal.returns-clause-next
returns-clause-next g c counts bs l told hold =
    let shown = with_edits {G = g.R.Rows} c.args.t.now in
    c.if_below.ensures ∙ (row_found c.args.buckets counts bs l shown c.args.n c.get.new.buf c.hash_and_next-next.result.0 c.hash_and_next-next.result.1 hold c.requires.below
    (c.in_ok-get.ensures.row told ∙ ap (λ t. get_or (shown t) c.args.n []) c.rows.ensures) c.hash_and_next-next.ensures.tx c.hash_and_next-next.ensures.script).1

pub returns-clause-row : goal.returns-clause-row
returns-clause-row g c told = c.in_ok-get.ensures.row told ∙ ap (λ t. get_or (with_edits {G = g.R.Rows} c.args.t.now t) c.args.n []) c.rows.ensures
