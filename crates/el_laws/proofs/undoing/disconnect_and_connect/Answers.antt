use Rattle.std.proofs.Common.{◌++◌, ◌∷◌, []}
use Rattle.el_chain.specs.declared.placed.Placed.{Placed}
use Rattle.el_rows.specs.Transaction.{with_edits}
use Rattle.el_schema.proofs.StandingLemmas.{equal_rows}
use Rattle.el_laws.proofs.Results.{on_ok}
use Rattle.el_laws.proofs.undoing.disconnect_and_connect.Goals as goal

pub returns-in-Ok-clause-same : goal.returns-in-Ok-clause-same
returns-in-Ok-clause-same g c chain block told stand encoded is names =
    let b : Placed = record { block = block; place = c.args.place } in
    let before = c.in-Ok.ensures.disconnected stand.0 chain b told stand.1 in
    on_ok c.connect.result (c.connect.ensures.connected stand.0 chain block told before encoded is names)
    (λ both. equal_rows stand.0 (with_edits {G = g.R.Rows} c.args.t.now) (with_edits {G = g.R.Rows} c.connect.new.t) (chain ++ b ∷ []) stand.1 both.1)
