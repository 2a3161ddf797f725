use Rattle.el_rows.specs.Transaction.{with_edits}
use Rattle.el_schema.proofs.StandingLemmas.{equal_rows}
use Rattle.el_laws.proofs.undoing.connect_and_disconnect.Goals as goal

pub returns-in-Ok-clause-same : goal.returns-in-Ok-clause-same
returns-in-Ok-clause-same g c chain block told stand encoded is names =
    let after = (c.in_ok-connect.ensures.connected stand.0 chain block told stand.1 encoded is names).1 in
    equal_rows stand.0 (with_edits {G = g.R.Rows} c.args.t.now) (with_edits {G = g.R.Rows} c.disconnect.new.t) chain stand.1
    (c.in-Ok.ensures.disconnected stand.0 chain (record { block = block; place = c.args.place }) told after)
