use Rattle.std.proofs.Common.{◌∙◌, sym}
use Rattle.el_chain.specs.Moves.{StoodAt}
use Rattle.el_audit_run.proofs.Reaching.{none_reached, path_linked}
use Rattle.el_audit_run.proofs.running.audit_index.Goals as goal

pub returns-in-Err-clause-found : goal.returns-in-Err-clause-found
returns-in-Err-clause-found g c =
    none_reached (g.G.Ledger.stands c.args.ledger.now) (g.G.Ledger.tip c.args.ledger.now) c.args.tree.now _ c.in-Some.tip c.in-Err.fault c.unreached.result c.unreached.ensures
    c.in-Err.ensures.fault (sym c.tip.ensures ∙ c.in-Some.is)

pub read_path-requires-clause-linked : goal.read_path-requires-clause-linked
read_path-requires-clause-linked g c = λ κs within. rw c.as_slice-2.ensures.value (path_linked c.args.tree.now c.in-Ok.path.items c.in-Some.tip c.in-Ok.ensures.path)
