use Rattle.el_chain.specs.Moves.{StoodAt}
use Rattle.el_audit_run.proofs.Own.{no_difference}
use Rattle.el_audit_run.proofs.laws.audit_of_its_own_blocks_is_the_same.Goals as goal

pub returns : goal.returns
returns g c = λ ledger chain tree before after node_of found is tree_is paths gives finding.
    no_difference (StoodAt g.A.Archive before after) node_of (g.G.Ledger.stands ledger) tree chain found is (g.met.G.Ledger.good ledger chain is) tree_is paths gives
    (rw (g.met.G.Ledger.tip_is ledger chain is) at finding)
