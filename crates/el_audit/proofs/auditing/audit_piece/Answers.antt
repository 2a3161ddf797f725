use Rattle.el_chain.specs.Coins.{coins}
use Rattle.el_audit.specs.within.Lists.{is_in_set}
use Rattle.el_audit.proofs.Pieces.{given}
use Rattle.el_audit.proofs.auditing.audit_piece.Goals as goal

pub report_on-requires : goal.report_on-requires
report_on-requires c = (
  c.args.chain.now,
  given c.args.chain.now c.args.claims.now (is_in_set c.in_ok-names.names) _ _ c.requires c.in_ok-names.ensures c.in_ok-own.ensures.lists
      (c.in_ok-coins.ensures (coins c.args.chain.now) c.in_ok-own.ensures.own),
)

pub returns : goal.returns
returns c =
    c.report_on.ensures c.args.chain.now
    (given c.args.chain.now c.args.claims.now (is_in_set c.in_ok-names.names) _ _ c.requires c.in_ok-names.ensures c.in_ok-own.ensures.lists
    (c.in_ok-coins.ensures (coins c.args.chain.now) c.in_ok-own.ensures.own))
