use Rattle.el_ledger_tests.proofs.Named.{fits}
use Rattle.el_ledger_tests.proofs.laid.answer.Goals as goal

pub go-requires-clause-fits : goal.go-requires-clause-fits
go-requires-clause-fits g c chain stands =
    fits c.in_ok-plan.plan chain c.args.back c.in_ok-before.before c.in_ok-plan.ensures.back
    (c.in_ok-before.ensures.named chain stands) c.in_ok-plan.ensures.linked
