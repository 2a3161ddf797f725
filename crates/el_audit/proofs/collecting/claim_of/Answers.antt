use Rattle.std.proofs.Common.{◌∙◌, arith}
use Rattle.el_model.proofs.LedgerMoves.{asked_on}
use Rattle.el_audit.proofs.Asking.{claim_is}
use Rattle.el_audit.proofs.collecting.claim_of.Goals as goal

pub returns-in_err-history-clause-rows : goal.returns-in_err-history-clause-rows
returns-in_err-history-clause-rows g c = λ chain stands.
    let one = c.history.ensures.rows chain stands in
    omega (arith, one)

pub returns-in_err-unspent-clause-quiet : goal.returns-in_err-unspent-clause-quiet
returns-in_err-unspent-clause-quiet g c = asked_on g.G.Ledger _ _ _ c.history.ensures.quiet c.unspent.ensures.quiet

pub returns-in_err-unspent-clause-rows : goal.returns-in_err-unspent-clause-rows
returns-in_err-unspent-clause-rows g c = λ chain stands.
    let first = c.history.ensures.quiet.stays in
    let one = c.history.ensures.rows chain stands in
    let two = rw first.same_buckets at (c.unspent.ensures.rows chain (first.still_stands chain stands)) in
    omega (arith, one, two)

pub returns-in_err-balance-clause-quiet : goal.returns-in_err-balance-clause-quiet
returns-in_err-balance-clause-quiet g c =
    asked_on g.G.Ledger _ _ _ (asked_on g.G.Ledger _ _ _ c.history.ensures.quiet c.unspent.ensures.quiet) c.balance.ensures.quiet

pub returns-in_err-balance-clause-rows : goal.returns-in_err-balance-clause-rows
returns-in_err-balance-clause-rows g c = λ chain stands.
    let first = c.history.ensures.quiet.stays in
    let both = (asked_on g.G.Ledger _ _ _ c.history.ensures.quiet c.unspent.ensures.quiet).stays in
    let one = c.history.ensures.rows chain stands in
    let two = rw first.same_buckets at (c.unspent.ensures.rows chain (first.still_stands chain stands)) in
    let three = rw both.same_buckets at (c.balance.ensures.rows chain (both.still_stands chain stands)) in
    omega (arith, one, two, three)

pub returns-clause-claim : goal.returns-clause-claim
returns-clause-claim g c = λ chain stands.
    let first = c.history.ensures.quiet.stays in
    let both = (asked_on g.G.Ledger _ _ _ c.history.ensures.quiet c.unspent.ensures.quiet).stays in
    claim_is c.args.script _ _ _ _ _ _
    (c.from_vec.ensures ∙ c.in_ok-history.ensures.history chain stands)
    (c.from_vec-2.ensures ∙ c.in_ok-unspent.ensures.unspent chain (first.still_stands chain stands))
    (c.in_ok-balance.ensures.balance chain (both.still_stands chain stands))

pub returns-clause-quiet : goal.returns-clause-quiet
returns-clause-quiet g c =
    asked_on g.G.Ledger _ _ _ (asked_on g.G.Ledger _ _ _ c.history.ensures.quiet c.unspent.ensures.quiet) c.balance.ensures.quiet

pub returns-clause-rows : goal.returns-clause-rows
returns-clause-rows g c = λ chain stands.
    let first = c.history.ensures.quiet.stays in
    let both = (asked_on g.G.Ledger _ _ _ c.history.ensures.quiet c.unspent.ensures.quiet).stays in
    let one = c.history.ensures.rows chain stands in
    let two = rw first.same_buckets at (c.unspent.ensures.rows chain (first.still_stands chain stands)) in
    let three = rw both.same_buckets at (c.balance.ensures.rows chain (both.still_stands chain stands)) in
    omega (arith, one, two, three)
