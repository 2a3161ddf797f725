use Rattle.std.proofs.Common.{◌≡◌, ◌∙◌, ◌≤◌, ◌+◌, [], Option, Some, option_copied, take, get_or, pos, sym, ap, subst, arith}
use Rattle.std.proofs.lemmas.List.Sums.{sum_by_more_le}
use Rattle.el_mempool.specs.declared.entry.PoolEntry.{PoolEntry}
use Rattle.el_mempool.specs.declared.held.KeptTx.{KeptTx}
use Rattle.el_view.specs.within.Sums.{given_at, taken_at, given_in, taken_in, kept_of, given_by, taken_by}
use Rattle.el_view.proofs.Tallied.{one_is_wide, on_any}
use Rattle.el_view.proofs.sums.sums_of.Goals as goal

pub returns-in_err-sums-clause-wide : goal.returns-in_err-sums-clause-wide
returns-in_err-sums-clause-wide c = λ chain kept stands.
    let l = c.loop-entry in
    let s = c.args.script_hash.now.0 in
    let xs = c.args.entries.now in
    let none : PoolEntry = record { txid = record { 0 = [] }; flag = pos 0; fee = 0 } in
    let here : kept_of chain kept (get_or xs l.entry-index none) ≡ Some c.in-Some.kept.now =
    sym (c.find.ensures chain kept stands) ∙ ap option_copied c.in-Some.is in
    let Given : Option KeptTx → Type 0 = λ k. given_by chain kept s (take l.entry-index xs) + given_in s k ≤ given_by chain kept s xs in
    let Taken : Option KeptTx → Type 0 = λ k. taken_by chain kept s (take l.entry-index xs) + taken_in s k ≤ taken_by chain kept s xs in
    let given = subst Given here
    (sum_by_more_le (λ (e : PoolEntry). given_in s (kept_of chain kept e)) xs l.entry-index none (omega arith)) in
    let taken = subst Taken here
    (sum_by_more_le (λ (e : PoolEntry). taken_in s (kept_of chain kept e)) xs l.entry-index none (omega arith)) in
    let out = c.in-Some.kept.now in
    let more_given : l.sums.given + given_at s out.outputs ≤ given_by chain kept s xs =
    omega (arith, l.invariant.given chain kept stands, given) in
    let more_taken : l.sums.taken + taken_at s out.inputs ≤ taken_by chain kept s xs =
    omega (arith, l.invariant.taken chain kept stands, taken) in
    on_any c.from_residual.result (one_is_wide l.sums.given l.sums.taken (given_at s out.outputs) (taken_at s out.inputs)
    (given_by chain kept s xs) (taken_by chain kept s xs) c.in_err-sums.ensures.wide more_given more_taken)
