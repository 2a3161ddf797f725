use Rattle.std.proofs.Common.{◌≤◌, ◌+◌, ℕ, List, length, take, ap, ◌∙◌, arith, length-drop}
use Rattle.el_recovery.proofs.redoing.read_key.Goals as goal

pub returns-then-not-branch-clause-key : goal.returns-then-not-branch-clause-key
returns-then-not-branch-clause-key g c told t i rest small is =
    let file = g.D.Disk.seen c.args.disk.now c.args.file in
    let within : c.args.at + 9 ≤ length file = omega (arith, ap (λ (l : List ℕ). length l) is, length-drop c.args.at file) in
    let whole = c.in_ok-read_whole.ensures.whole told within in
    let is_true = whole.0 in
    let is_false = c.if-not-branch.true in
    absurd (cc (is_true, is_false))

pub returns-clause-key : goal.returns-clause-key
returns-clause-key g c told t i rest small is =
    let file = g.D.Disk.seen c.args.disk.now c.args.file in
    let within : c.args.at + 9 ≤ length file = omega (arith, ap (λ (l : List ℕ). length l) is, length-drop c.args.at file) in
    let whole = c.in_ok-read_whole.ensures.whole told within in
    c.key_in.ensures t i small (whole.1 ∙ ap (λ (l : List ℕ). take 9 l) is)
