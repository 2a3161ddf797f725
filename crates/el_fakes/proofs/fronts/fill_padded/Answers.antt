use Rattle.std.proofs.Common.{◌≡◌, ◌≤◌, ◌-◌, ◌++◌, ◌∙◌, ℕ, List, length, take, min, ap, arith, rules, replicate}
use Rattle.std.proofs.lemmas.Grind.{common_steps}
use borrow.Rule.Slice.PartMut.{mid_len, post_of}
use Rattle.el_fakes.proofs.Padded.{filled_padded}
use Rattle.el_fakes.proofs.fronts.fill_padded.Goals as goal

pub returns-clause-filled : goal.returns-clause-filled
returns-clause-filled c =
    let given = c.fill-written.result in
    let n = c.min-count.result in
    let buffer = c.fill-written.new.buf in
    let same : length buffer ≡ length c.args.buf.now = c.fill-written.auto.buf in
    let count : n ≡ min (length buffer) (c.args.size - c.args.at) = first_of (search rules, omega (arith, c.min-count.ensures, c.saturating_sub.ensures), grind (arith, common_steps)) in
    let g : given ≡ min (length buffer) (length c.args.bytes.now - c.args.at) = omega (arith, c.fill-written.ensures.count, same) in
    let within : n ≤ length buffer = omega (arith, count) in
    let zeros : c.fill.new.self ≡ replicate {A = ℕ} (n - given) 0 = c.fill.ensures.after (λ y e. cc) ∙ ap (λ (k : ℕ). replicate {A = ℕ} k 0) (mid_len given n buffer within) in
    filled_padded c.args.bytes.now buffer _ (post_of given (n - given) buffer) c.args.size c.args.at given n c.requires g count c.fill-written.ensures.filled
    (ap (λ (z : List ℕ). take given buffer ++ (z ++ post_of given (n - given) buffer)) zeros)
