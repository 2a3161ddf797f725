use Rattle.std.proofs.Common.{◌≡◌, ◌≤◌, ◌+◌, ◌-◌, ◌++◌, ℕ, List, length, replicate, take, drop, min, ap, sym, ◌∙◌, arith, length-drop}
use Rattle.std.proofs.lemmas.List.{take_at, length-take-le}
use Rattle.el_recovery.proofs.redoing.read_front.Goals as goal

-- the front of the buffer is what was read
front_read : (file zeros new : List ℕ) (at len : ℕ) → len ≤ length zeros → at + len ≤ length file → new ≡ take (length (take len zeros)) (drop at file)
    → take len (new ++ drop len zeros) ≡ take len (drop at file)
front_read file zeros new at len fits there is =
    let part : length (take len zeros) ≡ len = length-take-le len zeros fits in
    let read : new ≡ take len (drop at file) = is ∙ ap (λ n. take n (drop at file)) part in
    let long : length new ≡ len = ap (λ (b : List ℕ). length b) read ∙ length-take-le len (drop at file) (omega (arith, there, length-drop at file)) in
    take_at new (drop len zeros) len long ∙ read

pub returns-clause-front : goal.returns-clause-front
returns-clause-front g c told enough =
    let zeros : List ℕ = replicate 9 0 in
    let file = g.D.Disk.seen c.args.disk.now c.args.file in
    let len = c.min-len.result in
    let is : len ≡ min 9 (c.args.end - c.args.at) = omega (arith, c.min-len.ensures) in
    let part : length (take len zeros) ≡ len = length-take-le len zeros (omega (arith, is)) in
    let whole = c.in_ok-read_whole.ensures.whole told (omega (arith, is, enough, c.requires, part)) in
    ap (λ n. take n (c.read_whole.new.buf ++ drop len zeros)) (sym is)
    ∙ front_read file zeros c.read_whole.new.buf c.args.at len (omega (arith, is)) (omega (arith, is, enough, c.requires)) whole.1
    ∙ ap (λ n. take n (drop c.args.at file)) is
