use Rattle.std.proofs.Common.{◌≡◌, ◌≤◌, ◌+◌, ◌*◌, ◌++◌, ◌∷◌, ℕ, List, Some, Option, length, drop, take, unwrap_or, ap, sym, ◌∙◌, arith, append_assoc, length-append, length-drop}
use Rattle.std.proofs.lemmas.List.{take_at, drop-drop, length-take-le}
use Rattle.std.specs.Int.{w64, to_le_bytes}
use Rattle.el_outside.specs.Disk.{Image}
use Rattle.el_row_formats.specs.declared.table.Table.{Table}
use Rattle.el_row_formats.specs.Tables.{key, number_of}
use Rattle.el_redo.specs.RedoBody.{change_bytes}
use Rattle.el_redo.proofs.BodyLemmas.{length-change}
use Rattle.el_pages.specs.Layouts.{redo_of, size_in}
use Rattle.el_recovery.proofs.redoing.next_change.Goals as goal

-- a change begins with its key
change_front : (t : Table) (i : ℕ) (bytes rest : List ℕ) → change_bytes (key t i, bytes) ++ rest ≡ number_of t ∷ (to_le_bytes w64 i ++ (bytes ++ rest))
unfolding change_bytes
change_front t i bytes rest = ap (λ (l : List ℕ). number_of t ∷ l) (append_assoc (to_le_bytes w64 i) bytes rest)

abbrev pair_of : Table → ℕ → Option (Table × ℕ)
pair_of t i = Some (t, i)

first_of_two : (t u : Table) (i j : ℕ) → pair_of t i ≡ pair_of u j → t ≡ u
first_of_two t u i j same = ap (λ (o : Option (Table × ℕ)). (unwrap_or o (t, i)).0) same

second_of_two : (t u : Table) (i j : ℕ) → pair_of t i ≡ pair_of u j → i ≡ j
second_of_two t u i j same = ap (λ (o : Option (Table × ℕ)). (unwrap_or o (t, i)).1) same

-- where the row stands
row_there : (file : List ℕ) (at : ℕ) (t : Table) (i : ℕ) (bytes rest : List ℕ) → drop at file ≡ change_bytes (key t i, bytes) ++ rest → drop (at + 9) file ≡ bytes ++ rest
row_there file at t i bytes rest is = sym (drop-drop 9 at file) ∙ ap (λ (l : List ℕ). drop 9 l) (is ∙ change_front t i bytes rest)

long_there : (file : List ℕ) (at : ℕ) (t : Table) (i : ℕ) (bytes rest : List ℕ) → drop at file ≡ change_bytes (key t i, bytes) ++ rest → at + 9 + length bytes ≤ length file
long_there file at t i bytes rest is = omega (arith, ap (λ (l : List ℕ). length l) is, length-drop at file, length-append (change_bytes (key t i, bytes)) rest, length-change (key t i, bytes))

pub returns-in_default-clause-next : goal.returns-in_default-clause-next
returns-in_default-clause-next g c told t i bytes rest small sized low is =
    let k = c.in_ok-t.ensures.key told t i (bytes ++ rest) small (ap (λ f. drop c.args.at (g.D.Disk.seen c.args.disk.now f)) c.span-redo.ensures.redo ∙ is ∙ change_front t i bytes rest) in
    let none = c.in_default.is in
    absurd (cc (k, none))

pub returns-then-not-is_low-clause-next : goal.returns-then-not-is_low-clause-next
returns-then-not-is_low-clause-next g c told t i bytes rest small sized low is =
    let l = c.args.layout.now in
    let k = c.in_ok-t.ensures.key told t i (bytes ++ rest) small (ap (λ f. drop c.args.at (g.D.Disk.seen c.args.disk.now f)) c.span-redo.ensures.redo ∙ is ∙ change_front t i bytes rest) in
    let same : pair_of c.in-Some.t c.in-Some.i ≡ pair_of t i = cc (k, c.in-Some.is) in
    let times : c.in-Some.i * c.size-size.result ≡ i * size_in l t =
    ap (λ n. n * c.size-size.result) (second_of_two c.in-Some.t t c.in-Some.i i same) ∙ ap (λ s. i * s) (c.size-size.ensures ∙ ap (size_in l) (first_of_two c.in-Some.t t c.in-Some.i i same)) in
    let is_true = c.is_low.ensures.1 (omega (arith, times, low)) in
    let is_false = c.if-not-is_low.true in
    absurd (cc (is_true, is_false))

pub returns-then-not-branch-clause-next : goal.returns-then-not-branch-clause-next
returns-then-not-branch-clause-next g c told t i bytes rest small sized low is =
    let l = c.args.layout.now in
    let k = c.in_ok-t.ensures.key told t i (bytes ++ rest) small (ap (λ f. drop c.args.at (g.D.Disk.seen c.args.disk.now f)) c.span-redo.ensures.redo ∙ is ∙ change_front t i bytes rest) in
    let same : pair_of c.in-Some.t c.in-Some.i ≡ pair_of t i = cc (k, c.in-Some.is) in
    let size : c.size-size.result ≡ size_in l t = c.size-size.ensures ∙ ap (size_in l) (first_of_two c.in-Some.t t c.in-Some.i i same) in
    let file : g.D.Disk.seen c.read_key.new.disk c.span-redo.result.redo ≡ g.D.Disk.seen c.args.disk.now (redo_of l) =
    ap (λ (s : Image). s c.span-redo.result.redo) (c.read_key.ensures.seen told) ∙ ap (λ f. g.D.Disk.seen c.args.disk.now f) c.span-redo.ensures.redo in
    let part : length (take c.size-size.result c.args.row.now) ≡ c.size-size.result = length-take-le c.size-size.result c.args.row.now (omega (arith, size, c.requires.narrow t)) in
    let whole = c.in_ok-read_whole.ensures.whole told (omega (arith, part, size, sized, ap (λ (b : List ℕ). length b) file, long_there (g.D.Disk.seen c.args.disk.now (redo_of l)) c.args.at t i bytes rest is)) in
    let is_true = whole.0 in
    let is_false = c.if-not-branch.true in
    absurd (cc (is_true, is_false))

pub returns-clause-next : goal.returns-clause-next
returns-clause-next g c told t i bytes rest small sized low is =
    let l = c.args.layout.now in
    let k = c.in_ok-t.ensures.key told t i (bytes ++ rest) small (ap (λ f. drop c.args.at (g.D.Disk.seen c.args.disk.now f)) c.span-redo.ensures.redo ∙ is ∙ change_front t i bytes rest) in
    let same : pair_of c.in-Some.t c.in-Some.i ≡ pair_of t i = cc (k, c.in-Some.is) in
    let size : c.size-size.result ≡ size_in l t = c.size-size.ensures ∙ ap (size_in l) (first_of_two c.in-Some.t t c.in-Some.i i same) in
    let file : g.D.Disk.seen c.read_key.new.disk c.span-redo.result.redo ≡ g.D.Disk.seen c.args.disk.now (redo_of l) =
    ap (λ (s : Image). s c.span-redo.result.redo) (c.read_key.ensures.seen told) ∙ ap (λ f. g.D.Disk.seen c.args.disk.now f) c.span-redo.ensures.redo in
    let part : length (take c.size-size.result c.args.row.now) ≡ c.size-size.result = length-take-le c.size-size.result c.args.row.now (omega (arith, size, c.requires.narrow t)) in
    let whole = c.in_ok-read_whole.ensures.whole told (omega (arith, part, size, sized, ap (λ (b : List ℕ). length b) file, long_there (g.D.Disk.seen c.args.disk.now (redo_of l)) c.args.at t i bytes rest is)) in
    let long = c.read_whole.ensures.long in (
      same,
      take_at c.read_whole.new.buf (drop c.size-size.result c.args.row.now) (size_in l t) (omega (arith, long, part, size))
          ∙ whole.1
          ∙ ap (λ (b : List ℕ). take (length (take c.size-size.result c.args.row.now)) (drop (c.args.at + 9) b)) file
          ∙ ap (λ (b : List ℕ). take (length (take c.size-size.result c.args.row.now)) b) (row_there (g.D.Disk.seen c.args.disk.now (redo_of l)) c.args.at t i bytes rest is)
          ∙ take_at bytes rest (length (take c.size-size.result c.args.row.now)) (omega (arith, part, size, sized)),
    )
