use Rattle.std.proofs.Common.{◌≡◌, ◌+◌, ◌∷◌, ◌++◌, ℕ, List, length, ap, ◌∙◌, arith, rules}
use Rattle.std.proofs.lemmas.Result.{IfOk-weaker}
use Rattle.el_row_formats.specs.Tables.{key}
use Rattle.el_redo.specs.RedoBody.{change_bytes}
use Rattle.el_redo.proofs.BodyLemmas.{change_put, eight_are}
use Rattle.el_redone.proofs.Runs.{aside_more}
use Rattle.el_pages.specs.within.Staging.{written_so_far}
use Rattle.el_pages.proofs.Calls.{few_one, few_on}
use Rattle.el_pages.proofs.staging.put_change.Goals as goal

pub returns-clause-written : goal.returns-clause-written
returns-clause-written g c told =
    let number = c.to_le_bytes.result in
    let long : length number ≡ 8 = search rules in
    let redo = c.args.span.redo in
    let start = written_so_far (g.D.Disk.seen c.args.disk.now redo) c.args.next.at c.args.buffer.now c.args.next.used in
    let mid = written_so_far (g.D.Disk.seen c.put.new.disk redo) c.in_ok-here.here.at c.put.new.buffer c.in_ok-here.here.used in
    IfOk-weaker c.put-2.result
    (λ n. written_so_far (g.D.Disk.seen c.put-2.new.disk redo) n.at c.put-2.new.buffer n.used ≡ mid ++ c.args.row.now)
    (λ n. written_so_far (g.D.Disk.seen c.put-2.new.disk redo) n.at c.put-2.new.buffer n.used ≡ start ++ change_bytes (key c.args.t c.args.i, c.args.row.now))
    (λ n put. change_put (key c.args.t c.args.i) c.args.row.now start mid (written_so_far (g.D.Disk.seen c.put-2.new.disk redo) n.at c.put-2.new.buffer n.used) number c.to_le_bytes.ensures
    (c.in_ok-here.ensures.written told ∙ ap (λ (l : List ℕ). start ++ c.number.result ∷ l) (eight_are number long)
    ∙ ap (λ (n : ℕ). start ++ n ∷ number) c.number.ensures)
    put)
    (c.put-2.ensures.written told)

pub returns-clause-aside : goal.returns-clause-aside
returns-clause-aside g c told =
    aside_more g.D.Disk (λ d t u i le left. g.met.D.Disk.earlier d t u i told le left) c.args.span.first c.args.span.redo c.args.disk.now c.put.new.disk c.put-2.new.disk
    (c.put.ensures.aside told) (c.put-2.ensures.aside told)

pub returns-in_err-here-clause-calls : goal.returns-in_err-here-clause-calls
returns-in_err-here-clause-calls g c = few_one (length c.args.buffer.now) (g.D.Disk.calls c.args.disk.now) (g.D.Disk.calls c.put.new.disk) (c.args.next.used + (9 + length c.args.row.now)) c.put.ensures.calls

pub returns-clause-calls : goal.returns-clause-calls
returns-clause-calls g c =
    few_on (length c.args.buffer.now) (length c.put.new.buffer) (g.D.Disk.calls c.args.disk.now) (g.D.Disk.calls c.put.new.disk) (g.D.Disk.calls c.put-2.new.disk) c.args.next c.in_ok-here.here
    9 (length c.args.row.now) (9 + length c.args.row.now) c.put.ensures.same (omega arith) c.in_ok-here.ensures.paid
    (few_one (length c.put.new.buffer) (g.D.Disk.calls c.put.new.disk) (g.D.Disk.calls c.put-2.new.disk) (c.in_ok-here.here.used + length c.args.row.now) c.put-2.ensures.calls)
