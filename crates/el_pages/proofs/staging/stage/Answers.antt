use Rattle.std.proofs.Common.{◌≡◌, ◌++◌, ℕ, List, ap, ◌∙◌}
use Rattle.std.proofs.lemmas.Result.{on_ok_weaker}
use Rattle.el_outside.specs.Disk.{Image, over}
use Rattle.el_redo.specs.RedoBody.{changes_bytes}
use Rattle.el_redone.proofs.Runs.{aside_more, aside_sync}
use Rattle.el_pages.proofs.Puts.{length_put}
use Rattle.el_pages.proofs.staging.stage.Goals as goal

pub returns-in_err-write_behind-clause-aside : goal.returns-in_err-write_behind-clause-aside
returns-in_err-write_behind-clause-aside g c told = aside_more g.D.Disk (λ d t u i le left. g.met.D.Disk.earlier d t u i told le left) c.args.span.first c.args.span.redo c.args.disk.now c.put_body.new.disk c.write_behind.new.disk
    (c.put_body.ensures.aside told)
    (c.write_behind.ensures.aside told)

pub returns-clause-aside : goal.returns-clause-aside
returns-clause-aside g c told = aside_more g.D.Disk (λ d t u i le left. g.met.D.Disk.earlier d t u i told le left) c.args.span.first c.args.span.redo c.args.disk.now c.write_behind.new.disk c.sync.new.self
    (aside_more g.D.Disk (λ d t u i le left. g.met.D.Disk.earlier d t u i told le left) c.args.span.first c.args.span.redo c.args.disk.now c.put_body.new.disk c.write_behind.new.disk
    (c.put_body.ensures.aside told)
    (c.write_behind.ensures.aside told))
    (aside_sync g.D.Disk c.args.span.first c.args.span.redo c.write_behind.new.disk c.sync.new.self (c.sync.ensures.time told) (c.sync.ensures.crash told) (c.sync.ensures.others told))

pub returns-clause-written : goal.returns-clause-written
returns-clause-written g c told =
    let body = c.in_ok-len.ensures.written told in
    let put = length_put (g.D.Disk.seen c.put_body.new.disk c.args.span.redo) (g.D.Disk.seen c.write_behind.new.disk c.args.span.redo) body.0 (c.args.meta.now ++ changes_bytes c.args.sealed.now.changes) c.in_ok-len.len
    (c.in_ok-len.ensures.reach told) body.1 body.2
    (c.in_ok-write_behind.ensures.written told ∙ ap (λ (b : List ℕ). over (g.D.Disk.seen c.put_body.new.disk c.args.span.redo) 1 b) c.to_le_bytes.ensures) in
    on_ok_weaker c.sync.result
    (λ (same : g.D.Disk.seen c.sync.new.self ≡ g.D.Disk.seen c.write_behind.new.disk). (put.0, put.1, ap (λ (s : Image). s c.args.span.redo) same ∙ put.2))
    (c.sync.ensures.seen told)
