use Rattle.std.proofs.Common.{◌+◌, ◌++◌, ◌∷◌, ℕ, List, [], length, refl, ap, ◌∙◌, arith}
use Rattle.el_redo.specs.RedoBody.{changes_bytes}
use Rattle.el_redone.proofs.Runs.{aside_more}
use Rattle.el_pages.proofs.Puts.{body_put}
use Rattle.el_pages.proofs.Calls.{start, paid_on, paid_three, few_on, few_whole, last_write}
use Rattle.el_pages.proofs.staging.put_body.Goals as goal

pub returns-in_err-here-clause-aside : goal.returns-in_err-here-clause-aside
returns-in_err-here-clause-aside g c told = c.put.ensures.aside told

pub returns-in_err-here-2-clause-aside : goal.returns-in_err-here-2-clause-aside
returns-in_err-here-2-clause-aside g c told = aside_more g.D.Disk (λ d t u i le left. g.met.D.Disk.earlier d t u i told le left) c.args.span.first c.args.span.redo c.args.disk.now c.put.new.disk c.put-2.new.disk
    (c.put.ensures.aside told)
    (c.put-2.ensures.aside told)

pub returns-in_err-here-3-clause-aside : goal.returns-in_err-here-3-clause-aside
returns-in_err-here-3-clause-aside g c told = aside_more g.D.Disk (λ d t u i le left. g.met.D.Disk.earlier d t u i told le left) c.args.span.first c.args.span.redo c.args.disk.now c.put-2.new.disk c.put_changes.new.disk
    (aside_more g.D.Disk (λ d t u i le left. g.met.D.Disk.earlier d t u i told le left) c.args.span.first c.args.span.redo c.args.disk.now c.put.new.disk c.put-2.new.disk
    (c.put.ensures.aside told)
    (c.put-2.ensures.aside told))
    (c.put_changes.ensures.aside told)

pub returns-in_err-end-clause-aside : goal.returns-in_err-end-clause-aside
returns-in_err-end-clause-aside g c told = aside_more g.D.Disk (λ d t u i le left. g.met.D.Disk.earlier d t u i told le left) c.args.span.first c.args.span.redo c.args.disk.now c.put_changes.new.disk c.flush.new.disk
    (aside_more g.D.Disk (λ d t u i le left. g.met.D.Disk.earlier d t u i told le left) c.args.span.first c.args.span.redo c.args.disk.now c.put-2.new.disk c.put_changes.new.disk
    (aside_more g.D.Disk (λ d t u i le left. g.met.D.Disk.earlier d t u i told le left) c.args.span.first c.args.span.redo c.args.disk.now c.put.new.disk c.put-2.new.disk
    (c.put.ensures.aside told)
    (c.put-2.ensures.aside told))
    (c.put_changes.ensures.aside told))
    (c.flush.ensures.aside told)

pub returns-clause-aside : goal.returns-clause-aside
returns-clause-aside g c told = aside_more g.D.Disk (λ d t u i le left. g.met.D.Disk.earlier d t u i told le left) c.args.span.first c.args.span.redo c.args.disk.now c.put_changes.new.disk c.flush.new.disk
    (aside_more g.D.Disk (λ d t u i le left. g.met.D.Disk.earlier d t u i told le left) c.args.span.first c.args.span.redo c.args.disk.now c.put-2.new.disk c.put_changes.new.disk
    (aside_more g.D.Disk (λ d t u i le left. g.met.D.Disk.earlier d t u i told le left) c.args.span.first c.args.span.redo c.args.disk.now c.put.new.disk c.put-2.new.disk
    (c.put.ensures.aside told)
    (c.put-2.ensures.aside told))
    (c.put_changes.ensures.aside told))
    (c.flush.ensures.aside told)

pub returns-clause-written : goal.returns-clause-written
returns-clause-written g c told =
    let meta = c.args.meta.now in
    let ch = changes_bytes c.args.sealed.now.changes in
    (body_put (g.D.Disk.seen c.flush.new.disk c.args.span.redo) c.in_ok-end.end.at c.saturating_sub.result (0 ∷ 0 ∷ 0 ∷ 0 ∷ 0 ∷ 0 ∷ 0 ∷ 0 ∷ []) meta ch
    c.in_ok-end.ensures.ready.past_gate (c.in_ok-end.ensures.ready.reach told) refl
    (c.in_ok-end.ensures.written told ∙ c.in_ok-here-3.ensures.written told ∙ ap (λ (l : List ℕ). l ++ ch) (c.in_ok-here-2.ensures.written told ∙ ap (λ (l : List ℕ). l ++ meta) (c.in_ok-here.ensures.written told)))
    c.saturating_sub.ensures).1

pub returns-clause-reach : goal.returns-clause-reach
returns-clause-reach g c told =
    let meta = c.args.meta.now in
    let ch = changes_bytes c.args.sealed.now.changes in
    (body_put (g.D.Disk.seen c.flush.new.disk c.args.span.redo) c.in_ok-end.end.at c.saturating_sub.result (0 ∷ 0 ∷ 0 ∷ 0 ∷ 0 ∷ 0 ∷ 0 ∷ 0 ∷ []) meta ch
    c.in_ok-end.ensures.ready.past_gate (c.in_ok-end.ensures.ready.reach told) refl
    (c.in_ok-end.ensures.written told ∙ c.in_ok-here-3.ensures.written told ∙ ap (λ (l : List ℕ). l ++ ch) (c.in_ok-here-2.ensures.written told ∙ ap (λ (l : List ℕ). l ++ meta) (c.in_ok-here.ensures.written told)))
    c.saturating_sub.ensures).0

-- ---- the calls of the disk

pub returns-in_err-here-3-clause-calls : goal.returns-in_err-here-3-clause-calls
returns-in_err-here-3-clause-calls g c =
    let calls = g.D.Disk.calls in
    let size = length c.args.buffer.now in
    let meta = length c.args.meta.now in
    let ch = length (changes_bytes c.args.sealed.now.changes) in
    let two = paid_on size (length c.put.new.buffer) (calls c.args.disk.now) (calls c.put.new.disk) (calls c.put-2.new.disk) start c.in_ok-here.here c.in_ok-here-2.here 8 meta (8 + meta) c.put.ensures.same refl c.in_ok-here.ensures.paid c.in_ok-here-2.ensures.paid in
    few_whole size (calls c.args.disk.now) (calls c.put_changes.new.disk) (8 + (meta + ch)) c.requires.big
    (few_on size (length c.put-2.new.buffer) (calls c.args.disk.now) (calls c.put-2.new.disk) (calls c.put_changes.new.disk) start c.in_ok-here-2.here (8 + meta) ch (8 + (meta + ch))
    (c.put-2.ensures.same ∙ c.put.ensures.same) (omega arith) two c.put_changes.ensures.calls)

pub returns-in_err-end-clause-calls : goal.returns-in_err-end-clause-calls
returns-in_err-end-clause-calls g c =
    let calls = g.D.Disk.calls in
    let size = length c.args.buffer.now in
    let meta = length c.args.meta.now in
    let ch = length (changes_bytes c.args.sealed.now.changes) in
    let all = paid_three size (length c.put.new.buffer) (length c.put-2.new.buffer) (calls c.args.disk.now) (calls c.put.new.disk) (calls c.put-2.new.disk) (calls c.put_changes.new.disk) c.in_ok-here.here c.in_ok-here-2.here c.in_ok-here-3.here meta ch
    c.put.ensures.same (c.put-2.ensures.same ∙ c.put.ensures.same) c.in_ok-here.ensures.paid c.in_ok-here-2.ensures.paid c.in_ok-here-3.ensures.paid in
    last_write size (calls c.args.disk.now) (calls c.put_changes.new.disk) (calls c.flush.new.disk) c.in_ok-here-3.here (8 + (meta + ch)) c.requires.big all c.flush.ensures.called

pub returns-clause-calls : goal.returns-clause-calls
returns-clause-calls g c =
    let calls = g.D.Disk.calls in
    let size = length c.args.buffer.now in
    let meta = length c.args.meta.now in
    let ch = length (changes_bytes c.args.sealed.now.changes) in
    let all = paid_three size (length c.put.new.buffer) (length c.put-2.new.buffer) (calls c.args.disk.now) (calls c.put.new.disk) (calls c.put-2.new.disk) (calls c.put_changes.new.disk) c.in_ok-here.here c.in_ok-here-2.here c.in_ok-here-3.here meta ch
    c.put.ensures.same (c.put-2.ensures.same ∙ c.put.ensures.same) c.in_ok-here.ensures.paid c.in_ok-here-2.ensures.paid c.in_ok-here-3.ensures.paid in
    last_write size (calls c.args.disk.now) (calls c.put_changes.new.disk) (calls c.flush.new.disk) c.in_ok-here-3.here (8 + (meta + ch)) c.requires.big all c.flush.ensures.called
