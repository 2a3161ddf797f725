use Rattle.std.proofs.Common.{◌≡◌, ℕ, List, ap, ◌∙◌, refl, arith}
use Rattle.el_base.specs.declared.hash.Hash32.{Hash32}
use Rattle.el_chain.specs.Chains.{Chain}
use Rattle.el_model.proofs.LedgerMoves.{asked_none, asked_on}
use Rattle.el_sessions.specs.Sessions.{held_among}
use Rattle.el_view.specs.Rows.{history_rows}
use Rattle.el_subs.specs.Told.{status}
use Rattle.el_subs.proofs.News.{held_told, held_cost, goes_on, told_all, rows_on, distinct_touched}
use Rattle.el_subs.proofs.telling.tell.Goals as goal

-- what a script hash costs
abbrev cost_at : Chain → ℕ → Hash32 → ℕ
cost_at chain buckets x = history_rows chain buckets x.0

pub held_among-requires : goal.held_among-requires
held_among-requires g c = distinct_touched c.list.result.now (rw c.list.ensures.same c.list.ensures.once)

pub loop-s-init : goal.loop-s-init
loop-s-init g c =
    let d = g.G.Ledger in
    let items = c.deref-s-items.result.now in
    let are : items ≡ held_among c.args.touched.now c.args.subs.now = c.deref-s-items.ensures.value ∙ c.in_ok-held.ensures.held ∙ ap (λ (l : List Hash32). held_among l c.args.subs.now) c.list.ensures.same in
    record {
      keys = refl;
      live = c.requires.live;
      quiet = asked_none d c.args.ledger.now;
      so_far = λ chain kept stood stands others.
          let h = held_told (status chain kept) c.args.touched.now c.args.subs.now c.in_ok-held.ensures.once others in
          rw (c.new-found.ensures.items, are) (h.1, h.0);
      rows = λ chain stood.
          let e = held_cost (cost_at chain (d.buckets c.args.ledger.now)) c.args.touched.now c.args.subs.now in
          rw are (omega (arith, e));
      still = refl;
    }

pub loop-s-preserved : goal.loop-s-preserved
loop-s-preserved g c =
    let d = g.G.Ledger in
    let i = c.loop-s.invariant in
    let items = c.deref-s-items.result.now in
    let are : items ≡ held_among c.args.touched.now c.args.subs.now = c.deref-s-items.ensures.value ∙ c.in_ok-held.ensures.held ∙ ap (λ (l : List Hash32). held_among l c.args.subs.now) c.list.ensures.same in
    record {
      keys = c.tell_one.ensures.keys ∙ i.keys;
      live = c.tell_one.ensures.quiet.stays.still_live i.live;
      quiet = asked_on d c.args.ledger.now c.loop-s.ledger c.tell_one.new.ledger i.quiet c.tell_one.ensures.quiet;
      so_far = λ chain kept stood stands others.
          goes_on (status chain kept) items c.loop-s.s-index _ c.loop-s.found.items c.tell_one.new.found.items c.loop-s.subs c.tell_one.new.subs _ _ c.loop-s-test.true
          (i.so_far chain kept stood stands others)
          (c.in_ok-tell_one.ensures.told chain kept (i.quiet.stays.still_stands chain stood) stands);
      rows = λ chain stood.
          rows_on (cost_at chain (d.buckets c.args.ledger.now)) c.args.touched.now c.args.subs.now items c.loop-s.s-index _ (d.reads c.loop-s.ledger) (d.reads c.tell_one.new.ledger) _ are c.loop-s-test.true
          (rw i.quiet.stays.same_buckets at (c.tell_one.ensures.rows chain (i.quiet.stays.still_stands chain stood))) (i.rows chain stood);
      still = c.in_ok-tell_one.ensures.cause.uncounted ∙ i.still;
    }

pub returns-in_err-tell_one-clause-rows : goal.returns-in_err-tell_one-clause-rows
returns-in_err-tell_one-clause-rows g c = λ chain stood.
    let d = g.G.Ledger in
    let i = c.loop-s.invariant in
    let items = c.deref-s-items.result.now in
    let are : items ≡ held_among c.args.touched.now c.args.subs.now = c.deref-s-items.ensures.value ∙ c.in_ok-held.ensures.held ∙ ap (λ (l : List Hash32). held_among l c.args.subs.now) c.list.ensures.same in
    let step = rows_on (cost_at chain (d.buckets c.args.ledger.now)) c.args.touched.now c.args.subs.now items c.loop-s.s-index _ (d.reads c.loop-s.ledger) (d.reads c.tell_one.new.ledger) _ are c.loop-s-test.true
    (rw i.quiet.stays.same_buckets at (c.tell_one.ensures.rows chain (i.quiet.stays.still_stands chain stood))) (i.rows chain stood) in
    omega (arith, step)

pub returns-clause-told : goal.returns-clause-told
returns-clause-told g c = λ chain kept stood stands others.
    (told_all (status chain kept) c.deref-s-items.result.now c.loop-s.s-index c.loop-s.found.items c.loop-s.subs _ _ c.loop-s-test.false
    (c.loop-s.invariant.so_far chain kept stood stands others)).0

pub returns-clause-marked : goal.returns-clause-marked
returns-clause-marked g c = λ chain kept stood stands others.
    (told_all (status chain kept) c.deref-s-items.result.now c.loop-s.s-index c.loop-s.found.items c.loop-s.subs _ _ c.loop-s-test.false
    (c.loop-s.invariant.so_far chain kept stood stands others)).1
