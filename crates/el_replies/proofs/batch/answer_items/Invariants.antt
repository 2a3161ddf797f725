use Rattle.std.proofs.Common.{◌≤◌, length}
use Rattle.el_outside.specs.Files.{AllGrow}
use Rattle.el_side.specs.Beneath.{beneath, ghosts}
use Rattle.el_side.specs.Caching.{CachesStand, CachesStay}
use Rattle.el_side.specs.NodeSteps.{IsSettled}
use Rattle.el_side.specs.Side.{Side}
use Rattle.el_chain.specs.Chains.{Chain}
use Rattle.el_model.specs.LedgerCalls.{Asked}
use Rattle.el_sessions.specs.Watching.{Follows}
use Rattle.el_replies.specs.Batches.{Completes, CutCompletes}
use Rattle.el_replies.specs.Losses.{AnswersOf}
use Rattle.el_replies.specs.Spending.{Loses, asked_ghosts, asking}
use Rattle.el_replies.specs.within.Gathered.{replies_of, HasEnd}
use Rattle.el_replies.proofs.Reading.{ReadSoFar}
use Rattle.el_replies.proofs.batch.answer_items.Given as goal

abbrev pub decreases-loop-item : goal.decreases-loop-item
decreases-loop-item g l = length l.elements

abbrev pub invariant-loop-item : goal.invariant-loop-item
invariant-loop-item g l =
    let d = g.G.Ledger in
    let a = g.A.Archive in
    let y = g.Y.Relay in
    record {
      quiet : Asked d
          l.initial.ledger l.ledger;
      grows : a.tells → AllGrow (a.bytes l.initial.archive) (a.bytes l.archive);
      watched : Follows l.initial.session.subs l.session.subs l.initial.watched l.watched;
      disk_more : d.faults l.initial.ledger ≤ d.faults l.ledger;
      end : HasEnd l.replies;
      caches : CachesStay d l.initial.ledger l.initial.caches l.caches;
      rows : (chain : Chain) → d.stands l.initial.ledger chain → CachesStand l.initial.caches chain chain
          → ReadSoFar chain (d.buckets l.initial.ledger) l.elements l.initial.elements (d.reads l.initial.ledger) (d.reads l.ledger);
      archive_more : a.faults l.initial.archive ≤ a.faults l.archive;
      relay_more : y.faults l.initial.relay ≤ y.faults l.relay;
      so_far : (side : Side)
          → IsSettled (ghosts d a) (beneath l.initial.ledger l.initial.archive) l.holdings l.initial.caches side → Loses (asked_ghosts (ghosts d a) y)
          (asking l.initial.ledger l.initial.archive l.initial.relay l.initial.desk) (asking l.ledger l.archive l.relay l.desk)
          (λ before after.
          let answers = AnswersOf a.tells side in
          Completes answers l.elements after l.session (replies_of l.replies) l.initial.elements before
          l.initial.session (replies_of l.initial.replies)
          × CutCompletes answers l.elements after l.session (replies_of l.replies) l.initial.elements before
          l.initial.session (replies_of l.initial.replies));
    }
