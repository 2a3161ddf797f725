use Rattle.std.proofs.Common.{refl, ap, ◌∙◌}
use Rattle.el_core.specs.State.{State}
use Rattle.el_core.proofs.Arriving.{opened_taken, closed_taken, nothing_taken, heard_taken, node_taken}
use Rattle.el_core.proofs.Numbers.{all_below, up_to_later, up_to_gone, up_to_opened, up_to_heard}
use Rattle.el_core.proofs.server.Server.take.Goals as goal

pub returns-in_ok-open-in-Opened-clause-taken : goal.returns-in_ok-open-in-Opened-clause-taken
returns-in_ok-open-in-Opened-clause-taken g c = λ world stood.
    rw c.in-Opened.is (opened_taken g.G.Ledger.stands c.args.self.now c.open.new.self world c.in-Opened.p c.requires.idle (let new = rw c.in-Opened.is at c.requires.new in all_below new.0 c.in-Opened.p c.args.self.now.clients new.2 new.1) stood c.in_ok-open-in-Opened.ensures.opens)

pub returns-in_ok-feed-in-Bytes-clause-taken : goal.returns-in_ok-feed-in-Bytes-clause-taken
returns-in_ok-feed-in-Bytes-clause-taken g c = λ world stood. rw c.in-Bytes.is
    (node_taken g.G.Ledger.stands c.args.self.now _ world c.in-Bytes.p c.args.bytes.now c.if-p-eq0.true c.requires.idle stood
    (ap (λ (s : State g.row.G.Denot). record s { node = c.feed.new.self.state }) c.self.view_is)
    (c.feed.ensures.limit ∙ ap (λ (s : State g.row.G.Denot). s.node.limit) c.self.view_is)
    (rw (← c.self.view_is) c.in_ok-feed-in-Bytes.ensures.at))

pub returns-else-p-eq0-clause-taken : goal.returns-else-p-eq0-clause-taken
returns-else-p-eq0-clause-taken g c = λ world stood. rw c.in-Bytes.is
    (heard_taken g.G.Ledger.stands c.args.self.now c.hear.new.self world c.in-Bytes.p c.args.bytes.now c.if-p-eq0.false c.requires.idle stood c.hear.ensures)

pub returns-in-Closed-clause-taken : goal.returns-in-Closed-clause-taken
returns-in-Closed-clause-taken g c = λ world stood. rw (c.in-Closed.is, c.forget.ensures) (closed_taken g.G.Ledger.stands c.args.self.now world c.in-Closed.p c.requires.idle stood)

pub returns-in-Quiet-clause-taken : goal.returns-in-Quiet-clause-taken
returns-in-Quiet-clause-taken g c = λ world stood. rw c.in-Quiet.is (nothing_taken g.G.Ledger.stands c.args.self.now world _ refl refl (refl, c.requires.idle.surplus) stood)

pub returns-in-Ended-clause-taken : goal.returns-in-Ended-clause-taken
returns-in-Ended-clause-taken g c = λ world stood. rw c.in-Ended.is (nothing_taken g.G.Ledger.stands c.args.self.now world _ refl refl (refl, c.requires.idle.surplus) stood)

pub returns-in_ok-open-in-Opened-clause-numbers : goal.returns-in_ok-open-in-Opened-clause-numbers
returns-in_ok-open-in-Opened-clause-numbers g c = λ last now later up le.
    up_to_opened c.args.self.now c.open.new.self c.in-Opened.p last now later up (rw c.in-Opened.is at le) c.in_ok-open-in-Opened.ensures.opens

pub returns-in_ok-feed-in-Bytes-clause-numbers : goal.returns-in_ok-feed-in-Bytes-clause-numbers
returns-in_ok-feed-in-Bytes-clause-numbers g c = λ last now later up le. rw (← c.self.view_is) at (up_to_later last now c.args.self.now.clients later up)

pub returns-else-p-eq0-clause-numbers : goal.returns-else-p-eq0-clause-numbers
returns-else-p-eq0-clause-numbers g c = λ last now later up le. up_to_heard c.args.self.now c.hear.new.self c.in-Bytes.p last now c.args.bytes.now later up c.hear.ensures

pub returns-in-Closed-clause-numbers : goal.returns-in-Closed-clause-numbers
returns-in-Closed-clause-numbers g c = λ last now later up le.
    rw c.forget.ensures (up_to_later last now _ later (up_to_gone last c.in-Closed.p c.args.self.now.clients up))

pub returns-in-Quiet-clause-numbers : goal.returns-in-Quiet-clause-numbers
returns-in-Quiet-clause-numbers g c = λ last now later up le. up_to_later last now c.args.self.now.clients later up

pub returns-in-Ended-clause-numbers : goal.returns-in-Ended-clause-numbers
returns-in-Ended-clause-numbers g c = λ last now later up le. up_to_later last now c.args.self.now.clients later up
