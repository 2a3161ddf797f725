use Rattle.std.proofs.Common.{◌∙◌, sym, ap, subst, Some, Ok, Err, inr}
use Rattle.el_sync.proofs.Compared.{nil_if}
use Rattle.el_side.specs.Beneath.{ghosts}
use Rattle.el_core.proofs.server.Server.turn.Goals as goal
use Rattle.el_core.specs.Turn.{outs_of, closing_of}
use Rattle.el_core.proofs.Causes.{waiting_joins, none_ordered_before, none_given, none_unread, reply_other, found_memory, peers_long, tell_memory, tell_none}
use Rattle.el_core.specs.within.Clients.{IsFirstWaiting}
use Rattle.el_core.proofs.Peers.{none_ordered}
use Rattle.el_lines.specs.LineStates.{as_listed}
use Rattle.std.proofs.Common.{length, ◌==◌}
use Rattle.el_core.specs.State.{State, AreUpTo, waiting}
use Rattle.el_core.proofs.Noded.{ahead_failed}
use Rattle.el_core.proofs.Measured.{ahead_less, line_less, peers_less, peers_idle}
use Rattle.el_core.proofs.Turned.{ahead_turned, node_turned, peers_turned, peers_any, peers_ended, node_failed, unread_failed}
use Rattle.el_json.specs.Lines.{line_says}
use Rattle.el_replies.specs.RowBounds.{LineReads}
use Rattle.el_core.specs.within.RowBounds.{SpeakerReads}
use Rattle.el_chain.specs.Chains.{Chain}
use Rattle.el_side.specs.Caching.{CachesStand}
use Rattle.el_core.proofs.LineRows.{turn_reads, within_more}

pub returns-in-Ok-clause-step : goal.returns-in-Ok-clause-step
returns-in-Ok-clause-step g c = λ world left stood told.
    let e = c.in-Ok.ensures in
    ahead_turned (ghosts g.G.Ledger g.A.Archive) g.Y.Relay c.args.relay.now c.args.self.now c.turn_ahead.new.self c.args.archive.now c.turn_ahead.new.archive world left c.in-Ok.outs stood told e.some e.same e.magic e.moving

pub returns-in-Ok-clause-less : goal.returns-in-Ok-clause-less
returns-in-Ok-clause-less g c = ahead_less c.args.self.now c.turn_ahead.new.self c.in-Ok.ensures.fewer c.in-Ok.ensures.same c.in-Ok.ensures.tree

pub returns-in-Err-clause-failed : goal.returns-in-Err-clause-failed
returns-in-Err-clause-failed g c = λ world left stood told.
    let e = c.in-Err.ensures in
    let k = e.step in
    ahead_failed (ghosts g.G.Ledger g.A.Archive) c.args.self.now.ledger c.turn_ahead.new.self.ledger c.args.archive.now c.turn_ahead.new.archive world left c.in-Err.fault
    (λ none. e.some (stood.ahead ∙ none))
    (λ is. k.still_live (ap Err is)) (λ sure. rw stood.ahead at (e.stopped world.side stood.start sure (record { stood = stood.chain; set = stood.set; told = told })))
    (λ un. e.lost world.side stood.start un (record { stood = stood.chain; set = stood.set; told = told }))

pub returns-in-Err-next_line-clause-failed : goal.returns-in-Err-next_line-clause-failed
returns-in-Err-next_line-clause-failed g c = λ world left stood told.
    unread_failed (ghosts g.G.Ledger g.A.Archive) c.args.self.now c.next_line.new.self c.args.archive.now world left (λ m n d t h i j. g.met.G.Ledger.leaves_own m n d t h i j) c.requires.live
    c.in-Err-next_line.ensures.refused stood c.in-Err-next_line.ensures.line (ap (λ (s : State g.row.G.Denot). waiting s.clients) (sym c.self.view_is) ∙ c.in_default.ensures.place)

pub returns-in-Ok-None-clause-step : goal.returns-in-Ok-None-clause-step
returns-in-Ok-None-clause-step g c = λ world left stood told.
    let all = rw c.in-Ok-None.field-0-is at c.in-Ok-None.ensures.none in
    let unchanged = rw c.in-Ok-None.field-0-is at c.in-Ok-None.ensures.unchanged in
    let p = rw unchanged at c.turn_peers.ensures.peers in
    let q = rw unchanged at c.turn_peers.ensures.quiet in
    let s = rw unchanged at c.turn_peers.ensures.same in
    let k = rw unchanged at c.turn_peers.ensures.caches in
    peers_turned (ghosts g.G.Ledger g.A.Archive) g.Y.Relay c.args.relay.now c.turn_peers.new.relay c.args.self.now c.turn_peers.new.self c.args.archive.now c.turn_peers.new.archive world left c.turn_peers.result (λ m n d t h i j. g.met.G.Ledger.leaves_own m n d t h i j) c.requires.live
    stood told c.turn_peers.ensures.keeps (nil_if c.args.self.now.ahead c.is_empty.result c.if-not-is_empty.false (c.is_empty.ensures ∙ ap (λ (s : State g.row.G.Denot). length s.ahead == 0) c.self.view_is)) (ap (λ (s : State g.row.G.Denot). waiting s.clients) (sym c.self.view_is) ∙ c.in_default.ensures.place) all s q k p

pub returns-in-Ok-None-clause-done : goal.returns-in-Ok-None-clause-done
returns-in-Ok-None-clause-done g c = λ world left stood.
    let all = rw c.in-Ok-None.field-0-is at c.in-Ok-None.ensures.none in
    let unchanged = rw c.in-Ok-None.field-0-is at c.in-Ok-None.ensures.unchanged in
    let p = rw unchanged at c.turn_peers.ensures.peers in
    let q = rw unchanged at c.turn_peers.ensures.quiet in
    let s = rw unchanged at c.turn_peers.ensures.same in
    let k = rw unchanged at c.turn_peers.ensures.caches in
    peers_ended (ghosts g.G.Ledger g.A.Archive) g.Y.Relay c.args.relay.now c.turn_peers.new.relay c.args.self.now c.turn_peers.new.self c.args.archive.now c.turn_peers.new.archive world left c.turn_peers.result (λ m n d t h i j. g.met.G.Ledger.leaves_own m n d t h i j) c.requires.live
    stood (nil_if c.args.self.now.ahead c.is_empty.result c.if-not-is_empty.false (c.is_empty.ensures ∙ ap (λ (s : State g.row.G.Denot). length s.ahead == 0) c.self.view_is)) (ap (λ (s : State g.row.G.Denot). waiting s.clients) (sym c.self.view_is) ∙ c.in_default.ensures.place) all s q k p

pub returns-in-Ok-None-clause-idle : goal.returns-in-Ok-None-clause-idle
returns-in-Ok-None-clause-idle g c =
    let unchanged = rw c.in-Ok-None.field-0-is at c.in-Ok-None.ensures.unchanged in
    let s = rw unchanged at c.turn_peers.ensures.same in
    peers_idle c.args.self.now c.turn_peers.new.self c.turn_peers.result (nil_if c.args.self.now.ahead c.is_empty.result c.if-not-is_empty.false (c.is_empty.ensures ∙ ap (λ (s : State g.row.G.Denot). length s.ahead == 0) c.self.view_is)) (ap (λ (s : State g.row.G.Denot). waiting s.clients) (sym c.self.view_is) ∙ c.in_default.ensures.place) (rw unchanged at c.turn_peers.ensures.waits) s c.turn_peers.ensures.done

pub returns-in-Ok-turn_node-clause-step : goal.returns-in-Ok-turn_node-clause-step
returns-in-Ok-turn_node-clause-step g c = λ world left stood told.
    let e = c.in-Ok-turn_node.ensures in
    node_turned (ghosts g.G.Ledger g.A.Archive) g.Y.Relay c.args.relay.now c.args.self.now c.next_line.new.self c.turn_node.new.self c.args.archive.now c.turn_node.new.archive world left c.in-Ok-turn_node.outs
    (as_listed c.in-Ok-Some.met) (λ k chain h. g.met.G.Ledger.tip_is k chain h) stood told e.still e.told c.in-Ok-Some.ensures.same c.in-Ok-Some.ensures.limit (rw c.in-Ok-Some.field-0-is at c.in-Ok-Some.ensures.met) e.same e.magic e.begun e.node

pub returns-in-Ok-turn_node-clause-less : goal.returns-in-Ok-turn_node-clause-less
returns-in-Ok-turn_node-clause-less g c =
    let e = c.in-Ok-turn_node.ensures in
    line_less c.args.self.now c.next_line.new.self c.turn_node.new.self c.in-Ok-Some.ensures.same (rw c.in-Ok-Some.field-0-is at c.in-Ok-Some.ensures.consumed) e.fewer e.more e.begun.0 e.same

pub returns-in-Err-turn_node-clause-failed : goal.returns-in-Err-turn_node-clause-failed
returns-in-Err-turn_node-clause-failed g c = λ world left stood told.
    let e = c.in-Err-turn_node.ensures in
    let k = e.step in
    node_failed (ghosts g.G.Ledger g.A.Archive) c.args.self.now c.next_line.new.self c.turn_node.new.self.ledger c.args.archive.now c.turn_node.new.archive world left
    (as_listed c.in-Ok-Some.met) c.in-Err-turn_node.fault
    stood told e.still e.told c.in-Ok-Some.ensures.same c.in-Ok-Some.ensures.limit (rw c.in-Ok-Some.field-0-is at c.in-Ok-Some.ensures.met)
    (λ is. k.still_live (ap Err is)) e.stopped e.lost

pub returns-in-Ok-clause-waiting : goal.returns-in-Ok-clause-waiting
returns-in-Ok-clause-waiting g c = λ world p rest stood. waiting_joins g.G.Ledger.stands c.args.self.now world p rest stood

pub returns-in-Err-clause-waiting : goal.returns-in-Err-clause-waiting
returns-in-Err-clause-waiting g c = λ world p rest stood. waiting_joins g.G.Ledger.stands c.args.self.now world p rest stood

pub returns-in-Err-next_line-clause-waiting : goal.returns-in-Err-next_line-clause-waiting
returns-in-Err-next_line-clause-waiting g c = λ world p rest stood. waiting_joins g.G.Ledger.stands c.args.self.now world p rest stood

pub returns-in-Ok-None-clause-waiting : goal.returns-in-Ok-None-clause-waiting
returns-in-Ok-None-clause-waiting g c = λ world p rest stood. waiting_joins g.G.Ledger.stands c.args.self.now world p rest stood

pub returns-in-Ok-turn_node-clause-waiting : goal.returns-in-Ok-turn_node-clause-waiting
returns-in-Ok-turn_node-clause-waiting g c = λ world p rest stood. waiting_joins g.G.Ledger.stands c.args.self.now world p rest stood

pub returns-in-Err-turn_node-clause-waiting : goal.returns-in-Err-turn_node-clause-waiting
returns-in-Err-turn_node-clause-waiting g c = λ world p rest stood. waiting_joins g.G.Ledger.stands c.args.self.now world p rest stood

pub returns-in-Ok-clause-memory : goal.returns-in-Ok-clause-memory
returns-in-Ok-clause-memory g c = λ world left p stood told.
    let t = c.in-Ok.ensures.sends in
    absurd (reply_other (outs_of c.in-Ok.outs) 0 p t.0 t.1 (ap closing_of told))

pub returns-in-Ok-clause-long : goal.returns-in-Ok-clause-long
returns-in-Ok-clause-long g c = λ world p rest stood still told is kept. absurd (c.in-Ok.ensures.some (stood.ahead ∙ still))

pub returns-in-Err-clause-long : goal.returns-in-Err-clause-long
returns-in-Err-clause-long g c = λ world p rest stood still told is kept. absurd (c.in-Err.ensures.some (stood.ahead ∙ still))

pub returns-in-Err-next_line-clause-long : goal.returns-in-Err-next_line-clause-long
returns-in-Err-next_line-clause-long g c = λ world p rest stood still told is kept.
    let n = none_ordered_before g.G.Ledger.stands c.args.self.now world p _ rest stood in
    absurd (none_unread c.args.self.now.node world.heard stood.ordered stood.node n.0 c.in-Err-next_line.ensures.line)

pub returns-in-Ok-None-clause-memory : goal.returns-in-Ok-None-clause-memory
returns-in-Ok-None-clause-memory g c = λ world left p stood.
    let all = rw c.in-Ok-None.field-0-is at c.in-Ok-None.ensures.none in
    let unchanged = rw c.in-Ok-None.field-0-is at c.in-Ok-None.ensures.unchanged in
    let turn = rw unchanged at c.turn_peers.ensures.peers in
    found_memory g.G.Ledger.stands c.args.self.now c.turn_peers.new.self world left _ _ _ c.turn_peers.result p stood
    (none_ordered c.args.self.now.node world.heard stood.ordered stood.node all)
    (peers_any (ghosts g.G.Ledger g.A.Archive) g.Y.Relay c.args.relay.now c.turn_peers.new.relay c.args.self.now c.turn_peers.new.self c.args.archive.now c.turn_peers.new.archive world left c.turn_peers.result stood (nil_if c.args.self.now.ahead c.is_empty.result c.if-not-is_empty.false (c.is_empty.ensures ∙ ap (λ (s : State g.row.G.Denot). length s.ahead == 0) c.self.view_is)) turn)

pub returns-in-Ok-None-clause-long : goal.returns-in-Ok-None-clause-long
returns-in-Ok-None-clause-long g c = λ world p rest stood still told is kept.
    let unchanged = rw c.in-Ok-None.field-0-is at c.in-Ok-None.ensures.unchanged in
    let turn = rw unchanged at c.turn_peers.ensures.peers in
    let l = peers_long g.G.Ledger.stands c.args.self.now c.turn_peers.new.self world p rest _ _ _ c.turn_peers.result stood is kept
    (peers_any (ghosts g.G.Ledger g.A.Archive) g.Y.Relay c.args.relay.now c.turn_peers.new.relay c.args.self.now c.turn_peers.new.self c.args.archive.now c.turn_peers.new.archive world _ c.turn_peers.result stood (nil_if c.args.self.now.ahead c.is_empty.result c.if-not-is_empty.false (c.is_empty.ensures ∙ ap (λ (s : State g.row.G.Denot). length s.ahead == 0) c.self.view_is)) turn) in
    (l.0, ap Ok l.1, l.2)

pub returns-in-Ok-turn_node-clause-memory : goal.returns-in-Ok-turn_node-clause-memory
returns-in-Ok-turn_node-clause-memory g c = λ world left p stood told.
    let t = c.in-Ok-turn_node.ensures.sends in
    absurd (reply_other (outs_of c.in-Ok-turn_node.outs) 0 p t.0 t.1 (ap closing_of told))

pub returns-in-Ok-turn_node-clause-long : goal.returns-in-Ok-turn_node-clause-long
returns-in-Ok-turn_node-clause-long g c = λ world p rest stood still told is kept.
    let n = none_ordered_before g.G.Ledger.stands c.args.self.now world p _ rest stood in
    absurd (none_given c.args.self.now.node c.next_line.new.self.node world.heard stood.ordered _ stood.node n.0 (rw c.in-Ok-Some.field-0-is at c.in-Ok-Some.ensures.met))

pub returns-in-Err-turn_node-clause-long : goal.returns-in-Err-turn_node-clause-long
returns-in-Err-turn_node-clause-long g c = λ world p rest stood still told is kept.
    let n = none_ordered_before g.G.Ledger.stands c.args.self.now world p _ rest stood in
    absurd (none_given c.args.self.now.node c.next_line.new.self.node world.heard stood.ordered _ stood.node n.0 (rw c.in-Ok-Some.field-0-is at c.in-Ok-Some.ensures.met))

pub returns-in-Ok-None-clause-numbers : goal.returns-in-Ok-None-clause-numbers
returns-in-Ok-None-clause-numbers g c = λ last up.
    let unchanged = rw c.in-Ok-None.field-0-is at c.in-Ok-None.ensures.unchanged in
    c.turn_peers.ensures.numbers last (rw unchanged up)

pub returns-in-Some-clause-waiting : goal.returns-in-Some-clause-waiting
returns-in-Some-clause-waiting g c = λ world p rest stood. waiting_joins g.G.Ledger.stands c.args.self.now world p rest stood

pub returns-in-Some-clause-memory : goal.returns-in-Some-clause-memory
returns-in-Some-clause-memory g c = λ world left p stood told.
    let first = subst (λ (s : State g.row.G.Denot). IsFirstWaiting s.clients (Some c.in-Some.i)) c.self.view_is c.in-Some.ensures.place in
    inr (inr (tell_memory g.G.Ledger.stands c.args.self.now world left _ (outs_of c.turn_tell.result) c.in-Some.i p c.turn_tell.new.self.clients stood
    (nil_if c.args.self.now.ahead c.is_empty.result c.if-not-is_empty.false (c.is_empty.ensures ∙ ap (λ (s : State g.row.G.Denot). length s.ahead == 0) c.self.view_is)) first c.turn_tell.ensures.tells (ap closing_of told)))

pub returns-in-Some-clause-long : goal.returns-in-Some-clause-long
returns-in-Some-clause-long g c = λ world p rest stood still told is kept.
    let first = subst (λ (s : State g.row.G.Denot). IsFirstWaiting s.clients (Some c.in-Some.i)) c.self.view_is c.in-Some.ensures.place in
    absurd (tell_none g.G.Ledger.stands c.args.self.now world _ c.in-Some.i stood first told)

pub returns-in-Ok-None-clause-less : goal.returns-in-Ok-None-clause-less
returns-in-Ok-None-clause-less g c =
    let unchanged = rw c.in-Ok-None.field-0-is at c.in-Ok-None.ensures.unchanged in
    let s = rw unchanged at c.turn_peers.ensures.same in
    peers_less c.args.self.now c.turn_peers.new.self c.turn_peers.result s (rw unchanged at c.turn_peers.ensures.waits) (rw unchanged at c.turn_peers.ensures.fewer) (rw unchanged at c.turn_peers.ensures.less)

pub returns-in-Ok-turn_node-clause-numbers : goal.returns-in-Ok-turn_node-clause-numbers
returns-in-Ok-turn_node-clause-numbers g c = λ last up. c.turn_node.ensures.numbers last (subst (λ (s : State g.row.G.Denot). AreUpTo last s.clients) (sym c.in-Ok-Some.ensures.same) up)

pub returns-in-Err-turn_node-clause-numbers : goal.returns-in-Err-turn_node-clause-numbers
returns-in-Err-turn_node-clause-numbers g c = λ last up. c.turn_node.ensures.numbers last (subst (λ (s : State g.row.G.Denot). AreUpTo last s.clients) (sym c.in-Ok-Some.ensures.same) up)

-- the files beside the ledger's own stay, whichever turn it is
pub returns-in-Ok-clause-beside : goal.returns-in-Ok-clause-beside
returns-in-Ok-clause-beside g c = c.in-Ok.ensures.step.beside

pub returns-in-Err-clause-beside : goal.returns-in-Err-clause-beside
returns-in-Err-clause-beside g c = c.in-Err.ensures.step.beside

pub returns-in-Err-next_line-clause-beside : goal.returns-in-Err-next_line-clause-beside
returns-in-Err-next_line-clause-beside g c = λ told.
    ap (λ (s : State g.row.G.Denot). g.G.Ledger.beside s.ledger) c.in-Err-next_line.ensures.refused

pub returns-in-Ok-None-clause-beside : goal.returns-in-Ok-None-clause-beside
returns-in-Ok-None-clause-beside g c =
    let unchanged = rw c.in-Ok-None.field-0-is at c.in-Ok-None.ensures.unchanged in
    let q = rw unchanged at c.turn_peers.ensures.quiet in
    q.below.files

pub returns-in-Ok-turn_node-clause-beside : goal.returns-in-Ok-turn_node-clause-beside
returns-in-Ok-turn_node-clause-beside g c = λ told. c.in-Ok-turn_node.ensures.step.beside told
    ∙ ap (λ (s : State g.row.G.Denot). g.G.Ledger.beside s.ledger) c.in-Ok-Some.ensures.same

pub returns-in-Err-turn_node-clause-beside : goal.returns-in-Err-turn_node-clause-beside
returns-in-Err-turn_node-clause-beside g c = λ told. c.in-Err-turn_node.ensures.step.beside told
    ∙ ap (λ (s : State g.row.G.Denot). g.G.Ledger.beside s.ledger) c.in-Ok-Some.ensures.same

pub returns-in-Some-clause-beside : goal.returns-in-Some-clause-beside
returns-in-Some-clause-beside g c = c.turn_tell.ensures.beside

-- for a client's next line
pub returns-in-Ok-clause-rows : goal.returns-in-Ok-clause-rows
returns-in-Ok-clause-rows g c = λ world p bytes rest stood still told sure. absurd (c.in-Ok.ensures.some (stood.ahead ∙ still))

pub returns-in-Err-clause-rows : goal.returns-in-Err-clause-rows
returns-in-Err-clause-rows g c = λ world p bytes rest stood still told sure. absurd (c.in-Err.ensures.some (stood.ahead ∙ still))

pub returns-in-Err-next_line-clause-rows : goal.returns-in-Err-next_line-clause-rows
returns-in-Err-next_line-clause-rows g c = λ world p bytes rest stood still told sure.
    let n = none_ordered_before g.G.Ledger.stands c.args.self.now world p _ rest stood in
    absurd (none_unread c.args.self.now.node world.heard stood.ordered stood.node n.0 c.in-Err-next_line.ensures.line)

pub returns-in-Ok-None-clause-rows : goal.returns-in-Ok-None-clause-rows
returns-in-Ok-None-clause-rows g c = λ world p bytes rest stood still told sure.
    let unchanged = rw c.in-Ok-None.field-0-is at c.in-Ok-None.ensures.unchanged in
    let reads = rw unchanged at c.turn_peers.ensures.rows in
    let chain = world.side.chain in
    let buckets = g.G.Ledger.buckets c.args.self.now.ledger in
    within_more (SpeakerReads chain buckets c.args.self.now.speaker c.args.self.now.clients) (LineReads chain buckets (line_says bytes)) _ _
    (turn_reads g.G.Ledger.stands c.args.self.now world p bytes rest stood chain buckets) (reads chain (stood.chain sure)
    (subst (λ (start : Chain). CachesStand c.args.self.now.caches start chain) (stood.set.still still) (stood.set.computed sure)))

pub returns-in-Ok-turn_node-clause-rows : goal.returns-in-Ok-turn_node-clause-rows
returns-in-Ok-turn_node-clause-rows g c = λ world p bytes rest stood still told sure.
    let n = none_ordered_before g.G.Ledger.stands c.args.self.now world p _ rest stood in
    absurd (none_given c.args.self.now.node c.next_line.new.self.node world.heard stood.ordered _ stood.node n.0 (rw c.in-Ok-Some.field-0-is at c.in-Ok-Some.ensures.met))

pub returns-in-Err-turn_node-clause-rows : goal.returns-in-Err-turn_node-clause-rows
returns-in-Err-turn_node-clause-rows g c = λ world p bytes rest stood still told sure.
    let n = none_ordered_before g.G.Ledger.stands c.args.self.now world p _ rest stood in
    absurd (none_given c.args.self.now.node c.next_line.new.self.node world.heard stood.ordered _ stood.node n.0 (rw c.in-Ok-Some.field-0-is at c.in-Ok-Some.ensures.met))

pub returns-in-Some-clause-rows : goal.returns-in-Some-clause-rows
returns-in-Some-clause-rows g c = λ world p bytes rest stood still told sure.
    let first = subst (λ (s : State g.row.G.Denot). IsFirstWaiting s.clients (Some c.in-Some.i)) c.self.view_is c.in-Some.ensures.place in
    absurd (tell_none g.G.Ledger.stands c.args.self.now world _ c.in-Some.i stood first told)
