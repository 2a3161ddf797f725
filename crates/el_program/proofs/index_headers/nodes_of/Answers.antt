use Rattle.std.proofs.Common.{◌≡◌, ◌≤◌, ◌∙◌, ap, sym, length, arith, take_all}
use Rattle.el_base.proofs.Lists.{all_more}
use Rattle.el_model.proofs.LedgerMoves.{asked_on}
use Rattle.el_model.specs.Queries.{blocks_in}
use Rattle.el_program.specs.Opened.{nodes_of_chain}
use Rattle.el_program.proofs.Openings.{one_more, nodes_length}
use Rattle.el_program.proofs.index_headers.nodes_of.Goals as goal

pub loop-h-preserved : goal.loop-h-preserved
loop-h-preserved g c =
    let d = g.G.Ledger in
    record {
      quiet = asked_on d
          c.args.ledger.now c.loop-h.ledger c.node_of.new.ledger
          c.loop-h.invariant.quiet c.in_ok-node.ensures.quiet;
      still = c.in_ok-node.ensures.cause.uncounted ∙ c.loop-h.invariant.still;
      nodes = rw c.in_ok-push.ensures.items (all_more _ c.loop-h.nodes.items c.in_ok-node.node
          c.loop-h.invariant.nodes c.in_ok-node.ensures.node);
      so_far = λ chain stood.
          rw c.in_ok-push.ensures.items (one_more (nodes_of_chain chain) c.loop-h.nodes.items c.loop-h.h
          c.in_ok-node.node (c.loop-h.invariant.so_far chain stood)
          (c.in_ok-node.ensures.of_chain chain
          (c.loop-h.invariant.quiet.stays.still_stands chain stood)));
      rows = omega (arith, c.loop-h.invariant.rows, c.in_ok-node.ensures.rows);
    }

pub returns-clause-of_chain : goal.returns-clause-of_chain
returns-clause-of_chain g c = λ chain stood.
    let count : c.count_of-count.result ≡ length (nodes_of_chain chain) =
    c.count_of-count.ensures.blocks ∙ ap blocks_in (g.met.G.Ledger.height_is c.args.ledger.now chain stood)
    ∙ sym (nodes_length chain) in
    let all' : length (nodes_of_chain chain) ≤ c.loop-h.h =
    (let t = c.loop-h-test.false in omega (arith, count)) in
    c.loop-h.invariant.so_far chain stood ∙ take_all c.loop-h.h (nodes_of_chain chain) all'

pub returns-in_err-node-clause-quiet : goal.returns-in_err-node-clause-quiet
returns-in_err-node-clause-quiet g c =
    let d = g.G.Ledger in
    asked_on d
    c.args.ledger.now c.loop-h.ledger c.node_of.new.ledger
    c.loop-h.invariant.quiet c.in_err-node.ensures.quiet

pub returns-in_err-push-clause-quiet : goal.returns-in_err-push-clause-quiet
returns-in_err-push-clause-quiet g c =
    let d = g.G.Ledger in
    asked_on d
    c.args.ledger.now c.loop-h.ledger c.node_of.new.ledger
    c.loop-h.invariant.quiet c.in_ok-node.ensures.quiet
