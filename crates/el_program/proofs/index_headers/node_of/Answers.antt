use Rattle.el_program.proofs.Openings.{node_at_height}
use Rattle.el_program.proofs.index_headers.node_of.Goals as goal

pub returns-clause-of_chain : goal.returns-clause-of_chain
returns-clause-of_chain g c = λ chain stood.
    node_at_height chain c.args.h c.in_ok-header.header c.in_ok-place.place c.node_with.result
    (g.met.G.Ledger.good c.args.ledger.now chain stood) (c.in_ok-header.ensures.header chain stood)
    (c.in_ok-place.ensures.place chain (c.in_ok-header.ensures.quiet.stays.still_stands chain stood))
    c.node_with.ensures.is
