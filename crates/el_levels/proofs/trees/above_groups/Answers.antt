use Rattle.std.proofs.Common.{◌∙◌, ◌+◌, ◌/◌, ◌++◌, ◌∷◌, [], List, take, ap, ap₂, arith}
use Rattle.el_base.specs.declared.hash.Hash32.{Hash32}
use Rattle.el_levels.specs.Kept.{block_hashes}
use Rattle.el_levels.proofs.ReadingLemmas.{hash_count, under_blocks}
use Rattle.el_levels.proofs.ProofLemmas.{above_full, above_open}
use Rattle.el_levels.proofs.trees.above_groups.Goals as goal

pub returns-then-rest-eq0-clause-hashes : goal.returns-then-rest-eq0-clause-hashes
returns-then-rest-eq0-clause-hashes g c = λ chain stands roots of.
    let top = g.G.Ledger.height c.args.ledger.now in
    let count = hash_count chain top (g.met.G.Ledger.height_is c.args.ledger.now chain stands) in
    let under = under_blocks top c.args.upto c.requires.within in
    let none = c.if-rest-eq0.true in
    c.in_ok-list.ensures.items ∙ ap (take ((c.args.upto + 1) / 2048)) roots
    ∙ above_full (c.args.upto + 1) (block_hashes chain) (omega (arith, count, under)) (omega (arith, none))

pub returns-clause-hashes : goal.returns-clause-hashes
returns-clause-hashes g c = λ chain stands roots of.
    let top = g.G.Ledger.height c.args.ledger.now in
    let count = hash_count chain top (g.met.G.Ledger.height_is c.args.ledger.now chain stands) in
    let under = under_blocks top c.args.upto c.requires.within in
    let some = c.if-rest-eq0.false in
    c.in_ok-push.ensures.items
    ∙ ap₂ (λ (a : List Hash32) (h : Hash32). a ++ h ∷ []) (c.in_ok-list.ensures.items ∙ ap (take ((c.args.upto + 1) / 2048)) roots)
    (c.in_ok-hash.ensures.hash chain stands of)
    ∙ above_open (c.args.upto + 1) (block_hashes chain) (omega (arith, count, under)) (omega (arith, some))
