use Rattle.std.proofs.Common.{◌≡◌, ◌∙◌, ◌+◌, ◌/◌, Option, List, ap, sym, subst, arith}
use Rattle.std.specs.Prelude.{IfSome, IsSomeAnd}
use Rattle.el_base.specs.declared.hash.Hash32.{Hash32}
use Rattle.el_merkle.specs.Merkle.{branch_of, root}
use Rattle.el_model.proofs.LedgerMoves.{asked_on}
use Rattle.el_levels.specs.declared.kept.GroupTree.{GroupTree}
use Rattle.el_levels.specs.declared.kept.AboveTree.{AboveTree}
use Rattle.el_levels.specs.Kept.{KeptTrees, block_hashes, IsGroupTreeOf, IsGroupOf, IsAboveOf}
use Rattle.el_levels.proofs.ProofLemmas.{proof_of_chain, first_hashes, rows_few}
use Rattle.el_levels.proofs.levels.Levels.prove.Goals as goal

-- the tree that was taken is the kept one
group_taken : (kept : KeptTrees) (P : GroupTree → Type 0) (taken : Option GroupTree) → taken ≡ kept.group → IfSome kept.group P → IfSome taken P
group_taken kept P taken is of = subst (λ (o : Option GroupTree). IfSome o P) (sym is) of

above_taken : (kept : KeptTrees) (P : AboveTree → Type 0) (taken : Option AboveTree) → taken ≡ kept.above → IfSome kept.above P → IfSome taken P
above_taken kept P taken is of = subst (λ (o : Option AboveTree). IfSome o P) (sym is) of

group_again : (kept : KeptTrees) (P : GroupTree → Type 0) (taken : Option GroupTree) → taken ≡ kept.group → IsSomeAnd kept.group P → IsSomeAnd taken P
group_again kept P taken is of = subst (λ (o : Option GroupTree). IsSomeAnd o P) (sym is) of

above_again : (kept : KeptTrees) (P : AboveTree → Type 0) (taken : Option AboveTree) → taken ≡ kept.above → IsSomeAnd kept.above P → IsSomeAnd taken P
above_again kept P taken is of = subst (λ (o : Option AboveTree). IsSomeAnd o P) (sym is) of

pub returns-clause-branch : goal.returns-clause-branch
returns-clause-branch g c = λ chain stands kept.
    let hashes = block_hashes chain in
    let group = c.in_ok-group.ensures.group chain stands
    (group_taken c.args.self.now (IsGroupOf hashes) c.take.result (c.take.ensures.value ∙ ap (λ (v : KeptTrees). v.group) c.self.view_is) kept.group) in
    let above = c.in_ok-above.ensures.above chain (c.group_for.ensures.quiet.stays.still_stands chain stands)
    (c.as_slice.ensures.value ∙ ap (λ (v : KeptTrees). v.roots) c.self.view_is ∙ kept.roots) group
    (above_taken c.args.self.now (IsAboveOf hashes) c.take-2.result (c.take-2.ensures.value ∙ ap (λ (v : KeptTrees). v.above) c.self.view_is) kept.above) in
    let proof = proof_of_chain chain (g.G.Ledger.height c.args.ledger.now) c.args.height c.args.upto c.in_ok-group.group c.in_ok-above.above
    (g.met.G.Ledger.height_is c.args.ledger.now chain stands) c.requires.within c.requires.below c.in_ok-group.ensures.at group
    c.in_ok-above.ensures.upto above in
    c.in_ok-proof.ensures.branch ∙ proof.branch ∙ ap (λ (t : List Hash32). branch_of t c.args.height) (first_hashes chain c.args.upto)

pub returns-clause-root : goal.returns-clause-root
returns-clause-root g c = λ chain stands kept.
    let hashes = block_hashes chain in
    let group = c.in_ok-group.ensures.group chain stands
    (group_taken c.args.self.now (IsGroupOf hashes) c.take.result (c.take.ensures.value ∙ ap (λ (v : KeptTrees). v.group) c.self.view_is) kept.group) in
    let above = c.in_ok-above.ensures.above chain (c.group_for.ensures.quiet.stays.still_stands chain stands)
    (c.as_slice.ensures.value ∙ ap (λ (v : KeptTrees). v.roots) c.self.view_is ∙ kept.roots) group
    (above_taken c.args.self.now (IsAboveOf hashes) c.take-2.result (c.take-2.ensures.value ∙ ap (λ (v : KeptTrees). v.above) c.self.view_is) kept.above) in
    let proof = proof_of_chain chain (g.G.Ledger.height c.args.ledger.now) c.args.height c.args.upto c.in_ok-group.group c.in_ok-above.above
    (g.met.G.Ledger.height_is c.args.ledger.now chain stands) c.requires.within c.requires.below c.in_ok-group.ensures.at group
    c.in_ok-above.ensures.upto above in
    c.in_ok-proof.ensures.root ∙ proof.top ∙ ap root (first_hashes chain c.args.upto)

pub returns-clause-kept : goal.returns-clause-kept
returns-clause-kept g c = λ chain stands kept.
    let hashes = block_hashes chain in
    let group = c.in_ok-group.ensures.group chain stands
    (group_taken c.args.self.now (IsGroupOf hashes) c.take.result (c.take.ensures.value ∙ ap (λ (v : KeptTrees). v.group) c.self.view_is) kept.group) in
    let above = c.in_ok-above.ensures.above chain (c.group_for.ensures.quiet.stays.still_stands chain stands)
    (c.as_slice.ensures.value ∙ ap (λ (v : KeptTrees). v.roots) c.self.view_is ∙ kept.roots) group
    (above_taken c.args.self.now (IsAboveOf hashes) c.take-2.result (c.take-2.ensures.value ∙ ap (λ (v : KeptTrees). v.above) c.self.view_is) kept.above) in
    record { roots = ap (λ (v : KeptTrees). v.roots) c.self.view_is ∙ kept.roots; group = group; above = above }

pub returns-clause-same : goal.returns-clause-same
returns-clause-same g c = ap (λ (v : KeptTrees). v.roots) c.self.view_is

pub returns-clause-trees : goal.returns-clause-trees
returns-clause-trees g c = record { group = c.in_ok-group.ensures.at; above = c.in_ok-above.ensures.upto }

pub returns-clause-again : goal.returns-clause-again
returns-clause-again g c = λ has.
    c.above_for.ensures.again
    (above_again c.args.self.now (λ (a : AboveTree). a.upto ≡ c.args.upto) c.take-2.result (c.take-2.ensures.value ∙ ap (λ (v : KeptTrees). v.above) c.self.view_is) has.above)
    ∙ c.group_for.ensures.again
    (group_again c.args.self.now (λ (t : GroupTree). IsGroupTreeOf t (c.args.upto + 1) (c.args.height / 2048)) c.take.result (c.take.ensures.value ∙ ap (λ (v : KeptTrees). v.group) c.self.view_is) has.group)

pub returns-clause-rows : goal.returns-clause-rows
returns-clause-rows g c =
    let below = c.requires.below in
    let few = rows_few (c.args.upto + 1) c.args.height (omega (arith, below)) in
    let first = c.group_for.ensures.rows in
    let second = c.above_for.ensures.rows in
    omega (arith, few, first, second)

pub returns-clause-quiet : goal.returns-clause-quiet
returns-clause-quiet g c = asked_on g.G.Ledger _ _ _ c.group_for.ensures.quiet c.above_for.ensures.quiet

pub returns-in_err-group-clause-kept : goal.returns-in_err-group-clause-kept
returns-in_err-group-clause-kept g c = λ chain stands kept.
    record {
      roots = ap (λ (v : KeptTrees). v.roots) c.self.view_is ∙ kept.roots;
      group = subst (λ (o : Option GroupTree). IfSome o (IsGroupOf (block_hashes chain))) (sym c.take.ensures.after) tt;
      above = above_taken c.args.self.now (IsAboveOf (block_hashes chain)) c.self.inside.above (ap (λ (v : KeptTrees). v.above) c.self.view_is) kept.above;
    }

pub returns-in_err-group-clause-same : goal.returns-in_err-group-clause-same
returns-in_err-group-clause-same g c = ap (λ (v : KeptTrees). v.roots) c.self.view_is

pub returns-in_err-group-clause-again : goal.returns-in_err-group-clause-again
returns-in_err-group-clause-again g c = λ has.
    c.group_for.ensures.again
    (group_again c.args.self.now (λ (t : GroupTree). IsGroupTreeOf t (c.args.upto + 1) (c.args.height / 2048)) c.take.result (c.take.ensures.value ∙ ap (λ (v : KeptTrees). v.group) c.self.view_is) has.group)

pub returns-in_err-group-clause-rows : goal.returns-in_err-group-clause-rows
returns-in_err-group-clause-rows g c =
    let first = c.group_for.ensures.rows in
    omega (arith, first)

pub returns-in_err-above-clause-kept : goal.returns-in_err-above-clause-kept
returns-in_err-above-clause-kept g c = λ chain stands kept.
    record {
      roots = ap (λ (v : KeptTrees). v.roots) c.self.view_is ∙ kept.roots;
      group = subst (λ (o : Option GroupTree). IfSome o (IsGroupOf (block_hashes chain))) (sym c.take.ensures.after) tt;
      above = subst (λ (o : Option AboveTree). IfSome o (IsAboveOf (block_hashes chain))) (sym c.take-2.ensures.after) tt;
    }

pub returns-in_err-above-clause-same : goal.returns-in_err-above-clause-same
returns-in_err-above-clause-same g c = ap (λ (v : KeptTrees). v.roots) c.self.view_is

pub returns-in_err-above-clause-again : goal.returns-in_err-above-clause-again
returns-in_err-above-clause-again g c = λ has.
    c.above_for.ensures.again
    (above_again c.args.self.now (λ (a : AboveTree). a.upto ≡ c.args.upto) c.take-2.result (c.take-2.ensures.value ∙ ap (λ (v : KeptTrees). v.above) c.self.view_is) has.above)
    ∙ c.group_for.ensures.again
    (group_again c.args.self.now (λ (t : GroupTree). IsGroupTreeOf t (c.args.upto + 1) (c.args.height / 2048)) c.take.result (c.take.ensures.value ∙ ap (λ (v : KeptTrees). v.group) c.self.view_is) has.group)

pub returns-in_err-above-clause-rows : goal.returns-in_err-above-clause-rows
returns-in_err-above-clause-rows g c =
    let below = c.requires.below in
    let few = rows_few (c.args.upto + 1) c.args.height (omega (arith, below)) in
    let first = c.group_for.ensures.rows in
    let second = c.above_for.ensures.rows in
    omega (arith, few, first, second)

pub returns-in_err-above-clause-quiet : goal.returns-in_err-above-clause-quiet
returns-in_err-above-clause-quiet g c = asked_on g.G.Ledger _ _ _ c.group_for.ensures.quiet c.above_for.ensures.quiet

pub returns-in_err-proof-clause-kept : goal.returns-in_err-proof-clause-kept
returns-in_err-proof-clause-kept g c = λ chain stands kept.
    record {
      roots = ap (λ (v : KeptTrees). v.roots) c.self.view_is ∙ kept.roots;
      group = subst (λ (o : Option GroupTree). IfSome o (IsGroupOf (block_hashes chain))) (sym c.take.ensures.after) tt;
      above = subst (λ (o : Option AboveTree). IfSome o (IsAboveOf (block_hashes chain))) (sym c.take-2.ensures.after) tt;
    }

pub returns-in_err-proof-clause-same : goal.returns-in_err-proof-clause-same
returns-in_err-proof-clause-same g c = ap (λ (v : KeptTrees). v.roots) c.self.view_is

pub returns-in_err-proof-clause-again : goal.returns-in_err-proof-clause-again
returns-in_err-proof-clause-again g c = λ has.
    c.above_for.ensures.again
    (above_again c.args.self.now (λ (a : AboveTree). a.upto ≡ c.args.upto) c.take-2.result (c.take-2.ensures.value ∙ ap (λ (v : KeptTrees). v.above) c.self.view_is) has.above)
    ∙ c.group_for.ensures.again
    (group_again c.args.self.now (λ (t : GroupTree). IsGroupTreeOf t (c.args.upto + 1) (c.args.height / 2048)) c.take.result (c.take.ensures.value ∙ ap (λ (v : KeptTrees). v.group) c.self.view_is) has.group)

pub returns-in_err-proof-clause-rows : goal.returns-in_err-proof-clause-rows
returns-in_err-proof-clause-rows g c =
    let below = c.requires.below in
    let few = rows_few (c.args.upto + 1) c.args.height (omega (arith, below)) in
    let first = c.group_for.ensures.rows in
    let second = c.above_for.ensures.rows in
    omega (arith, few, first, second)

pub returns-in_err-proof-clause-quiet : goal.returns-in_err-proof-clause-quiet
returns-in_err-proof-clause-quiet g c = asked_on g.G.Ledger _ _ _ c.group_for.ensures.quiet c.above_for.ensures.quiet
