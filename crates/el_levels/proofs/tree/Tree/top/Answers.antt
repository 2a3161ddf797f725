use Rattle.std.proofs.Common.{◌≡◌, ◌∙◌, ◌-◌, ℕ, length, get_or, subst, ap, rules}
use Rattle.el_levels.specs.Groups.{lifted}
use Rattle.el_levels.specs.Trees.{Grown}
use Rattle.el_levels.proofs.TreeLemmas.{top_is}
use Rattle.el_levels.proofs.tree.Tree.top.Goals as goal

pub returns : goal.returns
returns c =
    let hashes = c.self.inside.hashes.items in
    let len : c.len.result ≡ length c.self.inside.hashes.items = search rules in
    subst (λ (v : Grown). c.index.result.now ≡ lifted v.levels v.leaves) c.self.view_is
    (top_is hashes c.self.inside.count c.self.inside.levels c.index.result.now c.self.invariant
    (c.index.ensures ∙ ap (λ (n : ℕ). get_or hashes (n - 1) c.index.result.now) len))
