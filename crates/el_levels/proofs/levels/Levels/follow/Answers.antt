use Rattle.std.proofs.Common.{◌≡◌, ◌∙◌, ◌/◌, Option, ℕ, take, length, ap, arith}
use Rattle.std.proofs.lemmas.List.{length-take}
use Rattle.el_model.specs.Queries.{blocks_in}
use Rattle.el_levels.specs.Groups.{group_roots}
use Rattle.el_levels.specs.Kept.{KeptTrees, block_hashes}
use Rattle.el_levels.proofs.ProofLemmas.{staying, all_roots, on_ok}
use Rattle.el_levels.proofs.levels.Levels.follow.Goals as goal

pub returns-clause-kept : goal.returns-clause-kept
returns-clause-kept g c = λ chain before stands kept same.
    let hashes = block_hashes chain in
    let top = g.G.Ledger.height c.args.ledger.now in
    let few = c.min.ensures in
    let full : c.full_groups-full.result ≡ blocks_in top / 2048 =
    c.full_groups-full.ensures ∙ ap (λ (h : Option ℕ). blocks_in h / 2048) c.height.ensures in
    let roots : c.self.inside.roots.items ≡ group_roots before = ap (λ (v : KeptTrees). v.roots) c.self.view_is ∙ kept.roots in
    let begun =
    staying before hashes c.truncate.new.self.items c.args.same c.min.result (omega (arith, few)) same
    (c.truncate.ensures.items ∙ ap (take c.min.result) roots) in
    on_ok c.add_roots.result _ _
    (λ is. record {
      roots = is ∙ ap (λ (n : ℕ). take n (group_roots hashes)) full
          ∙ all_roots chain top (g.met.G.Ledger.height_is c.args.ledger.now chain stands);
      group = tt;
      above = tt;
    })
    (c.add_roots.ensures.roots chain stands begun)

pub returns-clause-len : goal.returns-clause-len
returns-clause-len g c =
    let full : c.full_groups-full.result ≡ blocks_in (g.G.Ledger.height c.args.ledger.now) / 2048 =
    c.full_groups-full.ensures ∙ ap (λ (h : Option ℕ). blocks_in h / 2048) c.height.ensures in
    on_ok c.add_roots.result _ _ (λ is. is ∙ full) c.add_roots.ensures.len

pub returns-clause-rows : goal.returns-clause-rows
returns-clause-rows g c =
    let full : c.full_groups-full.result ≡ blocks_in (g.G.Ledger.height c.args.ledger.now) / 2048 =
    c.full_groups-full.ensures ∙ ap (λ (h : Option ℕ). blocks_in h / 2048) c.height.ensures in
    let few = c.min.ensures in
    let begun = ap length c.truncate.ensures.items ∙ length-take c.min.result c.self.inside.roots.items in
    let had : length c.self.inside.roots.items ≡ length c.args.self.now.roots = ap (λ (v : KeptTrees). length v.roots) c.self.view_is in
    let rows = c.add_roots.ensures.rows in
    omega (arith, full, few, begun, had, rows)
