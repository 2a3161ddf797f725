use Rattle.std.proofs.Common.{◌≡◌, ◌∙◌, ◌++◌, ap, append-nil, sym, arith, rules, List}
use Rattle.el_base.specs.declared.hash.Hash32.{Hash32}
use Rattle.el_merkle.proofs.Rows.{above, top, branched_more}
use Rattle.el_merkle.specs.Merkle.{partner}
use Rattle.el_merkle.proofs.tree.branch.Goals as goal

pub loop-partners-smaller : goal.loop-partners-smaller
loop-partners-smaller c =
    let next = above c.loop-partners.row.items c.pair_up.new.row.items c.pair_up.ensures (search rules) in
    next.shorter

pub loop-partners-preserved : goal.loop-partners-preserved
loop-partners-preserved c =
    let next = above c.loop-partners.row.items c.pair_up.new.row.items c.pair_up.ensures (search rules) in
    let hash : c.partner.result ≡ partner c.loop-partners.row.items c.loop-partners.place = cc in
    record {
      inside = let half = next.half in let inside = c.loop-partners.invariant.inside in omega arith;
      same = next.same ∙ c.loop-partners.invariant.same;
      whole =
          branched_more c.loop-partners.row.items c.pair_up.new.row.items c.loop-partners.partners.items c.push.new.self.items
          c.loop-partners.place c.partner.result c.pair_up.ensures (search rules) hash c.in_ok-push.ensures.items
          ∙ c.loop-partners.invariant.whole;
    }

pub returns-clause-branch : goal.returns-clause-branch
returns-clause-branch c =
    let last = top c.loop-partners.row.items c.index.result.now (search rules) (search rules) c.index.ensures in
    sym (append-nil c.loop-partners.partners.items)
    ∙ sym (ap (λ (t : List Hash32). c.loop-partners.partners.items ++ t) (last.no_more c.loop-partners.place))
    ∙ c.loop-partners.invariant.whole

pub returns-clause-root : goal.returns-clause-root
returns-clause-root c =
    let last = top c.loop-partners.row.items c.index.result.now (search rules) (search rules) c.index.ensures in
    sym last.root_is ∙ c.loop-partners.invariant.same
