-- Where hashes don't collide, the highest common block has only common blocks below it.
use Rattle.std.proofs.Common.{◌≡◌, ℕ, zero, suc, true, false, Bool, List, [], ◌∷◌, refl, sym, ap, ◌∙◌}
use Rattle.el_base.specs.declared.hash.Hash32.{Hash32}
use Rattle.el_block.specs.Blocks.{block_hash}
use Rattle.el_tx.specs.declared.types.Header.{Header}
use Rattle.el_chain.specs.declared.node.Node.{Node}
use Rattle.el_chain.specs.declared.placed.Placed.{Placed}
use Rattle.el_chain.specs.Chains.{Chain}
use Rattle.el_chain.specs.Headers.{AreLinked, same_hash}
use Rattle.el_chain.proofs.TouchLemmas.{hash_gives, hash_from}
use Rattle.el_side.specs.Plans.{common, common_up_to}
use Rattle.el_side.specs.Prefixes.{AreChained, HaveNoCollision, prefix}

above : (b : Placed) (bs : Chain) (n : Node) (ns : List Node) → HaveNoCollision (b ∷ bs) (n ∷ ns) → HaveNoCollision bs ns
above b bs n ns differ = λ height c m at at'. differ (suc height) c m at at'

-- where some block is common, both name one hash before their first
one_before : (x y : Hash32) (chain : Chain) (path : List Node) (count : ℕ) → AreChained x chain → AreLinked y path → HaveNoCollision chain path → common chain path ≡ suc count → x ≡ y
one_before x y [] path count chained linked differ is = absurd (let e = is in cc)
one_before x y (b ∷ bs) [] count chained linked differ is = absurd (let e = is in cc)
one_before x y (b ∷ bs) (n ∷ ns) count chained linked differ is =
    by (same_hash (block_hash b.block.header) n.hash) (common bs ns) refl refl
    (λ more m. one_before (block_hash b.block.header) n.hash bs ns more chained.1 linked.1 (above b bs n ns differ) m) is
  where
    first : block_hash b.block.header ≡ n.hash → x ≡ y
    first e =
        let header : b.block.header ≡ n.header = differ 0 b n refl refl e in
        sym chained.0 ∙ ap (λ (h : Header). h.previous) header ∙ linked.0

    by : (same : Bool) (more : ℕ) → same_hash (block_hash b.block.header) n.hash ≡ same → common bs ns ≡ more
        → ((more : ℕ) → common bs ns ≡ suc more → block_hash b.block.header ≡ n.hash) → common (b ∷ bs) (n ∷ ns) ≡ suc count → x ≡ y
    by same (suc more) s m go u = first (go more m)
    by true zero s m go u = first (hash_gives (block_hash b.block.header) n.hash s)
    by false zero s m go u = absurd (let e = rw (s, m) at u in cc)

up : (more : ℕ) → common_up_to true more ≡ suc more
up zero = refl
up (suc more) = refl

pub prefix_is : (before : Hash32) (chain : Chain) (path : List Node) → AreChained before chain → AreLinked before path → HaveNoCollision chain path → common chain path ≡ prefix chain path
prefix_is before [] path chained linked differ = refl
prefix_is before (b ∷ bs) [] chained linked differ = refl
prefix_is before (b ∷ bs) (n ∷ ns) chained linked differ =
    by (same_hash (block_hash b.block.header) n.hash) (common bs ns) refl refl
    (λ (rest : AreLinked (block_hash b.block.header) ns). prefix_is (block_hash b.block.header) bs ns chained.1 rest (above b bs n ns differ))
  where
    by : (same : Bool) (more : ℕ) → same_hash (block_hash b.block.header) n.hash ≡ same → common bs ns ≡ more
        → (AreLinked (block_hash b.block.header) ns → common bs ns ≡ prefix bs ns) → common (b ∷ bs) (n ∷ ns) ≡ prefix (b ∷ bs) (n ∷ ns)
    by true more s m go =
        let hash = hash_gives (block_hash b.block.header) n.hash s in
        let rest : AreLinked (block_hash b.block.header) ns = rw hash linked.1 in
        rw s (up (common bs ns) ∙ ap suc (go rest))
    by false zero s m go = rw (s, m) refl
    by false (suc more) s m go =
        let hash = one_before (block_hash b.block.header) n.hash bs ns more chained.1 linked.1 (above b bs n ns differ) m in
        absurd (let e = hash_from (block_hash b.block.header) n.hash hash in cc)
