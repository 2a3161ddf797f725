-- A file gives at most one chain, and which bytes are not those of a block.
use Rattle.std.proofs.Common.{◌≡◌, ◌⊎◌, ℕ, ◌<◌, ◌≤◌, min, Bool, true, false, ◌&&◌, if◌then◌else◌, nat_le, List, [], ◌∷◌, length, take, map, refl, sym, ap, subst, ◌∙◌, arith, le-leb}
use Rattle.std.specs.Prelude.{None, Some}
use Rattle.std.specs.List.{AllByRecursion}
use Rattle.std.proofs.lemmas.Bool.{leb-true}
use Rattle.std.proofs.lemmas.List.{length-take}
use Rattle.el_base.specs.Hashing.{sha256d}
use Rattle.el_base.specs.declared.hash.Hash32.{Hash32}
use Rattle.el_outside.specs.declared.archive.Place.{Place}
use Rattle.el_tx.proofs.HeaderLemmas.{header_length}
use Rattle.el_tx.specs.Headers.{IsHeader}
use Rattle.el_block.specs.declared.block.Block.{Block}
use Rattle.el_chain.specs.declared.placed.Placed.{Placed}
use Rattle.el_chain.specs.declared.node.Node.{Node}
use Rattle.el_block.specs.Blocks.{EncodesBlock}
use Rattle.el_chain.specs.Chains.{Chain}
use Rattle.el_chain.specs.Records.{block_at, IsBlockOf, IsOtherBlock}
use Rattle.el_block.proofs.BlockLemmas.{one_block}

same_placed : (b c : Placed) → b.block ≡ c.block → b.place ≡ c.place → b ≡ c
same_placed b c block place =
    let made : Block → Place → Placed = λ x p. record { block = x; place = p } in
    ap (λ (x : Block). made x b.place) block ∙ ap (made c.block) place

-- two chains of blocks at the same places of a file are one
pub one_chain : (bytes : List ℕ) (c d : Chain) → map (λ (b : Placed). b.place) c ≡ map (λ (b : Placed). b.place) d
    → AllByRecursion (λ (b : Placed). EncodesBlock (block_at b.place bytes) b.block) c
    → AllByRecursion (λ (b : Placed). EncodesBlock (block_at b.place bytes) b.block) d → c ≡ d
one_chain bytes [] [] e p q = refl
one_chain bytes [] (y ∷ ys) e p q = absurd cc
one_chain bytes (x ∷ xs) [] e p q = absurd cc
one_chain bytes (x ∷ xs) (y ∷ ys) e p q =
    let place : x.place ≡ y.place = cc in
    let rest : map (λ (b : Placed). b.place) xs ≡ map (λ (b : Placed). b.place) ys = cc in
    let other = subst (λ (a : Place). EncodesBlock (block_at a bytes) y.block) (sym place) q.0 in
    let block = one_block (block_at x.place bytes) x.block y.block p.0 other in
    rw (same_placed x y block place, one_chain bytes xs ys rest p.1 q.1) refl

no_hash : (a b : Bool) (h : Hash32) → (a ≡ true → b ≡ true → ⊥) → None ≡ (if a && b then Some h else None)
no_hash true true h both = absurd (both refl refl)
no_hash true false h both = refl
no_hash false b h both = refl

-- too few bytes are not a block's
pub few_for_block : (n : Node) (bytes : List ℕ) → (length bytes < n.place.len) ⊎ (length bytes < 80) → IsHeader n.header
    → IsOtherBlock n bytes None
few_for_block n bytes few fits = record {
  other = λ (b : IsBlockOf n bytes).
      let front : min 80 (length bytes) ≡ 80 = sym (length-take 80 bytes) ∙ ap length b.header ∙ header_length n.header fits in
      let size = b.size in
      omega arith;
  hash_found = no_hash (nat_le n.place.len (length bytes)) (nat_le 80 (length bytes)) (record { 0 = sha256d (take 80 bytes) })
      (λ p q. let a = leb-true n.place.len (length bytes) p in let b = leb-true 80 (length bytes) q in omega arith);
}

-- as many bytes as the block has at least, which are not the block's
pub other_block : (n : Node) (bytes header : List ℕ) (h : Hash32) → n.place.len ≤ length bytes → 80 ≤ length bytes → header ≡ take 80 bytes
    → h.0 ≡ sha256d header → (IsBlockOf n bytes → ⊥) → IsOtherBlock n bytes (Some h)
other_block n bytes header h long enough front hashed other = record {
  other = other;
  hash_found = rw (le-leb n.place.len (length bytes) long, le-leb 80 (length bytes) enough)
      (ap (λ (x : List ℕ). Some (record { 0 = x })) (hashed ∙ ap sha256d front));
}
