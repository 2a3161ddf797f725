-- Block hashes that are read one after the other.
use Rattle.std.proofs.Common.{◌≡◌, ℕ, ◌+◌, ◌-◌, ◌*◌, ◌/◌, ◌<◌, ◌≤◌, List, [], ◌∷◌, ◌++◌, length, take, drop, get_or, Option, None, Some, option_map, refl, sym, ap, ap₂, ◌∙◌, arith, length-drop}
use Rattle.std.specs.Prelude.{slice_get, MatchOption}
use Rattle.std.proofs.lemmas.List.{take_more, get_or-drop, get_or-map, length-map}
use Rattle.std.proofs.lemmas.Option.{slice_get_within, get_or_from_slice_get}
use Rattle.el_base.specs.Hashing.{sha256d}
use Rattle.el_base.specs.declared.hash.Hash32.{Hash32}
use Rattle.el_tx.specs.Headers.{header_encoding}
use Rattle.el_block.specs.Blocks.{block_hash}
use Rattle.el_merkle.specs.Merkle.{root}
use Rattle.el_chain.specs.Chains.{Chain}
use Rattle.el_chain.specs.declared.placed.Placed.{Placed}
use Rattle.el_model.specs.Queries.{header_at, blocks_in, height_of}
use Rattle.el_model.proofs.Heights.{blocks_are}
use Rattle.el_levels.specs.Groups.{group, group_roots}
use Rattle.el_levels.specs.Kept.{block_hashes}
use Rattle.el_levels.proofs.GroupLemmas.{length-roots, root_at}

abbrev hash_of : Placed → Hash32
hash_of b = block_hash b.block.header

abbrev bytes_of : Placed → List ℕ
bytes_of b = header_encoding b.block.header

found : (o : Option Placed) (header : List ℕ) → option_map bytes_of o ≡ Some header
    → (b : Placed) × (o ≡ Some b) × (bytes_of b ≡ header)
found None header e = absurd (cc)
found (Some b) header e = (b, refl, (let h : Some (bytes_of b) ≡ Some header = e in cc))

-- one block hash more
pub hash_more : (chain : Chain) (first i : ℕ) (header : List ℕ) (hash : Hash32) (read more : List Hash32)
    → header_at chain (first + i) ≡ Some header → hash.0 ≡ sha256d header → more ≡ read ++ hash ∷ []
    → read ≡ take i (drop first (block_hashes chain)) → more ≡ take (i + 1) (drop first (block_hashes chain))
hash_more chain first i header hash read more is hashed more_is so =
    let at = found (slice_get chain (first + i)) header is in
    let b = at.0 in
    let hashes = block_hashes chain in
    let within : first + i < length chain = slice_get_within chain (first + i) b at.1 in
    let all : length hashes ≡ length chain = length-map chain hash_of in
    let left : length (drop first hashes) ≡ length hashes - first = length-drop first hashes in
    let inside : i < length (drop first hashes) = omega (arith, within, all, left) in
    let hash_is : hash ≡ hash_of b = ap (λ (l : List ℕ). record { 0 = l }) (hashed ∙ ap sha256d (sym at.2)) in
    let here : get_or (drop first hashes) i hash ≡ hash_of b =
    get_or-drop first hashes i hash
    ∙ get_or-map hash_of chain (first + i) b hash within
    ∙ ap hash_of (get_or_from_slice_get chain (first + i) b b at.1) in
    more_is
    ∙ ap₂ (λ (xs : List Hash32) (h : Hash32). xs ++ h ∷ []) so (hash_is ∙ sym here)
    ∙ sym (take_more (drop first hashes) i hash inside)

-- a height below the number of blocks is at most that of the last
pub within_top : (height : Option ℕ) (h : ℕ) → h < blocks_in height → MatchOption height ⊥ (λ (top : ℕ). h ≤ top)
within_top None h lt = omega (arith, lt)
within_top (Some top) h lt = omega (arith, lt)

pub under_blocks : (height : Option ℕ) (h : ℕ) → MatchOption height ⊥ (λ (top : ℕ). h ≤ top) → h + 1 ≤ blocks_in height
under_blocks None h le = absurd le
under_blocks (Some top) h le = omega (arith, le)

-- there are as many block hashes as blocks
pub hash_count : (chain : Chain) (height : Option ℕ) → height ≡ height_of chain → blocks_in height ≡ length (block_hashes chain)
hash_count chain height is = ap blocks_in is ∙ blocks_are chain ∙ sym (length-map chain hash_of)

-- one root more
pub root_more : (hashes : List Hash32) (number : ℕ) (hash : Hash32) (roots more : List Hash32) → 2048 * (number + 1) ≤ length hashes
    → hash ≡ root (group hashes number) → more ≡ roots ++ hash ∷ [] → roots ≡ take number (group_roots hashes)
    → more ≡ take (number + 1) (group_roots hashes)
root_more hashes number hash roots more long is more_is so =
    let all = length-roots hashes in
    let within : number < length hashes / 2048 = omega (arith, long) in
    more_is
    ∙ ap₂ (λ (xs : List Hash32) (h : Hash32). xs ++ h ∷ []) so (is ∙ sym (root_at hashes number hash within))
    ∙ sym (take_more (group_roots hashes) number hash (omega (arith, within, all)))
