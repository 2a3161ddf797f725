-- Headers one after the other.
use Rattle.std.proofs.Common.{◌≡◌, ◌∙◌, sym, ap, ℕ, ◌+◌, ◌-◌, ◌==◌, ◌<◌, min, true, List, [], ◌∷◌, ◌++◌, length, take, drop, get_or, Option, Some, None, option_map, Ok, refl, arith, length-drop}
use Rattle.std.specs.Prelude.{slice_get}
use Rattle.std.specs.List.{flat_map}
use Rattle.std.proofs.lemmas.List.{take_more, get_or-drop, flat_map_more}
use Rattle.std.proofs.lemmas.Option.{slice_get_within, get_or_from_slice_get}
use Rattle.std.proofs.lemmas.Bool.Decides.{nat_tests}
use Rattle.el_tx.specs.Headers.{header_encoding}
use Rattle.el_chain.specs.Chains.{Chain}
use Rattle.el_chain.specs.declared.placed.Placed.{Placed}
use Rattle.el_model.specs.Queries.{header_at, height_of}
use Rattle.el_methods.specs.Results.{header_count, headers_bytes, headers_value, some_headers, block_headers}
use Rattle.el_methods.specs.within.Tops.{block_count}
use Rattle.el_methods.specs.declared.blocks.TheConstants.{HEADER_LIMIT}

abbrev bytes_of : Placed → List ℕ
bytes_of b = header_encoding b.block.header

next_header : (chain : Chain) (start n : ℕ) (b : Placed) → slice_get chain (start + n) ≡ Some b
    → headers_bytes chain start n ++ bytes_of b ≡ headers_bytes chain start (n + 1)
next_header chain start n b is =
    let within : start + n < length chain = slice_get_within chain (start + n) b is in
    let here : get_or chain (start + n) b ≡ b = get_or_from_slice_get chain (start + n) b b is in
    let there : get_or (drop start chain) n b ≡ b = get_or-drop start chain n b ∙ here in
    let left : length (drop start chain) ≡ length chain - start = length-drop start chain in
    let inside : n < length (drop start chain) = omega arith in
    let more : take (n + 1) (drop start chain) ≡ take n (drop start chain) ++ b ∷ [] =
    take_more (drop start chain) n b inside ∙ ap (λ x. take n (drop start chain) ++ x ∷ []) there in
    flat_map_more bytes_of [] (take n (drop start chain)) b ∙ ap (flat_map bytes_of) (sym more)

found : (o : Option Placed) (header : List ℕ) → option_map bytes_of o ≡ Some header
    → (b : Placed) × (o ≡ Some b) × (bytes_of b ≡ header)
found None header e = absurd (cc)
found (Some b) header e = (b, refl, (let h : Some (bytes_of b) ≡ Some header = e in cc))

-- one header more
pub headers_more : (chain : Chain) (start n : ℕ) (header : List ℕ) → header_at chain (start + n) ≡ Some header
    → headers_bytes chain start n ++ header ≡ headers_bytes chain start (n + 1)
headers_more chain start n header is =
    let at = found (slice_get chain (start + n)) header is in
    ap (λ bytes. headers_bytes chain start n ++ bytes) (sym at.2) ∙ next_header chain start n at.0 at.1

-- how many blocks there are
pub blocks_are : (chain : Chain) (top : Option ℕ) → top ≡ height_of chain → block_count top ≡ length chain
blocks_are [] top is = ap block_count is
blocks_are (b ∷ bs) top is = ap block_count is ∙ omega arith

pub count_is : (chain : Chain) (top : Option ℕ) (start count n : ℕ) → top ≡ height_of chain
    → n ≡ min count (min HEADER_LIMIT (block_count top - start)) → n ≡ header_count chain start count
count_is chain top start count n is so =
    so ∙ ap (λ blocks. min count (min HEADER_LIMIT (blocks - start))) (blocks_are chain top is)

-- headers alone
pub plain_headers : (chain : Chain) (start count cp n : ℕ) → n ≡ header_count chain start count → cp ≡ 0
    → block_headers chain start count cp ≡ Ok (headers_value n (headers_bytes chain start n))
plain_headers chain start count cp n so none =
    let zero : (cp == 0) ≡ true = grind (arith, nat_tests) in
    ap (λ m. some_headers chain start m cp) (sym so) ∙ rw zero refl
