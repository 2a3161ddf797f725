-- The sizes of the blocks of good chains fit their fields.
use Rattle.std.proofs.Common.{◌≡◌, inl, inr, ◌≤◌, List, [], ◌∷◌, ◌++◌, length, refl, arith, length-append}
use Rattle.std.proofs.lemmas.Bool.{cases_Bool}
use Rattle.std.specs.List.{AllByRecursion, flat_map}
use Rattle.std.specs.Int.{w32, to_le_bytes}
use Rattle.el_base.proofs.Lists.{all_weaker}
use Rattle.el_base.specs.Compact.{compact}
use Rattle.el_tx.specs.declared.types.Tx.{Tx}
use Rattle.el_tx.specs.Encoding.{counted, version_encoding, body_encoding, stack_encoding, has_witness}
use Rattle.el_tx.specs.Hashing.{full_encoding}
use Rattle.el_tx.specs.Headers.{header_encoding}
use Rattle.el_tx.proofs.HeaderLemmas.{header_length}
use Rattle.el_block.specs.Blocks.{HasBlockEncoding, EncodesBlock}
use Rattle.el_chain.specs.declared.placed.Placed.{Placed}
use Rattle.el_chain.specs.Chains.{Chain}
use Rattle.el_chain.specs.Faults.{AreNext, IsGood}
use Rattle.el_chain.specs.CoinLists.{FitsBlock}
use Rattle.el_coins.specs.CoinTables.{HasFitting}
use Rattle.el_coins.proofs.GoodChains.{chain_fits}
use Rattle.el_plain.specs.within.Light.{IsLight, HasFewOutputs, HaveFewOutputs}

-- a transaction has some bytes
some_bytes : (t : Tx) → 1 ≤ length (full_encoding t)
some_bytes t = elim (cases_Bool (has_witness t)) [
  | inl h ↦
      let all = length-append (version_encoding t) (0 ∷ 1 ∷ (body_encoding t ++ (flat_map stack_encoding t.inputs ++ to_le_bytes w32 t.lock))) in
      let four : length (version_encoding t) ≡ 4 = refl in
      rw h (omega (arith, all, four))
  | inr h ↦
      let all = length-append (version_encoding t) (body_encoding t ++ to_le_bytes w32 t.lock) in
      let four : length (version_encoding t) ≡ 4 = refl in
      rw h (omega (arith, all, four))
]

each_some : (ts : List Tx) → length ts ≤ length (flat_map full_encoding ts)
each_some [] = omega arith
each_some (t ∷ ts) =
    let rest = each_some ts in
    let one = some_bytes t in
    let joined = length-append (full_encoding t) (flat_map full_encoding ts) in
    omega (arith, rest, one, joined)

light_of : (b : Placed) → HasBlockEncoding b.block → IsLight b
light_of b h =
    let s : EncodesBlock h.0 b.block = h.1 in
    let light = s.light in
    let header = header_length b.block.header s.text.header in
    let whole = length-append (header_encoding b.block.header) (counted full_encoding b.block.txs) in
    let txs = length-append (compact (length b.block.txs)) (flat_map full_encoding b.block.txs) in
    let some = each_some b.block.txs in
    record { few = omega (arith, light, whole, txs, some); ends = omega (arith, light, header, whole, txs) }

chain_light : (before chain : Chain) → AreNext before chain → AllByRecursion IsLight chain
chain_light before [] h = tt
chain_light before (b ∷ bs) h = (light_of b h.0.encoded, chain_light (before ++ b ∷ []) bs h.1)

pub good_light : (chain : Chain) → IsGood chain → AllByRecursion IsLight chain
good_light chain good = chain_light [] chain good.each

pub good_few : (chain : Chain) → IsGood chain → AllByRecursion HaveFewOutputs chain
good_few chain good =
    all_weaker HasFitting HaveFewOutputs chain (λ b fits. all_weaker FitsBlock HasFewOutputs b.block.txs (λ t f. f.few) fits) (chain_fits [] chain good.each)
