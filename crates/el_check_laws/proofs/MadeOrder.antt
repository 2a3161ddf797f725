-- Chains of made blocks are good.
use Rattle.std.proofs.Common.{◌≡◌, ℕ, suc, ◌+◌, ◌<◌, ◌≤◌, [], ◌∷◌, ◌++◌, length, refl, sym, ap, ◌∙◌, arith, append_assoc, append-nil, subst}
use Rattle.std.specs.Prelude.{None}
use Rattle.el_base.specs.declared.hash.Hash32.{Hash32}
use Rattle.el_block.specs.Blocks.{block_hash, block_encoding, EncodesBlock}
use Rattle.el_block.specs.declared.block.Block.{Block}
use Rattle.el_chain.specs.declared.placed.Placed.{Placed}
use Rattle.el_chain.specs.Chains.{Chain, tip, zero_hash}
use Rattle.el_chain.specs.Faults.{fault, IsNext, AreNext, IsGood}
use Rattle.el_chain.proofs.Chains.{tip_last}
use Rattle.el_gen.specs.MadeFile.{no_block}
use Rattle.el_check_laws.specs.Differing.{blocks_of}
use Rattle.el_check_laws.proofs.MadeChains.{AreMade, txs_at, block_at_height}
use Rattle.el_check_laws.proofs.MadeCoins.{AreApart, ScriptsDiffer}
use Rattle.el_check_laws.proofs.MadeBlocks.{IsHash, none_is_hash, hash_is_hash, DifferAt, made_encoded}
use Rattle.el_check_laws.proofs.MadeGood.{Stands, none_stand, stand_more}

-- What the made blocks of the first heights, so many, have to be for each to stand after those before it.
pub record AreRight (of : ℕ → ℕ) (most : ℕ) : Type 0 where
  pub few : most ≤ 20002
  pub bytes : (height : ℕ) → of height < 256
  pub apart : AreApart of most
  pub scripts : ScriptsDiffer

pub differ_at : (of : ℕ → ℕ) (most height : ℕ) → AreRight of most → height < most → DifferAt of height
differ_at of most height right lt below is =
    right.apart.others (suc below) below (omega (arith, lt, is)) (omega (arith, lt, is))

-- the block's bytes encode it
pub encoded_at : (of : ℕ → ℕ) (most : ℕ) (previous : Hash32) (height : ℕ) → AreRight of most → IsHash previous → height < most
    → EncodesBlock (block_encoding (block_at_height of previous height)) (block_at_height of previous height)
encoded_at of most previous height right hash lt =
    let few = right.few in
    made_encoded of previous height hash (right.bytes height) (omega (arith, lt, few)) (differ_at of most height right lt)

next_is : (of : ℕ → ℕ) (most : ℕ) (previous : Hash32) (before : Chain) (b : Placed) (height : ℕ) → AreRight of most → IsHash previous → height < most
    → tip before ≡ previous → b.block ≡ block_at_height of previous height → fault before b.block ≡ None → IsNext before b.block
next_is of most previous before b height right hash lt names is none = record {
  encoded = (
    block_encoding (block_at_height of previous height),
    subst (EncodesBlock (block_encoding (block_at_height of previous height))) (sym is) (encoded_at of most previous height right hash lt),
  );
  names = ap (λ (x : Block). x.header.previous) is ∙ sym names;
  faultless = none;
}

pub all_next : (of : ℕ → ℕ) (most : ℕ) → AreRight of most → (previous : Hash32) (before chain : Chain) (height : ℕ) → Stands of height before
    → tip before ≡ previous → IsHash previous → AreMade of previous height (blocks_of chain) → height + length chain ≤ most
    → AreNext before chain × Stands of (height + length chain) (before ++ chain)
all_next of most right previous before [] height stands names hash made few = (
  tt,
  subst (λ (c : Chain). Stands of (height + 0) c) (sym (append-nil before))
      (subst (λ (k : ℕ). Stands of k before) (let e : height ≡ height + 0 = omega arith in e) stands),
)
all_next of most right previous before (b ∷ chain) height stands names hash made few =
    let short = right.few in
    let lt : height < most = omega (arith, few) in
    let one = stand_more of height most before b stands lt short right.apart right.scripts (ap (λ (x : Block). x.txs) made.0) in
    let rest = all_next of most right (block_hash b.block.header) (before ++ b ∷ []) chain (suc height) one.1 (tip_last zero_hash before b)
    (hash_is_hash b.block.header) made.1 (omega (arith, few)) in (
      (next_is of most previous before b height right hash lt names made.0 one.0, rest.0),
      subst (λ (c : Chain). Stands of (height + suc (length chain)) c) (append_assoc before (b ∷ []) chain)
          (subst (λ (k : ℕ). Stands of k ((before ++ b ∷ []) ++ chain)) (let e : suc height + length chain ≡ height + suc (length chain) = omega arith in e) rest.1),
    )

-- a chain of made blocks from the genesis on
pub made_stand : (of : ℕ → ℕ) (most : ℕ) (chain : Chain) → AreRight of most → AreMade of no_block 0 (blocks_of chain) → length chain ≤ most
    → IsGood chain × Stands of (length chain) chain
made_stand of most chain right made few =
    let all = all_next of most right no_block [] chain 0 (none_stand of) refl none_is_hash made (omega (arith, few)) in
    let e : 0 + length chain ≡ length chain = omega arith in (
      record { each = all.0 },
      subst (λ (k : ℕ). Stands of k chain) e all.1,
    )

-- so the next made block has no fault after it
pub no_fault : (of : ℕ → ℕ) (most : ℕ) (chain : Chain) (b : Block) → AreRight of most → AreMade of no_block 0 (blocks_of chain) → length chain < most
    → b.txs ≡ txs_at of (length chain) → fault chain b ≡ None
no_fault of most chain b right made lt is =
    let stands = (made_stand of most chain right made (omega (arith, lt))).1 in
    (stand_more of (length chain) most chain (record { block = b; place = record { file = 0; offset = 0; len = 0 } }) stands lt right.few right.apart right.scripts is).0
