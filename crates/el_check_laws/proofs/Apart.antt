-- Where the txids of made blocks differ, each two transactions have another.
use Rattle.std.proofs.Common.{◌≡◌, ◌≢◌, inl, inr, ℕ, zero, suc, ◌+◌, ◌<◌, ◌≤◌, List, [], ◌∷◌, ◌++◌, length, sym, ap, ◌∙◌, arith, subst}
use Rattle.std.specs.List.{AllByRecursion}
use Rattle.std.proofs.lemmas.Bool.{cases_lt}
use Rattle.std.proofs.lemmas.List.Concat.{flat_map-cons}
use Rattle.el_base.specs.declared.hash.Hash32.{Hash32}
use Rattle.el_base.proofs.Lists.{all_weaker}
use Rattle.el_tx.specs.Hashing.{txid}
use Rattle.el_block.specs.Blocks.{AllDiffer, block_hash, txids}
use Rattle.el_block.specs.declared.block.Block.{Block}
use Rattle.el_check_laws.specs.Differing.{txids_of}
use Rattle.el_check_laws.proofs.MadeChains.{AreMade, coinbase_at, spend_after, txs_at}
use Rattle.el_check_laws.proofs.MadeCoins.{AreApart}

-- the hash is none of these
abbrev pub IsNone : List Hash32 → Hash32 → Type 0
IsNone hashes h = AllByRecursion (λ (x : Hash32). h ≢ x) hashes

pub all_parted : {X : Type 0} (P : X → Type 0) (xs ys : List X) → AllByRecursion P (xs ++ ys) → AllByRecursion P xs × AllByRecursion P ys
all_parted P [] ys h = (tt, h)
all_parted P (x ∷ xs) ys h = let rest = all_parted P xs ys h.1 in ((h.0, rest.0), rest.1)

-- hashes in two parts that differ
pub record Parted (xs ys : List Hash32) : Type 0 where
  pub front : AllDiffer xs
  pub back : AllDiffer ys
  pub both : AllByRecursion (IsNone ys) xs

pub differ_parted : (xs ys : List Hash32) → AllDiffer (xs ++ ys) → Parted xs ys
differ_parted [] ys d = record { front = tt; back = d; both = tt }
differ_parted (x ∷ xs) ys d =
    let own = all_parted (λ (y : Hash32). x ≢ y) xs ys d.0 in
    let rest = differ_parted xs ys d.1 in
    record { front = (own.0, rest.front); back = rest.back; both = (own.1, rest.both) }

txids_more : (b : Block) (bs : List Block) → txids_of (b ∷ bs) ≡ txids b.txs ++ txids_of bs
txids_more b bs = flat_map-cons (λ (x : Block). txids x.txs) b bs

-- what holds of all their txids holds of those of a height
all_at : (P : Hash32 → Type 0) (of : ℕ → ℕ) (previous : Hash32) (height : ℕ) (bs : List Block) → AreMade of previous height bs → AllByRecursion P (txids_of bs)
    → (j : ℕ) → height ≤ j → j < height + length bs → AllByRecursion P (txids (txs_at of j))
all_at P of previous height [] made all j le lt = absurd (omega arith)
all_at P of previous height (b ∷ bs) made all j le lt =
    let parts = all_parted P (txids b.txs) (txids_of bs) (subst (AllByRecursion P) (txids_more b bs) all) in
    elim (cases_lt height j) [
      | inl above ↦ all_at P of (block_hash b.header) (suc height) bs made.1 parts.1 j (omega arith) (omega arith)
      | inr here ↦
          let same : height ≡ j = omega arith in
          let txs : b.txs ≡ txs_at of j = ap (λ (x : Block). x.txs) made.0 ∙ ap (txs_at of) same in
          subst (λ (ts : _). AllByRecursion P (txids ts)) txs parts.0
    ]

-- the txids of two heights differ, and those of one
two_heights : (of : ℕ → ℕ) (previous : Hash32) (height : ℕ) (bs : List Block) → AreMade of previous height bs → AllDiffer (txids_of bs)
    → (i j : ℕ) → height ≤ i → i < j → j < height + length bs → AllByRecursion (IsNone (txids (txs_at of j))) (txids (txs_at of i))
two_heights of previous height [] made d i j le less lt = absurd (omega arith)
two_heights of previous height (b ∷ bs) made d i j le less lt =
    let parts = differ_parted (txids b.txs) (txids_of bs) (subst AllDiffer (txids_more b bs) d) in
    elim (cases_lt height i) [
      | inl above ↦ two_heights of (block_hash b.header) (suc height) bs made.1 parts.back i j (omega arith) less (omega arith)
      | inr here ↦
          let same : height ≡ i = omega arith in
          let txs : b.txs ≡ txs_at of i = ap (λ (x : Block). x.txs) made.0 ∙ ap (txs_at of) same in
          subst (λ (ts : _). AllByRecursion (IsNone (txids (txs_at of j))) (txids ts)) txs
          (all_weaker (IsNone (txids_of bs)) (IsNone (txids (txs_at of j))) (txids b.txs)
          (λ x none. all_at (λ (y : Hash32). x ≢ y) of (block_hash b.header) (suc height) bs made.1 none j (omega arith) (omega arith)) parts.both)
    ]

one_height : (of : ℕ → ℕ) (previous : Hash32) (height : ℕ) (bs : List Block) → AreMade of previous height bs → AllDiffer (txids_of bs)
    → (j : ℕ) → height ≤ j → j < height + length bs → AllDiffer (txids (txs_at of j))
one_height of previous height [] made d j le lt = absurd (omega arith)
one_height of previous height (b ∷ bs) made d j le lt =
    let parts = differ_parted (txids b.txs) (txids_of bs) (subst AllDiffer (txids_more b bs) d) in
    elim (cases_lt height j) [
      | inl above ↦ one_height of (block_hash b.header) (suc height) bs made.1 parts.back j (omega arith) (omega arith)
      | inr here ↦
          let same : height ≡ j = omega arith in
          let txs : b.txs ≡ txs_at of j = ap (λ (x : Block). x.txs) made.0 ∙ ap (txs_at of) same in
          subst (λ (ts : _). AllDiffer (txids ts)) txs parts.front
    ]

of_coinbase : (P : Hash32 → Type 0) (of : ℕ → ℕ) (i : ℕ) → AllByRecursion P (txids (txs_at of i)) → P (txid (coinbase_at of i))
of_coinbase P of zero all = all.0
of_coinbase P of (suc i) all = all.0

pub are_apart : (of : ℕ → ℕ) (previous : Hash32) (bs : List Block) → AreMade of previous 0 bs → AllDiffer (txids_of bs) → AreApart of (length bs)
are_apart of previous bs made d = record {
  coinbases = λ i j less lt.
      of_coinbase (λ (y : Hash32). txid (coinbase_at of i) ≢ y) of j (of_coinbase (IsNone (txids (txs_at of j))) of i (two i j less lt));
  spends = λ i j less lt. (two (suc i) (suc j) (omega (arith, less)) lt).1.0.1.0;
  others = λ i j here lt. elim (cases_lt i (suc j)) [
    | inl below ↦ (of_coinbase (IsNone (txids (txs_at of (suc j)))) of i (two i (suc j) below lt)).1.0
    | inr above ↦ elim (cases_lt (suc j) i) [
      | inl less ↦ λ is. of_coinbase (λ (y : Hash32). txid (spend_after of j) ≢ y) of i ((two (suc j) i less here).1.0) (sym is)
      | inr most ↦
          let same : suc j ≡ i = omega arith in
          subst (λ (k : ℕ). txid (coinbase_at of k) ≢ txid (spend_after of j)) same ((one_height of previous 0 bs made d (suc j) (omega arith) (omega (arith, lt))).0.0)
    ]
  ];
}
  where
    two : (i j : ℕ) → i < j → j < length bs → AllByRecursion (IsNone (txids (txs_at of j))) (txids (txs_at of i))
    two i j less lt = two_heights of previous 0 bs made d i j (omega arith) less (omega (arith, lt))
