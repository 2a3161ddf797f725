-- Where the newest transaction with a txid stands, block by block.
use Rattle.std.proofs.Common.{◌≡◌, ℕ, zero, suc, ◌+◌, ◌^◌, ◌<◌, ◌≤◌, Bool, true, false, cond, List, [], ◌∷◌, ◌++◌, length, drop, get_or, Option, None, Some, refl, ap, sym, ◌∙◌, arith, length-append}
use Rattle.std.proofs.lemmas.List.{drop_all, length-drop}
use Rattle.std.proofs.Math.Nat.{min-eq_left}
use Rattle.std.specs.List.{AllByRecursion, flat_map}
use Rattle.std.specs.Option.{option_or}
use Rattle.std.specs.Prelude.{IfSome, option_map, option_and_then}
use Rattle.std.specs.Str.{bytes_eq}
use Rattle.el_base.proofs.Lists.{left_at, all_append, all_weaker}
use Rattle.el_base.specs.declared.hash.Hash32.{Hash32}
use Rattle.el_outside.specs.declared.archive.Place.{Place}
use Rattle.el_tx.specs.declared.types.Tx.{Tx}
use Rattle.el_tx.specs.Hashing.{full_encoding, txid, capped}
use Rattle.el_chain.specs.declared.placed.Placed.{Placed}
use Rattle.el_chain.specs.declared.coin.Coin.{Coin}
use Rattle.el_chain.specs.declared.node.Spot.{Spot}
use Rattle.el_chain.specs.Chains.{Chain}
use Rattle.el_chain.specs.Coins.{coins_after, coins_after_all}
use Rattle.el_chain.specs.History.{Position, positions_in, block_positions, first_start, positions_from}
use Rattle.el_model.specs.Queries.{spot_of, place_at, newest}

-- the spot that is found where a transaction with the txid is among the positions of a block that stands
-- there, and else the one before
abbrev pub found_in : Place → Hash32 → List Position → Option Spot → Option Spot
found_in place id ps before = option_or (option_map (λ (p : Position). spot_of p place) (newest id ps)) before

-- the spot where a position's transaction stands
abbrev pub spot_at : Chain → Position → Option Spot
spot_at chain p = option_map (spot_of p) (place_at chain p.height)

pub found_step : (place : Place) (id : Hash32) (p : Position) (ps : List Position) (before : Option Spot)
    → found_in place id (p ∷ ps) before ≡ found_in place id ps (cond (bytes_eq (txid p.tx).0 id.0) (Some (spot_of p place)) before)
found_step place id p ps before = by (newest id ps) (bytes_eq (txid p.tx).0 id.0)
  where
    by : (x : Option Position) (b : Bool) → option_or (option_map (λ (q : Position). spot_of q place) (option_or x (cond b (Some p) None))) before
        ≡ option_or (option_map (λ (q : Position). spot_of q place) x) (cond b (Some (spot_of p place)) before)
    by None true = refl
    by None false = refl
    by (Some q) b = refl

-- a transaction was looked at, and those after it are left
pub found_more : (place : Place) (id : Hash32) (height pos start len n : ℕ) (ts : List Tx) (t : Tx) (coins : List Coin) (found new whole : Option Spot) → n < length ts → t ≡ get_or ts n t
    → len ≡ length (full_encoding t)
    → new ≡ cond (bytes_eq (txid t).0 id.0) (Some (record { height = height; pos = pos; place = place; start = start; len = len })) found
    → found_in place id (positions_in height pos start (drop n ts) coins) found ≡ whole
    → found_in place id (positions_in height (pos + 1) (start + len) (drop (n + 1) ts) (coins_after height t coins)) new ≡ whole
found_more place id height pos start len n ts t coins found new whole lt is size said so =
    let left = left_at ts n t lt is in
    let p : Position = record { height = height; pos = pos; start = start; tx = t; before = coins } in
    let later = positions_in height (pos + 1) (start + length (full_encoding t)) (drop (n + 1) ts) (coins_after height t coins) in
    ap (λ k. found_in place id (positions_in height (pos + 1) (start + k) (drop (n + 1) ts) (coins_after height t coins)) new) size
    ∙ ap (found_in place id later) (said ∙ ap (λ k. cond (bytes_eq (txid t).0 id.0) (Some (record { height = height; pos = pos; place = place; start = start; len = k })) found) size)
    ∙ sym (found_step place id p later found)
    ∙ ap (λ us. found_in place id (positions_in height pos start us coins) found) (sym left) ∙ so

-- the size of a transaction that ends within its block
pub size_is : (start most n len : ℕ) (ts : List Tx) (t : Tx) → n < length ts → t ≡ get_or ts n t → start + length (flat_map full_encoding (drop n ts)) ≤ most → most < 2 ^ 128
    → len ≡ capped (length (full_encoding t)) → len ≡ length (full_encoding t)
size_is start most n len ts t lt is h small said =
    let left = left_at ts n t lt is in
    let joined = length-append (full_encoding t) (flat_map full_encoding (drop (n + 1) ts)) in
    let here = rw left at h in
    said ∙ min-eq_left (omega (arith, here, joined, small))

-- the end of a transaction is no later than that of all
pub ends_within : (start most n len : ℕ) (ts : List Tx) (t : Tx) → n < length ts → t ≡ get_or ts n t → len ≡ length (full_encoding t) → start + length (flat_map full_encoding (drop n ts)) ≤ most
    → start + len + length (flat_map full_encoding (drop (n + 1) ts)) ≤ most
ends_within start most n len ts t lt is size h =
    let left = left_at ts n t lt is in
    let joined = length-append (full_encoding t) (flat_map full_encoding (drop (n + 1) ts)) in
    let here = rw left at h in
    omega (arith, here, joined, size)

-- what holds of all positions holds of the newest
pub newest_has : (P : Position → Type 0) (id : Hash32) (ps : List Position) → AllByRecursion P ps → IfSome (newest id ps) P
newest_has P id [] all = tt
newest_has P id (p ∷ ps) all = by (newest id ps) (bytes_eq (txid p.tx).0 id.0) (newest_has P id ps all.1)
  where
    by : (x : Option Position) (b : Bool) → IfSome x P → IfSome (option_or x (cond b (Some p) None)) P
    by None true h = all.0
    by None false h = tt
    by (Some q) b h = h

-- the newest of positions in two parts
pub newest_joined : (id : Hash32) (ps qs : List Position) → newest id (ps ++ qs) ≡ option_or (newest id qs) (newest id ps)
newest_joined id [] qs = by (newest id qs)
  where
    by : (x : Option Position) → x ≡ option_or x None
    by None = refl
    by (Some q) = refl
newest_joined id (p ∷ ps) qs =
    ap (λ x. option_or x (cond (bytes_eq (txid p.tx).0 id.0) (Some p) None)) (newest_joined id ps qs) ∙ by (newest id qs) (newest id ps) (cond (bytes_eq (txid p.tx).0 id.0) (Some p) None)
  where
    by : (x y z : Option Position) → option_or (option_or x y) z ≡ option_or x (option_or y z)
    by None y z = refl
    by (Some q) y z = refl

-- the positions of a block have its height
block_height : (height pos start : ℕ) (ts : List Tx) (coins : List Coin) → AllByRecursion (λ (p : Position). p.height ≡ height) (positions_in height pos start ts coins)
block_height height pos start [] coins = tt
block_height height pos start (t ∷ ts) coins = (refl, block_height height (pos + 1) (start + length (full_encoding t)) ts (coins_after height t coins))

-- they are below what the height is below
block_below : (most height pos start : ℕ) (ts : List Tx) (coins : List Coin) → height < most → AllByRecursion (λ (p : Position). p.height < most) (positions_in height pos start ts coins)
block_below most height pos start [] coins lt = tt
block_below most height pos start (t ∷ ts) coins lt = (lt, block_below most height (pos + 1) (start + length (full_encoding t)) ts (coins_after height t coins) lt)

-- the positions of blocks are below the height after the last
chain_below : (height : ℕ) (bs : Chain) (coins : List Coin) → AllByRecursion (λ (p : Position). p.height < height + length bs) (positions_from height bs coins)
chain_below height [] coins = tt
chain_below height (b ∷ bs) coins =
    all_append (λ (p : Position). p.height < height + length (b ∷ bs)) (block_positions height b.block.txs coins) (positions_from (height + 1) bs (coins_after_all height b.block.txs coins))
    (block_below (height + length (b ∷ bs)) height 0 (first_start b.block.txs) b.block.txs coins (omega arith))
    (all_weaker (λ (p : Position). p.height < height + 1 + length bs) (λ (p : Position). p.height < height + length (b ∷ bs)) (positions_from (height + 1) bs (coins_after_all height b.block.txs coins))
    (λ p h. omega (arith, h)) (chain_below (height + 1) bs (coins_after_all height b.block.txs coins)))

-- a height of the chain has a place
place_some : (chain : Chain) (n : ℕ) → n < length chain → (q : Place) × (place_at chain n ≡ Some q)
place_some [] n lt = absurd (omega (arith, lt))
place_some (x ∷ chain) zero lt = (x.place, refl)
place_some (x ∷ chain) (suc n) lt = place_some chain n (omega (arith, lt))

-- a block of the chain has its place
place_here : (chain : Chain) (n : ℕ) (b : Placed) → n < length chain → b ≡ get_or chain n b → place_at chain n ≡ Some b.place
place_here [] n b lt is = absurd (omega (arith, lt))
place_here (x ∷ chain) zero b lt is = ap (λ (p : Placed). Some p.place) (sym is)
place_here (x ∷ chain) (suc n) b lt is = place_here chain n b (omega (arith, lt)) is

-- a block was looked at, and those after it are left
pub find_more : (id : Hash32) (n : ℕ) (chain : Chain) (b : Placed) (coins : List Coin) (found new whole : Option Spot) → n < length chain → b ≡ get_or chain n b
    → new ≡ found_in b.place id (block_positions n b.block.txs coins) found
    → option_or (option_and_then (spot_at chain) (newest id (positions_from n (drop n chain) coins))) found ≡ whole
    → option_or (option_and_then (spot_at chain) (newest id (positions_from (n + 1) (drop (n + 1) chain) (coins_after_all n b.block.txs coins)))) new ≡ whole
find_more id n chain b coins found new whole lt is said so =
    let left = left_at chain n b lt is in
    let ps = block_positions n b.block.txs coins in
    let qs = positions_from (n + 1) (drop (n + 1) chain) (coins_after_all n b.block.txs coins) in
    let at_place = place_here chain n b lt is in
    let here = newest_has (λ (p : Position). p.height ≡ n) id ps (block_height n 0 (first_start b.block.txs) b.block.txs coins) in
    let there = newest_has (λ (p : Position). p.height < n + 1 + length (drop (n + 1) chain)) id qs (chain_below (n + 1) (drop (n + 1) chain) (coins_after_all n b.block.txs coins)) in
    let most : n + 1 + length (drop (n + 1) chain) ≡ length chain = let cut = length-drop (n + 1) chain in omega (arith, cut, lt) in
    by most at_place (newest id qs) (newest id ps) there here said
    ∙ ap (λ x. option_or (option_and_then (spot_at chain) x) found) (sym (newest_joined id ps qs))
    ∙ ap (λ (bs : Chain). option_or (option_and_then (spot_at chain) (newest id (positions_from n bs coins))) found) (sym left) ∙ so
  where
    by : n + 1 + length (drop (n + 1) chain) ≡ length chain → place_at chain n ≡ Some b.place → (x y : Option Position)
        → IfSome x (λ (p : Position). p.height < n + 1 + length (drop (n + 1) chain)) → IfSome y (λ (p : Position). p.height ≡ n)
        → new ≡ option_or (option_map (λ (p : Position). spot_of p b.place) y) found
        → option_or (option_and_then (spot_at chain) x) new ≡ option_or (option_and_then (spot_at chain) (option_or x y)) found
    by most at_place (Some p) y there here said =
        let q = place_some chain p.height (omega (arith, there, most)) in
        rw q.1 refl
    by most at_place None None there here said = said
    by most at_place None (Some p) there here said = said ∙ rw (here, at_place) refl

-- with nothing found before, the answer is what is found
pub or_none : (x : Option Spot) → option_or x None ≡ x
or_none None = refl
or_none (Some s) = refl

pub find_ends : (id : Hash32) (n : ℕ) (chain : Chain) (coins : List Coin) (found whole : Option Spot) → length chain ≤ n
    → option_or (option_and_then (spot_at chain) (newest id (positions_from n (drop n chain) coins))) found ≡ whole → found ≡ whole
find_ends id n chain coins found whole most so =
    let none = drop_all n chain most in
    rw none at so
