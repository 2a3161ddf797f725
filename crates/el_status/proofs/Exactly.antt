-- The coins after the blocks that stay say the same of touched script hashes as those before each transaction.
use Rattle.std.proofs.Common.{◌≡◌, inl, inr, not, ℕ, ◌+◌, ◌-◌, Bool, ◌&&◌, ◌||◌, List, [], ◌∷◌, length, drop, refl, ap, sym, ◌∙◌}
use Rattle.std.proofs.lemmas.Bool.{cases_Bool}
use Rattle.std.proofs.lemmas.List.Folds.{list_any-append}
use Rattle.std.proofs.Math.Bool.{or_assoc}
use Rattle.std.specs.List.{list_any}
use Rattle.el_base.specs.declared.hash.Hash32.{Hash32}
use Rattle.el_tx.specs.declared.types.Tx.{Tx}
use Rattle.el_tx.specs.Hashing.{full_encoding, txid, is_coinbase}
use Rattle.el_chain.specs.declared.placed.Placed.{Placed}
use Rattle.el_chain.specs.declared.coin.Coin.{Coin}
use Rattle.el_chain.specs.declared.moves.Plan.{Plan}
use Rattle.el_chain.specs.Chains.{Chain}
use Rattle.el_chain.specs.Coins.{coins, coins_after, coins_after_all}
use Rattle.el_chain.specs.CoinLaws.{coins_made}
use Rattle.el_chain.specs.History.{funds, spends, has_own, positions_in, block_positions, first_start, positions_from}
use Rattle.el_chain.specs.Moves.{shorter}
use Rattle.el_chain.specs.Touches.{replaces, touches, touches_any, AreTouched}
use Rattle.el_status.specs.Untouched.{is_among}
use Rattle.el_status.specs.Exact.{changes, positions_after, changed_by}
use Rattle.el_status.proofs.OwnCoins.{own, same_has, any_same, own_after, txs_leave}

replaced_same : (s : List ℕ) (a b cs : List Coin) → own s a ≡ own s b
    → list_any (λ (c : Coin). has_own s a c.outpoint) cs ≡ list_any (λ (c : Coin). has_own s b c.outpoint) cs
replaced_same s a b [] e = refl
replaced_same s a b (c ∷ cs) e = rw (same_has s a b c.outpoint e, replaced_same s a b cs e) refl

-- what a transaction touches is read off the own coins
touches_same : (s : List ℕ) (base cs : List Coin) (t : Tx) → own s cs ≡ own s base
    → touches s base t ≡ ((funds s t || spends s cs t) || replaces s cs t)
touches_same s base cs t e =
    let taken = ap (λ (b : Bool). not (is_coinbase t) && b) (any_same s cs base t.inputs e) in
    let replaced = replaced_same s cs base (coins_made (txid t) 0 0 t.outputs) e in
    sym (or_assoc (funds s t) (spends s base t) (replaces s base t))
    ∙ sym (ap (λ (b : Bool). (funds s t || b) || replaces s cs t) taken ∙ ap (λ (b : Bool). (funds s t || spends s base t) || b) replaced)

txs_exact : (s : List ℕ) (base : List Coin) (height pos start : ℕ) (ts : List Tx) (cs : List Coin) → own s cs ≡ own s base
    → list_any (touches s base) ts ≡ list_any (changes s) (positions_in height pos start ts cs)
txs_exact s base height pos start [] cs e = refl
txs_exact s base height pos start (t ∷ ts) cs e =
    let later = positions_in height (pos + 1) (start + length (full_encoding t)) ts (coins_after height t cs) in
    let here = touches_same s base cs t e in
    elim (cases_Bool (touches s base t)) [
      | inl h ↦ rw (h, sym here ∙ h) refl
      | inr h ↦ rw (h, sym here ∙ h) (txs_exact s base height (pos + 1) (start + length (full_encoding t)) ts (coins_after height t cs) (own_after s base height t cs e h))
    ]

blocks_exact : (s : List ℕ) (base : List Coin) (height : ℕ) (bs : Chain) (cs : List Coin) → own s cs ≡ own s base
    → touches_any s base bs ≡ list_any (changes s) (positions_from height bs cs)
blocks_exact s base height [] cs e = refl
blocks_exact s base height (b ∷ bs) cs e =
    let ts = b.block.txs in
    let here = block_positions height ts cs in
    let after = coins_after_all height ts cs in
    let this : list_any (touches s base) ts ≡ list_any (changes s) here = txs_exact s base height 0 (first_start ts) ts cs e in
    let split = list_any-append (changes s) here (positions_from (height + 1) bs after) in
    elim (cases_Bool (list_any (touches s base) ts)) [
      | inl h ↦ rw (h, split, sym this ∙ h) refl
      | inr h ↦ rw (h, split, sym this ∙ h) (blocks_exact s base (height + 1) bs after (txs_leave s base height 0 (first_start ts) ts cs e h).coins)
    ]

pub exact : (p : Plan) (chain blocks : Chain) (scripts : List Hash32) (s : Hash32) → AreTouched p chain blocks scripts → is_among scripts s ≡ changed_by s.0 p chain blocks
exact p chain blocks scripts s h =
    let front = shorter p.back chain in
    let gone = drop (length chain - p.back) chain in
    h.each s
    ∙ list_any-append (λ (b : Placed). list_any (touches s.0 (coins front)) b.block.txs) gone blocks
    ∙ ap (λ (x : Bool). x || touches_any s.0 (coins front) blocks) (blocks_exact s.0 (coins front) (length front) gone (coins front) refl)
    ∙ ap (λ (x : Bool). list_any (changes s.0) (positions_after front gone) || x) (blocks_exact s.0 (coins front) (length front) blocks (coins front) refl)
