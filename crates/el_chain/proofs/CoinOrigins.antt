-- Which coins there are: those that were made, and neither taken nor replaced since.
use Rattle.std.proofs.Common.{◌≡◌, ◌⊎◌, inl, inr, ℕ, ◌+◌, ◌<◌, false, List, [], ◌∷◌, ◌++◌, length, refl, ap, sym, subst, ◌∙◌, arith, ne_eqb, ◌==◌}
use Rattle.std.proofs.lemmas.Bool.{cases_Bool, or_parts, or_from, and_right}
use Rattle.std.specs.List.{list_any}
use Rattle.std.specs.Str.{bytes_eq}
use Rattle.el_base.specs.declared.hash.Hash32.{Hash32}
use Rattle.el_tx.specs.declared.types.Outpoint.{Outpoint}
use Rattle.el_tx.specs.declared.types.TxIn.{TxIn}
use Rattle.el_tx.specs.declared.types.TxOut.{TxOut}
use Rattle.el_tx.specs.declared.types.Tx.{Tx}
use Rattle.el_tx.specs.Hashing.{full_encoding, txid, is_coinbase, same_outpoint}
use Rattle.el_chain.specs.declared.coin.Coin.{Coin}
use Rattle.el_chain.specs.Chains.{Chain}
use Rattle.el_chain.specs.Coins.{is_coin_of, without, add_coin, coin_made, spend_inputs, add_outputs, coins_left, coins_after, coins_after_all, coins_from, coins}
use Rattle.el_chain.specs.History.{Position, positions_in, block_positions, first_start, positions_from, positions}
use Rattle.el_chain.specs.CoinLaws.{IsIn, coins_made, makes, takes, touches, Untouched, IsMadeIn}
use Rattle.el_chain.proofs.CoinLists.{apart_turned}

-- the coins without an outpoint
in_left : (c : Coin) (o : Outpoint) (cs : List Coin) → IsIn c (without o cs) → IsIn c cs × (same_outpoint c.outpoint o ≡ false)
in_left c o [] h = absurd h
in_left c o (x ∷ xs) h = elim (cases_Bool (same_outpoint x.outpoint o)) [
  | inl e ↦ let inner = rw e at h in let rest = in_left c o xs inner in (inr rest.0, rest.1)
  | inr e ↦ let inner = rw e at h in by e (in_left c o xs) inner
]
  where
    by : same_outpoint x.outpoint o ≡ false → (IsIn c (without o xs) → IsIn c xs × (same_outpoint c.outpoint o ≡ false)) → (c ≡ x) ⊎ IsIn c (without o xs) → ((c ≡ x) ⊎ IsIn c xs) × (same_outpoint c.outpoint o ≡ false)
    by e others (inl is) = (inl is, rw is e)
    by e others (inr more) = let rest = others more in (inr rest.0, rest.1)

in_without_back : (c : Coin) (o : Outpoint) (cs : List Coin) → IsIn c cs → same_outpoint c.outpoint o ≡ false → IsIn c (without o cs)
in_without_back c o [] h apart = h
in_without_back c o (x ∷ xs) (inl is) apart = let e = rw is at apart in rw e (inl is)
in_without_back c o (x ∷ xs) (inr more) apart = elim (cases_Bool (same_outpoint x.outpoint o)) [
  | inl e ↦ rw e (in_without_back c o xs more apart)
  | inr e ↦ rw e (inr (in_without_back c o xs more apart))
]

-- one coin more
in_snoc : (c d : Coin) (xs : List Coin) → IsIn c (xs ++ d ∷ []) → (c ≡ d) ⊎ IsIn c xs
in_snoc c d [] (inl is) = inl is
in_snoc c d [] (inr none) = absurd none
in_snoc c d (x ∷ xs) (inl is) = inr (inl is)
in_snoc c d (x ∷ xs) (inr more) = by (in_snoc c d xs more)
  where
    by : (c ≡ d) ⊎ IsIn c xs → (c ≡ d) ⊎ IsIn c (x ∷ xs)
    by (inl is) = inl is
    by (inr rest) = inr (inr rest)

snoc_first : (c d : Coin) (xs : List Coin) → IsIn c xs → IsIn c (xs ++ d ∷ [])
snoc_first c d [] h = absurd h
snoc_first c d (x ∷ xs) (inl is) = inl is
snoc_first c d (x ∷ xs) (inr more) = inr (snoc_first c d xs more)

snoc_last : (c d : Coin) (xs : List Coin) → c ≡ d → IsIn c (xs ++ d ∷ [])
snoc_last c d [] is = inl is
snoc_last c d (x ∷ xs) is = inr (snoc_last c d xs is)

-- the coins after the putting of one
in_put : (c d : Coin) (cs : List Coin) → IsIn c (add_coin d cs) → (c ≡ d) ⊎ (IsIn c cs × (same_outpoint c.outpoint d.outpoint ≡ false))
in_put c d cs h = by (in_snoc c d (without d.outpoint cs) h)
  where
    by : (c ≡ d) ⊎ IsIn c (without d.outpoint cs) → (c ≡ d) ⊎ (IsIn c cs × (same_outpoint c.outpoint d.outpoint ≡ false))
    by (inl is) = inl is
    by (inr rest) = inr (in_left c d.outpoint cs rest)

-- the coins after outputs
from_outputs : (c : Coin) (id : Hash32) (height n : ℕ) (os : List TxOut) (cs : List Coin) → IsIn c (add_outputs id height n os cs)
    → IsIn c (coins_made id height n os) ⊎ (IsIn c cs × (list_any (is_coin_of c.outpoint) (coins_made id height n os) ≡ false))
from_outputs c id height n [] cs h = inr (h, refl)
from_outputs c id height n (o ∷ os) cs h = by (from_outputs c id height (n + 1) os (add_coin (coin_made id height n o) cs) h)
  where
    there : list_any (is_coin_of c.outpoint) (coins_made id height (n + 1) os) ≡ false
        → (c ≡ coin_made id height n o) ⊎ (IsIn c cs × (same_outpoint c.outpoint (coin_made id height n o).outpoint ≡ false))
        → IsIn c (coins_made id height n (o ∷ os)) ⊎ (IsIn c cs × (list_any (is_coin_of c.outpoint) (coins_made id height n (o ∷ os)) ≡ false))
    there none (inl is) = inl (inl is)
    there none (inr old) =
        inr (
          old.0,
          or_from (is_coin_of c.outpoint (coin_made id height n o)) (list_any (is_coin_of c.outpoint) (coins_made id height (n + 1) os))
              (apart_turned c.outpoint (coin_made id height n o).outpoint old.1) none,
        )

    by : IsIn c (coins_made id height (n + 1) os)
        ⊎ (IsIn c (add_coin (coin_made id height n o) cs) × (list_any (is_coin_of c.outpoint) (coins_made id height (n + 1) os) ≡ false))
        → IsIn c (coins_made id height n (o ∷ os)) ⊎ (IsIn c cs × (list_any (is_coin_of c.outpoint) (coins_made id height n (o ∷ os)) ≡ false))
    by (inl made) = inl (inr made)
    by (inr rest) = there rest.1 (in_put c (coin_made id height n o) cs rest.0)

outputs_keep : (c : Coin) (id : Hash32) (height n : ℕ) (os : List TxOut) (cs : List Coin) → IsIn c cs
    → list_any (is_coin_of c.outpoint) (coins_made id height n os) ≡ false → IsIn c (add_outputs id height n os cs)
outputs_keep c id height n [] cs h none = h
outputs_keep c id height n (o ∷ os) cs h none =
    let d = coin_made id height n o in
    let parts = or_parts (is_coin_of c.outpoint d) (list_any (is_coin_of c.outpoint) (coins_made id height (n + 1) os)) none in
    let apart = apart_turned d.outpoint c.outpoint parts.0 in
    outputs_keep c id height (n + 1) os (add_coin d cs) (snoc_first c d (without d.outpoint cs) (in_without_back c d.outpoint cs h apart)) parts.1

-- later outputs have greater indexes
pub later_apart : (o : Outpoint) (id : Hash32) (height n : ℕ) (os : List TxOut) → o.index < n → list_any (is_coin_of o) (coins_made id height n os) ≡ false
later_apart o id height n [] lt = refl
later_apart o id height n (x ∷ xs) lt =
    or_from (is_coin_of o (coin_made id height n x)) (list_any (is_coin_of o) (coins_made id height (n + 1) xs))
    (and_right (bytes_eq id.0 o.txid.0) (n == o.index) (ne_eqb n o.index (λ e. omega arith))) (later_apart o id height (n + 1) xs (omega arith))

outputs_make : (c : Coin) (id : Hash32) (height n : ℕ) (os : List TxOut) (cs : List Coin) → IsIn c (coins_made id height n os) → IsIn c (add_outputs id height n os cs)
outputs_make c id height n [] cs h = absurd h
outputs_make c id height n (o ∷ os) cs (inl is) =
    let d = coin_made id height n o in
    let index = ap (λ (x : Coin). x.outpoint.index) is in
    outputs_keep c id height (n + 1) os (add_coin d cs) (snoc_last c d (without d.outpoint cs) is) (later_apart c.outpoint id height (n + 1) os (omega arith))
outputs_make c id height n (o ∷ os) cs (inr more) = outputs_make c id height (n + 1) os (add_coin (coin_made id height n o) cs) more

-- the coins that inputs leave
from_inputs : (c : Coin) (is : List TxIn) (cs : List Coin) → IsIn c (spend_inputs is cs)
    → IsIn c cs × (list_any (λ (i : TxIn). same_outpoint c.outpoint i.from) is ≡ false)
from_inputs c [] cs h = (h, refl)
from_inputs c (i ∷ is) cs h =
    let rest = from_inputs c is (without i.from cs) h in
    let first = in_left c i.from cs rest.0 in
    (first.0, or_from (same_outpoint c.outpoint i.from) (list_any (λ (x : TxIn). same_outpoint c.outpoint x.from) is) first.1 rest.1)

inputs_keep : (c : Coin) (is : List TxIn) (cs : List Coin) → IsIn c cs → list_any (λ (i : TxIn). same_outpoint c.outpoint i.from) is ≡ false
    → IsIn c (spend_inputs is cs)
inputs_keep c [] cs h none = h
inputs_keep c (i ∷ is) cs h none =
    let parts = or_parts (same_outpoint c.outpoint i.from) (list_any (λ (x : TxIn). same_outpoint c.outpoint x.from) is) none in
    inputs_keep c is (without i.from cs) (in_without_back c i.from cs h parts.0) parts.1

from_left : (c : Coin) (t : Tx) (cs : List Coin) → IsIn c (coins_left t cs) → IsIn c cs × (takes c.outpoint t ≡ false)
from_left c t cs h = elim (cases_Bool (is_coinbase t)) [
  | inl e ↦ let same = rw e at h in (same, rw e refl)
  | inr e ↦ let rest = from_inputs c t.inputs cs (rw e at h) in (rest.0, rw e rest.1)
]

left_keep : (c : Coin) (t : Tx) (cs : List Coin) → IsIn c cs → takes c.outpoint t ≡ false → IsIn c (coins_left t cs)
left_keep c t cs h none = elim (cases_Bool (is_coinbase t)) [
  | inl e ↦ rw e h
  | inr e ↦ let rest = rw e at none in rw e (inputs_keep c t.inputs cs h rest)
]

-- the coins after a position's transaction
from_tx : (c : Coin) (p : Position) (cs : List Coin) → IsIn c (coins_after p.height p.tx cs)
    → IsIn c (makes p) ⊎ (IsIn c cs × (touches c.outpoint p ≡ false))
from_tx c p cs h = by (from_outputs c (txid p.tx) p.height 0 p.tx.outputs (coins_left p.tx cs) h)
  where
    by : IsIn c (makes p) ⊎ (IsIn c (coins_left p.tx cs) × (list_any (is_coin_of c.outpoint) (makes p) ≡ false))
        → IsIn c (makes p) ⊎ (IsIn c cs × (touches c.outpoint p ≡ false))
    by (inl made) = inl made
    by (inr rest) =
        let left = from_left c p.tx cs rest.0 in
        inr (left.0, or_from (takes c.outpoint p.tx) (list_any (is_coin_of c.outpoint) (makes p)) left.1 rest.1)

tx_makes : (c : Coin) (p : Position) (cs : List Coin) → IsIn c (makes p) → IsIn c (coins_after p.height p.tx cs)
tx_makes c p cs made = outputs_make c (txid p.tx) p.height 0 p.tx.outputs (coins_left p.tx cs) made

tx_keeps : (c : Coin) (p : Position) (cs : List Coin) → IsIn c cs → touches c.outpoint p ≡ false → IsIn c (coins_after p.height p.tx cs)
tx_keeps c p cs h none =
    let parts = or_parts (takes c.outpoint p.tx) (list_any (is_coin_of c.outpoint) (makes p)) none in
    outputs_keep c (txid p.tx) p.height 0 p.tx.outputs (coins_left p.tx cs) (left_keep c p.tx cs h parts.0) parts.1

-- the coins after the transactions of positions
abbrev pub after : List Position → List Coin → List Coin
after [] cs = cs
after (p ∷ ps) cs = after ps (coins_after p.height p.tx cs)

pub after_joined : (ps qs : List Position) (cs : List Coin) → after (ps ++ qs) cs ≡ after qs (after ps cs)
after_joined [] qs cs = refl
after_joined (p ∷ ps) qs cs = after_joined ps qs (coins_after p.height p.tx cs)

after_block : (height pos start : ℕ) (ts : List Tx) (cs : List Coin) → after (positions_in height pos start ts cs) cs ≡ coins_after_all height ts cs
after_block height pos start [] cs = refl
after_block height pos start (t ∷ ts) cs = after_block height (pos + 1) (start + length (full_encoding t)) ts (coins_after height t cs)

pub after_chain : (height : ℕ) (chain : Chain) (cs : List Coin) → after (positions_from height chain cs) cs ≡ coins_from height chain cs
after_chain height [] cs = refl
after_chain height (b ∷ bs) cs =
    let mid = coins_after_all height b.block.txs cs in
    after_joined (block_positions height b.block.txs cs) (positions_from (height + 1) bs mid) cs
    ∙ ap (after (positions_from (height + 1) bs mid)) (after_block height 0 (first_start b.block.txs) b.block.txs cs) ∙ after_chain (height + 1) bs mid

from_after : (c : Coin) (ps : List Position) (cs : List Coin) → IsIn c (after ps cs) → IsMadeIn c ps ⊎ (IsIn c cs × Untouched c.outpoint ps)
from_after c [] cs h = inr (h, tt)
from_after c (p ∷ ps) cs h = by (from_after c ps (coins_after p.height p.tx cs) h)
  where
    first : Untouched c.outpoint ps → IsIn c (makes p) ⊎ (IsIn c cs × (touches c.outpoint p ≡ false))
        → IsMadeIn c (p ∷ ps) ⊎ (IsIn c cs × Untouched c.outpoint (p ∷ ps))
    first kept (inl made) = inl (record { front = []; at = p; later = ps; places = refl; made = made; kept = kept })
    first kept (inr old) = inr (old.0, (old.1, kept))

    by : IsMadeIn c ps ⊎ (IsIn c (coins_after p.height p.tx cs) × Untouched c.outpoint ps)
        → IsMadeIn c (p ∷ ps) ⊎ (IsIn c cs × Untouched c.outpoint (p ∷ ps))
    by (inl m) = inl (record { front = p ∷ m.front; at = m.at; later = m.later; places = ap (λ (l : List Position). p ∷ l) m.places; made = m.made; kept = m.kept })
    by (inr rest) = first rest.1 (from_tx c p cs rest.0)

stays : (c : Coin) (ps : List Position) (cs : List Coin) → IsIn c cs → Untouched c.outpoint ps → IsIn c (after ps cs)
stays c [] cs h kept = h
stays c (p ∷ ps) cs h kept = stays c ps (coins_after p.height p.tx cs) (tx_keeps c p cs h kept.0) kept.1

comes : (c : Coin) (front later : List Position) (p : Position) (cs : List Coin) → IsIn c (makes p) → Untouched c.outpoint later
    → IsIn c (after (front ++ p ∷ later) cs)
comes c [] later p cs made kept = stays c later (coins_after p.height p.tx cs) (tx_makes c p cs made) kept
comes c (x ∷ front) later p cs made kept = comes c front later p (coins_after x.height x.tx cs) made kept

-- a coin is there exactly where it was made, and neither taken nor replaced since
pub origin : (c : Coin) (chain : Chain) → IsIn c (coins chain) → IsMadeIn c (positions chain)
origin c chain h = by (from_after c (positions chain) [] (rw (after_chain 0 chain []) h))
  where
    by : IsMadeIn c (positions chain) ⊎ (IsIn c [] × Untouched c.outpoint (positions chain)) → IsMadeIn c (positions chain)
    by (inl m) = m
    by (inr rest) = absurd rest.0

pub there_from : (c : Coin) (chain : Chain) → IsMadeIn c (positions chain) → IsIn c (coins chain)
there_from c chain m =
    subst (IsIn c) (after_chain 0 chain []) (subst (λ (ps : List Position). IsIn c (after ps [])) (sym m.places) (comes c m.front m.later m.at [] m.made m.kept))
