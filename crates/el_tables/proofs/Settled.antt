-- What inputs and outputs one by one leave of the outputs before is what becomes of each by the whole transaction.
use Rattle.std.proofs.Common.{◌≡◌, inl, inr, ℕ, ◌+◌, Bool, true, false, cond, ◌&&◌, ◌||◌, List, [], ◌∷◌, map, refl, ap, sym, ◌∙◌}
use Rattle.std.proofs.lemmas.Bool.{cases_Bool}
use Rattle.std.specs.List.{list_any}
use Rattle.el_base.specs.declared.hash.Hash32.{Hash32}
use Rattle.el_tx.specs.declared.types.Outpoint.{Outpoint}
use Rattle.el_tx.specs.declared.types.TxIn.{TxIn}
use Rattle.el_tx.specs.declared.types.TxOut.{TxOut}
use Rattle.el_tx.specs.declared.types.Tx.{Tx}
use Rattle.el_tx.specs.Hashing.{txid, same_outpoint, is_coinbase}
use Rattle.el_chain.specs.RowCounts.{spending_inputs}
use Rattle.el_chain.specs.declared.coin.Coin.{Coin}
use Rattle.el_chain.specs.Coins.{is_coin_of}
use Rattle.el_chain.specs.CoinLaws.{coins_made, takes}
use Rattle.el_tables.specs.Lists.{State, is_unspent}
use Rattle.el_tables.specs.Lists.State.{Unspent, Spent, Buried}
use Rattle.el_chain.specs.History.{Position}
use Rattle.el_tables.specs.ChainLists.{Output, makes_outpoint}
use Rattle.el_tables.proofs.Outputs.{moved_on, moved_out, turned}
use Rattle.el_tables.proofs.Names.{settle}
use Rattle.el_tables.proofs.Steps.{settle_inputs, bury_outputs}

-- an output after a transaction that takes and makes some
abbrev pub step_out : (Coin → Bool) → (Coin → Bool) → ℕ → Output → Output
step_out taken made m x = record { tx = x.tx; coin = x.coin; state = moved_on (taken x.coin) (made x.coin) m x.state }

maps_joined : {X : Type 0} (f g h : X → X) → ((x : X) → f (g x) ≡ h x) → (xs : List X) → map f (map g xs) ≡ map h xs
maps_joined f g h same [] = refl
maps_joined f g h same (x ∷ xs) = let one = same x in let rest = maps_joined f g h same xs in rw (one, rest) refl

map_same : {X : Type 0} (f : X → X) → ((x : X) → x ≡ f x) → (xs : List X) → xs ≡ map f xs
map_same f same [] = refl
map_same f same (x ∷ xs) = let one = sym (same x) in let rest = sym (map_same f same xs) in rw (one, rest) refl

abbrev pub never : Coin → Bool
never c = false

untouched : (m : ℕ) (s : State) → s ≡ moved_on false false m s
untouched m Unspent = refl
untouched m (Spent k) = refl
untouched m (Buried k) = refl

-- an input
one_taken : (m : ℕ) (a b : Bool) (s : State) → moved_on b false m (cond (a && is_unspent s) (Spent m) s) ≡ moved_on (a || b) false m s
one_taken m true b Unspent = refl
one_taken m false b Unspent = refl
one_taken m true b (Spent k) = refl
one_taken m false b (Spent k) = refl
one_taken m true b (Buried k) = refl
one_taken m false b (Buried k) = refl

-- an output
one_made : (m : ℕ) (a b : Bool) (s : State) → moved_on false b m (cond (a && is_unspent s) (Buried m) s) ≡ moved_on false (a || b) m s
one_made m true b Unspent = refl
one_made m false b Unspent = refl
one_made m true b (Spent k) = refl
one_made m false b (Spent k) = refl
one_made m true b (Buried k) = refl
one_made m false b (Buried k) = refl

both : (m : ℕ) (a b : Bool) (s : State) → moved_on false b m (moved_on a false m s) ≡ moved_on a b m s
both m true b Unspent = refl
both m false b Unspent = refl
both m a b (Spent k) = refl
both m a b (Buried k) = refl

abbrev pub is_taken : List TxIn → Coin → Bool
is_taken is c = list_any (λ (i : TxIn). same_outpoint c.outpoint i.from) is

pub inputs_settle : (m : ℕ) (is : List TxIn) (xs : List Output) → settle_inputs m is xs ≡ map (step_out (is_taken is) never m) xs
inputs_settle m [] xs = map_same (step_out (is_taken []) never m) (λ x. ap (λ (s : State). record { tx = x.tx; coin = x.coin; state = s }) (untouched m x.state)) xs
inputs_settle m (i ∷ is) xs =
    inputs_settle m is (map (settle (Spent m) i.from) xs)
    ∙ maps_joined (step_out (is_taken is) never m) (settle (Spent m) i.from) (step_out (is_taken (i ∷ is)) never m)
    (λ x. ap (λ (s : State). record { tx = x.tx; coin = x.coin; state = s }) (one_taken m (is_coin_of i.from x.coin) (is_taken is x.coin) x.state)) xs

abbrev pub is_made : Hash32 → ℕ → ℕ → List TxOut → Coin → Bool
is_made id height index os c = list_any (is_coin_of c.outpoint) (coins_made id height index os)

pub outputs_settle : (m : ℕ) (id : Hash32) (height index : ℕ) (os : List TxOut) (xs : List Output) → bury_outputs m id index os xs ≡ map (step_out never (is_made id height index os) m) xs
outputs_settle m id height index [] xs =
    map_same (step_out never (is_made id height index []) m) (λ x. ap (λ (s : State). record { tx = x.tx; coin = x.coin; state = s }) (untouched m x.state)) xs
outputs_settle m id height index (o ∷ os) xs =
    let point : Outpoint = record { txid = id; index = index } in
    outputs_settle m id height (index + 1) os (map (settle (Buried m) point) xs)
    ∙ maps_joined (step_out never (is_made id height (index + 1) os) m) (settle (Buried m) point) (step_out never (is_made id height index (o ∷ os)) m)
    (λ x. ap (λ (s : State). record { tx = x.tx; coin = x.coin; state = s })
    (one_made m (is_coin_of point x.coin) (is_made id height (index + 1) os x.coin) x.state
    ∙ ap (λ (b : Bool). moved_on false (b || is_made id height (index + 1) os x.coin) m x.state) (turned x.coin.outpoint point))) xs

-- the whole transaction
takes_is : (t : Tx) (c : Coin) → is_taken (spending_inputs t) c ≡ takes c.outpoint t
takes_is t c = elim (cases_Bool (is_coinbase t)) [
  | inl h ↦ rw h refl
  | inr h ↦ rw h refl
]

pub whole_settles : (m : ℕ) (p : Position) (xs : List Output) → bury_outputs m (txid p.tx) 0 p.tx.outputs (settle_inputs m (spending_inputs p.tx) xs) ≡ map (moved_out m p) xs
whole_settles m p xs =
    ap (bury_outputs m (txid p.tx) 0 p.tx.outputs) (inputs_settle m (spending_inputs p.tx) xs)
    ∙ outputs_settle m (txid p.tx) p.height 0 p.tx.outputs (map (step_out (is_taken (spending_inputs p.tx)) never m) xs)
    ∙ maps_joined (step_out never (is_made (txid p.tx) p.height 0 p.tx.outputs) m) (step_out (is_taken (spending_inputs p.tx)) never m) (moved_out m p)
    (λ x. ap (λ (s : State). record { tx = x.tx; coin = x.coin; state = s })
    (both m (is_taken (spending_inputs p.tx) x.coin) (makes_outpoint x.coin.outpoint p) x.state
    ∙ ap (λ (b : Bool). moved_on b (makes_outpoint x.coin.outpoint p) m x.state) (takes_is p.tx x.coin))) xs
