-- Where the block files have a chain's blocks or its transactions, the bytes of these are their own.
use Rattle.std.proofs.Common.{◌≡◌, ◌≢◌, ◌∙◌, sym, ap, subst, ℕ, ◌+◌, Bool, true, false, if◌then◌else◌, List, [], ◌∷◌, ◌++◌, length, Option, Some, None, option_map, option_and_then, Result, Ok, Err, refl}
use Rattle.std.specs.Prelude.{IfOk, IfErr}
use Rattle.serde_json.specs.Data.{Data}
use Rattle.std.specs.Str.{bytes_eq}
use Rattle.std.proofs.lemmas.Slice.Eq.{bytes_eq-Decides}
use Rattle.el_base.specs.declared.hash.Hash32.{Hash32}
use Rattle.el_outside.specs.declared.archive.Place.{Place}
use Rattle.el_tx.specs.Encoding.{Encodes, HasEncoding}
use Rattle.el_tx.specs.Hashing.{txid, full_encoding}
use Rattle.el_tx.proofs.Decoded.{is_full_encoding}
use Rattle.el_chain.specs.Chains.{Chain}
use Rattle.el_chain.specs.Coins.{coins_after_all}
use Rattle.el_chain.specs.Faults.{AreNext, IsGood}
use Rattle.el_chain.specs.History.{Position, positions, positions_from, block_positions}
use Rattle.el_chain.specs.declared.coin.Coin.{Coin}
use Rattle.el_chain.specs.declared.node.Spot.{Spot}
use Rattle.el_files.specs.Reading.{text_at, IsTxOf}
use Rattle.el_model.specs.Queries.{newest, place_at, spot_of, find_tx}
use Rattle.el_methods.specs.Archives.{HasBlocks, HasTransaction, IsDifferentTx}
use Rattle.el_methods.specs.Outcomes.{IsAnswer}
use Rattle.el_methods.specs.Results.{hex, transaction_get}
use Rattle.el_calls.specs.declared.refusal.Refusal.{Refusal}
use Rattle.el_methods.specs.declared.stop.Stop.{Stop}
use Rattle.el_methods.specs.declared.stop.Stop.TheVariants as stop
use Rattle.el_methods.proofs.Found.{chosen, newest-append}
use Rattle.el_methods.proofs.Places.{newest_stands, has_encoding}

same_hash : (a b : Hash32) → bytes_eq a.0 b.0 ≡ true → a ≡ b
same_hash a b h = ap (λ (bytes : List ℕ). record { 0 = bytes }) ((bytes_eq-Decides a.0 b.0).0 h)

one_newest : (id : Hash32) (x q : Position) (b : Bool) → bytes_eq (txid x.tx).0 id.0 ≡ b
    → (if b then Some x else None) ≡ Some q → txid q.tx ≡ id
one_newest id x q true is e =
    let same : x ≡ q = cc in subst (λ (p : Position). txid p.tx ≡ id) same (same_hash (txid x.tx) id is)
one_newest id x q false is e = absurd (cc)

has_txid : (id : Hash32) (ps : List Position) (p : Position) → newest id ps ≡ Some p → txid p.tx ≡ id
has_txid id [] p e = absurd (cc)
has_txid id (x ∷ xs) p e =
    chosen (λ q. txid q.tx ≡ id) (newest id xs) _ (λ q f. has_txid id xs q f)
    (λ q f. one_newest id x q (bytes_eq (txid x.tx).0 id.0) refl f) p e

is_tx : (id : Hash32) (p : Position) (place : Place) (text : List ℕ) → text ≡ full_encoding p.tx
    → HasEncoding p.tx → txid p.tx ≡ id → IsTxOf (spot_of p place).len id text
is_tx id p place text is has named = record {
  size = ap length is;
  tx = p.tx;
  encoded = subst (λ bytes. Encodes bytes p.tx) (is_full_encoding has.0 p.tx has.1 ∙ sym is) has.1;
  is = named;
}

-- a position that was found has a spot
placed : (p : Position) (s : Spot) (at : Option Place) → option_map (spot_of p) at ≡ Some s
    → (place : Place) × (at ≡ Some place) × (spot_of p place ≡ s)
placed p s None e = absurd (cc)
placed p s (Some place) e = (place, refl, (let h : Some (spot_of p place) ≡ Some s = e in cc))

found : (chain : Chain) (s : Spot) (o : Option Position)
    → option_and_then (λ (p : Position). option_map (spot_of p) (place_at chain p.height)) o ≡ Some s
    → (p : Position) × (o ≡ Some p) × (place : Place) × (place_at chain p.height ≡ Some place)
    × (spot_of p place ≡ s)
found chain s None e = absurd (cc)
found chain s (Some p) e = let at = placed p s (place_at chain p.height) e in (p, refl, at.0, at.1, at.2)

-- the bytes at its spot are a transaction's own where they are its encoding
stands_whole : (files : ℕ → List ℕ) (chain : Chain) (id : Hash32) (s : Spot) (p : Position) (place : Place)
    → newest id (positions chain) ≡ Some p → spot_of p place ≡ s
    → text_at (spot_of p place) (files place.file) ≡ full_encoding p.tx → HasEncoding p.tx
    → IsDifferentTx s id (files s.place.file) → ⊥
stands_whole files chain id s p place new at stands has changed =
    let whole = is_tx id p place _ stands has (has_txid id (positions chain) p new) in
    let P : Spot → Type 0 = λ q. IsTxOf q.len id (text_at q (files q.place.file)) in
    changed.1.other (subst P at whole)

pub unchanged : (files : ℕ → List ℕ) (chain : Chain) (id : Hash32) (s : Spot) → HasBlocks files chain
    → find_tx chain id ≡ Some s → IsDifferentTx s id (files s.place.file) → ⊥
unchanged files chain id s has is changed =
    let at = found chain s (newest id (positions chain)) is in
    let stands = newest_stands files chain id at.0 at.2 has at.1 at.3 in
    stands_whole files chain id s at.0 at.2 at.1 at.4 stands.0 stands.1 changed

-- each transaction of blocks that may follow one another has an encoding
encoded_from : (id : Hash32) (before : Chain) (height : ℕ) (chain : Chain) (coins : List Coin)
    → AreNext before chain → (p : Position) → newest id (positions_from height chain coins) ≡ Some p
    → HasEncoding p.tx
encoded_from id before height [] coins next p e = absurd (cc)
encoded_from id before height (b ∷ bs) coins next p e =
    let after = coins_after_all height b.block.txs coins in
    let here = block_positions height b.block.txs coins in
    chosen (λ q. HasEncoding q.tx) (newest id (positions_from (height + 1) bs after)) (newest id here)
    (λ q f. encoded_from id (before ++ b ∷ []) (height + 1) bs after next.1 q f)
    (λ q f. has_encoding id next.0.encoded.0 height b coins next.0.encoded.1 q f) p
    (sym (newest-append id here (positions_from (height + 1) bs after)) ∙ e)

-- also where the block files have that transaction of a good chain
of_transaction : (files : ℕ → List ℕ) (chain : Chain) (id : Hash32) (s : Spot) → IsGood chain
    → HasTransaction files chain id → find_tx chain id ≡ Some s → IsDifferentTx s id (files s.place.file) → ⊥
of_transaction files chain id s good has is changed =
    let at = found chain s (newest id (positions chain)) is in
    stands_whole files chain id s at.0 at.2 at.1 at.4 (has at.0 at.2 at.1 at.3)
    (encoded_from id [] 0 chain [] good.each at.0 at.1) changed

-- so that they have changed is not told then
pub not_told : (files : ℕ → List ℕ) (chain : Chain) (id : Hash32) (s : Spot) → IsGood chain
    → HasTransaction files chain id → find_tx chain id ≡ Some s → (given : Result Data Stop)
    → IfErr given (λ e. e ≡ stop.Changed → IsDifferentTx s id (files s.place.file)) → given ≢ Err stop.Changed
not_told files chain id s good has is (Ok answer) told same = absurd (cc)
not_told files chain id s good has is (Err e) told same =
    of_transaction files chain id s good has is (told (let h : Err e ≡ Err stop.Changed = same in cc))

-- and the bytes at its spot answer for it
pub text_answers : (files : ℕ → List ℕ) (chain : Chain) (id : Hash32) (s : Spot) → HasTransaction files chain id
    → find_tx chain id ≡ Some s → (given : Result Data Stop) → IfOk given (λ a. a ≡ hex (text_at s (files s.place.file)))
    → IfErr given (λ e. (r : Refusal) → e ≡ stop.Refused r → ⊥) → IsAnswer (transaction_get chain [] id false) given
text_answers files chain id s has is (Ok answer) text never =
    let at = found chain s (newest id (positions chain)) is in
    let P : Spot → Type 0 = λ q. answer ≡ hex (text_at q (files q.place.file)) in
    let here : answer ≡ hex (text_at (spot_of at.0 at.2) (files at.2.file)) = subst P (sym at.4) text in
    let whole : answer ≡ hex (full_encoding at.0.tx) = here ∙ ap hex (has at.0 at.2 at.1 at.3) in
    rw (at.1, whole) refl
text_answers files chain id s has is (Err (stop.Refused r)) text never = absurd (never r refl)
text_answers files chain id s has is (Err stop.Disk) text never = tt
text_answers files chain id s has is (Err stop.Archive) text never = tt
text_answers files chain id s has is (Err stop.Changed) text never = tt
text_answers files chain id s has is (Err stop.Memory) text never = tt
