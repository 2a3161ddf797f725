-- The two sides of a move: the blocks that stay with those that were taken back, and with those put in.
use Rattle.std.proofs.Common.{◌≡◌, ℕ, ◌+◌, ◌-◌, suc, false, List, [], ◌∷◌, ◌++◌, length, drop, map, filter, refl, ap, sym, ◌∙◌, arith, append_assoc}
use Rattle.std.proofs.lemmas.Bool.{or_parts}
use Rattle.std.proofs.lemmas.List.{take-append-drop}
use Rattle.std.proofs.lemmas.List.Elements.{filter-append}
use Rattle.std.proofs.lemmas.List.Folds.{list_any-append}
use Rattle.std.specs.List.{list_any}
use Rattle.el_base.specs.declared.hash.Hash32.{Hash32}
use Rattle.el_chain.specs.declared.placed.Placed.{Placed}
use Rattle.el_chain.specs.declared.coin.Coin.{Coin}
use Rattle.el_chain.specs.declared.moves.Plan.{Plan}
use Rattle.el_chain.specs.Chains.{Chain}
use Rattle.el_chain.specs.Coins.{coins, coins_from, coins_after_all, supply}
use Rattle.el_chain.specs.History.{Position, concerns, entry, block_positions, positions_from, positions}
use Rattle.el_chain.specs.Moves.{shorter, target}
use Rattle.el_chain.specs.Touches.{touches, touches_any, AreTouched}
use Rattle.el_chain.proofs.Tallies.{coins_joined}
use Rattle.el_status.specs.Untouched.{LooksSame, KeepsOthers}
use Rattle.el_status.proofs.OwnCoins.{own, blocks_leave, none_after}

positions_joined : (height : ℕ) (front back : Chain) (cs : List Coin)
    → positions_from height (front ++ back) cs ≡ positions_from height front cs ++ positions_from (height + length front) back (coins_from height front cs)
positions_joined height [] back cs = ap (λ (n : ℕ). positions_from n back cs) (let e : height ≡ height + 0 = omega arith in e)
positions_joined height (b ∷ front) back cs =
    let here = block_positions height b.block.txs cs in
    let after = coins_after_all height b.block.txs cs in
    ap (λ (ps : List Position). here ++ ps)
    (positions_joined (height + 1) front back after
    ∙ ap (λ (n : ℕ). positions_from (height + 1) front after ++ positions_from n back (coins_from (height + 1) front after)) (let e : height + 1 + length front ≡ height + suc (length front) = omega arith in e))
    ∙ sym (append_assoc here (positions_from (height + 1) front after) (positions_from (height + suc (length front)) back (coins_from (height + 1) front after)))

-- what is read off the listed positions and the own coins
looks_by : (before after : Chain) (s : List ℕ) → filter (concerns s) (positions before) ≡ filter (concerns s) (positions after)
    → own s (coins before) ≡ own s (coins after) → LooksSame before after s
looks_by before after s listed coins = record {
  listed = listed;
  history = ap (map entry) listed;
  unspent = coins;
  balance = ap supply coins;
}

pub looks_turned : (before after : Chain) (s : List ℕ) → LooksSame before after s → LooksSame after before s
looks_turned before after s h = looks_by after before s (sym h.listed) (sym h.unspent)

pub looks_joined : (a b c : Chain) (s : List ℕ) → LooksSame a b s → LooksSame b c s → LooksSame a c s
looks_joined a b c s h k = looks_by a c s (h.listed ∙ k.listed) (h.unspent ∙ k.unspent)

pub looks_self : (chain : Chain) (s : List ℕ) → LooksSame chain chain s
looks_self chain s = looks_by chain chain s refl refl

-- blocks after a chain that don't touch the script hash
one_side : (s : List ℕ) (front more : Chain) → touches_any s (coins front) more ≡ false → LooksSame front (front ++ more) s
one_side s front more h =
    let left = blocks_leave s (coins front) (0 + length front) more (coins front) refl h in
    looks_by front (front ++ more) s
    (sym (ap (filter (concerns s)) (positions_joined 0 front more [])
    ∙ filter-append (concerns s) (positions front) (positions_from (0 + length front) more (coins front))
    ∙ none_after (filter (concerns s) (positions front)) (filter (concerns s) (positions_from (0 + length front) more (coins front))) left.listed))
    (sym (ap (own s) (coins_joined 0 front more []) ∙ left.coins))

both_sides : (s : List ℕ) (front gone fresh : Chain) → touches_any s (coins front) (gone ++ fresh) ≡ false → LooksSame (front ++ gone) (front ++ fresh) s
both_sides s front gone fresh h =
    let parts = or_parts (touches_any s (coins front) gone) (touches_any s (coins front) fresh)
    (sym (list_any-append (λ (b : Placed). list_any (touches s (coins front)) b.block.txs) gone fresh) ∙ h) in
    looks_joined (front ++ gone) front (front ++ fresh) s (looks_turned front (front ++ gone) s (one_side s front gone parts.0)) (one_side s front fresh parts.1)

-- a move
pub move_keeps : (p : Plan) (chain blocks : Chain) (scripts : List Hash32) → AreTouched p chain blocks scripts → KeepsOthers chain (target p chain blocks) scripts
move_keeps p chain blocks scripts h s none =
    let gone = drop (length chain - p.back) chain in
    let whole : shorter p.back chain ++ gone ≡ chain = take-append-drop (length chain - p.back) chain in
    subst_chain (shorter p.back chain ++ gone) chain whole (both_sides s.0 (shorter p.back chain) gone blocks (sym (h.each s) ∙ none))
  where
    subst_chain : (a b : Chain) → a ≡ b → LooksSame a (target p chain blocks) s.0 → LooksSame b (target p chain blocks) s.0
    subst_chain a b e k = rw (← e) k
