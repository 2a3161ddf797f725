-- The script hashes that transactions concern, step by step.
use Rattle.std.proofs.Common.{◌≡◌, inl, inr, ℕ, suc, ◌+◌, ◌-◌, ◌<◌, ◌≤◌, ◌^◌, min, Bool, true, false, cond, List, [], ◌∷◌, ◌++◌, length, map, drop, get_or, filter, Option, None, Some, option_map, refl, ap, sym, ◌∙◌, append_assoc, append-nil, length-append, arith, true≢false}
use Rattle.std.proofs.lemmas.Bool.{cases_Bool}
use Rattle.std.proofs.lemmas.Slice.Eq.{bytes_eq-Decides}
use Rattle.std.proofs.lemmas.List.Sums.{sum_by_push}
use Rattle.std.specs.List.{list_any, flat_map}
use Rattle.std.specs.Prelude.{option_to_list}
use Rattle.std.specs.Str.{bytes_eq}
use Rattle.std.specs.Map.{lookup}
use Rattle.sha2.specs.Sha256.{sha256}
use Rattle.indexmap.specs.IndexMap.{IndexMap, get}
use Rattle.el_base.specs.declared.hash.Hash32.{Hash32}
use Rattle.el_base.proofs.Lists.{left_at}
use Rattle.el_tx.specs.declared.types.Outpoint.{Outpoint}
use Rattle.el_tx.specs.declared.types.TxIn.{TxIn}
use Rattle.el_tx.specs.declared.types.TxOut.{TxOut}
use Rattle.el_tx.specs.declared.types.Tx.{Tx}
use Rattle.el_tx.specs.Hashing.{same_outpoint}
use Rattle.el_chain.specs.declared.placed.Placed.{Placed}
use Rattle.el_chain.specs.declared.coin.Coin.{Coin}
use Rattle.el_coins.specs.declared.meter.Meter.{Meter}
use Rattle.el_chain.specs.Chains.{Chain}
use Rattle.el_chain.specs.Coins.{is_coin_of, without, add_coin, coins_after, coins_after_all, coins_from, coins}
use Rattle.el_chain.specs.RowCounts.{spent_scripts, output_script, is_script_among, add_script, add_scripts}
use Rattle.el_chain.specs.CoinLists.{coin_in, AreOnce}
use Rattle.el_coins.specs.within.Meters.{AreScripts, IsMeter, met_by, met_in, met_from}
use Rattle.el_chain.proofs.CoinLists.{same_gives, differs, in_without, in_put, once_without, once_put}
use Rattle.el_chain.proofs.Meters.{gather_joined}
use Rattle.el_chain.proofs.Tallies.{coins_joined}

-- the script hash of a coin
abbrev pub script_of : Coin → Hash32
script_of c = c.script

-- a condition under a look-up of script hashes
map_cond : (b : Bool) (x y : Option Coin) → option_map script_of (cond b x y) ≡ cond b (option_map script_of x) (option_map script_of y)
map_cond true x y = refl
map_cond false x y = refl

-- the script hashes where a coin is taken
pub scripts_taken : {S : Type 0} (old new : IndexMap Outpoint Hash32 S) (coins : List Coin) (p : Outpoint) → AreScripts old coins
    → ((o : Outpoint) → get same_outpoint new o ≡ cond (same_outpoint p o) None (get same_outpoint old o)) → AreScripts new (without p coins)
scripts_taken old new coins p h says = record {
  each = λ o. says o ∙ ap (cond (same_outpoint p o) None) (h.each o) ∙ sym (ap (option_map script_of) (in_without p coins o) ∙ map_cond (same_outpoint p o) None (coin_in coins o));
  once = once_without p coins h.once;
}

-- and where one is put
pub scripts_made : {S : Type 0} (old new : IndexMap Outpoint Hash32 S) (coins : List Coin) (c : Coin) → AreScripts old coins
    → ((o : Outpoint) → get same_outpoint new o ≡ cond (same_outpoint c.outpoint o) (Some c.script) (get same_outpoint old o)) → AreScripts new (add_coin c coins)
scripts_made old new coins c h says = record {
  each = λ o. says o ∙ ap (cond (same_outpoint c.outpoint o) (Some c.script)) (h.each o) ∙ sym (ap (option_map script_of) (in_put c coins o) ∙ map_cond (same_outpoint c.outpoint o) (Some c) (coin_in coins o));
  once = once_put c coins h.once;
}

-- no coin of an outpoint that has none
none_of : (o : Outpoint) (coins : List Coin) → coin_in coins o ≡ None → filter (is_coin_of o) coins ≡ []
none_of o [] h = refl
none_of o (c ∷ cs) h = elim (cases_Bool (same_outpoint c.outpoint o)) [
  | inl e ↦ let bad = rw e at h in absurd (some_none bad)
  | inr e ↦ let rest = rw e at h in rw e (none_of o cs rest)
]
  where
    some_none : Some c ≡ None → ⊥
    some_none f = cc

-- the coins of an outpoint are at most one
pub one_of : (o : Outpoint) (coins : List Coin) → AreOnce coins → map script_of (filter (is_coin_of o) coins) ≡ option_to_list (option_map script_of (coin_in coins o))
one_of o [] once = refl
one_of o (c ∷ cs) once = elim (cases_Bool (same_outpoint c.outpoint o)) [
  | inl e ↦
      let is = same_gives c.outpoint o e in
      let none = none_of o cs (rw is at once.0) in
      rw (e, none) refl
  | inr e ↦ rw e (one_of o cs once.1)
]

-- an input, whose coin's script hash a map has or not
pub taken_step : {S : Type 0} (scripts : IndexMap Outpoint Hash32 S) (coins : List Coin) (inputs : List TxIn) (n : ℕ) (i : TxIn) (r : Option Hash32) (found : List Hash32)
    → AreScripts scripts coins → n < length inputs → i ≡ get_or inputs n i → r ≡ get same_outpoint scripts i.from
    → found ++ spent_scripts coins (drop n inputs) ≡ (found ++ option_to_list r) ++ spent_scripts coins (drop (n + 1) inputs)
taken_step scripts coins inputs n i r found h lt is looked =
    let left = left_at inputs n i lt is in
    ap (λ (is : List TxIn). found ++ spent_scripts coins is) left
    ∙ ap (λ (l : List Hash32). found ++ (l ++ spent_scripts coins (drop (n + 1) inputs))) (one_of i.from coins h.once ∙ ap option_to_list (sym (looked ∙ h.each i.from)))
    ∙ sym (append_assoc found (option_to_list r) (spent_scripts coins (drop (n + 1) inputs)))

-- an output, whose script hash is appended
pub made_step : (outputs : List TxOut) (n : ℕ) (o : TxOut) (found : List Hash32) → n < length outputs → o ≡ get_or outputs n o
    → found ++ map output_script (drop n outputs) ≡ (found ++ output_script o ∷ []) ++ map output_script (drop (n + 1) outputs)
made_step outputs n o found lt is =
    let left = left_at outputs n o lt is in
    ap (λ (os : List TxOut). found ++ map output_script os) left ∙ sym (append_assoc found (output_script o ∷ []) (map output_script (drop (n + 1) outputs)))

-- script hashes are gathered one after the other
pub gather_step : (before found : List Hash32) (n : ℕ) (s : Hash32) → n < length found → s ≡ get_or found n s
    → add_scripts before (drop n found) ≡ add_scripts (add_script s before) (drop (n + 1) found)
gather_step before found n s lt is =
    let left = left_at found n s lt is in
    rw left refl

-- how many there are at most
once_within : (s : Hash32) (before : List Hash32) → length (add_script s before) ≤ length before + 1
once_within s before = elim (cases_Bool (is_script_among s before)) [
  | inl e ↦ rw e (omega arith)
  | inr e ↦ let joined = length-append before (s ∷ []) in rw e (omega arith)
]

pub gather_within : (before ss : List Hash32) → length (add_scripts before ss) ≤ length before + length ss
gather_within before [] = omega arith
gather_within before (s ∷ ss) =
    let one = once_within s before in
    let rest = gather_within (add_script s before) ss in
    omega arith

-- a flat list with one more at the end
flat_more : (lists : List (List Hash32)) (m : List Hash32) → flat_map (λ (l : List Hash32). l) (lists ++ m ∷ []) ≡ flat_map (λ (l : List Hash32). l) lists ++ m
flat_more [] m = append-nil m
flat_more (l ∷ lists) m = ap (λ (x : List Hash32). l ++ x) (flat_more lists m) ∙ sym (append_assoc l (flat_map (λ (x : List Hash32). x) lists) m)

-- one transaction more is counted
pub meter_more : (old new : Meter) (lists : List (List Hash32)) (coins coins' : List Coin) (m own : List Hash32) → IsMeter old lists coins → AreScripts new.coins coins'
    → new.scripts.keys ≡ add_scripts old.scripts.keys m → own ≡ add_scripts [] m → new.entries ≡ min (old.entries + length own) (2 ^ 64 - 1) → IsMeter new (lists ++ m ∷ []) coins'
meter_more old new lists coins coins' m own h scripts keys own_is total = record {
  coins_are = scripts;
  scripts = keys ∙ ap (λ (l : List Hash32). add_scripts l m) h.scripts ∙ sym (gather_joined [] (flat_map (λ (l : List Hash32). l) lists) m) ∙ ap (add_scripts []) (sym (flat_more lists m));
  entries =
      let pushed = sum_by_push (λ (l : List Hash32). length (add_scripts [] l)) lists m in
      let before = h.entries in
      let own_long = ap (λ (l : List Hash32). length l) own_is in
      omega arith;
}

-- a transaction was counted, and those after it are left
pub met_step : (height n : ℕ) (ts : List Tx) (t : Tx) (coins : List Coin) (so whole : List (List Hash32)) → n < length ts → t ≡ get_or ts n t
    → so ++ met_in height (drop n ts) coins ≡ whole → (so ++ met_by coins t ∷ []) ++ met_in height (drop (n + 1) ts) (coins_after height t coins) ≡ whole
met_step height n ts t coins so whole lt is h =
    let left = left_at ts n t lt is in
    append_assoc so (met_by coins t ∷ []) (met_in height (drop (n + 1) ts) (coins_after height t coins)) ∙ ap (λ (us : List Tx). so ++ met_in height us coins) (sym left) ∙ h

-- a block's transactions were counted, and the blocks after it are left
pub blocks_step : (height n : ℕ) (chain : Chain) (b : Placed) (ts : List Tx) (coins : List Coin) (so whole : List (List Hash32)) → n < length chain → b ≡ get_or chain n b → ts ≡ b.block.txs
    → so ++ met_from height (drop n chain) coins ≡ whole
    → (so ++ met_in height ts coins) ++ met_from (height + 1) (drop (n + 1) chain) (coins_after_all height ts coins) ≡ whole
blocks_step height n chain b ts coins so whole lt is txs h =
    let left = left_at chain n b lt is in
    append_assoc so (met_in height ts coins) (met_from (height + 1) (drop (n + 1) chain) (coins_after_all height ts coins))
    ∙ ap (λ (us : List Tx). so ++ (met_in height us coins ++ met_from (height + 1) (drop (n + 1) chain) (coins_after_all height us coins))) txs
    ∙ ap (λ (bs : Chain). so ++ met_from height bs coins) (sym left) ∙ h

pub coins_step : (height n : ℕ) (chain : Chain) (b : Placed) (ts : List Tx) (coins : List Coin) → n < length chain → b ≡ get_or chain n b → ts ≡ b.block.txs
    → coins_from height (drop n chain) coins ≡ coins_from (height + 1) (drop (n + 1) chain) (coins_after_all height ts coins)
coins_step height n chain b ts coins lt is txs =
    let left = left_at chain n b lt is in
    rw (left, txs) refl

-- whether a script hash is among others, as a set says it
among_turned : (s : Hash32) (scripts : List Hash32) → list_any (λ (x : Hash32). bytes_eq s.0 x.0) scripts ≡ is_script_among s scripts
among_turned s [] = refl
among_turned s (x ∷ xs) = rw (turned s.0 x.0 (bytes_eq s.0 x.0) refl, among_turned s xs) refl
  where
    turned : (a b : List ℕ) (r : Bool) → bytes_eq a b ≡ r → bytes_eq a b ≡ bytes_eq b a
    turned a b true e = e ∙ sym ((bytes_eq-Decides b a).1 (sym ((bytes_eq-Decides a b).0 e)))
    turned a b false e = e ∙ sym (differs (bytes_eq b a) (λ t. true≢false (sym ((bytes_eq-Decides a b).1 (sym ((bytes_eq-Decides b a).0 t))) ∙ e)))

-- a set into which a script hash was put
pub gathered : (before new found whole : List Hash32) (n : ℕ) (s : Hash32) → n < length found → s ≡ get_or found n s
    → new ≡ cond (list_any (λ (x : Hash32). bytes_eq s.0 x.0) before) before (before ++ s ∷ []) → add_scripts before (drop n found) ≡ whole → add_scripts new (drop (n + 1) found) ≡ whole
gathered before new found whole n s lt is put h =
    ap (λ (l : List Hash32). add_scripts l (drop (n + 1) found)) (put ∙ ap (λ (b : Bool). cond b before (before ++ s ∷ [])) (among_turned s before))
    ∙ sym (gather_step before found n s lt is) ∙ h

-- what was counted, said of what it is equal to
pub ended : (m : Meter) (lists lists' : List (List Hash32)) (coins coins' : List Coin) → IsMeter m lists coins → lists ≡ lists' → coins' ≡ coins → IsMeter m lists' coins'
ended m lists lists' coins coins' h is coins_are = rw (← is, coins_are) h

-- the script hash of an output, as the code computes it
pub script_same : (s : Hash32) (o : TxOut) (text : List ℕ) → s.0 ≡ sha256 text → text ≡ o.script → s ≡ output_script o
script_same s o text is same = ap (λ (bytes : List ℕ). record { 0 = bytes }) (is ∙ ap sha256 same)

-- blocks in two parts
met_parted : (height : ℕ) (front back : Chain) (cs : List Coin) → met_from height (front ++ back) cs ≡ met_from height front cs ++ met_from (height + length front) back (coins_from height front cs)
met_parted height [] back cs = ap (λ (n : ℕ). met_from n back cs) (let e : height ≡ height + 0 = omega arith in e)
met_parted height (b ∷ bs) back cs =
    let mid = coins_after_all height b.block.txs cs in
    ap (λ (l : List (List Hash32)). met_in height b.block.txs cs ++ l)
    (met_parted (height + 1) bs back mid
    ∙ ap (λ (n : ℕ). met_from (height + 1) bs mid ++ met_from n back (coins_from (height + 1) bs mid)) (let e : height + 1 + length bs ≡ height + suc (length bs) = omega arith in e))
    ∙ sym (append_assoc (met_in height b.block.txs cs) (met_from (height + 1) bs mid) (met_from (height + suc (length bs)) back (coins_from (height + 1) bs mid)))

-- before anything is counted
pub meter_begins : (m : Meter) → m.coins.entries ≡ [] → m.scripts.keys ≡ [] → m.entries ≡ 0 → IsMeter m [] []
meter_begins m none no_keys zero = record {
  coins_are = record { each = λ o. ap (λ (es : List (Outpoint × Hash32)). lookup (same_outpoint o) es) none; once = tt };
  scripts = no_keys;
  entries = zero;
}

-- a chain in two parts was counted, and transactions after it
pub all_met : (start one two three : Meter) (front back : Chain) (ts : List Tx) → IsMeter start [] []
    → ((height : ℕ) (lists : List (List Hash32)) (cs : List Coin) → IsMeter start lists cs → IsMeter one (lists ++ met_from height front cs) (coins_from height front cs))
    → ((height : ℕ) (lists : List (List Hash32)) (cs : List Coin) → IsMeter one lists cs → IsMeter two (lists ++ met_from height back cs) (coins_from height back cs))
    → ((height : ℕ) (lists : List (List Hash32)) (cs : List Coin) → IsMeter two lists cs → IsMeter three (lists ++ met_in height ts cs) (coins_after_all height ts cs))
    → IsMeter three (met_from 0 (front ++ back) [] ++ met_in (length (front ++ back)) ts (coins (front ++ back))) (coins_after_all (length (front ++ back)) ts (coins (front ++ back)))
all_met start one two three front back ts h a b c =
    let first = a 0 [] [] h in
    let second = b (0 + length front) (met_from 0 front []) (coins_from 0 front []) first in
    let lists = met_parted 0 front back [] in
    let left = coins_joined 0 front back [] in
    c (length (front ++ back)) (met_from 0 (front ++ back) []) (coins (front ++ back)) (rw (lists, left) second)
