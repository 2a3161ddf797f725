-- What a block touches, by the last entries and the last transactions of the lists.
use Rattle.std.proofs.Common.{◌≡◌, inl, inr, ℕ, ◌+◌, ◌-◌, ◌<◌, ◌≤◌, Bool, true, false, ◌||◌, List, [], ◌∷◌, ◌++◌, length, map, Some, None, option_map, refl, ap, ap₂, sym, subst, ◌∙◌, arith, append_assoc, append-nil, length-append}
use Rattle.std.proofs.lemmas.List.{length-map}
use Rattle.std.proofs.lemmas.Bool.{cases_Bool}
use Rattle.std.specs.List.{list_any, AllByRecursion, flat_map}
use Rattle.el_base.specs.declared.hash.Hash32.{Hash32}
use Rattle.el_tx.specs.declared.types.Tx.{Tx}
use Rattle.el_tx.specs.Hashing.{full_encoding, txid}
use Rattle.el_chain.specs.declared.coin.Coin.{Coin}
use Rattle.el_chain.specs.declared.placed.Placed.{Placed}
use Rattle.el_chain.specs.Chains.{Chain}
use Rattle.el_chain.specs.Coins.{coins, coins_after, coins_after_all}
use Rattle.el_chain.specs.CoinLaws.{coins_made}
use Rattle.el_chain.specs.History.{Position, positions, positions_in, positions_from, block_positions, first_start, funds, spends}
use Rattle.el_chain.specs.RowCounts.{is_script_among, concerned_scripts, add_scripts}
use Rattle.el_chain.specs.Touches.{touches, touches_any, replaces}
use Rattle.el_chain.proofs.GoodChains.{coins_more}
use Rattle.el_chain.proofs.Tallies.{positions_more}
use Rattle.el_tables.specs.ChainLists.{ListedBlock, scripts_of, outputs, entry_of, entries_from, lists, lists_of, listed_blocks}
use Rattle.el_prepare.specs.Prepared.{prepared}
use Rattle.el_tables.specs.Connecting.{block_between}
use Rattle.el_tables.specs.Disconnecting.{last}
use Rattle.el_tables.specs.Lists.{Lists, ListedEntry, script_number}
use Rattle.el_tables.specs.Tables.{numbers_from}
use Rattle.el_tables.proofs.Connects.{outputs_have}
use Rattle.el_tables.proofs.Listing.{met_is}
use Rattle.el_tables.proofs.Numbering.{length_txs}
use Rattle.el_tables.proofs.Outputs.{coins_of, coins_step, chain_coins}
use Rattle.el_tables.proofs.Scripts.{AllIn, all_from, all_has, has_more, has_back, gathered, gather_has, all_met}
use Rattle.el_tables.proofs.TakeBack.{last_is}
use Rattle.el_tables.proofs.UndoneBlocks.{row_more}
use Rattle.el_queries.specs.TouchedBy.{touched_in}
use Rattle.el_queries.specs.within.LastBlock.{is_entry_of_script, buries, AreLast}
use Rattle.el_queries.proofs.Law.{true_false, any_joined, Follow, follow_chain, law}
use Rattle.el_queries.proofs.Burials.{at_number, own_kept, all_buried, replaced_kept}

-- 1. Entries

flat_joined : (ps qs : List Position) → flat_map concerned_scripts (ps ++ qs) ≡ flat_map concerned_scripts ps ++ flat_map concerned_scripts qs
flat_joined [] qs = refl
flat_joined (p ∷ ps) qs = let rest = flat_joined ps qs in rw rest (sym (append_assoc (concerned_scripts p) (flat_map concerned_scripts ps) (flat_map concerned_scripts qs)))

entries_has : (s : Hash32) (l : Lists) (n : ℕ) (ss : List Hash32) → AllIn l.scripts ss → list_any (is_entry_of_script s l) (map (entry_of l.scripts n) ss) ≡ is_script_among s ss
entries_has s l n [] all = refl
entries_has s l n (x ∷ xs) all = ap₂ (λ (a b : Bool). a || b) (at_number s x l.scripts all.0) (entries_has s l n xs all.1)

once_has : (s : Hash32) (ss : List Hash32) → is_script_among s (add_scripts [] ss) ≡ is_script_among s ss
once_has s ss = elim (cases_Bool (is_script_among s ss)) [
  | inl h ↦ gather_has ss [] s h ∙ sym h
  | inr h ↦ elim (cases_Bool (is_script_among s (add_scripts [] ss))) [
    | inl e ↦ absurd (true_false (sym (gathered ss s e) ∙ h))
    | inr e ↦ e ∙ sym h
  ]
]

one_concerns : (s : Hash32) (l : Lists) (n : ℕ) (p : Position) → AllIn l.scripts (concerned_scripts p)
    → list_any (is_entry_of_script s l) (map (entry_of l.scripts n) (add_scripts [] (concerned_scripts p))) ≡ (funds s.0 p.tx || spends s.0 p.before p.tx)
one_concerns s l n p all =
    entries_has s l n (add_scripts [] (concerned_scripts p)) (all_from l.scripts (add_scripts [] (concerned_scripts p)) (λ t h. all_has l.scripts (concerned_scripts p) t all (gathered (concerned_scripts p) t h)))
    ∙ once_has s (concerned_scripts p) ∙ met_is s p

-- 2. One transaction

three : (f p r k : Bool) → (p ≡ false → r ≡ k) → (f || (p || r)) ≡ ((f || p) || k)
three true p r k h = refl
three false true r k h = refl
three false false r k h = h refl

one_touches : (s : Hash32) (ps qs : List Position) (p : Position) → p.before ≡ coins_of (outputs ps)
    → touches s.0 p.before p.tx
    ≡ (list_any (is_entry_of_script s (lists_of (ps ++ p ∷ qs))) (map (entry_of (scripts_of (ps ++ p ∷ qs)) (length ps)) (add_scripts [] (concerned_scripts p)))
    || buries s (lists_of (ps ++ p ∷ qs)) (length ps))
one_touches s ps qs p coins_are =
    let all = ps ++ p ∷ qs in
    let scripts = scripts_of all in
    let joined = flat_joined ps (p ∷ qs) in
    let met : AllIn scripts (flat_map concerned_scripts ps ++ flat_map concerned_scripts (p ∷ qs)) = subst (AllIn scripts) joined (all_met all) in
    let front : AllIn scripts (flat_map concerned_scripts ps) =
    all_from scripts (flat_map concerned_scripts ps) (λ t h. all_has scripts _ t met (has_more t (flat_map concerned_scripts ps) (flat_map concerned_scripts (p ∷ qs)) h)) in
    let here : AllIn scripts (concerned_scripts p) =
    all_from scripts (concerned_scripts p) (λ t h. all_has scripts _ t met (has_back t (flat_map concerned_scripts ps) (flat_map concerned_scripts (p ∷ qs)) (has_more t (concerned_scripts p) (flat_map concerned_scripts qs) h))) in
    let have = outputs_have scripts 0 ps front in
    let buried = all_buried s ps qs p have in
    three (funds s.0 p.tx) (spends s.0 p.before p.tx) (replaces s.0 p.before p.tx) (list_any (λ (c : Coin). own_kept s.0 p.before p.tx c.outpoint) (coins_made (txid p.tx) 0 0 p.tx.outputs))
    (λ unspent. replaced_kept s.0 p.before (coins_made (txid p.tx) 0 0 p.tx.outputs) p.tx unspent)
    ∙ ap₂ (λ (a b : Bool). a || b) (sym (one_concerns s (lists_of all) (length ps) p here))
    (ap (λ (cs : List Coin). list_any (λ (c : Coin). own_kept s.0 cs p.tx c.outpoint) (coins_made (txid p.tx) 0 0 p.tx.outputs)) coins_are ∙ sym buried)

-- 3. All transactions of a block

mixed : (a b c d : Bool) → ((a || b) || (c || d)) ≡ ((a || c) || (b || d))
mixed true b c d = refl
mixed false true true d = refl
mixed false true false d = refl
mixed false false c d = refl

pub all_touch : (s : Hash32) (all front back : List Position) (m : ℕ) → all ≡ front ++ back → m ≡ length front → Follow (coins_of (outputs front)) back
    → list_any (λ (p : Position). touches s.0 p.before p.tx) back
    ≡ (list_any (is_entry_of_script s (lists_of all)) (entries_from (scripts_of all) m back) || list_any (buries s (lists_of all)) (numbers_from m (length back)))
all_touch s all front [] m split at follow = refl
all_touch s all front (p ∷ back) m split at follow =
    let split_next : all ≡ (front ++ p ∷ []) ++ back = split ∙ sym (append_assoc front (p ∷ []) back) in
    let at_next : m + 1 ≡ length (front ++ p ∷ []) = (let long = length-append front (p ∷ []) in omega arith) in
    let follow_next = subst (λ (cs : List Coin). Follow cs back) (ap (coins_after p.height p.tx) refl ∙ sym (coins_step front p)) follow.1 in
    let rest = all_touch s all (front ++ p ∷ []) back (m + 1) split_next at_next follow_next in
    let E = λ (ps : List Position) (n : ℕ). list_any (is_entry_of_script s (lists_of ps)) (map (entry_of (scripts_of ps) n) (add_scripts [] (concerned_scripts p))) in
    let B = λ (ps : List Position) (n : ℕ). buries s (lists_of ps) n in
    let one : touches s.0 p.before p.tx ≡ (E all m || B all m) =
    one_touches s front back p follow.0
    ∙ ap₂ (λ (ps : List Position) (n : ℕ). E ps n || B ps n) (sym split) (sym at) in
    ap₂ (λ (a b : Bool). a || b) one rest
    ∙ mixed (E all m) (B all m) (list_any (is_entry_of_script s (lists_of all)) (entries_from (scripts_of all) (m + 1) back)) (list_any (buries s (lists_of all)) (numbers_from (m + 1) (length back)))
    ∙ ap (λ (x : Bool). x || (B all m || list_any (buries s (lists_of all)) (numbers_from (m + 1) (length back))))
    (sym (any_joined (is_entry_of_script s (lists_of all)) (map (entry_of (scripts_of all) m) (add_scripts [] (concerned_scripts p))) (entries_from (scripts_of all) (m + 1) back)))

-- 4. Which entries are the last

all_joined : (P : ListedEntry → Type 0) (xs ys : List ListedEntry) → AllByRecursion P xs → AllByRecursion P ys → AllByRecursion P (xs ++ ys)
all_joined P [] ys a b = b
all_joined P (x ∷ xs) ys a b = (a.0, all_joined P xs ys a.1 b)

all_of_one : (P : ListedEntry → Type 0) (scripts : List Hash32) (n : ℕ) (ss : List Hash32) → ((k : ℕ) → P (record { tx = n; script = k })) → AllByRecursion P (map (entry_of scripts n) ss)
all_of_one P scripts n [] each = tt
all_of_one P scripts n (s ∷ ss) each = (each (script_number s scripts), all_of_one P scripts n ss each)

entries_below : (m : ℕ) (scripts : List Hash32) (n : ℕ) (ps : List Position) → n + length ps ≤ m → AllByRecursion (λ (e : ListedEntry). e.tx < m) (entries_from scripts n ps)
entries_below m scripts n [] le = tt
entries_below m scripts n (p ∷ ps) le =
    all_joined (λ (e : ListedEntry). e.tx < m) (map (entry_of scripts n) (add_scripts [] (concerned_scripts p))) (entries_from scripts (n + 1) ps)
    (all_of_one (λ (e : ListedEntry). e.tx < m) scripts n (add_scripts [] (concerned_scripts p)) (λ k. omega arith)) (entries_below m scripts (n + 1) ps (omega arith))

entries_at : (m : ℕ) (scripts : List Hash32) (n : ℕ) (ps : List Position) → m ≤ n → AllByRecursion (λ (e : ListedEntry). m ≤ e.tx) (entries_from scripts n ps)
entries_at m scripts n [] le = tt
entries_at m scripts n (p ∷ ps) le =
    all_joined (λ (e : ListedEntry). m ≤ e.tx) (map (entry_of scripts n) (add_scripts [] (concerned_scripts p))) (entries_from scripts (n + 1) ps)
    (all_of_one (λ (e : ListedEntry). m ≤ e.tx) scripts n (add_scripts [] (concerned_scripts p)) (λ k. le)) (entries_at m scripts (n + 1) ps (omega arith))

entries_joined : (scripts : List Hash32) (n m : ℕ) (ps qs : List Position) → m ≡ n + length ps → entries_from scripts n (ps ++ qs) ≡ entries_from scripts n ps ++ entries_from scripts m qs
entries_joined scripts n m [] qs at = let e : n ≡ m = omega arith in rw e refl
entries_joined scripts n m (p ∷ ps) qs at =
    let rest = entries_joined scripts (n + 1) m ps qs (omega arith) in
    rw rest (sym (append_assoc (map (entry_of scripts n) (add_scripts [] (concerned_scripts p))) (entries_from scripts (n + 1) ps) (entries_from scripts m qs)))

tells_of : (s : Hash32) (all front back : List Position) (m : ℕ) → all ≡ front ++ back → m ≡ length front
    → ((lists_of all).entries ≡ entries_from (scripts_of all) 0 front ++ entries_from (scripts_of all) m back) × (length (lists_of all).txs - m ≡ length back)
tells_of s all front back m split at = (
  ap (entries_from (scripts_of all) 0) split ∙ entries_joined (scripts_of all) 0 m front back (omega arith),
  (let long = length_txs 0 0 all in let both = ap length split ∙ length-append front back in omega arith),
)

-- 5. Blocks after a base

positions_joined : (base bs : Chain) → positions (base ++ bs) ≡ positions base ++ positions_from (length base) bs (coins base)
positions_joined base [] = ap positions (append-nil base) ∙ sym (append-nil (positions base))
positions_joined base (b ∷ bs) =
    let one = positions_more base b in
    let size : length (base ++ b ∷ []) ≡ length base + 1 = length-append base (b ∷ []) in
    let more : coins (base ++ b ∷ []) ≡ coins_after_all (length base) b.block.txs (coins base) =
    coins_more 0 base b [] ∙ ap (λ n. coins_after_all n b.block.txs (coins base)) (let none : 0 + length base ≡ length base = omega arith in none) in
    ap positions (sym (append_assoc base (b ∷ []) bs))
    ∙ positions_joined (base ++ b ∷ []) bs
    ∙ ap₂ (λ (n : ℕ) (cs : List Coin). positions (base ++ b ∷ []) ++ positions_from n bs cs) size more
    ∙ ap (λ (ps : List Position). ps ++ positions_from (length base + 1) bs (coins_after_all (length base) b.block.txs (coins base))) one
    ∙ append_assoc (positions base) (block_positions (length base) b.block.txs (coins base)) (positions_from (length base + 1) bs (coins_after_all (length base) b.block.txs (coins base)))

entries_long : (scripts others : List Hash32) (n : ℕ) (ps : List Position) → length (entries_from scripts n ps) ≡ length (entries_from others n ps)
entries_long scripts others n [] = refl
entries_long scripts others n (p ∷ ps) =
    let own = add_scripts [] (concerned_scripts p) in
    let a = length-append (map (entry_of scripts n) own) (entries_from scripts (n + 1) ps) in
    let b = length-append (map (entry_of others n) own) (entries_from others (n + 1) ps) in
    let rest = entries_long scripts others (n + 1) ps in
    let ma = length-map own (entry_of scripts n) in
    let mb = length-map own (entry_of others n) in
    omega (arith, a, b, rest, ma, mb)

-- the lists of the base with the blocks: where their entries and their transactions begin, and what they tell
pub record TellsFrom (s : Hash32) (base bs : Chain) (first : ℕ) : Type 0 where
  pub before : List ListedEntry
  pub own : List ListedEntry
  pub split : (lists (base ++ bs)).entries ≡ before ++ own
  pub last : AreLast first before own
  pub long : length before ≡ length (lists base).entries
  pub is : touches_any s.0 (coins base) bs
      ≡ (list_any (is_entry_of_script s (lists (base ++ bs))) own
      || list_any (buries s (lists (base ++ bs))) (numbers_from first (length (lists (base ++ bs)).txs - first)))

pub told_from : (s : Hash32) (base bs : Chain) → TellsFrom s base bs (length (positions base))
told_from s base bs =
    let front = positions base in
    let back = positions_from (length base) bs (coins base) in
    let all = positions (base ++ bs) in
    let m = length front in
    let split = positions_joined base bs in
    let tells = tells_of s all front back m split refl in
    let follow = subst (λ (cs : List Coin). Follow cs back) (chain_coins base) (follow_chain (length base) bs (coins base)) in
    record {
      before = entries_from (scripts_of all) 0 front;
      own = entries_from (scripts_of all) m back;
      split = tells.0;
      last = record { below = entries_below m (scripts_of all) 0 front (omega arith); from = entries_at m (scripts_of all) m back (omega arith) };
      long = entries_long (scripts_of all) (scripts_of front) 0 front;
      is = law s.0 (coins base) (length base) bs ∙ all_touch s all front back m split refl follow
          ∙ ap (λ (n : ℕ). list_any (is_entry_of_script s (lists_of all)) (entries_from (scripts_of all) m back) || list_any (buries s (lists_of all)) (numbers_from m n)) (sym tells.1);
    }

-- where there are as few transactions as before, the blocks touch nothing
pub none_touched : (s : Hash32) (base bs : Chain) → length (positions (base ++ bs)) ≤ length (positions base) → touches_any s.0 (coins base) bs ≡ false
none_touched s base bs le =
    let back = positions_from (length base) bs (coins base) in
    let sum = ap length (positions_joined base bs) ∙ length-append (positions base) back in
    law s.0 (coins base) (length base) bs ∙ none back (omega (arith, sum, le))
  where
    none : (ps : List Position) → length ps ≡ 0 → list_any (λ (p : Position). touches s.0 p.before p.tx) ps ≡ false
    none [] h = refl
    none (p ∷ ps) h = absurd (omega arith)

-- 6. The last block

follow_in : (height pos start : ℕ) (ts : List Tx) (cs : List Coin) → Follow cs (positions_in height pos start ts cs)
follow_in height pos start [] cs = tt
follow_in height pos start (t ∷ ts) cs = (refl, follow_in height (pos + 1) (start + length (full_encoding t)) ts (coins_after height t cs))

-- the lists of the chain with the block: where its entries and its transactions begin, and what they tell
pub record TellsLast (s : Hash32) (chain : Chain) (b : Placed) (first : ℕ) : Type 0 where
  pub before : List ListedEntry
  pub own : List ListedEntry
  pub split : (lists (chain ++ b ∷ [])).entries ≡ before ++ own
  pub last : AreLast first before own
  pub is : touched_in s chain b
      ≡ (list_any (is_entry_of_script s (lists (chain ++ b ∷ []))) own
      || list_any (buries s (lists (chain ++ b ∷ []))) (numbers_from first (length (lists (chain ++ b ∷ [])).txs - first)))

pub last_told : (s : Hash32) (chain : Chain) (b : Placed) → TellsLast s chain b (length (positions chain))
last_told s chain b =
    let front = positions chain in
    let back = block_positions (length chain) b.block.txs (coins chain) in
    let all = positions (chain ++ b ∷ []) in
    let m = length front in
    let split = positions_more chain b in
    let tells = tells_of s all front back m split refl in
    let follow = subst (λ (cs : List Coin). Follow cs back) (chain_coins chain) (follow_in (length chain) 0 (first_start b.block.txs) b.block.txs (coins chain)) in
    record {
      before = entries_from (scripts_of all) 0 front;
      own = entries_from (scripts_of all) m back;
      split = tells.0;
      last = record { below = entries_below m (scripts_of all) 0 front (omega arith); from = entries_at m (scripts_of all) m back (omega arith) };
      is = all_touch s all front back m split refl follow
          ∙ ap (λ (n : ℕ). list_any (is_entry_of_script s (lists_of all)) (entries_from (scripts_of all) m back) || list_any (buries s (lists_of all)) (numbers_from m n)) (sym tells.1);
    }

-- its first transaction
pub last_first : (chain : Chain) (b : Placed) → option_map (λ (x : ListedBlock). x.first_tx) (last (listed_blocks (chain ++ b ∷ []))) ≡ Some (length (positions chain))
last_first chain b =
    ap (λ (bs : List ListedBlock). option_map (λ (x : ListedBlock). x.first_tx) (last bs)) (row_more chain b)
    ∙ ap (option_map (λ (x : ListedBlock). x.first_tx)) (last_is (listed_blocks chain) (block_between (prepared b.block) b.place (lists chain) (lists (chain ++ b ∷ []))))
    ∙ ap Some (length_txs 0 0 (positions chain))

-- a chain with a block has a last one
pub none_first : (A : Type 0) (chain : Chain) (b : Placed) → None ≡ option_map (λ (x : ListedBlock). x.first_tx) (last (listed_blocks (chain ++ b ∷ []))) → A
none_first A chain b is = absurd (wrong (is ∙ last_first chain b))
  where
    wrong : None ≡ Some (length (positions chain)) → ⊥
    wrong e = cc

pub all_told : {n m : ℕ} → Some n ≡ Some m → m ≡ n
all_told e = cc
