-- What is prepared of a block, the blocks of a chain, and their sum.
use Rattle.std.proofs.Common.{◌≡◌, suc, inl, inr, ◌⊎◌, ℕ, ◌+◌, ◌<◌, ◌≤◌, ◌^◌, List, [], ◌∷◌, ◌++◌, length, map, Option, None, Some, Result, Ok, Err, refl, ap, sym, subst, ◌∙◌, arith, length-append, flat_map}
use Rattle.std.proofs.lemmas.List.{length-map}
use Rattle.std.proofs.lemmas.List.Sums.{sum_by-cons}
use Rattle.std.proofs.lemmas.Bool.{cases_Bool}
use Rattle.std.specs.List.{AllByRecursion}
use Rattle.el_tx.specs.declared.types.Tx.{Tx}
use Rattle.el_tx.specs.declared.types.TxIn.{TxIn}
use Rattle.el_tx.specs.declared.types.TxOut.{TxOut}
use Rattle.sha2.specs.Sha256.{sha256}
use Rattle.sha2.proofs.Facts256.{length-sha256}
use Rattle.el_base.specs.Compact.{compact}
use Rattle.el_tx.specs.Encoding.{max_money, total_value, counted, stripped_encoding, HasEncoding, Encodes, IsLawful}
use Rattle.el_tx.specs.Hashing.{full_encoding, is_coinbase}
use Rattle.el_block.specs.declared.block.Block.{Block}
use Rattle.el_block.specs.Blocks.{HasBlockEncoding, EncodesBlock, HasOneCoinbase}
use Rattle.el_chain.specs.declared.placed.Placed.{Placed}
use Rattle.el_chain.specs.declared.fault.ConnectFault.{ConnectFault}
use Rattle.el_chain.specs.Chains.{Chain, tip}
use Rattle.el_chain.specs.Faults.{fault, IsGood, IsNext, AreNext}
use Rattle.el_chain.specs.RowCounts.{row_limit, spending_inputs}
use Rattle.el_chain.specs.History.{first_start}
use Rattle.el_chain.specs.CoinLists.{FitsBlock}
use Rattle.el_chain.proofs.GoodChains.{fits_of_encoded, all_in_encoding, next_more, has_room, first_none, money_fits}
use Rattle.el_prepare.specs.declared.prepared.PreparedTx.{PreparedTx}
use Rattle.el_prepare.specs.Prepared.{prepared, prepared_tx, prepared_txs, value_and_script, outpoints_taken}
use Rattle.el_tables.specs.ChainLists.{ListedBlock, lists, listed_blocks}
use Rattle.el_tables.specs.Connecting.{◌>>=◌, connect_txs, connect_tx, missing_at, ok_unless, bounds_by, full_by, block_between}
use Rattle.el_tables.specs.Lists.{Lists, unspent_sum}
use Rattle.el_tables.specs.Tables.{HeadCounts, in_both}
use Rattle.el_tables.proofs.Outputs.{from_front}
use Rattle.el_tables.proofs.UndoneBlocks.{row_more, good_before, prepared_count}
use Rattle.el_tables.proofs.WholeBlocks.{connects}
use Rattle.el_row_formats.specs.Tables as held
use Rattle.el_row_formats.specs.declared.table.Table.TheVariants as table
use Rattle.el_schema.specs.Rows.{Hold, block_fields}
use Rattle.el_schema.specs.Standing.{StandWith, HoldChain}
use Rattle.el_connect.specs.within.Parts.{Reached, IsBetweenTxs, LedTo, values, IsSmall, connect_next, connect_all}
use Rattle.el_connect.proofs.MadeLemmas.{between_next}
use Rattle.el_chain.specs.declared.fault.ConnectFault.TheVariants as refusal
use Rattle.el_tables.proofs.FitLemmas.{chain_fits}
use Rattle.el_tx.specs.Headers.{header_encoding}
use Rattle.el_schema.proofs.StandingLemmas.{stands}

-- 1. What is prepared of a block is small

values_are : (os : List TxOut) → values (map value_and_script os) ≡ total_value os
values_are [] = refl
values_are (o ∷ os) =
    let rest = values_are os in
    let sum = sum_by-cons (λ (x : TxOut). x.value) o os in
    ap (λ (n : ℕ). o.value + n) rest ∙ sym sum

lawful : (t : Tx) → HasEncoding t → IsLawful t
lawful t h = by h.1
  where
    by : Encodes h.0 t → IsLawful t
    by (Encodes.stripped law none is) = law
    by (Encodes.with_witness law some is) = law

taken_few : (t : Tx) → length (outpoints_taken t) ≤ length t.inputs
taken_few t =
    let long = length-map (spending_inputs t) (λ (i : TxIn). i.from) in
    elim (cases_Bool (is_coinbase t)) [
      | inl c ↦ rw c (omega arith)
      | inr c ↦ let all = length-map t.inputs (λ (i : TxIn). i.from) in rw c (omega arith)
    ]

tx_small : (start : ℕ) (t : Tx) → start + length (full_encoding t) < 2 ^ 32 → FitsBlock t → IsSmall (prepared_tx start t)
tx_small start t low fits =
    let law = lawful t fits.encoded in
    let few = taken_few t in
    let ins = fits.few_inputs in
    let outs = fits.few in
    let long = length-map t.outputs value_and_script in
    record {
      txid = length-sha256 (sha256 (stripped_encoding t));
      start = omega arith;
      len = omega arith;
      inputs = omega arith;
      outputs = omega arith;
      money = subst (λ (n : ℕ). n ≤ max_money) (sym (values_are t.outputs)) law.money;
    }

txs_small : (start : ℕ) (ts : List Tx) → start + length (flat_map full_encoding ts) < 2 ^ 32 → AllByRecursion FitsBlock ts → AllByRecursion IsSmall (prepared_txs start ts)
txs_small start [] low fit = tt
txs_small start (t ∷ ts) low fit =
    let joined = length-append (full_encoding t) (flat_map full_encoding ts) in
    (tx_small start t (omega arith) fit.0, txs_small (start + length (full_encoding t)) ts (omega arith) fit.1)

pub block_small : (b : Block) → HasBlockEncoding b → AllByRecursion IsSmall (prepared b).txs
block_small b encoded =
    let s : EncodesBlock encoded.0 b = encoded.1 in
    let light = s.light in
    let txs = length-append (compact (length b.txs)) (flat_map full_encoding b.txs) in
    let all = length-append (header_encoding b.header) (counted full_encoding b.txs) in
    txs_small (80 + length (compact (length b.txs))) b.txs (omega arith) (fits_of_encoded b encoded)

some_tx : (b : Block) → HasBlockEncoding b → 1 ≤ length b.txs
some_tx b encoded = by b.txs (encoded.1).coinbase
  where
    by : (ts : List Tx) → HasOneCoinbase ts → 1 ≤ length ts
    by [] none = absurd none
    by (t ∷ ts) one = omega arith

txs_within : (ts : List Tx) → AllByRecursion HasEncoding ts → length ts ≤ length (flat_map full_encoding ts)
txs_within [] each = omega arith
txs_within (t ∷ ts) each =
    let rest = txs_within ts each.1 in
    let joined = length-append (full_encoding t) (flat_map full_encoding ts) in
    let all = all_in_encoding t in
    let some = (lawful t each.0).some_inputs in
    omega arith

-- a block has fewer transactions than 32 bits count
pub few_txs : (b : Block) → HasBlockEncoding b → length (prepared b).txs < 2 ^ 32
few_txs b encoded =
    let s : EncodesBlock encoded.0 b = encoded.1 in
    let within = txs_within b.txs s.text.each in
    let light = s.light in
    let txs = length-append (compact (length b.txs)) (flat_map full_encoding b.txs) in
    let all = length-append (header_encoding b.header) (counted full_encoding b.txs) in
    let count = prepared_count (first_start b.txs) b.txs in
    omega arith

-- 2. The steps with what is prepared are those of the lists

all_are : (ps : List PreparedTx) (height index : ℕ) (l : Lists) → connect_all height index ps l ≡ connect_txs height index ps l
all_are [] height index l = refl
all_are (p ∷ ps) height index l = by (missing_at index (connect_tx height p l)) (λ m. all_are ps height (index + 1) m)
  where
    within : (b : Option ConnectFault) (m : Lists) → connect_all height (index + 1) ps m ≡ connect_txs height (index + 1) ps m
        → (ok_unless b m >>= (λ (x : Lists). connect_all height (index + 1) ps x)) ≡ (ok_unless b m >>= (λ (x : Lists). connect_txs height (index + 1) ps x))
    within None m same = same
    within (Some e) m same = refl

    by : (r : Result Lists ConnectFault) → ((m : Lists) → connect_all height (index + 1) ps m ≡ connect_txs height (index + 1) ps m)
        → ((r >>= (λ (m : Lists). ok_unless (bounds_by height m) m)) >>= (λ (m : Lists). connect_all height (index + 1) ps m))
        ≡ (r >>= (λ (c : Lists). ok_unless (bounds_by height c) c >>= (λ (w : Lists). connect_txs height (index + 1) ps w)))
    by (Err e) rest = refl
    by (Ok m) rest = within (bounds_by height m) m (rest m)

-- a block leads from the lists of a good chain to those of the chain with it, or to its fault
pub block_leads : (chain : Chain) (b : Placed) → IsGood chain
    → connect_all (length chain) 0 (prepared b.block).txs (lists chain) ≡ ok_unless (fault chain b.block) (lists (chain ++ b ∷ []))
block_leads chain b good =
    all_are (prepared b.block).txs (length chain) 0 (lists chain)
    ∙ connects chain b good

-- what it leads to tells the fault
pub led_on : (f : Option ConnectFault) (l m : Lists) → ok_unless f l ≡ Ok m → (f ≡ None) × (l ≡ m)
led_on None l m e = (refl, cc)
led_on (Some g) l m e = absurd (wrong e)
  where
    wrong : Err g ≡ Ok m → ⊥
    wrong h = cc

pub led_off : (f : Option ConnectFault) (l : Lists) (e : ConnectFault) → ok_unless f l ≡ Err e → f ≡ Some e
led_off None l e h = absurd (wrong h)
  where
    wrong : Ok l ≡ Err e → ⊥
    wrong g = cc
led_off (Some g) l e h = cc

-- 3. The sum of all coins

-- after steps it is within all money
sum_within : (ps : List PreparedTx) (height index : ℕ) (l m : Lists) → connect_all height index ps l ≡ Ok m → unspent_sum l.outs ≤ max_money → unspent_sum m.outs ≤ max_money
sum_within [] height index l m led le = (let same : l ≡ m = cc in subst (λ (x : Lists). unspent_sum x.outs ≤ max_money) same le)
sum_within (p ∷ ps) height index l m led le =
    by (missing_at index (connect_tx height p l)) (λ c e within. sum_within ps height (index + 1) c m e within) led
  where
    wrong : (f : ConnectFault) → Err f ≡ Ok m → ⊥
    wrong f h = cc

    inner : ((c : Lists) → connect_all height (index + 1) ps c ≡ Ok m → unspent_sum c.outs ≤ max_money → unspent_sum m.outs ≤ max_money)
        → (b : Option ConnectFault) (c : Lists) → bounds_by height c ≡ b → (ok_unless b c >>= (λ (x : Lists). connect_all height (index + 1) ps x)) ≡ Ok m → unspent_sum m.outs ≤ max_money
    inner rest None c is e = rest c e (money_fits (unspent_sum c.outs) (first_none _ (full_by height c) is))
    inner rest (Some f) c is e = absurd (wrong f e)

    by : (r : Result Lists ConnectFault) → ((c : Lists) → connect_all height (index + 1) ps c ≡ Ok m → unspent_sum c.outs ≤ max_money → unspent_sum m.outs ≤ max_money)
        → ((r >>= (λ (c : Lists). ok_unless (bounds_by height c) c)) >>= (λ (x : Lists). connect_all height (index + 1) ps x)) ≡ Ok m → unspent_sum m.outs ≤ max_money
    by (Err f) rest e = absurd (wrong f e)
    by (Ok c) rest e = inner rest (bounds_by height c) c refl e

-- the lists of a chain stand between transactions
between_all : (ps : List PreparedTx) (height index : ℕ) (l m : Lists) → connect_all height index ps l ≡ Ok m → IsBetweenTxs l → IsBetweenTxs m
between_all [] height index l m led between = (let same : l ≡ m = cc in subst IsBetweenTxs same between)
between_all (p ∷ ps) height index l m led between = by (λ c. between_all ps height (index + 1) c m) (connect_next height index p l) refl led
  where
    wrong : (f : ConnectFault) → Err f ≡ Ok m → ⊥
    wrong f h = cc

    by : ((c : Lists) → connect_all height (index + 1) ps c ≡ Ok m → IsBetweenTxs c → IsBetweenTxs m)
        → (r : Result Lists ConnectFault) → connect_next height index p l ≡ r → (r >>= (λ (x : Lists). connect_all height (index + 1) ps x)) ≡ Ok m → IsBetweenTxs m
    by later (Err f) is e = absurd (wrong f e)
    by later (Ok c) is e = later c e (between_next height index p l c is between)

-- the last block of a good chain had no fault
last_next : (before chain : Chain) (b : Placed) → AreNext before (chain ++ b ∷ []) → IsNext (before ++ chain) b.block
last_next before [] b next = let same = Rattle.std.proofs.Common.append-nil before in subst (λ (c : Chain). IsNext c b.block) (sym same) next.0
last_next before (x ∷ xs) b next =
    subst (λ (c : Chain). IsNext c b.block) (Rattle.std.proofs.Common.append_assoc before (x ∷ []) xs) (last_next (before ++ x ∷ []) xs b next.1)

pub between_of_good : (chain : Chain) → IsGood chain → IsBetweenTxs (lists chain)
between_of_good chain = from_front (λ (c : Chain). IsGood c → IsBetweenTxs (lists c)) (λ good. record { outs = refl; scripts = omega arith; entries = omega arith }) more chain
  where
    more : (c : Chain) (b : Placed) → (IsGood c → IsBetweenTxs (lists c)) → IsGood (c ++ b ∷ []) → IsBetweenTxs (lists (c ++ b ∷ []))
    more c b before good =
        let was = good_before c b good in
        let none = (last_next [] c b good.each).faultless in
        between_all (prepared b.block).txs (length c) 0 (lists c) (lists (c ++ b ∷ []))
        (block_leads c b was ∙ ap (λ (f : Option ConnectFault). ok_unless f (lists (c ++ b ∷ []))) none) (before was)

pub sum_of_good : (chain : Chain) → IsGood chain → unspent_sum (lists chain).outs ≤ max_money
sum_of_good chain = from_front (λ (c : Chain). IsGood c → unspent_sum (lists c).outs ≤ max_money) (λ good. omega arith) more chain
  where
    more : (c : Chain) (b : Placed) → (IsGood c → unspent_sum (lists c).outs ≤ max_money) → IsGood (c ++ b ∷ []) → unspent_sum (lists (c ++ b ∷ [])).outs ≤ max_money
    more c b before good =
        let was = good_before c b good in
        let none = (last_next [] c b good.each).faultless in
        sum_within (prepared b.block).txs (length c) 0 (lists c) (lists (c ++ b ∷ []))
        (block_leads c b was ∙ ap (λ (f : Option ConnectFault). ok_unless f (lists (c ++ b ∷ []))) none) (before was)

-- it stands in the last block's row
pub sum_before : (rows : held.Tables) (sum : ℕ) → (length (rows table.Blocks) ≡ 0 → sum ≡ 0)
    → ((counts : HeadCounts) (bs : List ListedBlock) (b : ListedBlock) (l : Lists) → Hold counts (bs ++ b ∷ []) l rows → sum ≡ b.sum)
    → (heads : ℕ) (chain : Chain) → HoldChain heads rows chain → sum ≡ unspent_sum (lists chain).outs
sum_before rows sum none some heads chain = from_front (λ (c : Chain). HoldChain heads rows c → sum ≡ unspent_sum (lists c).outs) (λ hold. none (ap length (hold.each table.Blocks))) more chain
  where
    more : (c : Chain) (b : Placed) → (HoldChain heads rows c → sum ≡ unspent_sum (lists c).outs) → HoldChain heads rows (c ++ b ∷ []) → sum ≡ unspent_sum (lists (c ++ b ∷ [])).outs
    more c b before hold =
        some (in_both heads) (listed_blocks c) (block_between (prepared b.block) b.place (lists c) (lists (c ++ b ∷ []))) (lists (c ++ b ∷ []))
        (subst (λ (bs : List ListedBlock). Hold (in_both heads) bs (lists (c ++ b ∷ [])) rows) (row_more c b) hold)

-- 4. The chain with the block

pub good_more : (chain : Chain) (b : Placed) → IsGood chain → HasBlockEncoding b.block → b.block.header.previous ≡ tip chain → fault chain b.block ≡ None → IsGood (chain ++ b ∷ [])
good_more chain b good encoded names none = record { each = next_more [] chain b good.each (record { encoded = encoded; names = names; faultless = none }) }

pub room_for_block : (chain : Chain) (b : Block) → HasBlockEncoding b → fault chain b ≡ None → length chain < row_limit 1
room_for_block chain b encoded none = has_room chain b.txs none (some_tx b encoded)

-- rows that hold the lists of the chain with the block, and its row
pub chain_held : (heads : ℕ) (rows : held.Tables) (chain : Chain) (b : Placed)
    → Hold (in_both heads) (listed_blocks chain ++ block_between (prepared b.block) b.place (lists chain) (lists (chain ++ b ∷ [])) ∷ []) (lists (chain ++ b ∷ [])) rows
    → HoldChain heads rows (chain ++ b ∷ [])
chain_held heads rows chain b hold =
    subst (λ (bs : List ListedBlock). Hold (in_both heads) bs (lists (chain ++ b ∷ [])) rows) (sym (row_more chain b)) hold

blocks_from : (height first : ℕ) (chain : Chain) (cs : List Rattle.el_chain.specs.declared.coin.Coin.Coin) → length (Rattle.el_tables.specs.ChainLists.listed_blocks_from height first chain cs) ≡ length chain
blocks_from height first [] cs = refl
blocks_from height first (b ∷ bs) cs =
    ap (λ n. suc n) (blocks_from (height + 1) (first + length b.block.txs) bs (Rattle.el_chain.specs.Coins.coins_after_all height b.block.txs cs))

-- as many rows of blocks as blocks
pub height_is : (heads : ℕ) (rows : held.Tables) (chain : Chain) → HoldChain heads rows chain → length (rows table.Blocks) ≡ length chain
height_is heads rows chain hold =
    ap length (hold.each table.Blocks) ∙ length-map (listed_blocks chain) (λ b. Rattle.el_row_formats.specs.RowBytes.block_row_bytes (block_fields b)) ∙ blocks_from 0 0 chain []

-- 5. The block in rows

pub begun : (heads : ℕ) (chain : Chain) (rows : held.Tables) (sum : ℕ) → 0 < heads → Hold (in_both heads) (listed_blocks chain) (lists chain) rows → sum ≡ unspent_sum (lists chain).outs
    → Reached (in_both heads) (listed_blocks chain) (lists chain) rows sum
begun heads chain rows sum some hold is = record { hold = hold; fits = chain_fits chain; tx_heads = some; script_heads = some; sum_is = is }

module _ (chain : Chain) (b : Placed) (height : ℕ) (ps : List PreparedTx) (good : IsGood chain) (tall : height ≡ length chain) (is : ps ≡ (prepared b.block).txs) where
  leads : connect_all height 0 ps (lists chain) ≡ ok_unless (fault chain b.block) (lists (chain ++ b ∷ []))
  leads = ap (λ (h : ℕ). connect_all h 0 ps (lists chain)) tall ∙ ap (λ (qs : List PreparedTx). connect_all (length chain) 0 qs (lists chain)) is ∙ block_leads chain b good

  pub block_faultless : (heads : ℕ) (rows : held.Tables) (sum : ℕ) → LedTo (in_both heads) (listed_blocks chain) rows sum (connect_all height 0 ps (lists chain)) → fault chain b.block ≡ None
  block_faultless heads rows sum led = (led_on (fault chain b.block) (lists (chain ++ b ∷ [])) led.lists (sym leads ∙ led.led)).0

  pub block_refused : (e : ConnectFault) → (e ≡ refusal.DiskFailed) ⊎ ((e ≡ refusal.Memory) ⊎ (connect_all height 0 ps (lists chain) ≡ Err e))
      → (e ≡ refusal.DiskFailed) ⊎ ((e ≡ refusal.Memory) ⊎ (fault chain b.block ≡ Some e))
  block_refused e (inl disk) = inl disk
  block_refused e (inr (inl memory)) = inr (inl memory)
  block_refused e (inr (inr stopped)) = inr (inr (led_off (fault chain b.block) (lists (chain ++ b ∷ [])) e (sym leads ∙ stopped)))

  pub block_put : (heads : ℕ) (rows new : held.Tables) (sum first count : ℕ) (header : List ℕ) → 0 < heads → HasBlockEncoding b.block → b.block.header.previous ≡ tip chain
      → LedTo (in_both heads) (listed_blocks chain) rows sum (connect_all height 0 ps (lists chain))
      → header ≡ header_encoding b.block.header → first ≡ length (lists chain).txs → count ≡ length (prepared b.block).txs
      → ((l : Lists) (x : ListedBlock) → Hold (in_both heads) (listed_blocks chain) l rows
      → record { header = header; place = b.place; first_tx = first; txs = count; sum = sum } ≡ block_fields x → Hold (in_both heads) (listed_blocks chain ++ x ∷ []) l new)
      → (fault chain b.block ≡ None) × StandWith heads new (chain ++ b ∷ [])
  block_put heads rows new sum first count header there encoded names led head from many appends =
      let both = led_on (fault chain b.block) (lists (chain ++ b ∷ [])) led.lists (sym leads ∙ led.led) in
      let after = lists (chain ++ b ∷ []) in
      let x = block_between (prepared b.block) b.place (lists chain) after in
      let total : sum ≡ unspent_sum after.outs = led.reached.sum_is ∙ ap (λ (l : Lists). unspent_sum l.outs) (sym both.1) in
      let hold = subst (λ (l : Lists). Hold (in_both heads) (listed_blocks chain) l rows) (sym both.1) led.reached.hold in
      let put = appends after x hold (rw (head, from, many, total) refl) in
      (both.0, stands heads new (chain ++ b ∷ []) there (good_more chain b good encoded names both.0) (chain_held heads new chain b put))
