-- How a branch goes on.
use Rattle.std.proofs.Common.{◌≡◌, ◌∙◌, ℕ, zero, suc, ◌+◌, ◌-◌, ◌<◌, ◌≤◌, List, [], ◌∷◌, ◌++◌, flat_map, refl, ap, sym, arith, append_assoc, append-nil, min}
use Rattle.std.proofs.lemmas.Grind.{flat_map-append}
use Rattle.std.proofs.lemmas.List.Concat.{flat_map-cons}
use Rattle.el_tx.specs.declared.types.Tx.{Tx}
use Rattle.el_gen.specs.Generated.{coinbase, spend, block_record}
use Rattle.el_base.specs.declared.hash.Hash32.{Hash32}
use Rattle.el_block.specs.Blocks.{block_hash}
use Rattle.el_block.specs.declared.block.Block.{Block}
use Rattle.el_gen.specs.MadeFile.{made_txs, made_block, branch_blocks, last_block_hash, first_output, halves, no_block, first_branch, side_branch, first_tip, regtest_magic, block_records, made_file}

-- the first block of those that are left
pub branch_next : (previous : Hash32) (before branch height n : ℕ) → 0 < n
    → branch_blocks previous before branch height n
    ≡ made_block previous before branch height
    ∷ branch_blocks (block_hash (made_block previous before branch height).header) branch branch (height + 1) (n - 1)
branch_next previous before branch height zero lt = absurd (omega arith)
branch_next previous before branch height (suc n) lt =
    let e : suc n - 1 ≡ n = omega arith in rw e refl

-- a branch in two parts
pub branch_parted : (previous : Hash32) (branch height m n : ℕ)
    → branch_blocks previous branch branch height (m + n)
    ≡ branch_blocks previous branch branch height m
    ++ branch_blocks (last_block_hash previous (branch_blocks previous branch branch height m)) branch branch (height + m) n
branch_parted previous branch height zero n =
    let e : 0 + n ≡ n = omega arith in
    let f : height + 0 ≡ height = omega arith in rw (e, f) refl
branch_parted previous branch height (suc m) n =
    let e : suc m + n ≡ suc (m + n) = omega arith in
    let f : height + 1 + m ≡ height + suc m = omega arith in
    let next = block_hash (made_block previous branch branch height).header in
    rw e (ap (λ bs. made_block previous branch branch height ∷ bs) (rw f at (branch_parted next branch (height + 1) m n)))

pub last_joined : (previous : Hash32) (a b : List Block) → last_block_hash previous (a ++ b) ≡ last_block_hash (last_block_hash previous a) b
last_joined previous [] b = refl
last_joined previous (x ∷ a) b = last_joined (block_hash x.header) a b

-- the transactions of a first block, and of another one
pub made_first : (before branch height : ℕ) → height ≡ 0 → made_txs before branch height ≡ coinbase height branch 101 ∷ []
made_first before branch zero e = refl
made_first before branch (suc h) e = absurd (omega arith)

pub made_above : (before branch height : ℕ) → (height ≡ 0 → ⊥) → made_txs before branch height
    ≡ coinbase height branch 101 ∷ spend (first_output (coinbase (height - 1) before 101) ∷ []) (halves height) ∷ []
made_above before branch zero above = absurd (above refl)
made_above before branch (suc h) above = let e : suc h - 1 ≡ h = omega arith in rw e refl

-- the records of blocks in two parts
pub records_joined : (a b : List Block) → block_records (a ++ b) ≡ block_records a ++ block_records b
records_joined a b = flat_map-append (block_record regtest_magic) a b

-- one record more of those that are left
pub step_written : (target out : List ℕ) (previous : Hash32) (before branch height n m : ℕ) → 0 < n → m ≡ n - 1
    → out ++ block_records (branch_blocks previous before branch height n) ≡ target
    → (out ++ block_record regtest_magic (made_block previous before branch height))
    ++ block_records (branch_blocks (block_hash (made_block previous before branch height).header) branch branch (height + 1) m) ≡ target
step_written target out previous before branch height n m some less inv =
    let b = made_block previous before branch height in
    let rest : ℕ → List Block = λ k. branch_blocks (block_hash b.header) branch branch (height + 1) k in
    let e : block_records (branch_blocks previous before branch height n) ≡ block_record regtest_magic b ++ block_records (rest m) =
    ap (λ (bs : List Block). block_records bs) (branch_next previous before branch height n some)
    ∙ flat_map-cons (block_record regtest_magic) b (rest (n - 1))
    ∙ ap (λ (k : ℕ). block_record regtest_magic b ++ block_records (rest k)) (sym less) in
    append_assoc out (block_record regtest_magic b) (block_records (rest m)) ∙ ap (λ (xs : List ℕ). out ++ xs) (sym e) ∙ inv

pub step_hash : (target previous : Hash32) (before branch height n m : ℕ) → 0 < n → m ≡ n - 1
    → last_block_hash previous (branch_blocks previous before branch height n) ≡ target
    → last_block_hash (block_hash (made_block previous before branch height).header)
    (branch_blocks (block_hash (made_block previous before branch height).header) branch branch (height + 1) m) ≡ target
step_hash target previous before branch height n m some less inv =
    let h = block_hash (made_block previous before branch height).header in
    ap (λ (k : ℕ). last_block_hash h (branch_blocks h branch branch (height + 1) k)) less
    ∙ sym (ap (λ (bs : List Block). last_block_hash previous bs) (branch_next previous before branch height n some)) ∙ inv

-- none is left
pub end_written : (target out : List ℕ) (previous : Hash32) (before branch height n : ℕ) → n ≡ 0
    → out ++ block_records (branch_blocks previous before branch height n) ≡ target → out ≡ target
end_written target out previous before branch height n none inv = sym (append-nil out) ∙ (rw none at inv)

pub end_hash : (target previous : Hash32) (before branch height n : ℕ) → n ≡ 0
    → last_block_hash previous (branch_blocks previous before branch height n) ≡ target → previous ≡ target
end_hash target previous before branch height n none inv = rw none at inv

-- the first branch in the part that both have and its own
pub first_parted : (count left : ℕ) → left ≤ count
    → first_branch count ≡ first_branch (count - left)
    ++ branch_blocks (last_block_hash no_block (first_branch (count - left))) 0 0 (count - left) left
first_parted count left le =
    let m : count - left + left ≡ count = omega arith in
    let z : 0 + (count - left) ≡ count - left = omega arith in
    let parts = branch_parted no_block 0 0 (count - left) left in
    rw z at (rw m at parts)

pub tip_made : (count left : ℕ) (h t : Hash32) (b n : ℕ) → left ≤ count
    → h ≡ last_block_hash no_block (first_branch (count - left)) → b ≡ 0 → n ≡ count - left
    → t ≡ last_block_hash h (branch_blocks h b 0 n left) → t ≡ first_tip count
tip_made count left h t b n le eh eb en et =
    let own = branch_blocks (last_block_hash no_block (first_branch (count - left))) 0 0 (count - left) left in
    et ∙ (rw (eb, en, eh) (sym (ap (λ (bs : List Block). last_block_hash no_block bs) (first_parted count left le)
    ∙ last_joined no_block (first_branch (count - left)) own)))

pub file_made : (count left : ℕ) (h : Hash32) (b n : ℕ) (o1 o2 o3 : List ℕ) → left ≤ count
    → left ≡ min 5 (count - 1) → o1 ≡ block_records (first_branch (count - left))
    → h ≡ last_block_hash no_block (first_branch (count - left)) → b ≡ 0 → n ≡ count - left
    → o2 ≡ o1 ++ block_records (branch_blocks h b 0 n left)
    → o3 ≡ o2 ++ block_records (branch_blocks h b 1 n (left + 1)) → o3 ≡ made_file count
file_made count left h b n o1 o2 o3 le is e1 eh eb en e2 e3 =
    let own = branch_blocks (last_block_hash no_block (first_branch (count - left))) 0 0 (count - left) left in
    let side : block_records (branch_blocks h b 1 n (left + 1)) ≡ block_records (side_branch count) =
    rw (eh, eb, en, is) refl in
    let front : o2 ≡ block_records (first_branch count) =
    e2 ∙ (rw (e1, eb, en, eh) (sym (ap (λ (bs : List Block). block_records bs) (first_parted count left le)
    ∙ records_joined (first_branch (count - left)) own))) in
    e3 ∙ (rw (front, side) refl)
