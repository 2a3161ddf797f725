-- The meta row, read as numbers.
use Rattle.std.proofs.Common.{◌≡◌, ⊎_elim, ◌<◌, ◌≤◌, ◌+◌, ◌-◌, ◌*◌, ◌^◌, ℕ, zero, suc, List, [], ◌∷◌, ◌++◌, length, get_or, take, drop, map, refl, ap, sym, subst, ◌∙◌, arith, append_assoc, length-take, length-drop}
use Rattle.std.specs.Int.{w32, w64, to_le_bytes, from_le_bytes}
use Rattle.std.proofs.lemmas.Bool.{cases_lt}
use Rattle.std.proofs.lemmas.List.{take_at, drop_at, drop-drop, drop-take, take-take, take-append-drop, length-take-le, drop_all, get_or-take, get_or-drop, get_or_past}
use Rattle.std.proofs.lemmas.Nat.{le_bytes_4, le_bytes_8, from_le_bytes-to_le_bytes_4, from_le_bytes-to_le_bytes_8}
use Rattle.el_row_formats.specs.declared.table.Table.{Table}
use Rattle.el_row_formats.specs.declared.table.Table.TheVariants as table
use Rattle.el_rows.specs.Changes.{count_at}
use Rattle.el_redo.specs.RedoBody.{head_bytes, numbers_bytes, all_tables}
use Rattle.el_pages.specs.declared.layout.TheConstants.{FORMAT_2, LETTERS}
use Rattle.el_pages.specs.Records.{meta_of}
use Rattle.el_recovery.specs.Checks.{word, bits_told, count_told, HasBits, IsHead}

-- a part within the front
part : (file : List ℕ) (n at k : ℕ) → at + k ≤ n → take k (drop at (take n file)) ≡ take k (drop at file)
part file n at k le =
    ap (λ m. take k (drop at (take m file))) (let e : n ≡ at + (n - at) = omega (arith, le) in e)
    ∙ ap (λ (b : List ℕ). take k b) (drop-take at (n - at) file)
    ∙ take-take k (n - at) (drop at file) (omega (arith, le))

pub word_front : (file : List ℕ) (at : ℕ) → at + 4 ≤ 80 → word (take 80 file) at ≡ word file at
word_front file at le = ap (λ (b : List ℕ). from_le_bytes w32 b) (part file 80 at 4 le)

pub count_front : (file : List ℕ) (t : Table) → count_told FORMAT_2 (take 80 file) t ≡ count_told FORMAT_2 file t
count_front file table.Blocks = ap (λ (b : List ℕ). from_le_bytes w64 b) (part file 80 16 8 (omega arith))
count_front file table.Txs = ap (λ (b : List ℕ). from_le_bytes w64 b) (part file 80 24 8 (omega arith))
count_front file table.TxHeads = ap (λ (b : List ℕ). from_le_bytes w64 b) (part file 80 32 8 (omega arith))
count_front file table.Outs = ap (λ (b : List ℕ). from_le_bytes w64 b) (part file 80 40 8 (omega arith))
count_front file table.Ins = ap (λ (b : List ℕ). from_le_bytes w64 b) (part file 80 48 8 (omega arith))
count_front file table.Scripts = ap (λ (b : List ℕ). from_le_bytes w64 b) (part file 80 56 8 (omega arith))
count_front file table.ScriptHeads = ap (λ (b : List ℕ). from_le_bytes w64 b) (part file 80 64 8 (omega arith))
count_front file table.Entries = ap (λ (b : List ℕ). from_le_bytes w64 b) (part file 80 72 8 (omega arith))

-- ---- bytes that are numbers

chunk : (file : List ℕ) (n k m : ℕ) → m ≡ n + k → drop n file ≡ take k (drop n file) ++ drop m file
chunk file n k m is =
    sym (take-append-drop k (drop n file))
    ∙ ap (λ (x : List ℕ). take k (drop n file) ++ x) (drop-drop k n file ∙ ap (λ j. drop j file) (sym is))

module _ (meta : List ℕ) (long : length meta ≡ 80) (small : (i : ℕ) → get_or meta i 0 < 256) where
  part_small : (at k i : ℕ) → get_or (take k (drop at meta)) i 0 < 256
  part_small at k i = ⊎_elim
      (λ (lt : i < k). omega (arith, get_or-take k (drop at meta) i 0 lt, get_or-drop at meta i 0, small (at + i)))
      (λ (ge : k ≤ i). omega (arith, get_or_past (take k (drop at meta)) i 0 (omega (arith, ge, length-take k (drop at meta)))))
      (cases_lt i k)

  part_long : (at k : ℕ) → at + k ≤ 80 → length (take k (drop at meta)) ≡ k
  part_long at k le = length-take-le k (drop at meta) (omega (arith, le, long, length-drop at meta))

  four : (at : ℕ) → at + 4 ≤ 80 → take 4 (drop at meta) ≡ to_le_bytes w32 (word meta at)
  four at le = sym (le_bytes_4 (take 4 (drop at meta)) (word meta at) (part_long at 4 le) (λ i. part_small at 4 i) refl)

  eight : (at : ℕ) → at + 8 ≤ 80 → take 8 (drop at meta) ≡ to_le_bytes w64 (from_le_bytes w64 (take 8 (drop at meta)))
  eight at le = sym (le_bytes_8 (take 8 (drop at meta)) (from_le_bytes w64 (take 8 (drop at meta))) (part_long at 8 le) (λ i. part_small at 8 i) refl)

  module _ (magic counts : List ℕ) (bits : ℕ) (four_long : length magic ≡ 4) (few : (i : ℕ) → get_or magic i 0 < 256) (head : IsHead FORMAT_2 (from_le_bytes w32 magic) meta) (bits_is : bits ≡ bits_told meta)
      (told : (t : Table) → count_at counts t ≡ count_told FORMAT_2 meta t) where
    number : (t : Table) (at : ℕ) → at + 8 ≤ 80 → count_told FORMAT_2 meta t ≡ from_le_bytes w64 (take 8 (drop at meta)) → take 8 (drop at meta) ≡ to_le_bytes w64 (count_at counts t)
    number t at le is = eight at le ∙ ap (λ n. to_le_bytes w64 n) (sym (told t ∙ is))

    -- the numbers after the head
    numbers_are : drop 16 meta ≡ numbers_bytes (map (count_at counts) all_tables)
    numbers_are =
        let from_72 : drop 72 meta ≡ numbers_bytes (count_at counts table.Entries ∷ []) = step 72 80 table.Entries [] refl (omega arith) refl (drop_all 80 meta (omega (arith, long))) in
        let from_64 : drop 64 meta ≡ numbers_bytes (count_at counts table.ScriptHeads ∷ count_at counts table.Entries ∷ []) = step 64 72 table.ScriptHeads (count_at counts table.Entries ∷ []) refl (omega arith) refl from_72 in
        let from_56 : drop 56 meta ≡ numbers_bytes (count_at counts table.Scripts ∷ count_at counts table.ScriptHeads ∷ count_at counts table.Entries ∷ []) = step 56 64 table.Scripts (count_at counts table.ScriptHeads ∷ count_at counts table.Entries ∷ []) refl (omega arith) refl from_64 in
        let from_48 : drop 48 meta ≡ numbers_bytes (count_at counts table.Ins ∷ count_at counts table.Scripts ∷ count_at counts table.ScriptHeads ∷ count_at counts table.Entries ∷ []) = step 48 56 table.Ins (count_at counts table.Scripts ∷ count_at counts table.ScriptHeads ∷ count_at counts table.Entries ∷ []) refl (omega arith) refl from_56 in
        let from_40 : drop 40 meta ≡ numbers_bytes (count_at counts table.Outs ∷ count_at counts table.Ins ∷ count_at counts table.Scripts ∷ count_at counts table.ScriptHeads ∷ count_at counts table.Entries ∷ []) = step 40 48 table.Outs (count_at counts table.Ins ∷ count_at counts table.Scripts ∷ count_at counts table.ScriptHeads ∷ count_at counts table.Entries ∷ []) refl (omega arith) refl from_48 in
        let from_32 : drop 32 meta ≡ numbers_bytes (count_at counts table.TxHeads ∷ count_at counts table.Outs ∷ count_at counts table.Ins ∷ count_at counts table.Scripts ∷ count_at counts table.ScriptHeads ∷ count_at counts table.Entries ∷ []) = step 32 40 table.TxHeads (count_at counts table.Outs ∷ count_at counts table.Ins ∷ count_at counts table.Scripts ∷ count_at counts table.ScriptHeads ∷ count_at counts table.Entries ∷ []) refl (omega arith) refl from_40 in
        let from_24 : drop 24 meta ≡ numbers_bytes (count_at counts table.Txs ∷ count_at counts table.TxHeads ∷ count_at counts table.Outs ∷ count_at counts table.Ins ∷ count_at counts table.Scripts ∷ count_at counts table.ScriptHeads ∷ count_at counts table.Entries ∷ []) = step 24 32 table.Txs (count_at counts table.TxHeads ∷ count_at counts table.Outs ∷ count_at counts table.Ins ∷ count_at counts table.Scripts ∷ count_at counts table.ScriptHeads ∷ count_at counts table.Entries ∷ []) refl (omega arith) refl from_32 in
        step 16 24 table.Blocks (count_at counts table.Txs ∷ count_at counts table.TxHeads ∷ count_at counts table.Outs ∷ count_at counts table.Ins ∷ count_at counts table.Scripts ∷ count_at counts table.ScriptHeads ∷ count_at counts table.Entries ∷ []) refl (omega arith) refl from_24
      where
        step : (at to : ℕ) (t : Table) (ns : List ℕ) → to ≡ at + 8 → at + 8 ≤ 80 → count_told FORMAT_2 meta t ≡ from_le_bytes w64 (take 8 (drop at meta)) → drop to meta ≡ numbers_bytes ns
            → drop at meta ≡ numbers_bytes (count_at counts t ∷ ns)
        step at to t ns next le is after =
            chunk meta at 8 to next ∙ ap (λ (b : List ℕ). b ++ drop to meta) (number t at le is) ∙ ap (λ (b : List ℕ). to_le_bytes w64 (count_at counts t) ++ b) after

    word_is : (at n : ℕ) → at + 4 ≤ 80 → word meta at ≡ n → take 4 (drop at meta) ≡ to_le_bytes w32 n
    word_is at n le is = four at le ∙ ap (λ m. to_le_bytes w32 m) is

    pub meta_is : meta ≡ meta_of (head_bytes magic bits) counts
    unfolding meta_of head_bytes
    meta_is =
        let letters : take 4 (drop 0 meta) ≡ 69 ∷ 76 ∷ 73 ∷ 88 ∷ [] = word_is 0 LETTERS (omega arith) head.letters in
        let format : take 4 (drop 4 meta) ≡ to_le_bytes w32 2 = word_is 4 2 (omega arith) head.format in
        let network : take 4 (drop 8 meta) ≡ magic = word_is 8 (from_le_bytes w32 magic) (omega arith) head.network ∙ le_bytes_4 magic (from_le_bytes w32 magic) four_long few refl in
        let buckets : take 4 (drop 12 meta) ≡ to_le_bytes w32 bits = word_is 12 bits (omega arith) (sym bits_is) in
        chunk meta 0 4 4 refl
        ∙ ap (λ (b : List ℕ). b ++ drop 4 meta) letters
        ∙ ap (λ (b : List ℕ). 69 ∷ 76 ∷ 73 ∷ 88 ∷ b) (chunk meta 4 4 8 refl
        ∙ ap (λ (b : List ℕ). b ++ drop 8 meta) format
        ∙ ap (λ (b : List ℕ). to_le_bytes w32 2 ++ b) (chunk meta 8 4 12 refl
        ∙ ap (λ (b : List ℕ). b ++ drop 12 meta) network
        ∙ ap (λ (b : List ℕ). magic ++ b) (chunk meta 12 4 16 refl
        ∙ ap (λ (b : List ℕ). b ++ drop 16 meta) buckets
        ∙ ap (λ (b : List ℕ). to_le_bytes w32 bits ++ b) numbers_are)
        ∙ sym (append_assoc magic (to_le_bytes w32 bits) (numbers_bytes (map (count_at counts) all_tables)))))

-- ---- a meta row, read

module _ (magic counts rest file : List ℕ) (bits : ℕ) (four_long : length magic ≡ 4) (may_be : HasBits bits) (is : file ≡ meta_of (head_bytes magic bits) counts ++ rest) where
  abbrev numbers : List ℕ
  numbers = numbers_bytes (map (count_at counts) all_tables)

  abbrev after_head : List ℕ
  after_head = magic ++ (to_le_bytes w32 bits ++ (numbers ++ rest))

  file_is : file ≡ 69 ∷ 76 ∷ 73 ∷ 88 ∷ (to_le_bytes w32 2 ++ after_head)
  unfolding meta_of head_bytes
  file_is = is ∙ ap (λ (b : List ℕ). 69 ∷ 76 ∷ 73 ∷ 88 ∷ (to_le_bytes w32 2 ++ b))
      (append_assoc (magic ++ to_le_bytes w32 bits) numbers rest ∙ append_assoc magic (to_le_bytes w32 bits) (numbers ++ rest))

  after_magic : drop 4 after_head ≡ to_le_bytes w32 bits ++ (numbers ++ rest)
  after_magic = drop_at magic (to_le_bytes w32 bits ++ (numbers ++ rest)) 4 four_long

  pub bits_there : bits_told file ≡ bits
  bits_there = ap (λ (b : List ℕ). word b 12) file_is
      ∙ ap (λ (b : List ℕ). from_le_bytes w32 (take 4 b)) after_magic
      ∙ ap (λ (b : List ℕ). from_le_bytes w32 b) (take_at (to_le_bytes w32 bits) (numbers ++ rest) 4 refl)
      ∙ from_le_bytes-to_le_bytes_4 bits (omega (arith, may_be.1))

  pub meta_head : IsHead FORMAT_2 (from_le_bytes w32 magic) file
  meta_head = record {
    letters = ap (λ (b : List ℕ). word b 0) file_is;
    format = ap (λ (b : List ℕ). word b 4) file_is;
    network = ap (λ (b : List ℕ). word b 8) file_is ∙ ap (λ (b : List ℕ). from_le_bytes w32 b) (take_at magic (to_le_bytes w32 bits ++ (numbers ++ rest)) 4 four_long);
    bits = subst (λ n. HasBits n) (sym bits_there) may_be;
  }

  numbers_there : drop 16 file ≡ numbers ++ rest
  numbers_there = ap (λ (b : List ℕ). drop 16 b) file_is ∙ sym (drop-drop 4 4 after_head) ∙ ap (λ (b : List ℕ). drop 4 b) after_magic
      ∙ drop_at (to_le_bytes w32 bits) (numbers ++ rest) 4 refl

  number_at : (ns : List ℕ) (k : ℕ) → k < length ns → take 8 (drop (8 * k) (numbers_bytes ns ++ rest)) ≡ to_le_bytes w64 (get_or ns k 0)
  number_at [] k lt = absurd (omega (arith, lt))
  number_at (n ∷ ns) zero lt = ap (λ (b : List ℕ). take 8 b) (append_assoc (to_le_bytes w64 n) (numbers_bytes ns) rest) ∙ take_at (to_le_bytes w64 n) (numbers_bytes ns ++ rest) 8 refl
  number_at (n ∷ ns) (suc k) lt =
      ap (λ j. take 8 (drop j (numbers_bytes (n ∷ ns) ++ rest))) (let e : 8 * suc k ≡ 8 + 8 * k = omega arith in e)
      ∙ ap (λ (b : List ℕ). take 8 b) (sym (drop-drop (8 * k) 8 (numbers_bytes (n ∷ ns) ++ rest)))
      ∙ ap (λ (b : List ℕ). take 8 (drop (8 * k) (drop 8 b))) (append_assoc (to_le_bytes w64 n) (numbers_bytes ns) rest)
      ∙ ap (λ (b : List ℕ). take 8 (drop (8 * k) b)) (drop_at (to_le_bytes w64 n) (numbers_bytes ns ++ rest) 8 refl)
      ∙ number_at ns k (omega (arith, lt))

  count_there : (t : Table) (k at : ℕ) → at ≡ 16 + 8 * k → k < 8 → count_told FORMAT_2 file t ≡ from_le_bytes w64 (take 8 (drop at file)) → get_or (map (count_at counts) all_tables) k 0 ≡ count_at counts t
      → count_at counts t < 2 ^ 64 → count_told FORMAT_2 file t ≡ count_at counts t
  count_there t k at at_is lt is same small =
      is
      ∙ ap (λ j. from_le_bytes w64 (take 8 (drop j file))) at_is
      ∙ ap (λ (b : List ℕ). from_le_bytes w64 (take 8 b)) (sym (drop-drop (8 * k) 16 file))
      ∙ ap (λ (b : List ℕ). from_le_bytes w64 (take 8 (drop (8 * k) b))) numbers_there
      ∙ ap (λ (b : List ℕ). from_le_bytes w64 b) (number_at (map (count_at counts) all_tables) k (omega (arith, lt)))
      ∙ ap (λ n. from_le_bytes w64 (to_le_bytes w64 n)) same
      ∙ from_le_bytes-to_le_bytes_8 (count_at counts t) small

  pub count_is : (t : Table) → count_at counts t < 2 ^ 64 → count_told FORMAT_2 file t ≡ count_at counts t
  count_is table.Blocks small = count_there table.Blocks 0 16 refl (omega arith) refl refl small
  count_is table.Txs small = count_there table.Txs 1 24 refl (omega arith) refl refl small
  count_is table.TxHeads small = count_there table.TxHeads 2 32 refl (omega arith) refl refl small
  count_is table.Outs small = count_there table.Outs 3 40 refl (omega arith) refl refl small
  count_is table.Ins small = count_there table.Ins 4 48 refl (omega arith) refl refl small
  count_is table.Scripts small = count_there table.Scripts 5 56 refl (omega arith) refl refl small
  count_is table.ScriptHeads small = count_there table.ScriptHeads 6 64 refl (omega arith) refl refl small
  count_is table.Entries small = count_there table.Entries 7 72 refl (omega arith) refl refl small
