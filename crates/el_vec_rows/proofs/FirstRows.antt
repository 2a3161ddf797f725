-- The rows before the first block.
use Rattle.std.proofs.Common.{◌≡◌, ◌≢◌, ◌≤◌, ◌^◌, ℕ, List, [], ◌∷◌, length, replicate, None, refl, ap, sym, ◌∙◌, arith}
use Rattle.std.proofs.Math.Nat.{pow-le-pow_right}
use Rattle.std.proofs.lemmas.List.{nil_from_length}
use Rattle.el_row_formats.specs.RowBytes.{link_bytes}
use Rattle.el_row_formats.specs.Tables.{Tables, first_count, limit_of}
use Rattle.el_row_formats.specs.declared.table.Table.{Table}
use Rattle.el_row_formats.specs.declared.table.Table.TheVariants as table
use Rattle.el_rows.specs.Changes.{count_at}

-- the counts of tables of which those of heads alone have rows
abbrev pub head_counts : ℕ → List ℕ
head_counts heads = 0 ∷ 0 ∷ heads ∷ 0 ∷ 0 ∷ 0 ∷ heads ∷ 0 ∷ []

pub few_heads : (bits heads : ℕ) → bits ≤ 24 → heads ≡ 2 ^ bits → heads ≤ 16777216
few_heads bits heads few is = let less : 2 ^ bits ≤ 2 ^ 24 = pow-le-pow_right (omega arith) few in omega (arith, less, is)

pub heads_limited : (heads : ℕ) → heads ≤ 16777216 → (t : Table) → count_at (head_counts heads) t ≤ limit_of t
heads_limited heads few table.Blocks = omega arith
heads_limited heads few table.Txs = omega arith
heads_limited heads few table.TxHeads = omega (arith, few)
heads_limited heads few table.Outs = omega arith
heads_limited heads few table.Ins = omega arith
heads_limited heads few table.Scripts = omega arith
heads_limited heads few table.ScriptHeads = omega (arith, few)
heads_limited heads few table.Entries = omega arith

module _ (bits heads : ℕ) (is : heads ≡ 2 ^ bits) (sized mid new : Tables) (long : (t : Table) → length (sized t) ≡ count_at (head_counts heads) t)
    (txs : mid table.TxHeads ≡ replicate (length (sized table.TxHeads)) (link_bytes None)) (beside : (u : Table) → u ≢ table.TxHeads → mid u ≡ sized u)
    (scripts : new table.ScriptHeads ≡ replicate (length (mid table.ScriptHeads)) (link_bytes None)) (others : (u : Table) → u ≢ table.ScriptHeads → new u ≡ mid u) where
  pub first_is : (t : Table) → new t ≡ replicate (first_count bits t) (link_bytes None)
  first_is table.Blocks = others table.Blocks (λ q. cc) ∙ beside table.Blocks (λ q. cc) ∙ nil_from_length (sized table.Blocks) (long table.Blocks)
  first_is table.Txs = others table.Txs (λ q. cc) ∙ beside table.Txs (λ q. cc) ∙ nil_from_length (sized table.Txs) (long table.Txs)
  first_is table.TxHeads = others table.TxHeads (λ q. cc) ∙ txs ∙ ap (λ n. replicate n (link_bytes None)) (long table.TxHeads ∙ is)
  first_is table.Outs = others table.Outs (λ q. cc) ∙ beside table.Outs (λ q. cc) ∙ nil_from_length (sized table.Outs) (long table.Outs)
  first_is table.Ins = others table.Ins (λ q. cc) ∙ beside table.Ins (λ q. cc) ∙ nil_from_length (sized table.Ins) (long table.Ins)
  first_is table.Scripts = others table.Scripts (λ q. cc) ∙ beside table.Scripts (λ q. cc) ∙ nil_from_length (sized table.Scripts) (long table.Scripts)
  first_is table.ScriptHeads = scripts ∙ ap (λ n. replicate n (link_bytes None)) (ap length (beside table.ScriptHeads (λ q. cc)) ∙ long table.ScriptHeads ∙ is)
  first_is table.Entries = others table.Entries (λ q. cc) ∙ beside table.Entries (λ q. cc) ∙ nil_from_length (sized table.Entries) (long table.Entries)
