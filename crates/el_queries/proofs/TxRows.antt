-- The row of a transaction, in the terms of the lists.
use Rattle.std.proofs.Common.{◌≡◌, ℕ, zero, suc, ◌<◌, ◌≤◌, List, [], ◌∷◌, ◌++◌, length, map, get_or, slice_get, Option, Some, None, option_map, option_to_list, reverse, refl, ap, sym, ◌∙◌, arith}
use Rattle.std.proofs.lemmas.List.{append-nil}
use Rattle.el_chain.specs.declared.entry.Entry.{Entry}
use Rattle.el_tables.specs.Lists.{ListedTx}
use Rattle.el_tables.specs.Queries.{outs_at}
use Rattle.el_tables.specs.Tables.{rows_from, tx_row}
use Rattle.el_row_formats.specs.declared.tx_row.TxRow.{TxRow}
use Rattle.el_schema.specs.Rows.{tx_fields, listed_tx}
use Rattle.el_schema.proofs.Held.{no_tx}
use Rattle.el_schema.proofs.Rows.{listed_row, row_within}
use Rattle.el_queries.specs.within.Histories.{shown_tx}

-- what is there, and what isn't
pub tx_past : (txs : List ListedTx) (n : ℕ) → length txs ≤ n → slice_get txs n ≡ None
tx_past [] n le = refl
tx_past (t ∷ ts) zero le = absurd (omega arith)
tx_past (t ∷ ts) (suc n) le = tx_past ts n (omega arith)

pub tx_there : (txs : List ListedTx) (n : ℕ) → n < length txs → slice_get txs n ≡ Some (get_or txs n no_tx)
tx_there [] n lt = absurd (omega arith)
tx_there (t ∷ ts) zero lt = refl
tx_there (t ∷ ts) (suc n) lt = tx_there ts n (omega arith)

-- the transaction that a row lists
pub tx_of_row : (c : ℕ) (txs : List ListedTx) (n : ℕ) (row : TxRow) → Some row ≡ option_map tx_fields (slice_get (rows_from (tx_row c txs) 0 txs) n)
    → slice_get txs n ≡ Some (listed_tx row)
tx_of_row c txs n row e = tx_there txs n (row_within c txs n row e) ∙ ap (λ (r : TxRow). Some (listed_tx r)) (sym (listed_row c txs n row e))

pub field_at : {Y : Type 0} (f : ListedTx → Y) (txs : List ListedTx) (n : ℕ) (y : Y) → n < length txs → get_or (map f txs) n y ≡ f (get_or txs n no_tx)
field_at f [] n y lt = absurd (omega arith)
field_at f (t ∷ ts) zero y lt = refl
field_at f (t ∷ ts) (suc n) y lt = field_at f ts n y (omega arith)

-- and how many outputs it has
pub outs_of_row : (c : ℕ) (txs : List ListedTx) (n : ℕ) (row : TxRow) → Some row ≡ option_map tx_fields (slice_get (rows_from (tx_row c txs) 0 txs) n) → outs_at n txs ≡ row.outs
outs_of_row c txs n row e = field_at (λ (t : ListedTx). t.outs) txs n 0 (row_within c txs n row e) ∙ ap (λ (r : TxRow). r.outs) (sym (listed_row c txs n row e))

abbrev entry_of_tx : ListedTx → Entry
entry_of_tx t = record { height = t.height; txid = t.txid }

pub shown_past : (es : List Entry) (txs : List ListedTx) (n : ℕ) → length txs ≤ n → es ≡ es ++ shown_tx txs n
shown_past es txs n le = sym (append-nil es) ∙ ap (λ (t : Option ListedTx). es ++ option_to_list (option_map entry_of_tx t)) (sym (tx_past txs n le))

pub shown_at : (c : ℕ) (txs : List ListedTx) (n : ℕ) (row : TxRow) → Some row ≡ option_map tx_fields (slice_get (rows_from (tx_row c txs) 0 txs) n)
    → shown_tx txs n ≡ record { height = row.height; txid = row.txid } ∷ []
shown_at c txs n row e = ap (λ (t : Option ListedTx). option_to_list (option_map entry_of_tx t)) (tx_of_row c txs n row e)

-- one alone is the same from its end
pub shown_turned : (txs : List ListedTx) (n : ℕ) → reverse (shown_tx txs n) ≡ shown_tx txs n
shown_turned txs n = by (slice_get txs n)
  where
    by : (t : Option ListedTx) → reverse (option_to_list (option_map entry_of_tx t)) ≡ option_to_list (option_map entry_of_tx t)
    by None = refl
    by (Some t) = refl
