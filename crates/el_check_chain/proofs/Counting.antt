-- How many rows the tables of transactions and of outputs have, and which height the last block has.
use Rattle.std.proofs.Common.{◌≡◌, ◌∙◌, ◌+◌, ◌-◌, ℕ, List, [], ◌∷◌, length, refl, sym, ap, arith}
use Rattle.std.specs.Prelude.{unwrap_or}
use Rattle.std.proofs.lemmas.List.{length-map}
use Rattle.std.proofs.lemmas.List.Sums.{sum_by-cons}
use Rattle.el_chain.specs.Chains.{Chain}
use Rattle.el_chain.specs.History.{Position, positions}
use Rattle.el_chain.specs.RowCounts.{output_count}
use Rattle.el_model.specs.Queries.{height_of}
use Rattle.el_row_formats.specs.Tables as held
use Rattle.el_row_formats.specs.declared.table.Table.TheVariants as table
use Rattle.el_tables.specs.ChainLists.{lists, listed_blocks, listed_out, outputs, scripts_of}
use Rattle.el_tables.proofs.Numbering.{outs_of, length_outputs, length_txs}
use Rattle.el_tables.specs.Tables.{in_both}
use Rattle.el_schema.proofs.Held.{count_txs, count_outs}
use Rattle.el_schema.proofs.StandingLemmas.{held_with}
use Rattle.el_index.specs.Means.{AreRowsOf}

pub txs_counted : (heads : ℕ) (rows : held.Tables) (chain : Chain) → AreRowsOf heads rows chain → length (rows table.Txs) ≡ length (positions chain)
txs_counted heads rows chain stand =
    count_txs (in_both heads) (listed_blocks chain) (lists chain) rows (held_with heads rows chain stand).1
    ∙ length_txs 0 0 (positions chain)

outs_summed : (ps : List Position) → outs_of ps ≡ output_count ps
outs_summed [] = refl
outs_summed (p ∷ ps) =
    ap (λ n. length p.tx.outputs + n) (outs_summed ps) ∙ sym (sum_by-cons (λ (q : Position). length q.tx.outputs) p ps)

pub outs_counted : (heads : ℕ) (rows : held.Tables) (chain : Chain) → AreRowsOf heads rows chain → length (rows table.Outs) ≡ output_count (positions chain)
outs_counted heads rows chain stand =
    count_outs (in_both heads) (listed_blocks chain) (lists chain) rows (held_with heads rows chain stand).1
    ∙ length-map (outputs (positions chain)) (listed_out (scripts_of (positions chain)))
    ∙ length_outputs 0 (positions chain) ∙ outs_summed (positions chain)

pub height_counted : (chain : Chain) → unwrap_or (height_of chain) 0 ≡ length chain - 1
height_counted [] = refl
height_counted (b ∷ bs) = omega arith
