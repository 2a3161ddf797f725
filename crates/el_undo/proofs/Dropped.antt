-- The last block's row goes.
use Rattle.std.proofs.Common.{◌≡◌, ℕ, suc, ◌+◌, List, [], ◌∷◌, ◌++◌, length, map, take, refl, ap, sym, subst, ◌∙◌}
use Rattle.std.proofs.lemmas.List.{length-map, take-map}
use Rattle.el_chain.specs.Chains.{Chain}
use Rattle.el_chain.specs.Coins.{coins_after_all}
use Rattle.el_chain.specs.declared.coin.Coin.{Coin}
use Rattle.el_chain.specs.declared.placed.Placed.{Placed}
use Rattle.el_tables.specs.ChainLists.{ListedBlock, lists, listed_blocks, listed_blocks_from}
use Rattle.el_tables.specs.Tables.{tables_of, in_both}
use Rattle.el_tables.proofs.UndoneBlocks.{blocks_less}
use Rattle.el_rows.specs.Changes.{OnTable}
use Rattle.el_row_formats.specs.RowBytes.{block_row_bytes, FitsBlockRow}
use Rattle.el_row_formats.specs.Tables as held
use Rattle.el_row_formats.specs.declared.table.Table.{Table}
use Rattle.el_row_formats.specs.declared.table.Table.TheVariants as table
use Rattle.el_schema.specs.Rows.{bytes_of, block_fields}
use Rattle.el_schema.proofs.Held.{all_but_last, but_last_at}
use Rattle.el_schema.specs.Standing.{StandWith}
use Rattle.el_schema.proofs.StandingLemmas.{stands}
use Rattle.el_undo.specs.within.Undone.{LacksTxs}

pub blocks_long : (height first : ℕ) (chain : Chain) (cs : List Coin) → length (listed_blocks_from height first chain cs) ≡ length chain
blocks_long height first [] cs = refl
blocks_long height first (b ∷ bs) cs = ap suc (blocks_long (height + 1) (first + length b.block.txs) bs (coins_after_all height b.block.txs cs))

-- the chain without it
pub dropped : (heads : ℕ) (old new : held.Tables) (chain : Chain) (b : Placed) (left : ℕ) → LacksTxs heads old chain b → length (old table.Blocks) ≡ left + 1
    → OnTable old new table.Blocks (take left (old table.Blocks)) → StandWith heads new chain
dropped heads old new chain b left lacks long on =
    let bs = listed_blocks (chain ++ b ∷ []) in
    let f : ListedBlock → List ℕ = λ y. block_row_bytes (block_fields y) in
    let count = sym (ap length (lacks.hold.each table.Blocks) ∙ length-map bs f) ∙ long in
    let less = blocks_less chain b in
    let front : take left bs ≡ listed_blocks chain = sym (but_last_at bs left count) ∙ less in
    stands heads new chain lacks.some lacks.good (record {
      each = each (on.here ∙ ap (take left) (lacks.hold.each table.Blocks) ∙ take-map f left bs ∙ ap (map f) front);
      fit = record {
        blocks = subst (λ (ys : List ListedBlock). Rattle.std.specs.List.AllByRecursion (λ y. FitsBlockRow (block_fields y)) ys) less (all_but_last (λ y. FitsBlockRow (block_fields y)) bs lacks.hold.fit.blocks);
        txs = lacks.hold.fit.txs;
        tx_heads = lacks.hold.fit.tx_heads;
        outs = lacks.hold.fit.outs;
        ins = lacks.hold.fit.ins;
        scripts = lacks.hold.fit.scripts;
        script_heads = lacks.hold.fit.script_heads;
        entries = lacks.hold.fit.entries;
      };
    })
  where
    each : new table.Blocks ≡ map (λ y. block_row_bytes (block_fields y)) (listed_blocks chain) → (u : Table)
        → new u ≡ bytes_of (tables_of (in_both heads) (listed_blocks chain) (lists chain)) u
    each here table.Blocks = here
    each here table.Txs = on.others table.Txs (λ q. cc) ∙ lacks.hold.each table.Txs
    each here table.TxHeads = on.others table.TxHeads (λ q. cc) ∙ lacks.hold.each table.TxHeads
    each here table.Outs = on.others table.Outs (λ q. cc) ∙ lacks.hold.each table.Outs
    each here table.Ins = on.others table.Ins (λ q. cc) ∙ lacks.hold.each table.Ins
    each here table.Scripts = on.others table.Scripts (λ q. cc) ∙ lacks.hold.each table.Scripts
    each here table.ScriptHeads = on.others table.ScriptHeads (λ q. cc) ∙ lacks.hold.each table.ScriptHeads
    each here table.Entries = on.others table.Entries (λ q. cc) ∙ lacks.hold.each table.Entries
