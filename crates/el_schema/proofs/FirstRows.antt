-- Rows before the first block.
use Rattle.std.proofs.Common.{◌≡◌, ◌<◌, ◌^◌, ℕ, zero, suc, List, [], ◌∷◌, map, replicate, Option, None, refl, ap, sym, subst, ◌∙◌, arith}
use Rattle.std.specs.List.{AllByRecursion}
use Rattle.std.proofs.lemmas.Nat.{pow_pos}
use Rattle.el_chain.specs.Faults.{IsGood}
use Rattle.el_tables.specs.Edits.{with_heads, no_links}
use Rattle.el_tables.specs.Lists.{no_lists}
use Rattle.el_tables.specs.Tables as typed
use Rattle.el_tables.specs.Tables.{in_both, tables_of}
use Rattle.el_tables.proofs.TxEdits.{first_heads}
use Rattle.el_row_formats.specs.RowBytes.{link_bytes, head_row_bytes, FitsHeadRow}
use Rattle.el_row_formats.specs.Tables as held
use Rattle.el_row_formats.specs.Tables.{first_count}
use Rattle.el_row_formats.specs.declared.table.Table.{Table}
use Rattle.el_row_formats.specs.declared.table.Table.TheVariants as table
use Rattle.el_schema.specs.Rows.{Encode, bytes_of, head_fields}
use Rattle.el_schema.specs.Standing.{StandWith}
use Rattle.el_schema.proofs.StandingLemmas.{stands}

map_same : {X Y : Type 0} (f : X → Y) (n : ℕ) (x : X) → map f (replicate n x) ≡ replicate n (f x)
map_same f zero x = refl
map_same f (suc n) x = ap (λ l. f x ∷ l) (map_same f n x)

all_same : {X : Type 0} (P : X → Type 0) (n : ℕ) (x : X) → P x → AllByRecursion P (replicate n x)
all_same P zero x p = tt
all_same P (suc n) x p = (p, all_same P n x p)

pub first_stand : (bits : ℕ) (rows : held.Tables) → ((t : Table) → rows t ≡ replicate (first_count bits t) (link_bytes None)) → StandWith (2 ^ bits) rows []
first_stand bits rows first =
    stands heads rows [] (pow_pos bits) (record { each = tt })
    (subst (λ (tb : typed.Tables). Encode rows tb) (sym (first_heads (in_both heads) (in_both heads) [])) (record {
      each = each;
      fit = record {
        blocks = tt;
        txs = tt;
        tx_heads = all_same (λ (link : Option ℕ). FitsHeadRow (head_fields link)) heads None (record { head = omega arith });
        outs = tt;
        ins = tt;
        scripts = tt;
        script_heads = all_same (λ (link : Option ℕ). FitsHeadRow (head_fields link)) heads None (record { head = omega arith });
        entries = tt;
      };
    }))
  where
    heads : ℕ
    heads = 2 ^ bits

    f : Option ℕ → List ℕ
    f link = head_row_bytes (head_fields link)

    each : (u : Table) → rows u ≡ bytes_of (with_heads (no_links heads) (no_links heads) (tables_of (in_both heads) [] no_lists)) u
    each table.Blocks = first table.Blocks
    each table.Txs = first table.Txs
    each table.TxHeads = first table.TxHeads ∙ sym (map_same f heads None)
    each table.Outs = first table.Outs
    each table.Ins = first table.Ins
    each table.Scripts = first table.Scripts
    each table.ScriptHeads = first table.ScriptHeads ∙ sym (map_same f heads None)
    each table.Entries = first table.Entries
