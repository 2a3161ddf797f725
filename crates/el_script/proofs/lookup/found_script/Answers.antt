use Rattle.std.proofs.Common.{◌≡◌, Some, None, sym, ◌∙◌, arith, inl, inr, length}
use Rattle.el_row_formats.specs.RowBytes.{script_row_bytes, FitsScriptRow}
use Rattle.el_row_formats.specs.declared.table.Table.TheVariants as table
use Rattle.el_rows.specs.Transaction.{with_edits}
use Rattle.el_tables.specs.Tables.{tables_of}
use Rattle.el_buckets.specs.Buckets.{newest_of}
use Rattle.el_schema.specs.Rows.{script_fields}
use Rattle.el_schema.proofs.Held.{count_script_heads}
use Rattle.el_schema.proofs.Rows.{read_at}
use Rattle.el_script.proofs.FoundScripts.{in_by_number, in_none, no_script, some_or_none}
use Rattle.el_script.proofs.lookup.found_script.Goals as goal

pub returns-in-Some-clause-found : goal.returns-in-Some-clause-found
returns-in-Some-clause-found g c counts bs l told hold heads =
    let shown = with_edits {G = g.R.Rows} c.args.t.now in
    let h = c.args.script_hash.now in
    let n = c.in-Some.number in
    let tb = tables_of counts bs l in
    let read = read_at script_row_bytes script_fields FitsScriptRow tb.scripts (shown table.Scripts) n c.read-row.result c.find_row.new.row (hold.each table.Scripts) hold.fit.scripts
    (c.in_ok-found.ensures.below n c.in-Some.is) (c.in_ok-found.ensures.row told n c.in-Some.is) c.read-row.ensures.only in
    elim (some_or_none counts.scripts) [
      | inl zero ↦
          let empty : length (shown table.ScriptHeads) ≡ 0 = count_script_heads counts bs l shown hold ∙ zero in
          let both : Some n ≡ None = sym c.in-Some.is ∙ c.in_ok-found.ensures.none empty in
          absurd cc
      | inr some ↦
          let newest : newest_of h l.scripts ≡ Some n = sym (c.in_ok-found.ensures.newest counts bs l told hold some) ∙ c.in-Some.is in
          in_by_number h counts l n c.read-row.result newest read
    ]

pub returns-in-None-clause-found : goal.returns-in-None-clause-found
returns-in-None-clause-found g c counts bs l told hold heads =
    let h = c.args.script_hash.now in
    elim (some_or_none counts.scripts) [
      | inl zero ↦ in_none h counts l (no_script counts l h heads zero)
      | inr some ↦ in_none h counts l (sym (c.in_ok-found.ensures.newest counts bs l told hold some) ∙ c.in-None.is)
    ]

pub returns-in_err-found-clause-rows : goal.returns-in_err-found-clause-rows
returns-in_err-found-clause-rows g c counts bs l told hold heads =
    let shown = with_edits {G = g.R.Rows} c.args.t.now in
    elim (some_or_none counts.scripts) [
      | inl zero ↦ (let idle = c.find_row.ensures.idle (count_script_heads counts bs l shown hold ∙ zero) in omega (arith, idle))
      | inr some ↦ c.find_row.ensures.rows counts bs l told hold some
    ]

pub returns-in-Some-clause-rows : goal.returns-in-Some-clause-rows
returns-in-Some-clause-rows g c counts bs l told hold heads =
    let shown = with_edits {G = g.R.Rows} c.args.t.now in
    elim (some_or_none counts.scripts) [
      | inl zero ↦ (let idle = c.find_row.ensures.idle (count_script_heads counts bs l shown hold ∙ zero) in omega (arith, idle))
      | inr some ↦ c.find_row.ensures.rows counts bs l told hold some
    ]

pub returns-in-None-clause-rows : goal.returns-in-None-clause-rows
returns-in-None-clause-rows g c counts bs l told hold heads =
    let shown = with_edits {G = g.R.Rows} c.args.t.now in
    elim (some_or_none counts.scripts) [
      | inl zero ↦ (let idle = c.find_row.ensures.idle (count_script_heads counts bs l shown hold ∙ zero) in omega (arith, idle))
      | inr some ↦ c.find_row.ensures.rows counts bs l told hold some
    ]
