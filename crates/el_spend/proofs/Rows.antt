-- One output or input more, or less, in the rows of tables.
use Rattle.std.proofs.Common.{◌≡◌, ℕ, ◌+◌, ◌<◌, ◌^◌, List, [], ◌∷◌, ◌++◌, length, map, take, ap, sym, ◌∙◌}
use Rattle.std.proofs.lemmas.List.{map-append, take-map, length-map}
use Rattle.el_tables.specs.Disconnecting.{but_last}
use Rattle.el_tables.specs.Lists.{ListedOut}
use Rattle.el_tables.specs.Tables as typed
use Rattle.el_rows.specs.Changes.{OnTable}
use Rattle.el_row_formats.specs.Tables as held
use Rattle.el_row_formats.specs.RowBytes.{number_limit, out_row_bytes, in_row_bytes, FitsOutRow, FitsInRow}
use Rattle.el_row_formats.specs.declared.table.Table.TheVariants as table
use Rattle.el_schema.specs.Rows.{Encode, out_fields, in_fields}
use Rattle.el_schema.proofs.Held.{all_more, all_but_last, but_last_at}
use Rattle.el_schema.proofs.Rows.{on_outs, on_ins}
use Rattle.el_spend.specs.within.Parts.{out_appended, out_gone, in_appended, in_gone}

module _ (old new : held.Tables) (tb : typed.Tables) (same : Encode old tb) where
  -- one output more, and one less
  pub out_more : (x : ListedOut) → OnTable old new table.Outs (old table.Outs ++ out_row_bytes (out_fields x) ∷ []) → FitsOutRow (out_fields x) → Encode new (out_appended x tb)
  out_more x on fits =
      let f : ListedOut → List ℕ = λ y. out_row_bytes (out_fields y) in
      on_outs old new tb same (tb.outs ++ x ∷ []) on.others (on.here ∙ ap (λ (rows : List (List ℕ)). rows ++ f x ∷ []) (same.each table.Outs) ∙ sym (map-append f tb.outs (x ∷ [])))
      (all_more (λ y. FitsOutRow (out_fields y)) tb.outs x same.fit.outs fits)

  pub out_less : (n : ℕ) → length (old table.Outs) ≡ n + 1 → OnTable old new table.Outs (take n (old table.Outs)) → Encode new (out_gone tb)
  out_less n long on =
      let f : ListedOut → List ℕ = λ y. out_row_bytes (out_fields y) in
      let many : length tb.outs ≡ n + 1 = sym (ap length (same.each table.Outs) ∙ length-map tb.outs f) ∙ long in
      on_outs old new tb same (but_last tb.outs) on.others (on.here ∙ ap (take n) (same.each table.Outs) ∙ take-map f n tb.outs ∙ ap (map f) (sym (but_last_at tb.outs n many)))
      (all_but_last (λ y. FitsOutRow (out_fields y)) tb.outs same.fit.outs)

  -- one input more, and one less
  pub in_more : (k : ℕ) → OnTable old new table.Ins (old table.Ins ++ in_row_bytes (in_fields k) ∷ []) → k < number_limit → Encode new (in_appended k tb)
  in_more k on fits =
      let f : ℕ → List ℕ = λ y. in_row_bytes (in_fields y) in
      on_ins old new tb same (tb.ins ++ k ∷ []) on.others (on.here ∙ ap (λ (rows : List (List ℕ)). rows ++ f k ∷ []) (same.each table.Ins) ∙ sym (map-append f tb.ins (k ∷ [])))
      (all_more (λ y. FitsInRow (in_fields y)) tb.ins k same.fit.ins (record { out = fits }))

  pub in_less : (n : ℕ) → length (old table.Ins) ≡ n + 1 → OnTable old new table.Ins (take n (old table.Ins)) → Encode new (in_gone tb)
  in_less n long on =
      let f : ℕ → List ℕ = λ y. in_row_bytes (in_fields y) in
      let many : length tb.ins ≡ n + 1 = sym (ap length (same.each table.Ins) ∙ length-map tb.ins f) ∙ long in
      on_ins old new tb same (but_last tb.ins) on.others (on.here ∙ ap (take n) (same.each table.Ins) ∙ take-map f n tb.ins ∙ ap (map f) (sym (but_last_at tb.ins n many)))
      (all_but_last (λ y. FitsInRow (in_fields y)) tb.ins same.fit.ins)
