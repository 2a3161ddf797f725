use Rattle.std.proofs.Common.{◌≡◌, ◌*◌, ◌++◌, ◌∷◌, ℕ, List, length, map, refl, sym, ap, subst, ◌∙◌}
use Rattle.std.proofs.lemmas.List.{map-append}
use Rattle.el_row_formats.specs.declared.table.Table.{Table}
use Rattle.el_row_formats.specs.Tables.{key}
use Rattle.el_rows.specs.Changes.{Changes}
use Rattle.el_redone.specs.Redone.{Write, into, Covers}
use Rattle.el_redone.specs.Steps.{EachNow, Leaves, WillBe}
use Rattle.el_redone.proofs.Writes.{into_append, into_here, covers_one}
use Rattle.el_pages.specs.declared.layout.Layout.{Layout}
use Rattle.el_pages.specs.Layouts.{file_of, redo_of, size_in}
use Rattle.el_pages.specs.Records.{write_of, writes_of}
use Rattle.el_pages.proofs.Laid.{into_table}
use Rattle.el_recovery.proofs.redoing.write_change.Goals as goal

-- a changed row's places are covered
change_covered : (l : Layout) (meta : List ℕ) (done rest : Changes) (t : Table) (i : ℕ) (row : List ℕ)
    → Covers (into (file_of l t) (writes_of l meta (done ++ (key t i, row) ∷ rest))) (i * size_in l t) (length row)
change_covered l meta done rest t i row =
    let f = file_of l t in
    let w : Write = record { file = f; at = i * size_in l t; bytes = row } in
    let all : into f (writes_of l meta (done ++ (key t i, row) ∷ rest)) ≡ into f (map (write_of l) done) ++ w ∷ into f (map (write_of l) rest) =
    into_table l meta (done ++ (key t i, row) ∷ rest) t
    ∙ ap (into f) (map-append (write_of l) done ((key t i, row) ∷ rest))
    ∙ into_append (map (write_of l) done) (w ∷ map (write_of l) rest) f
    ∙ ap (λ (x : List Write). into f (map (write_of l) done) ++ x) (into_here w (map (write_of l) rest) f refl) in
    covers_one (into f (writes_of l meta (done ++ (key t i, row) ∷ rest))) (into f (map (write_of l) done)) w (into f (map (write_of l) rest)) all

pub returns-clause-crash : goal.returns-clause-crash
returns-clause-crash g c told files meta file done rest =
    let l = c.args.layout.now in
    let t = c.args.t in
    let row = c.args.row.now in
    let old = c.args.disk.now in
    let new = c.write_covered.new.disk in
    let ws : List Write = writes_of l meta (done ++ (key t c.args.i, row) ∷ rest) in
    let covers : Covers (into c.file.result ws) (c.args.i * c.size.result) (length row) =
    subst (λ s. Covers (into c.file.result ws) (c.args.i * s) (length row)) (sym c.size.ensures)
    (subst (λ f. Covers (into f ws) (c.args.i * size_in l t) (length row)) (sym c.file.ensures) (change_covered l meta done rest t c.args.i row)) in
    subst (λ x. EachNow g.D.Disk (WillBe x (redo_of l) files ws file) old → Leaves g.D.Disk (WillBe x (redo_of l) files ws file) old new) c.span.ensures.first
    (subst (λ y. EachNow g.D.Disk (WillBe c.span.result.first y files ws file) old → Leaves g.D.Disk (WillBe c.span.result.first y files ws file) old new) c.span.ensures.redo
    (c.write_covered.ensures.crash told files ws file covers))
