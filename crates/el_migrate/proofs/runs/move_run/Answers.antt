use Rattle.std.proofs.Common.{◌≡◌, ◌≤◌, ◌+◌, ◌*◌, length, take, drop, ap, ap₂, sym, subst, ◌∙◌, arith}
use Rattle.std.proofs.lemmas.List.{length-take-le}
use Rattle.std.proofs.lemmas.Nat.{mul-le}
use Rattle.std.proofs.lemmas.Result.{on_ok_weaker}
use Rattle.el_outside.specs.Disk.{Image}
use Rattle.el_row_formats.specs.OldRowBytes.{old_size_of}
use Rattle.el_redone.proofs.Runs.{stays, goes_on}
use Rattle.el_pages.specs.declared.layout.TheConstants.{FORMAT_1, FORMAT_2}
use Rattle.el_pages.specs.Layouts.{file_of}
use Rattle.el_migrate.specs.within.Moving.{HasOldFiles, HasOnlyRows, new_rows}
use Rattle.el_migrate.proofs.OldLimits.{sizes_1}
use Rattle.el_migrate.proofs.RowRuns.{run_old}
use Rattle.el_migrate.proofs.runs.move_run.Goals as goal

pub returns-clause-crash : goal.returns-clause-crash
returns-clause-crash g c told files each =
    goes_on g.D.Disk (λ d t u i le left. g.met.D.Disk.earlier d t u i told le left) c.args.disk.now c.read_whole.new.disk c.write_run.new.disk (HasOldFiles files)
    (stays g.D.Disk c.args.disk.now c.read_whole.new.disk (HasOldFiles files) (c.read_whole.ensures.time told) (c.read_whole.ensures.crash told) each)
    (λ now. c.write_run.ensures.crash told files now)

pub returns-clause-rows : goal.returns-clause-rows
returns-clause-rows g c told counts bs l n moved had le long heads before =
    let t = c.args.t in
    let first = c.args.first in
    let rows = c.args.rows in
    let seen = g.D.Disk.seen c.args.disk.now in
    let front = take (rows * c.size-old_size.result) c.args.old.now in
    let old_is : c.size-old_size.result ≡ old_size_of t = c.size-old_size.ensures ∙ sizes_1 t in
    let same_rows : rows * c.size-old_size.result ≡ rows * old_size_of t = ap (λ s. rows * s) old_is in
    let same_first : first * c.size-old_size.result ≡ first * old_size_of t = ap (λ s. first * s) old_is in
    let front_long : length front ≡ rows * old_size_of t = length-take-le (rows * c.size-old_size.result) c.args.old.now (omega (arith, same_rows, c.requires.old_room)) ∙ same_rows in
    let all : (first + rows) * old_size_of t ≤ n * old_size_of t = mul-le (first + rows) (old_size_of t) n (old_size_of t) le (omega arith) in
    let apart : (first + rows) * old_size_of t ≡ first * old_size_of t + rows * old_size_of t = omega arith in
    let within : first * c.size-old_size.result + length front ≤ length (seen c.file.result) =
    subst (λ f. first * c.size-old_size.result + length front ≤ length (seen f)) (sym c.file.ensures) (omega (arith, same_first, front_long, all, apart, long)) in
    let read : c.read_whole.new.buf ≡ take (length front) (drop (first * c.size-old_size.result) (seen c.file.result)) = (c.in_ok-read_whole.ensures.whole told within).1 in
    let is : c.read_whole.new.buf ≡ take (rows * old_size_of t) (drop (first * old_size_of t) (seen (file_of FORMAT_1 t))) =
    read ∙ ap₂ (λ m k. take m (drop k (seen c.file.result))) front_long same_first ∙ ap (λ f. take (rows * old_size_of t) (drop (first * old_size_of t) (seen f))) c.file.ensures in
    let old_rows = run_old counts bs l t n first rows (seen (file_of FORMAT_1 t)) c.read_whole.new.buf had le is in
    let stood = subst (λ (s : Image). HasOnlyRows t (s (file_of FORMAT_2 t)) (new_rows (length c.args.links.now) bs l t) first) (sym (c.read_whole.ensures.seen told)) before in
    on_ok_weaker c.write_run.result
    (λ done. (c.move_rows.ensures.heads counts bs l moved old_rows heads, done))
    (c.write_run.ensures.rows told (new_rows (length c.args.links.now) bs l t) stood (c.move_rows.ensures.rows counts bs l moved old_rows heads))
