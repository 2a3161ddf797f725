use Rattle.std.proofs.Common.{◌≡◌, ◌+◌, ◌-◌, ◌*◌, ℕ, List, [], length, get_or, refl, ap, ◌∙◌, arith}
use Rattle.el_migrate.proofs.HeadRows.{head_rows, head_row_at}
use Rattle.el_migrate.proofs.RowRuns.{put_long, put_rows}
use Rattle.el_migrate.proofs.runs.put_heads.Goals as goal

pub loop-j-preserved : goal.loop-j-preserved
loop-j-preserved c =
    let was = c.loop-j.invariant in
    let j = c.loop-j.j in
    let sized : length c.write.new.buf ≡ 8 = ap (λ (b : List ℕ). length b) c.write.ensures in
    let part : j * 8 + 8 - j * 8 ≡ 8 = omega arith in
    record {
      long = put_long 8 c.args.rows j (j * 8) (j * 8 + 8 - j * 8) c.loop-j.bytes c.write.new.buf was.long c.loop-j-test.true sized refl part;
      rows = λ hashes are. put_rows 8 c.args.rows j (j * 8) (j * 8 + 8 - j * 8) c.loop-j.bytes c.write.new.buf was.long c.loop-j-test.true sized refl part
          (λ i. get_or (head_rows (length c.args.links.now) hashes) (c.args.first + i) []) (was.rows hashes are)
          (c.write.ensures ∙ head_row_at c.args.links.now hashes (c.args.first + j) c.link_of.result are (omega (arith, c.requires.within, c.loop-j-test.true)) c.link_of.ensures);
    }
