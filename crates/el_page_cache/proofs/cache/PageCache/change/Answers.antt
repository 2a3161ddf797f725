use Rattle.std.proofs.Common.{◌≡◌, ◌+◌, ◌-◌, ◌*◌, ℕ, List, length, take, drop, length-drop, subst, ◌∙◌, arith}
use Rattle.std.proofs.lemmas.List.{take_all}
use Rattle.el_row_formats.specs.Tables.{size_of}
use Rattle.el_page_cache.specs.Pages.{ArePagesWritten}
use Rattle.el_page_cache.proofs.PageLemmas.{written_more}
use Rattle.el_page_cache.proofs.cache.PageCache.change.Goals as goal

all_left : (n : ℕ) (bytes : List ℕ) → take (length bytes - n) (drop n bytes) ≡ drop n bytes
all_left n bytes = take_all (length bytes - n) (drop n bytes) (omega (arith, length-drop n bytes))

pub loop-done-preserved : goal.loop-done-preserved
loop-done-preserved c =
    let t = c.args.t in
    let done = c.loop-done.done in
    let more = c.change_page-done.result in
    let bytes = c.args.bytes.now in
    record {
      within = omega (arith, c.loop-done.invariant.within, c.loop-done-test.true, c.change_page-done.ensures.few);
      same = c.change_page-done.ensures.same ∙ c.loop-done.invariant.same;
      written = written_more c.args.self.now c.loop-done.self c.change_page-done.new.self t c.args.first done more bytes c.loop-done.invariant.written
          (subst (λ (rest : List ℕ). ArePagesWritten c.loop-done.self c.change_page-done.new.self t (c.args.first + done) more rest) (all_left (done * size_of t) bytes)
          (subst (λ s. ArePagesWritten c.loop-done.self c.change_page-done.new.self t (c.args.first + done) more (take (length bytes - done * s) (drop (done * s) bytes))) c.size.ensures
          c.change_page-done.ensures.written));
    }
