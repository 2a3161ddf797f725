use Rattle.std.proofs.Common.{◌≡◌, ◌+◌, ◌*◌, ◌++◌, ℕ, List, length, take, map, refl, ap, sym, ◌∙◌, arith, rules, append-nil}
use Rattle.std.proofs.Math.Path.{fun_ext}
use Rattle.std.proofs.lemmas.List.{take_all}
use Rattle.el_row_formats.specs.declared.table.Table.{Table}
use Rattle.el_rows.specs.Changes.{count_at}
use Rattle.el_redo.specs.RedoBody.{all_tables, head_bytes, numbers_bytes}
use Rattle.el_redo.proofs.BodyLemmas.{number_put, counts_of}
use Rattle.el_pages.specs.Records.{meta_of}
use Rattle.el_pages.proofs.meta.meta_row_of.Goals as goal

meta_made : (head ns counts : List ℕ) → length ns ≡ 8 → ((t : Table) → count_at ns t ≡ count_at counts t) → head ++ numbers_bytes ns ≡ meta_of head counts
unfolding meta_of
meta_made head ns counts long same = ap (λ (l : List ℕ). head ++ numbers_bytes l) (sym (counts_of ns long) ∙ ap (λ (f : Table → ℕ). map f all_tables) (fun_ext same))

pub loop-i-init : goal.loop-i-init
loop-i-init c =
    let sixteen : length c.head.result ≡ 16 = search rules in
    record {
      long = c.copy.ensures.long;
      put = ap (λ n. take n c.copy.new.buffer) (let e : 16 ≡ 0 + length c.head.result = omega (arith, sixteen) in e) ∙ c.copy.ensures.put ∙ c.head.ensures ∙ sym (append-nil (head_bytes c.args.magic c.args.bits));
    }

pub loop-i-preserved : goal.loop-i-preserved
loop-i-preserved c =
    let ns = c.args.counts.now in
    let bytes = c.to_le_bytes.result in
    let i = c.loop-i.i in
    let long : length ns ≡ 8 = c.told-counts in
    let eight : length bytes ≡ 8 = search rules in
    record {
      long = c.copy-in-loop-i.ensures.long ∙ c.loop-i.invariant.long;
      put = number_put (head_bytes c.args.magic c.args.bits) (take (16 + 8 * i) c.loop-i.row) (take (16 + 8 * (i + 1)) c.copy-in-loop-i.new.buffer) bytes ns i (omega (arith, long, c.loop-i-test.true)) c.to_le_bytes.ensures
          (ap (λ n. take n c.copy-in-loop-i.new.buffer) (let e : 16 + 8 * (i + 1) ≡ 16 + 8 * i + length bytes = omega (arith, eight) in e) ∙ c.copy-in-loop-i.ensures.put)
          c.loop-i.invariant.put;
    }

pub returns : goal.returns
returns c =
    let ns = c.args.counts.now in
    let long : length ns ≡ 8 = c.told-counts in
    let all : c.loop-i.i ≡ 8 = omega (arith, c.loop-i.auto.i-end, c.loop-i-test.false) in
    sym (take_all 80 c.loop-i.row (omega (arith, c.loop-i.invariant.long)))
    ∙ ap (λ n. take n c.loop-i.row) (let e : 80 ≡ 16 + 8 * c.loop-i.i = omega (arith, all) in e)
    ∙ c.loop-i.invariant.put
    ∙ ap (λ (l : List ℕ). head_bytes c.args.magic c.args.bits ++ numbers_bytes l) (take_all c.loop-i.i ns (omega (arith, long, all)))
    ∙ meta_made (head_bytes c.args.magic c.args.bits) ns ns long (λ t. refl)
