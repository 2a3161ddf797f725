use Rattle.std.proofs.Common.{◌≡◌, ℕ, suc, ◌+◌, List, [], ◌∷◌, ◌++◌, map, take, refl, ap, ap₂, sym, subst, ◌∙◌, arith, length, length-append}
use Rattle.el_base.specs.Hashing.{sha256d}
use Rattle.el_base.specs.declared.hash.Hash32.{Hash32}
use Rattle.el_rows.specs.Transaction.{with_edits}
use Rattle.el_schema.proofs.StandingLemmas.{holds}
use Rattle.el_tables.specs.ChainLists.{lists, listed_blocks}
use Rattle.el_tables.specs.Tables.{tables_of, in_both}
use Rattle.el_row_formats.specs.declared.block_row.BlockRow.{BlockRow}
use Rattle.el_rows.proofs.TransactionLemmas.{more}
use Rattle.el_schema.specs.Rows.{Encode, block_fields}
use Rattle.el_queries.proofs.Fronts.{one_more}
use Rattle.el_queries.proofs.Heights.{hash_in, hashes_told}
use Rattle.el_queries.proofs.blocks.hashes.Goals as goal

row_hash : BlockRow → Hash32
row_hash r = record { 0 = sha256d r.header }

pub loop-h-preserved : goal.loop-h-preserved
unfolding row_hash
loop-h-preserved g c = record {
  read = more c.loop-h.invariant.read c.in_ok-row.ensures.read;
  rows = omega (arith, c.block_row.ensures.rows, c.loop-h.invariant.rows);
  len = ap length c.in_ok-push.ensures.items ∙ length-append c.loop-h.found.items _ ∙ ap (λ (n : ℕ). n + 1) c.loop-h.invariant.len;
  hashes = λ tb told same.
      let before = subst (λ T. Encode T tb) (sym c.loop-h.invariant.read.tables) same in
      let one = one_more block_fields hash_in row_hash (λ b. refl) tb.blocks c.loop-h.h c.in_ok-row.row (c.in_ok-row.ensures.row tb told before) in
      let hash_is : c.block_hash.result ≡ row_hash c.in_ok-row.row = ap (λ (l : List ℕ). record { 0 = l }) c.block_hash.ensures in
      let next : suc c.loop-h.h ≡ c.loop-h.h + 1 = omega arith in
      c.in_ok-push.ensures.items ∙ ap₂ (λ (xs : List Hash32) (h : Hash32). xs ++ h ∷ []) (c.loop-h.invariant.hashes tb told same) hash_is
      ∙ one ∙ ap (λ (n : ℕ). map hash_in (take n tb.blocks)) next;
}

pub returns-clause-hashes : goal.returns-clause-hashes
returns-clause-hashes g c chain told stand =
    let hold = (holds (with_edits {G = g.R.Rows} c.args.t.now) chain stand).1 in
    let end : c.loop-h.h ≡ c.args.upto + 1 = omega (arith, c.from-h-end.ensures, c.loop-h-test.false, c.loop-h.auto.h-end) in
    c.loop-h.invariant.hashes (tables_of (in_both stand.0) (listed_blocks chain) (lists chain)) told hold
    ∙ ap (λ (n : ℕ). map hash_in (take n (listed_blocks chain))) end ∙ hashes_told chain c.args.upto

pub returns-clause-len : goal.returns-clause-len
returns-clause-len g c =
    let end : c.loop-h.h ≡ c.args.upto + 1 = omega (arith, c.from-h-end.ensures, c.loop-h-test.false, c.loop-h.auto.h-end) in
    c.loop-h.invariant.len ∙ end
