-- No two rows of a table have the same bytes.
use Rattle.std.proofs.Common.{◌≡◌, ℕ, ◌<◌, ◌^◌, List, [], ◌∷◌, ◌++◌, Option, Some, None, length, get_or, take, drop, refl, sym, ap, ◌∙◌, arith, append_assoc}
use Rattle.std.specs.Int.{w64, to_le_bytes, from_le_bytes}
use Rattle.std.proofs.lemmas.Nat.{from_le_bytes-to_le_bytes_8}
use Rattle.el_base.proofs.Lists.{same_cut}
use Rattle.el_base.proofs.ByteLemmas.{number_again}
use Rattle.el_row_formats.specs.declared.block_row.BlockRow.{BlockRow}
use Rattle.el_row_formats.specs.declared.tx_row.TxRow.{TxRow}
use Rattle.el_row_formats.specs.declared.head_row.HeadRow.{HeadRow}
use Rattle.el_row_formats.specs.declared.out_row.OutRow.{OutRow}
use Rattle.el_row_formats.specs.declared.in_row.InRow.{InRow}
use Rattle.el_row_formats.specs.declared.script_row.ScriptRow.{ScriptRow}
use Rattle.el_row_formats.specs.declared.entry_row.EntryRow.{EntryRow}
use Rattle.el_row_formats.specs.declared.out_row.State.{State}
use Rattle.el_row_formats.specs.declared.out_row.State.TheVariants as state
use Rattle.el_row_formats.specs.RowBytes.{number_limit, link_number, link_bytes, state_number, state_by, state_of, out_row_bytes, FitsOutRow, ReadsAsOut, block_row_bytes, FitsBlockRow, tx_row_bytes, FitsTxRow, head_row_bytes, FitsHeadRow, in_row_bytes, FitsInRow, script_row_bytes, FitsScriptRow, entry_row_bytes, FitsEntryRow}

pub long_again : (m n : ℕ) (x y : List ℕ) → m < 2 ^ 64 → n < 2 ^ 64 → to_le_bytes w64 m ++ x ≡ to_le_bytes w64 n ++ y → (m ≡ n) × (x ≡ y)
long_again m n x y p q e = (
  sym (from_le_bytes-to_le_bytes_8 m p) ∙ ap (λ (t : List ℕ). from_le_bytes w64 (take 8 t)) e ∙ from_le_bytes-to_le_bytes_8 n q,
  ap (λ (t : List ℕ). drop 8 t) e,
)

pub same_link : (a b : Option ℕ) → link_number a ≡ link_number b → a ≡ b
same_link None None e = refl
same_link None (Some n) e = absurd (omega (arith, e))
same_link (Some m) None e = absurd (omega (arith, e))
same_link (Some m) (Some n) e = ap Some (omega (arith, e))

link_again : (a b : Option ℕ) (x y : List ℕ) → link_number a < number_limit → link_number b < number_limit → link_bytes a ++ x ≡ link_bytes b ++ y → (a ≡ b) × (x ≡ y)
link_again a b x y p q e = let both = long_again (link_number a) (link_number b) x y p q e in (same_link a b both.0, both.1)

pub same_block_fields : (x0 y0 : List ℕ) (x1 y1 : ℕ) (x2 y2 : ℕ) (x3 y3 : ℕ) (x4 y4 : ℕ) (x5 y5 : ℕ) (x6 y6 : ℕ) → x0 ≡ y0 → x1 ≡ y1 → x2 ≡ y2 → x3 ≡ y3 → x4 ≡ y4 → x5 ≡ y5 → x6 ≡ y6 → (f : List ℕ → ℕ → ℕ → ℕ → ℕ → ℕ → ℕ → BlockRow) → f x0 x1 x2 x3 x4 x5 x6 ≡ f y0 y1 y2 y3 y4 y5 y6
same_block_fields x0 y0 x1 y1 x2 y2 x3 y3 x4 y4 x5 y5 x6 y6 h0 h1 h2 h3 h4 h5 h6 f = cc

pub one_block_row : (r s : BlockRow) → FitsBlockRow r → FitsBlockRow s → block_row_bytes r ≡ block_row_bytes s → r ≡ s
one_block_row r s p q e =
    let a0 = same_cut r.header _ s.header _ (p.header ∙ sym q.header) e in
    let a1 = number_again r.place.file s.place.file _ _ p.file q.file a0.1 in
    let a2 = long_again r.place.offset s.place.offset _ _ p.offset q.offset a1.1 in
    let a3 = number_again r.place.len s.place.len _ _ p.len q.len a2.1 in
    let a4 = long_again r.first_tx s.first_tx _ _ p.first_tx q.first_tx a3.1 in
    let a5 = number_again r.txs s.txs _ _ p.txs q.txs a4.1 in
    let a6 = long_again r.sum s.sum [] [] p.sum q.sum a5.1 in
    same_block_fields r.header s.header r.place.file s.place.file r.place.offset s.place.offset r.place.len s.place.len r.first_tx s.first_tx r.txs s.txs r.sum s.sum a0.0 a1.0 a2.0 a3.0 a4.0 a5.0 a6.0 (λ x0 x1 x2 x3 x4 x5 x6. record { header = x0; place = record { file = x1; offset = x2; len = x3 }; first_tx = x4; txs = x5; sum = x6 })

pub same_tx_fields : (x0 y0 : List ℕ) (x1 y1 : ℕ) (x2 y2 : ℕ) (x3 y3 : ℕ) (x4 y4 : ℕ) (x5 y5 : ℕ) (x6 y6 : ℕ) (x7 y7 : ℕ) (x8 y8 : Option ℕ) (x9 y9 : Option ℕ) → x0 ≡ y0 → x1 ≡ y1 → x2 ≡ y2 → x3 ≡ y3 → x4 ≡ y4 → x5 ≡ y5 → x6 ≡ y6 → x7 ≡ y7 → x8 ≡ y8 → x9 ≡ y9 → (f : List ℕ → ℕ → ℕ → ℕ → ℕ → ℕ → ℕ → ℕ → Option ℕ → Option ℕ → TxRow) → f x0 x1 x2 x3 x4 x5 x6 x7 x8 x9 ≡ f y0 y1 y2 y3 y4 y5 y6 y7 y8 y9
same_tx_fields x0 y0 x1 y1 x2 y2 x3 y3 x4 y4 x5 y5 x6 y6 x7 y7 x8 y8 x9 y9 h0 h1 h2 h3 h4 h5 h6 h7 h8 h9 f = cc

pub one_tx_row : (r s : TxRow) → FitsTxRow r → FitsTxRow s → tx_row_bytes r ≡ tx_row_bytes s → r ≡ s
one_tx_row r s p q e =
    let a0 = same_cut r.txid.0 _ s.txid.0 _ (p.txid ∙ sym q.txid) e in
    let a1 = number_again r.height s.height _ _ p.height q.height a0.1 in
    let a2 = number_again r.start s.start _ _ p.start q.start a1.1 in
    let a3 = number_again r.len s.len _ _ p.len q.len a2.1 in
    let a4 = long_again r.first_out s.first_out _ _ p.first_out q.first_out a3.1 in
    let a5 = number_again r.outs s.outs _ _ p.outs q.outs a4.1 in
    let a6 = long_again r.first_in s.first_in _ _ p.first_in q.first_in a5.1 in
    let a7 = number_again r.ins s.ins _ _ p.ins q.ins a6.1 in
    let a8 = link_again r.older s.older _ _ p.older q.older a7.1 in
    let a9 = link_again r.next s.next [] [] p.next q.next a8.1 in
    same_tx_fields r.txid.0 s.txid.0 r.height s.height r.start s.start r.len s.len r.first_out s.first_out r.outs s.outs r.first_in s.first_in r.ins s.ins r.older s.older r.next s.next a0.0 a1.0 a2.0 a3.0 a4.0 a5.0 a6.0 a7.0 a8.0 a9.0 (λ x0 x1 x2 x3 x4 x5 x6 x7 x8 x9. record { txid = record { 0 = x0 }; height = x1; start = x2; len = x3; first_out = x4; outs = x5; first_in = x6; ins = x7; older = x8; next = x9 })

pub same_head_fields : (x0 y0 : Option ℕ) → x0 ≡ y0 → (f : Option ℕ → HeadRow) → f x0 ≡ f y0
same_head_fields x0 y0 h0 f = cc

pub one_head_row : (r s : HeadRow) → FitsHeadRow r → FitsHeadRow s → head_row_bytes r ≡ head_row_bytes s → r ≡ s
one_head_row r s p q e =
    let a0 = link_again r.head s.head [] [] p.head q.head e in
    same_head_fields r.head s.head a0.0 (λ x0. record { head = x0 })

pub same_in_fields : (x0 y0 : ℕ) → x0 ≡ y0 → (f : ℕ → InRow) → f x0 ≡ f y0
same_in_fields x0 y0 h0 f = cc

pub one_in_row : (r s : InRow) → FitsInRow r → FitsInRow s → in_row_bytes r ≡ in_row_bytes s → r ≡ s
one_in_row r s p q e =
    let a0 = long_again r.out s.out [] [] p.out q.out e in
    same_in_fields r.out s.out a0.0 (λ x0. record { out = x0 })

pub same_script_fields : (x0 y0 : List ℕ) (x1 y1 : Option ℕ) (x2 y2 : Option ℕ) (x3 y3 : ℕ) (x4 y4 : ℕ) → x0 ≡ y0 → x1 ≡ y1 → x2 ≡ y2 → x3 ≡ y3 → x4 ≡ y4 → (f : List ℕ → Option ℕ → Option ℕ → ℕ → ℕ → ScriptRow) → f x0 x1 x2 x3 x4 ≡ f y0 y1 y2 y3 y4
same_script_fields x0 y0 x1 y1 x2 y2 x3 y3 x4 y4 h0 h1 h2 h3 h4 f = cc

pub one_script_row : (r s : ScriptRow) → FitsScriptRow r → FitsScriptRow s → script_row_bytes r ≡ script_row_bytes s → r ≡ s
one_script_row r s p q e =
    let a0 = same_cut r.script.0 _ s.script.0 _ (p.script ∙ sym q.script) e in
    let a1 = link_again r.next s.next _ _ p.next q.next a0.1 in
    let a2 = link_again r.last s.last _ _ p.last q.last a1.1 in
    let a3 = long_again r.entries s.entries _ _ p.entries q.entries a2.1 in
    let a4 = long_again r.balance s.balance [] [] p.balance q.balance a3.1 in
    same_script_fields r.script.0 s.script.0 r.next s.next r.last s.last r.entries s.entries r.balance s.balance a0.0 a1.0 a2.0 a3.0 a4.0 (λ x0 x1 x2 x3 x4. record { script = record { 0 = x0 }; next = x1; last = x2; entries = x3; balance = x4 })

pub same_entry_fields : (x0 y0 : ℕ) (x1 y1 : ℕ) (x2 y2 : Option ℕ) → x0 ≡ y0 → x1 ≡ y1 → x2 ≡ y2 → (f : ℕ → ℕ → Option ℕ → EntryRow) → f x0 x1 x2 ≡ f y0 y1 y2
same_entry_fields x0 y0 x1 y1 x2 y2 h0 h1 h2 f = cc

pub one_entry_row : (r s : EntryRow) → FitsEntryRow r → FitsEntryRow s → entry_row_bytes r ≡ entry_row_bytes s → r ≡ s
one_entry_row r s p q e =
    let a0 = long_again r.tx s.tx _ _ p.tx q.tx e in
    let a1 = long_again r.script s.script _ _ p.script q.script a0.1 in
    let a2 = link_again r.before s.before [] [] p.before q.before a1.1 in
    same_entry_fields r.tx s.tx r.script s.script r.before s.before a0.0 a1.0 a2.0 (λ x0 x1 x2. record { tx = x0; script = x1; before = x2 })

pub one_byte : (xs : List ℕ) → length xs ≡ 1 → xs ≡ get_or xs 0 0 ∷ []
one_byte [] long = absurd (omega (arith, long))
one_byte (x ∷ []) long = refl
one_byte (x ∷ y ∷ ys) long = absurd (omega (arith, long))

pub state_again : (s : State) → state_of (state_number s) (state_by s) ≡ s
state_again state.Unspent = refl
state_again (state.Spent by) = refl
state_again (state.Buried by) = refl

pub same_out_fields : (a b c d e f : ℕ) (s t : State) → a ≡ b → c ≡ d → e ≡ f → s ≡ t → (g : ℕ → ℕ → ℕ → State → OutRow) → g a c e s ≡ g b d f t
same_out_fields a b c d e f s t h i j k g = cc

-- what is written as an output's row is read again
pub one_out_row : (r s : OutRow) (bytes : List ℕ) (reads : ReadsAsOut bytes s) → FitsOutRow r → s.tx < number_limit → s.value < 2 ^ 64 → s.script < number_limit → reads.by < number_limit → out_row_bytes r ≡ bytes → r ≡ s
one_out_row r s bytes reads p tx value script by e =
    let a = long_again r.tx s.tx _ _ p.tx tx (e ∙ reads.fields) in
    let b = long_again r.value s.value _ _ p.value value a.1 in
    let c = long_again r.script s.script _ _ p.script script b.1 in
    let kind : state_number r.state ≡ reads.state = cc in
    let rest = long_again (state_by r.state) reads.by [] [] p.by by (ap (λ (t : List ℕ). drop 1 t) c.1) in
    let same : r.state ≡ s.state = sym (state_again r.state) ∙ ap (λ n. state_of n (state_by r.state)) kind ∙ ap (λ n. state_of reads.state n) rest.0 ∙ sym reads.is in
    same_out_fields r.tx s.tx r.value s.value r.script s.script r.state s.state a.0 b.0 c.0 same (λ x y z w. record { tx = x; value = y; script = z; state = w })

-- 5 fields, each put after those before
pub nested_5 : (a b c d e : List ℕ) → (((a ++ b) ++ c) ++ d) ++ e ≡ a ++ (b ++ (c ++ (d ++ (e))))
nested_5 a b c d e = simp append_assoc

-- 7 fields, each put after those before
pub nested_7 : (a b c d e f g : List ℕ) → (((((a ++ b) ++ c) ++ d) ++ e) ++ f) ++ g ≡ a ++ (b ++ (c ++ (d ++ (e ++ (f ++ (g))))))
nested_7 a b c d e f g = simp append_assoc

-- 10 fields, each put after those before
pub nested_10 : (a b c d e f g h i j : List ℕ) → ((((((((a ++ b) ++ c) ++ d) ++ e) ++ f) ++ g) ++ h) ++ i) ++ j ≡ a ++ (b ++ (c ++ (d ++ (e ++ (f ++ (g ++ (h ++ (i ++ (j)))))))))
nested_10 a b c d e f g h i j = simp append_assoc
