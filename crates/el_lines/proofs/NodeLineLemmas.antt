-- A line of a node begins with one word alone, and says one thing.
use Rattle.std.proofs.Common.{◌≡◌, ℕ, ◌+◌, ◌*◌, List, ◌++◌, get_or, refl, sym, ap, ◌∙◌, arith, reverse}
use Rattle.hex.proofs.HexLemmas.{decode_of-same}
use Rattle.std.proofs.lemmas.List.{reverse-reverse}
use Rattle.std.specs.Str.Parse.{digits_value}
use Rattle.el_lines.proofs.Numbers.{same_numbers}
use Rattle.std.specs.Prelude.{codes}
use Rattle.el_base.specs.Shown.{Shows}
use Rattle.el_base.proofs.Lists.{same_cut}
use Rattle.el_lines.specs.NodeLines.{NodeLine, block, tip, tx, dropped, ShowsPlace, IsWordWith, ReadsNodeLine}

-- the first two bytes, as one number
mark : List ℕ → ℕ
mark line = get_or line 0 0 * 256 + get_or line 1 0

-- the text after a word
text_after : (word text line : List ℕ) (Shown : List ℕ → Type 0) → line ≡ word ++ text → IsWordWith word Shown line → Shown text
text_after word text line Shown e r = rw (same_cut word text word r.text refl (sym e ∙ r.whole)).1 r.shown

pub only_block : (line text : List ℕ) → line ≡ codes "block " ++ text → ((file place : ℕ) → ShowsPlace text file place → ⊥)
    → (said : NodeLine) → ReadsNodeLine line said → ⊥
unfolding mark
only_block line text e none (block file place) r = none file place (text_after (codes "block ") text line (λ t. ShowsPlace t file place) e r)
only_block line text e none (tip hash) r = absurd (let m = ap mark (sym e ∙ r.whole) in omega arith)
only_block line text e none (tx bytes) r = absurd (let m = ap mark (sym e ∙ r.whole) in omega arith)
only_block line text e none (dropped txid) r = absurd (let m = ap mark (sym e ∙ r.whole) in omega arith)

-- a hash from its text
shows_one : (text one other : List ℕ) → Shows text one → Shows text other → one ≡ other
shows_one text one other a b =
    let same : reverse one ≡ reverse other = decode_of-same text (reverse one) (reverse other) a.digits b.digits in
    sym (reverse-reverse one) ∙ ap reverse same ∙ reverse-reverse other

place_one : (text : List ℕ) (file place file' place' : ℕ) → ShowsPlace text file place → ShowsPlace text file' place' → (file ≡ file') × (place ≡ place')
place_one text file place file' place' a b =
    let same = same_numbers a.file_text a.place_text b.file_text b.place_text a.file_is.digits b.file_is.digits (sym a.whole ∙ b.whole) in
    (a.file_is.value ∙ ap (digits_value 10) same.0 ∙ sym b.file_is.value, a.place_is.value ∙ ap (digits_value 10) same.1 ∙ sym b.place_is.value)

same_text : (word line : List ℕ) (Shown Shown' : List ℕ → Type 0) (a : IsWordWith word Shown line) (b : IsWordWith word Shown' line) → a.text ≡ b.text
same_text word line Shown Shown' a b = (same_cut word a.text word b.text refl (sym a.whole ∙ b.whole)).1

-- a line says one thing alone
pub says_one : (line : List ℕ) (one other : NodeLine) → ReadsNodeLine line one → ReadsNodeLine line other → one ≡ other
unfolding mark
says_one line (block file place) (block file' place') a b =
    let same = place_one b.text file place file' place' (rw (← same_text _ line _ _ a b) a.shown) b.shown in
    ap (λ f. block f place) same.0 ∙ ap (block file') same.1
says_one line (block file place) (tip hash) a b = absurd (let m = ap mark (sym a.whole ∙ b.whole) in omega arith)
says_one line (block file place) (tx bytes) a b = absurd (let m = ap mark (sym a.whole ∙ b.whole) in omega arith)
says_one line (block file place) (dropped txid) a b = absurd (let m = ap mark (sym a.whole ∙ b.whole) in omega arith)
says_one line (tip hash) (block file place) a b = absurd (let m = ap mark (sym a.whole ∙ b.whole) in omega arith)
says_one line (tip hash) (tip hash') a b = ap tip (shows_one b.text hash hash' (rw (← same_text _ line _ _ a b) a.shown) b.shown)
says_one line (tip hash) (tx bytes) a b = absurd (let m = ap mark (sym a.whole ∙ b.whole) in omega arith)
says_one line (tip hash) (dropped txid) a b = absurd (let m = ap mark (sym a.whole ∙ b.whole) in omega arith)
says_one line (tx bytes) (block file place) a b = absurd (let m = ap mark (sym a.whole ∙ b.whole) in omega arith)
says_one line (tx bytes) (tip hash) a b = absurd (let m = ap mark (sym a.whole ∙ b.whole) in omega arith)
says_one line (tx bytes) (tx bytes') a b =
    ap tx (decode_of-same b.text bytes bytes' (rw (← same_text _ line _ _ a b) a.shown.digits) b.shown.digits)
says_one line (tx bytes) (dropped txid) a b = absurd (let m = ap mark (sym a.whole ∙ b.whole) in omega arith)
says_one line (dropped txid) (block file place) a b = absurd (let m = ap mark (sym a.whole ∙ b.whole) in omega arith)
says_one line (dropped txid) (tip hash) a b = absurd (let m = ap mark (sym a.whole ∙ b.whole) in omega arith)
says_one line (dropped txid) (tx bytes) a b = absurd (let m = ap mark (sym a.whole ∙ b.whole) in omega arith)
says_one line (dropped txid) (dropped txid') a b = ap dropped (shows_one b.text txid txid' (rw (← same_text _ line _ _ a b) a.shown) b.shown)
