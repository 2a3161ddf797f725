-- What was fed and how many events were given determine a line buffer.
use Rattle.std.proofs.Common.{◌≡◌, ℕ, ◌+◌, List, [], ◌∷◌, ◌++◌, length, refl, ap, sym, ◌∙◌, append-nil, arith, length-append, Bool, inl, inr, ◌==◌, eqb-true}
use Rattle.el_base.proofs.Lists.{same_cut}
use Rattle.el_lines.specs.Lines.{Cut, cut, cut_before, byte_before}
use Rattle.el_lines.proofs.Cuts.{either}
use Rattle.el_lines.specs.LineStates.{LineState, WasFed, between_lines, in_long_line, HasNoNewline}
use Rattle.el_lines.proofs.LineCuts.{cut_after, cut_open}

-- lines, each with its byte 10
ended_lines : List (List ℕ) → List ℕ
ended_lines [] = []
ended_lines (l ∷ ls) = l ++ 10 ∷ ended_lines ls

-- the bytes from their lines
rebuilt : (bytes : List ℕ) → bytes ≡ ended_lines (cut bytes).whole ++ (cut bytes).open_line
unfolding ended_lines
rebuilt [] = refl
rebuilt (b ∷ bytes) = ap (λ (t : List ℕ). b ∷ t) (rebuilt bytes) ∙ one (cut bytes)
  where
    others : (ls : List (List ℕ)) (o : List ℕ) → b ∷ (ended_lines ls ++ o) ≡ ended_lines (byte_before b ls o).whole ++ (byte_before b ls o).open_line
    others [] o = refl
    others (l ∷ ls) o = refl

    one : (c : Cut) → b ∷ (ended_lines c.whole ++ c.open_line) ≡ ended_lines (cut_before b c).whole ++ (cut_before b c).open_line
    one c = elim (either (b == 10)) [
      | inl h ↦ rw h (let ten = eqb-true b 10 h in ap (λ n. n ∷ (ended_lines c.whole ++ c.open_line)) ten)
      | inr h ↦ rw h (others c.whole c.open_line)
    ]

ended_are : (ended : List ℕ) → (cut ended).open_line ≡ [] → ended ≡ ended_lines (cut ended).whole
ended_are ended unended = rebuilt ended ∙ rw unended (append-nil (ended_lines (cut ended).whole))

-- as many ended lines at the front of the same bytes are the same
same_front : (a b c d : List ℕ) → a ++ b ≡ c ++ d → (cut a).open_line ≡ [] → (cut c).open_line ≡ [] → length (cut a).whole ≡ length (cut c).whole → (a ≡ c) × (b ≡ d)
same_front a b c d e first second count =
    let whole : (cut a).whole ++ (cut b).whole ≡ (cut c).whole ++ (cut d).whole =
    ap (λ (x : Cut). x.whole) (sym (cut_after a b first)) ∙ ap (λ (x : List ℕ). (cut x).whole) e ∙ ap (λ (x : Cut). x.whole) (cut_after c d second) in
    let front = same_cut (cut a).whole (cut b).whole (cut c).whole (cut d).whole count whole in
    let same : a ≡ c = ended_are a first ∙ ap ended_lines front.0 ∙ sym (ended_are c second) in
    same_cut a b c d (ap (λ (x : List ℕ). length x) same) e

-- an open line after them adds none
counted : (a b c d : List ℕ) → a ++ b ≡ c ++ d → (cut a).open_line ≡ [] → (cut c).open_line ≡ [] → HasNoNewline d
    → length (cut a).whole + length (cut b).whole ≡ length (cut c).whole
counted a b c d e first second none =
    let whole : (cut a).whole ++ (cut b).whole ≡ (cut c).whole ++ (cut d).whole =
    ap (λ (x : Cut). x.whole) (sym (cut_after a b first)) ∙ ap (λ (x : List ℕ). (cut x).whole) e ∙ ap (λ (x : Cut). x.whole) (cut_after c d second) in
    let nothing : (cut d).whole ≡ [] = ap (λ (x : Cut). x.whole) (cut_open d none) in
    sym (length-append (cut a).whole (cut b).whole) ∙ ap (λ (x : List (List ℕ)). length x) (whole ∙ ap (λ (x : List (List ℕ)). (cut c).whole ++ x) nothing ∙ append-nil (cut c).whole)

same_fields : (s t : LineState) → s.limit ≡ t.limit → s.rest ≡ t.rest → s.skips ≡ t.skips → s ≡ t
same_fields s t limit rest skips =
    ap (λ (l : ℕ). record { limit = l; rest = s.rest; skips = s.skips }) limit
    ∙ ap (λ (r : List ℕ). record { limit = t.limit; rest = r; skips = s.skips }) rest
    ∙ ap (λ (b : Bool). record { limit = t.limit; rest = t.rest; skips = b }) skips

pub same_state : (s t : LineState) (fed : List ℕ) (given : ℕ) → s.limit ≡ t.limit → WasFed s fed given → WasFed t fed given → s ≡ t
same_state s t fed given limit (between_lines a plain whole unended count) (between_lines b plain' whole' unended' count') =
    let same = same_front a s.rest b t.rest (sym whole ∙ whole') unended unended' (sym count ∙ count') in
    same_fields s t limit same.1 (plain ∙ sym plain')
same_state s t fed given limit (between_lines a plain whole unended count) (in_long_line b line skips empty whole' unended' none long count') =
    absurd (let n = counted a s.rest b line (sym whole ∙ whole') unended unended' none in omega arith)
same_state s t fed given limit (in_long_line a line skips empty whole unended none long count) (between_lines b plain whole' unended' count') =
    absurd (let n = counted b t.rest a line (sym whole' ∙ whole) unended' unended none in omega arith)
same_state s t fed given limit (in_long_line a line skips empty whole unended none long count) (in_long_line b line' skips' empty' whole' unended' none' long' count') =
    same_fields s t limit (empty ∙ sym empty') (skips ∙ sym skips')
