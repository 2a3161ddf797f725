-- Bytes are cut into lines the same way, however they come.
use Rattle.std.proofs.Common.{◌≡◌, ◌⊎◌, inl, inr, ℕ, Bool, true, false, List, [], ◌∷◌, ◌++◌, length, map, drop, refl, ap, sym, ◌∙◌, append_assoc, append-nil, arith, length-append, ◌==◌, nat_lt, lt-ltb, le-ltb, ltb-true, eqb-true}
use Rattle.std.proofs.lemmas.List.{drop_at, map-append}
use Rattle.el_lines.specs.Lines.{Cut, cut, cut_before, byte_before, LineEvent, line, event_of, open_event, lines, added_lines}

pub either : (b : Bool) → (b ≡ true) ⊎ (b ≡ false)
either true = inl refl
either false = inr refl

-- one byte more, which ends a line
pub cut_line : (bytes : List ℕ) → cut (bytes ++ 10 ∷ []) ≡ record { whole = (cut bytes).whole ++ (cut bytes).open_line ∷ []; open_line = [] }
cut_line [] = refl
cut_line (b ∷ bytes) = ap (cut_before b) (cut_line bytes) ∙ before_line b (cut bytes)
  where
    line_before : (b : ℕ) (whole : List (List ℕ)) (open_line : List ℕ)
        → byte_before b (whole ++ open_line ∷ []) [] ≡ record { whole = (byte_before b whole open_line).whole ++ (byte_before b whole open_line).open_line ∷ []; open_line = [] }
    line_before b [] open_line = refl
    line_before b (l ∷ ls) open_line = refl

    before_line : (b : ℕ) (c : Cut) → cut_before b (record { whole = c.whole ++ c.open_line ∷ []; open_line = [] })
        ≡ record { whole = (cut_before b c).whole ++ (cut_before b c).open_line ∷ []; open_line = [] }
    before_line b c = elim (either (b == 10)) [
      | inl h ↦ rw h refl
      | inr h ↦ rw h (line_before b c.whole c.open_line)
    ]

-- one byte more of the open line
pub cut_byte : (bytes : List ℕ) (x : ℕ) → x == 10 ≡ false → cut (bytes ++ x ∷ []) ≡ record { whole = (cut bytes).whole; open_line = (cut bytes).open_line ++ x ∷ [] }
cut_byte [] x other = rw other refl
cut_byte (b ∷ bytes) x other = ap (cut_before b) (cut_byte bytes x other) ∙ before_byte b (cut bytes)
  where
    more_before : (b : ℕ) (whole : List (List ℕ)) (open_line : List ℕ)
        → byte_before b whole (open_line ++ x ∷ []) ≡ record { whole = (byte_before b whole open_line).whole; open_line = (byte_before b whole open_line).open_line ++ x ∷ [] }
    more_before b [] open_line = refl
    more_before b (l ∷ ls) open_line = refl

    before_byte : (b : ℕ) (c : Cut) → cut_before b (record { whole = c.whole; open_line = c.open_line ++ x ∷ [] })
        ≡ record { whole = (cut_before b c).whole; open_line = (cut_before b c).open_line ++ x ∷ [] }
    before_byte b c = elim (either (b == 10)) [
      | inl h ↦ rw h refl
      | inr h ↦ rw h (more_before b c.whole c.open_line)
    ]

-- An event stands for good once it is met: lines are met one after the other.
pub event_more : (limit : ℕ) (bytes : List ℕ) (x : ℕ) → (more : List LineEvent) × (lines limit (bytes ++ x ∷ []) ≡ lines limit bytes ++ more)
event_more limit bytes x = elim (either (x == 10)) [
  | inl h ↦
      let ten = eqb-true x 10 h in
      let c = cut bytes in
      let met = map-append (event_of limit) (cut bytes).whole ((cut bytes).open_line ∷ []) in
      let rest = line_met limit (cut bytes).open_line in (
        rest.0,
        rw (ten, cut_line bytes, met, no_open limit) (simp (append-nil, append_assoc) (ap (λ (t : List LineEvent). map (event_of limit) (cut bytes).whole ++ t) rest.1)),
      )
  | inr h ↦
      let rest = open_more limit (cut bytes).open_line x in (
        rest.0,
        rw (cut_byte bytes x h) (ap (λ (t : List LineEvent). map (event_of limit) (cut bytes).whole ++ t) rest.1 ∙ sym (append_assoc (map (event_of limit) (cut bytes).whole) (open_event limit (cut bytes).open_line) rest.0)),
      )
]
  where
    no_open : (limit : ℕ) → open_event limit [] ≡ []
    no_open limit = rw (le-ltb limit 0 (omega arith)) refl

    line_met : (limit : ℕ) (o : List ℕ) → (more : List LineEvent) × (event_of limit o ∷ [] ≡ open_event limit o ++ more)
    line_met limit o = elim (either (nat_lt limit (length o))) [
      | inl h ↦ ([], rw h refl)
      | inr h ↦ (line o ∷ [], rw h refl)
    ]

    open_more : (limit : ℕ) (o : List ℕ) (x : ℕ) → (more : List LineEvent) × (open_event limit (o ++ x ∷ []) ≡ open_event limit o ++ more)
    open_more limit o x = elim (either (nat_lt limit (length o))) [
      | inl h ↦ ([], rw (h, lt-ltb limit (length (o ++ x ∷ [])) (let lt = ltb-true limit (length o) h in simp length-append (omega arith))) refl)
      | inr h ↦ (open_event limit (o ++ x ∷ []), rw h refl)
    ]

pub lines_begin : (limit : ℕ) (first rest : List ℕ) → (more : List LineEvent) × (lines limit (first ++ rest) ≡ lines limit first ++ more)
lines_begin limit first [] = ([], ap (lines limit) (append-nil first) ∙ sym (append-nil (lines limit first)))
lines_begin limit first (x ∷ rest) =
    let one = event_more limit first x in
    let others = lines_begin limit (first ++ x ∷ []) rest in (
      one.0 ++ others.0,
      ap (lines limit) (sym (append_assoc first (x ∷ []) rest)) ∙ others.1 ∙ ap (λ (t : List LineEvent). t ++ others.0) one.1 ∙ append_assoc (lines limit first) one.0 others.0,
    )

pub pieces : (limit : ℕ) (first rest : List ℕ) → lines limit (first ++ rest) ≡ lines limit first ++ added_lines limit first rest
pieces limit first rest =
    let b = lines_begin limit first rest in
    let after : added_lines limit first rest ≡ b.0 = ap (drop (length (lines limit first))) b.1 ∙ drop_at (lines limit first) b.0 (length (lines limit first)) refl in
    b.1 ∙ ap (λ (t : List LineEvent). lines limit first ++ t) (sym after)
