-- The lines of bytes, from the front.
use Rattle.std.proofs.Common.{◌≡◌, ℕ, List, [], ◌∷◌, ◌++◌, map, refl, ap, sym, ◌∙◌, append_assoc, append-nil, ne_eqb, ◌==◌, inl, inr, false}
use Rattle.std.proofs.lemmas.List.{map-append}
use Rattle.el_lines.specs.Lines.{Cut, cut, cut_before, byte_before, event_of, open_event, lines}
use Rattle.el_lines.proofs.Cuts.{either}
use Rattle.el_lines.specs.LineStates.{HasNoNewline}

-- bytes before the first line
abbrev fronted : List ℕ → List (List ℕ) → List ℕ → Cut
fronted front [] open_line = record { whole = []; open_line = front ++ open_line }
fronted front (l ∷ ls) open_line = record { whole = (front ++ l) ∷ ls; open_line = open_line }

fronted_more : (x : ℕ) (front : List ℕ) (ls : List (List ℕ)) (o : List ℕ)
    → byte_before x (fronted front ls o).whole (fronted front ls o).open_line ≡ fronted (x ∷ front) ls o
fronted_more x front [] o = refl
fronted_more x front (l ∷ ls) o = refl

fronted_none : (ls : List (List ℕ)) (o : List ℕ) → record { whole = ls; open_line = o } ≡ fronted [] ls o
fronted_none [] o = refl
fronted_none (l ∷ ls) o = refl

-- bytes without byte 10 belong to the first line
cut_front : (front rest : List ℕ) → HasNoNewline front → cut (front ++ rest) ≡ fronted front (cut rest).whole (cut rest).open_line
cut_front [] rest none = fronted_none (cut rest).whole (cut rest).open_line
cut_front (x ∷ front) rest none =
    ap (cut_before x) (cut_front front rest none.1) ∙ rw (ne_eqb x 10 none.0) (fronted_more x front (cut rest).whole (cut rest).open_line)

-- byte 10 after them ends it
pub cut_ended : (front rest : List ℕ) → HasNoNewline front
    → cut (front ++ 10 ∷ rest) ≡ record { whole = front ∷ (cut rest).whole; open_line = (cut rest).open_line }
cut_ended front rest none = cut_front front (10 ∷ rest) none ∙ rw (append-nil front) refl

-- and without it they are the open line
pub cut_open : (front : List ℕ) → HasNoNewline front → cut front ≡ record { whole = []; open_line = front }
cut_open front none = ap cut (sym (append-nil front)) ∙ cut_front front [] none ∙ rw (append-nil front) refl

-- the lines of bytes after others go on from their open line
pub cut_append : (heard bytes : List ℕ) → cut (heard ++ bytes)
    ≡ record {
      whole = (cut heard).whole ++ (cut ((cut heard).open_line ++ bytes)).whole;
      open_line = (cut ((cut heard).open_line ++ bytes)).open_line;
    }
cut_append [] bytes = refl
cut_append (x ∷ heard) bytes = ap (cut_before x) (cut_append heard bytes) ∙ go (cut heard).whole (cut heard).open_line
  where
    go : (ls : List (List ℕ)) (o : List ℕ)
        → cut_before x (record { whole = ls ++ (cut (o ++ bytes)).whole; open_line = (cut (o ++ bytes)).open_line })
        ≡ record {
          whole = (cut_before x (record { whole = ls; open_line = o })).whole
              ++ (cut ((cut_before x (record { whole = ls; open_line = o })).open_line ++ bytes)).whole;
          open_line = (cut ((cut_before x (record { whole = ls; open_line = o })).open_line ++ bytes)).open_line;
        }
    go ls o = elim (either (x == 10)) [
      | inl h ↦ rw h refl
      | inr h ↦ rw h (others ls o h)
    ]
      where
        others : (ls : List (List ℕ)) (o : List ℕ) → x == 10 ≡ false
            → byte_before x (ls ++ (cut (o ++ bytes)).whole) (cut (o ++ bytes)).open_line
            ≡ record {
              whole = (byte_before x ls o).whole ++ (cut ((byte_before x ls o).open_line ++ bytes)).whole;
              open_line = (cut ((byte_before x ls o).open_line ++ bytes)).open_line;
            }
        others [] o h = rw h refl
        others (l ∷ ls) o h = refl

-- where lines have ended, others follow
pub cut_after : (ended rest : List ℕ) → (cut ended).open_line ≡ []
    → cut (ended ++ rest) ≡ record { whole = (cut ended).whole ++ (cut rest).whole; open_line = (cut rest).open_line }
cut_after ended rest unended = cut_append ended rest ∙ rw unended refl

pub lines_after : (limit : ℕ) (ended rest : List ℕ) → (cut ended).open_line ≡ []
    → lines limit (ended ++ rest) ≡ map (event_of limit) (cut ended).whole ++ lines limit rest
lines_after limit ended rest unended = rw (cut_after ended rest unended, map-append (event_of limit) (cut ended).whole (cut rest).whole)
    (append_assoc (map (event_of limit) (cut ended).whole) (map (event_of limit) (cut rest).whole) (open_event limit (cut rest).open_line))

-- the first line of bytes, and the others
pub lines_ended : (limit : ℕ) (front rest : List ℕ) → HasNoNewline front → lines limit (front ++ 10 ∷ rest) ≡ event_of limit front ∷ lines limit rest
lines_ended limit front rest none = rw (cut_ended front rest none) refl

pub lines_open : (limit : ℕ) (front : List ℕ) → HasNoNewline front → lines limit front ≡ open_event limit front
lines_open limit front none = rw (cut_open front none) refl
