-- A line buffer goes from event to event.
use Rattle.std.proofs.Common.{◌≡◌, ℕ, ◌+◌, ◌<◌, ◌≤◌, List, [], ◌∷◌, ◌++◌, length, map, take, drop, refl, ap, sym, ◌∙◌, append_assoc, append-nil, arith, length-append, Some, None, true, false, slice_get, lt-ltb, le-ltb}
use Rattle.std.proofs.lemmas.List.{length-map, length-take-le, get_or_default}
use Rattle.el_base.proofs.Lists.{cut_at, all_append}
use Rattle.el_lines.specs.Lines.{cut, LineEvent, line, too_long, event_of, lines}
use Rattle.el_lines.specs.LineStates.{LineState, WasFed, between_lines, in_long_line, HasNoNewline}
use Rattle.el_lines.specs.within.Places.{StandsFirst}
use Rattle.el_lines.proofs.LineCuts.{cut_ended, cut_after, lines_after, lines_ended, lines_open}

get_at : {X : Type 0} (xs : List X) (y : X) (ys : List X) → slice_get (xs ++ y ∷ ys) (length xs) ≡ Some y
get_at [] y ys = refl
get_at (x ∷ xs) y ys = get_at xs y ys

pub get_end : {X : Type 0} (xs : List X) → slice_get xs (length xs) ≡ None
get_end [] = refl
get_end (x ∷ xs) = get_end xs

-- the bytes around the byte 10
pub split_line : (bytes : List ℕ) (end : ℕ) → StandsFirst 10 bytes end → bytes ≡ take end bytes ++ 10 ∷ drop (end + 1) bytes
split_line bytes end ends = cut_at bytes end 10 ends.inside (sym ends.is ∙ get_or_default bytes end 0 10 ends.inside)

-- the event after those of the lines that have ended
next_listed : (limit : ℕ) (ended rest : List ℕ) (e : LineEvent) (es : List LineEvent) → (cut ended).open_line ≡ [] → lines limit rest ≡ e ∷ es
    → slice_get (lines limit (ended ++ rest)) (length (cut ended).whole) ≡ Some e
next_listed limit ended rest e es unended first =
    ap (λ (t : List LineEvent). slice_get t (length (cut ended).whole)) (lines_after limit ended rest unended ∙ ap (λ (t : List LineEvent). map (event_of limit) (cut ended).whole ++ t) first)
    ∙ ap (slice_get (map (event_of limit) (cut ended).whole ++ e ∷ es)) (sym (length-map (cut ended).whole (event_of limit)))
    ∙ get_at (map (event_of limit) (cut ended).whole) e es

-- a line as an event, by its length
pub long_event : (limit : ℕ) (bytes : List ℕ) (end : ℕ) → end < length bytes → limit < end → event_of limit (take end bytes) ≡ too_long
long_event limit bytes end inside long = rw (lt-ltb limit (length (take end bytes)) (rw (length-take-le end bytes (omega arith)) long)) refl

pub short_event : (limit : ℕ) (bytes : List ℕ) (end : ℕ) → end < length bytes → end ≤ limit → event_of limit (take end bytes) ≡ line (take end bytes)
short_event limit bytes end inside short = rw (le-ltb limit (length (take end bytes)) (rw (length-take-le end bytes (omega arith)) short)) refl

-- where an event is listed, some are left
pub not_all : (es : List LineEvent) (given : ℕ) (e : LineEvent) → slice_get es given ≡ Some e → given ≡ length es → ⊥
not_all es given e listed all = absurd (let none : slice_get es given ≡ None = rw all (get_end es) in cc)

-- the line that ends is the next event
pub next_ended : (s t : LineState) (fed : List ℕ) (given end : ℕ) → WasFed s fed given → StandsFirst 10 s.rest end → t ≡ record s { rest = drop (end + 1) s.rest }
    → (slice_get (lines s.limit fed) given ≡ Some (event_of s.limit (take end s.rest))) × WasFed t fed (given + 1)
next_ended s t fed given end (between_lines ended plain whole unended count) ends is =
    let front = take end s.rest in
    let after = drop (end + 1) s.rest in
    let split = split_line s.rest end ends in
    let more = cut_after ended (front ++ 10 ∷ []) unended in
    let one = cut_ended front [] ends.none in (
      rw (whole, count) (next_listed s.limit ended s.rest (event_of s.limit front) (lines s.limit after) unended
          (ap (lines s.limit) split ∙ lines_ended s.limit front after ends.none)),
      rw is (between_lines (ended ++ (front ++ 10 ∷ [])) plain
          (whole ∙ ap (λ (x : List ℕ). ended ++ x) split ∙ simp append_assoc)
          (rw (more, one) refl)
          (rw (more, one) (simp length-append (omega arith)))),
    )
next_ended s t fed given end (in_long_line ended long_line skips none whole unended no_ten long count) ends is =
    absurd (let lt = ends.inside in omega (arith, ap length none))

-- the open line is, where it is above the limit
pub next_long : (s t : LineState) (fed : List ℕ) (given : ℕ) → WasFed s fed given → HasNoNewline s.rest → s.limit < length s.rest
    → t ≡ record { limit = s.limit; rest = []; skips = true }
    → (slice_get (lines s.limit fed) given ≡ Some too_long) × WasFed t fed (given + 1)
next_long s t fed given (between_lines ended plain whole unended count) none long is = (
  rw (whole, count) (next_listed s.limit ended s.rest too_long [] unended
      (lines_open s.limit s.rest none ∙ rw (lt-ltb s.limit (length s.rest) long) refl)),
  rw is (in_long_line ended s.rest refl refl whole unended none long (ap (λ n. n + 1) count)),
)
next_long s t fed given (in_long_line ended long_line skips empty whole unended no_ten big count) none long is =
    absurd (omega (arith, ap length empty))

-- and else there is none
pub next_none : (s : LineState) (fed : List ℕ) (given : ℕ) → WasFed s fed given → HasNoNewline s.rest → length s.rest ≤ s.limit
    → given ≡ length (lines s.limit fed)
next_none s fed given (between_lines ended plain whole unended count) none short =
    let all : lines s.limit fed ≡ map (event_of s.limit) (cut ended).whole = ap (lines s.limit) whole ∙ lines_after s.limit ended s.rest unended
    ∙ ap (λ (t : List LineEvent). map (event_of s.limit) (cut ended).whole ++ t) (lines_open s.limit s.rest none ∙ rw (le-ltb s.limit (length s.rest) short) refl)
    ∙ append-nil (map (event_of s.limit) (cut ended).whole) in
    count ∙ sym (ap length all ∙ length-map (cut ended).whole (event_of s.limit))
next_none s fed given (in_long_line ended long_line skips empty whole unended no_ten big count) none short =
    let all : lines s.limit fed ≡ map (event_of s.limit) (cut ended).whole ++ too_long ∷ [] = ap (lines s.limit) whole ∙ lines_after s.limit ended long_line unended
    ∙ ap (λ (t : List LineEvent). map (event_of s.limit) (cut ended).whole ++ t) (lines_open s.limit long_line no_ten ∙ rw (lt-ltb s.limit (length long_line) big) refl) in
    count ∙ sym (ap length all ∙ simp (length-append, length-map) refl)

-- more bytes come
pub fed_more : (s t : LineState) (fed bytes : List ℕ) (given : ℕ) → WasFed s fed given → s.skips ≡ false
    → t ≡ record { limit = s.limit; rest = s.rest ++ bytes; skips = false } → WasFed t (fed ++ bytes) given
fed_more s t fed bytes given (between_lines ended plain whole unended count) plainly is =
    rw is (between_lines ended refl (ap (λ (x : List ℕ). x ++ bytes) whole ∙ append_assoc ended s.rest bytes) unended count)
fed_more s t fed bytes given (in_long_line ended long_line skips empty whole unended no_ten big count) plainly is = absurd cc

-- and are skipped, where their line was too long
pub fed_skipped : (s : LineState) (fed bytes : List ℕ) (given : ℕ) → WasFed s fed given → s.skips ≡ true → HasNoNewline bytes → WasFed s (fed ++ bytes) given
fed_skipped s fed bytes given (between_lines ended plain whole unended count) skipping none = absurd cc
fed_skipped s fed bytes given (in_long_line ended long_line skips empty whole unended no_ten big count) skipping none =
    in_long_line ended (long_line ++ bytes) skips empty (ap (λ (x : List ℕ). x ++ bytes) whole ∙ append_assoc ended long_line bytes) unended
    (all_append _ long_line bytes no_ten none) (simp length-append (omega arith)) count

-- up to its byte 10
pub fed_ended : (s t : LineState) (fed bytes : List ℕ) (given end : ℕ) → WasFed s fed given → s.skips ≡ true → StandsFirst 10 bytes end
    → t ≡ record { limit = s.limit; rest = s.rest ++ drop (end + 1) bytes; skips = false } → WasFed t (fed ++ bytes) given
fed_ended s t fed bytes given end (between_lines ended plain whole unended count) skipping ends is = absurd cc
fed_ended s t fed bytes given end (in_long_line ended long_line skips empty whole unended no_ten big count) skipping ends is =
    let front = long_line ++ take end bytes in
    let after = drop (end + 1) bytes in
    let more = cut_after ended (front ++ 10 ∷ []) unended in
    let one = cut_ended front [] (all_append _ long_line (take end bytes) no_ten ends.none) in
    rw is (between_lines (ended ++ (front ++ 10 ∷ [])) refl
    (ap (λ (x : List ℕ). fed ++ x) (split_line bytes end ends) ∙ ap (λ (x : List ℕ). x ++ (take end bytes ++ 10 ∷ after)) whole ∙ rw empty (simp append_assoc))
    (rw (more, one) refl)
    (rw (more, one) (simp length-append (omega arith))))
