-- The words of options, as clap walks over them.
use Rattle.std.proofs.Common.{◌≡◌, ◌==◌, ◌∙◌, ◌&&◌, ◌||◌, not, ℕ, zero, suc, List, [], ◌∷◌, ◌++◌, Bool, true, false, cond, if◌then◌else◌, codes, refl, sym, ap, ap₂, subst, map, drop, find, fold, slice_get, Contains, Option, Some, None, option_map, option_and_then, arith}
use Rattle.std.specs.List.{AllByRecursion, IsDistinct}
use Rattle.std.specs.Str.{bytes_eq}
use Rattle.std.proofs.lemmas.Bool.{ne_eqb, or_parts, and_from}
use Rattle.clap.specs.Walk.{Row, Rule, Text, Walk, Held, first_of, walked, walk_from, nothing_held, option, has_row, settled, at_row, with_values, more_values, without, with_default, default_rows, reading_by, finished}
use Rattle.clap.specs.Simple.{Shape, matches_of, is_simple, built}
use Rattle.clap.specs.Takes.{takes, walk_passes, turn_passes, settle_passes, level_passes}
use Rattle.clap.specs.declared.parser.matches.ValueSource.TheVariants.{CommandLine}
use Rattle.clap.specs.Values.{reading_of}
use Rattle.clap.specs.declared.builder.value_parser.Reading.{Reading}
use Rattle.clap.specs.declared.builder.value_parser.ValueParser.TheVariants as vp
use Rattle.clap.proofs.TakesLemmas.{leaf_takes}
use Rattle.clap.proofs.OnLiterals.{clap_on_literals}
use Rattle.el_words.specs.Options.{Word, Given, words_of, value_of, AreOptions}
use Rattle.el_words.specs.Words.{serve_options}
use Rattle.el_words.specs.within.Reading.{reader}

abbrev top : Shape
top = (built reader).top

abbrev rules : List Rule
rules = top.rules

-- the id of an option: its word without `--`
abbrev pub id_of : Word → Word
id_of o = drop 2 o

-- a fact of each of the options
each : (P : Word → Type 0) → P (codes "--blocks") → P (codes "--index") → P (codes "--network")
    → P (codes "--client-port") → P (codes "--node-port") → P (codes "--pool-count")
    → P (codes "--pool-bytes") → P (codes "--head-bits") → P (codes "--relay")
    → (o : Word) → Contains serve_options o → P o
each P a b c d e f g h i o (zero, lt, is) = subst P is a
each P a b c d e f g h i o (suc zero, lt, is) = subst P is b
each P a b c d e f g h i o (suc (suc zero), lt, is) = subst P is c
each P a b c d e f g h i o (suc (suc (suc zero)), lt, is) = subst P is d
each P a b c d e f g h i o (suc (suc (suc (suc zero))), lt, is) = subst P is e
each P a b c d e f g h i o (suc (suc (suc (suc (suc zero)))), lt, is) = subst P is f
each P a b c d e f g h i o (suc (suc (suc (suc (suc (suc zero))))), lt, is) = subst P is g
each P a b c d e f g h i o (suc (suc (suc (suc (suc (suc (suc zero)))))), lt, is) = subst P is h
each P a b c d e f g h i o (suc (suc (suc (suc (suc (suc (suc (suc zero))))))), lt, is) = subst P is i
each P a b c d e f g h i o (suc (suc (suc (suc (suc (suc (suc (suc (suc k)))))))), lt, is) = absurd (omega (arith, lt))

-- an option is `--` and its id
pub with_hyphens : (o : Word) → Contains serve_options o → o ≡ 45 ∷ 45 ∷ id_of o
with_hyphens = each (λ o. o ≡ 45 ∷ 45 ∷ id_of o) refl refl refl refl refl refl refl refl refl

-- after an option clap waits for its value
abbrev waiting : Held → Word → Walk
waiting h o = record {
  held = record (settled rules h) { pending = Some (id_of o, []) };
  waiting = option (id_of o);
  position = 1;
  is_trailing = false;
  stopped = None;
}

-- after its value the option is pending
abbrev after : Held → Word → Word → Held
after h o value = record (settled rules h) { pending = Some (id_of o, value ∷ []) }

option_step : (h : Held) (o : Word) → Contains serve_options o → walked rules [] (walk_from h) o ≡ waiting h o
unfolding clap_on_literals
option_step h = each (λ o. walked rules [] (walk_from h) o ≡ waiting h o) refl refl refl refl refl refl refl refl refl

option_turn : (h : Held) (o : Word) → Contains serve_options o
    → turn_passes top [] (walk_from h) o ≡ (settle_passes rules false h && true)
unfolding clap_on_literals
option_turn h = each (λ o. turn_passes top [] (walk_from h) o ≡ (settle_passes rules false h && true))
    refl refl refl refl refl refl refl refl refl

value_step : (h : Held) (o : Word) (x : ℕ) (xs : List ℕ) → (x == 45) ≡ false → Contains serve_options o
    → walked rules [] (waiting h o) (x ∷ xs) ≡ walk_from (after h o (x ∷ xs))
unfolding clap_on_literals
value_step h o x xs hx = each (λ o. walked rules [] (waiting h o) (x ∷ xs) ≡ walk_from (after h o (x ∷ xs)))
    (rw (hx, hx) refl) (rw (hx, hx) refl) (rw (hx, hx) refl) (rw (hx, hx) refl) (rw (hx, hx) refl)
    (rw (hx, hx) refl) (rw (hx, hx) refl) (rw (hx, hx) refl) (rw (hx, hx) refl) o

value_turn : (h : Held) (o : Word) (x : ℕ) (xs : List ℕ) → (x == 45) ≡ false → Contains serve_options o
    → turn_passes top [] (waiting h o) (x ∷ xs) ≡ true
unfolding clap_on_literals
value_turn h o x xs hx = each (λ o. turn_passes top [] (waiting h o) (x ∷ xs) ≡ true)
    (rw (hx, hx) refl) (rw (hx, hx) refl) (rw (hx, hx) refl) (rw (hx, hx) refl) (rw (hx, hx) refl)
    (rw (hx, hx) refl) (rw (hx, hx) refl) (rw (hx, hx) refl) (rw (hx, hx) refl) o

-- what is found for an option
abbrev how : Reading
how = reading_of vp.String

abbrev row : Word × Word → Row
row o = record { id = id_of o.0; values = o.1 ∷ []; count = None; source = Some CommandLine; reading = how }

used_rows : (h : Held) (o value : Word) → Contains serve_options o → (settled rules (after h o value)).rows
    ≡ with_values (id_of o) how CommandLine (value ∷ []) (without (id_of o) (settled rules h).rows)
unfolding clap_on_literals
used_rows h o value = each (λ o. (settled rules (after h o value)).rows
    ≡ with_values (id_of o) how CommandLine (value ∷ []) (without (id_of o) (settled rules h).rows))
    refl refl refl refl refl refl refl refl refl o

used_once : (h : Held) (o value : Word) → Contains serve_options o
    → settle_passes rules false (after h o value)
    ≡ ((not (has_row (id_of o) (settled rules h).rows) || false) && true)
unfolding clap_on_literals
used_once h o value = each (λ o. settle_passes rules false (after h o value)
    ≡ ((not (has_row (id_of o) (settled rules h).rows) || false) && true))
    refl refl refl refl refl refl refl refl refl o

-- ---- rows

at_absent : (id : Word) (change : Row → List Row) (missing : List Row) (rows : List Row)
    → has_row id rows ≡ false → at_row id change missing rows ≡ rows ++ missing
at_absent id change missing [] e = refl
at_absent id change missing (r ∷ rs) e =
    let p = or_parts (bytes_eq r.id id) _ e in
    rw p.0 (ap (λ (l : List Row). r ∷ l) (at_absent id change missing rs p.1))

without_absent : (id : Word) (rows : List Row) → has_row id rows ≡ false → without id rows ≡ rows
without_absent id [] e = refl
without_absent id (r ∷ rs) e =
    let p = or_parts (bytes_eq r.id id) _ e in
    rw p.0 (ap (λ (l : List Row). r ∷ l) (without_absent id rs p.1))

still_absent : (id : Word) (r : Row) (rows : List Row) → has_row id rows ≡ false → bytes_eq r.id id ≡ false
    → has_row id (rows ++ r ∷ []) ≡ false
still_absent id r [] e other = rw other refl
still_absent id r (x ∷ xs) e other =
    let p = or_parts (bytes_eq x.id id) _ e in
    rw p.0 (still_absent id r xs p.1 other)

none_after : (a : List Row) → a ≡ a ++ []
none_after [] = refl
none_after (x ∷ xs) = ap (λ (l : List Row). x ∷ l) (none_after xs)

one_between : (a : List Row) (r : Row) (b : List Row) → (a ++ r ∷ []) ++ b ≡ a ++ r ∷ b
one_between [] r b = refl
one_between (x ∷ xs) r b = ap (λ (l : List Row). x ∷ l) (one_between xs r b)

-- options that differ have other ids
other_id : (a b : Word) → Contains serve_options a → Contains serve_options b → bytes_eq a b ≡ false
    → bytes_eq (id_of a) (id_of b) ≡ false
other_id a b ka kb e = sym (ap₂ bytes_eq (with_hyphens a ka) (with_hyphens b kb)) ∙ e

-- the rows of the options that come are not there yet
abbrev Absent : List Row → Given → Type 0
Absent rows given = AllByRecursion (λ o. has_row (id_of o.0) rows ≡ false) given

absent_more : (rows : List Row) (o value : Word) (more : Given) → Contains serve_options o
    → AllByRecursion (λ p. Contains serve_options p.0) more
    → AllByRecursion (λ other. bytes_eq o other ≡ false) (map (λ p. p.0) more) → Absent rows more
    → Absent (rows ++ row (o, value) ∷ []) more
absent_more rows o value [] k known once absent = tt
absent_more rows o value (p ∷ more) k known once absent = (
  still_absent (id_of p.0) (row (o, value)) rows absent.0 (other_id o p.0 k known.0 once.0),
  absent_more rows o value more k known.1 once.1 absent.1,
)

-- ---- the walk

-- the walk over the words of these options
record Walked (h : Held) (given : Given) : Type 0 where
  pub end : Held
  pub passes : walk_passes top [] (walk_from h) (words_of given) ≡ true
  pub walk_is : fold (walked rules []) (walk_from h) (words_of given) ≡ walk_from end
  pub settles : settle_passes rules false end ≡ true
  pub rows : (settled rules end).rows ≡ (settled rules h).rows ++ map row given

walked_all : (h : Held) (given : Given) → settle_passes rules false h ≡ true
    → Absent (settled rules h).rows given → AreOptions serve_options given → Walked h given
unfolding IsDistinct walk_passes
walked_all h [] settles absent are =
    let same = none_after (settled rules h).rows in
    record { end = h; passes = refl; walk_is = refl; settles = settles; rows = same }
walked_all h ((o, []) ∷ more) settles absent are = absurd are.valued.0
walked_all h ((o, x ∷ xs) ∷ more) settles absent are =
    let k = are.known.0 in
    let hx = ne_eqb x 45 are.valued.0 in
    let old = (settled rules h).rows in
    let stepped = ap (λ (w : Walk). walked rules [] w (x ∷ xs)) (option_step h o k)
    ∙ value_step h o x xs hx k in
    let rows_are : (settled rules (after h o (x ∷ xs))).rows ≡ old ++ row (o, x ∷ xs) ∷ [] =
    used_rows h o (x ∷ xs) k
    ∙ ap (with_values (id_of o) how CommandLine ((x ∷ xs) ∷ [])) (without_absent (id_of o) old absent.0)
    ∙ at_absent (id_of o) (more_values CommandLine ((x ∷ xs) ∷ [])) (row (o, x ∷ xs) ∷ []) old
    absent.0 in
    let next = walked_all (after h o (x ∷ xs)) more (used_once h o (x ∷ xs) k ∙ rw absent.0 refl)
    (subst (λ rows. Absent rows more) (sym rows_are)
    (absent_more (settled rules h).rows o (x ∷ xs) more k are.known.1 are.once.0 absent.1))
    (record { known = are.known.1; valued = are.valued.1; once = are.once.1 }) in
    record {
      end = next.end;
      passes = and_from _ _ (option_turn h o k ∙ rw settles refl)
          (and_from _ _
          (ap (λ (w : Walk). turn_passes top [] w (x ∷ xs)) (option_step h o k) ∙ value_turn h o x xs hx k)
          (ap (λ (w : Walk). walk_passes top [] w (words_of more)) stepped ∙ next.passes));
      walk_is = ap (λ (w : Walk). fold (walked rules []) w (words_of more)) stepped ∙ next.walk_is;
      settles = next.settles;
      rows = next.rows ∙ ap (λ (l : List Row). l ++ map row more) rows_are
          ∙ one_between (settled rules h).rows (row (o, x ∷ xs)) (map row more);
    }

none_held : (given : Given) → Absent [] given
none_held [] = tt
none_held (o ∷ more) = (refl, none_held more)

walked_here : (given : Given) → AreOptions serve_options given → Walked nothing_held given
walked_here given are = walked_all nothing_held given refl (none_held given) are

level : (given : Given) → AreOptions serve_options given
    → level_passes top [] nothing_held (words_of given) false ≡ true
unfolding clap_on_literals
level given are =
    let w = walked_here given are in
    and_from _ _ w.passes
    (and_from _ _ (ap (λ (e : Walk). settle_passes rules false e.held) w.walk_is ∙ w.settles) refl)

-- clap takes the words
pub taken : (given : Given) → AreOptions serve_options given → takes reader (words_of given) ≡ true
unfolding clap_on_literals
taken given are = leaf_takes (built reader) nothing_held (words_of given) refl (level given are)

pub is_simple_reader : is_simple reader ≡ true
unfolding clap_on_literals
is_simple_reader = refl

-- ---- the matches

either_way : (b : Bool) (rows : List Row) → (if b then rows else rows) ≡ rows
either_way true rows = refl
either_way false rows = refl

no_default : (rows : List Row) (a : Rule) → a.defaults ≡ [] → with_default rows a ≡ rows
no_default rows a e =
    ap (λ (ds : List Text). if has_row a.id rows then rows else default_rows a.id (reading_by a) ds rows) e
    ∙ either_way (has_row a.id rows) rows

no_defaults : (rs : List Rule) (rows : List Row) → AllByRecursion (λ a. a.defaults ≡ []) rs
    → fold with_default rows rs ≡ rows
no_defaults [] rows none = refl
no_defaults (a ∷ rs) rows none =
    ap (λ (l : List Row). fold with_default l rs) (no_default rows a none.0) ∙ no_defaults rs rows none.1

rows_read : (given : Given) → AreOptions serve_options given
    → matches_of reader (words_of given) ≡ map row given
unfolding clap_on_literals
rows_read given are =
    let w = walked_here given are in
    ap (λ (e : Walk). finished rules e.held) w.walk_is
    ∙ no_defaults rules (settled rules w.end).rows (refl, (refl, (refl, (refl, (refl, (refl, (refl, (refl, (refl, tt)))))))))
    ∙ w.rows

chosen : (a : Bool) (o : Word × Word) (rows : Option Row) (others : Option (Word × Word))
    → option_and_then (λ r. slice_get r.values 0) rows ≡ option_map (λ p. p.1) others
    → option_and_then (λ r. slice_get r.values 0) (cond a (Some (row o)) rows)
    ≡ option_map (λ p. p.1) (cond a (Some o) others)
chosen true o rows others e = refl
chosen false o rows others e = e

first_row : (given : Given) → AllByRecursion (λ o. Contains serve_options o.0) given → (id : Word)
    → first_of id (map row given) ≡ value_of (45 ∷ 45 ∷ id) given
first_row [] known id = refl
first_row (o ∷ more) known id =
    let same : bytes_eq (id_of o.0) id ≡ bytes_eq o.0 (45 ∷ 45 ∷ id) =
    sym (ap (λ (w : Word). bytes_eq w (45 ∷ 45 ∷ id)) (with_hyphens o.0 known.0)) in
    chosen (bytes_eq (id_of o.0) id) o _ _ (first_row more known.1 id)
    ∙ ap (λ (b : Bool). option_map (λ p. p.1)
    (cond b (Some o) (find (λ p. bytes_eq p.0 (45 ∷ 45 ∷ id)) more))) same

-- the value that clap reads for an option is the one that is given
pub read : (given : Given) → AreOptions serve_options given → (id : Word)
    → first_of id (matches_of reader (words_of given)) ≡ value_of (45 ∷ 45 ∷ id) given
read given are id = ap (first_of id) (rows_read given are) ∙ first_row given are.known id
