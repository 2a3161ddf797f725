-- Script hashes, each once, and the entries that a transaction's touches add.
use Rattle.std.proofs.Common.{◌≡◌, inl, inr, ◌⊎◌, ℕ, suc, ◌+◌, ◌<◌, ◌≤◌, true, false, cond, List, [], ◌∷◌, ◌++◌, length, map, get_or, Option, None, Some, refl, ap, sym, ap₂, ◌∙◌, append_assoc, append-nil, arith, ne_eqb, eq-eqb, ◌==◌, length-append, Bool}
use Rattle.std.proofs.lemmas.Bool.{cases_Bool, or_from, or_parts, or_left, or_right, true≢false}
use Rattle.std.proofs.lemmas.List.{map-append}
use Rattle.std.specs.Option.{option_or}
use Rattle.std.specs.List.{AllByRecursion, flat_map}
use Rattle.el_base.specs.declared.hash.Hash32.{Hash32}
use Rattle.el_chain.specs.RowCounts.{is_script_among, add_script, concerned_scripts, add_scripts}
use Rattle.el_chain.specs.Headers.{same_hash}
use Rattle.el_chain.proofs.Meters.{gather_joined}
use Rattle.el_tables.specs.Lists.{ListedEntry, script_number, is_of_script, last_tx_of, is_tx, append_entry}
use Rattle.el_chain.specs.History.{Position}
use Rattle.el_tables.specs.ChainLists.{scripts_of, entry_of, entries_from}
pub use Rattle.el_chain.proofs.TouchLemmas.{hash_gives, hash_from}

-- 1. Numbers

-- a script that is there has a number of its own, which others after leave
pub number_kept : (s : Hash32) (xs ys : List Hash32) → is_script_among s xs ≡ true → script_number s (xs ++ ys) ≡ script_number s xs
number_kept s [] ys h = absurd (true≢false (sym h))
number_kept s (x ∷ xs) ys h = elim (cases_Bool (same_hash x s)) [
  | inl e ↦ rw e refl
  | inr e ↦ let rest = rw e at h in rw e (ap suc (number_kept s xs ys rest))
]

pub has_more : (s : Hash32) (xs ys : List Hash32) → is_script_among s xs ≡ true → is_script_among s (xs ++ ys) ≡ true
has_more s [] ys h = absurd (true≢false (sym h))
has_more s (x ∷ xs) ys h = elim (cases_Bool (same_hash x s)) [
  | inl e ↦ rw e refl
  | inr e ↦ let rest = rw e at h in rw e (has_more s xs ys rest)
]

pub has_back : (s : Hash32) (xs ys : List Hash32) → is_script_among s ys ≡ true → is_script_among s (xs ++ ys) ≡ true
has_back s [] ys h = h
has_back s (x ∷ xs) ys h = or_right (same_hash x s) (is_script_among s (xs ++ ys)) (has_back s xs ys h)

pub has_last : (s : Hash32) (xs : List Hash32) → is_script_among s (xs ++ s ∷ []) ≡ true
has_last s xs = has_back s xs (s ∷ []) (or_left (same_hash s s) false (hash_from s s refl))

-- where it is not there, its number is that of the next
pub number_last : (s : Hash32) (xs ys : List Hash32) → is_script_among s xs ≡ false → script_number s (xs ++ s ∷ ys) ≡ length xs
number_last s [] ys h = let e = hash_from s s refl in rw e refl
number_last s (x ∷ xs) ys h =
    let parts = or_parts (same_hash x s) (is_script_among s xs) h in
    let e = parts.0 in
    let rest = number_last s xs ys parts.1 in
    rw e (ap suc rest)

pub number_next : (s : Hash32) (xs : List Hash32) → is_script_among s xs ≡ false → script_number s xs ≡ length xs
number_next s [] h = refl
number_next s (x ∷ xs) h =
    let parts = or_parts (same_hash x s) (is_script_among s xs) h in
    let e = parts.0 in
    let rest = number_next s xs parts.1 in
    rw e (ap suc rest)

pub number_within : (s : Hash32) (xs : List Hash32) → is_script_among s xs ≡ true → script_number s xs < length xs
number_within s [] h = absurd (true≢false (sym h))
number_within s (x ∷ xs) h = elim (cases_Bool (same_hash x s)) [
  | inl e ↦ rw e (let g : 0 < length (x ∷ xs) = omega arith in g)
  | inr e ↦ let rest = rw e at h in let lt = number_within s xs rest in rw e (let g : suc (script_number s xs) < length (x ∷ xs) = omega arith in g)
]

-- the hash of the number
pub number_at : (s d : Hash32) (xs : List Hash32) → is_script_among s xs ≡ true → get_or xs (script_number s xs) d ≡ s
number_at s d [] h = absurd (true≢false (sym h))
number_at s d (x ∷ xs) h = elim (cases_Bool (same_hash x s)) [
  | inl e ↦ rw e (hash_gives x s e)
  | inr e ↦ let rest = rw e at h in rw e (number_at s d xs rest)
]

-- so numbers tell scripts apart
pub number_apart : (s t : Hash32) (xs : List Hash32) → is_script_among t xs ≡ true → script_number t xs ≡ script_number s xs → same_hash t s ≡ false → ⊥
number_apart s t xs there same apart = elim (cases_Bool (is_script_among s xs)) [
  | inl h ↦
      let a = number_at s s xs h in
      let b = number_at t s xs there in
      let e : t ≡ s = sym b ∙ ap (λ (n : ℕ). get_or xs n s) same ∙ a in
      true≢false (sym (hash_from t s e) ∙ apart)
  | inr h ↦ let lt = number_within t xs there in let at = number_next s xs h in omega arith
]

-- one more, unless it is there
pub once_keeps : (s t : Hash32) (xs : List Hash32) → is_script_among t xs ≡ true → (is_script_among t (add_script s xs) ≡ true) × (script_number t (add_script s xs) ≡ script_number t xs)
once_keeps s t xs there = elim (cases_Bool (is_script_among s xs)) [
  | inl h ↦ rw h (there, refl)
  | inr h ↦ rw h (has_more t xs (s ∷ []) there, number_kept t xs (s ∷ []) there)
]

pub once_longer : (s : Hash32) (xs : List Hash32) → length xs ≤ length (add_script s xs)
once_longer s xs = by (is_script_among s xs)
  where
    by : (b : Bool) → length xs ≤ length (cond b xs (xs ++ s ∷ []))
    by true = omega arith
    by false = let long = length-append xs (s ∷ []) in omega arith

pub once_has : (s : Hash32) (xs : List Hash32) → (is_script_among s (add_script s xs) ≡ true) × (script_number s (add_script s xs) ≡ script_number s xs)
once_has s xs = elim (cases_Bool (is_script_among s xs)) [
  | inl h ↦ rw h (h, refl)
  | inr h ↦ let at = number_last s xs [] h in let next = number_next s xs h in rw h (has_last s xs, at ∙ sym next)
]

-- many
pub gather_keeps : (ss : List Hash32) (t : Hash32) (xs : List Hash32) → is_script_among t xs ≡ true
    → (is_script_among t (add_scripts xs ss) ≡ true) × (script_number t (add_scripts xs ss) ≡ script_number t xs)
gather_keeps [] t xs there = (there, refl)
gather_keeps (s ∷ ss) t xs there =
    let one = once_keeps s t xs there in
    let rest = gather_keeps ss t (add_script s xs) one.0 in
    (rest.0, rest.1 ∙ one.1)

-- each of them is then there
pub gather_has : (ss : List Hash32) (xs : List Hash32) (t : Hash32) → is_script_among t ss ≡ true → is_script_among t (add_scripts xs ss) ≡ true
gather_has [] xs t h = absurd (true≢false (sym h))
gather_has (s ∷ ss) xs t h = elim (cases_Bool (same_hash s t)) [
  | inl e ↦
      let one : is_script_among t (add_script s xs) ≡ true = ap (λ (u : Hash32). is_script_among u (add_script s xs)) (sym (hash_gives s t e)) ∙ (once_has s xs).0 in
      (gather_keeps ss t (add_script s xs) one).0
  | inr e ↦ let rest = rw e at h in gather_has ss (add_script s xs) t rest
]

-- and no others
pub gather_only : (ss : List Hash32) (xs : List Hash32) (t : Hash32) → is_script_among t xs ≡ false → is_script_among t ss ≡ false → is_script_among t (add_scripts xs ss) ≡ false
gather_only [] xs t h none = h
gather_only (s ∷ ss) xs t h none =
    let parts = or_parts (same_hash s t) (is_script_among t ss) none in
    gather_only ss (add_script s xs) t (one parts.0) parts.1
  where
    snoc : (ys : List Hash32) → is_script_among t ys ≡ false → same_hash s t ≡ false → is_script_among t (ys ++ s ∷ []) ≡ false
    snoc [] f e = or_from (same_hash s t) false e refl
    snoc (y ∷ ys) f e =
        let parts = or_parts (same_hash y t) (is_script_among t ys) f in
        or_from (same_hash y t) (is_script_among t (ys ++ s ∷ [])) parts.0 (snoc ys parts.1 e)

    one : same_hash s t ≡ false → is_script_among t (add_script s xs) ≡ false
    one e = elim (cases_Bool (is_script_among s xs)) [
      | inl g ↦ rw g h
      | inr g ↦ rw g (snoc xs h e)
    ]

-- 2. All of some are there

abbrev pub AllIn : List Hash32 → List Hash32 → Type 0
AllIn xs ss = AllByRecursion (λ t. is_script_among t xs ≡ true) ss

pub all_from : (xs ss : List Hash32) → ((t : Hash32) → is_script_among t ss ≡ true → is_script_among t xs ≡ true) → AllIn xs ss
all_from xs [] h = tt
all_from xs (s ∷ ss) h =
    (h s (or_left (same_hash s s) (is_script_among s ss) (hash_from s s refl)), all_from xs ss (λ t e. h t (or_right (same_hash s t) (is_script_among t ss) e)))

pub all_has : (xs ss : List Hash32) (t : Hash32) → AllIn xs ss → is_script_among t ss ≡ true → is_script_among t xs ≡ true
all_has xs [] t all h = absurd (true≢false (sym h))
all_has xs (s ∷ ss) t all h = elim (cases_Bool (same_hash s t)) [
  | inl e ↦ ap (λ (u : Hash32). is_script_among u xs) (sym (hash_gives s t e)) ∙ all.0
  | inr e ↦ let rest = rw e at h in all_has xs ss t all.1 rest
]

-- what is gathered is of what was handed in
pub gathered : (ss : List Hash32) (t : Hash32) → is_script_among t (add_scripts [] ss) ≡ true → is_script_among t ss ≡ true
gathered ss t h = elim (cases_Bool (is_script_among t ss)) [
  | inl e ↦ e
  | inr e ↦ absurd (true≢false (sym h ∙ gather_only ss [] t refl e))
]

-- 3. Entries

-- no entry is of the transaction
abbrev pub NoTx : ℕ → List ListedEntry → Type 0
NoTx m es = AllByRecursion (λ (e : ListedEntry). (e.tx == m) ≡ false) es

last_none : (m j : ℕ) (es : List ListedEntry) → NoTx m es → is_tx m (last_tx_of j es) ≡ false
last_none m j [] none = refl
last_none m j (e ∷ es) none = by (last_tx_of j es) (last_none m j es none.1)
  where
    by : (r : Option ℕ) → is_tx m r ≡ false → is_tx m (option_or r (cond (is_of_script j e) (Some e.tx) None)) ≡ false
    by (Some n) h = h
    by None h = elim (cases_Bool (is_of_script j e)) [
      | inl k ↦ rw k none.0
      | inr k ↦ rw k refl
    ]

last_joined : (j : ℕ) (es fs : List ListedEntry) → last_tx_of j (es ++ fs) ≡ option_or (last_tx_of j fs) (last_tx_of j es)
last_joined j [] fs = by (last_tx_of j fs)
  where
    by : (r : Option ℕ) → r ≡ option_or r None
    by None = refl
    by (Some n) = refl
last_joined j (e ∷ es) fs = let rest = last_joined j es fs in rw rest (by (last_tx_of j fs) (last_tx_of j es))
  where
    by : (r q : Option ℕ) → option_or (option_or r q) (cond (is_of_script j e) (Some e.tx) None) ≡ option_or r (option_or q (cond (is_of_script j e) (Some e.tx) None))
    by None q = refl
    by (Some n) q = refl

-- the entries of one transaction
last_of_one : (scripts : List Hash32) (m j : ℕ) (ss : List Hash32) → (last_tx_of j (map (entry_of scripts m) ss) ≡ Some m) ⊎ (last_tx_of j (map (entry_of scripts m) ss) ≡ None)
last_of_one scripts m j [] = inr refl
last_of_one scripts m j (s ∷ ss) = by (last_of_one scripts m j ss)
  where
    by : (last_tx_of j (map (entry_of scripts m) ss) ≡ Some m) ⊎ (last_tx_of j (map (entry_of scripts m) ss) ≡ None)
        → (last_tx_of j (map (entry_of scripts m) (s ∷ ss)) ≡ Some m) ⊎ (last_tx_of j (map (entry_of scripts m) (s ∷ ss)) ≡ None)
    by (inl h) = inl (rw h refl)
    by (inr h) = elim (cases_Bool (script_number s scripts == j)) [
      | inl k ↦ inl (rw (h, k) refl)
      | inr k ↦ inr (rw (h, k) refl)
    ]

last_met : (scripts : List Hash32) (m : ℕ) (s : Hash32) (ss : List Hash32) → is_script_among s ss ≡ true
    → last_tx_of (script_number s scripts) (map (entry_of scripts m) ss) ≡ Some m
last_met scripts m s [] h = absurd (true≢false (sym h))
last_met scripts m s (x ∷ xs) h = elim (cases_Bool (same_hash x s)) [
  | inl e ↦ by e (last_of_one scripts m (script_number s scripts) xs)
  | inr e ↦ let rest = rw e at h in let more = last_met scripts m s xs rest in rw more refl
]
  where
    by : same_hash x s ≡ true → (last_tx_of (script_number s scripts) (map (entry_of scripts m) xs) ≡ Some m) ⊎ (last_tx_of (script_number s scripts) (map (entry_of scripts m) xs) ≡ None)
        → last_tx_of (script_number s scripts) (map (entry_of scripts m) (x ∷ xs)) ≡ Some m
    by e (inl k) = rw k refl
    by e (inr k) =
        let same : (script_number x scripts == script_number s scripts) ≡ true = eq-eqb (script_number x scripts) (script_number s scripts) (ap (λ (t : Hash32). script_number t scripts) (hash_gives x s e)) in
        rw (k, same) refl

last_unmet : (scripts : List Hash32) (m : ℕ) (s : Hash32) (ss : List Hash32) → AllIn scripts ss → is_script_among s ss ≡ false
    → last_tx_of (script_number s scripts) (map (entry_of scripts m) ss) ≡ None
last_unmet scripts m s [] all h = refl
last_unmet scripts m s (x ∷ xs) all h =
    let parts = or_parts (same_hash x s) (is_script_among s xs) h in
    let more = last_unmet scripts m s xs all.1 parts.1 in
    let apart : (script_number x scripts == script_number s scripts) ≡ false =
    ne_eqb (script_number x scripts) (script_number s scripts) (λ e. number_apart s x scripts all.0 e parts.0) in
    rw (more, apart) refl

-- numbers that stay
abbrev pub Keeps : List Hash32 → List Hash32 → Type 0
Keeps xs ys = (t : Hash32) → is_script_among t xs ≡ true → script_number t ys ≡ script_number t xs

pub entries_kept : (xs ys : List Hash32) (m : ℕ) (ss : List Hash32) → Keeps xs ys → AllIn xs ss → map (entry_of ys m) ss ≡ map (entry_of xs m) ss
entries_kept xs ys m [] keeps all = refl
entries_kept xs ys m (s ∷ ss) keeps all =
    let one = keeps s all.0 in
    let rest = entries_kept xs ys m ss keeps all.1 in
    rw (one, rest) refl

-- one add_entry
touch_one : (scripts : List Hash32) (m : ℕ) (s : Hash32) (ss : List Hash32) (es : List ListedEntry) → NoTx m es → AllIn scripts ss
    → append_entry m (script_number s scripts) (es ++ map (entry_of scripts m) ss) ≡ es ++ map (entry_of (add_script s scripts) m) (add_script s ss)
touch_one scripts m s ss es none all = elim (cases_Bool (is_script_among s ss)) [
  | inl h ↦
      let there = all_has scripts ss s all h in
      let met_last = last_met scripts m s ss h in
      let last : last_tx_of (script_number s scripts) (es ++ map (entry_of scripts m) ss) ≡ Some m =
      last_joined (script_number s scripts) es (map (entry_of scripts m) ss) ∙ rw met_last refl in
      let self = eq-eqb m m refl in
      rw (last, self, h, there) refl
  | inr h ↦
      let unmet_last = last_unmet scripts m s ss all h in
      let last : last_tx_of (script_number s scripts) (es ++ map (entry_of scripts m) ss) ≡ last_tx_of (script_number s scripts) es =
      last_joined (script_number s scripts) es (map (entry_of scripts m) ss) ∙ rw unmet_last refl in
      let old = last_none m (script_number s scripts) es none in
      let kept = entries_kept scripts (add_script s scripts) m ss (λ t e. (once_keeps s t scripts e).1) all in
      let own = (once_has s scripts).1 in
      let new : map (entry_of (add_script s scripts) m) (ss ++ s ∷ []) ≡ map (entry_of scripts m) ss ++ record { tx = m; script = script_number s scripts } ∷ [] =
      map-append (entry_of (add_script s scripts) m) ss (s ∷ []) ∙ rw (kept, own) refl in
      rw (last, old, h, new) (append_assoc es (map (entry_of scripts m) ss) (record { tx = m; script = script_number s scripts } ∷ []))
]

-- touches of one transaction, one after the other
abbrev pub touched : ℕ → List Hash32 → List Hash32 → List ListedEntry → List ListedEntry
touched m scripts [] es = es
touched m scripts (s ∷ ss) es = touched m (add_script s scripts) ss (append_entry m (script_number s scripts) es)

touched_on : (m : ℕ) (scripts : List Hash32) (es : List ListedEntry) → NoTx m es → (front ss : List Hash32)
    → touched m (add_scripts scripts front) ss (es ++ map (entry_of (add_scripts scripts front) m) (add_scripts [] front))
    ≡ es ++ map (entry_of (add_scripts scripts (front ++ ss)) m) (add_scripts [] (front ++ ss))
touched_on m scripts es none front [] = ap (λ (l : List Hash32). es ++ map (entry_of (add_scripts scripts l) m) (add_scripts [] l)) (sym (append-nil front))
touched_on m scripts es none front (s ∷ ss) =
    let all = all_from (add_scripts scripts front) (add_scripts [] front) (λ t h. gather_has front scripts t (gathered front t h)) in
    let one = touch_one (add_scripts scripts front) m s (add_scripts [] front) es none all in
    let a = gather_joined scripts front (s ∷ []) in
    let b = gather_joined [] front (s ∷ []) in
    let rest = touched_on m scripts es none (front ++ s ∷ []) ss in
    ap (touched m (add_script s (add_scripts scripts front)) ss) one
    ∙ ap₂ (λ (x y : List Hash32). touched m x ss (es ++ map (entry_of x m) y)) (sym a) (sym b)
    ∙ rest
    ∙ ap (λ (l : List Hash32). es ++ map (entry_of (add_scripts scripts l) m) (add_scripts [] l)) (append_assoc front (s ∷ []) ss)

-- they add one entry for each script hash
pub touched_is : (m : ℕ) (scripts ss : List Hash32) (es : List ListedEntry) → NoTx m es
    → touched m scripts ss es ≡ es ++ map (entry_of (add_scripts scripts ss) m) (add_scripts [] ss)
touched_is m scripts ss es none = ap (touched m scripts ss) (sym (append-nil es)) ∙ touched_on m scripts es none [] ss

pub touched_joined : (m : ℕ) (ss us : List Hash32) (scripts : List Hash32) (es : List ListedEntry)
    → touched m scripts (ss ++ us) es ≡ touched m (add_scripts scripts ss) us (touched m scripts ss es)
touched_joined m [] us scripts es = refl
touched_joined m (s ∷ ss) us scripts es = touched_joined m ss us (add_script s scripts) (append_entry m (script_number s scripts) es)

-- 4. The scripts and entries of transactions, with one more

flat_joined : (ps qs : List Position) → flat_map concerned_scripts (ps ++ qs) ≡ flat_map concerned_scripts ps ++ flat_map concerned_scripts qs
flat_joined [] qs = refl
flat_joined (p ∷ ps) qs = let rest = flat_joined ps qs in rw rest (sym (append_assoc (concerned_scripts p) (flat_map concerned_scripts ps) (flat_map concerned_scripts qs)))

pub scripts_more : (ps : List Position) (p : Position) → scripts_of (ps ++ p ∷ []) ≡ add_scripts (scripts_of ps) (concerned_scripts p)
scripts_more ps p =
    ap (add_scripts []) (flat_joined ps (p ∷ []) ∙ ap (λ (l : List Hash32). flat_map concerned_scripts ps ++ l) (append-nil (concerned_scripts p)))
    ∙ gather_joined [] (flat_map concerned_scripts ps) (concerned_scripts p)

pub entries_more : (scripts : List Hash32) (n m : ℕ) (ps : List Position) (p : Position) → m ≡ n + length ps
    → entries_from scripts n (ps ++ p ∷ []) ≡ entries_from scripts n ps ++ map (entry_of scripts m) (add_scripts [] (concerned_scripts p))
entries_more scripts n m [] p at = let e : n ≡ m = omega arith in append-nil _ ∙ rw e refl
entries_more scripts n m (q ∷ qs) p at =
    let rest = entries_more scripts (n + 1) m qs p (omega arith) in
    rw rest (sym (append_assoc (map (entry_of scripts n) (add_scripts [] (concerned_scripts q))) (entries_from scripts (n + 1) qs) (map (entry_of scripts m) (add_scripts [] (concerned_scripts p)))))

pub entries_same : (xs ys : List Hash32) (n : ℕ) (ps : List Position) → Keeps xs ys → AllIn xs (flat_map concerned_scripts ps) → entries_from ys n ps ≡ entries_from xs n ps
entries_same xs ys n [] keeps all = refl
entries_same xs ys n (p ∷ ps) keeps all =
    let mine = all_from xs (add_scripts [] (concerned_scripts p)) (λ t h. all_has xs (flat_map concerned_scripts (p ∷ ps)) t all (has_more t (concerned_scripts p) (flat_map concerned_scripts ps) (gathered (concerned_scripts p) t h))) in
    let first = entries_kept xs ys n (add_scripts [] (concerned_scripts p)) keeps mine in
    let rest = entries_same xs ys (n + 1) ps keeps (all_from xs (flat_map concerned_scripts ps) (λ t h. all_has xs (flat_map concerned_scripts (p ∷ ps)) t all (has_back t (concerned_scripts p) (flat_map concerned_scripts ps) h))) in
    rw (first, rest) refl

no_tx_joined : (m : ℕ) (es fs : List ListedEntry) → NoTx m es → NoTx m fs → NoTx m (es ++ fs)
no_tx_joined m [] fs a b = b
no_tx_joined m (e ∷ es) fs a b = (a.0, no_tx_joined m es fs a.1 b)

pub no_tx_yet : (scripts : List Hash32) (n m : ℕ) (ps : List Position) → n + length ps ≤ m → NoTx m (entries_from scripts n ps)
no_tx_yet scripts n m [] le = tt
no_tx_yet scripts n m (p ∷ ps) le = no_tx_joined m (map (entry_of scripts n) (add_scripts [] (concerned_scripts p))) (entries_from scripts (n + 1) ps) (mine (add_scripts [] (concerned_scripts p))) (no_tx_yet scripts (n + 1) m ps (omega arith))
  where
    mine : (ss : List Hash32) → NoTx m (map (entry_of scripts n) ss)
    mine [] = tt
    mine (s ∷ ss) = (ne_eqb n m (λ e. omega arith), mine ss)

-- all that were concerned_scripts are there
pub all_met : (ps : List Position) → AllIn (scripts_of ps) (flat_map concerned_scripts ps)
all_met ps = all_from (scripts_of ps) (flat_map concerned_scripts ps) (λ t h. gather_has (flat_map concerned_scripts ps) [] t h)
