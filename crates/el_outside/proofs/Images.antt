-- What the calls of a disk do to what is known of its files, and so to the images that a crash may leave.
use Rattle.std.proofs.Common.{◌↔◌, ◌≡◌, ◌≢◌, ◌⊎◌, inl, inr, ⊎_elim, ℕ, ◌+◌, ◌<◌, ◌≤◌, min, max, ◌&&◌, ◌||◌, nat_le, nat_lt, Bool, true, false, List, [], ◌∷◌, ◌++◌, length, get_or, take, map, refl, sym, ◌∙◌, ap, subst, arith, if◌then◌else◌}
use Rattle.std.proofs.lemmas.Bool.{cases_eq, cases_lt, or_parts, or_from, or_cases, or_left, or_right}
use Rattle.std.proofs.lemmas.Bool.Decides.{nat_tests}
use Rattle.std.specs.List.{range_with_len, list_any}
use Rattle.std.proofs.lemmas.List.FromFn.{length-map-range_with_len, get_or-map-range_with_len}
use Rattle.std.proofs.lemmas.List.{ext_get_or, get_or_past, get_or-take, length-take-le}
use Rattle.std.proofs.Math.Bool.{or-false}
use Rattle.std.proofs.lemmas.List.Folds.{list_any-append}
use Rattle.el_outside.specs.Disk.{Image, over, Torn, Cut, OnFile, Follows, NothingNew, OnDisk}
use Rattle.el_outside.specs.Moments.{Elapses}
use Rattle.el_outside.specs.Images.{Kept, is_written, IsImage, synced, written, shortened, at_file, LeavesImages, LeftSince}
use Rattle.el_outside.proofs.Bytes.{length-over, over_before, over_after}

pub at_here : {T : Type 0} (all : ℕ → T) (file : ℕ) (here : T) → at_file all file here file ≡ here
at_here all file here = grind (arith, nat_tests)

pub at_other : {T : Type 0} (all : ℕ → T) (file : ℕ) (here : T) (f : ℕ) → f ≢ file → at_file all file here f ≡ all f
at_other all file here f ne = grind (arith, nat_tests)

-- a range more
any_more : {X : Type 0} (p : X → Bool) (xs : List X) (y : X) → list_any p (xs ++ y ∷ []) ≡ (list_any p xs || p y)
any_more p xs y = list_any-append p xs (y ∷ []) ∙ ap (λ b. list_any p xs || b) (or-false (p y))

out_of : (at n i : ℕ) → (nat_le at i && nat_lt i (at + n)) ≡ false → (i < at) ⊎ (at + n ≤ i)
out_of at n i h = ⊎_elim (λ lt. inl lt) (λ ge. ⊎_elim (λ lt. absurd (grind (arith, nat_tests))) (λ past. inr past) (cases_lt i (at + n))) (cases_lt i at)

is_out : (at n i : ℕ) → (i < at) ⊎ (at + n ≤ i) → (nat_le at i && nat_lt i (at + n)) ≡ false
is_out at n i out = grind (arith, nat_tests)

pub split : (ranges : List (ℕ × ℕ)) (at n i : ℕ) → is_written (ranges ++ (at, at + n) ∷ []) i ≡ false → (is_written ranges i ≡ false) × ((i < at) ⊎ (at + n ≤ i))
split ranges at n i h =
    let two = or_parts _ _ (sym (any_more (λ (range : ℕ × ℕ). nat_le range.0 i && nat_lt i range.1) ranges (at, at + n)) ∙ h) in
    (two.0, out_of at n i two.1)

pub unsplit : (ranges : List (ℕ × ℕ)) (at n i : ℕ) → is_written ranges i ≡ false → (i < at) ⊎ (at + n ≤ i) → is_written (ranges ++ (at, at + n) ∷ []) i ≡ false
unsplit ranges at n i h out = any_more (λ (range : ℕ × ℕ). nat_le range.0 i && nat_lt i range.1) ranges (at, at + n) ∙ or_from _ _ h (is_out at n i out)

-- the bytes that a list has below n, and then those of another
abbrev pub listed : (ℕ → ℕ) → ℕ → List ℕ
listed f n = map f (range_with_len 0 n)

pub listed_at : (f : ℕ → ℕ) (n i : ℕ) → i < n → get_or (listed f n) i 0 ≡ f i
listed_at f n i lt = get_or-map-range_with_len f 0 n i i 0 lt (omega arith)

pub length-listed : (f : ℕ → ℕ) (n : ℕ) → length (listed f n) ≡ n
length-listed f n = length-map-range_with_len f 0 n

-- whether a place is below another
below : (a b : ℕ) → (a < b) ⊎ (b ≤ a)
below a b = cases_lt a b

-- in the range the old bytes, elsewhere the new
abbrev patched : (at n : ℕ) (old new : List ℕ) → ℕ → ℕ
patched at n old new i = if nat_lt i at then get_or new i 0 else (if nat_lt i (at + n) then get_or old i 0 else get_or new i 0)

patched_out : (at n : ℕ) (old new : List ℕ) (i : ℕ) → (i < at) ⊎ (at + n ≤ i) → patched at n old new i ≡ get_or new i 0
patched_out at n old new i out = grind (arith, nat_tests)

patched_in : (at n : ℕ) (old new : List ℕ) (i : ℕ) → at ≤ i → i < at + n → patched at n old new i ≡ get_or old i 0
patched_in at n old new i ge lt = grind (arith, nat_tests)

-- the bytes of a list, and after its end those of another
abbrev extended : (old new : List ℕ) → ℕ → ℕ
extended old new i = if nat_lt i (length new) then get_or new i 0 else get_or old i 0

extended_in : (old new : List ℕ) (i : ℕ) → i < length new → extended old new i ≡ get_or new i 0
extended_in old new i lt = grind (arith, nat_tests)

extended_past : (old new : List ℕ) (i : ℕ) → length new ≤ i → extended old new i ≡ get_or old i 0
extended_past old new i le = grind (arith, nat_tests)

-- an image after a write is one from before it, torn
patched_image : (kept : Kept) (at n : ℕ) (c d : List ℕ) → kept.least ≤ kept.greatest → IsImage (written at n kept) c → length d ≡ min (length c) kept.greatest → ((i : ℕ) → i < length d → get_or d i 0 ≡ patched at n kept.bytes c i) → IsImage kept d
patched_image kept at n c d sizes image size reads = record {
  no_shorter = omega (arith, image.no_shorter);
  no_longer = omega arith;
  same = λ i lt in_bytes out. reads i lt ∙ ⊎_elim
      (λ before. patched_out at n kept.bytes c i (inl before) ∙ image.same i (omega (arith, lt)) in_bytes (unsplit kept.ranges at n i out (inl before)))
      (λ ge. ⊎_elim
      (λ inside. patched_in at n kept.bytes c i ge inside)
      (λ after. patched_out at n kept.bytes c i (inr after) ∙ image.same i (omega (arith, lt)) in_bytes (unsplit kept.ranges at n i out (inr after)))
      (below i (at + n)))
      (below i at);
}

patched_torn : (kept : Kept) (at n : ℕ) (c d : List ℕ) → at ≤ kept.greatest → IsImage (written at n kept) c → length d ≡ min (length c) kept.greatest → ((i : ℕ) → i < length d → get_or d i 0 ≡ patched at n kept.bytes c i) → Torn at n d c
patched_torn kept at n c d le image size reads = record {
  same = λ i out. ⊎_elim
      (λ lt. sym (reads i lt ∙ patched_out at n kept.bytes c i out))
      (λ past. get_or_past c i 0 (⊎_elim (λ before. omega (arith, before, past, image.no_longer)) (λ after. omega (arith, after, past, image.no_longer)) out) ∙ sym (get_or_past d i 0 past))
      (below i (length d));
  no_shorter = omega arith;
  no_longer = omega (arith, image.no_longer);
}

pub before_write : (kept : Kept) (at n : ℕ) (c : List ℕ) → at ≤ kept.greatest → kept.least ≤ kept.greatest → IsImage (written at n kept) c → (d : List ℕ) × IsImage kept d × Torn at n d c
before_write kept at n c le sizes image =
    let size = min (length c) kept.greatest in
    let d = listed (patched at n kept.bytes c) size in
    let long : length d ≡ size = length-listed (patched at n kept.bytes c) size in
    let reads : (i : ℕ) → i < length d → get_or d i 0 ≡ patched at n kept.bytes c i = λ i lt. listed_at (patched at n kept.bytes c) size i (omega (arith, long, lt)) in
    (d, patched_image kept at n c d sizes image long reads, patched_torn kept at n c d le image long reads)

-- and after a cut
extended_image : (kept : Kept) (n : ℕ) (c d : List ℕ) → kept.least ≤ kept.greatest → IsImage (shortened n kept) c → length d ≡ max (length c) kept.least → ((i : ℕ) → i < length d → get_or d i 0 ≡ extended kept.bytes c i) → IsImage kept d
extended_image kept n c d sizes image size reads = record {
  no_shorter = omega arith;
  no_longer = omega (arith, image.no_longer);
  same = λ i lt in_bytes out. reads i lt ∙ ⊎_elim
      (λ inside. extended_in kept.bytes c i inside ∙ image.same i inside in_bytes out)
      (λ past. extended_past kept.bytes c i past)
      (below i (length c));
}

extended_cut : (kept : Kept) (n : ℕ) (c d : List ℕ) → IsImage (shortened n kept) c → length d ≡ max (length c) kept.least → ((i : ℕ) → i < length d → get_or d i 0 ≡ extended kept.bytes c i) → Cut n d c
extended_cut kept n c d image size reads = record {
  front = ext_get_or 0 c (take (length c) d) (sym (length-take-le (length c) d (omega arith)))
      (λ i lt. sym (get_or-take (length c) d i 0 lt ∙ reads i (omega (arith, lt)) ∙ extended_in kept.bytes c i lt));
  no_shorter = omega (arith, image.no_shorter);
}

pub before_cut : (kept : Kept) (n : ℕ) (c : List ℕ) → kept.least ≤ kept.greatest → IsImage (shortened n kept) c → (d : List ℕ) × IsImage kept d × Cut n d c
before_cut kept n c sizes image =
    let size = max (length c) kept.least in
    let d = listed (extended kept.bytes c) size in
    let long : length d ≡ size = length-listed (extended kept.bytes c) size in
    let reads : (i : ℕ) → i < length d → get_or d i 0 ≡ extended kept.bytes c i = λ i lt. listed_at (extended kept.bytes c) size i (omega (arith, long, lt)) in
    (d, extended_image kept n c d sizes image long reads, extended_cut kept n c d image long reads)

-- one file of an image put in the place of another
pub follows_by : (all : ℕ → Kept) (file : ℕ) (kept : Kept) (step : List ℕ → List ℕ → Type 0) → ((c : List ℕ) → IsImage kept c → (d : List ℕ) × IsImage (all file) d × step d c)
    → Follows (OnFile file step) (LeavesImages all) (LeavesImages (at_file all file kept))
follows_by all file kept step back c left =
    let from = back (c file) (subst (λ k. IsImage k (c file)) (at_here all file kept) (left file)) in (
      at_file c file from.0,
      λ f. ⊎_elim
          (λ (is : f ≡ file). subst (λ g. IsImage (all g) (at_file c file from.0 g)) (sym is) (subst (λ (b : List ℕ). IsImage (all file) b) (sym (at_here c file from.0)) from.1))
          (λ ne. subst (λ (b : List ℕ). IsImage (all f) b) (sym (at_other c file from.0 f ne)) (subst (λ k. IsImage k (c f)) (at_other all file kept f ne) (left f)))
          (cases_eq f file),
      record {
        here = subst (λ (b : List ℕ). step b (c file)) (sym (at_here c file from.0)) from.2;
        others = λ f ne. sym (at_other c file from.0 f ne);
      },
    )

-- after a sync a file is what it was
pub is_synced : (bytes c : List ℕ) → IsImage (synced bytes) c → c ≡ bytes
is_synced bytes c image = ext_get_or 0 c bytes (omega (arith, image.no_shorter, image.no_longer)) (λ i lt. image.same i lt (omega (arith, lt, image.no_longer)) refl)

pub all_synced : (bytes : List ℕ) → IsImage (synced bytes) bytes
all_synced bytes = record { no_shorter = omega arith; no_longer = omega arith; same = λ i lt in_bytes out. refl }

-- after a sync the file is what it was, and each image is one from before
pub sync_keeps : (all : ℕ → Kept) (file : ℕ) (bytes : List ℕ) → IsImage (all file) bytes → NothingNew (LeavesImages all) (LeavesImages (at_file all file (synced bytes)))
sync_keeps all file bytes image c left f = ⊎_elim
    (λ (is : f ≡ file). subst (λ g. IsImage (all g) (c g)) (sym is) (subst (λ (b : List ℕ). IsImage (all file) b) (sym (is_synced bytes (c file) (subst (λ k. IsImage k (c file)) (at_here all file (synced bytes)) (left file)))) image))
    (λ ne. subst (λ k. IsImage k (c f)) (at_other all file (synced bytes) f ne) (left f))
    (cases_eq f file)

pub sync_durable : (all : ℕ → Kept) (file : ℕ) (seen : Image) → OnDisk file seen (LeavesImages (at_file all file (synced (seen file))))
sync_durable all file seen c left = is_synced (seen file) (c file) (subst (λ k. IsImage k (c file)) (at_here all file (synced (seen file))) (left file))

-- what a read gives stays an image
pub keep_written : (kept : Kept) (at n : ℕ) (c : List ℕ) → IsImage kept c → IsImage (written at n kept) c
keep_written kept at n c image = record {
  no_shorter = image.no_shorter;
  no_longer = omega (arith, image.no_longer);
  same = λ i lt in_bytes out. image.same i lt in_bytes (split kept.ranges at n i out).0;
}

-- after a write that happened, and after one that happened in part
pub over_written : (kept : Kept) (at n : ℕ) (old bytes : List ℕ) → at ≤ length old → length bytes ≤ n → IsImage kept old → IsImage (written at n kept) (over old at bytes)
over_written kept at n old bytes le part image =
    let long = length-over old at bytes le in
    record {
      no_shorter = omega (arith, image.no_shorter, long);
      no_longer = omega (arith, image.no_longer, long, part);
      same = λ i lt in_bytes out.
          let two = split kept.ranges at n i out in
          ⊎_elim
          (λ before. over_before old at bytes i le before ∙ image.same i (omega (arith, before, le)) in_bytes two.0)
          (λ past. over_after old at bytes i le (omega (arith, past, part)) ∙ image.same i (omega (arith, past, lt, long, part)) in_bytes two.0)
          two.1;
    }

pub keep_shortened : (kept : Kept) (n : ℕ) (c : List ℕ) → IsImage kept c → IsImage (shortened n kept) c
keep_shortened kept n c image = record { no_shorter = omega (arith, image.no_shorter); no_longer = image.no_longer; same = image.same }

pub take_shortened : (kept : Kept) (n : ℕ) (old : List ℕ) → n ≤ length old → IsImage kept old → IsImage (shortened n kept) (take n old)
take_shortened kept n old le image =
    let long = length-take-le n old le in
    record {
      no_shorter = omega (arith, image.no_shorter, long);
      no_longer = omega (arith, image.no_longer, long);
      same = λ i lt in_bytes out. get_or-take n old i 0 (omega (arith, lt, long)) ∙ image.same i (omega (arith, lt, long)) in_bytes out;
    }

-- what a crash might have left later, it might have left since before
pub since_earlier : (now : ℕ → Kept) (past : List (ℕ → Kept)) (t u : ℕ) (c : Image) → t ≤ u → LeftSince now past u c → LeftSince now past t c
since_earlier now [] t u c le left = left
since_earlier now (before ∷ past) t u c le (inl here) = inl here
since_earlier now (before ∷ past) t u c le (inr older) = inr (omega (arith, le, older.0), since_earlier before past t u c le older.1)

-- now is the last moment
pub left_now : (now : ℕ → Kept) (past : List (ℕ → Kept)) (c : Image) → LeavesImages now c → LeftSince now past (length past) c
left_now now [] c left = left
left_now now (before ∷ past) c left = inl left

pub only_now : (now : ℕ → Kept) (past : List (ℕ → Kept)) (c : Image) → LeftSince now past (length past) c → LeavesImages now c
only_now now [] c left = left
only_now now (before ∷ past) c (inl left) = left
only_now now (before ∷ past) c (inr older) = absurd (omega (arith, older.0))

-- one call more
pub elapses : (old new : ℕ → Kept) (past : List (ℕ → Kept)) → Elapses (length past) (length (old ∷ past)) (LeftSince old past) (LeftSince new (old ∷ past)) (LeavesImages new)
elapses old new past = record {
  later = omega arith;
  nothing_else = λ t c le left. ⊎_elim (λ now. inr now) (λ older. inl older.1) left;
  keeps = λ t c le left. inr (le, left);
}

-- a write and a cut of the model
pub write_follows : (all : ℕ → Kept) (file at n : ℕ) (seen : List ℕ) → IsImage (all file) seen → at ≤ length seen
    → Follows (OnFile file (Torn at n)) (LeavesImages all) (LeavesImages (at_file all file (written at n (all file))))
write_follows all file at n seen image le =
    follows_by all file (written at n (all file)) (Torn at n)
    (λ c left. before_write (all file) at n c (omega (arith, le, image.no_longer)) (omega (arith, image.no_shorter, image.no_longer)) left)

pub cut_follows : (all : ℕ → Kept) (file n : ℕ) (seen : List ℕ) → IsImage (all file) seen
    → Follows (OnFile file (Cut n)) (LeavesImages all) (LeavesImages (at_file all file (shortened n (all file))))
cut_follows all file n seen image =
    follows_by all file (shortened n (all file)) (Cut n)
    (λ c left. before_cut (all file) n c (omega (arith, image.no_shorter, image.no_longer)) left)

-- files fail independently
pub mixed : (all : ℕ → Kept) (c : Image) (file : ℕ) (b : List ℕ) → LeavesImages all c → IsImage (all file) b → LeavesImages all (at_file c file b)
mixed all c file b left image f = ⊎_elim
    (λ (is : f ≡ file). subst (λ g. IsImage (all g) (at_file c file b g)) (sym is) (subst (λ (x : List ℕ). IsImage (all file) x) (sym (at_here c file b)) image))
    (λ ne. subst (λ (x : List ℕ). IsImage (all f) x) (sym (at_other c file b f ne)) (left f))
    (cases_eq f file)

-- other bytes in the ranges, and past the end
pub any_in_ranges : (kept : Kept) (c b : List ℕ) → IsImage kept c → length b ≡ length c
    → ((i : ℕ) → is_written kept.ranges i ≡ false → get_or b i 0 ≡ get_or c i 0) → IsImage kept b
any_in_ranges kept c b image size same = record {
  no_shorter = omega (arith, image.no_shorter, size);
  no_longer = omega (arith, image.no_longer, size);
  same = λ i lt in_bytes out. same i out ∙ image.same i (omega (arith, lt, size)) in_bytes out;
}

pub any_past_end : (kept : Kept) (c b : List ℕ) → IsImage kept c → length b ≡ length c
    → ((i : ℕ) → i < length kept.bytes → get_or b i 0 ≡ get_or c i 0) → IsImage kept b
any_past_end kept c b image size same = record {
  no_shorter = omega (arith, image.no_shorter, size);
  no_longer = omega (arith, image.no_longer, size);
  same = λ i lt in_bytes out. same i in_bytes ∙ image.same i (omega (arith, lt, size)) in_bytes out;
}

-- an image of each size
pub any_size : (kept : Kept) (n : ℕ) → kept.least ≤ n → n ≤ kept.greatest → (c : List ℕ) × (length c ≡ n) × IsImage kept c
any_size kept n low high =
    let long : length (listed (λ i. get_or kept.bytes i 0) n) ≡ n = length-listed (λ i. get_or kept.bytes i 0) n in (
      listed (λ i. get_or kept.bytes i 0) n,
      long,
      record {
        no_shorter = omega (arith, long, low);
        no_longer = omega (arith, long, high);
        same = λ i lt in_bytes out. listed_at (λ i. get_or kept.bytes i 0) n i (omega (arith, lt, long));
      },
    )

-- which places are written after a write more
is_in : (at n i : ℕ) → at ≤ i → i < at + n → (nat_le at i && nat_lt i (at + n)) ≡ true
is_in at n i ge lt = grind (arith, nat_tests)

in_of : (at n i : ℕ) → (nat_le at i && nat_lt i (at + n)) ≡ true → (at ≤ i) × (i < at + n)
in_of at n i h = ⊎_elim (λ lt. absurd (grind (arith, nat_tests))) (λ ge. ⊎_elim (λ lt. (ge, lt)) (λ past. absurd (grind (arith, nat_tests))) (cases_lt i (at + n))) (cases_lt i at)

pub written_places : (kept : Kept) (at n i : ℕ) → is_written (written at n kept).ranges i ≡ true ↔ ((is_written kept.ranges i ≡ true) ⊎ ((at ≤ i) × (i < at + n)))
written_places kept at n i =
    let more = any_more (λ (range : ℕ × ℕ). nat_le range.0 i && nat_lt i range.1) kept.ranges (at, at + n) in (
      λ h. ⊎_elim (λ a. inl a) (λ b. inr (in_of at n i b)) (or_cases _ _ (sym more ∙ h)),
      λ h. ⊎_elim (λ a. more ∙ or_left _ _ a) (λ b. more ∙ or_right _ _ (is_in at n i b.0 b.1)) h,
    )

-- a life that starts
pub same_left : (now : ℕ → Kept) (past : List (ℕ → Kept)) (c : Image) → LeftSince now past (length past) c ↔ LeftSince now [] 0 c
same_left now past c = (only_now now past c, left_now now past c)
