-- Files in memory read as images of theirs.
use Rattle.std.proofs.Common.{◌≡◌, ◌⊎◌, ⊎_elim, ℕ, ◌+◌, ◌-◌, ◌<◌, ◌≤◌, ◌%◌, nat_lt, ◌&&◌, not, Bool, true, false, List, length, get_or, drop, inl, inr, Result, Ok, Err, OnOk, OnErr, if◌then◌else◌, sym, ◌∙◌, ap, subst, arith}
use Rattle.std.proofs.lemmas.Bool.{cases_eq}
use Rattle.std.proofs.lemmas.Bool.Decides.{nat_tests}
use Rattle.std.proofs.lemmas.Nat.{mod_below}
use Rattle.el_outside.specs.declared.archive.TheConstants.{SIZE_LIMIT}
use Rattle.el_outside.specs.Images.{Kept, is_written, IsImage, at_file}
use Rattle.el_outside.proofs.Images.{at_here, at_other, listed_at, length-listed, over_written, keep_shortened, take_shortened, all_synced}
use Rattle.el_mem_disk.specs.DiskFiles.{FileState, IsSound, file_written, file_cut, file_synced, chosen, chosen_size, chosen_byte, crashed, numbers_before}

pub sound_at : (files : ℕ → FileState) (file : ℕ) (here : FileState) → ((f : ℕ) → IsSound (files f)) → IsSound here → (f : ℕ) → IsSound (at_file files file here f)
sound_at files file here sound is f = ⊎_elim
    (λ (same : f ≡ file). subst (λ g. IsSound (at_file files file here g)) (sym same) (subst (λ (x : FileState). IsSound x) (sym (at_here files file here)) is))
    (λ ne. subst (λ (x : FileState). IsSound x) (sym (at_other files file here f ne)) (sound f))
    (cases_eq f file)

pub sound_written : (file : FileState) (at n : ℕ) (front : List ℕ) → IsSound file → at ≤ length file.bytes → length front ≤ n → at + n < SIZE_LIMIT → IsSound (file_written at n front file)
sound_written file at n front sound le part ends = record {
  image = over_written file.kept at n file.bytes front le part sound.image;
  short = omega (arith, sound.short, ends);
}

pub sound_cut : (file : FileState) (n : ℕ) (is_seen : Bool) → IsSound file → n ≤ length file.bytes → IsSound (file_cut n is_seen file)
sound_cut file n true sound le = record { image = take_shortened file.kept n file.bytes le sound.image; short = sound.short }
sound_cut file n false sound le = record { image = keep_shortened file.kept n file.bytes sound.image; short = sound.short }

pub sound_synced : (file : FileState) → IsSound file → IsSound (file_synced file)
sound_synced file sound = record { image = all_synced file.bytes; short = omega (arith, sound.short, sound.image.no_longer) }

-- the byte at a place where a crash leaves the synced one
chosen_known : (kept : Kept) (numbers : List ℕ) (i : ℕ) → i < length kept.bytes → is_written kept.ranges i ≡ false → chosen_byte kept numbers i ≡ get_or kept.bytes i 0
chosen_known kept numbers i lt out = ap (λ b. if nat_lt i (length kept.bytes) && not b then get_or kept.bytes i 0 else get_or numbers (1 + i) 0 % 256) out ∙ within (get_or kept.bytes i 0) (get_or numbers (1 + i) 0 % 256)
  where
    within : (x y : ℕ) → (if nat_lt i (length kept.bytes) && not false then x else y) ≡ x
    within x y = grind (arith, nat_tests)

-- what the numbers choose is an image
pub is_chosen : (kept : Kept) (numbers : List ℕ) → kept.least ≤ kept.greatest → IsImage kept (chosen kept numbers)
is_chosen kept numbers sizes =
    let long : length (chosen kept numbers) ≡ chosen_size kept numbers = length-listed (chosen_byte kept numbers) (chosen_size kept numbers) in
    let low = mod_below (get_or numbers 0 0) (kept.greatest - kept.least + 1) (omega arith) in
    record {
      no_shorter = omega (arith, long);
      no_longer = omega (arith, long, low, sizes);
      same = λ i lt in_bytes out. listed_at (chosen_byte kept numbers) (chosen_size kept numbers) i (omega (arith, lt, long)) ∙ chosen_known kept numbers i in_bytes out;
    }

pub sound_crashed : (files : ℕ → FileState) (numbers : List ℕ) → ((f : ℕ) → IsSound (files f)) → (f : ℕ) → IsSound (crashed files numbers f)
sound_crashed files numbers sound f = record {
  image = is_chosen (files f).kept (drop (numbers_before files f) numbers) (omega (arith, (sound f).image.no_shorter, (sound f).image.no_longer));
  short = (sound f).short;
}

-- files that are the same are as sound
pub sound_same : (a b : ℕ → FileState) → a ≡ b → ((f : ℕ) → IsSound (b f)) → (f : ℕ) → IsSound (a f)
sound_same a b same sound f = subst (λ (x : FileState). IsSound x) (λ i. sym same i f) (sound f)

-- one of the two, whatever the call answered
pub either : {T E P Q : Type 0} (r : Result T E) → OnOk r P → OnErr r Q → P ⊎ Q
either (Ok v) p q = inl p
either (Err e) p q = inr q

module _ {T E : Type 0} (r : Result T E) (a b : ℕ → FileState) (sound : (f : ℕ) → IsSound (a f)) (file : ℕ) where
  pub sound_after : (here : FileState) → IsSound here → OnOk r (b ≡ at_file a file here) → OnErr r (b ≡ a) → (f : ℕ) → IsSound (b f)
  sound_after here is ok err = ⊎_elim (λ done. sound_same b _ done (sound_at a file here sound is)) (λ same. sound_same b a same sound) (either r ok err)
