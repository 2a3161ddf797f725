-- How many script hashes of outputs are new.
use Rattle.std.proofs.Common.{◌≡◌, inl, inr, ℕ, zero, suc, ◌+◌, ◌<◌, ◌≤◌, true, false, List, [], ◌∷◌, ◌++◌, length, take, get_or, None, Some, refl, ap, sym, ◌∙◌, arith, length-append}
use Rattle.std.proofs.lemmas.Bool.{cases_Bool}
use Rattle.std.proofs.lemmas.List.{take_all}
use Rattle.el_base.specs.declared.hash.Hash32.{Hash32}
use Rattle.el_chain.specs.RowCounts.{is_script_among, add_script, add_scripts}
use Rattle.el_tables.specs.Fits.{Once}
use Rattle.el_tables.proofs.Scripts.{gather_has, gather_keeps, gather_only}
use Rattle.el_buckets.specs.Buckets.{newest_of}
use Rattle.el_script.proofs.Causes.{newest_none, newest_some}
use Rattle.el_connect.specs.within.Parts.{output_scripts}

one_there : (s : Hash32) (xs : List Hash32) → is_script_among s xs ≡ true → length xs + 0 ≡ length (add_script s xs)
one_there s xs there = rw there (omega arith)

-- one that an output before has
pub old_among : (s : Hash32) (xs ss : List Hash32) → true ≡ is_script_among s ss → length (add_scripts xs ss) + 0 ≡ length (add_script s (add_scripts xs ss))
old_among s xs ss among = one_there s (add_scripts xs ss) (gather_has ss xs s (sym among))

-- one that is there
pub old_found : (s : Hash32) (xs ss : List Hash32) (n : ℕ) → Once xs → Some n ≡ newest_of s xs → length (add_scripts xs ss) + 0 ≡ length (add_script s (add_scripts xs ss))
old_found s xs ss n once is = one_there s (add_scripts xs ss) (gather_keeps ss s xs (newest_some s xs n once (sym is)).0).0

-- and one that is new
pub new_found : (s : Hash32) (xs ss : List Hash32) → Once xs → false ≡ is_script_among s ss → None ≡ newest_of s xs → length (add_scripts xs ss) + 1 ≡ length (add_script s (add_scripts xs ss))
new_found s xs ss once apart is =
    let none = gather_only ss xs s (newest_none s xs once (sym is)) (sym apart) in
    let long = length-append (add_scripts xs ss) (s ∷ []) in
    rw none (omega arith)

-- the script hashes of one output more
scripts_last : (at : ℕ) (os : List (ℕ × Hash32)) (o : ℕ × Hash32) → at < length os → o ≡ get_or os at o → output_scripts (take (suc at) os) ≡ output_scripts (take at os) ++ o.1 ∷ []
scripts_last at [] o lt is = absurd (omega arith)
scripts_last zero (x ∷ xs) o lt is = ap (λ (y : ℕ × Hash32). y.1 ∷ []) (sym is)
scripts_last (suc n) (x ∷ xs) o lt is = ap (λ (ss : List Hash32). x.1 ∷ ss) (scripts_last n xs o (omega arith) is)

gather_last : (xs ss : List Hash32) (s : Hash32) → add_scripts xs (ss ++ s ∷ []) ≡ add_script s (add_scripts xs ss)
gather_last xs [] s = refl
gather_last xs (t ∷ ts) s = gather_last (add_script t xs) ts s

-- one output more is counted
pub counted_more : (xs : List Hash32) (os : List (ℕ × Hash32)) (at new more : ℕ) (o : ℕ × Hash32) → at < length os → o ≡ get_or os at o → length xs + new ≡ length (add_scripts xs (output_scripts (take at os)))
    → length (add_scripts xs (output_scripts (take at os))) + more ≡ length (add_script o.1 (add_scripts xs (output_scripts (take at os))))
    → length xs + (new + more) ≡ length (add_scripts xs (output_scripts (take (at + 1) os)))
counted_more xs os at new more o lt is counted one =
    let next : at + 1 ≡ suc at = omega arith in
    let step : add_scripts xs (output_scripts (take (at + 1) os)) ≡ add_script o.1 (add_scripts xs (output_scripts (take at os))) =
    ap (λ (n : ℕ). add_scripts xs (output_scripts (take n os))) next ∙ ap (add_scripts xs) (scripts_last at os o lt is) ∙ gather_last xs (output_scripts (take at os)) o.1 in
    let long = ap (λ (ss : List Hash32). length ss) step in
    omega arith

pub counted_all : (xs : List Hash32) (os : List (ℕ × Hash32)) (at new : ℕ) → length os ≤ at → length xs + new ≡ length (add_scripts xs (output_scripts (take at os)))
    → length xs + new ≡ length (add_scripts xs (output_scripts os))
counted_all xs os at new le counted = counted ∙ ap (λ (ys : List (ℕ × Hash32)). length (add_scripts xs (output_scripts ys))) (take_all at os le)

-- no more than the outputs
pub scripts_few : (xs : List Hash32) (os : List (ℕ × Hash32)) → length (add_scripts xs (output_scripts os)) ≤ length xs + length os
scripts_few xs [] = omega arith
scripts_few xs (o ∷ os) =
    let rest = scripts_few (add_script o.1 xs) os in
    let one = once_within o.1 xs in
    omega arith
  where
    once_within : (s : Hash32) (ys : List Hash32) → length (add_script s ys) ≤ length ys + 1
    once_within s ys = elim (cases_Bool (is_script_among s ys)) [
      | inl e ↦ rw e (omega arith)
      | inr e ↦ let joined = length-append ys (s ∷ []) in rw e (omega arith)
    ]
