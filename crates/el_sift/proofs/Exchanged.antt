-- Script hashes of coins that inputs took and of those that they take now.
use Rattle.std.proofs.Common.{◌≡◌, ℕ, ◌+◌, ◌<◌, true, false, Bool, not, ◌&&◌, ◌||◌, List, [], ◌∷◌, length, take, get_or, refl, ap, sym, ◌∙◌}
use Rattle.std.proofs.lemmas.List.Folds.{list_any_more}
use Rattle.std.specs.List.{list_any}
use Rattle.std.specs.Str.{bytes_eq}
use Rattle.el_base.specs.declared.hash.Hash32.{Hash32}
use Rattle.el_chain.specs.Headers.{same_hash}
use Rattle.el_mempool.specs.declared.held.Source.{Source}
use Rattle.el_mempool.specs.Standing.{is_coin_at}
use Rattle.el_mempool.specs.Moving.{just_one}
use Rattle.el_mempool.proofs.Confirmed.{hash_same}

pub any_and : {X : Type 0} (p : X → Bool) (c : Bool) (xs : List X) → list_any (λ x. p x && c) xs ≡ (list_any p xs && c)
any_and p c [] = refl
any_and p c (x ∷ xs) = ap (λ b. (p x && c) || b) (any_and p c xs) ∙ by (p x) c (list_any p xs)
  where
    by : (a d r : Bool) → ((a && d) || (r && d)) ≡ ((a || r) && d)
    by true true r = refl
    by true false true = refl
    by true false false = refl
    by false d r = refl

flat : (t o a b : Bool) → ((t || (a && not (o || b))) || (b && not (o || a))) ≡ (t || just_one (o || a) (o || b))
flat true o a b = refl
flat false true true true = refl
flat false true true false = refl
flat false true false true = refl
flat false true false false = refl
flat false false true true = refl
flat false false true false = refl
flat false false false true = refl
flat false false false false = refl

-- told are those before that aren't after, and then those after that weren't before
pub exchanged : (t o a b before after mid now : Bool) → before ≡ (o || a) → after ≡ (o || b) → mid ≡ (t || (a && not after)) → now ≡ (mid || (b && not before))
    → now ≡ (t || just_one (o || a) (o || b))
exchanged t o a b before after mid now e f g h = h ∙ ap (λ m. m || (b && not before)) (g ∙ ap (λ x. t || (a && not x)) f) ∙ ap (λ x. (t || (a && not (o || b))) || (b && not x)) e ∙ flat t o a b

pub when_not : (b r : Bool) → r ≡ not b → r ≡ false → b ≡ true
when_not true r e h = refl
when_not false r e h = sym h ∙ e

pub same_more : (s : List ℕ) (old new : List Source) (i : ℕ) (d e : Source) → i < length old → i < length new → list_any (is_coin_at s) (take i old) ≡ list_any (is_coin_at s) (take i new)
    → same_hash (get_or old i d).held.script (get_or new i e).held.script ≡ true → list_any (is_coin_at s) (take (i + 1) old) ≡ list_any (is_coin_at s) (take (i + 1) new)
same_more s old new i d e lt lt2 before is =
    list_any_more (is_coin_at s) old i d lt ∙ ap (λ b. b || is_coin_at s (get_or old i d)) before
    ∙ ap (λ (x : Hash32). list_any (is_coin_at s) (take i new) || bytes_eq x.0 s) (hash_same (get_or old i d).held.script (get_or new i e).held.script is)
    ∙ sym (list_any_more (is_coin_at s) new i e lt2)

either_way : (t o a b e : Bool) → (((t || (o || a)) || b) ≡ (t || ((o || a) || (o || b))))
either_way true o a b e = refl
either_way false true a b e = refl
either_way false false true b e = refl
either_way false false false b e = refl

pub both_told : (t o a b mid now : Bool) → mid ≡ (t || (o || a)) → now ≡ (mid || b) → now ≡ (t || ((o || a) || (o || b)))
both_told t o a b mid now e f = f ∙ ap (λ m. m || b) e ∙ either_way t o a b true
