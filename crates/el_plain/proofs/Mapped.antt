-- What a loop over a list has made of its front.
use Rattle.std.proofs.Common.{◌≡◌, ℕ, ◌+◌, ◌<◌, ◌≤◌, List, [], ◌∷◌, ◌++◌, length, map, drop, get_or, ap, sym, ◌∙◌, append_assoc, append-nil}
use Rattle.std.proofs.lemmas.List.{drop_all}
use Rattle.std.specs.List.{flat_map}
use Rattle.el_base.proofs.Lists.{left_at}

pub mapped_more : {A B : Type 0} (f : A → B) (xs : List A) (n : ℕ) (x : A) (found new whole : List B) → n < length xs → x ≡ get_or xs n x → new ≡ found ++ f x ∷ []
    → found ++ map f (drop n xs) ≡ whole → new ++ map f (drop (n + 1) xs) ≡ whole
mapped_more f xs n x found new whole lt is more so =
    let left = left_at xs n x lt is in
    ap (λ ys. ys ++ map f (drop (n + 1) xs)) more ∙ append_assoc found (f x ∷ []) (map f (drop (n + 1) xs)) ∙ ap (λ ys. found ++ map f ys) (sym left) ∙ so

pub mapped_all : {A B : Type 0} (f : A → B) (xs : List A) (n : ℕ) (found whole : List B) → length xs ≤ n → found ++ map f (drop n xs) ≡ whole → found ≡ whole
mapped_all f xs n found whole most so =
    let none = drop_all n xs most in
    let is = rw none at so in
    sym (append-nil found) ∙ is

pub fed_more : {A : Type 0} (f : A → List ℕ) (xs : List A) (n : ℕ) (x : A) (fed whole : List ℕ) → n < length xs → x ≡ get_or xs n x
    → fed ++ flat_map f (drop n xs) ≡ whole → (fed ++ f x) ++ flat_map f (drop (n + 1) xs) ≡ whole
fed_more f xs n x fed whole lt is so =
    let left = left_at xs n x lt is in
    append_assoc fed (f x) (flat_map f (drop (n + 1) xs)) ∙ ap (λ ys. fed ++ flat_map f ys) (sym left) ∙ so

pub fed_all : {A : Type 0} (f : A → List ℕ) (xs : List A) (n : ℕ) (fed whole : List ℕ) → length xs ≤ n → fed ++ flat_map f (drop n xs) ≡ whole → fed ≡ whole
fed_all f xs n fed whole most so =
    let none = drop_all n xs most in
    let is = rw none at so in
    sym (append-nil fed) ∙ is
