-- Values of calls whose faults were told as others.
use Rattle.std.proofs.Common.{◌≡◌, true, is_ok, Result, Ok, Err, OnOk, IfOk, IfErr, MatchResult, sym, subst, ◌∙◌}

pub on_ok : {T E : Type 0} {P : Type 0} (r : Result T E) → true ≡ is_ok r → OnOk r P → P
on_ok (Ok x) is p = p
on_ok (Err e) is p = absurd cc

-- the value that is handed on
pub of_value : {T E F : Type 0} (P : T → Type 0) (Q : E → Type 0) (r : Result T E) (s : Result T F) (x : T) → MatchResult r (λ y. s ≡ Ok y) Q → true ≡ is_ok r → s ≡ Ok x → IfOk r P → P x
of_value P Q (Ok y) s x same is was p = let both : Ok y ≡ Ok x = sym same ∙ was in let one : y ≡ x = cc in subst P one p
of_value P Q (Err e) s x same is was p = absurd cc

-- what follows of a value, and of an error
pub if_ok : {T E : Type 0} {P Q : T → Type 0} (r : Result T E) → IfOk r P → ((x : T) → P x → Q x) → IfOk r Q
if_ok (Ok x) p follows = follows x p
if_ok (Err e) p follows = tt

pub if_err : {T E : Type 0} {P Q : E → Type 0} (r : Result T E) → IfErr r P → ((e : E) → P e → Q e) → IfErr r Q
if_err (Ok x) p follows = tt
if_err (Err e) p follows = follows e p

pub if_both : {T E : Type 0} {P Q R : T → Type 0} (r : Result T E) → IfOk r P → IfOk r Q → ((x : T) → P x → Q x → R x) → IfOk r R
if_both (Ok x) p q follows = follows x p q
if_both (Err e) p q follows = tt
