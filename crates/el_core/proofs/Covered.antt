-- Script hashes that are touched, of those to which clients subscribe.
use Rattle.std.proofs.Common.{◌≡◌, inl, inr, ℕ, ◌+◌, ◌<◌, ◌≤◌, Bool, true, false, if◌then◌else◌, List, [], ◌∷◌, ◌++◌, length, take, get_or, Result, Ok, Err, refl, sym, ap, ◌∙◌, subst, true≢false}
use Rattle.std.specs.List.{list_any}
use Rattle.std.specs.Prelude.{OnOk}
use Rattle.std.proofs.lemmas.Bool.{or_parts, or_from}
use Rattle.std.proofs.lemmas.List.{take_all, get_or_default}
use Rattle.std.proofs.lemmas.List.Folds.{list_any-append}
use Rattle.el_base.specs.declared.hash.Hash32.{Hash32}
use Rattle.el_base.proofs.Lists.{taken_at}
use Rattle.el_chain.specs.Headers.{same_hash}
use Rattle.el_chain.proofs.TouchLemmas.{any_added, hash_gives}
use Rattle.el_lines.proofs.Cuts.{either}
use Rattle.el_status.specs.Untouched.{is_among}
use Rattle.el_core.specs.State.{ClientState}
use Rattle.el_core.specs.within.Touching.{is_held, HasAllSubscribed, CoversAll}

-- one script hash: it is added
pub one_added : (clients : List ClientState) (old new : List Hash32) (x : Hash32) → new ≡ (if list_any (same_hash x) old then old else old ++ x ∷ []) → HasAllSubscribed clients old (x ∷ []) new
one_added clients old new x is s held none =
    let parts = or_parts (is_among old s) (same_hash s x) (sym (any_added s x old new is) ∙ none) in
    (parts.0, or_from (same_hash s x) false parts.1 refl)

-- nobody holds it
pub one_left : (clients : List ClientState) (old : List Hash32) (x : Hash32) → is_held clients x ≡ false → HasAllSubscribed clients old (x ∷ []) old
one_left clients old x nobody_holds s held none = (none, or_from (same_hash s x) false other refl)
  where
    other : same_hash s x ≡ false
    other = elim (either (same_hash s x)) [
      | inl same ↦ absurd (true≢false (sym held ∙ ap (is_held clients) (hash_gives s x same) ∙ nobody_holds))
      | inr differs ↦ differs
    ]

pub none_yet : (clients : List ClientState) (old items : List Hash32) → HasAllSubscribed clients old (take 0 items) old
none_yet clients old items s held none = (none, refl)

-- one more of them
pub one_more : (clients : List ClientState) (start now next items : List Hash32) (i : ℕ) (x d : Hash32) → i < length items → x ≡ get_or items i d → HasAllSubscribed clients start (take i items) now → HasAllSubscribed clients now (x ∷ []) next
    → HasAllSubscribed clients start (take (i + 1) items) next
one_more clients start now next items i x d lt is first more s held none =
    let m = more s held none in
    let f = first s held m.0 in
    let own : same_hash s x ≡ false = (or_parts (same_hash s x) false m.1).0 in
    let front = taken_at items i x lt (is ∙ get_or_default items i d x lt) in
    (f.0, ap (is_among' s) front ∙ list_any-append (same_hash s) (take i items) (x ∷ []) ∙ or_from (is_among (take i items) s) (is_among (x ∷ []) s) f.1 (or_from (same_hash s x) false own refl))
  where
    is_among' : Hash32 → List Hash32 → Bool
    is_among' t scripts = is_among scripts t

pub all_of_them : (clients : List ClientState) (start now items scripts : List Hash32) (i : ℕ) → length items ≤ i → items ≡ scripts → HasAllSubscribed clients start (take i items) now → HasAllSubscribed clients start scripts now
all_of_them clients start now items scripts i most same covers =
    subst (λ (l : List Hash32). HasAllSubscribed clients start l now) (take_all i items most ∙ same) covers

-- those of two lists, one after the other
both_covered : (clients : List ClientState) (old mid new moved changed : List Hash32) → HasAllSubscribed clients old moved mid → HasAllSubscribed clients mid changed new → CoversAll clients old moved changed new
both_covered clients old mid new moved changed first second s held none =
    let b = second s held none in
    let a = first s held b.0 in
    (a.0, a.1, b.1)

-- where the second call found memory
pub both_where_ok : {T E : Type 0} (r : Result T E) (clients : List ClientState) (old mid new moved changed : List Hash32) → HasAllSubscribed clients old moved mid → OnOk r (HasAllSubscribed clients mid changed new) → OnOk r (CoversAll clients old moved changed new)
both_where_ok (Ok x) clients old mid new moved changed first second = both_covered clients old mid new moved changed first second
both_where_ok (Err e) clients old mid new moved changed first second = tt
