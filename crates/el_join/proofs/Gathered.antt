-- What goes with a transaction that is dropped: it, and whatever takes an output of one that goes.
use Rattle.std.proofs.Common.{◌≡◌, ◌⊎◌, inl, inr, ℕ, ◌+◌, ◌<◌, ◌≤◌, true, false, Bool, cond, ◌||◌, List, [], ◌∷◌, ◌++◌, length, take, drop, get_or, Option, None, Some, refl, ap, sym, ◌∙◌, arith, append_assoc, append-nil}
use Rattle.std.proofs.lemmas.Bool.{cases_lt, or_cases, or_left, or_right, true≢false}
use Rattle.std.proofs.lemmas.List.{drop-append-le, drop_all}
use Rattle.std.proofs.lemmas.List.Folds.{list_any-append}
use Rattle.std.proofs.lemmas.Option.{slice_get_cases}
use Rattle.std.specs.Prelude.{slice_get}
use Rattle.el_base.proofs.Lists.{left_at, cut_at}
use Rattle.el_base.specs.declared.hash.Hash32.{Hash32}
use Rattle.el_tx.specs.declared.types.Outpoint.{Outpoint}
use Rattle.el_chain.specs.Headers.{same_hash}
use Rattle.el_chain.proofs.TouchLemmas.{any_added}
use Rattle.el_kept.specs.Tables.{has}
use Rattle.el_join.specs.within.Going.{with_taker, outpoint_numbered, AreThere, TakersAdded, Gathers}
use Rattle.el_mempool.proofs.Confirmed.{hash_self, hash_same}

some_hash : (x y : Hash32) → Some x ≡ Some y → x ≡ y
some_hash x y h = cc

none_hash : (x : Hash32) → None ≡ Some x → ⊥
none_hash x h = cc

-- ---- the takers of one transaction's outputs

pub grown_none : (taker : Outpoint → Option Hash32) (id : Hash32) (ids : List Hash32) → TakersAdded taker id 0 ids ids
grown_none taker id ids = record {
  more = [];
  is = sym (append-nil ids);
  comes = λ x h. inl h;
  there = λ i lt x t. absurd (omega (arith, lt));
}

step_more : (old mid new : List Hash32) (x : Option Hash32) → (more : List Hash32) × (mid ≡ old ++ more) → new ≡ with_taker x mid → (more : List Hash32) × (new ≡ old ++ more)
step_more old mid new None before is = (before.0, is ∙ before.1)
step_more old mid new (Some y) before is = by (has mid y) is
  where
    by : (b : Bool) → new ≡ cond b mid (mid ++ y ∷ []) → (more : List Hash32) × (new ≡ old ++ more)
    by true e = (before.0, e ∙ before.1)
    by false e = (before.0 ++ y ∷ [], e ∙ ap (λ l. l ++ y ∷ []) before.1 ∙ append_assoc old before.0 (y ∷ []))

-- who is there after one more
step_has : (mid new : List Hash32) (t : Option Hash32) → new ≡ with_taker t mid → (x : Hash32) → has new x ≡ true → (has mid x ≡ true) ⊎ (t ≡ Some x)
step_has mid new None is x h = inl (ap (λ l. has l x) (sym is) ∙ h)
step_has mid new (Some y) is x h = by (or_cases (has mid x) (same_hash x y) (sym (any_added x y mid new is) ∙ h))
  where
    by : (has mid x ≡ true) ⊎ (same_hash x y ≡ true) → (has mid x ≡ true) ⊎ (Some y ≡ Some x)
    by (inl a) = inl a
    by (inr b) = inr (ap Some (sym (hash_same x y b)))

step_stays : (mid new : List Hash32) (t : Option Hash32) → new ≡ with_taker t mid → (x : Hash32) → has mid x ≡ true → has new x ≡ true
step_stays mid new None is x h = ap (λ l. has l x) is ∙ h
step_stays mid new (Some y) is x h = any_added x y mid new is ∙ or_left (has mid x) (same_hash x y) h

step_new : (mid new : List Hash32) (t : Option Hash32) → new ≡ with_taker t mid → (x : Hash32) → t ≡ Some x → has new x ≡ true
step_new mid new None is x h = absurd (none_hash x h)
step_new mid new (Some y) is x h = any_added x y mid new is ∙ or_right (has mid x) (same_hash x y) (hash_self x y (sym (some_hash y x h)))

pub grown_more : (taker : Outpoint → Option Hash32) (id : Hash32) (n : ℕ) (old mid new : List Hash32) → TakersAdded taker id n old mid → new ≡ with_taker (taker (outpoint_numbered id n)) mid → TakersAdded taker id (n + 1) old new
grown_more taker id n old mid new g is =
    let whole = step_more old mid new (taker (outpoint_numbered id n)) (g.more, g.is) is in
    record {
      more = whole.0;
      is = whole.1;
      comes = λ x h. came x (step_has mid new (taker (outpoint_numbered id n)) is x h);
      there = λ i lt x t. here i lt x t;
    }
  where
    came : (x : Hash32) → (has mid x ≡ true) ⊎ (taker (outpoint_numbered id n) ≡ Some x) → (has old x ≡ true) ⊎ ((o : Outpoint) × (o.txid ≡ id) × (taker o ≡ Some x))
    came x (inl h) = g.comes x h
    came x (inr t) = inr (outpoint_numbered id n, refl, t)

    at_last : (i : ℕ) → i ≡ n → (x : Hash32) → taker (outpoint_numbered id i) ≡ Some x → has new x ≡ true
    at_last i e x t = step_new mid new (taker (outpoint_numbered id n)) is x (ap (λ k. taker (outpoint_numbered id k)) (sym e) ∙ t)

    two : (i : ℕ) → i < n + 1 → (i < n) ⊎ (i ≡ n)
    two i lt = split (cases_lt i n)
      where
        split : (i < n) ⊎ (n ≤ i) → (i < n) ⊎ (i ≡ n)
        split (inl a) = inl a
        split (inr b) = inr (omega (arith, b, lt))

    here : (i : ℕ) → i < n + 1 → (x : Hash32) → taker (outpoint_numbered id i) ≡ Some x → has new x ≡ true
    here i lt x t = by (two i lt)
      where
        by : (i < n) ⊎ (i ≡ n) → has new x ≡ true
        by (inl a) = step_stays mid new (taker (outpoint_numbered id n)) is x (g.there i a x t)
        by (inr e) = at_last i e x t

-- ---- one transaction after the other

pub gathers_first : (taker : Outpoint → Option Hash32) (sizes : Hash32 → ℕ) (start : Hash32) (ids : List Hash32) → ids ≡ start ∷ [] → Gathers taker sizes start (drop 0 ids) ids
gathers_first taker sizes start ids is = rw is (record {
  first = or_left (same_hash start start) false (hash_self start start refl);
  comes = λ x h. inl (only x (or_cases (same_hash x start) false h));
  there = λ id h. inl h;
})
  where
    only : (x : Hash32) → (same_hash x start ≡ true) ⊎ (false ≡ true) → x ≡ start
    only x (inl h) = hash_same x start h
    only x (inr h) = absurd (true≢false (sym h))

item_left : (n : ℕ) (ids : List Hash32) (id : Hash32) → slice_get ids n ≡ Some id → (n < length ids) × (drop n ids ≡ id ∷ drop (n + 1) ids) × (has ids id ≡ true)
item_left n ids id is = by (slice_get_cases ids n).1
  where
    by : ((x : Hash32) × (n < length ids) × (slice_get ids n ≡ Some x) × (get_or ids n x ≡ x)) ⊎ ((length ids ≤ n) × (slice_get ids n ≡ None))
        → (n < length ids) × (drop n ids ≡ id ∷ drop (n + 1) ids) × (has ids id ≡ true)
    by (inl h) =
        let same : h.0 ≡ id = some_hash h.0 id (sym h.2 ∙ is) in
        let item : id ≡ get_or ids n id = rw same at (sym h.3) in
        let cut = cut_at ids n id h.1 item in (
          h.1,
          left_at ids n id h.1 item,
          ap (λ l. has l id) cut ∙ list_any-append (same_hash id) (take n ids) (id ∷ drop (n + 1) ids)
              ∙ or_right (has (take n ids) id) (same_hash id id || has (drop (n + 1) ids) id) (or_left (same_hash id id) (has (drop (n + 1) ids) id) (hash_self id id refl)),
        )
    by (inr h) = absurd (none_hash id (sym h.1 ∙ is))

pub gathers_more : (taker : Outpoint → Option Hash32) (sizes : Hash32 → ℕ) (start id : Hash32) (n : ℕ) (ids new : List Hash32) → Gathers taker sizes start (drop n ids) ids → slice_get ids n ≡ Some id
    → TakersAdded taker id (sizes id) ids new → Gathers taker sizes start (drop (n + 1) new) new
gathers_more taker sizes start id n ids new g item w =
    record {
      first = stays start g.first;
      comes = λ x h. came x (w.comes x h);
      there = λ x h. left x (or_cases (has ids x) (has w.more x) (sym (parts x) ∙ h));
    }
  where
    at_n : (n < length ids) × (drop n ids ≡ id ∷ drop (n + 1) ids) × (has ids id ≡ true)
    at_n = item_left n ids id item

    parts : (x : Hash32) → has new x ≡ (has ids x || has w.more x)
    parts x = ap (λ l. has l x) w.is ∙ list_any-append (same_hash x) ids w.more

    stays : (x : Hash32) → has ids x ≡ true → has new x ≡ true
    stays x h = parts x ∙ or_left (has ids x) (has w.more x) h

    came_by : (x : Hash32) → (x ≡ start) ⊎ ((o : Outpoint) × (has ids o.txid ≡ true) × (taker o ≡ Some x)) → (x ≡ start) ⊎ ((o : Outpoint) × (has new o.txid ≡ true) × (taker o ≡ Some x))
    came_by x (inl e) = inl e
    came_by x (inr h) = inr (h.0, stays h.0.txid h.1, h.2)

    came : (x : Hash32) → (has ids x ≡ true) ⊎ ((o : Outpoint) × (o.txid ≡ id) × (taker o ≡ Some x)) → (x ≡ start) ⊎ ((o : Outpoint) × (has new o.txid ≡ true) × (taker o ≡ Some x))
    came x (inl h) = came_by x (g.comes x h)
    came x (inr h) = inr (h.0, stays h.0.txid (ap (has ids) h.1 ∙ at_n.2), h.2)

    cut : drop (n + 1) new ≡ drop (n + 1) ids ++ w.more
    cut = let lt = at_n.0 in ap (drop (n + 1)) w.is ∙ drop-append-le (n + 1) ids w.more (omega (arith, lt))

    in_left : (x : Hash32) → has (drop (n + 1) new) x ≡ (has (drop (n + 1) ids) x || has w.more x)
    in_left x = ap (λ l. has l x) cut ∙ list_any-append (same_hash x) (drop (n + 1) ids) w.more

    seen_now : (x : Hash32) → (same_hash x id ≡ true) ⊎ (has (drop (n + 1) ids) x ≡ true) → (has (drop (n + 1) new) x ≡ true) ⊎ AreThere taker x (sizes x) new
    seen_now x (inl e) = inr (let same = sym (hash_same x id e) in rw same at w.there)
    seen_now x (inr h) = inl (in_left x ∙ or_left (has (drop (n + 1) ids) x) (has w.more x) h)

    still : (x : Hash32) → (has (drop n ids) x ≡ true) ⊎ AreThere taker x (sizes x) ids → (has (drop (n + 1) new) x ≡ true) ⊎ AreThere taker x (sizes x) new
    still x (inl h) = seen_now x (or_cases (same_hash x id) (has (drop (n + 1) ids) x) (sym (ap (λ l. has l x) at_n.1) ∙ h))
    still x (inr all) = inr (λ i lt y t. stays y (all i lt y t))

    left : (x : Hash32) → (has ids x ≡ true) ⊎ (has w.more x ≡ true) → (has (drop (n + 1) new) x ≡ true) ⊎ AreThere taker x (sizes x) new
    left x (inl h) = still x (g.there x h)
    left x (inr h) = inl (in_left x ∙ or_right (has (drop (n + 1) ids) x) (has w.more x) h)

pub gathers_all : (taker : Outpoint → Option Hash32) (sizes : Hash32 → ℕ) (start : Hash32) (n : ℕ) (ids : List Hash32) → Gathers taker sizes start (drop n ids) ids → slice_get ids n ≡ None → Gathers taker sizes start [] ids
gathers_all taker sizes start n ids g none = by (slice_get_cases ids n).1
  where
    by : ((x : Hash32) × (n < length ids) × (slice_get ids n ≡ Some x) × (get_or ids n x ≡ x)) ⊎ ((length ids ≤ n) × (slice_get ids n ≡ None)) → Gathers taker sizes start [] ids
    by (inl h) = absurd (none_hash h.0 (sym none ∙ h.2))
    by (inr h) = let over = drop_all n ids h.0 in rw over at g
