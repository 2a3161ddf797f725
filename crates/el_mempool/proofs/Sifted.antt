-- What each step of a sift over another chain tells, told of what the whole sift keeps.
use Rattle.std.proofs.Common.{◌≡◌, ℕ, true, false, Bool, cond, not, ◌||◌, List, [], ◌∷◌, ◌++◌, Option, None, Some, refl, ap, sym, ◌∙◌, append_assoc, append-nil, arith}
use Rattle.std.proofs.lemmas.Bool.{and_parts, and_from, or_from, true≢false, false_from_ne_true}
use Rattle.std.proofs.lemmas.List.Folds.{list_any-append}
use Rattle.std.specs.List.{AllByRecursion, list_any}
use Rattle.std.specs.Prelude.{nat_eq}
use Rattle.std.specs.Ordering.{int_eq}
use Rattle.std.specs.Cmp.{signed_Decides}
use Rattle.el_base.specs.declared.hash.Hash32.{Hash32}
use Rattle.el_tx.specs.declared.types.Tx.{Tx}
use Rattle.el_tx.specs.Hashing.{txid}
use Rattle.el_block.specs.Blocks.{AllDiffer}
use Rattle.el_chain.specs.Chains.{Chain}
use Rattle.el_chain.specs.Headers.{same_hash}
use Rattle.el_mempool.specs.declared.entry.PoolEntry.{PoolEntry}
use Rattle.el_mempool.specs.declared.held.KeptTx.{KeptTx}
use Rattle.el_mempool.specs.Sift.{is_confirmed, may_join, joined, sift}
use Rattle.el_mempool.specs.Refusals.{is_kept}
use Rattle.el_mempool.specs.Unconfirmed.{concerns_script, entry}
use Rattle.el_mempool.specs.Standing.{kept_tx, is_at_script, KeptStandFor, AreChanged}
use Rattle.el_mempool.specs.Moving.{just_one, look_same, differs_at, step_differs, any_differs}
use Rattle.el_mempool.proofs.Sifting.{stay, folds, all_join}
use Rattle.el_mempool.proofs.Confirmed.{hash_self, hash_same}
use Rattle.el_mempool.proofs.Named.{AreNamed, takes_named, are_named_more}
use Rattle.el_mempool.proofs.Dropping.{rest}
use Rattle.el_mempool.proofs.Picked.{KeysApart}
use Rattle.el_mempool.proofs.Changes.{seen, apart_from}
use Rattle.el_mempool.proofs.Changed.{TellsOf}
use Rattle.el_mempool.proofs.Joining.{entry_more}
use Rattle.el_mempool.proofs.Arrivals.{nothing, all_stay, fresh_from, entry_at}
use Rattle.el_mempool.proofs.Moved.{not_among, sifted_is, absent_in, move_changes}

-- ---- an entry as more are kept

abbrev pub AreFresh : Chain → List Tx → Type 0
AreFresh chain ts = AllByRecursion (λ (t : Tx). is_confirmed chain (txid t) ≡ false) ts

pub entry_grown : (chain : Chain) (xs ys : List Tx) (u : Tx) → AreFresh chain ys → AreNamed chain xs u.inputs
    → kept_tx chain (xs ++ ys) u ≡ kept_tx chain xs u
entry_grown chain xs [] u fresh h = ap (λ l. kept_tx chain l u) (append-nil xs)
entry_grown chain xs (t ∷ ts) u fresh h =
    ap (λ l. kept_tx chain l u) (sym (append_assoc xs (t ∷ []) ts))
    ∙ entry_grown chain (xs ++ t ∷ []) ts u fresh.1 (are_named_more chain xs (t ∷ []) u.inputs h)
    ∙ entry_more chain xs t u fresh.0 h

-- what may join names something with each input
pub joins_named : (chain : Chain) (kept : List Tx) (t : Tx) → may_join chain kept t ≡ true → AreNamed chain kept t.inputs
joins_named chain kept t h =
    let both = and_parts _ _ h in
    let more = and_parts _ _ both.1 in
    takes_named chain kept t.inputs more.0

-- ---- each transaction by what the whole sift keeps

-- at the script hash clients see another thing of it where these are kept
abbrev pub final_differs : Chain → List Tx → Chain → List Tx → Hash32 → Tx → Bool
final_differs before all chain final s t =
    cond (is_kept (txid t) final) (differs_at s.0 (kept_tx before all t) (kept_tx chain final t)) (is_at_script s.0 (kept_tx before all t))

-- none of these transactions is kept
abbrev pub NoneKept : List Tx → List Tx → Type 0
NoneKept kept ts = AllByRecursion (λ (t : Tx). is_kept (txid t) kept ≡ false) ts

kept_one : (id : Hash32) (kept : List Tx) (t : Tx) (more : List Tx) → txid t ≡ id → is_kept id (kept ++ t ∷ more) ≡ true
kept_one id [] t more e = let own = hash_self (txid t) id e in rw own refl
kept_one id (u ∷ us) t more e = by (same_hash (txid u) id) (kept_one id us t more e)
  where
    by : (b : Bool) → is_kept id (us ++ t ∷ more) ≡ true → (b || is_kept id (us ++ t ∷ more)) ≡ true
    by true h = refl
    by false h = h

pub none_more : (kept : List Tx) (t : Tx) (us : List Tx) → NoneKept kept us → AllByRecursion (λ (u : Tx). txid t ≡ txid u → ⊥) us
    → NoneKept (kept ++ t ∷ []) us
none_more kept t [] h apart = tt
none_more kept t (u ∷ us) h apart =
    let other : same_hash (txid t) (txid u) ≡ false = false_from_ne_true (same_hash (txid t) (txid u)) (λ e. apart.0 (hash_same (txid t) (txid u) e)) in (
      list_any-append (λ (v : Tx). same_hash (txid v) (txid u)) kept (t ∷ [])
          ∙ or_from (is_kept (txid u) kept) (is_kept (txid u) (t ∷ [])) h.0 (or_from (same_hash (txid t) (txid u)) false other refl),
      none_more kept t us h.1 apart.1,
    )

pub steps_are : (before : Chain) (all : List Tx) (chain : Chain) (kept : List Tx) (s : Hash32) (final ts : List Tx) → final ≡ kept ++ stay (may_join chain) kept ts
    → NoneKept kept ts → KeysApart txid ts → any_differs before all chain kept s ts ≡ list_any (final_differs before all chain final s) ts
steps_are before all chain kept s final [] is none apart = refl
steps_are before all chain kept s final (t ∷ ts) is none apart =
    by (may_join chain kept t) refl (λ w n. steps_are before all chain (kept ++ t ∷ []) s final ts w n apart.1) (λ w. steps_are before all chain kept s final ts w none.1 apart.1)
  where
    -- the rest, after one more or after the same
    AfterMore : Type 0
    AfterMore = final ≡ (kept ++ t ∷ []) ++ stay (may_join chain) (kept ++ t ∷ []) ts → NoneKept (kept ++ t ∷ []) ts
        → any_differs before all chain (kept ++ t ∷ []) s ts ≡ list_any (final_differs before all chain final s) ts

    AfterSame : Type 0
    AfterSame = final ≡ kept ++ stay (may_join chain) kept ts → any_differs before all chain kept s ts ≡ list_any (final_differs before all chain final s) ts

    joins : AfterMore → may_join chain kept t ≡ true → any_differs before all chain kept s (t ∷ ts) ≡ list_any (final_differs before all chain final s) (t ∷ ts)
    joins rest_is h =
        let later = stay (may_join chain) (kept ++ t ∷ []) ts in
        let whole : final ≡ kept ++ t ∷ later = is ∙ ap (λ b. kept ++ cond b (t ∷ later) (stay (may_join chain) kept ts)) h in
        let there : is_kept (txid t) final ≡ true = ap (is_kept (txid t)) whole ∙ kept_one (txid t) kept t later refl in
        let names = joins_named chain kept t h in
        let more = rest_is (whole ∙ sym (append_assoc kept (t ∷ []) later)) (none_more kept t ts none.1 apart.0) in
        let fresh_later = fresh_from chain (kept ++ t ∷ []) later (all_join (may_join chain) (kept ++ t ∷ []) ts) in
        let here : is_confirmed chain (txid t) ≡ false = (fresh_from chain kept (t ∷ []) (h, tt)).0 in
        let grown : kept_tx chain final t ≡ kept_tx chain kept t = ap (λ l. kept_tx chain l t) whole ∙ entry_grown chain kept (t ∷ later) t (here, fresh_later) names in
        let step : step_differs before all chain kept s t ≡ final_differs before all chain final s t =
        ap (λ b. cond b (differs_at s.0 (kept_tx before all t) (kept_tx chain kept t)) (is_at_script s.0 (kept_tx before all t))) h
        ∙ ap (λ k. differs_at s.0 (kept_tx before all t) k) (sym grown)
        ∙ sym (ap (λ b. cond b (differs_at s.0 (kept_tx before all t) (kept_tx chain final t)) (is_at_script s.0 (kept_tx before all t))) there) in
        ap (λ b. b || any_differs before all chain (joined chain kept t) s ts) step
        ∙ ap (λ l. final_differs before all chain final s t || any_differs before all chain l s ts) (ap (λ b. cond b (kept ++ t ∷ []) kept) h)
        ∙ ap (λ b. final_differs before all chain final s t || b) more

    goes : AfterSame → may_join chain kept t ≡ false → any_differs before all chain kept s (t ∷ ts) ≡ list_any (final_differs before all chain final s) (t ∷ ts)
    goes rest_is h =
        let whole : final ≡ kept ++ stay (may_join chain) kept ts = is ∙ ap (λ b. kept ++ cond b (t ∷ stay (may_join chain) (kept ++ t ∷ []) ts) (stay (may_join chain) kept ts)) h in
        let absent : is_kept (txid t) final ≡ false =
        ap (is_kept (txid t)) whole ∙ list_any-append (λ (v : Tx). same_hash (txid v) (txid t)) kept (stay (may_join chain) kept ts)
        ∙ or_from (is_kept (txid t) kept) (is_kept (txid t) (stay (may_join chain) kept ts)) none.0 (absent_in (txid t) (may_join chain) kept ts apart.0) in
        let more = rest_is whole in
        let step : step_differs before all chain kept s t ≡ final_differs before all chain final s t =
        ap (λ b. cond b (differs_at s.0 (kept_tx before all t) (kept_tx chain kept t)) (is_at_script s.0 (kept_tx before all t))) h
        ∙ sym (ap (λ b. cond b (differs_at s.0 (kept_tx before all t) (kept_tx chain final t)) (is_at_script s.0 (kept_tx before all t))) absent) in
        ap (λ b. b || any_differs before all chain (joined chain kept t) s ts) step
        ∙ ap (λ l. final_differs before all chain final s t || any_differs before all chain l s ts) (ap (λ b. cond b (kept ++ t ∷ []) kept) h)
        ∙ ap (λ b. final_differs before all chain final s t || b) more

    by : (b : Bool) → may_join chain kept t ≡ b → AfterMore → AfterSame → any_differs before all chain kept s (t ∷ ts) ≡ list_any (final_differs before all chain final s) (t ∷ ts)
    by true h more same = joins more h
    by false h more same = goes same h

-- ---- what is seen before and after

-- of one that is kept on or not, at a script hash of which it was before and is after or isn't, whose entries look the same or don't
abbrev pub Says : Bool → Bool → Bool → Bool → PoolEntry → PoolEntry → Type 0
Says k a b e x y =
    (cond k (cond e (just_one a b) (a || b)) a ≡ false → cond a (Some x) None ≡ cond k (cond b (Some y) None) None)
    × (cond a (Some x) None ≡ cond k (cond b (Some y) None) None → cond k (cond e (just_one a b) (a || b)) a ≡ false)

some_none : (x : PoolEntry) → Some x ≡ None → ⊥
some_none x e = cc

none_some : (x : PoolEntry) → None ≡ Some x → ⊥
none_some x e = cc

some_same : (x y : PoolEntry) → ◌≡◌ {A = Option PoolEntry} (Some x) (Some y) → x ≡ y
some_same x y e = cc

says : (k a b e : Bool) (x y : PoolEntry) → (e ≡ true → x ≡ y) → (x ≡ y → e ≡ true) → Says k a b e x y
says false true b e x y f g = ((λ h. absurd (true≢false h)), (λ h. absurd (some_none x h)))
says false false b e x y f g = ((λ h. refl), (λ h. refl))
says true true true true x y f g = ((λ h. ap Some (f refl)), (λ h. refl))
says true true true false x y f g = ((λ h. absurd (true≢false h)), (λ h. absurd (true≢false (sym (g (some_same x y h))))))
says true true false true x y f g = ((λ h. absurd (true≢false h)), (λ h. absurd (some_none x h)))
says true true false false x y f g = ((λ h. absurd (true≢false h)), (λ h. absurd (some_none x h)))
says true false true true x y f g = ((λ h. absurd (true≢false h)), (λ h. absurd (none_some y h)))
says true false true false x y f g = ((λ h. absurd (true≢false h)), (λ h. absurd (none_some y h)))
says true false false true x y f g = ((λ h. refl), (λ h. refl))
says true false false false x y f g = ((λ h. refl), (λ h. refl))

nat_same : (m n : ℕ) → nat_eq m n ≡ true → m ≡ n
nat_same m n h = grind arith

nat_self : (m n : ℕ) → m ≡ n → nat_eq m n ≡ true
nat_self m n h = grind arith

look_entry : (before chain : Chain) (all final : List Tx) (t : Tx) → look_same (kept_tx before all t) (kept_tx chain final t) ≡ true → entry before all t ≡ entry chain final t
look_entry before chain all final t h =
    let parts = and_parts (int_eq (entry before all t).flag (entry chain final t).flag) (nat_eq (entry before all t).fee (entry chain final t).fee) h in
    let flags = (signed_Decides (entry before all t).flag (entry chain final t).flag).0 parts.0 in
    let fees = nat_same (entry before all t).fee (entry chain final t).fee parts.1 in
    rw (flags, fees) refl

entry_look : (before chain : Chain) (all final : List Tx) (t : Tx) → entry before all t ≡ entry chain final t → look_same (kept_tx before all t) (kept_tx chain final t) ≡ true
entry_look before chain all final t e =
    and_from (int_eq (entry before all t).flag (entry chain final t).flag) (nat_eq (entry before all t).fee (entry chain final t).fee)
    ((signed_Decides (entry before all t).flag (entry chain final t).flag).1 (ap (λ (x : PoolEntry). x.flag) e))
    (nat_self (entry before all t).fee (entry chain final t).fee (ap (λ (x : PoolEntry). x.fee) e))

not_not : (b : Bool) → not (not b) ≡ b
not_not true = refl
not_not false = refl

seen_old : (before : Chain) (all : List Tx) (s : Hash32) (t : Tx) → seen before nothing all s.0 t ≡ cond (is_at_script s.0 (kept_tx before all t)) (Some (entry before all t)) None
seen_old before all s t =
    ap (λ l. cond (concerns_script before l s.0 t) (Some (entry before l t)) None) (all_stay all)
    ∙ ap (λ b. cond b (Some (entry before all t)) None) (sym (entry_at before all s.0 t))

seen_new : (chain : Chain) (all final : List Tx) (s : Hash32) (t : Tx) → rest (not_among final) all ≡ final
    → seen chain (not_among final) all s.0 t ≡ cond (is_kept (txid t) final) (cond (is_at_script s.0 (kept_tx chain final t)) (Some (entry chain final t)) None) None
seen_new chain all final s t is =
    ap (λ l. cond (not (not_among final (txid t))) (cond (concerns_script chain l s.0 t) (Some (entry chain l t)) None) None) is
    ∙ ap (λ b. cond b (cond (concerns_script chain final s.0 t) (Some (entry chain final t)) None) None) (not_not (is_kept (txid t) final))
    ∙ ap (λ b. cond (is_kept (txid t) final) (cond b (Some (entry chain final t)) None) None) (sym (entry_at chain final s.0 t))

tells_final : (before chain : Chain) (all final : List Tx) (s : Hash32) (t : Tx) → rest (not_among final) all ≡ final
    → TellsOf before chain nothing (not_among final) all s (final_differs before all chain final s) t
tells_final before chain all final s t is =
    let said = says (is_kept (txid t) final) (is_at_script s.0 (kept_tx before all t)) (is_at_script s.0 (kept_tx chain final t)) (look_same (kept_tx before all t) (kept_tx chain final t))
    (entry before all t) (entry chain final t) (look_entry before chain all final t) (entry_look before chain all final t) in
    let old = seen_old before all s t in
    let new = seen_new chain all final s t is in
    ((λ none. old ∙ said.0 none ∙ sym new), (λ same. said.1 (sym old ∙ same ∙ new)))

tells_each : (before chain : Chain) (all final : List Tx) (s : Hash32) (ts : List Tx) → rest (not_among final) all ≡ final
    → AllByRecursion (TellsOf before chain nothing (not_among final) all s (final_differs before all chain final s)) ts
tells_each before chain all final s [] is = tt
tells_each before chain all final s (t ∷ ts) is = (tells_final before chain all final s t is, tells_each before chain all final s ts is)

pub none_of_nothing : (ts : List Tx) → NoneKept [] ts
none_of_nothing [] = tt
none_of_nothing (t ∷ ts) = (refl, none_of_nothing ts)

-- the script hashes of which some step tells are those that change
pub sift_changes : (before chain : Chain) (entries : List KeptTx) (kept : List Tx) (scripts : List Hash32) → KeptStandFor entries before kept → AllDiffer scripts
    → ((s : Hash32) → list_any (same_hash s) scripts ≡ any_differs before kept chain [] s kept) → AreChanged before kept chain (sift chain kept) scripts
sift_changes before chain entries kept scripts h once are =
    let whole = folds (may_join chain) [] kept in
    move_changes before chain entries kept (final_differs before kept chain (sift chain kept)) scripts h
    (λ s. tells_each before chain kept (sift chain kept) s kept (sym (sifted_is chain kept h.once))) once
    (λ s. are s ∙ steps_are before kept chain [] s (sift chain kept) kept whole (none_of_nothing kept) (apart_from kept h.once))
