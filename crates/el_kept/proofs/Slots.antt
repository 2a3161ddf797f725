-- An entry more in the slots of a table, and in the index of takers.
use Rattle.std.proofs.Common.{◌≡◌, ◌⊎◌, inl, inr, ℕ, ◌+◌, ◌*◌, ◌<◌, ◌≤◌, true, false, Bool, cond, ◌||◌, List, [], ◌∷◌, ◌++◌, length, take, get_or, Option, None, Some, Result, Ok, Err, Bor, refl, ap, sym, ◌∙◌, arith, length-append}
use Rattle.std.proofs.lemmas.Bool.{or_cases, or_parts, true≢false}
use Rattle.std.proofs.lemmas.List.Folds.{find-append, list_any_more}
use Rattle.std.proofs.lemmas.List.Sums.{sum_by-cons}
use Rattle.std.specs.List.{AllByRecursion, list_any, find, sum_by}
use Rattle.std.specs.Prelude.{option_map, option_copied, IfSome}
use Rattle.std.specs.Result.{OnOk, OnErr}
use Rattle.std.specs.Option.{option_or, option_flatten, is_some}
use Rattle.std.specs.Map.{lookup}
use Rattle.indexmap.specs.IndexMap.{IndexMap, get, insert_entry, IsUnique}
use Rattle.indexmap.proofs.CallerLemmas.{insert_entry-new}
use Rattle.el_base.proofs.Lists.{all_more, all_weaker}
use Rattle.el_base.specs.declared.hash.Hash32.{Hash32}
use Rattle.el_tx.specs.declared.types.Outpoint.{Outpoint}
use Rattle.el_tx.specs.Hashing.{same_outpoint}
use Rattle.el_chain.specs.Headers.{same_hash}
use Rattle.el_chain.proofs.CoinLists.{same_gives, outpoints_equal}
use Rattle.el_mempool.specs.declared.held.Source.{Source}
use Rattle.el_mempool.specs.declared.held.KeptTx.{KeptTx}
use Rattle.el_kept.specs.declared.table.Table.{Table}
use Rattle.el_kept.specs.Tables.{undropped, StandUnderTxids, by_txid, takes_from, is_source_of, HasEntries, HaveSameEntries}
use Rattle.el_kept.proofs.Entries.{found_standing}
use Rattle.el_kept.proofs.Entries.{copied_some}

abbrev pub Slot : Type 0
Slot = Hash32 × Option KeptTx

standing_last : (es : List Slot) (k : Hash32) (e : KeptTx) → undropped (es ++ (k, Some e) ∷ []) ≡ undropped es ++ e ∷ []
standing_last [] k e = refl
standing_last ((q, None) ∷ es) k e = standing_last es k e
standing_last ((q, Some d) ∷ es) k e = ap (λ l. d ∷ l) (standing_last es k e)

-- nobody takes what the entry takes
none_before : (o : Outpoint) (taker : Outpoint → Option Hash32) (ss : List Source) → AllByRecursion (λ (s : Source). taker s.from ≡ None) ss → list_any (is_source_of o) ss ≡ true → taker o ≡ None
none_before o taker [] all h = absurd (true≢false (sym h))
none_before o taker (s ∷ ss) all h = by (or_cases (same_outpoint o s.from) (list_any (is_source_of o) ss) h) (none_before o taker ss all.1)
  where
    by : (same_outpoint o s.from ≡ true) ⊎ (list_any (is_source_of o) ss ≡ true) → (list_any (is_source_of o) ss ≡ true → taker o ≡ None) → taker o ≡ None
    by (inl here) more = ap taker (same_gives o s.from here) ∙ all.0
    by (inr later) more = more later

takers_more : (o : Outpoint) (old new : Option Hash32) (taker : Outpoint → Option Hash32) (ks : List KeptTx) (e : KeptTx) → old ≡ taker o → taker o ≡ option_map (λ k. k.txid) (find (takes_from o) ks)
    → AllByRecursion (λ (s : Source). taker s.from ≡ None) e.inputs → new ≡ cond (list_any (is_source_of o) e.inputs) (Some e.txid) old → new ≡ option_map (λ k. k.txid) (find (takes_from o) (ks ++ e ∷ []))
takers_more o old new taker ks e is before free after =
    after ∙ by (list_any (is_source_of o) e.inputs) refl (find (takes_from o) ks) refl ∙ sym (ap (option_map (λ (k : KeptTx). k.txid)) (find-append (takes_from o) ks (e ∷ [])))
  where
    bad : (x : KeptTx) → option_map (λ (k : KeptTx). k.txid) (Some x) ≡ None → ⊥
    bad x h = cc

    by : (b : Bool) → list_any (is_source_of o) e.inputs ≡ b → (x : Option KeptTx) → find (takes_from o) ks ≡ x
        → cond b (Some e.txid) old ≡ option_map (λ (k : KeptTx). k.txid) (option_or x (cond b (Some e) None))
    by true takes None h = refl
    by true takes (Some d) h = absurd (bad d (ap (option_map (λ (k : KeptTx). k.txid)) (sym h) ∙ sym before ∙ none_before o taker e.inputs free takes))
    by false takes None h = is ∙ before ∙ ap (option_map (λ (k : KeptTx). k.txid)) h
    by false takes (Some d) h = is ∙ before ∙ ap (option_map (λ (k : KeptTx). k.txid)) h

alone_more : (o : Outpoint) (new : Option Hash32) (taker : Outpoint → Option Hash32) (ks : List KeptTx) (e : KeptTx) → AllByRecursion (λ (s : Source). taker s.from ≡ None) e.inputs
    → new ≡ cond (list_any (is_source_of o) e.inputs) (Some e.txid) (taker o) → AllByRecursion (λ (k : KeptTx). takes_from o k ≡ true → taker o ≡ Some k.txid) ks
    → AllByRecursion (λ (k : KeptTx). takes_from o k ≡ true → new ≡ Some k.txid) (ks ++ e ∷ [])
alone_more o new taker ks e free is all =
    all_more (λ (k : KeptTx). takes_from o k ≡ true → new ≡ Some k.txid) ks e
    (all_weaker (λ (k : KeptTx). takes_from o k ≡ true → taker o ≡ Some k.txid) (λ (k : KeptTx). takes_from o k ≡ true → new ≡ Some k.txid) ks
    (λ k h takes. by k (list_any (is_source_of o) e.inputs) refl (h takes)) all)
    (λ takes. is ∙ ap (λ b. cond b (Some e.txid) (taker o)) takes)
  where
    bad : (x : Hash32) → Some x ≡ None → ⊥
    bad x h = cc

    by : (k : KeptTx) (b : Bool) → list_any (is_source_of o) e.inputs ≡ b → taker o ≡ Some k.txid → new ≡ Some k.txid
    by k true takes was = absurd (bad k.txid (sym was ∙ none_before o taker e.inputs free takes))
    by k false takes was = is ∙ ap (λ b. cond b (Some e.txid) (taker o)) takes ∙ was

sum_last : (ks : List KeptTx) (e : KeptTx) → sum_by (λ (k : KeptTx). length k.bytes) (ks ++ e ∷ []) ≡ sum_by (λ (k : KeptTx). length k.bytes) ks + length e.bytes
sum_last [] e = sum_by-cons (λ (k : KeptTx). length k.bytes) e [] ∙ omega arith
sum_last (k ∷ ks) e =
    let first = sum_by-cons (λ (x : KeptTx). length x.bytes) k (ks ++ e ∷ []) in
    let second = sum_by-cons (λ (x : KeptTx). length x.bytes) k ks in
    let more = sum_last ks e in
    omega (arith, first, second, more)

-- the table after the entry was put
pub put_is : {S : Type 0} (old new : Table) (mid : IndexMap Hash32 (Option KeptTx) S) (e : KeptTx) → HasEntries old (undropped old.kept.entries)
    → AllByRecursion (λ (s : Source). get same_outpoint old.spenders s.from ≡ None) e.inputs
    → undropped mid.entries ≡ undropped old.kept.entries → StandUnderTxids mid.entries → lookup (same_hash e.txid) mid.entries ≡ None → new.kept.entries ≡ insert_entry same_hash mid.entries e.txid (Some e) → IsUnique same_hash new.kept
    → ((o : Outpoint) → get same_outpoint new.spenders o ≡ cond (list_any (is_source_of o) e.inputs) (Some e.txid) (get same_outpoint old.spenders o))
    → new.count ≡ old.count + 1 → new.bytes ≡ old.bytes + length e.bytes → HasEntries new (undropped old.kept.entries ++ e ∷ [])
put_is old new mid e t free before right absent put once takers count bytes =
    let last : new.kept.entries ≡ mid.entries ++ (e.txid, Some e) ∷ [] = put ∙ insert_entry-new same_hash mid e.txid (Some e) absent in
    record {
      are = ap undropped last ∙ standing_last mid.entries e.txid e ∙ ap (λ l. l ++ e ∷ []) before;
      right = rw last (all_more (λ (x : Slot). IfSome x.1 (λ k. k.txid ≡ x.0)) mid.entries (e.txid, Some e) right refl);
      once = once;
      takers = λ o. takers_more o (get same_outpoint old.spenders o) (get same_outpoint new.spenders o) (get same_outpoint old.spenders) (undropped old.kept.entries) e refl (t.takers o) free (takers o);
      alone = λ o. alone_more o (get same_outpoint new.spenders o) (get same_outpoint old.spenders) (undropped old.kept.entries) e free (takers o) (t.alone o);
      count = let n = t.count in omega (arith, count, n, length-append (undropped old.kept.entries) (e ∷ []));
      bytes = bytes ∙ ap (λ n. n + length e.bytes) t.bytes ∙ sym (sum_last (undropped old.kept.entries) e);
    }

-- one slot more for one kept one more
pub few_more : {S : Type 0} (mid : IndexMap Hash32 (Option KeptTx) S) (new : List Slot) (e : KeptTx)
    (before count next : ℕ) → length mid.entries ≤ before → lookup (same_hash e.txid) mid.entries ≡ None
    → new ≡ insert_entry same_hash mid.entries e.txid (Some e) → next ≡ count + 1 → before ≤ count * 2 + 1
    → length new ≤ next * 2 + 1
few_more mid new e before count next cut absent put more few =
    let last = ap length (put ∙ insert_entry-new same_hash mid e.txid (Some e) absent) in
    let both = length-append mid.entries ((e.txid, Some e) ∷ []) in
    omega (arith, cut, last, both, more, few)

-- ---- what is asked before

pub outpoint_turned : (a b : Outpoint) → same_outpoint a b ≡ same_outpoint b a
outpoint_turned a b = outpoints_equal.symm a b

-- one input more has its taker
pub takers_step : (o : Outpoint) (xs : List Source) (i : ℕ) (d : Source) (now old first : Option Hash32) (id : Hash32) → i < length xs → now ≡ cond (same_outpoint (get_or xs i d).from o) (Some id) old
    → old ≡ cond (list_any (is_source_of o) (take i xs)) (Some id) first → now ≡ cond (list_any (is_source_of o) (take (i + 1) xs)) (Some id) first
takers_step o xs i d now old first id lt is before =
    let more = list_any_more (is_source_of o) xs i d lt in
    is ∙ ap (λ b. cond b (Some id) old) (outpoint_turned (get_or xs i d).from o) ∙ ap (cond (same_outpoint o (get_or xs i d).from) (Some id)) before
    ∙ by (same_outpoint o (get_or xs i d).from) (list_any (is_source_of o) (take i xs)) ∙ ap (λ b. cond b (Some id) first) (sym more)
  where
    by : (a b : Bool) → cond a (Some id) (cond b (Some id) first) ≡ cond (b || a) (Some id) first
    by true true = refl
    by true false = refl
    by false true = refl
    by false false = refl

pub slot_is : (t : Table) (id : Hash32) (x : Option (Bor KeptTx)) (r b : Bool) → HasEntries t (undropped t.kept.entries) → option_copied x ≡ option_flatten (get same_hash t.kept id) → r ≡ is_some x → r ≡ b
    → is_some (by_txid id (undropped t.kept.entries)) ≡ b
slot_is t id x r b h says is last = ap is_some (sym (found_standing id t.kept.entries h.right h.once)) ∙ ap is_some (sym says) ∙ copied_some x ∙ sym is ∙ last

pub not_there : (x : Option KeptTx) → is_some x ≡ false → x ≡ None
not_there None h = refl
not_there (Some k) h = absurd (true≢false h)

pub but_there : (x : Option KeptTx) → is_some x ≡ true → x ≡ None → ⊥
but_there x h none = true≢false (sym h ∙ ap is_some none)

-- takers of inputs
pub all_free : (taker : Outpoint → Option Hash32) (ss : List Source) → list_any (λ (s : Source). is_some (taker s.from)) ss ≡ false → AllByRecursion (λ (s : Source). taker s.from ≡ None) ss
all_free taker [] h = tt
all_free taker (s ∷ ss) h = let parts = or_parts (is_some (taker s.from)) (list_any (λ (x : Source). is_some (taker x.from)) ss) h in (by (taker s.from) parts.0, all_free taker ss parts.1)
  where
    by : (x : Option Hash32) → is_some x ≡ false → x ≡ None
    by None e = refl
    by (Some y) e = absurd (true≢false e)

pub none_free : (taker : Outpoint → Option Hash32) (ss : List Source) → AllByRecursion (λ (s : Source). taker s.from ≡ None) ss → list_any (λ (s : Source). is_some (taker s.from)) ss ≡ false
none_free taker [] h = refl
none_free taker (s ∷ ss) h = let here = h.0 in rw here (none_free taker ss h.1)

-- a table with the same entries and takers
pub same_table : (t u : Table) (ks : List KeptTx) → HaveSameEntries t u → HasEntries t ks → HasEntries u ks
same_table t u ks same h = record {
  are = ap undropped same.kept ∙ h.are;
  right = let is = same.kept in rw is h.right;
  once = same.kept_once h.once;
  takers = λ o. ap (lookup (same_outpoint o)) same.spenders ∙ h.takers o;
  alone = λ o. let is = ap (lookup (same_outpoint o)) same.spenders in all_weaker (λ (k : KeptTx). takes_from o k ≡ true → get same_outpoint t.spenders o ≡ Some k.txid)
      (λ (k : KeptTx). takes_from o k ≡ true → get same_outpoint u.spenders o ≡ Some k.txid) ks (λ k own takes. is ∙ own takes) (h.alone o);
  count = same.count ∙ h.count;
  bytes = same.bytes ∙ h.bytes;
}

pub own_table : (t : Table) (ks : List KeptTx) → HasEntries t ks → HasEntries t (undropped t.kept.entries)
own_table t ks h = let is = h.are in rw is h

pub still_free : (t u : Table) (ss : List Source) → HaveSameEntries t u → AllByRecursion (λ (s : Source). get same_outpoint t.spenders s.from ≡ None) ss
    → AllByRecursion (λ (s : Source). get same_outpoint u.spenders s.from ≡ None) ss
still_free t u ss same free =
    all_weaker (λ (s : Source). get same_outpoint t.spenders s.from ≡ None) (λ (s : Source). get same_outpoint u.spenders s.from ≡ None) ss
    (λ s none. ap (lookup (same_outpoint s.from)) same.spenders ∙ none) free

pub after_put : {A E : Type 0} (r : Result A E) (t u : Table) (ks : List KeptTx) → HasEntries t (undropped t.kept.entries) → OnOk r (HasEntries u ks) → OnErr r (HaveSameEntries t u) → HasEntries u (undropped u.kept.entries)
after_put (Ok x) t u ks h put same = own_table u ks put
after_put (Err e) t u ks h put same = own_table u (undropped t.kept.entries) (same_table t u (undropped t.kept.entries) same h)
