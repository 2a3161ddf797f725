-- The kept transactions are sifted over another chain one after the other: which go, and what the others then take.
use Rattle.std.proofs.Common.{◌≡◌, ◌⊎◌, inl, inr, ℕ, ℤ, ◌-◌, true, false, Bool, cond, not, ◌&&◌, ◌||◌, List, [], ◌∷◌, ◌++◌, append_assoc, append-nil, Option, None, Some, Result, Err, refl, ap, ap₂, sym, subst, ◌∙◌}
use Rattle.std.proofs.lemmas.Bool.{and_parts, and_from, or_parts, or_cases, or_left, or_right, not-true, not_from_false, true≢false, false_from_ne_true}
use Rattle.std.proofs.lemmas.List.{map-append}
use Rattle.std.proofs.lemmas.List.Elements.{filter-append}
use Rattle.std.proofs.lemmas.List.Folds.{list_any-append}
use Rattle.std.specs.List.{AllByRecursion, list_any, fold}
use Rattle.std.specs.Prelude.{map, option_map, option_to_list, nat_lt}
use Rattle.std.specs.Option.{option_or, is_some}
use Rattle.el_base.proofs.Lists.{all_weaker, all_more}
use Rattle.el_outside.specs.Counts.{CountsOnly, risen}
use Rattle.el_model.specs.declared.fault.QueryFault.{QueryFault}
use Rattle.el_base.specs.declared.hash.Hash32.{Hash32}
use Rattle.el_tx.specs.declared.types.Outpoint.{Outpoint}
use Rattle.el_tx.specs.declared.types.TxIn.{TxIn}
use Rattle.el_tx.specs.declared.types.Tx.{Tx}
use Rattle.el_tx.specs.Encoding.{total_value}
use Rattle.el_tx.specs.Hashing.{txid, same_outpoint}
use Rattle.el_block.specs.Blocks.{AllDiffer}
use Rattle.el_chain.specs.Chains.{Chain}
use Rattle.el_chain.specs.Headers.{same_hash}
use Rattle.el_chain.proofs.CoinLists.{same_from}
use Rattle.el_mempool.specs.declared.held.Held.{Held}
use Rattle.el_mempool.specs.declared.held.Source.{Source}
use Rattle.el_mempool.specs.declared.held.KeptTx.{KeptTx}
use Rattle.el_mempool.specs.Sift.{coin_named, output_among, named, output_held, total_held, any_takes, is_taken, each_takes, held_by, is_confirmed, may_join, joined, sift}
use Rattle.el_mempool.specs.Refusals.{is_kept}
use Rattle.el_mempool.specs.Standing.{source_at, sources, kept_tx, is_at_script, KeptStandFor, AreChanged}
use Rattle.el_mempool.specs.Unconfirmed.{flag}
use Rattle.el_mempool.specs.Moving.{differs_at, step_differs, any_differs}
use Rattle.el_mempool.specs.declared.fees.FeeChange.{FeeChange}
use Rattle.el_mempool.specs.Fees.{fee_change, stay_changes, fee_changes}
use Rattle.el_mempool.proofs.FeeChanges.{Matched, matched_went, matched_stays}
use Rattle.el_mempool.proofs.Sifting.{AllJoin, joins_of}
use Rattle.el_mempool.proofs.Confirmed.{hash_self, hash_same, hash_turned}
use Rattle.el_mempool.proofs.Named.{AreNamed, among_append, are_named_more, held_more}
use Rattle.el_mempool.proofs.Dropping.{rest, among_rest, none_among, taken_rest}
use Rattle.el_mempool.proofs.Picked.{KeysApart}
use Rattle.el_mempool.proofs.Changes.{apart_from}
use Rattle.el_mempool.proofs.Joining.{free_joins, stands_with}
use Rattle.el_mempool.proofs.Arrivals.{fresh_from}
use Rattle.el_mempool.proofs.Sifted.{AreFresh, NoneKept, none_more, none_of_nothing, joins_named, sift_changes}
use Rattle.el_kept.specs.declared.retaking.Takes.{Takes}
use Rattle.el_kept.specs.Tables.{undropped, has, without_txids, with_takes, same_froms, retaken}
use Rattle.el_kept.proofs.Slots.{Slot}
use Rattle.el_kept.proofs.Retaken.{off_one, told_one, id_same}
use Rattle.el_kept.specs.Named.{total_sources, AreUnspent}
use Rattle.el_sift.specs.within.Renewal.{each_free, IsLeft, SiftsNext, IsKeptOn, IsSifted, takes_of, settled}
use Rattle.el_kept.proofs.Lookups.{kept_unspent, unspent_of, fee_is}

-- ---- one of them

pub same_kept : {a b : Hash32} {f g : ℤ} {m n v w : ℕ} {x y : List ℕ} {i j : List Source} {o p : List Held} → a ≡ b → f ≡ g → m ≡ n → v ≡ w → x ≡ y → i ≡ j → o ≡ p
    → ◌≡◌ {A = KeptTx} (record { txid = a; flag = f; fee = m; vsize = v; bytes = x; inputs = i; outputs = o }) (record { txid = b; flag = g; fee = n; vsize = w; bytes = y; inputs = j; outputs = p })
same_kept e1 e2 e3 e4 e5 e6 e7 = rw (e1, e2, e3, e4, e5, e6, e7) refl

-- the entry with what it takes now
next_is : (before chain : Chain) (all kept : List Tx) (t : Tx) (k : KeptTx) (f : ℤ) (found : List Source) → k ≡ kept_tx before all t
    → f ≡ flag kept t → found ≡ sources chain kept t.inputs → with_takes k f (total_sources found - total_held k.outputs) found ≡ kept_tx chain kept t
next_is before chain all kept t k f found is flags are =
    let outs : k.outputs ≡ map output_held t.outputs = ap (λ (x : KeptTx). x.outputs) is in
    same_kept (ap (λ (x : KeptTx). x.txid) is) flags (fee_is chain kept t found k.outputs are outs) (ap (λ (x : KeptTx). x.vsize) is)
    (ap (λ (x : KeptTx). x.bytes) is) are outs

-- both take by the transaction's own outpoints
pub froms_same : (before chain : Chain) (all kept : List Tx) (is : List TxIn) → AreNamed before all is → AreNamed chain kept is
    → same_froms (sources before all is) (sources chain kept is) ≡ true
froms_same before chain all kept [] h g = refl
froms_same before chain all kept (i ∷ is) h g =
    by (named before all i.from) (named chain kept i.from) h.0 g.0 (same_from i.from i.from refl) (froms_same before chain all kept is h.1 g.1)
  where
    by : (x y : Option Held) → is_some x ≡ true → is_some y ≡ true → same_outpoint i.from i.from ≡ true → same_froms (sources before all is) (sources chain kept is) ≡ true
        → same_froms (option_to_list (option_map (source_at i) x) ++ sources before all is) (option_to_list (option_map (source_at i) y) ++ sources chain kept is) ≡ true
    by None y bad some own more = absurd (true≢false (sym bad))
    by (Some v) None one bad own more = absurd (true≢false (sym bad))
    by (Some v) (Some w) one two own more = rw (own, more) refl

-- it stays
pub stays : (before chain : Chain) (all kept : List Tx) (t : Tx) (k : KeptTx) (gone : List Hash32) (changed now : List Takes) (fees fees_now : List FeeChange) (old new : List Hash32) (f : ℤ) (found : List Source)
    → SiftsNext before all kept gone t k → (may_join chain kept t ≡ true) × (found ≡ sources chain kept t.inputs) × (f ≡ flag kept t)
    → IsKeptOn k (with_takes k f (total_sources found - total_held k.outputs) found) changed now
    → fees_now ≡ fees ++ stay_changes k (with_takes k f (total_sources found - total_held k.outputs) found)
    → ((s : Hash32) → list_any (same_hash s) new ≡ (list_any (same_hash s) old || differs_at s.0 k (with_takes k f (total_sources found - total_held k.outputs) found)))
    → IsSifted before chain all kept t gone gone changed now fees fees_now old new
stays before chain all kept t k gone changed now fees fees_now old new f found e may keeps fee told =
    let next = next_is before chain all kept t k f found e.is may.2 may.1 in
    let on : IsKeptOn (kept_tx before all t) (with_takes k f (total_sources found - total_held k.outputs) found) changed now =
    subst (λ (x : KeptTx). IsKeptOn x (with_takes k f (total_sources found - total_held k.outputs) found) changed now) e.is keeps in
    record {
      went = λ off. absurd (true≢false (sym may.0 ∙ off));
      stayed = λ _. (
        refl,
        subst (λ (x : KeptTx). IsKeptOn (kept_tx before all t) x changed now) next on,
        froms_same before chain all kept t.inputs e.named (joins_named chain kept t may.0),
        fee ∙ ap₂ (λ (x y : KeptTx). fees ++ stay_changes x y) e.is next,
      );
      touched = λ s. told s ∙ ap (λ (x : KeptTx). list_any (same_hash s) old || differs_at s.0 k x) next
          ∙ ap (λ (x : KeptTx). list_any (same_hash s) old || differs_at s.0 x (kept_tx chain kept t)) e.is
          ∙ ap (λ b. list_any (same_hash s) old || b) (sym (ap (λ b. cond b (differs_at s.0 (kept_tx before all t) (kept_tx chain kept t)) (is_at_script s.0 (kept_tx before all t))) may.0));
    }

-- it goes
pub goes : (before chain : Chain) (all kept : List Tx) (t : Tx) (k : KeptTx) (gone gone_now : List Hash32) (changed : List Takes) (fees fees_now : List FeeChange) (old new : List Hash32) → SiftsNext before all kept gone t k
    → may_join chain kept t ≡ false → ((id : Hash32) → has gone_now id ≡ (has gone id || same_hash id k.txid))
    → fees_now ≡ fees ++ fee_change false k ∷ []
    → ((s : Hash32) → list_any (same_hash s) new ≡ (list_any (same_hash s) old || is_at_script s.0 k)) → IsSifted before chain all kept t gone gone_now changed changed fees fees_now old new
goes before chain all kept t k gone gone_now changed fees fees_now old new e off more fee told = record {
  went = λ _. (
    (λ id. more id ∙ ap (λ (x : KeptTx). has gone id || same_hash id x.txid) e.is),
    refl,
    fee ∙ ap (λ (x : KeptTx). fees ++ fee_change false x ∷ []) e.is,
  );
  stayed = λ may. absurd (true≢false (sym may ∙ off));
  touched = λ s. told s ∙ ap (λ (x : KeptTx). list_any (same_hash s) old || is_at_script s.0 x) e.is
      ∙ ap (λ b. list_any (same_hash s) old || b) (sym (ap (λ b. cond b (differs_at s.0 (kept_tx before all t) (kept_tx chain kept t)) (is_at_script s.0 (kept_tx before all t))) off));
}

-- ---- what a sift comes to

-- those after it have no output that an input names
grown : (before : Chain) (done ts : List Tx) (o : Outpoint) → AreFresh before ts → is_some (named before done o) ≡ true → output_among o (done ++ ts) ≡ output_among o done
grown before done ts o fresh there = among_append o done ts ∙ by (output_among o done) (output_among o ts) refl refl
  where
    from_coin : (y : Option Held) → is_some (option_or y None) ≡ true → is_some y ≡ true
    from_coin None bad = bad
    from_coin (Some v) some = refl

    by : (x y : Option Held) → output_among o done ≡ x → output_among o ts ≡ y → option_or x y ≡ x
    by (Some v) y e g = refl
    by None None e g = refl
    by None (Some v) e g =
        let coin = from_coin (coin_named before o) (ap (λ z. is_some (option_or (coin_named before o) z)) (sym e) ∙ there) in
        absurd (true≢false (sym coin ∙ ap is_some (kept_unspent before o v ts fresh g)))

left_at_input : (all done kept : List Tx) (gone : List Hash32) (o : Outpoint) → kept ≡ rest (has gone) done → output_among o all ≡ output_among o done → IsLeft all kept gone o
left_at_input all done kept gone o is same = record {
  stays = λ e. same ∙ sym (ap (output_among o) is ∙ among_rest (has gone) o done e);
  goes = λ e. ap (output_among o) is ∙ none_among (has gone) o done e;
  none = λ e. ap (output_among o) is ∙ by (has gone o.txid) refl (sym same ∙ e);
}
  where
    by : (b : Bool) → has gone o.txid ≡ b → output_among o done ≡ None → output_among o (rest (has gone) done) ≡ None
    by true g e = none_among (has gone) o done g
    by false g e = among_rest (has gone) o done g ∙ e

left_inputs : (before : Chain) (all done kept rs : List Tx) (gone : List Hash32) (is : List TxIn) → all ≡ done ++ rs → kept ≡ rest (has gone) done → AreFresh before rs → AreNamed before done is
    → AllByRecursion (λ (i : TxIn). IsLeft all kept gone i.from) is
left_inputs before all done kept rs gone [] whole is fresh h = tt
left_inputs before all done kept rs gone (i ∷ is) whole same fresh h = (
  left_at_input all done kept gone i.from same (ap (output_among i.from) whole ∙ grown before done rs i.from fresh h.0),
  left_inputs before all done kept rs gone is whole same fresh h.1,
)

free_left : (before : Chain) (gone : Hash32 → Bool) (done : List Tx) (is : List TxIn) → each_takes before done is ≡ true → each_free (rest gone done) is ≡ true
free_left before gone done [] h = refl
free_left before gone done (i ∷ is) h =
    let both = and_parts (is_some (named before done i.from) && not (is_taken i.from done)) (not (any_takes i.from is) && each_takes before done is) h in
    let first = and_parts (is_some (named before done i.from)) (not (is_taken i.from done)) both.0 in
    let others = and_parts (not (any_takes i.from is)) (each_takes before done is) both.1 in
    and_from (not (is_taken i.from (rest gone done))) (not (any_takes i.from is) && each_free (rest gone done) is)
    (not_from_false (is_taken i.from (rest gone done)) (taken_rest gone i.from done (not-true (is_taken i.from done) first.1)))
    (and_from (not (any_takes i.from is)) (each_free (rest gone done) is) others.0 (free_left before gone done is others.1))

-- ---- what is told of entries

pub settled_id : (cs : List Takes) (k : KeptTx) → (settled cs k).txid ≡ k.txid
settled_id [] k = refl
settled_id (c ∷ cs) k = settled_id cs (retaken c k) ∙ id_same c k

settled_more : (cs : List Takes) (c : Takes) (k : KeptTx) → settled (cs ++ c ∷ []) k ≡ retaken c (settled cs k)
settled_more [] c k = refl
settled_more (d ∷ ds) c k = settled_more ds c (retaken d k)

off_txid : (c : Takes) (k : KeptTx) → same_hash c.txid k.txid ≡ false → retaken c k ≡ k
off_txid c k off = off_one c k (λ e. absurd (true≢false (sym e ∙ off)))

-- nothing is told of it
settled_off : (cs : List Takes) (k : KeptTx) → AllByRecursion (λ (c : Takes). same_hash c.txid k.txid ≡ false) cs → settled cs k ≡ k
settled_off [] k h = refl
settled_off (c ∷ cs) k h = ap (settled cs) (off_txid c k h.0) ∙ settled_off cs k h.1

-- what is told of those before isn't told of it
told_before : (cs : List Takes) (done : List Tx) (id : Hash32) → AllByRecursion (λ (c : Takes). is_kept c.txid done ≡ true) cs → is_kept id done ≡ false
    → AllByRecursion (λ (c : Takes). same_hash c.txid id ≡ false) cs
told_before [] done id h off = tt
told_before (c ∷ cs) done id h off = (
  false_from_ne_true (same_hash c.txid id) (λ e. true≢false (sym h.0 ∙ ap (λ x. is_kept x done) (hash_same c.txid id e) ∙ off)),
  told_before cs done id h.1 off,
)

-- what is told of it isn't told of those before
told_after : (before : Chain) (all : List Tx) (cs : List Takes) (c : Takes) (us : List Tx) → is_kept c.txid us ≡ false
    → map (settled (cs ++ c ∷ [])) (map (kept_tx before all) us) ≡ map (settled cs) (map (kept_tx before all) us)
told_after before all cs c [] off = refl
told_after before all cs c (u ∷ us) off =
    let parts = or_parts (same_hash (txid u) c.txid) (is_kept c.txid us) off in
    let other : same_hash c.txid (settled cs (kept_tx before all u)).txid ≡ false =
    ap (same_hash c.txid) (settled_id cs (kept_tx before all u)) ∙ hash_turned c.txid (txid u) ∙ parts.0 in
    ap (λ x. x ∷ map (settled (cs ++ c ∷ [])) (map (kept_tx before all) us)) (settled_more cs c (kept_tx before all u) ∙ off_txid c (settled cs (kept_tx before all u)) other)
    ∙ ap (λ l. settled cs (kept_tx before all u) ∷ l) (told_after before all cs c us parts.1)

-- the entries so far with one more
abbrev pub so_far : Chain → List Tx → List Takes → List Tx → List KeptTx
so_far before all cs kept = map (settled cs) (map (kept_tx before all) kept)

one_so_far : (before : Chain) (all : List Tx) (cs : List Takes) (kept : List Tx) (t : Tx) → so_far before all cs (kept ++ t ∷ []) ≡ so_far before all cs kept ++ settled cs (kept_tx before all t) ∷ []
one_so_far before all cs kept t =
    ap (map (settled cs)) (map-append (kept_tx before all) kept (t ∷ [])) ∙ map-append (settled cs) (map (kept_tx before all) kept) (kept_tx before all t ∷ [])

kept_on : (before chain : Chain) (all kept : List Tx) (t : Tx) (changed now : List Takes) → AllByRecursion (λ (c : Takes). same_hash c.txid (txid t) ≡ false) changed → is_kept (txid t) kept ≡ false
    → same_froms (kept_tx before all t).inputs (kept_tx chain kept t).inputs ≡ true → IsKeptOn (kept_tx before all t) (kept_tx chain kept t) changed now
    → so_far before all now (kept ++ t ∷ []) ≡ so_far before all changed kept ++ kept_tx chain kept t ∷ []
kept_on before chain all kept t changed now off new froms (inl same) =
    ap (λ cs. so_far before all cs (kept ++ t ∷ [])) same.1 ∙ one_so_far before all changed kept t
    ∙ ap (λ x. so_far before all changed kept ++ x ∷ []) (settled_off changed (kept_tx before all t) off ∙ sym same.0)
kept_on before chain all kept t changed now off new froms (inr more) =
    let c = takes_of (kept_tx chain kept t) in
    let own : same_hash c.txid (txid t) ≡ true = hash_self (txid t) (txid t) refl in
    ap (λ cs. so_far before all cs (kept ++ t ∷ [])) more ∙ one_so_far before all (changed ++ c ∷ []) kept t
    ∙ ap (λ l. l ++ settled (changed ++ c ∷ []) (kept_tx before all t) ∷ []) (told_after before all changed c kept new)
    ∙ ap (λ x. so_far before all changed kept ++ x ∷ [])
    (settled_more changed c (kept_tx before all t) ∙ ap (retaken c) (settled_off changed (kept_tx before all t) off) ∙ told_one c (kept_tx before all t) own froms)

-- ---- all of them

-- Of all transactions some are done and some are left, to which the sift over the chain comes after those that it
-- kept.
pub record AreLeft (before chain : Chain) (all : List Tx) (gone : List Hash32) (changed : List Takes) (fees : List FeeChange) (touched : List Hash32) (entries : List KeptTx) : Type 0 where
  pub done : List Tx
  pub kept : List Tx
  pub rs : List Tx
  pub whole : all ≡ done ++ rs
  pub kept_are : kept ≡ rest (has gone) done
  pub are : entries ≡ map (kept_tx before all) rs
  pub joins : AllJoin (may_join before) done rs
  pub stands : KeptStandFor (so_far before all changed kept) chain kept
  pub fees_are : fees ≡ fee_changes (map (kept_tx before all) done) (so_far before all changed kept)
  pub matched : Matched (map (kept_tx before all) done) (so_far before all changed kept)
  pub sifted : fold (joined chain) kept rs ≡ sift chain all
  pub told_of : AllByRecursion (λ (c : Takes). is_kept c.txid done ≡ true) changed
  pub gone_of : (x : Hash32) → has gone x ≡ true → is_kept x done ≡ true
  pub new : NoneKept done rs
  pub apart : KeysApart txid rs
  pub told : (s : Hash32) → (list_any (same_hash s) touched || any_differs before all chain kept s rs) ≡ any_differs before all chain [] s all

pub all_left : (before chain : Chain) (all : List Tx) (entries : List KeptTx) → KeptStandFor entries before all → AreLeft before chain all [] [] [] [] entries
all_left before chain all entries h = record {
  done = [];
  kept = [];
  rs = all;
  whole = refl;
  kept_are = refl;
  are = h.are;
  joins = joins_of (may_join before) all h.sifted;
  stands = record { sifted = refl; are = refl; once = tt };
  fees_are = refl;
  matched = tt;
  sifted = refl;
  told_of = tt;
  gone_of = λ x e. absurd (true≢false (sym e));
  new = none_of_nothing all;
  apart = apart_from all h.once;
  told = λ s. refl;
}

or_moved : (a b c : Bool) → ((a || b) || c) ≡ (a || (b || c))
or_moved true b c = refl
or_moved false b c = refl

kept_more : (id : Hash32) (ts us : List Tx) → is_kept id ts ≡ true → is_kept id (ts ++ us) ≡ true
kept_more id ts us h = list_any-append (λ (v : Tx). same_hash (txid v) id) ts us ∙ or_left (is_kept id ts) (is_kept id us) h

kept_last : (id : Hash32) (ts : List Tx) (t : Tx) → same_hash (txid t) id ≡ true → is_kept id (ts ++ t ∷ []) ≡ true
kept_last id ts t h = list_any-append (λ (v : Tx). same_hash (txid v) id) ts (t ∷ []) ∙ or_right (is_kept id ts) (same_hash (txid t) id || false) (or_left (same_hash (txid t) id) false h)

-- one that isn't there isn't kept of these either
not_left : (gone : Hash32 → Bool) (id : Hash32) (ts : List Tx) → is_kept id ts ≡ false → is_kept id (rest gone ts) ≡ false
not_left gone id [] h = refl
not_left gone id (t ∷ ts) h =
    let parts = or_parts (same_hash (txid t) id) (is_kept id ts) h in
    by (gone (txid t)) parts.0 (not_left gone id ts parts.1)
  where
    by : (b : Bool) → same_hash (txid t) id ≡ false → is_kept id (rest gone ts) ≡ false → is_kept id (cond (not b) (t ∷ rest gone ts) (rest gone ts)) ≡ false
    by true off more = more
    by false off more = rw off more

rest_same : (g h : Hash32 → Bool) (id : Hash32) (ts : List Tx) → ((x : Hash32) → h x ≡ (g x || same_hash x id)) → is_kept id ts ≡ false → rest h ts ≡ rest g ts
rest_same g h id [] is off = refl
rest_same g h id (t ∷ ts) is off =
    let parts = or_parts (same_hash (txid t) id) (is_kept id ts) off in
    ap (λ b. cond (not b) (t ∷ rest h ts) (rest h ts)) (is (txid t) ∙ ap (λ b. g (txid t) || b) parts.0 ∙ or_none (g (txid t)))
    ∙ ap (λ l. cond (not (g (txid t))) (t ∷ l) l) (rest_same g h id ts is parts.1)
  where
    or_none : (b : Bool) → (b || false) ≡ b
    or_none true = refl
    or_none false = refl

rest_with : (g : Hash32 → Bool) (ts : List Tx) (t : Tx) → g (txid t) ≡ false → rest g (ts ++ t ∷ []) ≡ rest g ts ++ t ∷ []
rest_with g ts t h = filter-append (λ (u : Tx). not (g (txid u))) ts (t ∷ []) ∙ rw h refl

rest_but : (g : Hash32 → Bool) (ts : List Tx) (t : Tx) → g (txid t) ≡ true → rest g (ts ++ t ∷ []) ≡ rest g ts
rest_but g ts t h = filter-append (λ (u : Tx). not (g (txid u))) ts (t ∷ []) ∙ rw h (append-nil (rest g ts))

abbrev pub StepsOf : Chain → Chain → List Tx → List Hash32 → List Hash32 → List Takes → List Takes → List FeeChange → List FeeChange → List Hash32 → List Hash32 → KeptTx → Type 0
StepsOf before chain all gone gone_now changed now fees fees_now touched touched_now k =
    (kept : List Tx) (t : Tx) → SiftsNext before all kept gone t k → AreUnspent chain kept → IsSifted before chain all kept t gone gone_now changed now fees fees_now touched touched_now

-- none of those done has its txid
apart_done : (before : Chain) (all : List Tx) (id : Hash32) (ts : List Tx) → is_kept id ts ≡ false
    → AllByRecursion (λ (a : KeptTx). same_hash a.txid id ≡ false) (map (kept_tx before all) ts)
apart_done before all id [] h = tt
apart_done before all id (t ∷ ts) h =
    let parts = or_parts (same_hash (txid t) id) (is_kept id ts) h in (parts.0, apart_done before all id ts parts.1)

pub one_left : (before chain : Chain) (all : List Tx) (gone gone_now : List Hash32) (changed now : List Takes) (fees fees_now : List FeeChange) (touched touched_now : List Hash32) (k : KeptTx) (ks : List KeptTx)
    → AreLeft before chain all gone changed fees touched (k ∷ ks) → StepsOf before chain all gone gone_now changed now fees fees_now touched touched_now k → AreLeft before chain all gone_now now fees_now touched_now ks
one_left before chain all gone gone_now changed now fees fees_now touched touched_now k ks h step = from_rest h.rs h.whole h.are h.joins h.sifted h.new h.apart h.told
  where
    from_rest : (ts : List Tx) → all ≡ h.done ++ ts → k ∷ ks ≡ map (kept_tx before all) ts → AllJoin (may_join before) h.done ts → fold (joined chain) h.kept ts ≡ sift chain all → NoneKept h.done ts
        → KeysApart txid ts → ((s : Hash32) → (list_any (same_hash s) touched || any_differs before all chain h.kept s ts) ≡ any_differs before all chain [] s all)
        → AreLeft before chain all gone_now now fees_now touched_now ks
    from_rest [] whole are joins sifted new apart told = absurd (cc)
    from_rest (t ∷ ts) whole are joins sifted new apart told = by (may_join chain h.kept t) refl
      where
        first : k ≡ kept_tx before all t
        first = cc

        others : ks ≡ map (kept_tx before all) ts
        others = cc

        names : AreNamed before h.done t.inputs
        names = joins_named before h.done t joins.0

        takes : each_takes before h.done t.inputs ≡ true
        takes =
            let both = and_parts (not (is_confirmed before (txid t))) (each_takes before h.done t.inputs && not (nat_lt (total_held (held_by before h.done t.inputs)) (total_value t.outputs))) joins.0 in
            (and_parts (each_takes before h.done t.inputs) (not (nat_lt (total_held (held_by before h.done t.inputs)) (total_value t.outputs))) both.1).0

        covered : nat_lt (total_held (held_by before h.done t.inputs)) (total_value t.outputs) ≡ false
        covered =
            let both = and_parts (not (is_confirmed before (txid t))) (each_takes before h.done t.inputs && not (nat_lt (total_held (held_by before h.done t.inputs)) (total_value t.outputs))) joins.0 in
            not-true (nat_lt (total_held (held_by before h.done t.inputs)) (total_value t.outputs)) (and_parts (each_takes before h.done t.inputs) (not (nat_lt (total_held (held_by before h.done t.inputs)) (total_value t.outputs))) both.1).1

        next : SiftsNext before all h.kept gone t k
        next = record {
          is = first;
          named = subst (λ (l : List Tx). AreNamed before l t.inputs) (sym whole) (are_named_more before h.done (t ∷ ts) t.inputs names);
          free = subst (λ (l : List Tx). each_free l t.inputs ≡ true) (sym h.kept_are) (free_left before (has gone) h.done t.inputs takes);
          enough = ap (λ (l : List Tx). nat_lt (total_held (held_by before l t.inputs)) (total_value t.outputs)) whole
              ∙ ap (λ hs. nat_lt (total_held hs) (total_value t.outputs)) (held_more before h.done (t ∷ ts) t.inputs names) ∙ covered;
          left = left_inputs before all h.done h.kept (t ∷ ts) gone t.inputs whole h.kept_are (fresh_from before h.done (t ∷ ts) joins) names;
        }

        one : IsSifted before chain all h.kept t gone gone_now changed now fees fees_now touched touched_now
        one = step h.kept t next (unspent_of chain h.kept (so_far before all changed h.kept) h.stands)

        not_kept : is_kept (txid t) h.kept ≡ false
        not_kept = ap (is_kept (txid t)) h.kept_are ∙ not_left (has gone) (txid t) h.done new.0

        not_gone : has gone (txid t) ≡ false
        not_gone = false_from_ne_true (has gone (txid t)) (λ e. true≢false (sym (h.gone_of (txid t) e) ∙ new.0))

        own : same_hash (txid t) (txid t) ≡ true
        own = hash_self (txid t) (txid t) refl

        off : AllByRecursion (λ (c : Takes). same_hash c.txid (txid t) ≡ false) changed
        off = told_before changed h.done (txid t) h.told_of new.0

        Told : List Takes → Type 0
        Told cs = AllByRecursion (λ (c : Takes). is_kept c.txid (h.done ++ t ∷ []) ≡ true) cs

        told_old : Told changed
        told_old = all_weaker (λ (c : Takes). is_kept c.txid h.done ≡ true) (λ (c : Takes). is_kept c.txid (h.done ++ t ∷ []) ≡ true) changed (λ c e. kept_more c.txid h.done (t ∷ []) e) h.told_of

        told_on : IsKeptOn (kept_tx before all t) (kept_tx chain h.kept t) changed now → Told now
        told_on (inl same) = subst Told (sym same.1) told_old
        told_on (inr more) = subst Told (sym more) (all_more (λ (c : Takes). is_kept c.txid (h.done ++ t ∷ []) ≡ true) changed (takes_of (kept_tx chain h.kept t)) told_old (kept_last (txid t) h.done t own))

        told_now : (s : Hash32) → (list_any (same_hash s) touched_now || any_differs before all chain (joined chain h.kept t) s ts) ≡ any_differs before all chain [] s all
        told_now s =
            ap (λ b. b || any_differs before all chain (joined chain h.kept t) s ts) (one.touched s)
            ∙ or_moved (list_any (same_hash s) touched) (step_differs before all chain h.kept s t) (any_differs before all chain (joined chain h.kept t) s ts) ∙ told s

        one_done : map (kept_tx before all) (h.done ++ t ∷ []) ≡ map (kept_tx before all) h.done ++ kept_tx before all t ∷ []
        one_done = map-append (kept_tx before all) h.done (t ∷ [])

        by : (b : Bool) → may_join chain h.kept t ≡ b → AreLeft before chain all gone_now now fees_now touched_now ks
        by true may =
            let said = one.stayed may in
            let with_it : joined chain h.kept t ≡ h.kept ++ t ∷ [] = ap (λ b. cond b (h.kept ++ t ∷ []) h.kept) may in
            let entries = kept_on before chain all h.kept t changed now off not_kept said.2 said.1 in
            let paired =
            matched_stays (map (kept_tx before all) h.done) (so_far before all changed h.kept) (kept_tx before all t) (kept_tx chain h.kept t) h.matched own
            (apart_done before all (txid t) h.done new.0) in
            record {
              done = h.done ++ t ∷ [];
              kept = h.kept ++ t ∷ [];
              rs = ts;
              whole = whole ∙ sym (append_assoc h.done (t ∷ []) ts);
              kept_are = ap (λ l. l ++ t ∷ []) h.kept_are ∙ sym (rest_with (has gone) h.done t not_gone) ∙ ap (λ (l : List Hash32). rest (has l) (h.done ++ t ∷ [])) (sym said.0);
              are = others;
              joins = joins.1;
              stands = subst (λ (l : List KeptTx). KeptStandFor l chain (h.kept ++ t ∷ [])) (sym entries)
                  (stands_with (so_far before all changed h.kept) chain h.kept t h.stands (free_joins chain h.kept t may not_kept));
              fees_are = said.3 ∙ ap (λ (l : List FeeChange). l ++ stay_changes (kept_tx before all t) (kept_tx chain h.kept t)) h.fees_are ∙ sym paired.1
                  ∙ ap₂ fee_changes (sym one_done) (sym entries);
              matched = subst (λ (l : List KeptTx). Matched (map (kept_tx before all) (h.done ++ t ∷ [])) l) (sym entries)
                  (subst (λ (l : List KeptTx). Matched l (so_far before all changed h.kept ++ kept_tx chain h.kept t ∷ [])) (sym one_done) paired.0);
              sifted = ap (λ l. fold (joined chain) l ts) (sym with_it) ∙ sifted;
              told_of = told_on said.1;
              gone_of = λ x e. kept_more x h.done (t ∷ []) (h.gone_of x (ap (λ (l : List Hash32). has l x) (sym said.0) ∙ e));
              new = none_more h.done t ts new.1 apart.0;
              apart = apart.1;
              told = λ s. ap (λ l. list_any (same_hash s) touched_now || any_differs before all chain l s ts) (sym with_it) ∙ told_now s;
            }
        by false may =
            let said = one.went may in
            let same : joined chain h.kept t ≡ h.kept = ap (λ b. cond b (h.kept ++ t ∷ []) h.kept) may in
            let paired = matched_went (map (kept_tx before all) h.done) (so_far before all changed h.kept) (kept_tx before all t) h.matched in
            let in_it : has gone_now (txid t) ≡ true = said.0 (txid t) ∙ or_right (has gone (txid t)) (same_hash (txid t) (txid t)) own in
            record {
              done = h.done ++ t ∷ [];
              kept = h.kept;
              rs = ts;
              whole = whole ∙ sym (append_assoc h.done (t ∷ []) ts);
              kept_are = h.kept_are ∙ sym (rest_same (has gone) (has gone_now) (txid t) h.done said.0 new.0) ∙ sym (rest_but (has gone_now) h.done t in_it);
              are = others;
              joins = joins.1;
              stands = subst (λ (cs : List Takes). KeptStandFor (so_far before all cs h.kept) chain h.kept) (sym said.1) h.stands;
              fees_are = said.2 ∙ ap (λ (l : List FeeChange). l ++ fee_change false (kept_tx before all t) ∷ []) h.fees_are ∙ sym paired.1
                  ∙ ap₂ fee_changes (sym one_done) (ap (λ (cs : List Takes). so_far before all cs h.kept) (sym said.1));
              matched = subst (λ (cs : List Takes). Matched (map (kept_tx before all) (h.done ++ t ∷ [])) (so_far before all cs h.kept)) (sym said.1)
                  (subst (λ (l : List KeptTx). Matched l (so_far before all changed h.kept)) (sym one_done) paired.0);
              sifted = ap (λ l. fold (joined chain) l ts) (sym same) ∙ sifted;
              told_of = subst Told (sym said.1) told_old;
              gone_of = λ x e. gone_more x (or_cases (has gone x) (same_hash x (txid t)) (sym (said.0 x) ∙ e));
              new = none_more h.done t ts new.1 apart.0;
              apart = apart.1;
              told = λ s. ap (λ l. list_any (same_hash s) touched_now || any_differs before all chain l s ts) (sym same) ∙ told_now s;
            }
          where
            gone_more : (x : Hash32) → (has gone x ≡ true) ⊎ (same_hash x (txid t) ≡ true) → is_kept x (h.done ++ t ∷ []) ≡ true
            gone_more x (inl e) = kept_more x h.done (t ∷ []) (h.gone_of x e)
            gone_more x (inr e) = kept_last x h.done t (hash_turned (txid t) x ∙ e)

or_false : (b : Bool) → (b || false) ≡ b
or_false true = refl
or_false false = refl

-- the entries of those that stay
without_is : (before : Chain) (all : List Tx) (ids : List Hash32) (ts : List Tx) → without_txids ids (map (kept_tx before all) ts) ≡ map (kept_tx before all) (rest (has ids) ts)
without_is before all ids [] = refl
without_is before all ids (t ∷ ts) = by (has ids (txid t)) (without_is before all ids ts)
  where
    by : (b : Bool) → without_txids ids (map (kept_tx before all) ts) ≡ map (kept_tx before all) (rest (has ids) ts)
        → cond (not b) (kept_tx before all t ∷ without_txids ids (map (kept_tx before all) ts)) (without_txids ids (map (kept_tx before all) ts)) ≡ map (kept_tx before all) (cond (not b) (t ∷ rest (has ids) ts) (rest (has ids) ts))
    by true more = more
    by false more = ap (λ l. kept_tx before all t ∷ l) more

pub none_left : (before chain : Chain) (all : List Tx) (entries : List KeptTx) (gone : List Hash32) (changed : List Takes) (fees : List FeeChange) (touched : List Hash32) → KeptStandFor entries before all → AllDiffer touched
    → AreLeft before chain all gone changed fees touched []
    → KeptStandFor (map (settled changed) (without_txids gone entries)) chain (sift chain all) × AreChanged before all chain (sift chain all) touched
    × (fees ≡ fee_changes entries (map (settled changed) (without_txids gone entries)))
none_left before chain all entries gone changed fees touched stood once h = from_rest h.rs h.whole h.are h.sifted h.told
  where
    from_rest : (ts : List Tx) → all ≡ h.done ++ ts → [] ≡ map (kept_tx before all) ts → fold (joined chain) h.kept ts ≡ sift chain all
        → ((s : Hash32) → (list_any (same_hash s) touched || any_differs before all chain h.kept s ts) ≡ any_differs before all chain [] s all)
        → KeptStandFor (map (settled changed) (without_txids gone entries)) chain (sift chain all) × AreChanged before all chain (sift chain all) touched
        × (fees ≡ fee_changes entries (map (settled changed) (without_txids gone entries)))
    from_rest [] whole are sifted told =
        let every : all ≡ h.done = whole ∙ append-nil h.done in
        let left : h.kept ≡ rest (has gone) all = h.kept_are ∙ ap (rest (has gone)) (sym every) in
        let now : map (settled changed) (without_txids gone entries) ≡ so_far before all changed h.kept =
        ap (λ l. map (settled changed) (without_txids gone l)) stood.are ∙ ap (map (settled changed)) (without_is before all gone all ∙ ap (map (kept_tx before all)) (sym left)) in (
          subst (λ (l : List Tx). KeptStandFor (map (settled changed) (without_txids gone entries)) chain l) sifted (subst (λ (l : List KeptTx). KeptStandFor l chain h.kept) (sym now) h.stands),
          sift_changes before chain entries all touched stood once (λ s. sym (or_false (list_any (same_hash s) touched)) ∙ told s),
          h.fees_are ∙ ap₂ fee_changes (sym (stood.are ∙ ap (map (kept_tx before all)) every)) (sym now),
        )
    from_rest (t ∷ ts) whole are sifted told = absurd (cc)

-- ---- what an answer counts

err_same : {U : Type 0} (e f : QueryFault) → ◌≡◌ {A = Result U QueryFault} (Err e) (Err f) → e ≡ f
err_same e f h = cc

pub counts_moved : {T U : Type 0} (s : Result U QueryFault) (e d : QueryFault) (a b n : ℕ) (f : QueryFault) → b ≡ a → s ≡ Err d → d ≡ e → CountsOnly {T = T} {E = QueryFault} b n f (Err e)
    → CountsOnly {T = U} {E = QueryFault} a n f s
counts_moved {T = T} {U = U} s e d a b n f still is same k =
    subst (λ (r : Result U QueryFault). CountsOnly {T = U} {E = QueryFault} a n f r) (sym (is ∙ ap Err same))
    (record {
      counted = λ h. k.counted (ap Err (err_same {U = U} e f h)) ∙ ap (λ m. risen m 1) still;
      uncounted = tt;
      others_uncounted = λ other. k.others_uncounted other ∙ still;
    })

-- ---- the slots one after the other

pub left_start : (before chain : Chain) (all : List Tx) (gone : List Hash32) (changed : List Takes) (fees : List FeeChange) (touched : List Hash32) (es ss : List Slot) → gone ≡ [] → changed ≡ [] → fees ≡ [] → touched ≡ [] → ss ≡ es
    → KeptStandFor (undropped es) before all → AreLeft before chain all gone changed fees touched (undropped ss)
left_start before chain all gone changed fees touched es ss one two none three same h =
    subst (λ (l : List Slot). AreLeft before chain all gone changed fees touched (undropped l)) (sym same)
    (subst (λ (l : List Hash32). AreLeft before chain all gone changed fees l (undropped es)) (sym three)
    (subst (λ (l : List FeeChange). AreLeft before chain all gone changed l [] (undropped es)) (sym none)
    (subst (λ (l : List Takes). AreLeft before chain all gone l [] [] (undropped es)) (sym two)
    (subst (λ (l : List Hash32). AreLeft before chain all l [] [] [] (undropped es)) (sym one) (all_left before chain all (undropped es) h)))))

pub left_some : (before chain : Chain) (all : List Tx) (gone gone_now : List Hash32) (changed now : List Takes) (fees fees_now : List FeeChange) (touched touched_now : List Hash32) (s t : List Slot) (id : Hash32) (slot : Option KeptTx) (k : KeptTx)
    → s ≡ (id, slot) ∷ t → slot ≡ Some k → AreLeft before chain all gone changed fees touched (undropped s) → StepsOf before chain all gone gone_now changed now fees fees_now touched touched_now k
    → AreLeft before chain all gone_now now fees_now touched_now (undropped t)
left_some before chain all gone gone_now changed now fees fees_now touched touched_now s t id slot k first some h step =
    let is : undropped s ≡ k ∷ undropped t = ap undropped first ∙ ap (λ x. option_to_list x ++ undropped t) some in
    one_left before chain all gone gone_now changed now fees fees_now touched touched_now k (undropped t) (subst (λ (l : List KeptTx). AreLeft before chain all gone changed fees touched l) is h) step

pub left_none : (before chain : Chain) (all : List Tx) (gone : List Hash32) (changed : List Takes) (fees : List FeeChange) (touched : List Hash32) (s t : List Slot) (id : Hash32) (slot : Option KeptTx) → s ≡ (id, slot) ∷ t → slot ≡ None
    → AreLeft before chain all gone changed fees touched (undropped s) → AreLeft before chain all gone changed fees touched (undropped t)
left_none before chain all gone changed fees touched s t id slot first none h =
    let is : undropped s ≡ undropped t = ap undropped first ∙ ap (λ x. option_to_list x ++ undropped t) none in
    subst (λ (l : List KeptTx). AreLeft before chain all gone changed fees touched l) is h
