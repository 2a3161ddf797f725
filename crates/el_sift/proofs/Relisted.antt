-- An entry that takes other coins is listed under what it then concerns.
use Rattle.std.proofs.Common.{◌≡◌, true, false, Bool, cond, ◌||◌, List, [], ◌∷◌, Option, None, Some, Result, Ok, Err, refl, ap, sym, ◌∙◌}
use Rattle.std.proofs.lemmas.Bool.{true≢false}
use Rattle.std.specs.Prelude.{map, option_map}
use Rattle.std.specs.List.{list_any}
use Rattle.std.specs.Result.{OnOk}
use Rattle.std.specs.BTreeSet.{BTreeSet}
use Rattle.el_base.specs.declared.hash.Hash32.{Hash32}
use Rattle.el_chain.specs.Headers.{same_hash}
use Rattle.el_mempool.specs.declared.held.KeptTx.{KeptTx}
use Rattle.el_mempool.specs.Standing.{is_at_script, is_coin_at}
use Rattle.el_mempool.specs.Unconfirmed.{has_script}
use Rattle.el_mempool.proofs.Confirmed.{hash_self, hash_same}
use Rattle.el_kept.specs.declared.listing.Listing.{Listing}
use Rattle.el_kept.specs.declared.retaking.Takes.{Takes}
use Rattle.el_kept.specs.Tables.{by_txid, slot_at_script, same_froms, retaken}
use Rattle.el_kept.specs.Listings.{txid_of, is_in, AreListed}
use Rattle.el_kept.proofs.Listed.{found_txid}
use Rattle.el_kept.proofs.Retaken.{off_one, told_one, id_same}
use Rattle.el_sift.specs.within.Renewal.{settled}

by_retaken : (c : Takes) (id : Hash32) (ks : List KeptTx) → by_txid id (map (retaken c) ks) ≡ option_map (retaken c) (by_txid id ks)
by_retaken c id [] = refl
by_retaken c id (k ∷ ks) =
    ap (λ (x : Hash32). cond (same_hash id x) (Some (retaken c k)) (by_txid id (map (retaken c) ks))) (id_same c k) ∙ by (same_hash id k.txid) (by_retaken c id ks)
  where
    by : (b : Bool) → by_txid id (map (retaken c) ks) ≡ option_map (retaken c) (by_txid id ks)
        → cond b (Some (retaken c k)) (by_txid id (map (retaken c) ks)) ≡ option_map (retaken c) (cond b (Some k) (by_txid id ks))
    by true e = refl
    by false e = e

-- the listings of one entry are those by what it takes now
pub relisted : (old new : BTreeSet Listing) (ks : List KeptTx) (c : Takes) (e : KeptTx) → AreListed old ks → by_txid c.txid ks ≡ Some e → same_froms e.inputs c.inputs ≡ true
    → ((l : Listing) → is_in new l ≡ cond (same_hash e.txid (txid_of l)) (list_any (has_script l.script.0) e.outputs || list_any (is_coin_at l.script.0) c.inputs) (is_in old l))
    → AreListed new (map (retaken c) ks)
relisted old new ks c e listed found froms says l =
    says l ∙ by (same_hash e.txid (txid_of l)) refl ∙ sym (ap (slot_at_script l.script.0) (by_retaken c (txid_of l) ks))
  where
    own : e.txid ≡ c.txid
    own = found_txid c.txid ks e found

    others : (x : Option KeptTx) → by_txid (txid_of l) ks ≡ x → same_hash e.txid (txid_of l) ≡ false → slot_at_script l.script.0 x ≡ slot_at_script l.script.0 (option_map (retaken c) x)
    others None is off = refl
    others (Some k) is off =
        let other : same_hash c.txid k.txid ≡ false = ap (λ x. same_hash x k.txid) (sym own) ∙ ap (same_hash e.txid) (found_txid (txid_of l) ks k is) ∙ off in
        ap (is_at_script l.script.0) (sym (off_one c k (λ so. absurd (true≢false (sym so ∙ other)))))

    by : (b : Bool) → same_hash e.txid (txid_of l) ≡ b → cond b (list_any (has_script l.script.0) e.outputs || list_any (is_coin_at l.script.0) c.inputs) (is_in old l)
        ≡ slot_at_script l.script.0 (option_map (retaken c) (by_txid (txid_of l) ks))
    by true is =
        let there : by_txid (txid_of l) ks ≡ Some e = ap (λ x. by_txid x ks) (sym (hash_same e.txid (txid_of l) is) ∙ own) ∙ found in
        sym (ap (λ x. slot_at_script l.script.0 (option_map (retaken c) x)) there ∙ ap (is_at_script l.script.0) (told_one c e (hash_self c.txid e.txid (sym own)) froms))
    by false is = listed l ∙ others (by_txid (txid_of l) ks) refl is

pub relisted_ok : {A E : Type 0} (r : Result A E) (old new : BTreeSet Listing) (ks : List KeptTx) (c : Takes) (e : KeptTx) → AreListed old ks → by_txid c.txid ks ≡ Some e → same_froms e.inputs c.inputs ≡ true
    → ((l : Listing) → OnOk r (is_in new l ≡ cond (same_hash e.txid (txid_of l)) (list_any (has_script l.script.0) e.outputs || list_any (is_coin_at l.script.0) c.inputs) (is_in old l)))
    → OnOk r (AreListed new (map (retaken c) ks))
relisted_ok (Ok x) old new ks c e listed found froms says = relisted old new ks c e listed found froms says
relisted_ok (Err x) old new ks c e listed found froms says = tt

-- ---- one of those that are told after the other

-- the entries after those that are left are the entries after all of them
pub settle_step : (cs next : List Takes) (c : Takes) (old new : List KeptTx) → cs ≡ c ∷ next → new ≡ map (retaken c) old → map (settled next) new ≡ map (settled cs) old
settle_step cs next c old new first is = ap (map (settled next)) is ∙ twice old ∙ ap (λ l. map (settled l) old) (sym first)
  where
    twice : (ks : List KeptTx) → map (settled next) (map (retaken c) ks) ≡ map (settled (c ∷ next)) ks
    twice [] = refl
    twice (k ∷ ks) = ap (λ l. settled next (retaken c k) ∷ l) (twice ks)

pub settle_none : (cs : List Takes) (ks : List KeptTx) → cs ≡ [] → map (settled cs) ks ≡ ks
settle_none cs ks none = ap (λ l. map (settled l) ks) none ∙ same ks
  where
    same : (xs : List KeptTx) → map (settled []) xs ≡ xs
    same [] = refl
    same (x ∷ xs) = ap (λ l. x ∷ l) (same xs)

-- ---- listed anew

pub again : {A E : Type 0} (r : Result A E) (c a b old mid new : Bool) → mid ≡ cond c false old → OnOk r (new ≡ cond c a mid)
    → a ≡ b → OnOk r (new ≡ cond c b old)
again (Ok x) c a b old mid new gone come same =
    come ∙ ap (cond c a) gone ∙ ap (λ y. cond c y (cond c false old)) same ∙ by c
  where
    by : (c : Bool) → cond c b (cond c false old) ≡ cond c b old
    by true = refl
    by false = refl
again (Err e) c a b old mid new gone come same = tt
