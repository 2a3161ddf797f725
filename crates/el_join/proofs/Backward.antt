-- The conflicts of a transaction's inputs, from the last to the first.
use Rattle.std.proofs.Common.{◌≡◌, ℕ, ◌+◌, ◌-◌, ◌<◌, ◌≤◌, true, false, Bool, cond, ◌||◌, List, [], length, drop, get_or, Option, None, Some, refl, ap, sym, subst, ◌∙◌, arith}
use Rattle.std.proofs.lemmas.List.{drop_all, drop_more}
use Rattle.std.specs.List.{list_any}
use Rattle.std.specs.Option.{option_or}
use Rattle.std.specs.Prelude.{option_map, ◌≢◌}
use Rattle.el_base.specs.declared.hash.Hash32.{Hash32}
use Rattle.el_tx.specs.declared.types.Outpoint.{Outpoint}
use Rattle.el_tx.specs.declared.types.TxIn.{TxIn}
use Rattle.el_tx.specs.Hashing.{same_outpoint}
use Rattle.el_mempool.specs.declared.fault.PoolFault.{PoolFault}
use Rattle.el_mempool.specs.declared.fault.PoolFault.TheVariants as refusal
use Rattle.el_mempool.specs.Refusals.{where_so}
use Rattle.el_mempool.specs.Sift.{any_takes}
use Rattle.el_join.specs.within.Tables.{conflict_by, first_conflict}

-- what is known of the inputs from a place on: their first conflict, and what they take
pub record AreKnown (taker : Outpoint → Option Hash32) (id : Hash32) (is : List TxIn) (first : Option PoolFault)
    (later : List Outpoint) : Type 0 where
  pub is_first : first ≡ conflict_by taker id is
  pub takes : (o : Outpoint) → list_any (same_outpoint o) later ≡ any_takes o is

pub none_known : (taker : Outpoint → Option Hash32) (id : Hash32) (is : List TxIn) (n : ℕ) → length is ≤ n → AreKnown taker id (drop n is) None []
none_known taker id is n le = let none = drop_all n is le in rw none (record { is_first = refl; takes = λ o. refl })

nested : (a b c : Option PoolFault) → option_or (option_or a b) c ≡ option_or a (option_or b c)
nested None b c = refl
nested (Some x) b c = refl

-- one more before them
pub one_known : (taker : Outpoint → Option Hash32) (id : Hash32) (is : List TxIn) (i : ℕ) (d : TxIn) (first now here : Option PoolFault)
    (later more : List Outpoint) → i < length is
    → here ≡ first_conflict (taker (get_or is i d).from) id (get_or is i d).from (list_any (same_outpoint (get_or is i d).from) later)
    → now ≡ option_or here first
    → ((o : Outpoint) → list_any (same_outpoint o) more ≡ cond (same_outpoint o (get_or is i d).from) true (list_any (same_outpoint o) later))
    → AreKnown taker id (drop (i + 1) is) first later → AreKnown taker id (drop i is) now more
one_known taker id is i d first now here later more lt says joined added h =
    let left = drop_more is i d lt in
    rw left (record {
      is_first = joined ∙ ap (λ x. option_or x first) says
          ∙ ap (option_or (first_conflict (taker (get_or is i d).from) id (get_or is i d).from (list_any (same_outpoint (get_or is i d).from) later))) h.is_first
          ∙ ap (λ b. option_or (first_conflict (taker (get_or is i d).from) id (get_or is i d).from b) (conflict_by taker id (drop (i + 1) is))) (h.takes (get_or is i d).from)
          ∙ nested (option_map (λ by. refusal.Conflict (get_or is i d).from by) (taker (get_or is i d).from))
          (where_so (any_takes (get_or is i d).from (drop (i + 1) is)) (refusal.Conflict (get_or is i d).from id)) (conflict_by taker id (drop (i + 1) is));
      takes = λ o. added o ∙ by (same_outpoint o (get_or is i d).from) (h.takes o);
    })
  where
    by : {a c : Bool} (b : Bool) → a ≡ c → cond b true a ≡ (b || c)
    by true e = refl
    by false e = e

pub one_back : (taker : Outpoint → Option Hash32) (id : Hash32) (is : List TxIn) (n : ℕ) (d : TxIn) (o : Outpoint) (first now here : Option PoolFault)
    (later more : List Outpoint) → n < length is → o ≡ (get_or is (length is - 1 - n) d).from
    → here ≡ first_conflict (taker o) id o (list_any (same_outpoint o) later) → now ≡ option_or here first
    → ((p : Outpoint) → list_any (same_outpoint p) more ≡ cond (same_outpoint p o) true (list_any (same_outpoint p) later))
    → AreKnown taker id (drop (length is - n) is) first later → AreKnown taker id (drop (length is - (n + 1)) is) now more
one_back taker id is n d o first now here later more lt item says joined added h =
    subst (λ k. AreKnown taker id (drop k is) now more) (omega (arith, lt))
    (one_known taker id is (length is - 1 - n) d first now here later more (omega (arith, lt)) (rw item at says) joined (rw item at added)
    (subst (λ k. AreKnown taker id (drop k is) first later) (omega (arith, lt)) h))

pub neither : (a b c : Option PoolFault) (e : PoolFault) → c ≡ option_or a b → a ≢ Some e → b ≢ Some e → c ≢ Some e
neither None b c e is one two same = two (sym is ∙ same)
neither (Some x) b c e is one two same = one (sym is ∙ same)
