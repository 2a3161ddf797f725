-- A kept transaction that a move doesn't reach: it stays, and takes what it took.
use Rattle.std.proofs.Common.{◌≡◌, inl, ℕ, ◌-◌, pos, negsuc, true, false, Bool, if◌then◌else◌, ◌||◌, List, [], ◌++◌, ◌∷◌, append-nil, Option, None, Some, refl, ap, ap₂, sym, ◌∙◌, arith}
use Rattle.std.proofs.lemmas.Bool.{and_from, or_parts, true≢false}
use Rattle.std.specs.List.{AllByRecursion, list_any}
use Rattle.std.specs.Prelude.{option_map, option_to_list, nat_eq, nat_lt, MatchOption, IfSome}
use Rattle.std.specs.Ordering.{int_eq}
use Rattle.std.specs.Cmp.{signed_Decides}
use Rattle.std.specs.Option.{option_or, is_some}
use Rattle.el_base.specs.declared.hash.Hash32.{Hash32}
use Rattle.el_tx.specs.declared.types.Outpoint.{Outpoint}
use Rattle.el_tx.specs.declared.types.TxIn.{TxIn}
use Rattle.el_tx.specs.declared.types.Tx.{Tx}
use Rattle.el_tx.specs.Encoding.{total_value}
use Rattle.el_tx.specs.Hashing.{txid}
use Rattle.el_chain.specs.Chains.{Chain}
use Rattle.el_chain.specs.Headers.{same_hash}
use Rattle.el_mempool.specs.declared.held.Held.{Held}
use Rattle.el_mempool.specs.declared.held.KeptTx.{KeptTx}
use Rattle.el_mempool.specs.declared.fees.FeeChange.{FeeChange}
use Rattle.el_mempool.specs.Sift.{coin_named, output_among, named, each_takes, held_by, total_held, is_confirmed, may_join}
use Rattle.el_mempool.specs.Standing.{source_at, sources, kept_tx, is_at_script}
use Rattle.el_mempool.specs.Unconfirmed.{flag}
use Rattle.el_mempool.specs.Moving.{just_one, look_same, differs_at, step_differs}
use Rattle.el_mempool.specs.Fees.{stay_changes}
use Rattle.el_mempool.proofs.FeeChanges.{stays_same}
use Rattle.el_mempool.proofs.Named.{AreNamed}
use Rattle.el_mempool.proofs.Sifted.{joins_named}
use Rattle.el_kept.specs.declared.retaking.Takes.{Takes}
use Rattle.el_kept.specs.Tables.{has}
use Rattle.el_kept.specs.Named.{AreUnspent}
use Rattle.el_sift.specs.Untouched.{KeepsCoins}
use Rattle.el_sift.specs.within.Renewal.{each_free, may_differ, IsUntouched, IsLeft, SiftsNext, IsSifted, Knows}
use Rattle.el_sift.proofs.Renewed.{each_named, takes_is}
use Rattle.el_sift.proofs.Sifts.{same_kept, froms_same}

-- ---- one outpoint

some_same : (a b : Held) → ◌≡◌ {A = Option Held} (Some a) (Some b) → a ≡ b
some_same a b e = cc

-- what it named it still names: an output of a kept one that isn't gone, or a coin that isn't touched
named_on : (before chain : Chain) (all kept : List Tx) (gone touched : List Hash32) (o : Outpoint) (v : Held) → KeepsCoins before chain touched → AreUnspent chain kept → IsLeft all kept gone o
    → has gone o.txid ≡ false → has touched v.script ≡ false → named before all o ≡ Some v → named chain kept o ≡ Some v
named_on before chain all kept gone touched o v keeps unspent left stays off is = by (coin_named before o) (output_among o all) refl refl is
  where
    by : (c x : Option Held) → coin_named before o ≡ c → output_among o all ≡ x → option_or c x ≡ Some v → named chain kept o ≡ Some v
    by (Some h) x coin out e =
        ap (λ z. option_or z (output_among o kept)) (keeps o v (coin ∙ ap Some (some_same h v e)) off)
    by None x coin out e =
        let there : output_among o kept ≡ Some v = sym (left.stays stays) ∙ out ∙ e in
        ap₂ option_or (unspent o (ap is_some there)) there

-- ---- the inputs one after the other

-- These inputs take what they took.
pub record GoOn (before chain : Chain) (all kept : List Tx) (is : List TxIn) : Type 0 where
  pub taken : sources chain kept is ≡ sources before all is
  pub held : held_by chain kept is ≡ held_by before all is
  pub name : each_named chain kept is ≡ true
  pub kin : list_any (λ (i : TxIn). is_some (output_among i.from kept)) is ≡ list_any (λ (i : TxIn). is_some (output_among i.from all)) is

go_on : (before chain : Chain) (all kept : List Tx) (gone touched : List Hash32) (is : List TxIn) → KeepsCoins before chain touched → AreUnspent chain kept
    → AreNamed before all is → AllByRecursion (λ (i : TxIn). IsLeft all kept gone i.from) is → list_any (may_differ gone touched) (sources before all is) ≡ false → GoOn before chain all kept is
go_on before chain all kept gone touched [] keeps unspent names left off = record { taken = refl; held = refl; name = refl; kin = refl }
go_on before chain all kept gone touched (i ∷ is) keeps unspent names left off =
    by (named before all i.from) refl names.0 (λ rest. go_on before chain all kept gone touched is keeps unspent names.1 left.1 rest)
  where
    by : (x : Option Held) → named before all i.from ≡ x → is_some x ≡ true → (list_any (may_differ gone touched) (sources before all is) ≡ false → GoOn before chain all kept is)
        → GoOn before chain all kept (i ∷ is)
    by None e bad others = absurd (true≢false (sym bad))
    by (Some v) e some others =
        let first : (may_differ gone touched (source_at i v) || list_any (may_differ gone touched) (sources before all is)) ≡ false =
        ap (λ z. list_any (may_differ gone touched) (option_to_list (option_map (source_at i) z) ++ sources before all is)) (sym e) ∙ off in
        let parts = or_parts (may_differ gone touched (source_at i v)) (list_any (may_differ gone touched) (sources before all is)) first in
        let one = or_parts (has gone i.from.txid) (has touched v.script) parts.0 in
        let now : named chain kept i.from ≡ Some v = named_on before chain all kept gone touched i.from v keeps unspent left.0 one.0 one.1 e in
        let same : named chain kept i.from ≡ named before all i.from = now ∙ sym e in
        let more = others parts.1 in
        record {
          taken = ap₂ (λ z l. option_to_list (option_map (source_at i) z) ++ l) same more.taken;
          held = ap₂ (λ z l. option_to_list z ++ l) same more.held;
          name = and_from (is_some (named chain kept i.from)) (each_named chain kept is) (ap is_some now) more.name;
          kin = ap₂ (λ z b. is_some z || b) (sym (left.0.stays one.0)) more.kin;
        }

-- ---- the transaction

-- one entry looks the same as itself everywhere
none_differs : (s : List ℕ) (k : KeptTx) → differs_at s k k ≡ false
none_differs s k = by (look_same k k) (is_at_script s k) looks
  where
    own_eq : (n : ℕ) → nat_eq n n ≡ true
    own_eq n = grind arith

    looks : look_same k k ≡ true
    looks = and_from (int_eq k.flag k.flag) (nat_eq k.fee k.fee) ((signed_Decides k.flag k.flag).1 refl) (own_eq k.fee)

    by : (l a : Bool) → l ≡ true → (if l then just_one a a else (a || a)) ≡ false
    by true true e = refl
    by true false e = refl
    by false a e = absurd (true≢false (sym e))

or_false : (b : Bool) → b ≡ (b || false)
or_false true = refl
or_false false = refl

pub passes : (before chain : Chain) (all kept : List Tx) (t : Tx) (k : KeptTx) (gone confirmed touched : List Hash32) (changed : List Takes) (fees : List FeeChange) (scripts : List Hash32)
    → IsUntouched gone confirmed touched k → KeepsCoins before chain touched → SiftsNext before all kept gone t k → AreUnspent chain kept → Knows chain confirmed k
    → IsSifted before chain all kept t gone gone changed changed fees fees scripts scripts
passes before chain all kept t k gone confirmed touched changed fees scripts u keeps e unspent told = record {
  went = λ off. absurd (true≢false (sym may ∙ off));
  stayed = λ _. (refl, inl (same, refl), froms_same before chain all kept t.inputs e.named (joins_named chain kept t may), none);
  touched = λ s. or_false (list_any (same_hash s) scripts) ∙ ap (λ b. list_any (same_hash s) scripts || b) (sym (apart s));
}
  where
    on : GoOn before chain all kept t.inputs
    on = go_on before chain all kept gone touched t.inputs keeps unspent e.named e.left
        (ap (list_any (may_differ gone touched)) (sym (ap (λ (x : KeptTx). x.inputs) e.is)) ∙ u.same)

    new : is_confirmed chain (txid t) ≡ false
    new = ap (is_confirmed chain) (sym (ap (λ (x : KeptTx). x.txid) e.is)) ∙ sym told ∙ u.other

    takes : each_takes chain kept t.inputs ≡ true
    takes = takes_is chain kept t.inputs ∙ and_from (each_named chain kept t.inputs) (each_free kept t.inputs) on.name e.free

    enough : nat_lt (total_held (held_by chain kept t.inputs)) (total_value t.outputs) ≡ false
    enough = ap (λ hs. nat_lt (total_held hs) (total_value t.outputs)) on.held ∙ e.enough

    may : may_join chain kept t ≡ true
    may = rw (new, takes, enough) refl

    flags : flag kept t ≡ flag all t
    flags = ap (λ b. if b then negsuc 0 else pos 0) on.kin

    same : kept_tx chain kept t ≡ kept_tx before all t
    same = same_kept refl flags (ap (λ hs. total_held hs - total_value t.outputs) on.held) refl refl on.taken refl

    none : fees ≡ fees ++ stay_changes (kept_tx before all t) (kept_tx chain kept t)
    none = sym (append-nil fees) ∙ ap (λ l. fees ++ l) (sym (stays_same (kept_tx before all t)) ∙ ap (stay_changes (kept_tx before all t)) (sym same))

    apart : (s : Hash32) → step_differs before all chain kept s t ≡ false
    apart s =
        ap (λ b. if b then differs_at s.0 (kept_tx before all t) (kept_tx chain kept t) else is_at_script s.0 (kept_tx before all t)) may
        ∙ ap (differs_at s.0 (kept_tx before all t)) same ∙ none_differs s.0 (kept_tx before all t)

-- ---- where a move's reach is told

-- both hold of what is there
pub both_told : {X : Type 0} (o : Option X) (P Q : X → Type 0) (R : Type 0) → MatchOption o ⊥ P → IfSome o Q → ((x : X) → P x → Q x → R) → R
both_told None P Q R p q f = absurd p
both_told (Some x) P Q R p q f = f x p q
