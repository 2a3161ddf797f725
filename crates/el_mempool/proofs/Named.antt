-- What outpoints name, as more transactions are kept.
use Rattle.std.proofs.Common.{◌≡◌, true, List, [], ◌∷◌, ◌++◌, Option, None, Some, refl, ap, sym, ◌∙◌, append_assoc}
use Rattle.std.proofs.lemmas.Bool.{and_parts}
use Rattle.std.specs.List.{AllByRecursion}
use Rattle.std.specs.Prelude.{option_to_list}
use Rattle.std.specs.Option.{option_or, is_some}
use Rattle.el_tx.specs.declared.types.Outpoint.{Outpoint}
use Rattle.el_tx.specs.declared.types.TxIn.{TxIn}
use Rattle.el_tx.specs.declared.types.Tx.{Tx}
use Rattle.el_chain.specs.Chains.{Chain}
use Rattle.el_mempool.specs.declared.held.Held.{Held}
use Rattle.el_mempool.specs.Sift.{coin_named, output_of, output_among, named, each_takes, held_by, may_join, sift}
use Rattle.el_mempool.proofs.Sifting.{AllJoin, joins_of}

or_joined : {X : Type 0} (a b c : Option X) → option_or (option_or a b) c ≡ option_or a (option_or b c)
or_joined None b c = refl
or_joined (Some x) b c = refl

pub among_append : (o : Outpoint) (xs ys : List Tx) → output_among o (xs ++ ys) ≡ option_or (output_among o xs) (output_among o ys)
among_append o [] ys = refl
among_append o (t ∷ ts) ys = ap (option_or (output_of o t)) (among_append o ts ys) ∙ sym (or_joined (output_of o t) (output_among o ts) (output_among o ys))

-- what is named stays named so
pub named_more : (chain : Chain) (xs ys : List Tx) (o : Outpoint) → is_some (named chain xs o) ≡ true → named chain (xs ++ ys) o ≡ named chain xs o
named_more chain xs ys o some = ap (option_or (coin_named chain o)) (among_append o xs ys) ∙ by (coin_named chain o) (output_among o xs) some
  where
    by : (a b : Option Held) → is_some (option_or a b) ≡ true → option_or a (option_or b (output_among o ys)) ≡ option_or a b
    by (Some h) b some = refl
    by None (Some h) some = refl
    by None None some = absurd (cc)

-- each of these inputs names something
abbrev pub AreNamed : Chain → List Tx → List TxIn → Type 0
AreNamed chain kept is = AllByRecursion (λ (i : TxIn). is_some (named chain kept i.from) ≡ true) is

pub takes_named : (chain : Chain) (kept : List Tx) (is : List TxIn) → each_takes chain kept is ≡ true → AreNamed chain kept is
takes_named chain kept [] h = tt
takes_named chain kept (i ∷ is) h =
    let both = and_parts _ _ h in
    let first = and_parts _ _ both.0 in
    let rest = and_parts _ _ both.1 in
    (first.0, takes_named chain kept is rest.1)

pub are_named_more : (chain : Chain) (xs ys : List Tx) (is : List TxIn) → AreNamed chain xs is → AreNamed chain (xs ++ ys) is
are_named_more chain xs ys [] h = tt
are_named_more chain xs ys (i ∷ is) h = (ap is_some (named_more chain xs ys i.from h.0) ∙ h.0, are_named_more chain xs ys is h.1)

pub held_more : (chain : Chain) (xs ys : List Tx) (is : List TxIn) → AreNamed chain xs is → held_by chain (xs ++ ys) is ≡ held_by chain xs is
held_more chain xs ys [] h = refl
held_more chain xs ys (i ∷ is) h =
    let here = named_more chain xs ys i.from h.0 in
    rw here (ap (λ l. option_to_list (named chain xs i.from) ++ l) (held_more chain xs ys is h.1))

-- each input of these names something
abbrev pub AllNamed : Chain → List Tx → List Tx → Type 0
AllNamed chain all ts = AllByRecursion (λ (t : Tx). AreNamed chain all t.inputs) ts

named_from : (chain : Chain) (all before ts : List Tx) → all ≡ before ++ ts → AllJoin (may_join chain) before ts → AllNamed chain all ts
named_from chain all before [] whole h = tt
named_from chain all before (t ∷ ts) whole h =
    let parts = and_parts _ _ h.0 in
    let more = and_parts _ _ parts.1 in
    (rw whole (are_named_more chain before (t ∷ ts) t.inputs (takes_named chain before t.inputs more.0)), named_from chain all (before ++ t ∷ []) ts (whole ∙ sym (append_assoc before (t ∷ []) ts)) h.1)

-- what the sift keeps names something with each input
pub all_named : (chain : Chain) (kept : List Tx) → sift chain kept ≡ kept → AllNamed chain kept kept
all_named chain kept same = named_from chain kept [] kept refl (joins_of (may_join chain) kept same)
