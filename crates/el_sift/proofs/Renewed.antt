-- A kept transaction over another chain: what its inputs take there, and whether it may be kept.
use Rattle.std.proofs.Common.{◌≡◌, ℕ, ℤ, pos, negsuc, ◌+◌, ◌<◌, true, false, Bool, cond, if◌then◌else◌, not, ◌&&◌, ◌||◌, List, [], ◌∷◌, ◌++◌, length, drop, get_or, Option, None, Some, refl, ap, sym, subst, ◌∙◌, append_assoc}
use Rattle.std.proofs.lemmas.Bool.{and_left, and_from, or_parts, true≢false}
use Rattle.std.proofs.lemmas.List.Folds.{list_any-append}
use Rattle.std.specs.List.{AllByRecursion, list_any}
use Rattle.std.specs.Prelude.{option_map, option_to_list, nat_lt, IfNone}
use Rattle.std.specs.Option.{is_some}
use Rattle.std.proofs.lemmas.List.{drop_more}
use Rattle.el_base.specs.declared.hash.Hash32.{Hash32}
use Rattle.el_tx.specs.declared.types.Outpoint.{Outpoint}
use Rattle.el_tx.specs.declared.types.TxIn.{TxIn}
use Rattle.el_tx.specs.declared.types.Tx.{Tx}
use Rattle.el_tx.specs.Encoding.{total_value}
use Rattle.el_tx.specs.Hashing.{txid}
use Rattle.el_chain.specs.Chains.{Chain}
use Rattle.el_mempool.specs.declared.held.Held.{Held}
use Rattle.el_mempool.specs.declared.held.Source.{Source}
use Rattle.el_mempool.specs.declared.held.KeptTx.{KeptTx}
use Rattle.el_mempool.specs.Sift.{coin_named, output_among, named, any_takes, is_taken, each_takes, held_by, total_held, is_confirmed, may_join}
use Rattle.el_mempool.specs.Standing.{source_at, sources}
use Rattle.el_mempool.specs.Unconfirmed.{flag}
use Rattle.el_mempool.proofs.Named.{AreNamed}
use Rattle.el_mempool.proofs.Sifted.{joins_named}
use Rattle.el_kept.specs.declared.table.Table.{Table}
use Rattle.el_kept.specs.Tables.{has}
use Rattle.el_kept.specs.declared.found.FoundOutput.{FoundOutput}
use Rattle.el_kept.specs.Named.{total_sources, kept_output, IsTableOver, found_by, AreUnspent}
use Rattle.el_sift.specs.within.Renewal.{source_with, renewed, all_take, flag_of, each_free, output_left, AreSeen, IsLeft, SiftsNext}
use Rattle.el_kept.proofs.Lookups.{none_of, output_is, any_from, sources_sum, outputs_sum}

-- ---- inputs one after the other

-- the inputs so far and those that are left
abbrev pub SoFar : Chain → List Tx → List Source → ℕ → List Source → Type 0
SoFar chain kept ss n found =
    (found ++ renewed chain kept (drop n ss) ≡ renewed chain kept ss) × (all_take chain kept ss ≡ all_take chain kept (drop n ss))

pub one_more : (chain : Chain) (kept : List Tx) (ss : List Source) (n : ℕ) (d : Source) (v : Held) (found : List Source) (held : Option Held) → n < length ss
    → held ≡ named chain kept (get_or ss n d).from → held ≡ Some v → SoFar chain kept ss n found → SoFar chain kept ss (n + 1) (found ++ source_with (get_or ss n d) v ∷ [])
one_more chain kept ss n d v found held lt says some before =
    let left = drop_more ss n d lt in
    let there : named chain kept (get_or ss n d).from ≡ Some v = sym says ∙ some in
    let first = rw (left, there) at before.0 in
    let second = rw (left, there) at before.1 in
    (append_assoc found (source_with (get_or ss n d) v ∷ []) (renewed chain kept (drop (n + 1) ss)) ∙ first, second)

pub stops : (chain : Chain) (kept : List Tx) (ss : List Source) (n : ℕ) (d : Source) (found : List Source) (held : Option Held) → n < length ss
    → held ≡ named chain kept (get_or ss n d).from → held ≡ None → SoFar chain kept ss n found → all_take chain kept ss ≡ false
stops chain kept ss n d found held lt says none before =
    let left = drop_more ss n d lt in
    let gone : named chain kept (get_or ss n d).from ≡ None = sym says ∙ none in
    rw (left, gone) at before.1

-- one input more, by the flag
pub any_more : (kept : List Tx) (found : List Source) (s : Source) (any b : Bool) → b ≡ is_some (output_among s.from kept)
    → any ≡ list_any (λ (x : Source). is_some (output_among x.from kept)) found → (any || b) ≡ list_any (λ (x : Source). is_some (output_among x.from kept)) (found ++ s ∷ [])
any_more kept found s any b is so_far =
    ap (λ a. a || b) so_far ∙ by (list_any (λ (x : Source). is_some (output_among x.from kept)) found) b
    ∙ ap (λ x. list_any (λ (y : Source). is_some (output_among y.from kept)) found || (x || false)) is
    ∙ sym (list_any-append (λ (x : Source). is_some (output_among x.from kept)) found (s ∷ []))
  where
    by : (a c : Bool) → (a || c) ≡ (a || (c || false))
    by true c = refl
    by false true = refl
    by false false = refl

-- ---- what a look-up finds

pub kept_found : (left : Option Held) (chain : Chain) (kept : List Tx) (o : Outpoint) (found : Option FoundOutput) (n : FoundOutput) → left ≡ output_among o kept
    → found ≡ found_by left (coin_named chain o) → found ≡ Some n → n.is_kept ≡ is_some (output_among o kept)
kept_found left chain kept o found n same is some = by (output_among o kept) (coin_named chain o) (sym some ∙ is ∙ ap (λ x. found_by x (coin_named chain o)) same)
  where
    by : (x c : Option Held) → Some n ≡ found_by x c → n.is_kept ≡ is_some x
    by (Some h) c e = ap (λ (m : FoundOutput). m.is_kept) (same_found n (record { held = h; is_kept = true }) e)
      where
        same_found : (a b : FoundOutput) → ◌≡◌ {A = Option FoundOutput} (Some a) (Some b) → a ≡ b
        same_found a b e = cc
    by None (Some h) e = ap (λ (m : FoundOutput). m.is_kept) (same_found n (record { held = h; is_kept = false }) e)
      where
        same_found : (a b : FoundOutput) → ◌≡◌ {A = Option FoundOutput} (Some a) (Some b) → a ≡ b
        same_found a b e = cc
    by None None e = absurd (none_found n e)
      where
        none_found : (a : FoundOutput) → Some a ≡ None → ⊥
        none_found a e = cc

-- ---- an entry's inputs and the transaction's

-- each input takes something
abbrev pub each_named : Chain → List Tx → List TxIn → Bool
each_named chain kept [] = true
each_named chain kept (i ∷ is) = is_some (named chain kept i.from) && each_named chain kept is

renewed_is : (before chain : Chain) (all kept : List Tx) (is : List TxIn) → AreNamed before all is → renewed chain kept (sources before all is) ≡ sources chain kept is
renewed_is before chain all kept [] h = refl
renewed_is before chain all kept (i ∷ is) h = by (named before all i.from) h.0 (renewed_is before chain all kept is h.1)
  where
    by : (x : Option Held) → is_some x ≡ true → renewed chain kept (sources before all is) ≡ sources chain kept is
        → renewed chain kept (option_to_list (option_map (source_at i) x) ++ sources before all is) ≡ sources chain kept (i ∷ is)
    by None none more = absurd (true≢false (sym none))
    by (Some v) some more = ap (λ l. option_to_list (option_map (source_at i) (named chain kept i.from)) ++ l) more

take_is : (before chain : Chain) (all kept : List Tx) (is : List TxIn) → AreNamed before all is → all_take chain kept (sources before all is) ≡ each_named chain kept is
take_is before chain all kept [] h = refl
take_is before chain all kept (i ∷ is) h = by (named before all i.from) h.0 (take_is before chain all kept is h.1)
  where
    by : (x : Option Held) → is_some x ≡ true → all_take chain kept (sources before all is) ≡ each_named chain kept is
        → all_take chain kept (option_to_list (option_map (source_at i) x) ++ sources before all is) ≡ each_named chain kept (i ∷ is)
    by None none more = absurd (true≢false (sym none))
    by (Some v) some more = ap (λ b. is_some (named chain kept i.from) && b) more

pub takes_is : (chain : Chain) (kept : List Tx) (is : List TxIn) → each_takes chain kept is ≡ (each_named chain kept is && each_free kept is)
takes_is chain kept [] = refl
takes_is chain kept (i ∷ is) =
    ap (λ b. (is_some (named chain kept i.from) && not (is_taken i.from kept)) && (not (any_takes i.from is) && b)) (takes_is chain kept is)
    ∙ turned (is_some (named chain kept i.from)) (not (is_taken i.from kept)) (not (any_takes i.from is)) (each_named chain kept is) (each_free kept is)
  where
    turned : (a b c d e : Bool) → ((a && b) && (c && (d && e))) ≡ ((a && d) && (b && (c && e)))
    turned true true true true e = refl
    turned true true true false e = refl
    turned true true false true e = refl
    turned true true false false e = refl
    turned true false c true e = refl
    turned true false c false e = refl
    turned false b c d e = refl

-- ---- whether it may be kept

pub gone_confirmed : (chain : Chain) (kept : List Tx) (t : Tx) → is_confirmed chain (txid t) ≡ true → may_join chain kept t ≡ false
gone_confirmed chain kept t h = rw h refl

pub gone_taken : (chain : Chain) (kept : List Tx) (t : Tx) → each_takes chain kept t.inputs ≡ false → may_join chain kept t ≡ false
gone_taken chain kept t h = rw h (by (not (is_confirmed chain (txid t))))
  where
    by : (a : Bool) → (a && false) ≡ false
    by true = refl
    by false = refl

gone_short : (chain : Chain) (kept : List Tx) (t : Tx) → nat_lt (total_held (held_by chain kept t.inputs)) (total_value t.outputs) ≡ true → may_join chain kept t ≡ false
gone_short chain kept t h = rw h (by (not (is_confirmed chain (txid t))) (each_takes chain kept t.inputs))
  where
    by : (a b : Bool) → (a && (b && false)) ≡ false
    by true true = refl
    by true false = refl
    by false b = refl

pub if_none : {X : Type 0} (r : Option X) (P : Type 0) → r ≡ None → IfNone r P → P
if_none None P is h = h
if_none (Some x) P is h = absurd (some_none x is)
  where
    some_none : {Y : Type 0} (y : Y) → Some y ≡ None → ⊥
    some_none y e = cc

-- what the outpoint names of those that aren't gone
left_one : (table : Table) (before : Chain) (all kept : List Tx) (gone : List Hash32) (any : Bool) (o : Outpoint) → IsTableOver table before all → IsLeft all kept gone o
    → (any ≡ false → output_among o all ≡ None) → output_left table gone any o ≡ output_among o kept
left_one table before all kept gone false o over h none = sym (h.none (none refl))
left_one table before all kept gone true o over h none = by (has gone o.txid) refl
  where
    by : (b : Bool) → has gone o.txid ≡ b → cond (not b) (kept_output table o) None ≡ output_among o kept
    by true e = sym (h.goes e)
    by false e = output_is table before all o over ∙ h.stays e

-- where no flag stands, no input takes an output of a kept one
none_flagged : (all : List Tx) (is : List TxIn) → list_any (λ (i : TxIn). is_some (output_among i.from all)) is ≡ false → AllByRecursion (λ (i : TxIn). output_among i.from all ≡ None) is
none_flagged all [] h = tt
none_flagged all (i ∷ is) h = let parts = or_parts (is_some (output_among i.from all)) (list_any (λ (j : TxIn). is_some (output_among j.from all)) is) h in (none_of (output_among i.from all) parts.0, none_flagged all is parts.1)

flag_none : (all : List Tx) (t : Tx) → flag all t ≡ pos 0 → list_any (λ (i : TxIn). is_some (output_among i.from all)) t.inputs ≡ false
flag_none all t h = by (list_any (λ (i : TxIn). is_some (output_among i.from all)) t.inputs) h
  where
    by : (b : Bool) → (if b then negsuc 0 else pos 0) ≡ pos 0 → b ≡ false
    by true e = absurd (cc)
    by false e = refl

lefts : (table : Table) (before : Chain) (all kept : List Tx) (gone : List Hash32) (any : Bool) (is : List TxIn) → IsTableOver table before all → AllByRecursion (λ (i : TxIn). IsLeft all kept gone i.from) is
    → (any ≡ false → AllByRecursion (λ (i : TxIn). output_among i.from all ≡ None) is) → AllByRecursion (λ (i : TxIn). output_left table gone any i.from ≡ output_among i.from kept) is
lefts table before all kept gone any [] over h none = tt
lefts table before all kept gone any (i ∷ is) over h none = (
  left_one table before all kept gone any i.from over h.0 (λ e. (none e).0),
  lefts table before all kept gone any is over h.1 (λ e. (none e).1),
)

seen_all : (left : Outpoint → Option Held) (before chain : Chain) (all kept : List Tx) (is : List TxIn) → AreNamed before all is → AreUnspent chain kept
    → AllByRecursion (λ (i : TxIn). left i.from ≡ output_among i.from kept) is → AreSeen left chain kept (sources before all is)
seen_all left before chain all kept [] names unspent h = tt
seen_all left before chain all kept (i ∷ is) names unspent h = by (named before all i.from) names.0 (seen_all left before chain all kept is names.1 unspent h.1)
  where
    by : (x : Option Held) → is_some x ≡ true → AreSeen left chain kept (sources before all is) → AreSeen left chain kept (option_to_list (option_map (source_at i) x) ++ sources before all is)
    by None none more = absurd (true≢false (sym none))
    by (Some v) some more = ((h.0, unspent i.from), more)

module _ (before chain : Chain) (all kept : List Tx) (gone : List Hash32) (t : Tx) (k : KeptTx) (e : SiftsNext before all kept gone t k) where
  id_is : k.txid ≡ txid t
  id_is = ap (λ (x : KeptTx). x.txid) e.is

  inputs_are : k.inputs ≡ sources before all t.inputs
  inputs_are = ap (λ (x : KeptTx). x.inputs) e.is

  pub when_seen : (table : Table) (any : Bool) (ss : List Source) → IsTableOver table before all → AreUnspent chain kept → (any ≡ false → k.flag ≡ pos 0) → ss ≡ k.inputs
      → AreSeen (output_left table gone any) chain kept ss
  when_seen table any ss over unspent plain same =
      subst (AreSeen (output_left table gone any) chain kept) (sym (same ∙ inputs_are))
      (seen_all (output_left table gone any) before chain all kept t.inputs e.named unspent
      (lefts table before all kept gone any t.inputs over e.left (λ none. none_flagged all t.inputs (flag_none all t (sym (ap (λ (x : KeptTx). x.flag) e.is) ∙ plain none)))))

  pub when_confirmed : (told : Bool) → told ≡ is_confirmed chain k.txid → told ≡ true → may_join chain kept t ≡ false
  when_confirmed told is so = gone_confirmed chain kept t (ap (is_confirmed chain) (sym id_is) ∙ sym is ∙ so)

  all_named : (ss : List Source) (b : Bool) → ss ≡ k.inputs → all_take chain kept ss ≡ b → each_named chain kept t.inputs ≡ b
  all_named ss b same is = sym (take_is before chain all kept t.inputs e.named) ∙ ap (all_take chain kept) (sym (same ∙ inputs_are)) ∙ is

  pub when_missing : (ss : List Source) → ss ≡ k.inputs → all_take chain kept ss ≡ false → may_join chain kept t ≡ false
  when_missing ss same is = gone_taken chain kept t (takes_is chain kept t.inputs ∙ and_left (each_named chain kept t.inputs) (each_free kept t.inputs) (all_named ss false same is))

  pub found_are : (ss found : List Source) → ss ≡ k.inputs → found ≡ renewed chain kept ss → found ≡ sources chain kept t.inputs
  found_are ss found same is = is ∙ ap (renewed chain kept) (same ∙ inputs_are) ∙ renewed_is before chain all kept t.inputs e.named

  flag_now : (found : List Source) → found ≡ sources chain kept t.inputs → may_join chain kept t ≡ true → flag_of kept found ≡ flag kept t
  flag_now found are may = ap (flag_of kept) are ∙ ap (λ b. if b then negsuc 0 else pos 0) (any_from (λ o. is_some (output_among o kept)) chain kept t.inputs (joins_named chain kept t may))

  sums_are : (ss found slice : List Source) (outs : List Held) (taken given : ℕ) → ss ≡ k.inputs → found ≡ renewed chain kept ss → slice ≡ found → outs ≡ k.outputs → taken ≡ total_sources slice → given ≡ total_held outs
      → nat_lt (total_held (held_by chain kept t.inputs)) (total_value t.outputs) ≡ nat_lt taken given
  sums_are ss found slice outs taken given same is cut outs_are one two =
      let first : taken ≡ total_held (held_by chain kept t.inputs) = one ∙ ap total_sources (cut ∙ found_are ss found same is) ∙ sources_sum chain kept t.inputs in
      let second : given ≡ total_value t.outputs = two ∙ ap total_held (outs_are ∙ ap (λ (x : KeptTx). x.outputs) e.is) ∙ outputs_sum t.outputs in
      sym (ap (λ n. nat_lt n given) first ∙ ap (nat_lt (total_held (held_by chain kept t.inputs))) second)

  pub when_short : (ss found slice : List Source) (outs : List Held) (taken given : ℕ) → ss ≡ k.inputs → found ≡ renewed chain kept ss → slice ≡ found → outs ≡ k.outputs → taken ≡ total_sources slice → given ≡ total_held outs
      → nat_lt taken given ≡ true → may_join chain kept t ≡ false
  when_short ss found slice outs taken given same is cut outs_are one two less = gone_short chain kept t (sums_are ss found slice outs taken given same is cut outs_are one two ∙ less)

  pub when_stays : (told : Bool) (ss found slice : List Source) (outs : List Held) (taken given : ℕ) (f : ℤ) → told ≡ is_confirmed chain k.txid → told ≡ false → ss ≡ k.inputs
      → all_take chain kept ss ≡ true → found ≡ renewed chain kept ss → f ≡ flag_of kept found → slice ≡ found → outs ≡ k.outputs → taken ≡ total_sources slice
      → given ≡ total_held outs → nat_lt taken given ≡ false → (may_join chain kept t ≡ true) × (found ≡ sources chain kept t.inputs) × (f ≡ flag kept t)
  when_stays told ss found slice outs taken given f told_is none same take is flags cut outs_are one two enough =
      let a : is_confirmed chain (txid t) ≡ false = ap (is_confirmed chain) (sym id_is) ∙ sym told_is ∙ none in
      let b : each_takes chain kept t.inputs ≡ true = takes_is chain kept t.inputs ∙ and_from (each_named chain kept t.inputs) (each_free kept t.inputs) (all_named ss true same take) e.free in
      let c = sums_are ss found slice outs taken given same is cut outs_are one two ∙ enough in
      let may : may_join chain kept t ≡ true = rw (a, b, c) refl in
      (may, found_are ss found same is, flags ∙ flag_now found (found_are ss found same is) may)
