-- How tip lines lead on, step by step.
use Rattle.std.proofs.Common.{◌≡◌, ◌+◌, ◌==◌, ℕ, true, false, List, [], ◌∷◌, length, Option, Some, None, Result, Err, refl, sym, ap, ◌∙◌, subst, arith, eqb-true, eq-eqb}
use Rattle.el_base.specs.declared.hash.Hash32.{Hash32}
use Rattle.el_outside.specs.Counts.{RoseBy, CountsOnly}
use Rattle.el_fees.specs.Tables.{IsTableOf}
use Rattle.el_side.specs.Deeds.{Deed, archive, failures}
use Rattle.el_outside.proofs.Traces.{all_grow_none}
use Rattle.el_chain.specs.Chains.{Chain, tip}
use Rattle.el_chain.specs.Headers.{AreLinked}
use Rattle.el_chain.specs.declared.node.Node.{Node}
use Rattle.el_chain.proofs.TouchLemmas.{hash_gives, hash_from}
use Rattle.el_lines.specs.Lines.{line}
use Rattle.el_lines.specs.declared.node_answer.NodeAnswer.{NodeAnswer}
use Rattle.el_model.specs.Queries.{tip_of}
use Rattle.el_model.specs.declared.fault.QueryFault.{QueryFault}
use Rattle.el_model.specs.declared.fault.QueryFault.TheVariants as fault
use Rattle.el_side.specs.Beneath.{Beneath, Ghosts, Lost, beneath}
use Rattle.el_side.specs.NodeSteps.{Leads}
use Rattle.el_side.specs.Side.{Side, IsSure, Moving, OrdersLine, quiet_side}
use Rattle.el_side.specs.declared.caches.Caches.{Caches}
use Rattle.el_side.specs.declared.holdings.Holdings.{Holdings}
use Rattle.el_side.specs.Caching.{CachesStand}
use Rattle.el_sync.specs.Steps.{IsFrom, previous_hash, left_by}
use Rattle.el_sync.specs.declared.moving.Step.{Step}
use Rattle.el_check_chain.specs.Checked.{no_room}
use Rattle.el_check_chain.specs.Leading.{tip_line, moves_told, none, more, there, led}
use Rattle.el_check_chain.specs.within.Ways.{StandForSide, AreUnderWay, IsLedToEnd, is_tip}

-- a list that has none, and one that has some
pub empty_left : (ns : List Node) → (length ns == 0) ≡ true → ns ≡ []
empty_left [] e = refl
empty_left (n ∷ ns) e = absurd (let z = eqb-true (length (n ∷ ns)) 0 e in omega arith)

pub some_left : (ns : List Node) → (length ns == 0) ≡ false → ns ≡ [] → ⊥
some_left ns e is =
    let yes = eq-eqb (length ns) 0 (ap (λ (l : List Node). length l) is) in
    cc

-- the last block has this hash, or it hasn't
pub ends_there : (t : Option Hash32) (h : Hash32) → is_tip t h ≡ true → t ≡ Some h
ends_there None h e = absurd cc
ends_there (Some last) h e = ap Some (hash_gives last h e)

pub ends_elsewhere : (t : Option Hash32) (h : Hash32) → is_tip t h ≡ false → t ≡ Some h → ⊥
ends_elsewhere None h e is = cc
ends_elsewhere (Some last) h e is =
    let same : last ≡ h = cc in
    let yes = hash_from last h same in
    cc

-- the hash that a next block names
pub names_tip : (chain : Chain) → previous_hash (tip_of chain) ≡ tip chain
names_tip [] = refl
names_tip (b ∷ bs) = refl

-- blocks that are linked to the ledger's tip are linked to the chain's
pub linked_to : (t : Option Hash32) (chain : Chain) (ns : List Node) → t ≡ tip_of chain → AreLinked (previous_hash t) ns → AreLinked (tip chain) ns
linked_to t chain ns is linked = subst (λ (h : Hash32). AreLinked h ns) (ap previous_hash is ∙ names_tip chain) linked

counts_err : {S T : Type 0} (a b c : ℕ) (e : QueryFault) → b ≡ a → CountsOnly {T = S} b c fault.DiskFailed (Err e)
    → CountsOnly {T = T} a c fault.DiskFailed (Err e)
counts_err a b c e same q = record {
  counted = λ is.
      let disk : e ≡ fault.DiskFailed = cc in
      subst (λ (n : ℕ). RoseBy n c 1) same (q.counted (ap (λ (f : QueryFault). Err f) disk));
  uncounted = tt;
  others_uncounted = λ other. q.others_uncounted other ∙ same;
}

-- a call that fails is counted as it was counted below
pub counts_on : {S T : Type 0} (a b c : ℕ) (r : Result T QueryFault) (e : QueryFault) → (y : QueryFault) × (r ≡ Err y) × (y ≡ e) → b ≡ a
    → CountsOnly {T = S} b c fault.DiskFailed (Err e) → CountsOnly {T = T} a c fault.DiskFailed r
counts_on {S} {T} a b c r e is same q =
    let failed : r ≡ Err e = is.1 ∙ ap (λ (f : QueryFault). Err f) is.2 in
    subst (λ (x : Result T QueryFault). CountsOnly {T = T} a c fault.DiskFailed x) (sym failed) (counts_err a b c e same q)

none_rose : (a b n : ℕ) → a ≡ 0 → b ≡ 0 → RoseBy a b n → n ≡ 0
none_rose a b n ea eb rose = omega arith

module _ {G A : Type 0} (of : Ghosts G A) where
  -- where no call of the block files fails, none is among the losses
  pub no_losses : ((a : A) → of.files.faults a ≡ 0) → (was now : Beneath G A) (losses : List Deed) → Lost of was now losses → failures archive losses ≡ 0
  no_losses never was now losses lost =
      none_rose (of.files.faults was.files) (of.files.faults now.files) (failures archive losses) (never was.files) (never now.files) (lost 0 0 archive)

  -- what stands after a step
  pub next_stands : (leads : NodeAnswer → List Deed → Side → Type 0) (was now : Beneath G A) (step : Step) (found : List Node) (h : Holdings) (k : Caches) (side : Side) (start : Chain)
      → (l : Leads of leads side start (left_by was now step found h k)) → IsSure side → found ≡ h.tree → side.magic ≡ h.magic → StandForSide of now h k step.left l.next
  next_stands leads was now step found h k side start l sure tree magic = record {
    sure = l.sure_is ∙ sure;
    start = l.next_start;
    at = record { stood = λ s. (l.went sure).stood; set = l.set; told = l.told };
    found = sym l.found_is ∙ tree;
    magic = l.magic_is ∙ magic;
    ahead = sym l.ahead_is;
  }

  -- no move was made yet
  pub none_made : (was : Beneath G A) (h : Holdings) (k : Caches) (left : List Node) (side : Side) → StandForSide of was h k left side → AreUnderWay of was was h k left side 0
  none_made was h k left side stand = record { last = side; moves = none; stand = stand; later = λ told. omega arith }

  -- one move more
  pub one_more : ((a : A) → of.files.faults a ≡ 0) → (first : Side) (n : ℕ) (begin was now : Beneath G A) (h h' : Holdings) (k k' : Caches) (left : List Node) (step : Step)
      → (u : AreUnderWay of begin was h k left first n) → (left ≡ [] → ⊥) → h'.tree ≡ h.tree → h'.magic ≡ h.magic
      → Leads of (Moving of.files u.last 0 left) u.last u.stand.start (left_by was now step u.last.found h' k')
      → AreUnderWay of begin now h' k' step.left first (n + moves_told step.answer)
  one_more never first n begin was now h h' k k' left step u some tree magic l = record {
    last = l.next;
    moves = more n u.last l.next step.answer l.losses u.moves (λ e. some (sym u.stand.ahead ∙ e))
        (subst (λ (ns : List Node). Moving of.files u.last 0 ns step.answer l.losses l.next) (sym u.stand.ahead) l.led)
        (no_losses never was now l.losses l.rose);
    stand = next_stands (Moving of.files u.last 0 left) was now step u.last.found h' k' u.last u.stand.start l u.stand.sure (u.stand.found ∙ sym tree) (u.stand.magic ∙ sym magic);
    later = λ told. let a = u.later told in let b = ((l.went u.stand.sure).crash told).later in omega arith;
  }

  -- a line may be taken
  pub line_from : (was : Beneath G A) (h : Holdings) (k : Caches) (side : Side) → StandForSide of was h k [] side → IsFrom h side
  line_from was h k side stand = record { found = stand.found; magic = stand.magic; still = stand.ahead }

  -- nothing is to be done
  pub is_there : (was : Beneath G A) (h : Holdings) (k : Caches) (side : Side) (t : Hash32) → StandForSide of was h k [] side → tip_of side.chain ≡ Some t → IsLedToEnd of was was h k side t 0
  is_there was h k side t stand ends = record { last = side; leads = there ends refl refl; stand = stand; later = λ told. omega arith }

  -- a line and its later moves
  pub line_led : ((a : A) → of.files.faults a ≡ 0) → (side : Side) (t : Hash32) (start : Chain) (begin was now : Beneath G A) (h h' h'' : Holdings) (k' k'' : Caches) (step : Step) (later : ℕ)
      → IsSure side → side.magic ≡ h.magic → h'.magic ≡ h.magic → (tip_of side.chain ≡ Some t → ⊥)
      → Leads of (OrdersLine of.files side (line (tip_line t))) side start (left_by begin was step h'.tree h' k')
      → ((mid : Side) → StandForSide of was h' k' step.left mid → AreUnderWay of was now h'' k'' [] mid later)
      → IsLedToEnd of begin now h'' k'' side t (moves_told step.answer + later)
  line_led never side t start begin was now h h' h'' k' k'' step later sure from magic away l on =
      let u = on l.next (next_stands (OrdersLine of.files side (line (tip_line t))) begin was step h'.tree h' k' side start l sure refl (from ∙ sym magic)) in
      record {
        last = u.last;
        leads = led away step.answer l.losses l.next l.led (no_losses never begin was l.losses l.rose) later u.moves u.stand.ahead refl;
        stand = u.stand;
        later = λ told. let a = u.later told in let b = ((l.went sure).crash told).later in omega arith;
      }

  -- before the first line
  pub starts : (l : G) (a : A) (chain : Chain) (h : Holdings) (k : Caches) → of.ledger.stands l chain → CachesStand k chain chain → h.pool.entries ≡ [] → IsTableOf h.fees [] → h.pool.limits ≡ no_room
      → StandForSide of (beneath l a) h k [] (quiet_side true chain h.magic no_room h.tree (of.files.bytes a))
  starts l a chain h k stood kept empty no_fees limits = record {
    sure = refl;
    start = chain;
    at = record {
      stood = λ s. stood;
      set = record {
        stood = λ s. record { sifted = refl; are = empty; once = tt };
        fees = λ s. rw empty no_fees;
        computed = λ s. kept;
        still = λ e. refl;
        limits = limits;
      };
      told = λ t. all_grow_none (of.files.bytes a);
    };
    found = refl;
    magic = refl;
    ahead = refl;
  }
