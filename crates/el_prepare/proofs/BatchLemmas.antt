-- What is prepared of several blocks, one by one and piece by piece.
use Rattle.std.proofs.Common.{◌≡◌, ◌≢◌, ◌⊎◌, inl, inr, ℕ, ◌+◌, ◌/◌, ◌%◌, ◌<◌, min, List, [], ◌∷◌, ◌++◌, length, take, drop, get_or, Option, Some, None, Result, Ok, Err, refl, sym, ap, subst, ◌∙◌, append_assoc, append-nil}
use Rattle.std.specs.Prelude.{slice_index_or, IfOk, is_some, true, false}
use Rattle.std.specs.Fork.{slice_chunk}
use Rattle.std.proofs.lemmas.List.{take-append-drop}
use Rattle.el_base.proofs.Lists.{cut_at, taken_at}
use Rattle.el_block.specs.BlockFaults.{FirstBlockFault}
use Rattle.el_block.specs.declared.fault.BlockFault.{BlockFault}
use Rattle.el_block.specs.declared.fault.BlockFault.TheVariants as fault
use Rattle.el_prepare.specs.declared.prepared.Prepared.{Prepared}
use Rattle.el_prepare.specs.Batches.{IsPrepared, ArePrepared}
use Rattle.el_prepare.proofs.PieceLemmas.{Pieces, pieces}

-- ---- several

-- the blocks before are prepared
pub before_more : (ts us : List (List ℕ)) (ps qs : List Prepared) (f : Option BlockFault) → ArePrepared ts ps None → ArePrepared us qs f → ArePrepared (ts ++ us) (ps ++ qs) f
before_more [] us [] qs f before after = after
before_more [] us (p ∷ ps) qs f before after = absurd before
before_more (t ∷ ts) us [] qs f before after = absurd before
before_more (t ∷ ts) us (p ∷ ps) qs f before after = (before.0, before_more ts us ps qs f before.1 after)

-- whatever stands behind the first bad block
pub stops_before : (ts us : List (List ℕ)) (ps : List Prepared) (f : BlockFault) → ArePrepared ts ps (Some f) → ArePrepared (ts ++ us) ps (Some f)
stops_before [] us [] f stops = absurd stops
stops_before [] us (p ∷ ps) f stops = absurd stops
stops_before (t ∷ ts) us [] f stops = stops
stops_before (t ∷ ts) us (p ∷ ps) f stops = (stops.0, stops_before ts us ps f stops.1)

pub one_block_more : (texts : List (List ℕ)) (i : ℕ) (t : List ℕ) (ps : List Prepared) (p : Prepared) → i < length texts → t ≡ get_or texts i t → ArePrepared (take i texts) ps None
    → IsPrepared t p → ArePrepared (take (i + 1) texts) (ps ++ p ∷ []) None
one_block_more texts i t ps p lt is before more =
    subst (λ (l : List (List ℕ)). ArePrepared l (ps ++ p ∷ []) None) (sym (taken_at texts i t lt is)) (before_more (take i texts) (t ∷ []) ps (p ∷ []) None before (more, tt))

pub stops_here : (texts : List (List ℕ)) (i : ℕ) (t : List ℕ) (ps : List Prepared) (f : BlockFault) → i < length texts → t ≡ get_or texts i t → ArePrepared (take i texts) ps None
    → FirstBlockFault t f → ArePrepared texts ps (Some f)
stops_here texts i t ps f lt is before stops =
    subst (λ (l : List (List ℕ)). ArePrepared l ps (Some f)) (sym (cut_at texts i t lt is))
    (subst (λ (l : List Prepared). ArePrepared (take i texts ++ (t ∷ drop (i + 1) texts)) l (Some f)) (append-nil ps)
    (before_more (take i texts) (t ∷ drop (i + 1) texts) ps [] (Some f) before stops))

-- the first bad block ends the list
pub stops_by : {V E : Type 0} (list_of : V → List Prepared) (fault_of : V → Option BlockFault) (texts : List (List ℕ)) (i : ℕ) (t : List ℕ) (ps : List Prepared) (f : BlockFault) (r : Result V E)
    → i < length texts → t ≡ get_or texts i t → ArePrepared (take i texts) ps None → (f ≡ fault.Memory) ⊎ FirstBlockFault t f
    → IfOk r (λ v. (list_of v ≡ ps) × (fault_of v ≡ Some f) × (f ≢ fault.Memory)) → IfOk r (λ v. ArePrepared texts (list_of v) (fault_of v))
stops_by list_of fault_of texts i t ps f (Err e) lt is before stops k = tt
stops_by list_of fault_of texts i t ps f (Ok v) lt is before (inl m) k = absurd (k.2 m)
stops_by list_of fault_of texts i t ps f (Ok v) lt is before (inr s) k = rw (k.0, k.1) (stops_here texts i t ps f lt is before s)

-- a block by itself
pub one_stops : {V E : Type 0} (list_of : V → List Prepared) (fault_of : V → Option BlockFault) (t : List ℕ) (f : BlockFault) (r : Result V E) → (f ≡ fault.Memory) ⊎ FirstBlockFault t f
    → IfOk r (λ v. (list_of v ≡ []) × (fault_of v ≡ Some f) × (f ≢ fault.Memory)) → IfOk r (λ v. ArePrepared (t ∷ []) (list_of v) (fault_of v))
one_stops list_of fault_of t f (Err e) stops k = tt
one_stops list_of fault_of t f (Ok v) (inl m) k = absurd (k.2 m)
one_stops list_of fault_of t f (Ok v) (inr s) k = rw (k.0, k.1) s

-- ---- pieces

-- Some pieces are joined, all of good blocks, and others are left.
pub record AreJoining {V E : Type 0} (list_of : V → List Prepared) (fault_of : V → Option BlockFault) (size : ℕ) (all : List (List ℕ)) (list : List Prepared)
    (rs : List (Result V E)) : Type 0 where
  pub passed : List (List ℕ)
  pub left : List (List ℕ)
  pub whole : passed ++ left ≡ all
  pub before : ArePrepared passed list None
  pub pieces : Pieces (λ part r. IfOk r (λ v. ArePrepared part (list_of v) (fault_of v))) size left rs

pub joining_begins : {V E : Type 0} (list_of : V → List Prepared) (fault_of : V → Option BlockFault) (size : ℕ) (all : List (List ℕ)) (rs : List (Result V E)) → 0 < size
    → length rs ≡ length all / size + min 1 (length all % size)
    → ((n : ℕ) (d : Result V E) → n < length rs → IfOk (slice_index_or rs n d) (λ v. ArePrepared (slice_chunk all size n) (list_of v) (fault_of v)))
    → AreJoining list_of fault_of size all [] rs
joining_begins list_of fault_of size all rs some count each = record {
  passed = [];
  left = all;
  whole = refl;
  before = tt;
  pieces = pieces (λ part r. IfOk r (λ v. ArePrepared part (list_of v) (fault_of v))) size all rs some count each;
}

pub joining_more : {V E : Type 0} (list_of : V → List Prepared) (fault_of : V → Option BlockFault) (size : ℕ) (all : List (List ℕ)) (list : List Prepared) (now rest : List (Result V E)) (v : V)
    → now ≡ Ok v ∷ rest → fault_of v ≡ None → AreJoining list_of fault_of size all list now → AreJoining list_of fault_of size all (list ++ list_of v) rest
joining_more {V} {E} list_of fault_of size all list now rest v is none j =
    let k : AreJoining list_of fault_of size all list (Ok v ∷ rest) = subst (λ (rs : List (Result V E)). AreJoining list_of fault_of size all list rs) is j in
    record {
      passed = k.passed ++ take size k.left;
      left = drop size k.left;
      whole = append_assoc k.passed (take size k.left) (drop size k.left) ∙ ap (λ (l : List (List ℕ)). k.passed ++ l) (take-append-drop size k.left) ∙ k.whole;
      before = before_more k.passed (take size k.left) list (list_of v) None k.before (subst (λ (f : Option BlockFault). ArePrepared (take size k.left) (list_of v) f) none k.pieces.0);
      pieces = k.pieces.1;
    }

pub joining_stops : {V E : Type 0} (list_of : V → List Prepared) (fault_of : V → Option BlockFault) (size : ℕ) (all : List (List ℕ)) (list : List Prepared) (now rest : List (Result V E)) (v : V)
    (f : BlockFault) → now ≡ Ok v ∷ rest → fault_of v ≡ Some f → AreJoining list_of fault_of size all list now → ArePrepared all (list ++ list_of v) (Some f)
joining_stops {V} {E} list_of fault_of size all list now rest v f is some j =
    let k : AreJoining list_of fault_of size all list (Ok v ∷ rest) = subst (λ (rs : List (Result V E)). AreJoining list_of fault_of size all list rs) is j in
    let here : ArePrepared (take size k.left) (list_of v) (Some f) = subst (λ (g : Option BlockFault). ArePrepared (take size k.left) (list_of v) g) some k.pieces.0 in
    let there : ArePrepared k.left (list_of v) (Some f)
    = subst (λ (l : List (List ℕ)). ArePrepared l (list_of v) (Some f)) (take-append-drop size k.left) (stops_before (take size k.left) (drop size k.left) (list_of v) f here) in
    subst (λ (l : List (List ℕ)). ArePrepared l (list ++ list_of v) (Some f)) k.whole (before_more k.passed k.left list (list_of v) (Some f) k.before there)

pub joining_ends : {V E : Type 0} (list_of : V → List Prepared) (fault_of : V → Option BlockFault) (size : ℕ) (all : List (List ℕ)) (list : List Prepared) (now : List (Result V E)) → now ≡ []
    → AreJoining list_of fault_of size all list now → ArePrepared all list None
joining_ends {V} {E} list_of fault_of size all list now none j =
    let k : AreJoining list_of fault_of size all list [] = subst (λ (rs : List (Result V E)). AreJoining list_of fault_of size all list rs) none j in
    subst (λ (l : List (List ℕ)). ArePrepared l list None) (sym (append-nil k.passed) ∙ ap (λ (l : List (List ℕ)). k.passed ++ l) (sym k.pieces) ∙ k.whole) k.before

-- the same, by whether there is a fault
pub joining_stops_if : {V E : Type 0} (list_of : V → List Prepared) (fault_of : V → Option BlockFault) (size : ℕ) (all : List (List ℕ)) (list : List Prepared) (now rest : List (Result V E)) (v : V)
    → now ≡ Ok v ∷ rest → is_some (fault_of v) ≡ true → AreJoining list_of fault_of size all list now → ArePrepared all (list ++ list_of v) (fault_of v)
joining_stops_if {V} {E} list_of fault_of size all list now rest v is some j = by (fault_of v) refl some
  where
    by : (f : Option BlockFault) → fault_of v ≡ f → is_some f ≡ true → ArePrepared all (list ++ list_of v) f
    by None e some = absurd cc
    by (Some f) e some = joining_stops list_of fault_of size all list now rest v f is e j

pub joining_more_if : {V E : Type 0} (list_of : V → List Prepared) (fault_of : V → Option BlockFault) (size : ℕ) (all : List (List ℕ)) (list : List Prepared) (now rest : List (Result V E)) (v : V)
    → now ≡ Ok v ∷ rest → is_some (fault_of v) ≡ false → AreJoining list_of fault_of size all list now → AreJoining list_of fault_of size all (list ++ list_of v) rest
joining_more_if {V} {E} list_of fault_of size all list now rest v is none j = joining_more list_of fault_of size all list now rest v is (by (fault_of v) none) j
  where
    by : (f : Option BlockFault) → is_some f ≡ false → f ≡ None
    by None e = refl
    by (Some f) e = absurd cc
