-- Claims and what pieces report of them.
use Rattle.std.proofs.Common.{◌≡◌, ℕ, ◌+◌, ◌/◌, ◌%◌, ◌<◌, min, cond, Bool, true, false, List, [], ◌∷◌, ◌++◌, length, take, drop, get_or, Result, Ok, refl, ap, sym, subst, ◌∙◌, append_assoc, append-nil}
use Rattle.std.specs.Prelude.{slice_index_or, IfOk}
use Rattle.std.specs.Fork.{slice_chunk}
use Rattle.std.specs.List.{AllByRecursion}
use Rattle.std.proofs.lemmas.List.{take-append-drop}
use Rattle.indexmap.specs.IndexMap.{IndexMap}
use Rattle.el_base.specs.declared.hash.Hash32.{Hash32}
use Rattle.el_base.proofs.Lists.{all_append, all_more, all_weaker, taken_at}
use Rattle.el_chain.specs.declared.coin.Coin.{Coin}
use Rattle.el_chain.specs.declared.entry.Entry.{Entry}
use Rattle.el_chain.specs.Chains.{Chain}
use Rattle.el_chain.specs.Faults.{IsGood}
use Rattle.el_chain.specs.Headers.{same_hash}
use Rattle.el_chain.specs.History.{history}
use Rattle.el_chain.proofs.TouchLemmas.{hash_from}
use Rattle.el_model.specs.Queries.{unspent}
use Rattle.el_prepare.proofs.PieceLemmas.{Pieces, pieces}
use Rattle.el_audit.specs.declared.claim.Claim.{Claim}
use Rattle.el_audit.specs.declared.claim.Kind.{Kind}
use Rattle.el_audit.specs.declared.claim.Report.{Report}
use Rattle.el_audit.specs.declared.claim.Report.TheVariants.{Same, Differs}
use Rattle.el_audit.specs.Claims.{IsRight}
use Rattle.el_audit.specs.Reports.{IsFirstDifference, IsReport}
use Rattle.el_audit.specs.within.Lists.{AreLists}
use Rattle.el_audit.specs.within.Comparing.{IsGivenByChain, AreGiven}
use Rattle.el_audit.proofs.Bounds.{good_balance}
use Rattle.el_audit.proofs.Reports.{after_right, before_any}

-- the lists of the named script hashes serve the claims that are named
pub given : {S R : Type 0} (chain : Chain) (claims : List Claim) (is_named : Hash32 → Bool) (histories : IndexMap Hash32 (List Entry) S) (coins : IndexMap Hash32 (List Coin) R) → IsGood chain
    → AllByRecursion (λ (c : Claim). is_named c.script ≡ true) claims → AreLists is_named histories (λ s. history chain s.0) → AreLists is_named coins (λ s. unspent chain s.0)
    → AreGiven chain claims histories coins
given chain claims is_named histories coins good named entries values =
    all_weaker (λ (c : Claim). is_named c.script ≡ true) (IsGivenByChain chain histories coins) claims
    (λ c n. record { history = entries c.script n; unspent = values c.script n; money = good_balance chain c.script.0 good }) named

-- The claims of some pieces are right, and the reports on others are left.
pub record AreJoining {E : Type 0} (chain : Chain) (size : ℕ) (all : List Claim) (rs : List (Result Report E)) : Type 0 where
  pub passed : List Claim
  pub left : List Claim
  pub whole : passed ++ left ≡ all
  pub right : AllByRecursion (IsRight chain) passed
  pub pieces : Pieces (λ part r. IfOk r (IsReport chain part)) size left rs

pub joining_begins : {E : Type 0} (chain : Chain) (size : ℕ) (all : List Claim) (rs : List (Result Report E)) → 0 < size → length rs ≡ length all / size + min 1 (length all % size)
    → ((n : ℕ) (d : Result Report E) → n < length rs → IfOk (slice_index_or rs n d) (IsReport chain (slice_chunk all size n))) → AreJoining chain size all rs
joining_begins chain size all rs some count each = record {
  passed = [];
  left = all;
  whole = refl;
  right = tt;
  pieces = pieces (λ part r. IfOk r (IsReport chain part)) size all rs some count each;
}

pub joining_more : {E : Type 0} (chain : Chain) (size : ℕ) (all : List Claim) (now rest : List (Result Report E)) (report : Report) (n : ℕ) → now ≡ Ok report ∷ rest → report ≡ Same n
    → AreJoining chain size all now → AreJoining chain size all rest
joining_more {E} chain size all now rest report n is same j =
    let k : AreJoining chain size all (Ok report ∷ rest) = subst (AreJoining chain size all) is j in
    let here : IsReport chain (take size k.left) (Same n) = subst (IsReport chain (take size k.left)) same k.pieces.0 in
    record {
      passed = k.passed ++ take size k.left;
      left = drop size k.left;
      whole = append_assoc k.passed (take size k.left) (drop size k.left) ∙ ap (λ (l : List Claim). k.passed ++ l) (take-append-drop size k.left) ∙ k.whole;
      right = all_append (IsRight chain) k.passed (take size k.left) k.right here.0;
      pieces = k.pieces.1;
    }

pub joining_stops : {E : Type 0} (chain : Chain) (size : ℕ) (all : List Claim) (now rest : List (Result Report E)) (report : Report) (s : Hash32) (kind : Kind) (at : ℕ) → now ≡ Ok report ∷ rest
    → report ≡ Differs s kind at → AreJoining chain size all now → IsReport chain all report
joining_stops {E} chain size all now rest report s kind at is differs j =
    let k : AreJoining chain size all (Ok report ∷ rest) = subst (AreJoining chain size all) is j in
    let here : IsFirstDifference chain (take size k.left) s kind at = subst (IsReport chain (take size k.left)) differs k.pieces.0 in
    let there : IsFirstDifference chain k.left s kind at
    = subst (λ (l : List Claim). IsFirstDifference chain l s kind at) (take-append-drop size k.left) (before_any chain (take size k.left) (drop size k.left) s kind at here) in
    let first : IsFirstDifference chain all s kind at
    = subst (λ (l : List Claim). IsFirstDifference chain l s kind at) k.whole (after_right chain k.passed k.left s kind at k.right there) in
    subst (IsReport chain all) (sym differs) first

pub joining_ends : {E : Type 0} (chain : Chain) (size : ℕ) (all : List Claim) (now : List (Result Report E)) → now ≡ [] → AreJoining chain size all now → AllByRecursion (IsRight chain) all
joining_ends {E} chain size all now none j =
    let k : AreJoining chain size all [] = subst (AreJoining chain size all) none j in
    subst (AllByRecursion (IsRight chain)) (sym (append-nil k.passed) ∙ ap (λ (l : List Claim). k.passed ++ l) (sym k.pieces) ∙ k.whole) k.right

-- one more claim's script hash is put to the names
pub named_more : (old new : Hash32 → Bool) (claims : List Claim) (i : ℕ) (c : Claim) → i < length claims → c ≡ get_or claims i c
    → ((s : Hash32) → new s ≡ cond (same_hash c.script s) true (old s)) → AllByRecursion (λ (x : Claim). old x.script ≡ true) (take i claims)
    → AllByRecursion (λ (x : Claim). new x.script ≡ true) (take (i + 1) claims)
named_more old new claims i c lt is says named =
    subst (AllByRecursion (λ (x : Claim). new x.script ≡ true)) (sym (taken_at claims i c lt is))
    (all_more (λ (x : Claim). new x.script ≡ true) (take i claims) c
    (all_weaker (λ (x : Claim). old x.script ≡ true) (λ (x : Claim). new x.script ≡ true) (take i claims) (λ x n. says x.script ∙ still (same_hash c.script x.script) (old x.script) n) named)
    (says c.script ∙ rw (hash_from c.script c.script refl) refl))
  where
    still : (b o : Bool) → o ≡ true → cond b true o ≡ true
    still true o n = refl
    still false o n = n
