-- Paths of found headers.
use Rattle.std.proofs.Common.{◌≡◌, ℕ, zero, suc, Bool, true, false, ◌||◌, true≢false, List, [], ◌∷◌, Option, Some, refl, sym, ap, ◌∙◌}
use Rattle.std.specs.Prelude.{slice_get, Result, Ok, Err, IfOk}
use Rattle.el_base.specs.declared.hash.Hash32.{Hash32}
use Rattle.el_chain.specs.Chains.{Chain, zero_hash}
use Rattle.el_chain.specs.Headers.{AreLinked, IsPath, genesis, is_known, same_hash}
use Rattle.el_chain.specs.declared.node.Node.{Node}
use Rattle.el_chain.proofs.TouchLemmas.{hash_from, hash_gives}
use Rattle.el_headers.specs.Adding.{HasNoPath}
use Rattle.el_headers.specs.declared.answer.PathFault.{PathFault}
use Rattle.el_headers.specs.declared.answer.PathFault.TheVariants as fault
use Rattle.el_headers.proofs.Paths.{path_known}
use Rattle.el_audit_run.specs.Findings.{IsFinding}
use Rattle.el_audit_run.specs.declared.fault.AuditFault.{AuditFault}
use Rattle.el_audit_run.specs.declared.finding.Finding.{Finding}
use Rattle.el_audit_run.specs.within.Faults.{IsUnreached}

-- a path is linked from its first node on, which names no block
pub path_linked : (found path : List Node) (h : Hash32) → IsPath found h path → AreLinked zero_hash path
path_linked found path h p = rw p.whole (names_zero found p.first p.begins, p.linked)
  where
    by : (found : List Node) (x n : Node) (s : Bool) → same_hash x.header.previous zero_hash ≡ s → genesis (x ∷ found) ≡ Some n
        → (genesis found ≡ Some n → n.header.previous ≡ zero_hash) → n.header.previous ≡ zero_hash
    by found x n true is e go =
        let one : x ≡ n = (let f = rw is at e in cc) in
        rw (← one) (hash_gives x.header.previous zero_hash is)
    by found x n false is e go = go (let f = rw is at e in f)

    names_zero : (found : List Node) (n : Node) → genesis found ≡ Some n → n.header.previous ≡ zero_hash
    names_zero [] n e = absurd (let f = e in cc)
    names_zero (x ∷ xs) n e = by xs x n (same_hash x.header.previous zero_hash) refl e (names_zero xs n)

or_true : (b : Bool) → (b || true) ≡ true
or_true true = refl
or_true false = refl

known_at : (found : List Node) (h : Hash32) (i : ℕ) (n : Node) → slice_get found i ≡ Some n → n.hash ≡ h → is_known found h ≡ true
known_at [] h i n is same = absurd (let e = is in cc)
known_at (m ∷ ms) h zero n is same =
    let one : m ≡ n = (let e = is in cc) in
    rw (hash_from m.hash h (ap (λ (x : Node). x.hash) one ∙ same)) refl
known_at (m ∷ ms) h (suc i) n is same = rw (known_at ms h i n is same) (or_true _)

no_path : (found : List Node) (h : Hash32) (path : List Node) → is_known found h ≡ false → IsPath found h path → ⊥
no_path found h path unknown p =
    let k = path_known found h path p in
    true≢false (sym (known_at found h k.0 k.1 k.2 k.3) ∙ unknown)

-- what is found where no path is given
pub none_reached : (stands : Chain → Type 0) (own : Option Hash32) (tree : List Node) (stood : Node → List ℕ → Type 0) (tip : Hash32) (f : PathFault) (r : Result Finding AuditFault)
    → IsUnreached tip f r → HasNoPath tree tip f → own ≡ Some tip → IfOk r (IsFinding stands own tree stood)
none_reached stands own tree stood tip fault.Unknown r is none same = rw is (same, λ path p. no_path tree tip path none p)
none_reached stands own tree stood tip fault.Unconnected r is none same = rw is (same, none.1)
none_reached stands own tree stood tip fault.Memory r is none same = rw is tt
