-- What is found, told of fewer chains; faults of asking; and claims in parts.
use Rattle.std.proofs.Common.{◌≡◌, ◌≢◌, ℕ, List, [], ◌∷◌, ◌++◌, ◌<◌, ◌≤◌, length, map, take, drop, refl, sym, ap, ◌∙◌, arith, append_assoc, append-nil}
use Rattle.std.specs.Prelude.{Option, Result, Ok, Err}
use Rattle.std.proofs.lemmas.List.{map-append}
use Rattle.el_outside.specs.Counts.{CountsOnly}
use Rattle.el_chain.specs.Chains.{Chain}
use Rattle.el_chain.specs.declared.node.Node.{Node}
use Rattle.el_base.specs.declared.hash.Hash32.{Hash32}
use Rattle.el_model.specs.LedgerCalls.{Asked}
use Rattle.el_model.specs.declared.ledger.Ledger as ledgers
use Rattle.el_model.proofs.LedgerMoves.{asked_none, asked_on}
use Rattle.el_model.specs.declared.fault.QueryFault.{QueryFault}
use Rattle.el_model.specs.declared.fault.QueryFault.TheVariants as query
use Rattle.el_audit.specs.Claims.{claim_of}
use Rattle.el_audit.specs.declared.claim.Claim.{Claim}
use Rattle.el_audit_run.specs.Findings.{AreAnswers, IsFinding}
use Rattle.el_audit_run.specs.declared.fault.AuditFault.{AuditFault}
use Rattle.el_audit_run.specs.declared.fault.AuditFault.TheVariants as audit
use Rattle.el_audit_run.specs.declared.finding.Finding.{Finding}
use Rattle.el_audit_run.specs.declared.finding.Finding.TheVariants as finding
use Rattle.el_audit_run.specs.within.Faults.{unasked}

answers_weaker : (P Q : Chain → Type 0) (chain : Chain) (claims : List Claim) → ((own : Chain) → Q own → P own) → AreAnswers P chain claims → AreAnswers Q chain claims
answers_weaker P Q chain claims weaker a = record { each = a.each; once = a.once; sorted = a.sorted; told = λ own is. a.told own (weaker own is) }

-- the index stands for fewer chains
pub finding_weaker : (P Q : Chain → Type 0) (tip : Option Hash32) (tree : List Node) (stood : Node → List ℕ → Type 0) (f : Finding) → ((own : Chain) → Q own → P own)
    → IsFinding P tip tree stood f → IsFinding Q tip tree stood f
finding_weaker P Q tip tree stood finding.Empty weaker h = h
finding_weaker P Q tip tree stood (finding.NoPath hash) weaker h = h
finding_weaker P Q tip tree stood (finding.TooLarge bytes) weaker h = h
finding_weaker P Q tip tree stood (finding.BadBlock block flaw) weaker h = h
finding_weaker P Q tip tree stood (finding.Differs script kind at) weaker h =
    let k = h.3.2 in
    (h.0, h.1, h.2, (h.3.0, h.3.1, (k.0, answers_weaker P Q h.3.0 k.0 weaker k.1, k.2)))
finding_weaker P Q tip tree stood (finding.Same height txs scripts) weaker h =
    let k = h.3.2 in
    (h.0, h.1, h.2, (h.3.0, h.3.1, (k.0, answers_weaker P Q h.3.0 k.0 weaker k.1, k.2, k.3, k.4)))

-- a fault of asking, as one of an audit
pub asked_as : {S T : Type 0} (low high : ℕ) (q : QueryFault) (e : AuditFault) → CountsOnly {T = S} low high query.DiskFailed (Err q) → e ≡ unasked q → CountsOnly {T = T} low high audit.DiskFailed (Err e)
asked_as low high query.DiskFailed e c is = rw is (record { counted = λ f. c.counted refl; uncounted = tt; others_uncounted = λ apart. absurd (apart refl) })
asked_as low high query.Memory e c is = rw is (record { counted = λ f. absurd cc; uncounted = tt; others_uncounted = λ apart. c.others_uncounted (λ f. cc) })

pub asked_no_archive : (q : QueryFault) (e : AuditFault) → e ≡ unasked q → e ≢ audit.ArchiveFailed
asked_no_archive query.DiskFailed e is f = let g = sym is ∙ f in cc
asked_no_archive query.Memory e is f = let g = sym is ∙ f in cc

-- ---- claims in parts

-- what was asked so far
pub record AskedSo {G : Type 0} (of : ledgers.Ghosts G) (before now : G) (scripts left : List Hash32) (claims : List Claim) : Type 0 where
  pub quiet : Asked of before now
  pub done : List Hash32
  pub cut : scripts ≡ done ++ left
  pub are : (chain : Chain) → of.stands before chain → claims ≡ map (claim_of chain) done
  pub named : map (λ (c : Claim). c.script) claims ≡ done
  pub unfailed : of.faults now ≡ of.faults before

pub asked_begins : {G : Type 0} (of : ledgers.Ghosts G) (before : G) (scripts : List Hash32) (claims : List Claim) → claims ≡ [] → AskedSo of before before scripts scripts claims
asked_begins of before scripts claims none = record {
  quiet = asked_none of before;
  done = [];
  cut = refl;
  are = λ chain stands. none;
  named = ap (map (λ (c : Claim). c.script)) none;
  unfailed = refl;
}

-- one part more
pub asked_more : {G : Type 0} (of : ledgers.Ghosts G) (before mid now : G) (scripts left part rest : List Hash32) (claims more new : List Claim) → AskedSo of before mid scripts left claims
    → left ≡ part ++ rest → Asked of mid now → of.faults now ≡ of.faults mid → ((chain : Chain) → of.stands mid chain → more ≡ map (claim_of chain) part)
    → map (λ (c : Claim). c.script) more ≡ part → new ≡ claims ++ more → AskedSo of before now scripts rest new
asked_more of before mid now scripts left part rest claims more new a split quiet same are named joined = record {
  quiet = asked_on of before mid now a.quiet quiet;
  done = a.done ++ part;
  cut = a.cut ∙ ap (λ l. a.done ++ l) split ∙ sym (append_assoc a.done part rest);
  are = λ chain stands.
      joined ∙ ap (λ l. l ++ more) (a.are chain stands) ∙ ap (λ l. map (claim_of chain) a.done ++ l) (are chain (a.quiet.stays.still_stands chain stands))
      ∙ sym (map-append (claim_of chain) a.done part);
  named = ap (map (λ (c : Claim). c.script)) joined ∙ map-append (λ (c : Claim). c.script) claims more ∙ ap (λ l. l ++ map (λ (c : Claim). c.script) more) a.named
      ∙ ap (λ l. a.done ++ l) named;
  unfailed = same ∙ a.unfailed;
}

-- all were asked
pub asked_all : {G : Type 0} (of : ledgers.Ghosts G) (before now : G) (scripts left : List Hash32) (claims : List Claim) → AskedSo of before now scripts left claims → left ≡ []
    → ((chain : Chain) → of.stands before chain → claims ≡ map (claim_of chain) scripts) × (map (λ (c : Claim). c.script) claims ≡ scripts)
asked_all of before now scripts left claims a none =
    let all : a.done ≡ scripts = sym (a.cut ∙ ap (λ l. a.done ++ l) none ∙ append-nil a.done) in
    (λ chain stands. a.are chain stands ∙ ap (map (claim_of chain)) all, a.named ∙ all)
