-- Prepared blocks are put in, batch after batch.
use Rattle.std.proofs.Common.{◌≡◌, ◌⊎◌, inl, inr, ℕ, zero, suc, ◌+◌, ◌-◌, ◌<◌, ◌≤◌, List, [], ◌∷◌, ◌++◌, length, drop, get_or, Option, Some, None, refl, sym, subst, ap, ◌∙◌, append_assoc, length-append, arith}
use Rattle.std.specs.List.{AllByRecursion}
use Rattle.std.proofs.lemmas.List.{get_or-drop, length-drop, drop-drop}
use Rattle.std.proofs.Math.Seq.{drop-append_seam}
use Rattle.el_block.specs.BlockFaults.{FirstBlockFault}
use Rattle.el_block.specs.declared.fault.BlockFault.{BlockFault}
use Rattle.el_block.specs.declared.fault.BlockFault.TheVariants as fault
use Rattle.el_chain.specs.declared.moves.MoveFault.{MoveFault}
use Rattle.el_chain.specs.declared.moves.MoveFault.TheVariants as stop
use Rattle.el_chain.specs.declared.node.Node.{Node}
use Rattle.el_chain.specs.Chains.{Chain}
use Rattle.el_chain.specs.Moves.{AreOf, FaultInAt, IsStop}
use Rattle.el_chain.specs.Records.{IsNode}
use Rattle.el_chain.proofs.MoveSteps.{Left, next_is}
use Rattle.el_chain.proofs.DraftSteps.{same_length}
use Rattle.el_prepare.specs.declared.prepared.Prepared.{Prepared}
use Rattle.el_prepare.specs.Batches.{IsPrepared, ArePrepared}
use Rattle.el_row_formats.specs.Tables.{Tables}
use Rattle.el_index.specs.within.Adding.{IsAdding, IsOwn}
use Rattle.el_index.proofs.Addings.{adding_stops}

-- ---- nodes and texts that are left

left_by : (i : ℕ) (ns : List Node) (ts : List (List ℕ)) → AllByRecursion IsNode ns → AreOf ns ts → AllByRecursion IsNode (drop i ns) × AreOf (drop i ns) (drop i ts)
left_by zero ns ts all of = (all, of)
left_by (suc i) [] [] all of = (tt, tt)
left_by (suc i) [] (t ∷ ts) all of = absurd of
left_by (suc i) (n ∷ ns) [] all of = absurd of
left_by (suc i) (n ∷ ns) (t ∷ ts) all of = left_by i ns ts all.1 of.1

pub left_of : (ns : List Node) (ts : List (List ℕ)) (i : ℕ) → AllByRecursion IsNode ns → AreOf ns ts → Left ns ts i
left_of ns ts i all of = let l = left_by i ns ts all of in record { nodes_left = l.0; of = l.1 }

-- ---- what is prepared of a batch

pub prepared_length : (ts : List (List ℕ)) (ps : List Prepared) → ArePrepared ts ps None → length ts ≡ length ps
prepared_length [] [] a = refl
prepared_length [] (p ∷ ps) a = absurd a
prepared_length (t ∷ ts) [] a = absurd a
prepared_length (t ∷ ts) (p ∷ ps) a = ap suc (prepared_length ts ps a.1)

prepared_at : (ts rest : List (List ℕ)) (ps : List Prepared) (i : ℕ) (t : List ℕ) (p : Prepared) → ArePrepared ts ps None → i < length ps → p ≡ get_or ps i p → t ≡ get_or (ts ++ rest) i t → IsPrepared t p
prepared_at [] rest [] i t p a lt p_is t_is = absurd (omega arith)
prepared_at [] rest (q ∷ ps) i t p a lt p_is t_is = absurd a
prepared_at (u ∷ ts) rest [] i t p a lt p_is t_is = absurd a
prepared_at (u ∷ ts) rest (q ∷ ps) zero t p a lt p_is t_is = subst (λ (x : List ℕ). IsPrepared x p) (sym t_is) (subst (λ (x : Prepared). IsPrepared u x) (sym p_is) a.0)
prepared_at (u ∷ ts) rest (q ∷ ps) (suc i) t p a lt p_is t_is = prepared_at ts rest ps i t p a.1 (omega arith) p_is t_is

-- The good blocks in front, and how the batch ends.
pub record Front (ts : List (List ℕ)) (ps : List Prepared) (f : Option BlockFault) : Type 0 where
  pub passed : List (List ℕ)
  pub rest : List (List ℕ)
  pub whole : ts ≡ passed ++ rest
  pub prepared : ArePrepared passed ps None
  pub ends : ArePrepared rest [] f

pub front : (ts : List (List ℕ)) (ps : List Prepared) (f : Option BlockFault) → ArePrepared ts ps f → Front ts ps f
front [] [] f a = record { passed = []; rest = []; whole = refl; prepared = tt; ends = a }
front [] (p ∷ ps) f a = absurd a
front (t ∷ ts) [] f a = record { passed = []; rest = t ∷ ts; whole = refl; prepared = tt; ends = a }
front (t ∷ ts) (p ∷ ps) f a =
    let r = front ts ps f a.1 in
    record { passed = t ∷ r.passed; rest = r.rest; whole = ap (λ (l : List (List ℕ)). t ∷ l) r.whole; prepared = (a.0, r.prepared); ends = r.ends }

-- ---- a batch within the move's texts

-- the blocks that are prepared stand next
abbrev pub StandNext : List (List ℕ) → ℕ → List Prepared → Type 0
StandNext texts from ps = (passed rest : List (List ℕ)) × (drop from texts ≡ passed ++ rest) × ArePrepared passed ps None

pub next_within : (texts : List (List ℕ)) (from : ℕ) (ps : List Prepared) (i : ℕ) → StandNext texts from ps → i < length ps → from + i < length texts
next_within texts from ps i s lt =
    let size = length-drop from texts in
    let same = prepared_length s.0 ps s.3 in
    let both = length-append s.0 s.1 in
    let all = ap length s.2 in
    omega arith

pub next_prepared : (texts : List (List ℕ)) (from : ℕ) (ps : List Prepared) (i : ℕ) (t : List ℕ) (p : Prepared) → StandNext texts from ps → i < length ps → p ≡ get_or ps i p → t ≡ get_or texts (from + i) t
    → IsPrepared t p
next_prepared texts from ps i t p s lt p_is t_is =
    prepared_at s.0 s.1 ps i t p s.3 lt p_is (t_is ∙ sym (get_or-drop from texts i t) ∙ ap (λ (l : List (List ℕ)). get_or l i t) s.2)

-- the good blocks of a batch that stands next
pub batch_next : (texts batch : List (List ℕ)) (from : ℕ) (ps : List Prepared) (f : Option BlockFault) → (rest : List (List ℕ)) × (drop from texts ≡ batch ++ rest) → ArePrepared batch ps f
    → StandNext texts from ps
batch_next texts batch from ps f b a =
    let r = front batch ps f a in
    (r.passed, r.rest ++ b.0, b.1 ∙ ap (λ (l : List (List ℕ)). l ++ b.0) r.whole ∙ append_assoc r.passed r.rest b.0, r.prepared)

-- ---- the first bad block of a batch

first_left : (passed rest : List (List ℕ)) (t : List ℕ) (n : ℕ) → n ≡ length passed → get_or (passed ++ t ∷ rest) n t ≡ t
first_left [] rest t n is = ap (λ (k : ℕ). get_or (t ∷ rest) k t) is
first_left (u ∷ passed) rest t n is = ap (λ (k : ℕ). get_or (u ∷ (passed ++ t ∷ rest)) k t) is ∙ first_left passed rest t (length passed) refl

pub record Bad (texts : List (List ℕ)) (i : ℕ) (f : BlockFault) : Type 0 where
  pub text : List ℕ
  pub is : text ≡ get_or texts i text
  pub below : i < length texts
  pub first_fault : FirstBlockFault text f

bad_by : (texts passed rest more : List (List ℕ)) (from : ℕ) (ps : List Prepared) (f : BlockFault) → drop from texts ≡ passed ++ (rest ++ more) → ArePrepared passed ps None → ArePrepared rest [] (Some f)
    → Bad texts (from + length ps) f
bad_by texts passed [] more from ps f whole prepared ends = absurd ends
bad_by texts passed (t ∷ rest) more from ps f whole prepared ends =
    let same = prepared_length passed ps prepared in
    let size = length-drop from texts in
    let both = length-append passed (t ∷ (rest ++ more)) in
    let all = ap length whole in
    record {
      text = t;
      is = sym (sym (get_or-drop from texts (length ps) t) ∙ ap (λ (l : List (List ℕ)). get_or l (length ps) t) whole ∙ first_left passed (rest ++ more) t (length ps) (sym same));
      below = omega arith;
      first_fault = ends;
    }

pub bad_next : (texts batch : List (List ℕ)) (from : ℕ) (ps : List Prepared) (f : BlockFault) → (rest : List (List ℕ)) × (drop from texts ≡ batch ++ rest) → ArePrepared batch ps (Some f)
    → Bad texts (from + length ps) f
bad_next texts batch from ps f b a =
    let r = front batch ps (Some f) a in
    bad_by texts r.passed r.rest b.0 from ps f (b.1 ∙ ap (λ (l : List (List ℕ)). l ++ b.0) r.whole ∙ append_assoc r.passed r.rest b.0) r.prepared r.ends

-- the first bad block stops the move
pub bad_stops : (heads : ℕ) (chain : Chain) (nodes : List Node) (texts : List (List ℕ)) (i : ℕ) (rows : Tables) (blocks : Chain) (n d : Node) (f : BlockFault) (e : MoveFault) → AllByRecursion IsNode nodes
    → AreOf nodes texts → Bad texts i f → n ≡ get_or nodes i d → (f ≡ fault.Memory → e ≡ stop.Memory) → (f ≡ fault.Memory) ⊎ (e ≡ stop.BadBlock n.hash f)
    → IsAdding heads chain nodes texts i rows blocks → IsOwn e ⊎ FaultInAt chain nodes texts e
bad_stops heads chain nodes texts i rows blocks n d f e all of bad n_is memory (inl m) adding = inl (inr (memory m))
bad_stops heads chain nodes texts i rows blocks n d f e all of bad n_is memory (inr is) adding =
    let same = same_length nodes texts of in
    let below = bad.below in
    adding_stops heads chain nodes texts i rows blocks n bad.text e adding (next_is nodes texts i n d bad.text (left_of nodes texts i all of) (omega arith) n_is bad.is)
    (inr (subst (IsStop (chain ++ blocks) n.hash bad.text) (sym is) (refl, bad.first_fault)))

-- ---- batch after batch

-- where the next batch begins
pub record Passed {T : Type 0} (texts batch left : List T) (from : ℕ) : Type 0 where
  pub fits : length left ≤ length texts
  pub place : length texts - length left ≡ from + length batch
  pub next : drop (length texts - length left) texts ≡ left

pub passed : {T : Type 0} (texts batch left : List T) (from : ℕ) → drop from texts ≡ batch ++ left → from ≤ length texts → Passed texts batch left from
passed {T} texts batch left from whole few =
    let size = length-drop from texts in
    let both = length-append batch left in
    let all = ap length whole in
    let place : length texts - length left ≡ from + length batch = omega arith in
    record {
      fits = omega arith;
      place = place;
      next = ap (λ (k : ℕ). drop k texts) place ∙ sym (drop-drop (length batch) from texts) ∙ ap (drop (length batch)) whole ∙ drop-append_seam batch left;
    }
