-- What an audit finds over the blocks of the index's own chain.
use Rattle.std.proofs.Common.{◌≡◌, ℕ, suc, ◌+◌, List, [], ◌∷◌, ◌++◌, length, map, refl, sym, ap, subst, ◌∙◌, arith, append-nil, append_assoc}
use Rattle.std.specs.Prelude.{Option, None, Some}
use Rattle.std.specs.List.{AllByRecursion}
use Rattle.el_base.specs.declared.hash.Hash32.{Hash32}
use Rattle.el_base.proofs.Lists.{all_mid}
use Rattle.el_block.specs.declared.block.Block.{Block}
use Rattle.el_block.specs.Blocks.{EncodesBlock}
use Rattle.el_block.proofs.BlockLemmas.{never_both_block, one_block}
use Rattle.el_chain.specs.declared.moves.MoveFault.{MoveFault}
use Rattle.el_chain.specs.declared.moves.MoveFault.TheVariants as stop
use Rattle.el_chain.specs.declared.node.Node.{Node}
use Rattle.el_chain.specs.declared.placed.Placed.{Placed}
use Rattle.el_outside.specs.declared.archive.Place.{Place}
use Rattle.el_chain.specs.Chains.{Chain}
use Rattle.el_chain.specs.Faults.{AreNext, IsGood, IsNext, fault}
use Rattle.el_chain.specs.Headers.{IsFound, IsPath}
use Rattle.el_chain.specs.Moves.{AllStood, AreBlocks, FaultInAt, IsRefused, IsStop, Moves, shorter}
use Rattle.el_headers.proofs.OnePath.{one_path}
use Rattle.el_chain.specs.Records.{IsBlockOf}
use Rattle.el_lines.specs.NodeAnswers.{move_refused}
use Rattle.el_lines.specs.declared.node_answer.NodeAnswer.{NodeAnswer}
use Rattle.el_model.specs.Queries.{tip_of}
use Rattle.el_audit.specs.Claims.{claim_of}
use Rattle.el_audit.specs.Reports.{IsReport}
use Rattle.el_audit.specs.declared.claim.Claim.{Claim}
use Rattle.el_audit.specs.declared.claim.Report.TheVariants as report
use Rattle.el_audit.proofs.Reports.{answers_right}
use Rattle.el_audit_run.specs.Findings.{putting, IsBadBlock, IsCompared, IsFinding, IsNoDifference, IsTipPath, block_refused}
use Rattle.el_audit_run.specs.OwnBlocks.{GivesBlock}
use Rattle.el_audit_run.specs.declared.finding.Finding.{Finding}
use Rattle.el_audit_run.specs.declared.finding.Finding.TheVariants as finding
use Rattle.el_audit_run.proofs.Putting.{shorter_none}

-- ---- lists

-- one value, cut somewhere
only_one : {X : Type 0} (x : X) (front : List X) (y : X) (after : List X) → x ∷ [] ≡ front ++ y ∷ after → (front ≡ []) × (y ≡ x)
only_one x [] y after e = (refl, (let f = e in cc))
only_one x (z ∷ []) y after e = absurd (let f = e in cc)
only_one x (z ∷ w ∷ ws) y after e = absurd (let f = e in cc)

-- what is mapped, cut where its values are
pub record Cut {X Y : Type 0} (f : X → Y) (xs : List X) (front : List Y) (y : Y) : Type 0 where
  pub before : List X
  pub here : X
  pub after : List X
  pub whole : xs ≡ before ++ here ∷ after
  pub front_is : map f before ≡ front
  pub here_is : f here ≡ y

both : {X : Type 0} (a b : X) (as_ bs : List X) → a ≡ b → as_ ≡ bs → a ∷ as_ ≡ b ∷ bs
both a b as_ bs e f = rw (e, f) refl

cut : {X Y : Type 0} (f : X → Y) (xs : List X) (front : List Y) (y : Y) (after : List Y) → map f xs ≡ front ++ y ∷ after → Cut f xs front y
cut f [] [] y after e = absurd (let g = e in cc)
cut f [] (z ∷ zs) y after e = absurd (let g = e in cc)
cut f (x ∷ xs) [] y after e = record { before = []; here = x; after = xs; whole = refl; front_is = refl; here_is = (let g = e in cc) }
cut f (x ∷ xs) (z ∷ zs) y after e =
    let first : f x ≡ z = (let g = e in cc) in
    let rest : map f xs ≡ zs ++ y ∷ after = (let g = e in cc) in
    let c = cut f xs zs y after rest in
    record {
      before = x ∷ c.before;
      here = c.here;
      after = c.after;
      whole = ap (λ l. x ∷ l) c.whole;
      front_is = both (f x) z (map f c.before) zs first c.front_is;
      here_is = c.here_is;
    }

all_front : {X : Type 0} (P : X → Type 0) (xs ys : List X) → AllByRecursion P (xs ++ ys) → AllByRecursion P xs
all_front P [] ys all = tt
all_front P (x ∷ xs) ys all = (all.0, all_front P xs ys all.1)

-- ---- one block

no_blocks : (bs : Chain) → AreBlocks [] [] bs → bs ≡ []
no_blocks [] are = refl
no_blocks (b ∷ bs) are = absurd are

-- the block of one node stops a move, and what stood at its place is told
stopped : (stood : Node → List ℕ → Type 0) (base : Chain) (n : Node) (texts : List (List ℕ)) (e : MoveFault) → AllStood stood (n ∷ []) texts → FaultInAt base (n ∷ []) texts e
    → (text : List ℕ) × stood n text × IsStop base n.hash text e
stopped stood base n [] e told f = absurd told
stopped stood base n (t ∷ u ∷ us) e told f = absurd told.1
stopped stood base n (t ∷ []) e told f =
    let w = only_one n f.front f.node f.after f.whole in
    let v = only_one t f.front_texts f.text f.after_texts f.whole_texts in
    let none : f.blocks ≡ [] = no_blocks f.blocks (rw (w.0, v.0) at f.before.are) in
    let chain : base ++ f.blocks ≡ base = ap (λ l. base ++ l) none ∙ append-nil base in
    let P : Chain → Node → List ℕ → Type 0 = λ c m text. IsStop c m.hash text e in
    (t, told.0, subst (λ c. P c n t) chain (subst (λ m. P (base ++ f.blocks) m t) w.1 (subst (λ text. P (base ++ f.blocks) f.node text) v.1 f.first_fault)))

next_at : (before front after : Chain) (b : Placed) → AreNext before (front ++ b ∷ after) → IsNext (before ++ front) b.block
next_at before [] after b all = rw (append-nil before) all.0
next_at before (c ∷ front) after b all = rw (← append_assoc before (c ∷ []) front) (next_at (before ++ c ∷ []) front after b all.1)

-- ---- the blocks of the chain itself

placed_is : (x y : Placed) → x.block ≡ y.block → x.place ≡ y.place → x ≡ y
placed_is x y block place =
    let made : Block → Place → Placed = λ b p. record { block = b; place = p } in
    ap (λ (b : Block). made b x.place) block ∙ ap (made y.block) place

module _ (stood : Node → List ℕ → Type 0) (node_of : Placed → Node) where
  abbrev Gives : Placed → Type 0
  Gives b = GivesBlock stood (node_of b) b

  same_blocks : (own : Chain) (ts : List (List ℕ)) (bs : Chain) → AllByRecursion Gives own → AllStood stood (map node_of own) ts → AreBlocks (map node_of own) ts bs → bs ≡ own
  same_blocks [] [] [] gives told are = refl
  same_blocks [] [] (x ∷ bs) gives told are = absurd are
  same_blocks [] (t ∷ ts) bs gives told are = absurd told
  same_blocks (b ∷ own) [] bs gives told are = absurd told
  same_blocks (b ∷ own) (t ∷ ts) [] gives told are = absurd are
  same_blocks (b ∷ own) (t ∷ ts) (x ∷ bs) gives told are =
      let block = one_block t x.block b.block are.1 (gives.0.reads t told.0).1 in
      both x b bs own (placed_is x b block (are.0 ∙ gives.0.place)) (same_blocks own ts bs gives.1 told.1 are.2)

  own_moved : (own chain : Chain) → AllByRecursion Gives own → Moves stood [] (putting (map node_of own)) chain → chain ≡ own
  own_moved own chain gives m = same_blocks own m.texts chain gives m.read.told m.blocks_are.are

  -- none of them stops the move that puts it in
  never_refused : (before : Chain) (b : Placed) (e : MoveFault) (x : NodeAnswer) → Gives b → IsNext before b.block → IsRefused stood before (putting (node_of b ∷ [])) e
      → move_refused e ≡ Some x → ⊥
  never_refused before b stop.DiskFailed x gives next why told = let f = told in cc
  never_refused before b stop.ArchiveFailed x gives next why told = let f = told in cc
  never_refused before b stop.Memory x gives next why told = let f = told in cc
  never_refused before b (stop.Changed w f) x gives next why told =
      let one = only_one (node_of b) why.front why.node why.after why.whole in
      let stands : stood (node_of b) why.text = subst (λ n. stood n why.text) one.1 why.told in
      why.other.other (subst (λ n. IsBlockOf n why.text) (sym one.1) (gives.reads why.text stands).0)
  never_refused before b (stop.BadBlock h f) x gives next why told =
      let s = stopped stood (shorter 0 before) (node_of b) why.texts (stop.BadBlock h f) why.read.told why.first_fault in
      never_both_block s.0 b.block f (gives.reads s.0 s.1).1 s.2.1
  never_refused before b (stop.Refused h f) x gives next why told =
      let s = stopped stood (shorter 0 before) (node_of b) why.texts (stop.Refused h f) why.read.told why.first_fault in
      let same = one_block s.0 s.2.1.0 b.block s.2.1.1 (gives.reads s.0 s.1).1 in
      let none : fault (shorter 0 before) s.2.1.0 ≡ None =
      ap (λ c. fault c s.2.1.0) (shorter_none before) ∙ ap (fault before) same ∙ next.faultless in
      never none s.2.1.2
    where
      never : {X : Type 0} {o : Option X} {y : X} → o ≡ None → o ≡ Some y → ⊥
      never e g = cc

  no_bad : (own : Chain) (e : MoveFault) (x : NodeAnswer) → AllByRecursion Gives own → IsGood own → IsBadBlock stood (map node_of own) e → move_refused e ≡ Some x → ⊥
  no_bad own e x gives good bad told =
      let c = cut node_of own bad.front bad.node bad.after bad.whole in
      let all : AllByRecursion Gives (c.before ++ c.here ∷ c.after) = rw c.whole at gives in
      let front : bad.blocks ≡ c.before = own_moved c.before bad.blocks (all_front Gives c.before (c.here ∷ c.after) all) (subst (λ ns. Moves stood [] (putting ns) bad.blocks) (sym c.front_is) bad.before) in
      let next : IsNext c.before c.here.block = next_at [] c.before c.after c.here (rw c.whole at good.each) in
      never_refused c.before c.here e x (all_mid Gives c.before c.here c.after all) next (subst (λ n. IsRefused stood c.before (putting (n ∷ [])) e) (sym c.here_is)
      (subst (λ b. IsRefused stood b (putting (bad.node ∷ [])) e) front bad.refused)) told

  -- no difference is found
  pub no_difference : (stands : Chain → Type 0) (tree : List Node) (own : Chain) (f : Finding) → stands own → IsGood own → IsFound tree
      → ((h : Hash32) → tip_of own ≡ Some h → IsPath tree h (map node_of own)) → AllByRecursion Gives own → IsFinding stands (tip_of own) tree stood f → IsNoDifference f
  no_difference stands tree own finding.Empty is good found paths gives h = tt
  no_difference stands tree own (finding.NoPath hash) is good found paths gives h = h.1 (map node_of own) (paths hash h.0)
  no_difference stands tree own (finding.TooLarge bytes) is good found paths gives h = tt
  no_difference stands tree own (finding.BadBlock block flaw) is good found paths gives h =
      let same = one_path tree h.1.hash h.0 (map node_of own) found h.1.is_path (paths h.1.hash h.1.is_tip) in
      no_bad own h.3.0 (block_refused block flaw) gives good (rw same at h.3.1) h.3.2
  no_difference stands tree own (finding.Differs script kind place) is good found paths gives h =
      let same = one_path tree h.1.hash h.0 (map node_of own) found h.1.is_path (paths h.1.hash h.1.is_tip) in
      let k = h.3.2 in
      let chain_is : h.3.0 ≡ own = own_moved own h.3.0 gives (rw same at h.3.1) in
      let claims : List Claim = map (claim_of own) (map (λ (c : Claim). c.script) k.0) in
      let told : IsReport own claims (report.Differs script kind place) =
      subst (λ c. IsReport own c (report.Differs script kind place)) (k.1.told own is)
      (subst (λ c. IsReport c k.0 (report.Differs script kind place)) chain_is k.2) in
      let right = answers_right own (map (λ (c : Claim). c.script) k.0) (report.Differs script kind place) told in
      (let r = right in cc)
  no_difference stands tree own (finding.Same height txs scripts) is good found paths gives h = tt
