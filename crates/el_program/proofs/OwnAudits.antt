-- An audit over the blocks of the index's own chain.
use Rattle.std.proofs.Common.{◌≡◌, ◌≢◌, inl, inr, ℕ, List, [], ◌∷◌, length, true, refl, sym, ap, subst, ◌∙◌, Some}
use Rattle.std.specs.List.{AllByRecursion}
use Rattle.el_base.specs.declared.hash.Hash32.{Hash32}
use Rattle.el_base.proofs.Lists.{all_weaker}
use Rattle.el_outside.specs.Disk.{Image}
use Rattle.el_outside.specs.Files.{AllGrow, Grows}
use Rattle.el_outside.specs.Seen.{seen}
use Rattle.el_outside.specs.declared.archive.Archive as block_files
use Rattle.el_outside.proofs.Traces.{grows_more, grows_by}
use Rattle.el_block.specs.Blocks.{EncodesBlock}
use Rattle.el_chain.specs.Chains.{Chain}
use Rattle.el_chain.specs.Faults.{IsGood}
use Rattle.el_chain.specs.Headers.{IsFound, IsPath, added}
use Rattle.el_chain.specs.Moves.{StoodAt}
use Rattle.el_chain.specs.Records.{IsBlockOf, IsNode, block_at}
use Rattle.el_chain.specs.declared.node.Node.{Node}
use Rattle.el_chain.specs.declared.placed.Placed.{Placed}
use Rattle.el_headers.proofs.Growing.{found_none, found_added}
use Rattle.el_methods.specs.Archives.{HasRecord, HasRecords}
use Rattle.el_methods.proofs.Places.{part_stays}
use Rattle.el_migrate.specs.ImageChains.{ImageStands}
use Rattle.el_model.specs.Queries.{tip_of}
use Rattle.el_audit_run.specs.Findings.{IsFinding, IsNoDifference}
use Rattle.el_audit_run.specs.OwnBlocks.{GivesBlock}
use Rattle.el_audit_run.specs.declared.finding.Finding.{Finding}
use Rattle.el_audit_run.specs.declared.finding.Finding.TheVariants as finding
use Rattle.el_audit_run.proofs.Own.{no_difference}
use Rattle.el_loop.specs.Counts.{Counts}
use Rattle.el_loop.specs.Traffic.{Traffic}
use Rattle.el_program.specs.Audits.{AuditEnds, HasChain, IsAuditedOver, finding_status}
use Rattle.el_program.specs.Opened.{IndexChain, IsScanned, all_added, certain, node_of_block, nodes_of_chain}
use Rattle.el_program.specs.declared.status.Status.{Status}
use Rattle.el_program.specs.declared.status.Status.TheVariants as status
use Rattle.el_program.proofs.FileLemmas.{body_begins}

-- an image stands for a good chain
pub stands_good : (magic : List ℕ) (image : Image) (chain : Chain) → ImageStands magic image chain → IsGood chain
stands_good magic image chain (inl new) = new.stand.stand.good
stands_good magic image chain (inr old) = old.stand.stand.good

found_all : (found ns : List Node) → IsFound found → AllByRecursion IsNode ns → IsFound (all_added found ns)
found_all found [] is nodes = is
found_all found (n ∷ ns) is nodes = found_all (added found n) ns (found_added found n is nodes.0) nodes.1

-- what stood at a block's place is the block, where the files had its record before
module _ {A : Type 0} (of_files : block_files.Ghosts A) (told : of_files.tells) (before mid after : ℕ → List ℕ) (grew : AllGrow before mid) where
  gives : (b : Placed) → HasRecord before b → GivesBlock (StoodAt of_files mid after) (node_of_block b) b
  gives b has = record {
    place = refl;
    reads = λ text stood.
        let s = stood told in
        let w = s.1 in
        let file = b.place.file in
        let written : Grows (before file) (seen of_files w.archive file) =
        grows_more (before file) (of_files.bytes w.archive file) (seen of_files w.archive file)
        (grows_more (before file) (mid file) (of_files.bytes w.archive file) (grew file) (w.between.grew file))
        (grows_by (of_files.bytes w.archive file) (of_files.padding w.archive file)) in
        let is : text ≡ block_at b.place (before file) =
        s.2 ∙ ap (block_at b.place) w.is
        ∙ part_stays b.place.len _ (before file) (seen of_files w.archive file) (block_at b.place (before file)) written has.size refl in
        let encodes : EncodesBlock text b.block = subst (λ t. EncodesBlock t b.block) (sym is) has.encodes in
        (record { size = ap length is ∙ has.size; header = body_begins b.block text encodes }, encodes);
  }

  pub all_give : (chain : Chain) → HasRecords before chain → AllByRecursion (λ (b : Placed). GivesBlock (StoodAt of_files mid after) (node_of_block b) b) chain
  all_give chain has = all_weaker (HasRecord before) (λ (b : Placed). GivesBlock (StoodAt of_files mid after) (node_of_block b) b) chain gives has

told_none : (f : Finding) → IsNoDifference f → finding_status f ≡ status.AuditDiffers → ⊥
told_none finding.Empty none e = cc
told_none (finding.NoPath tip) none e = none
told_none (finding.TooLarge bytes) none e = cc
told_none (finding.BadBlock block flaw) none e = none
told_none (finding.Differs script kind at) none e = none
told_none (finding.Same height txs scripts) none e = cc

found_same : {A : Type 0} (of_files : block_files.Ghosts A) (magic : List ℕ) (chain : Chain) (before after : A) (f : Finding) → of_files.tells → IsGood chain
    → HasRecords (of_files.bytes before) chain
    → ((now : A) (nodes : List Node) (h : Hash32) → IsScanned of_files magic before now nodes → tip_of chain ≡ Some h → IsPath (all_added [] nodes) h (nodes_of_chain chain))
    → IsAuditedOver of_files magic (certain chain) before after f → IsNoDifference f
found_same of_files magic chain before after f told good has paths a =
    let nodes : AllByRecursion IsNode a.nodes = a.scanned.each in
    let mid = of_files.bytes a.now in
    no_difference (StoodAt of_files mid (of_files.bytes after)) node_of_block (HasChain (certain chain)) (all_added [] a.nodes) chain f (refl, refl) good
    (found_all [] a.nodes found_none nodes) (λ h is. paths a.now a.nodes h a.scanned is)
    (all_give of_files told (of_files.bytes before) mid (of_files.bytes after) (a.scanned.keeps told) chain has)
    (rw (a.tip_is refl) at a.found)

-- a call tells none
pub never_differs : {A : Type 0} (of_files : block_files.Ghosts A) (magic : List ℕ) (was flight chain : Chain) (leaves : Chain → Chain → Type 0) (c : Counts) (before after : A) (t : Traffic) (s : Status)
    → of_files.tells → IsGood chain → HasRecords (of_files.bytes before) chain
    → ((now : A) (nodes : List Node) (h : Hash32) → IsScanned of_files magic before now nodes → tip_of chain ≡ Some h → IsPath (all_added [] nodes) h (nodes_of_chain chain))
    → AuditEnds of_files magic was flight (certain chain) leaves c before after t s → s ≡ status.AuditDiffers → ⊥
never_differs of_files magic was flight chain leaves c before after t s told good has paths ends e = by (rw e at ends)
  where
    by : AuditEnds of_files magic was flight (certain chain) leaves c before after t status.AuditDiffers → ⊥
    by (inl unopened) = unopened
    by (inr ((text, (f, found, is, line), sent), left)) = told_none f (found_same of_files magic chain before after f told good has paths found) is
