-- Block files that have the records of a chain keep them as they grow, and have those of each chain that a
-- move leads to.
use Rattle.std.proofs.Common.{◌≡◌, ◌∙◌, sym, ap, subst, ℕ, zero, suc, ◌+◌, ◌-◌, List, [], ◌∷◌, ◌++◌, length, take, refl, append-nil}
use Rattle.std.specs.List.{AllByRecursion}
use Rattle.el_base.proofs.Lists.{all_append, all_weaker}
use Rattle.el_outside.specs.Files.{Grows, AllGrow}
use Rattle.el_outside.specs.Seen.{seen}
use Rattle.el_outside.specs.declared.archive.Archive as block_files
use Rattle.el_outside.proofs.Traces.{grows_more, grows_by}
use Rattle.el_outside.specs.declared.archive.Place.{Place}
use Rattle.el_block.specs.Blocks.{EncodesBlock}
use Rattle.el_chain.specs.Chains.{Chain}
use Rattle.el_chain.specs.Records.{block_at, IsBlockOf}
use Rattle.el_chain.specs.Moves.{AreOf, AllStood, AreBlocks, Moves, StoodAt, shorter, target}
use Rattle.el_chain.proofs.RecordBytes.{block_stays}
use Rattle.el_chain.specs.declared.moves.Plan.{Plan}
use Rattle.el_chain.specs.declared.node.Node.{Node}
use Rattle.el_chain.specs.declared.placed.Placed.{Placed}
use Rattle.el_methods.specs.Archives.{HasBlock, HasBlocks, HasRecord, HasRecords, WasWritten}
use Rattle.el_methods.proofs.Places.{part_stays}

-- the bytes are those that stand at the node's place
abbrev StandsIn : (ℕ → List ℕ) → Node → List ℕ → Type 0
StandsIn files n text = text ≡ block_at n.place (files n.place.file)

record_stays : (old new : ℕ → List ℕ) (b : Placed) → AllGrow old new → HasRecord old b → HasRecord new b
record_stays old new b grown has =
    let file = b.place.file in
    let same : block_at b.place (new file) ≡ block_at b.place (old file) =
    part_stays _ _ (old file) (new file) (block_at b.place (old file)) (grown file) has.size refl in
    record {
      encodes = subst (λ text. EncodesBlock text b.block) (sym same) has.encodes;
      size = ap length same ∙ has.size;
    }

pub records_stay : (old new : ℕ → List ℕ) (chain : Chain) → AllGrow old new → HasRecords old chain
    → HasRecords new chain
records_stay old new chain grown has =
    all_weaker (HasRecord old) (HasRecord new) chain (λ b one. record_stays old new b grown one) has

pub records_have_blocks : (files : ℕ → List ℕ) (chain : Chain) → HasRecords files chain → HasBlocks files chain
records_have_blocks files chain has =
    all_weaker (HasRecord files) (HasBlock files) chain (λ b one. one.encodes) has

one_put : (files : ℕ → List ℕ) (n : Node) (text : List ℕ) (b : Placed) → StandsIn files n text
    → IsBlockOf n text → b.place ≡ n.place → EncodesBlock text b.block → HasRecord files b
one_put files n text b read of at encodes =
    let here : text ≡ block_at b.place (files b.place.file) =
    read ∙ ap (λ (p : Place). block_at p (files p.file)) (sym at) in
    record {
      encodes = subst (λ bytes. EncodesBlock bytes b.block) here encodes;
      size = ap length (sym here) ∙ of.size ∙ ap (λ (p : Place). p.len) (sym at);
    }

put : (files : ℕ → List ℕ) (nodes : List Node) (texts : List (List ℕ)) (blocks : Chain)
    → AllStood (StandsIn files) nodes texts → AreOf nodes texts → AreBlocks nodes texts blocks
    → HasRecords files blocks
put files [] [] [] read of are = tt
put files [] [] (b ∷ bs) read of are = absurd are
put files [] (t ∷ ts) blocks read of are = absurd of
put files (n ∷ ns) [] blocks read of are = absurd of
put files (n ∷ ns) (t ∷ ts) [] read of are = absurd are
put files (n ∷ ns) (t ∷ ts) (b ∷ bs) read of are =
    (one_put files n t b read.0 of.0 are.0 are.1, put files ns ts bs read.1 of.1 are.2)

-- a record that was written whole is read as it stands
written_stands : {A : Type 0} (of_files : block_files.Ghosts A) (before after : ℕ → List ℕ) (n : Node) (text : List ℕ) → of_files.tells → WasWritten before n
    → StoodAt of_files before after n text → StandsIn after n text
written_stands of_files before after n text told whole stood =
    let s = stood told in
    let w = s.1 in
    let file = n.place.file in
    let saw : Grows (before file) s.0 =
    subst (λ t. Grows (before file) t) (sym w.is)
    (grows_more (before file) (of_files.bytes w.archive file) (seen of_files w.archive file) (w.between.grew file) (grows_by (of_files.bytes w.archive file) (of_files.padding w.archive file))) in
    let now : Grows (before file) (after file) = grows_more (before file) (of_files.bytes w.archive file) (after file) (w.between.grew file) (w.between.grows file) in
    s.2 ∙ block_stays (before file) s.0 n.place saw whole ∙ sym (block_stays (before file) (after file) n.place now whole)

-- so is one where nothing is made ahead
unpadded_stands : {A : Type 0} (of_files : block_files.Ghosts A) (before after : ℕ → List ℕ) (n : Node) (text : List ℕ) → of_files.tells
    → ((archive : A) (file : ℕ) → of_files.padding archive file ≡ []) → IsBlockOf n text → StoodAt of_files before after n text → StandsIn after n text
unpadded_stands of_files before after n text told none of stood =
    let s = stood told in
    let w = s.1 in
    let file = n.place.file in
    let bytes = of_files.bytes w.archive file in
    let is : s.0 ≡ bytes = w.is ∙ ap (λ padding. bytes ++ padding) (none w.archive file) ∙ append-nil bytes in
    let read : text ≡ block_at n.place bytes = s.2 ∙ ap (block_at n.place) is in
    sym (part_stays n.place.len (n.place.offset + 8) bytes (after file) text (w.between.grows file) of.size (sym read))

all_written : {A : Type 0} (of_files : block_files.Ghosts A) (before after : ℕ → List ℕ) (nodes : List Node) (texts : List (List ℕ)) → of_files.tells
    → AllByRecursion (WasWritten before) nodes → AllStood (StoodAt of_files before after) nodes texts → AllStood (StandsIn after) nodes texts
all_written of_files before after [] [] told whole stood = tt
all_written of_files before after [] (t ∷ ts) told whole stood = absurd stood
all_written of_files before after (n ∷ ns) [] told whole stood = absurd stood
all_written of_files before after (n ∷ ns) (t ∷ ts) told whole stood =
    (written_stands of_files before after n t told whole.0 stood.0, all_written of_files before after ns ts told whole.1 stood.1)

all_unpadded : {A : Type 0} (of_files : block_files.Ghosts A) (before after : ℕ → List ℕ) (nodes : List Node) (texts : List (List ℕ)) → of_files.tells
    → ((archive : A) (file : ℕ) → of_files.padding archive file ≡ []) → AreOf nodes texts → AllStood (StoodAt of_files before after) nodes texts → AllStood (StandsIn after) nodes texts
all_unpadded of_files before after [] [] told none of stood = tt
all_unpadded of_files before after [] (t ∷ ts) told none of stood = absurd stood
all_unpadded of_files before after (n ∷ ns) [] told none of stood = absurd stood
all_unpadded of_files before after (n ∷ ns) (t ∷ ts) told none of stood =
    (unpadded_stands of_files before after n t told none of.0 stood.0, all_unpadded of_files before after ns ts told none of.1 stood.1)

front : (files : ℕ → List ℕ) (n : ℕ) (chain : Chain) → HasRecords files chain → HasRecords files (take n chain)
front files zero chain has = tt
front files (suc n) [] has = tt
front files (suc n) (b ∷ bs) has = (has.0, front files n bs has.1)

moves_have : (stood : Node → List ℕ → Type 0) (files : ℕ → List ℕ) (chain blocks : Chain) (p : Plan) → HasRecords files chain
    → (m : Moves stood chain p blocks) → AllStood (StandsIn files) p.forward m.texts → HasRecords files (target p chain blocks)
moves_have stood files chain blocks p has m stands =
    all_append (HasRecord files) (shorter p.back chain) blocks (front files (length chain - p.back) chain has)
    (put files p.forward m.texts blocks stands m.read.of m.blocks_are.are)

pub written_moves_have : {A : Type 0} (of_files : block_files.Ghosts A) (before after : ℕ → List ℕ) (chain blocks : Chain) (p : Plan) → of_files.tells
    → AllByRecursion (WasWritten before) p.forward → HasRecords after chain → Moves (StoodAt of_files before after) chain p blocks
    → HasRecords after (target p chain blocks)
written_moves_have of_files before after chain blocks p told whole has m =
    moves_have (StoodAt of_files before after) after chain blocks p has m (all_written of_files before after p.forward m.texts told whole m.read.told)

pub unpadded_moves_have : {A : Type 0} (of_files : block_files.Ghosts A) (before after : ℕ → List ℕ) (chain blocks : Chain) (p : Plan) → of_files.tells
    → ((archive : A) (file : ℕ) → of_files.padding archive file ≡ []) → HasRecords after chain → Moves (StoodAt of_files before after) chain p blocks
    → HasRecords after (target p chain blocks)
unpadded_moves_have of_files before after chain blocks p told none has m =
    moves_have (StoodAt of_files before after) after chain blocks p has m (all_unpadded of_files before after p.forward m.texts told none m.read.of m.read.told)
