-- The chain of file 0, record by record.
use Rattle.std.proofs.Common.{◌≡◌, ℕ, ◌+◌, ◌<◌, ◌≤◌, List, [], ◌∷◌, ◌++◌, length, take, drop, map, get_or, refl, sym, ap, subst, ◌∙◌, arith, append_assoc, append-nil, take_all, length-drop, length-take, Option, None, Some}
use Rattle.std.specs.Prelude.{option_map, IfOk, Result, Ok, Err}
use Rattle.std.specs.List.{AllByRecursion}
use Rattle.std.proofs.lemmas.List.{drop-drop, take-append-drop, take_at, take-take, take_more, drop_more, length-take-le}
use Rattle.el_outside.specs.Files.{Grows, AllGrow}
use Rattle.el_outside.specs.declared.archive.Archive as block_files
use Rattle.el_outside.specs.Seen.{seen}
use Rattle.el_outside.proofs.Traces.{grows_more, grows_by, all_grow_none}
use Rattle.el_outside.proofs.Calls.{HasRead, has_none, has_then}
use Rattle.el_outside.specs.declared.archive.Place.{Place}
use Rattle.el_tx.specs.Headers.{header_encoding, header_of}
use Rattle.el_tx.specs.Encoding.{counted}
use Rattle.el_tx.specs.Hashing.{full_encoding}
use Rattle.el_tx.proofs.HeaderLemmas.{header_again, header_length}
use Rattle.el_block.specs.declared.block.Block.{Block}
use Rattle.el_chain.specs.declared.placed.Placed.{Placed}
use Rattle.el_chain.specs.declared.node.Node.{Node}
use Rattle.el_block.specs.Blocks.{EncodesBlock}
use Rattle.el_chain.specs.Chains.{Chain}
use Rattle.el_chain.specs.Faults.{IsGood, IsNext, AreNext}
use Rattle.el_chain.specs.Records.{record_size, node_of, records, block_at, IsBlockOf, GivesChain}
use Rattle.el_block.proofs.BlockLemmas.{one_block}
use Rattle.el_chain.proofs.GoodChains.{next_more}
use Rattle.el_files.specs.Scanning.{IsRecordIn}
use Rattle.el_files.proofs.Heading.{header_in_front}
use Rattle.el_files.proofs.Standing.{records_stand, stands_within, block_stays}
use Rattle.el_base.specs.declared.hash.Hash32.{Hash32}
use Rattle.el_chain.specs.declared.read_fault.ReadFault.{ReadFault}
use Rattle.el_chain.specs.declared.read_fault.ReadFault.TheVariants as reading
use Rattle.el_program.specs.declared.file.FileFault.TheVariants as fault
use Rattle.el_program.specs.within.Unread.{read_fault}
use Rattle.el_chain.specs.Moves.{AllStood, AreBlocks, AreNextBlocks, AreRead, StoodAt}
use Rattle.el_model.proofs.ReadBodies.{stood_longer, read_longer, read_more}
use Rattle.el_program.specs.declared.file.FileFault.{FileFault}
use Rattle.el_files.proofs.Scans.{scanned_without}
use Rattle.el_program.specs.Ends.{IsBadFile}
use Rattle.el_program.specs.Opened.{IsRead}
use Rattle.el_program.specs.File.{GivesNoChain, HasBadBlock, IsChainOf, WasFile}

-- what a node has of its file and header
node_parts : (file place : ℕ) (header : List ℕ) (size : Option ℕ) (n : Node)
    → option_map (λ (k : ℕ). node_of file place k header) size ≡ Some n
    → (n.place.file ≡ file) × (n.header ≡ header_of header)
node_parts file place header None n e = absurd cc
node_parts file place header (Some k) n e =
    let is : node_of file place k header ≡ n = cc in
    (sym (ap (λ (m : Node). m.place.file) is), sym (ap (λ (m : Node). m.header) is))

parts_in : (magic file : List ℕ) (n : Node) → IsRecordIn magic 0 file n → (n.place.file ≡ 0)
    × (n.header ≡ header_of (drop 8 (drop n.place.offset file)))
parts_in magic file n r =
    let front = drop n.place.offset file in
    node_parts 0 n.place.offset (drop 8 front) (record_size magic front (length front)) n r.stands

-- bytes that encode a block begin with its header
pub body_begins : (b : Block) (bytes : List ℕ) → EncodesBlock bytes b → take 80 bytes ≡ header_encoding b.header
body_begins b bytes s =
    let h = header_encoding b.header in
    ap (take 80) s.text.whole ∙ take_at h (counted full_encoding b.txs) 80
    (header_length b.header s.text.header)

-- the bytes of a record that encode a block are those of its node
record_block : (magic file : List ℕ) (n : Node) (b : Block) → IsRecordIn magic 0 file n
    → EncodesBlock (block_at n.place file) b
    → IsBlockOf n (block_at n.place file)
record_block magic file n b r s =
    let left = drop (n.place.offset + 8) file in
    let within = stands_within magic file 0 n r in
    let enough : n.place.len ≤ length left = rw (length-drop (n.place.offset + 8) file) (omega arith) in
    let h = header_encoding b.header in
    let begins = body_begins b (block_at n.place file) s in
    let long : 80 ≤ n.place.len =
    let front : length (take 80 (block_at n.place file)) ≡ 80 =
    ap length begins ∙ header_length b.header s.text.header in
    let size : length (block_at n.place file) ≡ n.place.len = length-take-le n.place.len left enough in
    let most = length-take 80 (block_at n.place file) in
    omega arith in
    let same : take 80 left ≡ h = sym (take-take 80 n.place.len left long) ∙ begins in
    let header : n.header ≡ b.header =
    (parts_in magic file n r).1 ∙ ap header_of (drop-drop 8 n.place.offset file) ∙ sym (header_in_front left)
    ∙ ap header_of same
    ∙ sym (header_again b.header h s.text.header refl) in
    record {
      size = length-take-le n.place.len left enough;
      header = begins
          ∙ ap header_encoding (sym header);
    }

-- the block's bytes stand in the file at its place
abbrev pub IsBodyIn : List ℕ → Placed → Type 0
IsBodyIn file b = EncodesBlock (block_at b.place file) b.block

abbrev pub chain_places : Chain → List Place
chain_places chain = map (λ (b : Placed). b.place) chain

abbrev pub node_places : List Node → List Place
node_places nodes = map (λ (n : Node). n.place) nodes

-- each block of a chain may stand after those before it
next_at : (before front after : Chain) (b : Placed) → AreNext before (front ++ b ∷ after)
    → IsNext (before ++ front) b.block
next_at before [] after b all = rw (append-nil before) all.0
next_at before (c ∷ front) after b all =
    rw (← append_assoc before (c ∷ []) front) (next_at (before ++ c ∷ []) front after b all.1)

-- what a chain of the same places goes on with after the blocks that were taken
pub record GoesOnWith (file : List ℕ) (chain taken : Chain) (n : Node) : Type 0 where
  pub block : Placed
  pub rest : Chain
  pub whole : chain ≡ taken ++ block ∷ rest
  pub place : block.place ≡ n.place
  pub body : IsBodyIn file block

same_placed : (file : List ℕ) (b c : Placed) → b.place ≡ c.place → IsBodyIn file b → IsBodyIn file c → b ≡ c
same_placed file b c e s t = placed_is b.block c.block b.place c.place
    (one_block (block_at c.place file) b.block c.block (rw e at s) t) e
  where
    placed_is : (x y : Block) (p q : Place) → x ≡ y → p ≡ q
        → ◌≡◌ {A = Placed} (record { block = x; place = p }) (record { block = y; place = q })
    placed_is x y p q e f = cc

both_are : (x y : Placed) (xs ys : Chain) → x ≡ y → xs ≡ ys → x ∷ xs ≡ y ∷ ys
both_are x y xs ys e f = cc

goes_on : (file : List ℕ) (taken chain : Chain) (front : List Node) (n : Node) (after : List Node)
    → chain_places taken ≡ node_places front
    → chain_places chain ≡ node_places (front ++ n ∷ after) → AllByRecursion (IsBodyIn file) taken
    → AllByRecursion (IsBodyIn file) chain
    → GoesOnWith file chain taken n
goes_on file [] [] [] n after e f s t = absurd cc
goes_on file [] (c ∷ cs) [] n after e f s t =
    record { block = c; rest = cs; whole = refl; place = cc; body = t.0 }
goes_on file [] chain (m ∷ ms) n after e f s t = absurd cc
goes_on file (b ∷ bs) chain [] n after e f s t = absurd cc
goes_on file (b ∷ bs) [] (m ∷ ms) n after e f s t = absurd cc
goes_on file (b ∷ bs) (c ∷ cs) (m ∷ ms) n after e f s t =
    let place : b.place ≡ c.place = cc in
    let same = same_placed file b c place s.0 t.0 in
    let more = goes_on file bs cs ms n after (cc) (cc) s.1 t.1 in
    record {
      block = more.block;
      rest = more.rest;
      whole = both_are c b cs (bs ++ more.block ∷ more.rest)
          (sym same) more.whole;
      place = more.place;
      body = more.body;
    }

split_at : {X : Type 0} (xs : List X) (i : ℕ) (d : X) → i < length xs → xs ≡ take i xs ++ get_or xs i d ∷ drop
    (i + 1) xs
split_at {X} xs i d lt = sym (take-append-drop i xs) ∙ ap (λ (t : List X). take i xs ++ t)
    (drop_more xs i d lt)

-- ---- what the records of a file give, where their blocks are read of it later

module _ {A : Type 0} (of_files : block_files.Ghosts A) (mid after : ℕ → List ℕ) (magic file : List ℕ) (told : of_files.tells) (kept : Grows file (mid 0)) where
  -- the bytes of a record's block are those that the file has there
  stood_in : (n : Node) (t : List ℕ) → IsRecordIn magic 0 file n → StoodAt of_files mid after n t → t ≡ block_at n.place file
  stood_in n t r stood =
      let s = stood told in
      let w = s.1 in
      let first : n.place.file ≡ 0 = (parts_in magic file n r).0 in
      let written = of_files.bytes w.archive 0 in
      let grown : Grows file (seen of_files w.archive 0) =
      grows_more file written (seen of_files w.archive 0) (grows_more file (mid 0) written kept (w.between.grew 0)) (grows_by written (of_files.padding w.archive 0)) in
      let is : s.0 ≡ seen of_files w.archive 0 = w.is ∙ ap (seen of_files w.archive) first in
      s.2 ∙ ap (block_at n.place) is ∙ block_stays file (seen of_files w.archive 0) n.place grown (stands_within magic file 0 n r)

  all_in : (ns : List Node) (ts : List (List ℕ)) (bs : Chain) → AllByRecursion (IsRecordIn magic 0 file) ns → AllStood (StoodAt of_files mid after) ns ts → AreBlocks ns ts bs
      → AllByRecursion (IsBodyIn file) bs × (chain_places bs ≡ node_places ns)
  all_in [] [] [] stand stood are = (tt, refl)
  all_in [] [] (b ∷ bs) stand stood are = absurd are
  all_in [] (t ∷ ts) bs stand stood are = absurd stood
  all_in (n ∷ ns) [] bs stand stood are = absurd stood
  all_in (n ∷ ns) (t ∷ ts) [] stand stood are = absurd are
  all_in (n ∷ ns) (t ∷ ts) (b ∷ bs) stand stood are =
      let rest = all_in ns ts bs stand.1 stood.1 are.2 in
      let place : b.place ≡ n.place = are.0 in
      let read : t ≡ block_at b.place file = stood_in n t stand.0 stood.0 ∙ ap (λ p. block_at p file) (sym place) in (
        (subst (λ bytes. EncodesBlock bytes b.block) read are.1, rest.0),
        both_places b.place n.place (chain_places bs) (node_places ns) place rest.1,
      )
    where
      both_places : (p q : Place) (ps qs : List Place) → p ≡ q → ps ≡ qs → p ∷ ps ≡ q ∷ qs
      both_places p q ps qs e f = cc

  -- a chain of them is the one that the file gives
  pub chain_given : (nodes : List Node) (chain : Chain) → nodes ≡ records magic 0 file → IsGood chain → IsChainOf (StoodAt of_files mid after) nodes chain → GivesChain magic 0 file chain
  chain_given nodes chain are good m =
      let stand : AllByRecursion (IsRecordIn magic 0 file) nodes = rw are (records_stand magic file 0) in
      let all = all_in nodes m.texts chain stand m.read.told m.blocks_are.are in
      record { places = all.1 ∙ ap node_places are; bodies = all.0; good = good }

  -- and where one of them can't stand, it gives none
  pub none_given : (nodes : List Node) → nodes ≡ records magic 0 file → HasBadBlock (StoodAt of_files mid after) nodes → GivesNoChain magic file
  none_given nodes are h = λ chain gives.
      let stand : AllByRecursion (IsRecordIn magic 0 file) (h.front ++ h.node ∷ h.after) = rw (← h.whole, are) (records_stand magic file 0) in
      let before = all_in h.front h.texts h.blocks (front_of h.front (h.node ∷ h.after) stand) h.read.told h.before.are in
      let here : IsRecordIn magic 0 file h.node = (back_of h.front (h.node ∷ h.after) stand).0 in
      let with_n = goes_on file h.blocks chain h.front h.node h.after before.1 (gives.places ∙ ap node_places (sym are ∙ h.whole)) before.0 gives.bodies in
      let encoded : EncodesBlock (block_at h.node.place file) with_n.block.block = rw with_n.place at with_n.body in
      let same : h.text ≡ block_at h.node.place file = stood_in h.node h.text here h.told in
      h.bad with_n.block.block
      (subst (IsBlockOf h.node) (sym same) (record_block magic file h.node with_n.block.block here encoded))
      (subst (λ bytes. EncodesBlock bytes with_n.block.block) (sym same) encoded)
      (next_at [] h.blocks with_n.rest with_n.block (rw with_n.whole at gives.good.each))
    where
      front_of : (xs ys : List Node) → AllByRecursion (IsRecordIn magic 0 file) (xs ++ ys) → AllByRecursion (IsRecordIn magic 0 file) xs
      front_of [] ys all = tt
      front_of (x ∷ xs) ys all = (all.0, front_of xs ys all.1)

      back_of : (xs ys : List Node) → AllByRecursion (IsRecordIn magic 0 file) (xs ++ ys) → AllByRecursion (IsRecordIn magic 0 file) ys
      back_of [] ys all = all
      back_of (x ∷ xs) ys all = back_of xs ys all.1

-- over block files without padding
pub unpadded_gives : {A : Type 0} (of_files : block_files.Ghosts A) (before after : ℕ → List ℕ) (magic : List ℕ) (nodes : List Node) (chain : Chain) → of_files.tells
    → ((archive : A) → of_files.padding archive 0 ≡ []) → IsRead of_files before after magic nodes chain
    → (file : List ℕ) × WasFile before after file × GivesChain magic 0 file chain × (nodes ≡ records magic 0 file)
unpadded_gives of_files before after magic nodes chain told none r =
    let s = scanned_without of_files before r.scanned magic 0 nodes none (r.of_file told) in (
      s.0,
      record { grew = s.1; grows = grows_more s.0 (r.scanned 0) (after 0) s.2 (r.grows told 0) },
      chain_given of_files r.scanned after magic s.0 told s.2 nodes chain s.3 r.good r.blocks,
      s.3,
    )

pub unpadded_none : {A : Type 0} (of_files : block_files.Ghosts A) (before after : ℕ → List ℕ) (magic : List ℕ) → of_files.tells
    → ((archive : A) → of_files.padding archive 0 ≡ []) → IsBadFile of_files magic before after → (file : List ℕ) × WasFile before after file × GivesNoChain magic file
unpadded_none of_files before after magic told none (nodes, scanned, of_file, grows, bad) =
    let s = scanned_without of_files before scanned magic 0 nodes none (of_file told) in (
      s.0,
      record { grew = s.1; grows = grows_more s.0 (scanned 0) (after 0) s.2 (grows told 0) },
      none_given of_files scanned after magic s.0 told s.2 nodes s.3 bad,
    )

-- ---- the blocks of the records, one after the other

-- blocks are put after a chain one by one
blocks_more : (ns : List Node) (ts : List (List ℕ)) (bs : Chain) (n : Node) (t : List ℕ) (b : Placed) → AreBlocks ns ts bs → b.place ≡ n.place → EncodesBlock t b.block
    → AreBlocks (ns ++ n ∷ []) (ts ++ t ∷ []) (bs ++ b ∷ [])
blocks_more [] [] [] n t b are place encodes = (place, encodes, tt)
blocks_more [] [] (c ∷ cs) n t b are place encodes = absurd are
blocks_more [] (u ∷ ts) bs n t b are place encodes = absurd are
blocks_more (m ∷ ns) [] bs n t b are place encodes = absurd are
blocks_more (m ∷ ns) (u ∷ ts) [] n t b are place encodes = absurd are
blocks_more (m ∷ ns) (u ∷ ts) (c ∷ cs) n t b are place encodes = (are.0, are.1, blocks_more ns ts cs n t b are.2 place encodes)

-- What the loop keeps: the blocks of the first records, as many as were passed, were put in.
pub record Round {A : Type 0} (of_files : block_files.Ghosts A) (before now : A) (nodes : List Node) (i : ℕ) (chain : Chain) : Type 0 where
  pub good : IsGood chain
  pub texts : List (List ℕ)
  pub stood : AreRead (StoodAt of_files (of_files.bytes before) (of_files.bytes now)) (take i nodes) texts
  pub next : AreNextBlocks [] (take i nodes) texts chain
  pub read : HasRead of_files.tells (of_files.bytes before) (of_files.bytes now) (of_files.faults before) (of_files.faults now)

pub round_none : {A : Type 0} (of_files : block_files.Ghosts A) (before : A) (nodes : List Node) → Round of_files before before nodes 0 []
round_none of_files before nodes = record {
  good = record { each = tt };
  texts = [];
  stood = record { of = tt; told = tt };
  next = record { are = tt; next = tt };
  read = has_none of_files.tells (of_files.bytes before) (of_files.faults before);
}

-- one record more was taken
pub round_more : {A : Type 0} (of_files : block_files.Ghosts A) (before now later : A) (nodes : List Node) (i : ℕ) (d : Node) (chain longer : Chain) (block : Block)
    → Round of_files before now nodes i chain → i < length nodes
    → HasRead of_files.tells (of_files.bytes now) (of_files.bytes later) (of_files.faults now) (of_files.faults later)
    → longer ≡ chain ++ record { block = block; place = (get_or nodes i d).place } ∷ [] → IsNext chain block
    → (text : List ℕ) × IsBlockOf (get_or nodes i d) text × StoodAt of_files (of_files.bytes now) (of_files.bytes later) (get_or nodes i d) text × EncodesBlock text block
    → Round of_files before later nodes (i + 1) longer
round_more of_files before now later nodes i d chain longer block r lt read is follows (text, of, stood, encodes) =
    let n = get_or nodes i d in
    let all = has_then r.read read in
    let one : take (i + 1) nodes ≡ take i nodes ++ n ∷ [] = take_more nodes i d lt in
    let b : Placed = record { block = block; place = n.place } in
    let taken = read_more of_files (of_files.bytes before) (of_files.bytes now) (of_files.bytes later) (take i nodes) r.texts n text r.read.keeps read.keeps r.stood of stood in
    let put : AreNextBlocks [] (take i nodes ++ n ∷ []) (r.texts ++ text ∷ []) (chain ++ b ∷ []) =
    record { are = blocks_more (take i nodes) r.texts chain n text b r.next.are refl encodes; next = next_more [] chain b r.next.next follows } in
    rw is (record {
      good = record { each = next_more [] chain b r.good.each follows };
      texts = r.texts ++ text ∷ [];
      stood = rw one taken;
      next = rw one put;
      read = all;
    })

-- the next record's block can't be taken
pub round_refused : {A : Type 0} (of_files : block_files.Ghosts A) (before now later : A) (nodes : List Node) (i : ℕ) (d : Node) (chain : Chain)
    → Round of_files before now nodes i chain → i < length nodes → (of_files.tells → AllGrow (of_files.bytes now) (of_files.bytes later))
    → (text : List ℕ) × StoodAt of_files (of_files.bytes now) (of_files.bytes later) (get_or nodes i d) text
    × ((b : Block) → IsBlockOf (get_or nodes i d) text → EncodesBlock text b → IsNext chain b → ⊥)
    → HasBadBlock (StoodAt of_files (of_files.bytes before) (of_files.bytes later)) nodes
round_refused of_files before now later nodes i d chain r lt grows (text, stood, bad) = record {
  front = take i nodes;
  node = get_or nodes i d;
  after = drop (i + 1) nodes;
  whole = split_at nodes i d lt;
  texts = r.texts;
  read = read_longer of_files (of_files.bytes before) (of_files.bytes before) (of_files.bytes now) (of_files.bytes later) (take i nodes) r.texts (λ t. all_grow_none (of_files.bytes before)) grows r.stood;
  blocks = chain;
  before = r.next;
  text = text;
  told = stood_longer of_files (of_files.bytes before) (of_files.bytes now) (of_files.bytes later) (of_files.bytes later) (get_or nodes i d) text r.read.keeps (λ t. all_grow_none (of_files.bytes later)) stood;
  bad = bad;
}

-- all records' blocks are the chain
pub round_all : {A : Type 0} (of_files : block_files.Ghosts A) (before now : A) (nodes : List Node) (i : ℕ) (chain : Chain) → Round of_files before now nodes i chain → length nodes ≤ i
    → IsChainOf (StoodAt of_files (of_files.bytes before) (of_files.bytes now)) nodes chain
round_all of_files before now nodes i chain r most =
    let all : take i nodes ≡ nodes = take_all i nodes most in
    record { texts = r.texts; read = rw all at r.stood; blocks_are = rw all at r.next }

-- what was read in a block's place is what is told of it
pub read_as : (r : Result Block FileFault) (n : Node) (P : Node → List ℕ → Type 0) (text : List ℕ) → IsBlockOf n text → P n text → IfOk r (EncodesBlock text)
    → IfOk r (λ block. (t : List ℕ) × IsBlockOf n t × P n t × EncodesBlock t block)
read_as (Ok block) n P text of stood encodes = (text, of, stood, encodes)
read_as (Err e) n P text of stood encodes = tt

-- a record is read as bad where its bytes have changed
pub was_changed : (f : ReadFault) → read_fault f ≡ fault.Bad → (wanted : Hash32) × (found : Option Hash32) × (f ≡ reading.Changed wanted found)
was_changed reading.ArchiveFailed is = absurd (let bad = is in cc)
was_changed (reading.Changed wanted found) is = (wanted, found, refl)
was_changed reading.Memory is = absurd (let bad = is in cc)
