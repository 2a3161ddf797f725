-- Bytes of blocks that were read stood at their places, also as the files grow.
use Rattle.std.proofs.Common.{◌≡◌, ℕ, ◌+◌, ◌<◌, ◌≤◌, List, [], ◌∷◌, ◌++◌, length, take, drop, get_or, refl, sym, ◌∙◌, inl, inr, Err}
use Rattle.std.proofs.lemmas.List.{take_all, get_or_default}
use Rattle.std.specs.List.{AllByRecursion}
use Rattle.el_outside.specs.Files.{AllGrow}
use Rattle.el_outside.specs.Seen.{seen}
use Rattle.el_outside.specs.declared.archive.Archive as block_files
use Rattle.el_outside.proofs.Traces.{all_grow_none, all_grow_more}
use Rattle.el_chain.specs.declared.node.Node.{Node}
use Rattle.el_chain.specs.declared.moves.MoveFault.{MoveFault}
use Rattle.el_chain.specs.declared.moves.MoveFault.TheVariants as stop
use Rattle.el_chain.specs.Records.{IsBlockOf, IsOtherBlock, IsNode, block_at}
use Rattle.el_chain.specs.Reading.{IfChanged}
use Rattle.el_chain.specs.declared.read_fault.ReadFault.{ReadFault}
use Rattle.el_chain.specs.declared.read_fault.ReadFault.TheVariants as reading
use Rattle.el_chain.specs.Chains.{Chain}
use Rattle.el_chain.specs.Moves.{AreOf, AllStood, AreRead, Moves, StoodAt, StoodBy, IsRefused, InFlight}
use Rattle.el_chain.specs.declared.moves.Plan.{Plan}
use Rattle.el_base.proofs.Lists.{cut_at, left_at, taken_at}
use Rattle.el_model.specs.within.Reading.{IsUnreadOne, IsUnread, unread_as}

-- what stood in one time stood in a longer one
pub stood_longer : {A : Type 0} (of_files : block_files.Ghosts A) (f g h i : ℕ → List ℕ) (n : Node) (t : List ℕ) → (of_files.tells → AllGrow f g) → (of_files.tells → AllGrow h i)
    → StoodAt of_files g h n t → StoodAt of_files f i n t
stood_longer of_files f g h i n t before after stood = λ tl.
    let s = stood tl in
    let w = s.1 in (
      s.0,
      record {
        archive = w.archive;
        between = record {
          grew = all_grow_more f g (of_files.bytes w.archive) (before tl) w.between.grew;
          grows = all_grow_more (of_files.bytes w.archive) h i w.between.grows (after tl);
        };
        is = w.is;
      },
      s.2,
    )

-- what a call that has just ended read
pub stood_now : {A : Type 0} (of_files : block_files.Ghosts A) (before : ℕ → List ℕ) (now : A) (n : Node) (t : List ℕ) → (of_files.tells → AllGrow before (of_files.bytes now))
    → (of_files.tells → t ≡ block_at n.place (seen of_files now n.place.file)) → StoodAt of_files before (of_files.bytes now) n t
stood_now of_files before now n t grew read = λ tl. (
  seen of_files now n.place.file,
  record { archive = now; between = record { grew = grew tl; grows = all_grow_none (of_files.bytes now) }; is = refl },
  read tl,
)

-- why the bytes of a block were not read
pub unread_one : {A : Type 0} (of_files : block_files.Ghosts A) (before : ℕ → List ℕ) (now : A) (n : Node) (f : ReadFault) (e : MoveFault) → e ≡ unread_as f
    → (of_files.tells → AllGrow before (of_files.bytes now)) → IfChanged {T = ℕ} (Err f) (λ wanted found. wanted ≡ n.hash)
    → IfChanged {T = ℕ} (Err f) (λ wanted found. (bytes : List ℕ) × (of_files.tells → bytes ≡ block_at n.place (seen of_files now n.place.file)) × IsOtherBlock n bytes found)
    → IsUnreadOne (StoodAt of_files before (of_files.bytes now)) n e
unread_one of_files before now n reading.ArchiveFailed e is grew wanted changed = rw is tt
unread_one of_files before now n (reading.Changed w f) e is grew wanted changed =
    rw is (wanted, (changed.0, stood_now of_files before now n changed.0 grew changed.1, changed.2))
unread_one of_files before now n reading.Memory e is grew wanted changed = rw is tt

pub all_stood_weaker : (P Q : Node → List ℕ → Type 0) (ns : List Node) (ts : List (List ℕ)) → ((n : Node) (t : List ℕ) → P n t → Q n t) → AllStood P ns ts → AllStood Q ns ts
all_stood_weaker P Q [] [] weaker all = tt
all_stood_weaker P Q [] (t ∷ ts) weaker all = absurd all
all_stood_weaker P Q (n ∷ ns) [] weaker all = absurd all
all_stood_weaker P Q (n ∷ ns) (t ∷ ts) weaker all = (weaker n t all.0, all_stood_weaker P Q ns ts weaker all.1)

pub read_weaker : (P Q : Node → List ℕ → Type 0) (ns : List Node) (ts : List (List ℕ)) → ((n : Node) (t : List ℕ) → P n t → Q n t) → AreRead P ns ts → AreRead Q ns ts
read_weaker P Q ns ts weaker read = record { of = read.of; told = all_stood_weaker P Q ns ts weaker read.told }

-- a move is one whatever else is known of where its blocks stood
pub moves_weaker : (P Q : Node → List ℕ → Type 0) (chain : Chain) (p : Plan) (blocks : Chain) → ((n : Node) (t : List ℕ) → P n t → Q n t) → Moves P chain p blocks → Moves Q chain p blocks
moves_weaker P Q chain p blocks weaker m = record {
  texts = m.texts;
  read = read_weaker P Q p.forward m.texts weaker m.read;
  blocks_are = m.blocks_are;
}

-- nor does it matter for a move that is refused, or in flight
pub refused_weaker : (P Q : Node → List ℕ → Type 0) (chain : Chain) (p : Plan) (e : MoveFault) → ((n : Node) (t : List ℕ) → P n t → Q n t) → IsRefused P chain p e → IsRefused Q chain p e
refused_weaker P Q chain p stop.DiskFailed weaker why = tt
refused_weaker P Q chain p stop.ArchiveFailed weaker why = tt
refused_weaker P Q chain p stop.Memory weaker why = tt
refused_weaker P Q chain p (stop.Changed w f) weaker why = record {
  front = why.front;
  node = why.node;
  after = why.after;
  whole = why.whole;
  texts = why.texts;
  before = read_weaker P Q why.front why.texts weaker why.before;
  text = why.text;
  told = weaker why.node why.text why.told;
  other = why.other;
  is = why.is;
}
refused_weaker P Q chain p (stop.BadBlock h f) weaker why =
    record { texts = why.texts; read = read_weaker P Q p.forward why.texts weaker why.read; first_fault = why.first_fault }
refused_weaker P Q chain p (stop.Refused h f) weaker why =
    record { texts = why.texts; read = read_weaker P Q p.forward why.texts weaker why.read; first_fault = why.first_fault }

pub flight_weaker : (P Q : Node → List ℕ → Type 0) (chain : Chain) (p : Plan) (next : Chain) → ((n : Node) (t : List ℕ) → P n t → Q n t) → InFlight P chain p next → InFlight Q chain p next
flight_weaker P Q chain p next weaker (inl same) = inl same
flight_weaker P Q chain p next weaker (inr to) = inr (to.0, moves_weaker P Q chain p to.0 weaker to.1, to.2)

-- what stood in a time stood at some moment up to a later one
pub stood_up_to : {A : Type 0} (of_files : block_files.Ghosts A) (before after later : ℕ → List ℕ) (n : Node) (t : List ℕ) → (of_files.tells → AllGrow after later)
    → StoodAt of_files before after n t → StoodBy of_files later n t
stood_up_to of_files before after later n t grows stood = stood_longer of_files (λ file. []) before after later n t (λ tl file. (before file, refl)) grows stood

of_more : (ns : List Node) (ts : List (List ℕ)) (n : Node) (t : List ℕ) → AreOf ns ts → IsBlockOf n t → AreOf (ns ++ n ∷ []) (ts ++ t ∷ [])
of_more [] [] n t h of = (of, tt)
of_more [] (u ∷ ts) n t h of = absurd h
of_more (m ∷ ns) [] n t h of = absurd h
of_more (m ∷ ns) (u ∷ ts) n t h of = (h.0, of_more ns ts n t h.1 of)

stood_more : (P : Node → List ℕ → Type 0) (ns : List Node) (ts : List (List ℕ)) (n : Node) (t : List ℕ) → AllStood P ns ts → P n t → AllStood P (ns ++ n ∷ []) (ts ++ t ∷ [])
stood_more P [] [] n t h p = (p, tt)
stood_more P [] (u ∷ ts) n t h p = absurd h
stood_more P (m ∷ ns) [] n t h p = absurd h
stood_more P (m ∷ ns) (u ∷ ts) n t h p = (h.0, stood_more P ns ts n t h.1 p)

-- what was read in one time was read in a longer one
pub read_longer : {A : Type 0} (of_files : block_files.Ghosts A) (f g h i : ℕ → List ℕ) (ns : List Node) (ts : List (List ℕ)) → (of_files.tells → AllGrow f g) → (of_files.tells → AllGrow h i)
    → AreRead (StoodAt of_files g h) ns ts → AreRead (StoodAt of_files f i) ns ts
read_longer of_files f g h i ns ts before after read =
    read_weaker (StoodAt of_files g h) (StoodAt of_files f i) ns ts (λ n t. stood_longer of_files f g h i n t before after) read

-- and one block more
pub read_more : {A : Type 0} (of_files : block_files.Ghosts A) (before mid new : ℕ → List ℕ) (ns : List Node) (ts : List (List ℕ)) (n : Node) (t : List ℕ) → (of_files.tells → AllGrow before mid)
    → (of_files.tells → AllGrow mid new) → AreRead (StoodAt of_files before mid) ns ts → IsBlockOf n t → StoodAt of_files mid new n t → AreRead (StoodAt of_files before new) (ns ++ n ∷ []) (ts ++ t ∷ [])
read_more of_files before mid new ns ts n t grew grows read of stood =
    let first = read_longer of_files before before mid new ns ts (λ tl. all_grow_none before) grows read in
    record {
      of = of_more ns ts n t first.of of;
      told = stood_more (StoodAt of_files before new) ns ts n t first.told (stood_longer of_files before mid new new n t grew (λ tl. all_grow_none new) stood);
    }

-- the first blocks were read, and the others are nodes
pub record Reading (stood : Node → List ℕ → Type 0) (nodes : List Node) (i : ℕ) (texts : List (List ℕ)) : Type 0 where
  pub read : AreRead stood (take i nodes) texts
  pub nodes_left : AllByRecursion IsNode (drop i nodes)

pub reading_begins : (stood : Node → List ℕ → Type 0) (nodes : List Node) (texts : List (List ℕ)) → texts ≡ [] → AllByRecursion IsNode nodes → Reading stood nodes 0 texts
reading_begins stood nodes texts none h = rw none (record { read = record { of = tt; told = tt }; nodes_left = h })

pub node_here : (stood : Node → List ℕ → Type 0) (nodes : List Node) (i : ℕ) (texts : List (List ℕ)) (n d : Node) → Reading stood nodes i texts → i < length nodes
    → n ≡ get_or nodes i d → IsNode n
node_here stood nodes i texts n d r lt is' =
    let is : n ≡ get_or nodes i n = is' ∙ get_or_default nodes i d n lt in
    let all = rw (left_at nodes i n lt is) at r.nodes_left in
    all.0

-- one more was read
pub reading_more : {A : Type 0} (of_files : block_files.Ghosts A) (before mid new : ℕ → List ℕ) (nodes : List Node) (i : ℕ) (texts : List (List ℕ)) (n d : Node) (t : List ℕ) (texts' : List (List ℕ))
    → Reading (StoodAt of_files before mid) nodes i texts → i < length nodes → n ≡ get_or nodes i d → (of_files.tells → AllGrow before mid) → (of_files.tells → AllGrow mid new)
    → IsBlockOf n t → StoodAt of_files mid new n t → texts' ≡ texts ++ t ∷ [] → Reading (StoodAt of_files before new) nodes (i + 1) texts'
reading_more of_files before mid new nodes i texts n d t texts' r lt is' grew grows of told added =
    let is : n ≡ get_or nodes i n = is' ∙ get_or_default nodes i d n lt in
    let all = rw (left_at nodes i n lt is) at r.nodes_left in
    let front : take i nodes ++ n ∷ [] ≡ take (i + 1) nodes = sym (taken_at nodes i n lt is) in
    record {
      read = rw (← front, added) (read_more of_files before mid new (take i nodes) texts n t grew grows r.read of told);
      nodes_left = all.1;
    }

-- the one that wasn't read
pub unread_at : {A : Type 0} (of_files : block_files.Ghosts A) (before mid new : ℕ → List ℕ) (nodes : List Node) (i : ℕ) (texts : List (List ℕ)) (n d : Node) (e : MoveFault)
    → Reading (StoodAt of_files before mid) nodes i texts → i < length nodes → n ≡ get_or nodes i d → (of_files.tells → AllGrow before mid) → (of_files.tells → AllGrow mid new)
    → IsUnreadOne (StoodAt of_files mid new) n e → IsUnread (StoodAt of_files before new) nodes e
unread_at of_files before mid new nodes i texts n d (stop.Changed w f) r lt is' grew grows unread =
    let is : n ≡ get_or nodes i n = is' ∙ get_or_default nodes i d n lt in record {
      front = take i nodes;
      node = n;
      after = drop (i + 1) nodes;
      whole = cut_at nodes i n lt is;
      texts = texts;
      before = read_longer of_files before before mid new (take i nodes) texts (λ tl. all_grow_none before) grows r.read;
      text = unread.1.0;
      told = stood_longer of_files before mid new new n unread.1.0 grew (λ tl. all_grow_none new) unread.1.1;
      other = unread.1.2;
      is = unread.0;
    }
unread_at of_files before mid new nodes i texts n d stop.ArchiveFailed r lt is grew grows unread = tt
unread_at of_files before mid new nodes i texts n d stop.Memory r lt is grew grows unread = tt
unread_at of_files before mid new nodes i texts n d stop.DiskFailed r lt is grew grows unread = unread
unread_at of_files before mid new nodes i texts n d (stop.BadBlock h f) r lt is grew grows unread = unread
unread_at of_files before mid new nodes i texts n d (stop.Refused h f) r lt is grew grows unread = unread

pub reading_ends : (stood : Node → List ℕ → Type 0) (nodes : List Node) (i : ℕ) (texts : List (List ℕ)) → Reading stood nodes i texts → length nodes ≤ i
    → AreRead stood nodes texts
reading_ends stood nodes i texts r most = rw (take_all i nodes most) at r.read
