-- A move along a path of made nodes is done, and puts in the made blocks.
use Rattle.std.proofs.Common.{◌≡◌, ℕ, suc, ◌+◌, ◌<◌, ◌≤◌, List, [], ◌∷◌, ◌++◌, length, length-append, take, drop, refl, sym, ap, ◌∙◌, arith, append_assoc, subst, take-append-drop}
use Rattle.std.specs.Prelude.{Some, None}
use Rattle.std.specs.List.{AllByRecursion}
use Rattle.std.proofs.Math.Seq.{take-add}
use Rattle.std.proofs.lemmas.List.{take_at, map-append, length-map}
use Rattle.el_base.specs.declared.hash.Hash32.{Hash32}
use Rattle.el_outside.specs.Files.{Grows}
use Rattle.el_outside.specs.Seen.{WasSeen}
use Rattle.el_tx.specs.Headers.{header_encoding}
use Rattle.el_tx.specs.Encoding.{counted}
use Rattle.el_tx.specs.Hashing.{full_encoding}
use Rattle.el_block.specs.Blocks.{block_encoding, block_hash, EncodesBlock}
use Rattle.el_block.specs.declared.block.Block.{Block}
use Rattle.el_block.proofs.BlockLemmas.{one_block, never_both_block}
use Rattle.el_chain.specs.declared.placed.Placed.{Placed}
use Rattle.el_chain.specs.declared.node.Node.{Node}
use Rattle.el_chain.specs.declared.moves.MoveFault.{MoveFault}
use Rattle.el_chain.specs.declared.moves.MoveFault.TheVariants as stop
use Rattle.el_chain.specs.Chains.{Chain}
use Rattle.el_chain.specs.Faults.{fault}
use Rattle.el_chain.specs.Records.{IsBlockOf}
use Rattle.el_chain.specs.Moves.{max_forward, StoodAt, AllStood, AreBlocks, AreRead, HasChanged, IsBad, FaultInAt, IsRefused, Moves, shorter}
use Rattle.el_chain.proofs.RecordBytes.{block_stays}
use Rattle.el_gen.specs.MadeFile.{no_block}
use Rattle.el_lines.specs.NodeAnswers.{move_refused}
use Rattle.el_lines.specs.declared.node_answer.NodeAnswer.{NodeAnswer}
use Rattle.el_side.specs.Plans.{plan_of}
use Rattle.el_check_chain.specs.Checked.{steady}
use Rattle.el_check_laws.specs.Differing.{blocks_of}
use Rattle.el_check_laws.specs.MadeNodes.{IsNodeOf, AreNodesOf}
use Rattle.el_check_laws.proofs.MadeChains.{AreMade, txs_at}
use Rattle.el_check_laws.proofs.MadeOrder.{AreRight, no_fault}
use Rattle.el_check_laws.proofs.MadeRecords.{IsWhole}
use Rattle.el_check_laws.proofs.Apart.{all_parted}
use Rattle.el_check_laws.proofs.PlacedChains.{placed_of, placed_blocks, placed_taken, placed_dropped, nodes_taken, nodes_dropped}

-- ---- what stood at the place of a made node

-- the bytes that a sight of file 0 shows
sight_grows : (bytes : List ℕ) (before after : ℕ → List ℕ) (sight : List ℕ) → Grows bytes (before 0) → WasSeen steady before after 0 sight → Grows bytes sight
sight_grows bytes before after sight grows w =
    let more = w.between.grew 0 in (
      grows.0 ++ (more.0 ++ []),
      w.is ∙ ap (λ (t : List ℕ). t ++ []) (more.1 ∙ ap (λ (t : List ℕ). t ++ more.0) grows.1 ∙ append_assoc bytes grows.0 more.0)
          ∙ append_assoc bytes (grows.0 ++ more.0) [] ∙ ap (λ (t : List ℕ). bytes ++ t) (append_assoc grows.0 more.0 []),
    )

pub stood_text : (bytes : List ℕ) (before after : ℕ → List ℕ) (b : Block) (n : Node) (text : List ℕ) → Grows bytes (before 0) → IsNodeOf bytes b n
    → StoodAt steady before after n text → text ≡ block_encoding b
stood_text bytes before after b n text grows is stood =
    let told = stood tt in
    let sight = sight_grows bytes before after told.0 grows (subst (λ (f : ℕ). WasSeen steady before after f told.0) is.file told.1) in
    told.2 ∙ block_stays bytes told.0 n.place sight is.within ∙ is.text

-- the blocks that stood are the made ones
pub blocks_are : (bytes : List ℕ) (before after : ℕ → List ℕ) (bs : List Block) (ns : List Node) (texts : List (List ℕ)) (blocks : Chain) → Grows bytes (before 0)
    → AreNodesOf bytes bs ns → AllByRecursion IsWhole bs → AllStood (StoodAt steady before after) ns texts → AreBlocks ns texts blocks → blocks ≡ placed_of bs ns
blocks_are bytes before after [] [] [] [] grows are whole stood blocks = refl
blocks_are bytes before after [] [] [] (c ∷ cs) grows are whole stood blocks = absurd blocks
blocks_are bytes before after [] [] (t ∷ ts) cs grows are whole stood blocks = absurd stood
blocks_are bytes before after [] (n ∷ ns) ts cs grows are whole stood blocks = absurd are
blocks_are bytes before after (b ∷ bs) [] ts cs grows are whole stood blocks = absurd are
blocks_are bytes before after (b ∷ bs) (n ∷ ns) [] cs grows are whole stood blocks = absurd stood
blocks_are bytes before after (b ∷ bs) (n ∷ ns) (t ∷ ts) [] grows are whole stood blocks = absurd blocks
blocks_are bytes before after (b ∷ bs) (n ∷ ns) (t ∷ ts) (c ∷ cs) grows are whole stood blocks =
    let text = stood_text bytes before after b n t grows are.0 stood.0 in
    let same : c.block ≡ b = one_block (block_encoding b) c.block b (subst (λ (x : List ℕ). EncodesBlock x c.block) text blocks.1) whole.0.encoded in
    placed_is c b n blocks.0 same
    (blocks_are bytes before after bs ns ts cs grows are.1 whole.1 stood.1 blocks.2)
  where
    placed_is : (c : Placed) (b : Block) (n : Node) → c.place ≡ n.place → c.block ≡ b → cs ≡ placed_of bs ns → c ∷ cs ≡ record { block = b; place = n.place } ∷ placed_of bs ns
    placed_is c b n place block rest =
        ap (λ (p : _). record { block = c.block; place = p } ∷ cs) place ∙ ap (λ (x : Block). record { block = x; place = n.place } ∷ cs) block
        ∙ ap (λ (l : Chain). record { block = b; place = n.place } ∷ l) rest

-- ---- a path of made nodes

-- The nodes are those of made blocks from the genesis on, each of which can stand after those before it.
pub record IsMadePath (bytes : List ℕ) (of : ℕ → ℕ) (most : ℕ) (bs : List Block) (ns : List Node) : Type 0 where
  pub right : AreRight of most
  pub made : AreMade of no_block 0 bs
  pub few : length bs ≤ most
  pub nodes : AreNodesOf bytes bs ns
  pub whole : AllByRecursion IsWhole bs

-- a node among those of blocks, and its block
record Mid (bytes : List ℕ) (bs : List Block) (front : List Node) (n : Node) : Type 0 where
  pub xs : List Block
  pub b : Block
  pub ys : List Block
  pub is : bs ≡ xs ++ b ∷ ys
  pub before : AreNodesOf bytes xs front
  pub at : IsNodeOf bytes b n

mid_of : (bytes : List ℕ) (bs : List Block) (front : List Node) (n : Node) (after : List Node) → AreNodesOf bytes bs (front ++ n ∷ after) → Mid bytes bs front n
mid_of bytes [] [] n after are = absurd are
mid_of bytes [] (f ∷ front) n after are = absurd are
mid_of bytes (b ∷ bs) [] n after are = record { xs = []; b = b; ys = bs; is = refl; before = tt; at = are.0 }
mid_of bytes (b ∷ bs) (f ∷ front) n after are =
    let rest = mid_of bytes bs front n after are.1 in
    record { xs = b ∷ rest.xs; b = rest.b; ys = rest.ys; is = ap (λ (l : List Block). b ∷ l) rest.is; before = (are.0, rest.before); at = rest.at }

stood_mid : (stood : Node → List ℕ → Type 0) (front : List Node) (n : Node) (after : List Node) (fts : List (List ℕ)) (t : List ℕ) (ats : List (List ℕ))
    → AllStood stood (front ++ n ∷ after) (fts ++ t ∷ ats) → length front ≡ length fts → AllStood stood front fts × stood n t
stood_mid stood [] n after [] t ats all long = (tt, all.0)
stood_mid stood [] n after (x ∷ fts) t ats all long = absurd (omega (arith, long))
stood_mid stood (f ∷ front) n after [] t ats all long = absurd (omega (arith, long))
stood_mid stood (f ∷ front) n after (x ∷ fts) t ats all long =
    let rest = stood_mid stood front n after fts t ats all.1 (omega (arith, long)) in
    ((all.0, rest.0), rest.1)

blocks_long : (ns : List Node) (ts : List (List ℕ)) (cs : Chain) → AreBlocks ns ts cs → length ns ≡ length ts
blocks_long [] [] [] are = refl
blocks_long [] [] (c ∷ cs) are = absurd are
blocks_long [] (t ∷ ts) cs are = absurd are
blocks_long (n ∷ ns) [] cs are = absurd are
blocks_long (n ∷ ns) (t ∷ ts) [] are = absurd are
blocks_long (n ∷ ns) (t ∷ ts) (c ∷ cs) are = ap suc (blocks_long ns ts cs are.2)

made_mid : (of : ℕ → ℕ) (previous : Hash32) (height : ℕ) (xs : List Block) (b : Block) (ys : List Block) → AreMade of previous height (xs ++ b ∷ ys)
    → AreMade of previous height xs × (b.txs ≡ txs_at of (height + length xs))
made_mid of previous height [] b ys made =
    (tt, ap (λ (x : Block). x.txs) made.0 ∙ ap (txs_at of) (let e : height ≡ height + 0 = omega arith in e))
made_mid of previous height (x ∷ xs) b ys made =
    let rest = made_mid of (block_hash x.header) (suc height) xs b ys made.1 in
    ((made.0, rest.0), rest.1 ∙ ap (txs_at of) (let e : suc height + length xs ≡ height + suc (length xs) = omega arith in e))

whole_mid : (xs : List Block) (b : Block) (ys : List Block) → AllByRecursion IsWhole (xs ++ b ∷ ys) → AllByRecursion IsWhole xs × IsWhole b
whole_mid xs b ys all = let parts = all_parted IsWhole xs (b ∷ ys) all in (parts.0, parts.1.0)

-- the bytes of a made block are those of its node
eighty : (b : Block) → IsWhole b → length (header_encoding b.header) ≡ 80
eighty b whole =
    let lawful = whole.encoded.text.header in
    long b.header.previous.0 b.header.root.0 lawful.previous_size lawful.root_size
  where
    long : (previous top : List ℕ) → length previous ≡ 32 → length top ≡ 32 → length (header_encoding (record b.header { previous = record { 0 = previous }; root = record { 0 = top } })) ≡ 80
    long previous top p r = simp length-append (omega (arith, p, r))

is_block_of : (bytes : List ℕ) (b : Block) (n : Node) (text : List ℕ) → IsWhole b → IsNodeOf bytes b n → text ≡ block_encoding b → IsBlockOf n text
is_block_of bytes b n text whole at is = record {
  size = ap length is ∙ sym at.len;
  header = ap (take 80) is ∙ take_at (header_encoding b.header) (counted full_encoding b.txs) 80 (eighty b whole) ∙ ap header_encoding (sym at.header);
}

none_refused : (f : MoveFault) (answer : NodeAnswer) → move_refused f ≡ None → move_refused f ≡ Some answer → ⊥
none_refused f answer none some = let e : None ≡ Some answer = sym none ∙ some in cc

module _ (bytes : List ℕ) (of : ℕ → ℕ) (most : ℕ) (bs : List Block) (ns : List Node) (path : IsMadePath bytes of most bs ns)
    (before after : ℕ → List ℕ) (grows : Grows bytes (before 0)) (chain : Chain) (back k : ℕ) (stays : shorter back chain ≡ take k (placed_of bs ns)) where
  abbrev stood : Node → List ℕ → Type 0
  stood = StoodAt steady before after

  abbrev forward : List Node
  forward = take max_forward (drop k ns)

  abbrev forward_blocks : List Block
  forward_blocks = take max_forward (drop k bs)

  forward_are : AreNodesOf bytes forward_blocks forward
  forward_are = nodes_taken bytes max_forward (drop k bs) (drop k ns) (nodes_dropped bytes k bs ns path.nodes)

  forward_cut : bs ≡ take k bs ++ (forward_blocks ++ drop max_forward (drop k bs))
  forward_cut = sym (ap (λ (l : List Block). take k bs ++ l) (take-append-drop max_forward (drop k bs)) ∙ take-append-drop k bs)

  forward_whole : AllByRecursion IsWhole forward_blocks
  forward_whole =
      (all_parted IsWhole forward_blocks (drop max_forward (drop k bs))
      (all_parted IsWhole (take k bs) (forward_blocks ++ drop max_forward (drop k bs)) (subst (AllByRecursion IsWhole) forward_cut path.whole)).1).0

  -- where the node of a forward block stands
  record There (front : List Node) (n : Node) : Type 0 where
    pub xs : List Block
    pub b : Block
    pub before_are : AreNodesOf bytes xs front
    pub at : IsNodeOf bytes b n
    pub xs_whole : AllByRecursion IsWhole xs
    pub whole : IsWhole b
    pub made : AreMade of no_block 0 (take k bs ++ xs)
    pub txs : b.txs ≡ txs_at of (length (take k bs ++ xs))
    pub within : length (take k bs ++ xs) < most

  there : (front : List Node) (n : Node) (rest : List Node) → forward ≡ front ++ n ∷ rest → There front n
  there front n rest is =
      let mid = mid_of bytes forward_blocks front n rest (subst (AreNodesOf bytes forward_blocks) is forward_are) in
      let behind = mid.ys ++ drop max_forward (drop k bs) in
      let cut : bs ≡ (take k bs ++ mid.xs) ++ mid.b ∷ behind =
      forward_cut ∙ ap (λ (l : List Block). take k bs ++ (l ++ drop max_forward (drop k bs))) mid.is
      ∙ ap (λ (l : List Block). take k bs ++ l) (append_assoc mid.xs (mid.b ∷ mid.ys) (drop max_forward (drop k bs)))
      ∙ sym (append_assoc (take k bs) mid.xs (mid.b ∷ behind)) in
      let made = made_mid of no_block 0 (take k bs ++ mid.xs) mid.b behind (subst (AreMade of no_block 0) cut path.made) in
      let whole = whole_mid mid.xs mid.b mid.ys (subst (AllByRecursion IsWhole) mid.is forward_whole) in
      let long = ap length cut ∙ length-append (take k bs ++ mid.xs) (mid.b ∷ behind) in
      let few = path.few in
      record {
        xs = mid.xs;
        b = mid.b;
        before_are = mid.before;
        at = mid.at;
        xs_whole = whole.0;
        whole = whole.1;
        made = made.0;
        txs = made.1 ∙ ap (txs_at of) (let e : 0 + length (take k bs ++ mid.xs) ≡ length (take k bs ++ mid.xs) = omega arith in e);
        within = omega (arith, long, few);
      }

  not_changed : (w : Hash32) (f : _) → HasChanged stood forward w f → ⊥
  not_changed w f h =
      let t = there h.front h.node h.after h.whole in
      h.other.other (is_block_of bytes t.b h.node h.text t.whole t.at (stood_text bytes before after t.b h.node h.text grows t.at h.told))

  -- what stood at the place of the node that stops the move
  fault_text : (texts : List (List ℕ)) (e : MoveFault) → AreRead stood forward texts → (h : FaultInAt (shorter back chain) forward texts e)
      → (t : There h.front h.node) → (h.text ≡ block_encoding t.b) × (h.blocks ≡ placed_of t.xs h.front)
  fault_text texts e read h t =
      let all = subst (AllStood stood forward) h.whole_texts (read.told) in
      let parts = stood_mid stood h.front h.node h.after h.front_texts h.text h.after_texts (subst (λ (l : List Node). AllStood stood l (h.front_texts ++ h.text ∷ h.after_texts)) h.whole all)
      (blocks_long h.front h.front_texts h.blocks h.before.are) in (
        stood_text bytes before after t.b h.node h.text grows t.at parts.1,
        blocks_are bytes before after t.xs h.front h.front_texts h.blocks grows t.before_are t.xs_whole parts.0 h.before.are,
      )

  not_bad : (x : Hash32) (f : _) → IsBad stood chain (plan_of back (drop k ns)) (stop.BadBlock x f) → ⊥
  not_bad x f bad =
      let h = bad.first_fault in
      let t = there h.front h.node h.after h.whole in
      let text = (fault_text bad.texts (stop.BadBlock x f) bad.read h t).0 in
      never_both_block h.text t.b f (subst (λ (l : List ℕ). EncodesBlock l t.b) (sym text) t.whole.encoded) h.first_fault.1

  not_refused : (x : Hash32) (f : _) → IsBad stood chain (plan_of back (drop k ns)) (stop.Refused x f) → ⊥
  not_refused x f bad =
      let h = bad.first_fault in
      let t = there h.front h.node h.after h.whole in
      let both = fault_text bad.texts (stop.Refused x f) bad.read h t in
      let other = h.first_fault.1 in
      let same : other.0 ≡ t.b = one_block h.text other.0 t.b other.1 (subst (λ (l : List ℕ). EncodesBlock l t.b) (sym both.0) t.whole.encoded) in
      let on : shorter back chain ++ h.blocks ≡ placed_of (take k bs) (take k ns) ++ placed_of t.xs h.front =
      ap (λ (c : Chain). c ++ h.blocks) (stays ∙ placed_taken k bs ns) ∙ ap (λ (c : Chain). placed_of (take k bs) (take k ns) ++ c) both.1 in
      let blocks : blocks_of (shorter back chain ++ h.blocks) ≡ take k bs ++ t.xs =
      ap blocks_of on ∙ map-append (λ (c : Placed). c.block) (placed_of (take k bs) (take k ns)) (placed_of t.xs h.front)
      ∙ ap (λ (l : List Block). l ++ blocks_of (placed_of t.xs h.front)) (placed_blocks bytes (take k bs) (take k ns) (nodes_taken bytes k bs ns path.nodes))
      ∙ ap (λ (l : List Block). take k bs ++ l) (placed_blocks bytes t.xs h.front t.before_are) in
      let long : length (shorter back chain ++ h.blocks) ≡ length (take k bs ++ t.xs) = sym (length-map (shorter back chain ++ h.blocks) (λ (c : Placed). c.block)) ∙ ap length blocks in
      let within = t.within in
      let none = no_fault of most (shorter back chain ++ h.blocks) t.b path.right (subst (AreMade of no_block 0) (sym blocks) t.made) (omega (arith, long, within)) (t.txs ∙ ap (txs_at of) (sym long)) in
      let e : None ≡ Some f = sym none ∙ ap (fault (shorter back chain ++ h.blocks)) (sym same) ∙ other.2 in cc

  pub never_refused : (e : MoveFault) (answer : NodeAnswer) → move_refused e ≡ Some answer → IsRefused stood chain (plan_of back (drop k ns)) e → ⊥
  never_refused (stop.Changed w f) answer told why = not_changed w f why
  never_refused (stop.BadBlock x f) answer told why = not_bad x f why
  never_refused (stop.Refused x f) answer told why = not_refused x f why
  never_refused stop.DiskFailed answer told why = none_refused stop.DiskFailed answer refl told
  never_refused stop.ArchiveFailed answer told why = none_refused stop.ArchiveFailed answer refl told
  never_refused stop.Memory answer told why = none_refused stop.Memory answer refl told

  -- the blocks that are put in are the made ones
  pub put_in : (blocks : Chain) → Moves stood chain (plan_of back (drop k ns)) blocks → shorter back chain ++ blocks ≡ take (k + max_forward) (placed_of bs ns)
  put_in blocks moves =
      let is = blocks_are bytes before after forward_blocks forward moves.texts blocks grows forward_are forward_whole moves.read.told moves.blocks_are.are in
      ap (λ (c : Chain). c ++ blocks) stays
      ∙ ap (λ (c : Chain). take k (placed_of bs ns) ++ c) (is ∙ sym (placed_taken max_forward (drop k bs) (drop k ns)) ∙ ap (take max_forward) (sym (placed_dropped k bs ns)))
      ∙ sym (take-add k max_forward (placed_of bs ns))
