-- Blocks are put in, one after the other.
use Rattle.std.proofs.Common.{◌≡◌, ◌⊎◌, inl, inr, ℕ, ◌+◌, ◌-◌, ◌≤◌, ◌||◌, List, [], ◌∷◌, ◌++◌, length, drop, None, Some, refl, sym, subst, ap, ◌∙◌, append_assoc, append-nil, arith}
use Rattle.std.specs.List.{list_any}
use Rattle.std.proofs.lemmas.List.{take_all}
use Rattle.el_base.specs.declared.hash.Hash32.{Hash32}
use Rattle.el_tx.specs.declared.types.Header.{Header}
use Rattle.el_block.specs.declared.block.Block.{Block}
use Rattle.el_block.specs.Blocks.{EncodesBlock, block_hash}
use Rattle.el_chain.specs.declared.placed.Placed.{Placed}
use Rattle.el_chain.specs.declared.node.Node.{Node}
use Rattle.el_chain.specs.declared.fault.ConnectFault.{ConnectFault}
use Rattle.el_chain.specs.declared.fault.ConnectFault.TheVariants as refusal
use Rattle.el_chain.specs.declared.moves.MoveFault.{MoveFault}
use Rattle.el_chain.specs.declared.moves.MoveFault.TheVariants as stop
use Rattle.el_chain.specs.declared.moves.Plan.{Plan}
use Rattle.el_chain.specs.Chains.{Chain, tip, zero_hash}
use Rattle.el_chain.specs.Coins.{coins}
use Rattle.el_chain.specs.Faults.{IsGood, fault}
use Rattle.el_chain.specs.Headers.{AreLinked, same_hash}
use Rattle.el_chain.specs.Moves.{FaultInAt, IsStop, shorter}
use Rattle.el_chain.specs.Records.{IsNode, IsBlockOf}
use Rattle.el_chain.specs.Touches.{touches_any}
use Rattle.el_chain.proofs.Chains.{tip_last}
use Rattle.el_chain.proofs.DraftSteps.{header_same}
use Rattle.el_chain.proofs.MoveSteps.{NextIs, next_blocks_more, stops_at}
use Rattle.el_row_formats.specs.Tables.{Tables}
use Rattle.el_index.specs.Means.{AreRowsOf}
use Rattle.el_index.specs.within.Adding.{AreAdded, IsAfter, AreAfter, AreMoved, IsAdding, IsOwn}
use Rattle.el_index.proofs.Touchings.{Law, moved_touches, whole}

-- why a block isn't connected
pub stopped : (chain : Chain) (hash : Hash32) (t : List ℕ) (b : Block) (f : ConnectFault) (e : MoveFault) → EncodesBlock t b
    → (f ≡ refusal.DiskFailed) ⊎ ((f ≡ refusal.Memory) ⊎ (fault chain b ≡ Some f)) → IsOwn e ⊎ (e ≡ stop.Refused hash f)
    → (f ≡ refusal.DiskFailed → e ≡ stop.DiskFailed) → (f ≡ refusal.Memory → e ≡ stop.Memory) → IsOwn e ⊎ IsStop chain hash t e
stopped chain hash t b f e s (inl d) kept device memory = inl (inl (device d))
stopped chain hash t b f e s (inr (inl m)) kept device memory = inl (inr (memory m))
stopped chain hash t b f e s (inr (inr is)) (inl own) device memory = inl own
stopped chain hash t b f e s (inr (inr is)) (inr e_is) device memory = inr (rw e_is (refl, (b, s, is)))

-- the block that was put in
pub is_after : (heads : ℕ) (chain : Chain) (n : Node) (t : List ℕ) (rows : Tables) (b : Block) → IsNode n → IsBlockOf n t → EncodesBlock t b → b.header.previous ≡ tip chain
    → (fault chain b ≡ None) × AreRowsOf heads rows (chain ++ record { block = b; place = n.place } ∷ [])
    → (x : Placed) × IsAfter heads chain n t rows x
is_after heads chain n t rows b node of s names done =
    let x : Placed = record { block = b; place = n.place } in (
      x,
      record {
        place = refl;
        encodes = s;
        next = record { encoded = (t, s); names = names; faultless = done.0 };
        stand = done.1;
        hash = tip_last zero_hash chain x ∙ ap block_hash (header_same n t b node of s) ∙ sym node.hash;
      },
    )

pub names_tip : (n : Node) (t : List ℕ) (b : Block) (before : Hash32) → IsNode n → IsBlockOf n t → EncodesBlock t b → n.header.previous ≡ before → b.header.previous ≡ before
names_tip n t b before node of s names = ap (λ (h : Header). h.previous) (header_same n t b node of s) ∙ names

pub adding_begins : (heads : ℕ) (chain : Chain) (nodes : List Node) (texts : List (List ℕ)) (rows : Tables) → AreRowsOf heads rows chain → AreLinked (tip chain) nodes
    → (blocks : Chain) × IsAdding heads chain nodes texts 0 rows blocks
adding_begins heads chain nodes texts rows stand linked = (
  [],
  record {
    after = record {
      next = record { are = tt; next = tt };
      stand = rw (append-nil chain) stand;
    };
    linked = rw (append-nil chain) linked;
  },
)

-- the next node names the last block
pub adding_names : (heads : ℕ) (chain : Chain) (nodes : List Node) (texts : List (List ℕ)) (i : ℕ) (rows : Tables) (blocks : Chain) (n : Node) (t : List ℕ)
    → IsAdding heads chain nodes texts i rows blocks → NextIs nodes texts i n t → n.header.previous ≡ tip (chain ++ blocks)
adding_names heads chain nodes texts i rows blocks n t a is = let l = rw is.left at a.linked in l.0

pub adding_more : (heads : ℕ) (chain : Chain) (nodes : List Node) (texts : List (List ℕ)) (i : ℕ) (rows rows' : Tables) (blocks : Chain) (n : Node) (t : List ℕ) (b : Placed)
    → IsAdding heads chain nodes texts i rows blocks → NextIs nodes texts i n t → IsAfter heads (chain ++ blocks) n t rows' b
    → IsAdding heads chain nodes texts (i + 1) rows' (blocks ++ b ∷ [])
adding_more heads chain nodes texts i rows rows' blocks n t b a is after =
    let l = rw is.left at a.linked in
    let joined : (chain ++ blocks) ++ b ∷ [] ≡ chain ++ (blocks ++ b ∷ []) = append_assoc chain blocks (b ∷ []) in
    record {
      after = record {
        next = next_blocks_more chain nodes texts i blocks n t b a.after.next is after.place after.encodes after.next;
        stand = rw (← joined) after.stand;
      };
      linked = rw (← joined, after.hash) l.1;
    }

pub adding_ends : (heads : ℕ) (chain : Chain) (nodes : List Node) (texts : List (List ℕ)) (i : ℕ) (rows : Tables) (blocks : Chain)
    → IsAdding heads chain nodes texts i rows blocks → length nodes ≤ i → length nodes ≡ length texts → AreAfter heads chain nodes texts rows blocks
adding_ends heads chain nodes texts i rows blocks a past same = rw (take_all i nodes past, take_all i texts (omega arith)) at a.after

-- the block that stops the move
pub adding_stops : (heads : ℕ) (chain : Chain) (nodes : List Node) (texts : List (List ℕ)) (i : ℕ) (rows : Tables) (blocks : Chain) (n : Node) (t : List ℕ) (e : MoveFault)
    → IsAdding heads chain nodes texts i rows blocks → NextIs nodes texts i n t → IsOwn e ⊎ IsStop (chain ++ blocks) n.hash t e → IsOwn e ⊎ FaultInAt chain nodes texts e
adding_stops heads chain nodes texts i rows blocks n t e a is (inl own) = inl own
adding_stops heads chain nodes texts i rows blocks n t e a is (inr stop) = inr (stops_at chain nodes texts i blocks n t e a.after.next is stop)

-- all edits of a move
pub are_moved : Law → (heads : ℕ) (p : Plan) (chain : Chain) (texts : List (List ℕ)) (old mid new : List Hash32) (rows : Tables) (blocks : Chain) → IsGood chain → old ≡ []
    → AreAdded (shorter p.back chain) (drop (length chain - p.back) chain) old mid → AreAfter heads (shorter p.back chain) p.forward texts rows blocks
    → ((s : Hash32) → list_any (same_hash s) new ≡ (list_any (same_hash s) mid || touches_any s.0 (coins (shorter p.back chain)) blocks)) → AreMoved heads p chain texts new rows blocks
are_moved law heads p chain texts old mid new rows blocks good none gone after touched = record {
  next = after.next;
  stand = after.stand;
  touched = moved_touches law (shorter p.back chain) (drop (length chain - p.back) chain) blocks old mid new (whole p.back chain good) none gone touched;
}

-- the same rows
pub moved_same : (heads : ℕ) (p : Plan) (chain : Chain) (texts : List (List ℕ)) (new : List Hash32) (a b : Tables) (blocks : Chain) → a ≡ b → AreMoved heads p chain texts new a blocks → AreMoved heads p chain texts new b blocks
moved_same heads p chain texts new a b blocks same moved = subst (λ (T : Tables). AreMoved heads p chain texts new T blocks) same moved
