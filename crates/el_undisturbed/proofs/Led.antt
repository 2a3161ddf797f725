-- Lines of the node of a sure side, in which no call of a device fails: the block files have all then too, and no failure
-- is told.
use Rattle.std.proofs.Common.{◌≡◌, ℕ, zero, suc, Bool, true, false, ◌||◌, if◌then◌else◌, List, [], ◌∷◌, ◌++◌, take, Option, None, Some, sym, ap, ◌∙◌, subst, true≢false}
use Rattle.std.specs.List.{AllByRecursion}
use Rattle.el_base.specs.declared.hash.Hash32.{Hash32}
use Rattle.el_base.proofs.Lists.{all_mid, all_more}
use Rattle.el_side.specs.Deeds.{Deed, NoneLost}
use Rattle.el_side.proofs.Deeds.{not_lost}
use Rattle.el_outside.specs.Files.{AllGrow}
use Rattle.el_outside.specs.Seen.{seen}
use Rattle.el_outside.proofs.Traces.{all_grow_none, grows_by, grows_more}
use Rattle.el_outside.specs.declared.archive.Archive as block_files
use Rattle.el_chain.specs.declared.node.Node.{Node}
use Rattle.el_chain.specs.Headers.{is_known, is_second}
use Rattle.el_chain.specs.Moves.{HasChanged, Moves, StoodAt, max_forward, target}
use Rattle.el_chain.specs.Records.{block_at, IsBlockOf}
use Rattle.el_tx.specs.declared.types.Tx.{Tx}
use Rattle.el_headers.proofs.Paths.{path_nodes, all_drop}
use Rattle.el_lines.specs.Lines.{LineEvent, line, too_long}
use Rattle.el_lines.specs.NodeLines as says
use Rattle.el_lines.specs.NodeLines.{NodeLine}
use Rattle.el_lines.specs.declared.node_answer.NodeAnswer.{NodeAnswer}
use Rattle.el_chain.specs.Chains.{Chain}
use Rattle.el_chain.specs.declared.moves.Plan.{Plan}
use Rattle.el_methods.specs.Archives.{HasRecords, WasWritten}
use Rattle.el_side.specs.Plans.{plan_of}
use Rattle.el_side.specs.Side as side_of
use Rattle.el_side.specs.Side.{Side, IsSure, Looks, LooksUp, found_after, Moving, GoesAlong, Tips, Adds, Drops, Orders, OrdersLine}
use Rattle.el_undisturbed.specs.HasAll.{HasAll, HasBlockOf}
use Rattle.el_undisturbed.specs.WholeRecords.{ShowWholeRecords}
use Rattle.el_undisturbed.proofs.NodeLines.{IsOwnAnswer, of_move, of_pool, of_found}
use Rattle.el_undisturbed.proofs.Standing.{block_same, blocks_kept, all_written}

-- a line led on
pub record Goes (answer : NodeAnswer) (next : Side) : Type 0 where
  pub own : IsOwnAnswer answer
  pub has : HasAll next

-- what holds of the records of a chain: they stay as the files grow, and a move puts in blocks that have theirs
pub record Records {A : Type 0} (of_files : block_files.Ghosts A) : Type 0 where
  pub stay : (old new : ℕ → List ℕ) (chain : Chain) → AllGrow old new → HasRecords old chain → HasRecords new chain
  pub moved : (before after : ℕ → List ℕ) (chain blocks : Chain) (p : Plan) → of_files.tells → AllByRecursion (WasWritten before) p.forward
      → HasRecords after chain → Moves (StoodAt of_files before after) chain p blocks → HasRecords after (target p chain blocks)

all_taken : {X : Type 0} (P : X → Type 0) (n : ℕ) (xs : List X) → AllByRecursion P xs → AllByRecursion P (take n xs)
all_taken P zero xs all = tt
all_taken P (suc n) [] all = tt
all_taken P (suc n) (x ∷ xs) all = (all.0, all_taken P n xs all.1)

module _ {A : Type 0} (of_files : block_files.Ghosts A) (records : Records of_files) (told : of_files.tells) (side : Side) (end : ℕ → List ℕ)
    (shows : ShowWholeRecords of_files side.magic side.files end) (sure : IsSure side) (all : HasAll side)
    (answer : NodeAnswer) (losses : List Deed) (none : NoneLost losses) (next : Side) (ends : AllGrow next.files end) where
  never : side.sure ≡ false → ⊥
  never un = true≢false (sym sure ∙ un)

  -- what stays as the files grow
  stays : (files : ℕ → List ℕ) → AllGrow side.files files → HasAll (record side { files = files })
  stays files grows = record {
    found = blocks_kept side.files files side.found grows all.found;
    ahead = blocks_kept side.files files side.ahead grows all.ahead;
    chain = records.stay side.files files side.chain grows all.chain;
  }

  found_more : (file at : ℕ) (found : Option Node) (files : ℕ → List ℕ) → AllGrow files end → LooksUp of_files side file at found files
      → AllByRecursion (HasBlockOf files) (found_after side.found found)
  found_more file at None files later looked = blocks_kept side.files files side.found (looked.grows told) all.found
  found_more file at (Some n) files later looked = by (is_known side.found n.hash || is_second side.found n)
    where
      by : (b : Bool) → AllByRecursion (HasBlockOf files) (if b then side.found else side.found ++ n ∷ [])
      by true = blocks_kept side.files files side.found (looked.grows told) all.found
      by false = all_more (HasBlockOf files) side.found n (blocks_kept side.files files side.found (looked.grows told) all.found)
          (shows.looked side.files files file at n (all_grow_none side.files) later (looked.record_is told))

  of_looks : (file at : ℕ) → Looks of_files side file at answer losses next → Goes answer next
  of_looks file at (side_of.looks found files looked e n z) = record {
    own = rw e (of_found side.found found);
    has = rw n (record {
      found = found_more file at found files (rw n at ends) looked;
      ahead = blocks_kept side.files files side.ahead (looked.grows told) all.ahead;
      chain = records.stay side.files files side.chain (looked.grows told) all.chain;
    });
  }
  of_looks file at (side_of.fails files grows e n z) = absurd (not_lost _ losses none z)

  -- no block has changed
  no_change : (files : ℕ → List ℕ) (nodes : List Node) (wanted : Hash32) (found : Option Hash32) → AllByRecursion (HasBlockOf side.files) nodes
      → HasChanged (StoodAt of_files side.files files) nodes wanted found → ⊥
  no_change files nodes wanted found have c =
      let file = c.node.place.file in
      let has = all_mid (HasBlockOf side.files) c.front c.node c.after (rw c.whole at have) in
      let stood = c.told told in
      let w = stood.1 in
      let bytes = of_files.bytes w.archive file in
      let grown = grows_more (side.files file) bytes (seen of_files w.archive file) (w.between.grew file) (grows_by bytes (of_files.padding w.archive file)) in
      let there = block_same c.node (side.files file) (seen of_files w.archive file) grown has in
      let is : c.text ≡ block_at c.node.place (seen of_files w.archive file) = stood.2 ∙ ap (block_at c.node.place) w.is in
      c.other.other (subst (IsBlockOf c.node) (sym is) there)

  pub of_moving : (back : ℕ) (rest : List Node) → AllByRecursion (HasBlockOf side.files) rest → Moving of_files side back rest answer losses next → Goes answer next
  of_moving back rest have (side_of.commits files blocks grows moved n e z) = record {
    own = rw e tt;
    has = rw n (record {
      found = blocks_kept side.files files side.found (grows told) all.found;
      ahead = blocks_kept side.files files _ (grows told) (all_drop (HasBlockOf side.files) max_forward rest have);
      chain = records.moved side.files files side.chain blocks (plan_of back rest) told
          (all_written side.files (take max_forward rest) (all_taken (HasBlockOf side.files) max_forward rest have))
          (records.stay side.files files side.chain (grows told) all.chain) moved;
    });
  }
  of_moving back rest have (side_of.refuses files e grows word refused n z) = record {
    own = of_move e answer word (λ wanted found is.
        no_change files (take max_forward rest) wanted found (all_taken (HasBlockOf side.files) max_forward rest have) (rw is at refused));
    has = rw n (record {
      found = blocks_kept side.files files side.found (grows told) all.found;
      ahead = tt;
      chain = records.stay side.files files side.chain (grows told) all.chain;
    });
  }
  of_moving back rest have (side_of.fails files grows e n z) = absurd (not_lost _ losses none z)
  of_moving back rest have (side_of.unsure un left files grows may n z) = absurd (never un)

  of_path : (path : List Node) → AllByRecursion (HasBlockOf side.files) path → GoesAlong of_files side path answer losses next → Goes answer next
  of_path path have (side_of.deep many e n z) = record { own = rw e tt; has = rw n all }
  of_path path have (side_of.there back rest e n z) = record { own = rw e tt; has = rw n all }
  of_path path have (side_of.moves few moving made) = of_moving _ _ (all_drop (HasBlockOf side.files) _ path have) made
  of_path path have (side_of.unsure un back same goes) = absurd (never un)

  of_tip : (h : Hash32) → Tips of_files side h answer losses next → Goes answer next
  of_tip h (side_of.unknown known e n z) = record { own = rw e tt; has = rw n all }
  of_tip h (side_of.unconnected known no_path e n z) = record { own = rw e tt; has = rw n all }
  of_tip h (side_of.along path is goes) = of_path path (path_nodes (HasBlockOf side.files) side.found h path all.found is) goes

  -- what is kept is another matter
  with_kept : (kept : List Tx) → HasAll (record side { kept = kept })
  with_kept kept = record { found = all.found; ahead = all.ahead; chain = all.chain }

  of_added : (bytes : List ℕ) → Adds side bytes answer losses next → Goes answer next
  of_added bytes (side_of.joins t is no_refusal e n z) = record { own = rw e tt; has = rw n (with_kept _) }
  of_added bytes (side_of.refuses t e is why word n z) = record { own = of_pool _ e answer word; has = rw n all }
  of_added bytes (side_of.misread no_tx e n z) = record { own = rw e tt; has = rw n all }
  of_added bytes (side_of.unsure un may n z) = absurd (never un)

  of_dropped : (id : Hash32) → Drops side id answer losses next → Goes answer next
  of_dropped id (side_of.goes is e n z) = record { own = rw e tt; has = rw n (with_kept _) }
  of_dropped id (side_of.absent is e n z) = record { own = rw e tt; has = rw n all }
  of_dropped id (side_of.unsure un may n z) = absurd (never un)

  of_orders : (said : Option NodeLine) → Orders of_files side said answer losses next → Goes answer next
  of_orders (Some (says.block file at)) o = of_looks file at o
  of_orders (Some (says.tip hash)) o = of_tip _ o
  of_orders (Some (says.tx bytes)) o = of_added bytes o
  of_orders (Some (says.dropped id)) o = of_dropped _ o
  of_orders None o = record { own = rw o.0 tt; has = rw o.1 all }

  pub of_line : (met : LineEvent) → OrdersLine of_files side met answer losses next → Goes answer next
  of_line (line bytes) o = of_orders o.0 o.2
  of_line too_long o = record { own = rw o.0 tt; has = rw o.1 all }
