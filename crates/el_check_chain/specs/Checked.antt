-- What becomes of an index that is checked over a made file.
use Rattle.std.specs.Prelude.{◌≡◌, ◌≤◌, ℕ, ◌+◌, true, List, [], ◌∷◌, length, fold}
use Rattle.el_outside.specs.Files.{AllGrow}
use Rattle.el_outside.specs.Moments.{LeftNow}
use Rattle.el_outside.specs.declared.archive.Archive as block_files
use Rattle.el_gen.specs.MadeFile.{made_file, first_tip, side_tip, regtest_magic}
use Rattle.el_chain.specs.Headers.{added}
use Rattle.el_chain.specs.declared.node.Node.{Node}
use Rattle.el_files.specs.Scanning.{AllScanned}
use Rattle.el_fakes.specs.Archives.{SteadyFiles, file_bytes}
use Rattle.el_fakes.specs.within.Laws.{none_after_none}
use Rattle.el_mempool.specs.declared.entry.PoolLimits.{PoolLimits}
use Rattle.el_rows.specs.declared.rows.Rows as stores
use Rattle.el_side.specs.Side.{Side, quiet_side}
use Rattle.el_index.specs.Means.{AreRowsOf, Means}
use Rattle.el_check_chain.specs.Leading.{LeadsTo}
use Rattle.el_check_chain.specs.Summaries.{summary_of}
use Rattle.el_check_chain.specs.declared.summary.Summary.{Summary}

-- block files of which file 0 is the made one, and there is no other
abbrev pub made_files : ℕ → ℕ → List ℕ
made_files count = file_bytes (made_file count ∷ [])

-- limits under which nothing unconfirmed is kept
abbrev pub no_room : PoolLimits
no_room = record { count = 0; bytes = 0 }

-- what is told of block files in memory whose calls never fail
abbrev pub steady : block_files.Ghosts SteadyFiles
steady = record {
  tells = Unit {0};
  bytes = λ archive. file_bytes archive.files;
  padding = λ archive file. [];
  file_count = λ archive. length archive.files;
  none_after = λ archive file told after. none_after_none archive.files file after;
  gave = λ file at bytes. Unit {0};
  calls = λ archive. archive.made;
  faults = λ archive. 0;
}

-- The way of a check from no blocks: the block files, with what they may have gained, are scanned, and three
-- tip lines lead to the first branch's tip, to the side branch's, and back to the first's.
pub record Way (count : ℕ) : Type 0 where
  pub files : ℕ → List ℕ
  pub grow : AllGrow (made_files count) files
  pub nodes : List Node
  pub scanned : AllScanned steady (made_files count) files regtest_magic nodes
  pub first : Side
  pub side : Side
  pub last : Side
  pub to_first : ℕ
  pub to_side : ℕ
  pub back : ℕ
  pub leads_first : LeadsTo steady (quiet_side true [] regtest_magic no_room (fold added [] nodes) files)
      (first_tip count) to_first first
  pub leads_side : LeadsTo steady first (side_tip count) to_side side
  pub leads_back : LeadsTo steady side (first_tip count) back last

-- the summary at its end: of the chain in which it ends, of all moves that were made, and of the made file
abbrev pub summary_at_end : {count : ℕ} → Way count → Summary
summary_at_end {count} way =
    summary_of way.last.chain (way.to_first + way.to_side + way.back) (length (made_file count))

-- An index was led along such a way, from that moment on, and this is the summary at its end. The rows then
-- stand for the chain in which it ends, and so does all that a crash may leave; and at some moment of the
-- call all that a crash might have left stood for the chain that the second tip line led to.
pub record IsChecked {R : Type 0} (of_rows : stores.Ghosts R) (count start : ℕ) (now : R) (s : Summary)
    : Type 0 where
  pub way : Way count
  pub sums : s ≡ summary_at_end way
  pub stand : AreRowsOf (of_rows.heads now) (of_rows.lists now) way.last.chain
  pub leaves : of_rows.tells_crash → (left : of_rows.Left)
      → LeftNow of_rows.moment of_rows.left_since now left → Means of_rows.shows left way.last.chain
  pub between : of_rows.tells_crash → (mid : R)
      × (start ≤ of_rows.moment mid) × (of_rows.moment mid ≤ of_rows.moment now)
      × ((left : of_rows.Left) → LeftNow of_rows.moment of_rows.left_since mid left
      → Means of_rows.shows left way.side.chain)
