-- What a scan of a made file finds first.
use Rattle.std.proofs.Common.{◌≡◌, ℕ, zero, suc, ◌+◌, ◌≤◌, List, [], ◌++◌, length, length-append, refl, sym, ap, ◌∙◌, arith, append_assoc, append-nil, subst}
use Rattle.std.specs.List.{AllByRecursion}
use Rattle.el_outside.specs.Files.{Grows}
use Rattle.el_outside.specs.declared.archive.Archive as block_files
use Rattle.el_chain.specs.Records.{records, records_from}
use Rattle.el_chain.specs.declared.node.Node.{Node}
use Rattle.el_files.specs.Scanning.{nodes_of_files, AllScanned}
use Rattle.el_files.proofs.Scans.{scanned_without}
use Rattle.el_gen.specs.MadeFile.{no_block, made_file, first_branch, side_branch, fork, regtest_magic, block_records}
use Rattle.el_check_laws.specs.Differing.{HashesDiffer}
use Rattle.el_check_laws.specs.MadeNodes.{BeginAsMade}
use Rattle.el_check_laws.proofs.Apart.{all_parted}
use Rattle.el_check_laws.proofs.MadeChains.{first_of, side_of, first_made, side_made}
use Rattle.el_check_laws.proofs.MadeBlocks.{none_is_hash}
use Rattle.el_check_laws.proofs.MadeRecords.{IsWhole, all_whole, all_found}
use Rattle.el_check_laws.proofs.BothBranches.{side_chain, fork_within, length-first, length-side, first_right, side_right}

first_whole : (count : ℕ) → count ≤ 20000 → HashesDiffer count → AllByRecursion IsWhole (first_branch count)
first_whole count few differ =
    all_whole first_of count (first_right count few differ) no_block 0 (first_branch count) none_is_hash (first_made count)
    (let long = length-first count in omega (arith, long))

side_whole : (count : ℕ) → 1 ≤ count → count ≤ 20000 → HashesDiffer count → AllByRecursion IsWhole (side_branch count)
side_whole count some few differ =
    (all_parted IsWhole (first_branch (fork count)) (side_branch count)
    (all_whole (side_of (fork count)) (count + 1) (side_right count some few differ) no_block 0 (side_chain count) none_is_hash
    (side_made count (fork_within count some).0) (let long = length-side count some in omega (arith, long)))).1

-- the records of a file that begins with the made one
pub records_begin : (count : ℕ) (more : List ℕ) → 1 ≤ count → count ≤ 20000 → HashesDiffer count → BeginAsMade count (records regtest_magic 0 (made_file count ++ more))
records_begin count more some few differ =
    let front = block_records (first_branch count) in
    let back = block_records (side_branch count) in
    let one = all_found (made_file count) [] (first_branch count) back more (first_whole count few differ) refl in
    let two = all_found (made_file count) front (side_branch count) [] more (side_whole count some few differ)
    (ap (λ (t : List ℕ). front ++ t) (sym (append-nil back))) in
    let place : 0 + length front ≡ length front = omega arith in
    record {
      first = one.nodes;
      side = two.nodes;
      others = records_from regtest_magic 0 (length front + length back) 0 more;
      whole = ap (records_from regtest_magic 0 0 0) (append_assoc front back more)
          ∙ one.found
          ∙ ap (λ (k : ℕ). one.nodes ++ records_from regtest_magic 0 k 0 (back ++ more)) place
          ∙ ap (λ (ns : List Node). one.nodes ++ ns) two.found;
      first_are = one.are;
      side_are = two.are;
    }

-- more nodes behind change nothing of it
begin_more : (count : ℕ) (ns ms : List Node) → BeginAsMade count ns → BeginAsMade count (ns ++ ms)
begin_more count ns ms begin = record {
  first = begin.first;
  side = begin.side;
  others = begin.others ++ ms;
  whole = ap (λ (t : List Node). t ++ ms) begin.whole ∙ append_assoc begin.first (begin.side ++ begin.others) ms
      ∙ ap (λ (t : List Node). begin.first ++ t) (append_assoc begin.side begin.others ms);
  first_are = begin.first_are;
  side_are = begin.side_are;
}

-- the nodes of file 0 stand first
files_begin : (count n : ℕ) (of : ℕ → List Node) → BeginAsMade count (of 0) → BeginAsMade count (nodes_of_files (suc n) of)
files_begin count zero of begin = begin
files_begin count (suc n) of begin = begin_more count (nodes_of_files (suc n) of) (of (suc n)) (files_begin count n of begin)

-- there is a file where there are bytes
made_some : (count : ℕ) → 1 ≤ count → 1 ≤ length (made_file count)
made_some zero some = absurd (omega arith)
made_some (suc n) some = omega arith

pub grown : (a b c : List ℕ) → Grows a b → Grows b c → Grows a c
grown a b c (x, p) (y, q) = (x ++ y, q ∙ ap (λ (t : List ℕ). t ++ y) p ∙ append_assoc a x y)

pub scan_begins_made : {A : Type 0} (of_files : block_files.Ghosts A) (count : ℕ) (before after : ℕ → List ℕ) (nodes : List Node)
    → ((archive : A) → of_files.padding archive 0 ≡ []) → before 0 ≡ made_file count → 1 ≤ count → count ≤ 20000 → HashesDiffer count
    → AllScanned of_files before after regtest_magic nodes → BeginAsMade count nodes
scan_begins_made of_files count before after nodes none made some few differ s =
    by_count s.count refl
  where
    told_grows : Grows (made_file count) (of_files.bytes s.files.told 0)
    told_grows = subst (λ (t : List ℕ). Grows t (of_files.bytes s.files.told 0)) made (s.files.between.grew 0)

    by_count : (n : ℕ) → s.count ≡ n → BeginAsMade count nodes
    by_count zero is =
        let empty = s.files.none_after 0 (let whole = s.whole in omega (arith, whole, is)) in
        let long = ap length told_grows.1 ∙ length-append (made_file count) told_grows.0 in
        let nothing = ap length empty in
        let bytes = made_some count some in
        absurd (omega (arith, long, nothing, bytes))
    by_count (suc n) is =
        let scanned = scanned_without of_files (of_files.bytes s.files.told) after regtest_magic 0 (s.files.of 0) none (s.files.each 0 (omega (arith, is))) in
        let grows = grown (made_file count) (of_files.bytes s.files.told 0) scanned.0 told_grows scanned.1 in
        let first : s.files.of 0 ≡ records regtest_magic 0 (made_file count ++ grows.0) = scanned.3 ∙ ap (records regtest_magic 0) grows.1 in
        let begin = subst (BeginAsMade count) (sym first) (records_begin count grows.0 some few differ) in
        subst (BeginAsMade count) (sym (s.files.are ∙ ap (λ (k : ℕ). nodes_of_files k s.files.of) is)) (files_begin count n s.files.of begin)
