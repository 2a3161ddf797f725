-- What a ledger has at the end of the way of a check, and what its rows have.
use Rattle.std.proofs.Common.{◌≡◌, ◌+◌, ◌-◌, ℕ, true, List, [], ◌∷◌, length, refl, ◌∙◌, arith}
use Rattle.std.specs.Prelude.{fold}
use Rattle.sha2.specs.Sha256.{sha256}
use Rattle.el_outside.specs.Files.{AllGrow}
use Rattle.el_gen.specs.Generated.{locking_script}
use Rattle.el_gen.specs.MadeFile.{made_file, first_tip, side_tip, regtest_magic}
use Rattle.el_chain.specs.Chains.{Chain}
use Rattle.el_chain.specs.Headers.{added}
use Rattle.el_chain.specs.History.{positions}
use Rattle.el_chain.specs.RowCounts.{output_count}
use Rattle.el_chain.specs.declared.node.Node.{Node}
use Rattle.el_fakes.specs.Archives.{SteadyFiles, file_bytes}
use Rattle.el_files.specs.Scanning.{AllScanned}
use Rattle.el_model.specs.LedgerCalls.{Asked}
use Rattle.el_model.specs.Queries.{balance}
use Rattle.el_model.specs.declared.ledger.Ledger as ledger
use Rattle.el_side.specs.Beneath.{beneath, ghosts}
use Rattle.el_side.specs.Side.{quiet_side}
use Rattle.el_check_chain.specs.Checked.{Way, no_room, steady, summary_at_end}
use Rattle.el_check_chain.specs.declared.summary.Summary.{Summary}
use Rattle.el_check_chain.specs.declared.walking.Tips.{Tips}
use Rattle.el_check_chain.specs.declared.walking.Walked.{Walked}
use Rattle.el_check_chain.specs.within.Ways.{HaveLed, HasWalked}

pub has_walked : {G : Type 0} (of_ledger : ledger.Ghosts G) (count : ℕ) (archive scanned files : SteadyFiles) (magic : List ℕ) (tree nodes : List Node) (tips : Tips)
    (start mid now : G) (moves : ℕ) (walked : Walked)
    → archive.files ≡ made_file count ∷ [] → magic ≡ regtest_magic → tips.first ≡ first_tip count → tips.other ≡ side_tip count
    → AllGrow (file_bytes archive.files) (file_bytes scanned.files)
    → AllScanned steady (file_bytes archive.files) (file_bytes scanned.files) magic nodes → tree ≡ fold added [] nodes
    → HaveLed (ghosts of_ledger steady) (beneath start scanned) (beneath mid files) (quiet_side true [] magic no_room tree (file_bytes scanned.files)) tips moves
    → Asked of_ledger mid now → walked.moves ≡ moves → walked.bytes ≡ length (made_file count)
    → ((chain : Chain) → of_ledger.stands now chain → walked.height ≡ length chain - 1)
    → ((chain : Chain) → of_ledger.stands mid chain → walked.balance ≡ balance chain (sha256 (locking_script 100)))
    → HasWalked of_ledger count start now walked
has_walked of_ledger count archive scanned files magic tree nodes tips start mid now moves walked e_files e_magic e_first e_other grow scan e_tree led asked e_moves e_bytes height balance_is =
    let stood = asked.stays.still_stands led.last.chain led.stood in record {
      way = record {
        files = file_bytes scanned.files;
        grow = rw e_files at grow;
        nodes = nodes;
        scanned = rw (e_files, e_magic) at scan;
        first = led.first;
        side = led.side;
        last = led.last;
        to_first = led.to_first;
        to_side = led.to_side;
        back = led.back;
        leads_first = rw (e_magic, e_tree, e_first) at led.leads_first;
        leads_side = rw e_other at led.leads_side;
        leads_back = rw e_first at led.leads_back;
      };
      moves_are = e_moves ∙ led.moves_are;
      height_is = height led.last.chain stood;
      balance_is = balance_is led.last.chain led.stood;
      bytes_are = e_bytes;
      stood = stood;
      between = λ told.
          let b = led.between told in
          let later = (asked.below.crash told).later in
          (b.0, b.1, (let le = b.2 in omega arith), b.3);
    }

-- the summary of what was walked, where the tables have such numbers of rows
pub summed_up : (count : ℕ) (way : Way count) (walked : Walked) (txs outs : ℕ)
    → walked.moves ≡ way.to_first + way.to_side + way.back → walked.height ≡ length way.last.chain - 1
    → walked.balance ≡ balance way.last.chain (sha256 (locking_script 100)) → walked.bytes ≡ length (made_file count)
    → txs ≡ length (positions way.last.chain) → outs ≡ output_count (positions way.last.chain)
    → ◌≡◌ {A = Summary} (record { height = walked.height; txs = txs; outputs = outs; moves = walked.moves; balance = walked.balance; bytes = walked.bytes }) (summary_at_end way)
summed_up count way walked txs outs e_moves e_height e_balance e_bytes e_txs e_outs =
    rw (e_moves, e_height, e_balance, e_bytes, e_txs, e_outs) refl
