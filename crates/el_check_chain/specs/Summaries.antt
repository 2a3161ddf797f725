-- The summary of an index that was led over a made file, and the line that tells it.
use Rattle.std.specs.Prelude.{ℕ, ◌-◌, List, ◌++◌, length, codes}
use Rattle.std.specs.Fmt.{decimal}
use Rattle.sha2.specs.Sha256.{sha256}
use Rattle.el_gen.specs.Generated.{locking_script}
use Rattle.el_chain.specs.Chains.{Chain}
use Rattle.el_chain.specs.History.{positions}
use Rattle.el_chain.specs.RowCounts.{output_count}
use Rattle.el_model.specs.Queries.{balance}
use Rattle.el_check_chain.specs.declared.summary.Summary.{Summary}

-- The summary of an index of the chain that so many moves led to, over a file of so many bytes: the height of
-- the last block, or 0; the chain's transactions and outputs, each of which has a row; and the balance of the
-- script of 100.
abbrev pub summary_of : Chain → ℕ → ℕ → Summary
summary_of chain moves bytes = record {
  height = length chain - 1;
  txs = length (positions chain);
  outputs = output_count (positions chain);
  moves = moves;
  balance = balance chain (sha256 (locking_script 100));
  bytes = bytes;
}

-- the line that tells it, ended by byte 10
abbrev pub summary_line : Summary → List ℕ
summary_line s =
    codes "height " ++ decimal s.height ++ codes " transactions " ++ decimal s.txs
    ++ codes " outputs " ++ decimal s.outputs ++ codes " moves " ++ decimal s.moves
    ++ codes " balance " ++ decimal s.balance ++ codes " bytes " ++ decimal s.bytes ++ codes "\n"
