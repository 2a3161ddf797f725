-- The rows of an index.
use Rattle.std.specs.Prelude.{ℕ}
use Rattle.el_chain.specs.Chains.{Chain}
use Rattle.el_row_formats.specs.Tables.{Tables}
use Rattle.el_rows.specs.Reads.{Same}
use Rattle.el_schema.proofs.StandingLemmas.{same_with}
use Rattle.el_index.specs.Means.{AreRowsOf}

-- equal rows are those of the same index
pub same_rows : (heads : ℕ) (a b : Tables) (chain : Chain) → AreRowsOf heads a chain → Same a b → AreRowsOf heads b chain
same_rows heads a b chain are same = same_with heads a b chain are same
