-- The sizes of the kept transactions, which 64 bits count together.
use Rattle.std.proofs.Common.{◌≡◌, ◌<◌, ◌^◌, List, length, ap, sym, subst, ◌∙◌, arith}
use Rattle.std.specs.Prelude.{sum_by}
use Rattle.el_tx.specs.declared.types.Tx.{Tx}
use Rattle.el_chain.specs.Chains.{Chain}
use Rattle.el_mempool.specs.declared.held.KeptTx.{KeptTx}
use Rattle.el_mempool.specs.Fees.{FitTogether}
use Rattle.el_mempool.specs.Standing.{KeptStandFor}
use Rattle.el_mempool.proofs.FeeChanges.{sizes_le}
use Rattle.el_kept.specs.declared.table.Table.{Table}
use Rattle.el_kept.specs.Tables.{undropped, HasEntries}

pub fit : (table : Table) (entries : List KeptTx) (chain : Chain) (kept : List Tx) → HasEntries table (undropped table.kept.entries) → undropped table.kept.entries ≡ entries
    → KeptStandFor entries chain kept → table.bytes < 2 ^ 64 → FitTogether entries
fit table entries chain kept h same stands small =
    let le = sizes_le chain kept kept in
    let bytes = h.bytes ∙ ap (sum_by (λ (k : KeptTx). length k.bytes)) (same ∙ stands.are) in
    subst FitTogether (sym stands.are) (omega (arith, le, bytes, small))
