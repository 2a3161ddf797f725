-- Statuses of script hashes that nothing touched.
use Rattle.std.proofs.Common.{◌≡◌, ℕ, false, List, ap, sym, ◌∙◌}
use Rattle.el_base.specs.declared.hash.Hash32.{Hash32}
use Rattle.el_tx.specs.declared.types.Tx.{Tx}
use Rattle.el_chain.specs.declared.entry.Entry.{Entry}
use Rattle.el_chain.specs.Chains.{Chain}
use Rattle.el_chain.specs.History.{history}
use Rattle.el_mempool.specs.declared.entry.PoolEntry.{PoolEntry}
use Rattle.el_mempool.specs.Standing.{AreChanged}
use Rattle.el_mempool.specs.Unconfirmed.{pool_history}
use Rattle.el_status.specs.Statuses.{status, status_of_text, status_text, text_of}
use Rattle.el_status.specs.Untouched.{LooksSame, is_among}

pub same_text : (before next : Chain) (old new : List Tx) (s : List ℕ) → LooksSame before next s → pool_history before old s ≡ pool_history next new s
    → status_text next new s ≡ status_text before old s
same_text before next old new s looks pooled =
    ap (λ (es : List Entry). text_of es (pool_history next new s)) (sym looks.history)
    ∙ ap (λ (es : List PoolEntry). text_of (history before s) es) (sym pooled)

pub same_status : (before next : Chain) (old new : List Tx) (s : List ℕ) → LooksSame before next s → pool_history before old s ≡ pool_history next new s
    → status next new s ≡ status before old s
same_status before next old new s looks pooled = ap status_of_text (same_text before next old new s looks pooled)

pub status_stays : (before next : Chain) (old new : List Tx) (changed : List Hash32) (s : Hash32) → LooksSame before next s.0 → AreChanged before old next new changed
    → is_among changed s ≡ false → status next new s.0 ≡ status before old s.0
status_stays before next old new changed s looks change apart = same_status before next old new s.0 looks (change.others s apart).0
