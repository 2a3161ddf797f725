use Rattle.std.proofs.Common.{◌≡◌, ◌≤◌, ◌+◌, ◌++◌, List, drop}
use Rattle.std.specs.Map.{keys_of}
use Rattle.el_base.specs.declared.hash.Hash32.{Hash32}
use Rattle.el_tx.specs.declared.types.Tx.{Tx}
use Rattle.el_chain.specs.Chains.{Chain}
use Rattle.el_model.specs.LedgerCalls.{Asked}
use Rattle.el_mempool.specs.Standing.{KeptStandFor}
use Rattle.el_view.specs.Rows.{history_rows}
use Rattle.el_subs.specs.Told.{status, news, marked, OthersTold, cost_of}
use Rattle.el_subs.specs.within.Partly.{all_noted, all_news}
use Rattle.el_subs.proofs.telling.tell.Given as goal

abbrev pub invariant-loop-s : goal.invariant-loop-s
invariant-loop-s g l =
    let d = g.G.Ledger in
    record {
      keys : keys_of l.subs ≡ keys_of l.fn.subs;
      live : d.is_live l.ledger;
      quiet : Asked d l.fn.ledger l.ledger;
      so_far : (chain : Chain) (kept : List Tx) → d.stands l.fn.ledger chain → KeptStandFor l.pool.entries chain kept → OthersTold (status chain kept) l.touched l.fn.subs
          → (l.found.items ++ all_news (status chain kept) (drop l.s-index l.s-items) l.subs ≡ news (status chain kept) l.fn.subs)
          × (all_noted (status chain kept) (drop l.s-index l.s-items) l.subs ≡ marked (status chain kept) l.fn.subs);
      rows : (chain : Chain) → d.stands l.fn.ledger chain
          → d.reads l.ledger + cost_of (λ (x : Hash32). history_rows chain (d.buckets l.fn.ledger) x.0) l.touched (drop l.s-index l.s-items)
          ≤ d.reads l.fn.ledger + cost_of (λ (x : Hash32). history_rows chain (d.buckets l.fn.ledger) x.0) l.touched (keys_of l.fn.subs);
      still : d.faults l.ledger ≡ d.faults l.fn.ledger;
    }
