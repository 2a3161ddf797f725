-- Lives follow each other.
use Rattle.std.proofs.Common.{Bool, true, true≢false, ◌≡◌, ◌⊎◌, inl, inr, ℕ, List, [], ◌∷◌, length, take, refl, arith}
use Rattle.std.specs.List.{AllByRecursion}
use Rattle.el_loop.specs.Traffic.{Traffic}
use Rattle.el_outside.specs.declared.archive.Archive as archive
use Rattle.el_outside.specs.declared.disk.Disk as disk
use Rattle.el_outside.specs.declared.link.Link as link
use Rattle.el_outside.specs.declared.relay.Relay as relay
use Rattle.el_outside.specs.Disk.{Image}
use Rattle.el_chain.specs.Chains.{Chain}
use Rattle.el_mempool.specs.declared.entry.PoolLimits.{PoolLimits}
use Rattle.el_world.specs.World.{World}
use Rattle.el_side.specs.Deeds.{Deed}
use Rattle.el_world.specs.Run.{Stop}
use Rattle.el_world.specs.Flights.{acked}
use Rattle.el_row_formats.specs.Tables.{Tables}
use Rattle.el_row_formats.specs.declared.table.Table.{Table}
use Rattle.el_row_formats.specs.declared.table.Table.TheVariants as table
use Rattle.el_tables.specs.ChainLists.{lists, listed_blocks}
use Rattle.el_tables.specs.Tables.{tables_of, in_both}
use Rattle.el_tables.proofs.Tables.{tables_stand}
use Rattle.el_rows.specs.Changes.{count_at}
use Rattle.el_rows.specs.Reads.{Same}
use Rattle.el_pages.specs.declared.layout.TheConstants.{FORMAT_1}
use Rattle.el_pages.specs.Layouts.{rows_in}
use Rattle.el_pages.specs.Indexes.{tables_in}
use Rattle.el_redone.specs.declared.steps.TheConstants.{ROOT}
use Rattle.el_migrate.specs.OldRows.{StandForOld, old_bytes_of}
use Rattle.el_migrate.specs.ImageChains.{ImageStands}
use Rattle.el_words.specs.Commands.{IsServe}
use Rattle.el_program.specs.AnyCall.{IsCall}
use Rattle.el_program.specs.IndexDisks.{LeavesOneOf, IsIndexDisk}
use Rattle.el_program.proofs.Audits.{serve_no_summary}
use Rattle.el_program.specs.Calls.{Call, CallEnds}
use Rattle.el_program.specs.Ends.{serve, IndexEnds, UnopenedEnds, ServeEnds, IsServed}
use Rattle.el_program.specs.Opened.{certain}
use Rattle.el_program.specs.Lives.{IsLeftBy, AreLives, GoOn, LeavesOthers, none, one}
use Rattle.el_program.specs.within.Lived.{Lived}
use Rattle.el_loop.specs.Counts.{Counts}
use Rattle.el_loop.specs.Runs.{RunEnds, IsRun, IsHalted}
use Rattle.el_loop.specs.declared.end.End.{End}
use Rattle.el_loop.specs.declared.end.End.TheVariants as end
use Rattle.el_program.specs.declared.status.Status.{Status}
use Rattle.el_program.specs.declared.status.Status.TheVariants as status
use Rattle.el_program.proofs.Servings.{only_served, same_networks}

-- the two chains, and no others
abbrev pub these : Chain → Chain → Chain → Chain → Type 0
these acked flight a b = (a ≡ acked) × (b ≡ flight)

-- An end is told of the two chains of which it says what a crash leaves.
record Pinned (P : Chain → Chain → Type 0) (Q : (Chain → Chain → Type 0) → Type 0) : Type 0 where
  acked : Chain
  flight : Chain
  leaves : P acked flight
  ends : Q (these acked flight)

module _ (P : Chain → Chain → Type 0) where
  both : (a b : Chain) → these a b a b
  both a b = (refl, refl)

  run_pinned : {A : Type 0} (of_files : archive.Ghosts A) (first : World) (node : Bool)
      (files : ℕ → List ℕ) (c : Counts) (t : Traffic) (failed : List Deed)
      → first.side.sure ≡ true → IsRun of_files first node P files c t failed
      → Pinned P (λ Q. IsRun of_files first node Q files c t failed)
  run_pinned of_files first node files c t failed sure r = record {
    acked = r.world.side.chain;
    flight = r.world.side.chain;
    leaves = r.crash sure;
    ends = record {
      losses = r.losses;
      world = r.world;
      run = r.run;
      statuses = r.statuses;
      grown = r.grown;
      counted = r.counted;
      acknowledged = r.acknowledged;
      crash = λ s. both r.world.side.chain r.world.side.chain;
    };
  }

  halt_pinned : {A : Type 0} (of_files : archive.Ghosts A) (first : World) (node : Bool)
      (files : ℕ → List ℕ) (c : Counts) (t : Traffic) (stop : Stop)
      → first.side.sure ≡ true → IsHalted of_files first node P files c t stop
      → Pinned P (λ Q. IsHalted of_files first node Q files c t stop)
  halt_pinned of_files first node files c t stop sure h = record {
    acked = acked h.halts.stops;
    flight = h.flight;
    leaves = h.crash sure;
    ends = record {
      losses = h.losses;
      halts = h.halts;
      grown = h.grown;
      counted = h.counted;
      last = h.last;
      flight = h.flight;
      is_flight = h.is_flight;
      acknowledged = h.acknowledged;
      crash = λ s. both (acked h.halts.stops) h.flight;
    };
  }

  with_more : {Q R : (Chain → Chain → Type 0) → Type 0}
      → ((X : Chain → Chain → Type 0) → Q X → R X) → Pinned P Q → Pinned P R
  with_more more k =
      let ends = more (these k.acked k.flight) k.ends in
      record { acked = k.acked; flight = k.flight; leaves = k.leaves; ends = ends }

  ends_pinned : {A : Type 0} (of_files : archive.Ghosts A) (first : World) (node : Bool)
      (files : ℕ → List ℕ) (c : Counts) (t : Traffic) (e : End)
      → first.side.sure ≡ true → RunEnds of_files first node P files c t e
      → Pinned P (λ Q. RunEnds of_files first node Q files c t e)
  ends_pinned of_files first node files c t end.Ended sure r =
      with_more (λ X k. (k, r.1)) (run_pinned of_files first node files c t _ sure r.0)
  ends_pinned of_files first node files c t end.DiskFailed sure r = halt_pinned of_files first node files c t _ sure r
  ends_pinned of_files first node files c t end.LinkFailed sure (inl r) =
      with_more (λ X k. inl (k, r.1)) (run_pinned of_files first node files c t _ sure r.0)
  ends_pinned of_files first node files c t end.LinkFailed sure (inr r) =
      with_more (λ X k. inr k) (halt_pinned of_files first node files c t _ sure r)
  ends_pinned of_files first node files c t end.OutOfMemory sure r = halt_pinned of_files first node files c t _ sure r
  ends_pinned of_files first node files c t end.TurnsSpent sure r =
      with_more (λ X k. (k, r.1, r.2)) (run_pinned of_files first node files c t _ sure r.0)

  module _ {A : Type 0} (of_files : archive.Ghosts A) (magic : List ℕ)
      (limits : PoolLimits) (relays : Bool) (chain : Chain) (c : Counts) (before after : A) (t : Traffic) where
    served_pinned : (e : End) → IsServed of_files magic limits relays (certain chain) P c before after t e
        → Pinned P (λ Q. IsServed of_files magic limits relays (certain chain) Q c before after t e)
    served_pinned e r = with_more (λ X k. record {
      headers = r.headers;
      told = r.told;
      now = r.now;
      nodes = r.nodes;
      scanned = r.scanned;
      same = r.same;
      grows = r.grows;
      run = k;
    }) (ends_pinned of_files _ true (of_files.bytes after) c t e refl r.run)

    alone : {Q : (Chain → Chain → Type 0) → Type 0} → (a b : Chain) → P a b → Q (these a b) → Pinned P Q
    alone a b leaves ends = record { acked = a; flight = b; leaves = leaves; ends = ends }

    serve_pinned : (s : Status) → ServeEnds of_files magic limits relays (certain chain) P c before after t s
        → Pinned P (λ Q. ServeEnds of_files magic limits relays (certain chain) Q c before after t s)
    serve_pinned status.Ended r = served_pinned _ r
    serve_pinned status.Usage r = absurd r
    serve_pinned status.BadIndex r = absurd r
    serve_pinned status.ArchiveFailed r = alone chain chain (r.1 refl) (r.0, λ s. both chain chain)
    serve_pinned status.DiskFailed (inl r) = alone chain chain (r.1 refl) (inl (r.0, λ s. both chain chain))
    serve_pinned status.DiskFailed (inr r) = with_more (λ X k. inr k) (served_pinned _ r)
    serve_pinned status.LinkFailed r = served_pinned _ r
    serve_pinned status.OutOfMemory (inl r) = alone chain chain (r.1 refl) (inl (r.0, λ s. both chain chain))
    serve_pinned status.OutOfMemory (inr r) = with_more (λ X k. inr k) (served_pinned _ r)
    serve_pinned status.TurnsSpent r = served_pinned _ r
    serve_pinned status.OtherChain r = alone chain chain (r.2 refl) (r.0, r.1, λ s. both chain chain)
    serve_pinned status.BadChain r = absurd r
    serve_pinned status.AuditDiffers r = absurd r
    serve_pinned status.AuditTooLarge r = absurd r

    unopened_pinned : (was flight : Chain) (s : Status) → UnopenedEnds true was flight P c t s
        → Pinned P (λ Q. UnopenedEnds true was flight Q c t s)
    unopened_pinned was flight status.Ended r = absurd r
    unopened_pinned was flight status.Usage r = absurd r
    unopened_pinned was flight status.BadIndex r = absurd (true≢false r.0)
    unopened_pinned was flight status.ArchiveFailed r = absurd r
    unopened_pinned was flight status.DiskFailed r = alone was flight (r.1 refl) (r.0, λ s. both was flight)
    unopened_pinned was flight status.LinkFailed r = absurd r
    unopened_pinned was flight status.OutOfMemory r = alone was flight (r.1 refl) (r.0, λ s. both was flight)
    unopened_pinned was flight status.TurnsSpent r = absurd r
    unopened_pinned was flight status.OtherChain r = absurd r
    unopened_pinned was flight status.BadChain r = absurd r
    unopened_pinned was flight status.AuditDiffers r = absurd r
    unopened_pinned was flight status.AuditTooLarge r = absurd r

    index_pinned : (was flight : Chain) (s : Status)
        → IndexEnds of_files magic limits relays was flight (certain chain) P c before after t s
        → Pinned P (λ Q. IndexEnds of_files magic limits relays was flight (certain chain) Q c before after t s)
    index_pinned was flight s (inl r) = with_more (λ X k. inl k) (unopened_pinned was flight s r)
    index_pinned was flight s (inr r) = with_more (λ X k. inr k) (serve_pinned s r)

-- 2. Lives

module _ {D A Y K : Type 0} (of_disk : disk.Ghosts D) (of_files : archive.Ghosts A) (of_relay : relay.Ghosts Y) (of_link : link.Ghosts K)
    (magic : List ℕ) where
  -- how a life ended, and what it left
  pub record Ended (l : Call D A Y K) (was flight chain : Chain) : Type 0 where
    pub acked : Chain
    pub in_flight : Chain
    pub leaves : LeavesOneOf of_disk magic l.after.disk acked in_flight
    pub ends : CallEnds of_disk of_files of_relay of_link l was flight (certain chain) (λ m a b. these acked in_flight a b)

  ended : (l : Call D A Y K) (was flight chain : Chain) → IsServe l.words magic
      → IsIndexDisk of_disk magic l.before.disk was flight chain → IsCall of_disk of_files of_relay of_link l
      → Ended l was flight chain
  ended l was flight chain serves is call =
      let e = call.served (serve_no_summary serves.is_serve) was flight (certain chain) (λ sure m also. rw (same_networks also serves) is) in
      let only = only_served serves e.2 in
      let k = index_pinned (LeavesOneOf of_disk magic l.after.disk) of_files magic serves.said.settings.limits serves.said.settings.relays chain _ l.before.files l.after.files e.0 was flight l.status only
      in record {
        acked = k.acked;
        in_flight = k.flight;
        leaves = k.leaves;
        ends = (e.0, e.1, serve magic serves k.ends);
      }

  -- a life, and those after it, whichever chain it finds
  one_more : (was flight chain : Chain) (l : Call D A Y K) (more : List (Call D A Y K))
      → (chain ≡ was) ⊎ (chain ≡ flight) → (e : Ended l was flight chain)
      → GoOn of_disk of_files of_relay of_link e.acked e.in_flight more → GoOn of_disk of_files of_relay of_link was flight
      (l ∷ more)
  one_more was flight chain l more from e then = one was flight l more chain e.acked e.in_flight from e.ends
      then

  -- how the life ends on a disk that the one before may have left, by the chain that it finds
  pub record Found (l : Call D A Y K) (was flight : Chain) : Type 0 where
    pub chain : Chain
    pub from : (chain ≡ was) ⊎ (chain ≡ flight)
    pub end : Ended l was flight chain

  pub found : (d : D) (was flight : Chain) (l : Call D A Y K) → of_disk.tells → LeavesOneOf of_disk magic d was
      flight
      → IsLeftBy of_disk d l.before.disk → IsServe l.words magic → IsCall of_disk of_files of_relay of_link l
      → Found l was flight
  found d was flight l told left is serves call =
      let here : LeavesOneOf of_disk magic l.before.disk was flight =
      (λ image now. left image (is.images image now)) in
      elim (left (of_disk.seen l.before.disk) is.reads) [
        | inl means ↦ record {
          chain = was;
          from = inl refl;
          end = ended l was flight was serves (record { told = told; left = here; reads = means }) call;
        }
        | inr means ↦ record {
          chain = flight;
          from = inr refl;
          end = ended l was flight flight serves (record { told = told; left = here; reads = means }) call;
        }
      ]

  pub lives_go : (d : D) (was flight : Chain) (lives : List (Call D A Y K)) → of_disk.tells
      → LeavesOneOf of_disk magic d was flight → AreLives of_disk d lives
      → AllByRecursion (λ (l : Call D A Y K). IsServe l.words magic) lives
      → AllByRecursion (IsCall of_disk of_files of_relay of_link) lives
      → GoOn of_disk of_files of_relay of_link was flight lives
  lives_go d was flight [] told left are serve' calls = none was flight
  lives_go d was flight (l ∷ more) told left are serve' calls =
      let f = found d was flight l told left are.0 serve'.0 calls.0 in
      one_more was flight f.chain l more f.from f.end
      (lives_go l.after.disk f.end.acked f.end.in_flight more told f.end.leaves are.1 serve'.1 calls.1)

  -- one life, and those after it
  pub lived_more : (d : D) (was flight : Chain) (l : Call D A Y K) (files files_after : List A)
      (relays relays_after : List Y) (links links_after : List K) (ends : List Status) (left : D) (f : Found l was flight)
      → IsLeftBy of_disk d l.before.disk → LeavesOthers of_disk l
      → Lived of_disk of_files of_relay of_link l.after.disk f.end.acked f.end.in_flight l.words l.turns files
      files_after relays relays_after links links_after ends left
      → Lived of_disk of_files of_relay of_link d was flight l.words l.turns (l.before.files ∷ files)
      (l.after.files ∷ files_after) (l.before.relay ∷ relays) (l.after.relay ∷ relays_after)
      (l.before.link ∷ links) (l.after.link ∷ links_after) (l.status ∷ ends) left
  lived_more d was flight l files files_after relays relays_after links links_after ends left f is kept then = record {
    lives = l ∷ then.lives;
    over = (
      record {
        words_are = refl;
        turns_are = refl;
        files_are = refl;
        files_then = refl;
        relay_is = refl;
        relay_then = refl;
        link_is = refl;
        link_then = refl;
        ends = refl;
      },
      then.over,
    );
    are = (is, then.are);
    last = then.last;
    others = (kept, then.others);
    go_on = one_more was flight f.chain l then.lives f.from f.end then.go_on;
  }

-- no lives
pub lived_none : {D A Y K : Type 0} (of_disk : disk.Ghosts D) (of_files : archive.Ghosts A)
    (of_relay : relay.Ghosts Y) (of_link : link.Ghosts K) (d : D) (was flight : Chain) (words : List (List ℕ)) (turns : ℕ)
    (files : List A) (relays : List Y)
    (links : List K) (ends : List Status) → length files ≡ 0 → length relays ≡ length files → length links ≡ length files
    → length ends ≡ length files
    → Lived of_disk of_files of_relay of_link d was flight words turns files files relays relays links links ends d
lived_none of_disk of_files of_relay of_link d was flight words turns [] [] [] [] e0 e1 e2 e3 =
    record { lives = []; over = tt; are = tt; last = refl; others = tt; go_on = none was flight }
lived_none of_disk of_files of_relay of_link d was flight words turns [] [] [] (e ∷ es) e0 e1 e2 e3 = absurd (omega arith)
lived_none of_disk of_files of_relay of_link d was flight words turns [] [] (k ∷ ks) ends e0 e1 e2 e3 = absurd (omega arith)
lived_none of_disk of_files of_relay of_link d was flight words turns [] (y ∷ ys) links ends e0 e1 e2 e3 = absurd (omega arith)
lived_none of_disk of_files of_relay of_link d was flight words turns (a ∷ more) relays links ends e0 e1 e2 e3 = absurd
    (omega arith)

-- 3. Empty files

-- no rows in any table
abbrev pub no_rows : Tables
no_rows t = []

no_rows_stand : StandForOld no_rows []
no_rows_stand = record {
  tables = tables_of (in_both 0) (listed_blocks []) (lists []);
  encode = record {
    each = each;
    fit = record {
      blocks = tt;
      txs = tt;
      tx_heads = tt;
      outs = tt;
      ins = tt;
      scripts = tt;
      script_heads = tt;
      entries = tt;
    };
  };
  stand = tables_stand (in_both 0) [] (record { each = tt });
}
  where
    each : (u : Table) → no_rows u ≡ old_bytes_of (tables_of (in_both 0) (listed_blocks []) (lists [])) u
    each table.Blocks = refl
    each table.Txs = refl
    each table.TxHeads = refl
    each table.Outs = refl
    each table.Ins = refl
    each table.Scripts = refl
    each table.ScriptHeads = refl
    each table.Entries = refl

none_counted : (t : Table) → count_at [] t ≡ 0
none_counted table.Blocks = refl
none_counted table.Txs = refl
none_counted table.TxHeads = refl
none_counted table.Outs = refl
none_counted table.Ins = refl
none_counted table.Scripts = refl
none_counted table.ScriptHeads = refl
none_counted table.Entries = refl

none_in : (image : Image) → Same (tables_in FORMAT_1 image []) no_rows
unfolding rows_in
none_in image table.Blocks = refl
none_in image table.Txs = refl
none_in image table.TxHeads = refl
none_in image table.Outs = refl
none_in image table.Ins = refl
none_in image table.Scripts = refl
none_in image table.ScriptHeads = refl
none_in image table.Entries = refl

no_root : (bytes : List ℕ) → bytes ≡ [] → take 1 bytes ≡ 2 ∷ [] → ⊥
no_root bytes empty root = let no_byte : take 1 [] ≡ 2 ∷ [] = rw empty at root in absurd cc

-- an image whose files are empty stands for no blocks, in format 1
pub empty_stands : (magic : List ℕ) (image : Image) → ((f : ℕ) → image f ≡ []) → ImageStands magic image []
empty_stands magic image empty = inr (record {
  unrooted = no_root (image ROOT) (empty ROOT);
  tables = no_rows;
  shows = record {
    files = image;
    stands = record {
      writes = [];
      pending = inl (inl (rw (empty 9) (omega arith)), refl);
      same = λ f low lt. refl;
      fits = λ f low lt. tt;
    };
    counts = [];
    has = inr (record { empty = empty 0; none = none_counted });
    same = none_in image;
  };
  stand = no_rows_stand;
})
