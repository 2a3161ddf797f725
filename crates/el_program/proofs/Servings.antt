-- How a call of `serve` ends.
use Rattle.std.proofs.Common.{◌≡◌, ◌≢◌, ◌≤◌, inl, inr, ℕ, List, [], ◌∷◌, ◌++◌, ◌∙◌, refl, sym, subst, ap, Option, None, Some, Bool, true, false, arith}
use Rattle.std.specs.Prelude.{◌⊎◌, Err}
use Rattle.el_outside.specs.declared.archive.Archive as block_files
use Rattle.el_loop.specs.Traffic.{Traffic}
use Rattle.el_outside.specs.Counts.{RoseBy, OnlyReads, CountsOnly}
use Rattle.el_outside.proofs.Traces.{rose_none}
use Rattle.el_side.proofs.Deeds.{rose_still}
use Rattle.el_chain.specs.Chains.{Chain}
use Rattle.el_world.specs.World.{World}
use Rattle.el_side.specs.Deeds as deed
use Rattle.el_side.specs.Deeds.{Deed, archive, disk, failures, link, relay}
use Rattle.el_world.specs.Run.{Stop}
use Rattle.el_words.specs.Words.{IsOnceOf, IsServeOf, IsHeadBits, network_magic}
use Rattle.el_words.specs.Commands.{IsServe, IsOnce}
use Rattle.el_program.specs.Opened.{IndexChain}
use Rattle.el_side.specs.Deeds.{Faults, Rose, faults}
use Rattle.el_loop.specs.Counts.{Counts, counts}
use Rattle.el_loop.specs.Runs.{IsAccounted, RunEnds, IsRun, IsHalted}
use Rattle.el_loop.specs.Traffic.{no_traffic}
use Rattle.el_program.specs.Ends.{Ends, usage, serve, once, IndexEnds, IsSilent, IsOtherChain, LeavesChain, ServeEnds, UnopenedEnds, OnceEnds, IsServed, IsServedOnce, IsBadFile}
use Rattle.el_program.specs.Statuses.{status_of_end}
use Rattle.el_program.specs.within.Unread.{unread_status, start_status}
use Rattle.el_program.specs.declared.file.FileFault.{FileFault}
use Rattle.el_program.specs.declared.file.FileFault.TheVariants as fault
use Rattle.el_program.specs.declared.opening.StartFault.{StartFault}
use Rattle.el_program.specs.declared.opening.StartFault.TheVariants as start
use Rattle.el_loop.specs.declared.end.End.{End}
use Rattle.el_loop.specs.declared.end.End.TheVariants as end
use Rattle.el_program.specs.declared.status.Status.{Status}
use Rattle.el_program.specs.declared.status.Status.TheVariants as status
use Rattle.el_words.specs.declared.words.Network.{Network}
use Rattle.el_words.specs.declared.words.ServeSettings.{ServeSettings}
use Rattle.el_words.specs.declared.words.ServeWords.{ServeWords}
use Rattle.el_words.specs.declared.words.Command.TheVariants as command
use Rattle.el_mempool.specs.declared.entry.PoolLimits.{PoolLimits}
use Rattle.el_words.proofs.OneCommand.{one_command}

-- the words of `serve`, or of `once`, with their network's magic
abbrev pub is_serve : {words : List (List ℕ)} {magic : List ℕ} {said : ServeWords}
    → IsServeOf words said → magic ≡ network_magic said.settings.network → IsServe words magic
is_serve {words} {magic} {said} is magic_is = record { said = said; is_serve = is; magic_is = magic_is }

pub is_once : {words : List (List ℕ)} {blocks magic : List ℕ} {network : Network}
    → IsOnceOf words blocks network → magic ≡ network_magic network → IsOnce words magic
is_once {words} {blocks} {magic} {network} is magic_is =
    record { blocks = blocks; of_network = network; is_once = is; magic_is = magic_is }

-- the words of `serve` say one thing
same_said : {words : List (List ℕ)} (a b : ServeWords) → IsServeOf words a → IsServeOf words b → a ≡ b
same_said {words} a b is other =
    let same = one_command words (command.Serve a) (command.Serve b) is other in
    cc

-- they are of one network
pub magic_of : (said : ServeWords) {settings : ServeSettings} → said.settings ≡ settings
    → network_magic settings.network ≡ network_magic said.settings.network
magic_of said same = ap (λ (s : ServeSettings). network_magic s.network) (sym same)

one_network : {words : List (List ℕ)} {magic : List ℕ} {said : ServeWords}
    → IsServe words magic → IsServeOf words said → magic ≡ network_magic said.settings.network
one_network {words} {magic} {said} is other =
    is.magic_is ∙ ap (λ (s : ServeWords). network_magic s.settings.network)
    (same_said is.said said is.is_serve other)

pub network_in : {words : List (List ℕ)} {magic : List ℕ} {settings : ServeSettings} → IsServe words magic
    → (said : ServeWords) × IsServeOf words said × (said.settings ≡ settings)
    → magic ≡ network_magic settings.network
network_in is found = one_network is found.1 ∙ sym (magic_of found.0 found.2)

-- the bits that the words say are from 16 to 24
bits_said : (text : Option (List ℕ)) (n : ℕ) → IsHeadBits text n → (16 ≤ n) × (n ≤ 24)
bits_said None n is = (omega (arith, is), omega (arith, is))
bits_said (Some text) n is = let below = is.0.number.below in (is.1, omega (arith, below))

pub bits_in : {words : List (List ℕ)} {settings : ServeSettings}
    → (said : ServeWords) × IsServeOf words said × (said.settings ≡ settings)
    → (16 ≤ settings.head_bits) × (settings.head_bits ≤ 24)
bits_in {words} {settings} found =
    subst (λ (s : ServeSettings). (16 ≤ s.head_bits) × (s.head_bits ≤ 24)) found.2
    (bits_said _ found.0.settings.head_bits found.1.head_bits_are)

pub same_limits : {words : List (List ℕ)} {a b : List ℕ} (x : IsServe words a) (y : IsServe words b)
    → x.said.settings.limits ≡ y.said.settings.limits
same_limits x y = ap (λ (s : ServeWords). s.settings.limits) (same_said x.said y.said x.is_serve y.is_serve)

pub same_relays : {words : List (List ℕ)} {a b : List ℕ} (x : IsServe words a) (y : IsServe words b)
    → x.said.settings.relays ≡ y.said.settings.relays
same_relays x y = ap (λ (s : ServeWords). s.settings.relays) (same_said x.said y.said x.is_serve y.is_serve)

pub same_networks : {words : List (List ℕ)} {a b : List ℕ} → IsServe words a → IsServe words b → a ≡ b
same_networks x y = one_network x y.is_serve ∙ sym y.magic_is

-- a call with the words of `serve` ends as such
pub only_served : {A : Type 0} {of_files : block_files.Ghosts A}
    {words : List (List ℕ)} {was flight : Chain} {index : IndexChain} {leaves : List ℕ → Chain → Chain → Type 0} {c : Counts}
    {before after : A} {t : Traffic} {s : Status} {magic : List ℕ} (asked : IsServe words magic)
    → Ends of_files words was flight index leaves c before after t s
    → IndexEnds of_files magic asked.said.settings.limits asked.said.settings.relays was flight index (leaves magic) c before after t s
only_served is (usage none spent silent) =
    absurd (none (command.Serve is.said) is.is_serve)
only_served is (serve magic also e) = rw (same_networks also is, same_limits also is, same_relays also is) at e
only_served is (once magic other e) =
    absurd (let a = is.is_serve.words_are in let b = other.is_once.words_are in cc)

-- so does one with the words of `once`
same_once : {words : List (List ℕ)} {a b : List ℕ} → IsOnce words a → IsOnce words b → a ≡ b
same_once {words} x y =
    let same = one_command words (command.Once x.blocks x.of_network) (command.Once y.blocks y.of_network) x.is_once y.is_once in
    let networks : x.of_network ≡ y.of_network = cc in
    x.magic_is ∙ ap network_magic networks ∙ sym y.magic_is

pub only_once : {A : Type 0} {of_files : block_files.Ghosts A}
    {words : List (List ℕ)} {was flight : Chain} {index : IndexChain} {leaves : List ℕ → Chain → Chain → Type 0} {c : Counts}
    {before after : A} {t : Traffic} {s : Status} {magic : List ℕ} → IsOnce words magic
    → Ends of_files words was flight index leaves c before after t s
    → OnceEnds of_files magic c (of_files.bytes before) (of_files.bytes after) t s
only_once is (usage none spent silent) = absurd (none (command.Once is.blocks is.of_network) is.is_once)
only_once is (serve magic other e) =
    absurd (let a = other.is_serve.words_are in let b = is.is_once.words_are in cc)
only_once is (once magic also e) = rw (same_once also is) at e

-- a call with the words that were read ends so
pub served_with : {A : Type 0} {of_files : block_files.Ghosts A} {words : List (List ℕ)}
    {was flight : Chain} {index : IndexChain} {leaves : List ℕ → Chain → Chain → Type 0} {c : Counts} {before after : A}
    {t : Traffic} {s : Status} {settings : ServeSettings}
    (found : (said : ServeWords) × IsServeOf words said × (said.settings ≡ settings))
    → IndexEnds of_files (network_magic settings.network) settings.limits settings.relays was flight index
    (leaves (network_magic settings.network)) c before after t s
    → Ends of_files words was flight index leaves c before after t s
served_with found e = serve _ (is_serve found.1 refl) (rw (sym found.2) at e)

-- a run told in other words: what a crash leaves, where the chain is sure, and how often calls failed
module _ (c : Counts) (of_before of_after : Faults) (rises : (losses : List Deed)
    → Rose c.faults_before c.faults_after losses → Rose of_before of_after losses)
    (P Q : Chain → Chain → Type 0) (S : Type 0) (gives : S → (a b : Chain) → P a b → Q a b) where
  abbrev pub told : Counts
  told = record c { faults_before = of_before; faults_after = of_after }

  counted_told : (t : Traffic) (losses failed : List Deed) → IsAccounted c t losses failed
      → IsAccounted told t losses failed
  counted_told t losses failed k =
      record { calls = k.calls; turns = k.turns; rose = rises (losses ++ failed) k.rose; offered = k.offered }

  run_told : {A : Type 0} (of_files : block_files.Ghosts A) (first : World) (node : Bool)
      (files : ℕ → List ℕ) (t : Traffic) (failed : List Deed) → (first.side.sure ≡ true → S)
      → IsRun of_files first node P files c t failed
      → IsRun of_files first node Q files told t failed
  run_told of_files first node files t failed is r = record {
    losses = r.losses;
    world = r.world;
    run = r.run;
    statuses = r.statuses;
    grown = r.grown;
    counted = counted_told t r.losses failed r.counted;
    acknowledged = r.acknowledged;
    crash = λ sure. gives (is sure) r.world.side.chain r.world.side.chain (r.crash sure);
  }

  halt_told : {A : Type 0} (of_files : block_files.Ghosts A) (first : World) (node : Bool)
      (files : ℕ → List ℕ) (t : Traffic) (stop : Stop) → (first.side.sure ≡ true → S)
      → IsHalted of_files first node P files c t stop → IsHalted of_files first node Q files told t stop
  halt_told of_files first node files t stop is h = record {
    losses = h.losses;
    halts = h.halts;
    grown = h.grown;
    counted = counted_told t h.losses [] h.counted;
    last = h.last;
    flight = h.flight;
    is_flight = h.is_flight;
    acknowledged = h.acknowledged;
    crash = λ sure. gives (is sure) _ h.flight (h.crash sure);
  }

  pub ends_told : {A : Type 0} (of_files : block_files.Ghosts A) (first : World) (node : Bool)
      (files : ℕ → List ℕ) (t : Traffic) (e : End) → (first.side.sure ≡ true → S)
      → RunEnds of_files first node P files c t e → RunEnds of_files first node Q files told t e
  ends_told of_files first node files t end.Ended is r =
      (run_told of_files first node files t _ is r.0, r.1)
  ends_told of_files first node files t end.DiskFailed is r = halt_told of_files first node files t _ is r
  ends_told of_files first node files t end.LinkFailed is (inl r) = inl (
    run_told of_files first node files t _ is r.0,
    r.1,
  )
  ends_told of_files first node files t end.LinkFailed is (inr r) =
      inr (halt_told of_files first node files t _ is r)
  ends_told of_files first node files t end.OutOfMemory is r = halt_told of_files first node files t _ is r
  ends_told of_files first node files t end.TurnsSpent is r =
      (run_told of_files first node files t _ is r.0, r.1, r.2)

  silent_told : (t : Traffic) (losses : List Deed) → IsSilent c t losses → IsSilent told t losses
  silent_told t losses k =
      record { traffic = k.traffic; calls = k.calls; rose = rises losses k.rose }

  served_told : {A : Type 0} (of_files : block_files.Ghosts A) (magic : List ℕ)
      (limits : PoolLimits) (relays : Bool) (index : IndexChain) (before after : A) (t : Traffic) (e : End)
      → (index.sure ≡ true → S) → IsServed of_files magic limits relays index P c before after t e
      → IsServed of_files magic limits relays index Q told before after t e
  served_told of_files magic limits relays index before after t e is r = record {
    headers = r.headers;
    told = r.told;
    now = r.now;
    nodes = r.nodes;
    scanned = r.scanned;
    same = r.same;
    grows = r.grows;
    run = ends_told of_files _ true (of_files.bytes after) t e is r.run;
  }

  pub serve_told : {A : Type 0} (of_files : block_files.Ghosts A)
      (magic : List ℕ) (limits : PoolLimits) (relays : Bool) (index : IndexChain) (before after : A) (t : Traffic) (s : Status)
      → (index.sure ≡ true → S) → ServeEnds of_files magic limits relays index P c before after t s
      → ServeEnds of_files magic limits relays index Q told before after t s
  serve_told of_files magic limits relays index before after t status.Ended is r =
      served_told of_files magic limits relays index before after t _ is r
  serve_told of_files magic limits relays index before after t status.Usage is r = r
  serve_told of_files magic limits relays index before after t status.BadIndex is r = r
  serve_told of_files magic limits relays index before after t status.ArchiveFailed is r =
      (silent_told t _ r.0, λ sure. gives (is sure) index.chain index.chain (r.1 sure))
  serve_told of_files magic limits relays index before after t status.DiskFailed is (inl r) =
      inl (silent_told t _ r.0, λ sure. gives (is sure) index.chain index.chain (r.1 sure))
  serve_told of_files magic limits relays index before after t status.DiskFailed is (inr r) =
      inr (served_told of_files magic limits relays index before after t _ is r)
  serve_told of_files magic limits relays index before after t status.LinkFailed is r =
      served_told of_files magic limits relays index before after t _ is r
  serve_told of_files magic limits relays index before after t status.OutOfMemory is (inl r) =
      inl (silent_told t _ r.0, λ sure. gives (is sure) index.chain index.chain (r.1 sure))
  serve_told of_files magic limits relays index before after t status.OutOfMemory is (inr r) =
      inr (served_told of_files magic limits relays index before after t _ is r)
  serve_told of_files magic limits relays index before after t status.TurnsSpent is r =
      served_told of_files magic limits relays index before after t _ is r
  serve_told of_files magic limits relays index before after t status.OtherChain is r =
      (r.0, silent_told t _ r.1, λ sure. gives (is sure) index.chain index.chain (r.2 sure))
  serve_told of_files magic limits relays index before after t status.BadChain is r = r
  serve_told of_files magic limits relays index before after t status.AuditDiffers is r = r
  serve_told of_files magic limits relays index before after t status.AuditTooLarge is r = r

-- a count that stays 0 counts nothing, and another count may stay
stays_still : (d n : ℕ) → RoseBy 0 0 n → RoseBy d d n
stays_still d n r = omega arith

pub with_disk : (y y' of_link of_archive link_now archive_now of_disk : ℕ) (losses : List Deed)
    → Rose (faults of_link of_archive 0 y) (faults link_now archive_now 0 y') losses
    → Rose (faults of_link of_archive of_disk y) (faults link_now archive_now of_disk y') losses
with_disk y y' of_link of_archive link_now archive_now of_disk losses rose link = rose link
with_disk y y' of_link of_archive link_now archive_now of_disk losses rose archive = rose archive
with_disk y y' of_link of_archive link_now archive_now of_disk losses rose disk =
    stays_still of_disk (failures disk losses) (rose disk)
with_disk y y' of_link of_archive link_now archive_now of_disk losses rose relay = rose relay

-- a node and clients were served
pub served_ends : {A : Type 0} (of_files : block_files.Ghosts A)
    (magic : List ℕ) (limits : PoolLimits) (relays : Bool) (index : IndexChain) (leaves : Chain → Chain → Type 0) (c : Counts)
    (before after : A)
    (t : Traffic) (e : End) → IsServed of_files magic limits relays index leaves c before after t e
    → ServeEnds of_files magic limits relays index leaves c before after t (status_of_end e)
served_ends of_files magic limits relays index leaves c before after t end.Ended served = served
served_ends of_files magic limits relays index leaves c before after t end.DiskFailed served = inr served
served_ends of_files magic limits relays index leaves c before after t end.LinkFailed served = served
served_ends of_files magic limits relays index leaves c before after t end.OutOfMemory served =
    inr served
served_ends of_files magic limits relays index leaves c before after t end.TurnsSpent served = served

-- nothing went over the link, and the other counts rose by these losses
pub silent : {y : ℕ} (turns calls of_link low high of_disk now : ℕ) (losses : List Deed) → failures link losses ≡ 0 → failures relay losses ≡ 0
    → RoseBy low high (failures archive losses) → RoseBy of_disk now (failures disk losses)
    → IsSilent (counts turns calls calls (faults of_link low of_disk y) (faults of_link high now y))
    no_traffic losses
silent {y} turns calls of_link low high of_disk now losses none no_relay files index = record {
  traffic = refl;
  calls = refl;
  rose = rose;
}
  where
    rose : Rose (faults of_link low of_disk y) (faults of_link high now y) losses
    rose link = rw none (rose_none of_link)
    rose archive = files
    rose disk = index
    rose relay = rw no_relay (rose_none y)

-- nobody was served from an index that is open
pub start_ends : {A T : Type 0} (of_files : block_files.Ghosts A)
    (magic : List ℕ) (limits : PoolLimits) (relays : Bool) (index : IndexChain) (leaves : Chain → Chain → Type 0)
    (y turns calls of_link low high of_disk now : ℕ) (before after : A) (e : StartFault)
    → OnlyReads {T = T} of_files.tells (of_files.bytes before) (of_files.bytes after) low high start.ArchiveFailed (Err e)
    → CountsOnly {T = T} of_disk now start.DiskFailed (Err e)
    → (e ≡ start.OtherChain → IsOtherChain of_files magic index before after)
    → LeavesChain index leaves
    → ServeEnds of_files magic limits relays index leaves
    (counts turns calls calls (faults of_link low of_disk y) (faults of_link high now y))
    before after no_traffic (start_status e)
start_ends of_files magic limits relays index leaves y turns calls of_link low high of_disk now before
    after start.DiskFailed reads counts other left =
    inl (
      silent turns calls of_link low high of_disk now (deed.lost disk ∷ []) refl refl
          (rose_still low high (reads.others_uncounted (λ e. cc))) (counts.counted refl),
      left,
    )
start_ends of_files magic limits relays index leaves y turns calls of_link low high of_disk now before
    after start.ArchiveFailed reads counts other left = (
      silent turns calls of_link low high of_disk now (deed.lost archive ∷ []) refl refl (reads.counted refl)
          (rose_still of_disk now (counts.others_uncounted (λ e. cc))),
      left,
    )
start_ends of_files magic limits relays index leaves y turns calls of_link low high of_disk now before
    after start.OtherChain reads counts other left = (
      other refl,
      silent turns calls of_link low high of_disk now [] refl refl
          (rose_still low high (reads.others_uncounted (λ e. cc)))
          (rose_still of_disk now (counts.others_uncounted (λ e. cc))),
      left,
    )
start_ends of_files magic limits relays index leaves y turns calls of_link low high of_disk now before
    after start.Memory reads counts other left =
    inl (
      silent turns calls of_link low high of_disk now [] refl refl
          (rose_still low high (reads.others_uncounted (λ e. cc)))
          (rose_still of_disk now (counts.others_uncounted (λ e. cc))),
      left,
    )

-- the index is not opened
pub unopened_ends : (sure : Bool) (was flight : Chain) (leaves : Chain → Chain → Type 0)
    (y turns calls of_link of_archive low high : ℕ) (s : Status)
    → (s ≡ status.BadIndex) ⊎ ((s ≡ status.DiskFailed) ⊎ (s ≡ status.OutOfMemory))
    → (sure ≡ true → (s ≢ status.BadIndex) × leaves was flight)
    → (s ≡ status.DiskFailed → RoseBy low high 1) → (s ≢ status.DiskFailed → high ≡ low)
    → UnopenedEnds sure was flight leaves
    (counts turns calls calls (faults of_link of_archive low y) (faults of_link of_archive high y))
    no_traffic s
unopened_ends sure was flight leaves y turns calls of_link of_archive low high s is left counted uncounted =
    elim is [
      | inl bad ↦ rw bad (
        unsure sure (λ yes. (left yes).0 bad),
        silent turns calls of_link of_archive of_archive low high [] refl refl (rose_none of_archive)
            (rose_still low high (uncounted (λ e. other_status (sym bad ∙ e)))),
      )
      | inr (inl failed) ↦ rw failed (
        silent turns calls of_link of_archive of_archive low high (deed.lost disk ∷ []) refl refl (rose_none of_archive)
            (counted failed),
        λ yes. (left yes).1,
      )
      | inr (inr memory) ↦ rw memory (
        silent turns calls of_link of_archive of_archive low high [] refl refl (rose_none of_archive)
            (rose_still low high (uncounted (λ e. cc))),
        λ yes. (left yes).1,
      )
    ]
  where
    unsure : (b : Bool) → (b ≡ true → ⊥) → b ≡ false
    unsure true not_so = absurd (not_so refl)
    unsure false not_so = refl

    other_status : status.BadIndex ≡ status.DiskFailed → ⊥
    other_status e = cc

-- out of memory before the index was asked
pub memory_ends : {A : Type 0} (of_files : block_files.Ghosts A) (magic : List ℕ) (limits : PoolLimits) (relays : Bool)
    (index : IndexChain) (leaves : Chain → Chain → Type 0) {y : ℕ} (turns calls of_link of_archive of_disk : ℕ)
    (before after : A) → LeavesChain index leaves
    → ServeEnds of_files magic limits relays index leaves
    (counts turns calls calls (faults of_link of_archive of_disk y) (faults of_link of_archive of_disk y))
    before after no_traffic status.OutOfMemory
memory_ends of_files magic limits relays index leaves turns calls of_link of_archive of_disk before after left =
    inl (
      silent turns calls of_link of_archive of_archive of_disk of_disk [] refl refl (rose_none of_archive)
          (rose_none of_disk),
      left,
    )

-- clients were served without a node
pub served_once : {A : Type 0} (of_files : block_files.Ghosts A) (magic : List ℕ) (c : Counts)
    (before after : ℕ → List ℕ) (t : Traffic) (e : End) → e ≢ end.DiskFailed
    → IsServedOnce of_files magic c before after t e
    → OnceEnds of_files magic c before after t (status_of_end e)
served_once of_files magic c before after t end.Ended safe served = served
served_once of_files magic c before after t end.DiskFailed safe served = absurd (safe refl)
served_once of_files magic c before after t end.LinkFailed safe served = served
served_once of_files magic c before after t end.OutOfMemory safe served = inr served
served_once of_files magic c before after t end.TurnsSpent safe served = served

-- the block files can't be read
pub unread_ends : {A T : Type 0} (of_files : block_files.Ghosts A) (magic : List ℕ)
    (y turns calls of_link low high of_disk : ℕ) (before after : ℕ → List ℕ) (e : FileFault)
    → OnlyReads {T = T} of_files.tells before after low high fault.Failed (Err e)
    → (e ≡ fault.Bad → IsBadFile of_files magic before after)
    → OnceEnds of_files magic
    (counts turns calls calls (faults of_link low of_disk y) (faults of_link high of_disk y))
    before after no_traffic (unread_status e)
unread_ends of_files magic y turns calls of_link low high of_disk before after fault.Failed reads bad =
    silent turns calls of_link low high of_disk of_disk (deed.lost archive ∷ []) refl refl (reads.counted refl)
    (rose_none of_disk)
unread_ends of_files magic y turns calls of_link low high of_disk before after fault.Memory reads bad =
    inl (silent turns calls of_link low high of_disk of_disk [] refl refl
    (rose_still low high (reads.others_uncounted (λ e. cc))) (rose_none of_disk))
unread_ends of_files magic y turns calls of_link low high of_disk before after fault.Bad reads bad = (
  bad refl,
  silent turns calls of_link low high of_disk of_disk [] refl refl
      (rose_still low high (reads.others_uncounted (λ e. cc))) (rose_none of_disk),
)
