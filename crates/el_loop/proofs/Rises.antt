-- Counts of failed calls, whatever the devices tell.
use Rattle.std.proofs.Common.{◌≡◌, ◌≢◌, ℕ, ◌+◌, ◌<◌, ◌≤◌, refl, sym, ◌∙◌, arith, Result, Ok, Err, None, Some}
use Rattle.el_outside.specs.Counts.{RoseBy}
use Rattle.el_outside.specs.declared.link.Why.{Why}
use Rattle.el_outside.specs.declared.link.SendFault.{SendFault}
use Rattle.el_outside.specs.declared.link.SendFault.TheVariants as fault
use Rattle.el_side.proofs.Deeds.{each_more}
use Rattle.el_outside.proofs.Traces.{rose_more, rose_none}
use Rattle.el_model.specs.declared.fault.QueryFault.{QueryFault}
use Rattle.el_model.specs.declared.fault.QueryFault.TheVariants as step
use Rattle.el_core.specs.Turn as turn
use Rattle.el_side.specs.Deeds.{Device, link, archive, disk, relay, Faults, faults, Rose}
use Rattle.el_loop.specs.Counts.{counts, HasRisen, failed_device, IsCaused}
use Rattle.el_loop.specs.Runs.{next_failed}
use Rattle.el_loop.specs.declared.end.End.{End}
use Rattle.el_loop.specs.declared.end.End.TheVariants as end
use Rattle.el_loop.specs.declared.halt.Halt.{Halt}
use Rattle.el_loop.specs.declared.halt.Halt.TheVariants as halt
use Rattle.el_loop.specs.within.Sending.{LossOf, RisesFor, end_of, halt_stop}
use Rattle.el_loop.specs.within.Progress.{CountedSoFar}

-- 1. Stops of a run

-- a message to the node wasn't sent
pub rises_node : {T : Type 0} (f : SendFault) (reason : Why) (h : Halt) (low high : ℕ) → LossOf f reason h
    → (f ≡ fault.Gone → RoseBy low high 1) → (f ≡ fault.Memory → high ≡ low)
    → RisesFor {T = T} low high halt.Link (Err h)
rises_node fault.Gone reason h low high lost gone memory =
    let r = gone refl in record { more = omega arith; rose = λ e. omega arith }
rises_node fault.Memory reason h low high lost gone memory =
    let r = memory refl in record { more = omega arith; rose = λ e. absurd cc }

-- a message to a client wasn't sent, and it was closed
pub rises_client : {T : Type 0} (f : SendFault) (x : T) (low middle high : ℕ)
    → (f ≡ fault.Gone → RoseBy low middle 1) → (f ≡ fault.Memory → middle ≡ low) → high ≡ middle
    → RisesFor low high halt.Link (Ok x)
rises_client fault.Gone x low middle high gone memory still =
    let r = gone refl in record { more = omega arith; rose = λ e. absurd cc }
rises_client fault.Memory x low middle high gone memory still =
    let r = memory refl in record { more = omega arith; rose = λ e. absurd cc }

-- a count that rose goes on rising
risen_after : (a b c : ℕ) → a ≤ b → HasRisen b c → HasRisen a c
risen_after a b c more rose = omega arith

pub rises_after : {T : Type 0} {a b c : ℕ} {h : Halt} {r : Result T Halt} → a ≤ b → RisesFor b c h r
    → RisesFor a c h r
rises_after {a = a} {b = b} {c = c} more rises = let m = rises.more in record {
  more = omega arith;
  rose = λ e. risen_after a b c more (rises.rose e);
}

-- another stop than that for which the count rises
pub rises_other : {T : Type 0} {a b : ℕ} {h e : Halt} → a ≤ b → e ≢ h → RisesFor {T = T} a b h (Err e)
rises_other {h = h} {e = e} more other = record { more = more; rose = λ is. absurd (other cc) }

-- a turn failed
pub rises_turn : {T : Type 0} (a b c : ℕ) (e : QueryFault) (h : Halt) → halt_stop h ≡ turn.turn_stop e → a ≤ b
    → b ≤ c
    → (e ≡ step.DiskFailed → RoseBy b c 1) → RisesFor {T = T} a c halt.Disk (Err h)
rises_turn a b c step.DiskFailed h is more further failed =
    let r = failed refl in record { more = omega arith; rose = λ e. omega arith }
rises_turn a b c step.Memory halt.Disk is more further failed = absurd cc
rises_turn a b c step.Memory halt.Link is more further failed = absurd cc
rises_turn a b c step.Memory halt.Memory is more further failed =
    record { more = omega arith; rose = λ e. absurd cc }

pub turn_no_link : {T : Type 0} (a b : ℕ) (e : QueryFault) (h : Halt) → halt_stop h ≡ turn.turn_stop e → a ≤ b
    → RisesFor {T = T} a b halt.Link (Err h)
turn_no_link a b step.DiskFailed halt.Disk is more = rises_other more (λ e. cc)
turn_no_link a b step.DiskFailed halt.Link is more = absurd cc
turn_no_link a b step.DiskFailed halt.Memory is more = absurd cc
turn_no_link a b step.Memory halt.Disk is more = absurd cc
turn_no_link a b step.Memory halt.Link is more = absurd cc
turn_no_link a b step.Memory halt.Memory is more = rises_other more (λ e. cc)

-- 2. The whole run

-- no call of `next` was made
pub counted_none : (calls : ℕ) (f : Faults) → CountedSoFar 0 calls calls f f
counted_none calls f = record { called = omega arith; more = λ device. omega arith }

-- one call more was made
pub counted_more : (n a b c : ℕ) (f g h : Faults) → CountedSoFar n a b f g → RoseBy b c 1
    → ((device : Device) → g device ≤ h device) → CountedSoFar (n + 1) a c f h
counted_more n a b c f g h so_far called more = record {
  called = rose_more a b c n 1 so_far.called called;
  more = λ device. let l = so_far.more device in let m = more device in omega arith;
}

-- a call of `next` failed
pub rose_next : (low high of_files of_index of_relay : ℕ) → RoseBy low high 1
    → Rose (faults low of_files of_index of_relay) (faults high of_files of_index of_relay) next_failed
rose_next low high of_files of_index of_relay rose link = rose
rose_next low high of_files of_index of_relay rose archive = rose_none of_files
rose_next low high of_files of_index of_relay rose disk = rose_none of_index
rose_next low high of_files of_index of_relay rose relay = rose_none of_relay

-- the run ends in no fault of a device
pub caused_end : (turns n a b : ℕ) (f g : Faults) (s : End) → CountedSoFar n a b f g → n ≤ turns
    → failed_device s ≡ None → (s ≡ end.TurnsSpent → n ≡ turns)
    → IsCaused (counts turns a b f g) (failed_device s) (s ≡ end.TurnsSpent)
caused_end turns n a b f g s so_far few sound spent = record {
  more = so_far.more;
  rose = λ device e. absurd (let x = sym sound ∙ e in cc);
  calls = n;
  called = so_far.called;
  few = few;
  spent = spent;
}

-- the last call of `next` failed
pub caused_next : (turns n a b c : ℕ) (f g h : Faults) → CountedSoFar n a b f g → n < turns → RoseBy b c 1
    → RoseBy (g link) (h link) 1 → h archive ≡ g archive → h disk ≡ g disk → h relay ≡ g relay
    → IsCaused (counts turns a c f h) (failed_device end.LinkFailed) (end.LinkFailed ≡ end.TurnsSpent)
caused_next turns n a b c f g h so_far few called of_link of_archive of_disk of_relay = record {
  more = λ device.
      let l = so_far.more device in
      let m = each_more g h (omega arith) (omega arith) (omega arith) (omega arith) device in
      omega arith;
  rose = λ device e. of_device device e;
  calls = n + 1;
  called = rose_more a b c n 1 so_far.called called;
  few = omega arith;
  spent = λ e. absurd cc;
}
  where
    of_device : (device : Device) → Some link ≡ Some device → HasRisen (f device) (h device)
    of_device link e = let l = so_far.more link in omega arith
    of_device archive e = absurd cc
    of_device disk e = absurd cc
    of_device relay e = absurd cc

-- an arrival stopped the run
pub caused_halt : {T : Type 0} (turns n a b c : ℕ) (f g i : Faults) (h : Halt) (r : Result T Halt)
    → CountedSoFar n a b f g → n < turns → RoseBy b c 1 → r ≡ Err h
    → RisesFor (g link) (i link) halt.Link r → g archive ≤ i archive → RisesFor (g disk) (i disk) halt.Disk r
    → g relay ≤ i relay
    → IsCaused (counts turns a c f i) (failed_device (end_of h)) (end_of h ≡ end.TurnsSpent)
caused_halt turns n a b c f g i h r so_far few called is of_link of_archive of_disk of_relay = record {
  more = λ device.
      let l = so_far.more device in
      let m = each_more g i of_link.more of_archive of_disk.more of_relay device in
      omega arith;
  rose = λ device e. risen_after (f device) (g device) (i device) (so_far.more device)
      (of_halt h device e is);
  calls = n + 1;
  called = rose_more a b c n 1 so_far.called called;
  few = omega arith;
  spent = λ e. absurd (no_spent h e);
}
  where
    of_halt : (h : Halt) (device : Device) → failed_device (end_of h) ≡ Some device → r ≡ Err h
        → HasRisen (g device) (i device)
    of_halt halt.Disk link e is = absurd cc
    of_halt halt.Disk archive e is = absurd cc
    of_halt halt.Disk disk e is = of_disk.rose is
    of_halt halt.Disk relay e is = absurd cc
    of_halt halt.Link link e is = of_link.rose is
    of_halt halt.Link archive e is = absurd cc
    of_halt halt.Link disk e is = absurd cc
    of_halt halt.Link relay e is = absurd cc
    of_halt halt.Memory device e is = absurd cc

    no_spent : (h : Halt) → end_of h ≡ end.TurnsSpent → ⊥
    no_spent halt.Disk e = cc
    no_spent halt.Link e = cc
    no_spent halt.Memory e = cc
