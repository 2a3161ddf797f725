-- A relay in memory.
use Rattle.std.specs.Prelude.{ℕ, ◌==◌, if◌then◌else◌, List, Ok}
use Rattle.std.specs.List.{list_any}
use Rattle.el_outside.specs.declared.relay.Verdict.{Verdict}
use Rattle.el_outside.specs.declared.relay.Verdict.TheVariants as verdict
use Rattle.el_outside.specs.Relays.{Offer}
use Rattle.el_fakes.specs.declared.relay.Offered.{Offered}

-- An offer that was kept, as a call of a relay.
abbrev pub offer_of : Offered → Offer
offer_of o = record { bytes = o.bytes; answer = Ok o.verdict }

-- A relay some of whose calls fail, and some refuse: the offers that it answered, in order; the numbers of
-- the calls that fail, and of those that refuse; how many calls were made, up to 2^64 - 1 and with no bound,
-- and how many of them failed.
pub record RelayState : Type 0 where
  pub offers : List Offer
  pub failing : List ℕ
  pub refusing : List ℕ
  pub calls : ℕ
  pub made : ℕ
  pub faults : ℕ

-- what the call with that number says, if it doesn't fail
abbrev pub verdict_of : List ℕ → ℕ → Verdict
verdict_of refusing call = if list_any (λ n. call == n) refusing then verdict.Refused else verdict.Taken
