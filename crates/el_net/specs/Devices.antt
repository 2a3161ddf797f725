-- What contracts see of the real devices.
use Rattle.std.specs.Prelude.{◌≡◌, ◌==◌, ℕ, Bool, if◌then◌else◌, List, [], Option, Result, Ok, Err, IsErr}
use Rattle.el_outside.specs.declared.link.Arrival.{Arrival}
use Rattle.el_outside.specs.declared.link.Arrival.TheVariants as arrival
use Rattle.el_outside.specs.declared.link.LinkFailed.{LinkFailed}
use Rattle.std.specs.Option.{option_map_or}
use Rattle.el_sockets.specs.declared.sockets.Ports.{Ports}
use Rattle.el_net.specs.declared.masks.Mask.{Mask}
use Rattle.el_net.specs.Masks.{unmasked}

-- the block files of a folder: the folder, its mask where that could be had, how many calls were made, and
-- how often one has failed
pub record BlocksOf (D : Type 0) : Type 0 where
  pub folder : D
  pub mask : Option Mask
  pub made : ℕ
  pub faults : ℕ

-- the bytes of a block file without its folder's mask
abbrev pub read_with : Option Mask → List ℕ → List ℕ
read_with mask bytes = unmasked (option_map_or (λ (m : Mask). m.bytes) mask []) 0 bytes

-- a link: the last client that came, or 0, how often `next` was called, and how often a call has failed
pub record LinkCounts : Type 0 where
  pub last : ℕ
  pub calls : ℕ
  pub faults : ℕ

-- a link over sockets: the ports that were asked for, the last client that came, or 0, how often `next` was
-- called, and how often a call has failed
pub record LinkOverPorts : Type 0 where
  pub asked : Ports
  pub last : ℕ
  pub calls : ℕ
  pub faults : ℕ

-- What a read of the one client's bytes brings: at the end of input nothing comes any more, bytes of a
-- client that was closed are thrown away, and a read that failed is a failure of the link.
abbrev pub IsArrivalOf : {E : Type 0} → Result ℕ E → Bool → Result Arrival LinkFailed → Type 0
IsArrivalOf (Ok n) is_closed result =
    result ≡ Ok (if n == 0 then arrival.Ended else (if is_closed then arrival.Quiet else arrival.Bytes 1 n))
IsArrivalOf (Err e) is_closed result = IsErr result
