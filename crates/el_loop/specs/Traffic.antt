-- What went over the link, and to the relay.
use Rattle.std.specs.Prelude.{◌≡◌, List, [], ◌++◌}
use Rattle.el_outside.specs.Relays.{Offer}
use Rattle.el_outside.specs.Trace.{GoesOn, ArrivalWithBytes, Message, Closing}
use Rattle.el_outside.specs.declared.link.Link as links
use Rattle.el_outside.specs.declared.relay.Relay as relays
use Rattle.el_side.specs.Deeds.{answered}

-- the arrivals that were taken, the messages that were sent, the peers that were closed, and the transactions
-- that the relay took or refused, each in order
pub record Traffic : Type 0 where
  pub arrivals : List ArrivalWithBytes
  pub messages : List Message
  pub closings : List Closing
  pub offers : List Offer

-- this went over a link between the one moment and the other, where it tells
abbrev pub WentBy : {K : Type 0} → links.Ghosts K → K → K → Traffic → Type 0
WentBy of_link before after t = of_link.tells
    → GoesOn (of_link.trace before) (of_link.trace after) t.arrivals t.messages t.closings

-- a relay answered these offers between the one moment and the other, where it tells
abbrev pub WentTo : {Y : Type 0} → relays.Ghosts Y → Y → Y → Traffic → Type 0
WentTo of_relay before after t = of_relay.tells
    → answered (of_relay.offers after) ≡ answered (of_relay.offers before) ++ t.offers

-- nothing was taken, sent or closed, and the relay wasn't asked
abbrev pub no_traffic : Traffic
no_traffic = record { arrivals = []; messages = []; closings = []; offers = [] }
