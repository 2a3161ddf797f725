use Rattle.std.proofs.Common.{refl}
use Rattle.el_core.proofs.client.Client.hear.Goals as goal

pub returns-in-Ok : goal.returns-in-Ok
returns-in-Ok c = rw (← c.self.view_is) (record {
  limit = c.feed.ensures.limit;
  peer = refl;
  session = refl;
  waits = refl;
  kept = λ fed given at. c.in-Ok.ensures.at fed given at;
})
