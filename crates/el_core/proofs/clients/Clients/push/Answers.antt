use Rattle.std.proofs.Common.{◌∷◌, ◌++◌, []}
use Rattle.el_core.proofs.Counted.{counts_of, held_more}
use Rattle.el_core.proofs.clients.Clients.push.Goals as goal

pub invariant_of-self-2 : goal.invariant_of-self-2
invariant_of-self-2 c =
    let items = c.self.inside.list.items in
    rw c.in_ok-push.ensures.items (counts_of c.self.inside.watched items (items ++ c.args.client ∷ []) (held_more items c.args.client c.requires) c.self.invariant)
