use Rattle.std.proofs.Common.{◌<◌, List, length, sym, subst}
use Rattle.el_core.specs.State.{ClientState}
use Rattle.el_core.proofs.Counted.{set_counts}
use Rattle.el_core.proofs.Replacing.{tell_stays, tell_goes}
use Rattle.el_core.proofs.clients.Clients.tell.Goals as goal

pub returns-then-stays-clause-turn : goal.returns-then-stays-clause-turn
returns-then-stays-clause-turn g c =
    let items = c.self.inside.list.items in
    let lt : c.args.i < length items = subst (λ (l : List ClientState). c.args.i < length l) (sym c.self.view_is) c.requires.inside in
    let t = c.tell_turn-outs.ensures in
    rw (← c.self.view_is) (tell_stays _ c.args.i items c.index_mut.result.now c.tell_turn-outs.new.client c.tell_turn-outs.result.1 lt c.index_mut.ensures.value c.if-stays.true t.told t.same t.turn)

pub returns-clause-turn : goal.returns-clause-turn
returns-clause-turn g c =
    let items = c.self.inside.list.items in
    let lt : c.args.i < length items = subst (λ (l : List ClientState). c.args.i < length l) (sym c.self.view_is) c.requires.inside in
    let t = c.tell_turn-outs.ensures in
    rw (← c.self.view_is) (tell_goes _ c.args.i items c.index_mut.result.now c.tell_turn-outs.new.client c.tell_turn-outs.result.1 c.take_away.new.self lt c.index_mut.ensures.value c.if-stays.false t.turn c.take_away.ensures)

pub invariant_of-self : goal.invariant_of-self
invariant_of-self g c =
    let items = c.self.inside.list.items in
    let lt : c.args.i < length items = subst (λ (l : List ClientState). c.args.i < length l) (sym c.self.view_is) c.requires.inside in
    set_counts c.self.inside.watched items c.args.i c.index_mut.result.now c.tell_turn-outs.new.client lt c.index_mut.ensures.value c.tell_turn-outs.ensures.keys c.self.invariant

pub invariant_of-self-2 : goal.invariant_of-self-2
invariant_of-self-2 g c =
    let items = c.self.inside.list.items in
    let lt : c.args.i < length items = subst (λ (l : List ClientState). c.args.i < length l) (sym c.self.view_is) c.requires.inside in
    set_counts c.self.inside.watched items c.args.i c.index_mut.result.now c.tell_turn-outs.new.client lt c.index_mut.ensures.value c.tell_turn-outs.ensures.keys c.self.invariant
