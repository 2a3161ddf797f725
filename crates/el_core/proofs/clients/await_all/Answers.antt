use Rattle.std.proofs.Common.{◌<◌, length, arith}
use Rattle.el_core.proofs.Replacing.{wait_step}
use Rattle.el_core.proofs.clients.await_all.Goals as goal

pub loop-client-preserved : goal.loop-client-preserved
loop-client-preserved c =
    let lt : c.loop-client.client-index < length c.loop-client.client-items = (let a = c.loop-client.auto.client-items in let t = c.loop-client-test.true in omega arith) in
    wait_step c.deref_mut-client-items.result.now c.loop-client.client-items c.loop-client.client-index c.client-item.result c.await_telling.new.self c.loop-client.invariant lt c.await_telling.ensures
