use Rattle.std.proofs.lemmas.Result.{IfOk-weaker}
use Rattle.el_calls.specs.Methods.{known}
use Rattle.el_calls.specs.declared.method.Method.TheVariants as method
use Rattle.el_calls.proofs.readers.call_of.Goals as goal

pub returns-in-Some : goal.returns-in-Some
returns-in-Some c = known c.in-Some.method c.in-Some.ensures.found c.known_call.ensures

pub returns-in-Some-Broadcast : goal.returns-in-Some-Broadcast
returns-in-Some-Broadcast c =
    IfOk-weaker c.broadcast.result _ _
    (λ call is. known method.Broadcast (rw c.in-Some-Broadcast.field-0-is at c.in-Some-Broadcast.ensures.found) is) c.broadcast.ensures
