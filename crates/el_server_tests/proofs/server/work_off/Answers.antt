use Rattle.el_server_tests.proofs.server.work_off.Goals as goal

pub loop-outs-preserved : goal.loop-outs-preserved
loop-outs-preserved g c = λ last up. c.in-Ok-Some.ensures.numbers last (c.loop-outs.invariant last up)

pub returns-in-Ok-None-clause-numbers : goal.returns-in-Ok-None-clause-numbers
returns-in-Ok-None-clause-numbers g c =
    λ last up. c.in-Ok-None.ensures.numbers last (c.loop-outs.invariant last up)

pub returns-in-Err-clause-numbers : goal.returns-in-Err-clause-numbers
returns-in-Err-clause-numbers g c =
    λ last up. c.in-Err.ensures.numbers last (c.loop-outs.invariant last up)
