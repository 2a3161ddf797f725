use Rattle.el_sift.proofs.confirming.confirmed_over.Goals as goal

pub returns-in-Some-clause-told : goal.returns-in-Some-clause-told
returns-in-Some-clause-told g c = λ before chain all over keeps stood.
    c.confirmed_since.ensures.told before chain all over (rw c.in-Some.is at keeps) stood
