use Rattle.el_sift.proofs.moving.sift_table.Goals as goal

pub returns-in-Ok-clause-sifted : goal.returns-in-Ok-clause-sifted
returns-in-Ok-clause-sifted g c = λ before chain kept h stood keeps.
    rw c.in-Ok.is at (c.sift_in_place.ensures.sifted before chain kept h stood keeps)

pub returns-in-Ok-clause-fees : goal.returns-in-Ok-clause-fees
returns-in-Ok-clause-fees g c = λ before chain kept h stood keeps.
    rw c.in-Ok.is at (c.sift_in_place.ensures.fees before chain kept h stood keeps)
