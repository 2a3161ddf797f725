use Rattle.el_world.proofs.KeepTold.{replies_keep_told}
use Rattle.el_world.proofs.laws.replies_keep_told.Goals as goal

pub returns : goal.returns
returns g c = λ side bytes was now losses reply sure told comes.
    replies_keep_told g.A.Archive.tells side bytes was now losses reply sure told comes
