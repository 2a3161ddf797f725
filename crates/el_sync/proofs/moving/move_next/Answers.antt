use Rattle.el_sync.proofs.Tried.{fits_whole}
use Rattle.el_sync.proofs.moving.move_next.Goals as goal

pub move_once-requires-clause-fits : goal.move_once-requires-clause-fits
move_once-requires-clause-fits g c = λ lifetimes outlive chain stands. fits_whole chain c.args.rest (c.requires.fits chain stands)

pub returns-clause-moving : goal.returns-clause-moving
returns-clause-moving g c = λ side start at. c.move_once.ensures.moving side start at (λ e. absurd (let bad = e in cc))
