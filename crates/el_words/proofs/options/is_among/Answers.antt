use Rattle.el_words.proofs.Checking.{is_among, among_is}
use Rattle.el_words.proofs.options.is_among.Goals as goal

pub returns : goal.returns
returns c = rw c.contains.ensures.value (
  is_among c.args.options.now c.args.word.now,
  among_is c.args.options.now c.args.word.now,
)
