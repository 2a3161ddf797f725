use Rattle.el_program.proofs.FileLemmas.{unpadded_gives, unpadded_none}
use Rattle.el_program.proofs.laws.file_without_padding_gives_chain.Goals as goal

pub returns-clause-gives : goal.returns-clause-gives
returns-clause-gives g c = λ before after magic nodes chain told none r. unpadded_gives g.A.Archive before after magic nodes chain told none r

pub returns-clause-gives_none : goal.returns-clause-gives_none
returns-clause-gives_none g c = λ before after magic told none bad. unpadded_none g.A.Archive before after magic told none bad
