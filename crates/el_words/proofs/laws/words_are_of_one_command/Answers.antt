use Rattle.el_words.proofs.OneCommand.{one_command}
use Rattle.el_words.proofs.laws.words_are_of_one_command.Goals as goal

pub returns : goal.returns
returns c = one_command
