use Rattle.el_words.proofs.OptionLemmas.{serve_gives}
use Rattle.el_words.proofs.words.once_command.Goals as goal

pub read_options-requires : goal.read_options-requires
read_options-requires c = let once = c.requires.1 in record {
  given = once.given;
  words_are = c.after_first.ensures _ _ once.words_are;
  are = serve_gives once.given once.options;
}
