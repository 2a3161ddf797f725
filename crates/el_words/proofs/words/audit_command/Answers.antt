use Rattle.el_words.proofs.OptionLemmas.{serve_gives_audit}
use Rattle.el_words.proofs.words.audit_command.Goals as goal

pub read_options-requires : goal.read_options-requires
read_options-requires c = let audit = c.requires.2 in record {
  given = audit.given;
  words_are = c.after_first.ensures _ _ audit.words_are;
  are = serve_gives_audit audit.given audit.options;
}
