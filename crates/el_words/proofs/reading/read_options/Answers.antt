use Rattle.std.proofs.Common.{ap, ap₂, sym, ◌∙◌, ◌∷◌}
use Rattle.std.proofs.lemmas.Result.{IfOk-weaker, IfErr-weaker}
use Rattle.clap.specs.Matches.{found_of}
use Rattle.clap.specs.Simple.{matches_of, is_simple}
use Rattle.clap.specs.Takes.{takes}
use Rattle.clap.specs.Walk.{first_of}
use Rattle.clap.proofs.WalkLemmas.{first_value-rows}
use Rattle.el_words.specs.Options.{value_of}
use Rattle.el_words.proofs.OptionLemmas.{one_given}
use Rattle.el_words.proofs.Walking.{read, taken, is_simple_reader}
use Rattle.el_words.proofs.reading.read_options.Goals as goal

pub returns-clause-memory : goal.returns-clause-memory
returns-clause-memory c = IfErr-weaker c.try_get_matches_from.result _ _
    (λ e passes. passes (ap₂ takes c.in_ok-command.ensures c.requires.words_are
    ∙ taken c.requires.given c.requires.are))
    c.try_get_matches_from.ensures.passes

pub returns-clause-values : goal.returns-clause-values
returns-clause-values c = IfOk-weaker c.try_get_matches_from.result _ _
    (λ m matches given is id. first_value-rows (found_of m) id
    ∙ ap (first_of id) ((matches (ap is_simple c.in_ok-command.ensures ∙ is_simple_reader)).0
    ∙ ap₂ matches_of c.in_ok-command.ensures c.requires.words_are)
    ∙ read c.requires.given c.requires.are id
    ∙ ap (value_of (45 ∷ 45 ∷ id)) (one_given c.requires.given given (sym c.requires.words_are ∙ is)))
    c.try_get_matches_from.ensures.matches
