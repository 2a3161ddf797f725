-- What `clap` is told of the options.
use Rattle.std.specs.Prelude.{◌≡◌, List, Some, true, codes}
use Rattle.clap.specs.Walk.{Rule}
use Rattle.clap.specs.Simple.{App, new_app, new_rule, with_rule, on_top}
use Rattle.clap.specs.declared.builder.action.ArgAction.TheVariants.{Set}
use Rattle.el_words.specs.Options.{Word, Given, words_of, AreOptions}

-- the words give options, each of which is one of these
pub record GiveOptions (options words : List Word) : Type 0 where
  pub given : Given
  pub words_are : words ≡ words_of given
  pub are : AreOptions options given

-- an option: `--` and its id, and then one value
abbrev pub option_rule : Word → Rule
option_rule id = record (new_rule id) { long = Some id; action = Some Set }

-- a command without options: it has no word for its own name, and no `--help`
abbrev pub no_options : App
no_options = on_top (λ s. record s { no_binary_name = true; disable_help_flag = true })
    (new_app (codes "electrum_serve"))

-- the command with two options more
abbrev pub with_two : App → Word → Word → App
with_two a x y = with_rule (with_rule a (option_rule x)) (option_rule y)

-- all the options of commands
abbrev pub reader : App
reader = with_rule (with_two (with_two (with_two (with_two no_options
    (codes "network") (codes "blocks"))
    (codes "index") (codes "client-port"))
    (codes "node-port") (codes "pool-count"))
    (codes "pool-bytes") (codes "head-bits"))
    (option_rule (codes "relay"))
