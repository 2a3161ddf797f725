-- What the words ask for.
use Rattle.std.specs.Prelude.{◌≡◌, ℕ, List}
use Rattle.el_words.specs.Options.{Word}
use Rattle.el_words.specs.Words.{IsOnceOf, IsServeOf, IsCheckOf, IsAuditOf, network_magic}
use Rattle.el_words.specs.Proofs.{SayProof}
use Rattle.el_words.specs.declared.words.Network.{Network}
use Rattle.el_words.specs.declared.words.Command.{Command}
use Rattle.el_words.specs.declared.words.Command.TheVariants as command
use Rattle.el_words.specs.declared.words.ServeWords.{ServeWords}

-- the words are those of the command
abbrev pub IsCommand : List Word → Command → Type 0
IsCommand words (command.Serve said) = IsServeOf words said
IsCommand words (command.Once blocks network) = IsOnceOf words blocks network
IsCommand words (command.CheckChain count) = IsCheckOf words count
IsCommand words (command.Audit blocks index network) = IsAuditOf words blocks index network
IsCommand words (command.ProveCheck said) = SayProof words said

-- the words are those of no command
abbrev pub IsNoCommand : List Word → Type 0
IsNoCommand words = (c : Command) → IsCommand words c → ⊥

-- the words of `serve`, for a network with that magic
pub record IsServe (words : List Word) (magic : List ℕ) : Type 0 where
  pub said : ServeWords
  pub is_serve : IsServeOf words said
  pub magic_is : magic ≡ network_magic said.settings.network

-- the words of `audit`, for a network with that magic
pub record IsAudit (words : List Word) (magic : List ℕ) : Type 0 where
  pub blocks : Word
  pub index : Word
  pub of_network : Network
  pub is_audit : IsAuditOf words blocks index of_network
  pub magic_is : magic ≡ network_magic of_network

-- the words of `once`, for a network with that magic
pub record IsOnce (words : List Word) (magic : List ℕ) : Type 0 where
  pub blocks : Word
  pub of_network : Network
  pub is_once : IsOnceOf words blocks of_network
  pub magic_is : magic ≡ network_magic of_network
