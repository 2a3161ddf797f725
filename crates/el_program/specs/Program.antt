-- What the program does with the words that it is started with.
use Rattle.std.specs.Prelude.{◌≡◌, ◌-◌, ◌^◌, ℕ, List, [], unwrap_or}
use Rattle.el_outside.specs.declared.archive.Archive as archive
use Rattle.el_outside.specs.declared.disk.Disk as disk
use Rattle.el_outside.specs.declared.link.Link as link
use Rattle.el_outside.specs.declared.relay.Relay as relay
use Rattle.el_open_files.specs.OpenFiles.{FilesOf}
use Rattle.el_relay_folder.specs.Outboxes.{RelayOf}
use Rattle.el_net.specs.Devices.{BlocksOf, LinkOverPorts}
use Rattle.el_words.specs.Options.{Word}
use Rattle.el_words.specs.Words.{IsServeOf, IsOnceOf, IsCheckOf, IsAuditOf}
use Rattle.el_words.specs.Proofs.{SayProof}
use Rattle.el_words.specs.Commands.{IsNoCommand}
use Rattle.el_words.specs.declared.words.Network.{Network}
use Rattle.el_words.specs.declared.words.ProofWords.{ProofWords}
use Rattle.el_words.specs.declared.words.ServeWords.{ServeWords}
use Rattle.el_program.specs.Calls.{Call}
use Rattle.el_program.specs.AnyCall.{IsCall}
use Rattle.el_program.specs.Lives.{IsFresh}
use Rattle.el_program.specs.declared.status.Status.{Status}
use Rattle.el_program.specs.declared.status.Status.TheVariants as status

-- a call of `serve` with these words, which may make more calls of `next` than a program makes in its life,
-- and which ended so
pub record IsCallWith {D A Y K : Type 0} (of_disk : disk.Ghosts D) (of_files : archive.Ghosts A)
    (of_relay : relay.Ghosts Y) (of_link : link.Ghosts K) (words : List Word) (s : Status) : Type 0 where
  pub call : Call D A Y K
  pub is : IsCall of_disk of_files of_relay of_link call
  pub words_are : call.words ≡ words
  pub turns_are : call.turns ≡ 2 ^ 64 - 1
  pub ends : call.status ≡ s

-- The words were served over the devices that they ask for, and that ended so: with those of `serve` over the
-- folders and the two ports, with those of `once` over the one folder and the standard streams, with those
-- of `audit` over the two folders and these, with those of `prove-check` over these. Words of no command are
-- refused.
pub data IsServing {N S : Type 0} (of_index : disk.Ghosts (FilesOf Word)) (of_none : disk.Ghosts N)
    (of_files : archive.Ghosts (BlocksOf Word)) (of_folder : relay.Ghosts (RelayOf Word))
    (of_ports : link.Ghosts LinkOverPorts)
    (of_streams : link.Ghosts S) (words : List Word) (s : Status) : Type 0 where
  serve : (said : ServeWords) → IsServeOf words said
      → (c : IsCallWith of_index of_files of_folder of_ports words s)
      → c.call.before.disk.files ≡ said.index → c.call.before.files.folder ≡ said.blocks
      → c.call.before.relay.outbox ≡ unwrap_or said.relay []
      → c.call.before.link.asked
      ≡ record { clients = said.settings.client_port; node = said.settings.node_port }
      → IsServing of_index of_none of_files of_folder of_ports of_streams words s
  once : (blocks : Word) (network : Network) → IsOnceOf words blocks network
      → (c : IsCallWith of_none of_files of_folder of_streams words s) → c.call.before.files.folder ≡ blocks
      → IsServing of_index of_none of_files of_folder of_ports of_streams words s
  audit : (blocks index : Word) (network : Network) → IsAuditOf words blocks index network
      → (c : IsCallWith of_index of_files of_folder of_streams words s) → c.call.before.disk.files ≡ index
      → c.call.before.files.folder ≡ blocks
      → IsServing of_index of_none of_files of_folder of_ports of_streams words s
  proof : (said : ProofWords) → SayProof words said → IsCallWith of_none of_files of_folder of_streams words s
      → IsServing of_index of_none of_files of_folder of_ports of_streams words s
  refused : IsNoCommand words → s ≡ status.Usage
      → IsServing of_index of_none of_files of_folder of_ports of_streams words s

-- Words of `check-chain` were served over a disk whose files are empty, no block files, and the standard
-- streams, and that ended so.
pub record IsChecking {F B R S : Type 0} (of_fresh : disk.Ghosts F) (of_no_files : archive.Ghosts B)
    (of_no_relay : relay.Ghosts R)
    (of_streams : link.Ghosts S) (words : List Word) (s : Status) : Type 0 where
  pub count : ℕ
  pub is : IsCheckOf words count
  pub called : IsCallWith of_fresh of_no_files of_no_relay of_streams words s
  pub fresh : IsFresh of_fresh called.call.before.disk
