-- The devices that a command asks for.
use Rattle.std.specs.Prelude.{ℕ, List, [], unwrap_or}
use Rattle.el_words.specs.declared.words.Command.{Command}
use Rattle.el_words.specs.declared.words.Command.TheVariants as command
use Rattle.el_sockets.specs.declared.sockets.Ports.{Ports}

-- the folder of block files that a command asks for; `check-chain` and `prove-check` ask for none
abbrev pub folder_of : Command → List ℕ
folder_of (command.Serve said) = said.blocks
folder_of (command.Once blocks network) = blocks
folder_of (command.CheckChain count) = []
folder_of (command.Audit blocks index network) = blocks
folder_of (command.ProveCheck said) = []

-- the folder of the relay that a command asks for; only `serve` may ask for one
abbrev pub relay_of : Command → List ℕ
relay_of (command.Serve said) = unwrap_or said.relay []
relay_of other = []

-- the folder of the index that a command asks for; only `serve` and `audit` ask for one
abbrev pub folder_of_index : Command → List ℕ
folder_of_index (command.Serve said) = said.index
folder_of_index (command.Once blocks network) = []
folder_of_index (command.CheckChain count) = []
folder_of_index (command.Audit blocks index network) = index
folder_of_index (command.ProveCheck said) = []

-- the ports that a command asks for; only `serve` asks for some
abbrev pub ports_of : Command → Ports
ports_of (command.Serve said) =
    record { clients = said.settings.client_port; node = said.settings.node_port }
ports_of (command.Once blocks network) = record { clients = 0; node = 0 }
ports_of (command.CheckChain count) = record { clients = 0; node = 0 }
ports_of (command.Audit blocks index network) = record { clients = 0; node = 0 }
ports_of (command.ProveCheck said) = record { clients = 0; node = 0 }

-- the command is that of `serve`
abbrev pub IsServeCommand : Command → Type 0
IsServeCommand (command.Serve said) = Unit {0}
IsServeCommand other = ⊥

-- the command is that of `once` or of `prove-check`, which are served over the standard streams, without an
-- index
abbrev pub IsStreamsCommand : Command → Type 0
IsStreamsCommand (command.Once blocks network) = Unit {0}
IsStreamsCommand (command.ProveCheck said) = Unit {0}
IsStreamsCommand other = ⊥

-- the command is that of `audit`
abbrev pub IsAuditCommand : Command → Type 0
IsAuditCommand (command.Audit blocks index network) = Unit {0}
IsAuditCommand other = ⊥

-- the command is that of `check-chain`
abbrev pub IsCheckCommand : Command → Type 0
IsCheckCommand (command.CheckChain count) = Unit {0}
IsCheckCommand other = ⊥
