-- What a command's call says of the program's words.
use Rattle.std.proofs.Common.{◌≡◌, ◌⊎◌, inl, inr, ◌-◌, ◌^◌, List, Result, Ok, Err, IfOk, MatchResult, ap, sym, subst, ◌∙◌}
use Rattle.el_outside.specs.declared.archive.Archive as archive
use Rattle.el_outside.specs.declared.disk.Disk as disk
use Rattle.el_outside.specs.declared.link.Link as link
use Rattle.el_outside.specs.declared.relay.Relay as relay
use Rattle.el_open_files.specs.OpenFiles.{FilesOf}
use Rattle.el_relay_folder.specs.Outboxes.{RelayOf}
use Rattle.el_net.specs.Devices.{BlocksOf, LinkOverPorts}
use Rattle.el_words.specs.Options.{Word}
use Rattle.el_words.specs.Commands.{IsCommand}
use Rattle.el_words.specs.declared.words.Command.{Command}
use Rattle.el_words.specs.declared.words.Command.TheVariants as command
use Rattle.el_program.specs.Calls.{Call}
use Rattle.el_program.specs.AnyCall.{IsCall}
use Rattle.el_program.specs.Lives.{IsFresh}
use Rattle.el_program.specs.Program.{IsServing, IsChecking, serve, once, audit, proof}
use Rattle.el_program.specs.declared.status.Status.{Status}
use Rattle.el_program.specs.declared.status.Status.TheVariants as status
use Rattle.el_program.specs.within.Devices.{folder_of, relay_of, folder_of_index, ports_of, IsServeCommand, IsStreamsCommand, IsAuditCommand, IsCheckCommand}

-- a call over these files and ports is one over those that the command asks for
pub asked_for : {E : Type 0} (P : Call (FilesOf Word) (BlocksOf Word) (RelayOf Word) LinkOverPorts → Type 0)
    (words : List Word) (asked : Command) (result : Result Status E) (index : FilesOf Word)
    (ports left : LinkOverPorts)
    → IfOk result (λ s. (c : Call (FilesOf Word) (BlocksOf Word) (RelayOf Word) LinkOverPorts)
    × P c × (c.words ≡ words) × (c.turns ≡ 2 ^ 64 - 1)
    × (c.before.disk ≡ index) × (c.before.files.folder ≡ folder_of asked)
    × (c.before.link ≡ ports) × (c.after.link ≡ left)
    × (c.before.relay.outbox ≡ relay_of asked) × (c.status ≡ s))
    → index.files ≡ folder_of_index asked → ports.asked ≡ ports_of asked
    → IfOk result (λ s. (c : Call (FilesOf Word) (BlocksOf Word) (RelayOf Word) LinkOverPorts)
    × P c × (c.words ≡ words) × (c.turns ≡ 2 ^ 64 - 1)
    × (c.before.disk.files ≡ folder_of_index asked) × (c.before.files.folder ≡ folder_of asked)
    × (c.before.link.asked ≡ ports_of asked) × (c.before.relay.outbox ≡ relay_of asked) × (c.status ≡ s))
asked_for P words asked (Err e) index ports left is at_index at_ports = tt
asked_for P words asked (Ok s) index ports left is at_index at_ports = (
  is.0,
  is.1,
  is.2,
  is.3,
  ap (λ (d : FilesOf Word). d.files) is.4 ∙ at_index,
  is.5,
  ap (λ (l : LinkOverPorts). l.asked) is.6 ∙ at_ports,
  is.8,
  is.9,
)

-- the words of a command are served
pub command_served : {N F B R S E : Type 0} (of_index : disk.Ghosts (FilesOf Word)) (of_none : disk.Ghosts N)
    (of_fresh : disk.Ghosts F) (of_files : archive.Ghosts (BlocksOf Word)) (of_no_files : archive.Ghosts B)
    (of_folder : relay.Ghosts (RelayOf Word)) (of_no_relay : relay.Ghosts R)
    (of_ports : link.Ghosts LinkOverPorts)
    (of_streams : link.Ghosts S) (words : List Word) (asked : Command) (result : Result Status E)
    → IsCommand words asked
    → (IsServeCommand asked → IfOk result (λ s. (c : Call (FilesOf Word) (BlocksOf Word) (RelayOf Word) LinkOverPorts)
    × IsCall of_index of_files of_folder of_ports c × (c.words ≡ words) × (c.turns ≡ 2 ^ 64 - 1)
    × (c.before.disk.files ≡ folder_of_index asked) × (c.before.files.folder ≡ folder_of asked)
    × (c.before.link.asked ≡ ports_of asked) × (c.before.relay.outbox ≡ relay_of asked) × (c.status ≡ s)))
    → (IsStreamsCommand asked → IfOk result (λ s. (c : Call N (BlocksOf Word) (RelayOf Word) S)
    × IsCall of_none of_files of_folder of_streams c × (c.words ≡ words) × (c.turns ≡ 2 ^ 64 - 1)
    × (c.before.files.folder ≡ folder_of asked) × (c.status ≡ s)))
    → (IsAuditCommand asked → IfOk result (λ s. (c : Call (FilesOf Word) (BlocksOf Word) (RelayOf Word) S)
    × IsCall of_index of_files of_folder of_streams c × (c.words ≡ words) × (c.turns ≡ 2 ^ 64 - 1)
    × (c.before.disk.files ≡ folder_of_index asked) × (c.before.files.folder ≡ folder_of asked) × (c.status ≡ s)))
    → (IsCheckCommand asked → IfOk result (λ s. (c : Call F B R S)
    × IsCall of_fresh of_no_files of_no_relay of_streams c × (c.words ≡ words) × (c.turns ≡ 2 ^ 64 - 1)
    × IsFresh of_fresh c.before.disk × (c.status ≡ s)))
    → IfOk result (λ s. IsServing of_index of_none of_files of_folder of_ports of_streams words s
    ⊎ IsChecking of_fresh of_no_files of_no_relay of_streams words s)
command_served of_index of_none of_fresh of_files of_no_files of_folder of_no_relay of_ports of_streams words asked (Err e) is by_serve
    by_once by_audit by_check = tt
command_served of_index of_none of_fresh of_files of_no_files of_folder of_no_relay of_ports of_streams words (command.Serve said)
    (Ok s) is by_serve by_once by_audit by_check =
    let c = by_serve tt in
    inl (serve said is (record { call = c.0; is = c.1; words_are = c.2; turns_are = c.3; ends = c.8 }) c.4 c.5 c.7 c.6)
command_served of_index of_none of_fresh of_files of_no_files of_folder of_no_relay of_ports of_streams words
    (command.Once blocks network) (Ok s) is by_serve by_once by_audit by_check =
    let c = by_once tt in
    inl (once blocks network is (record { call = c.0; is = c.1; words_are = c.2; turns_are = c.3; ends = c.5 }) c.4)
command_served of_index of_none of_fresh of_files of_no_files of_folder of_no_relay of_ports of_streams words
    (command.Audit blocks index network) (Ok s) is by_serve by_once by_audit by_check =
    let c = by_audit tt in
    inl (audit blocks index network is (record { call = c.0; is = c.1; words_are = c.2; turns_are = c.3; ends = c.6 }) c.4 c.5)
command_served of_index of_none of_fresh of_files of_no_files of_folder of_no_relay of_ports of_streams words
    (command.ProveCheck said) (Ok s) is by_serve by_once by_audit by_check =
    let c = by_once tt in
    inl (proof said is (record { call = c.0; is = c.1; words_are = c.2; turns_are = c.3; ends = c.5 }))
command_served of_index of_none of_fresh of_files of_no_files of_folder of_no_relay of_ports of_streams words
    (command.CheckChain count) (Ok s) is by_serve by_once by_audit by_check =
    let c = by_check tt in
    inr (record {
      count = count;
      is = is;
      called = record { call = c.0; is = c.1; words_are = c.2; turns_are = c.3; ends = c.5 };
      fresh = c.4;
    })

-- what holds of these words holds of some
pub of_some_words : {E : Type 0} (P : List Word → Status → Type 0) (words : List Word) (r : Result Status E)
    → IfOk r (λ ended. P words ended) → IfOk r (λ ended. (ws : List Word) × P ws ended)
of_some_words P words (Ok x) is = (words, is)
of_some_words P words (Err x) is = tt

-- words were served, or memory ran out
pub all_served : {E : Type 0} (P : List Word → Status → Type 0) (r : Result Status E) (s : Status)
    → IfOk r (λ ended. (ws : List Word) × P ws ended)
    → MatchResult r (λ ended. s ≡ ended) (λ _. s ≡ status.OutOfMemory)
    → (s ≡ status.OutOfMemory) ⊎ ((ws : List Word) × P ws s)
all_served P (Ok x) s is e = inr (is.0, subst (P is.0) (sym e) is.1)
all_served P (Err x) s is e = inl e

-- a call over these files is one over those that the command asks for
pub asked_files : {E K : Type 0} (P : Call (FilesOf Word) (BlocksOf Word) (RelayOf Word) K → Type 0)
    (words : List Word) (asked : Command) (result : Result Status E) (index : FilesOf Word) (link left : K)
    → IfOk result (λ s. (c : Call (FilesOf Word) (BlocksOf Word) (RelayOf Word) K)
    × P c × (c.words ≡ words) × (c.turns ≡ 2 ^ 64 - 1)
    × (c.before.disk ≡ index) × (c.before.files.folder ≡ folder_of asked)
    × (c.before.link ≡ link) × (c.after.link ≡ left)
    × (c.before.relay.outbox ≡ relay_of asked) × (c.status ≡ s))
    → index.files ≡ folder_of_index asked
    → IfOk result (λ s. (c : Call (FilesOf Word) (BlocksOf Word) (RelayOf Word) K)
    × P c × (c.words ≡ words) × (c.turns ≡ 2 ^ 64 - 1)
    × (c.before.disk.files ≡ folder_of_index asked) × (c.before.files.folder ≡ folder_of asked) × (c.status ≡ s))
asked_files P words asked (Err e) index link left is at_index = tt
asked_files P words asked (Ok s) index link left is at_index =
    (is.0, is.1, is.2, is.3, ap (λ (d : FilesOf Word). d.files) is.4 ∙ at_index, is.5, is.9)
