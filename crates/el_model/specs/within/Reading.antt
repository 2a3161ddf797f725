-- Why the bytes of a move's blocks are not read.
use Rattle.std.specs.Prelude.{◌≡◌, ℕ, List, ⊤}
use Rattle.el_chain.specs.declared.node.Node.{Node}
use Rattle.el_chain.specs.declared.moves.MoveFault.{MoveFault}
use Rattle.el_chain.specs.declared.moves.MoveFault.TheVariants as stop
use Rattle.el_chain.specs.declared.read_fault.ReadFault.{ReadFault}
use Rattle.el_chain.specs.declared.read_fault.ReadFault.TheVariants as read
use Rattle.el_chain.specs.Records.{IsOtherBlock}
use Rattle.el_chain.specs.Moves.{HasChanged}

-- a fault of reading a block, as one of a move
abbrev pub unread_as : ReadFault → MoveFault
unread_as read.ArchiveFailed = stop.ArchiveFailed
unread_as (read.Changed wanted found) = stop.Changed wanted found
unread_as read.Memory = stop.Memory

-- why those of one block are not
abbrev pub IsUnreadOne : (Node → List ℕ → Type 0) → Node → MoveFault → Type 0
IsUnreadOne stood n (stop.Changed w f) = (w ≡ n.hash)
    × ((text : List ℕ) × stood n text × IsOtherBlock n text f)
IsUnreadOne stood n stop.ArchiveFailed = ⊤
IsUnreadOne stood n stop.Memory = ⊤
IsUnreadOne stood n stop.DiskFailed = ⊥
IsUnreadOne stood n (stop.BadBlock h f) = ⊥
IsUnreadOne stood n (stop.Refused h f) = ⊥

-- why those of some block are not
abbrev pub IsUnread : (Node → List ℕ → Type 0) → List Node → MoveFault → Type 0
IsUnread stood nodes (stop.Changed w f) = HasChanged stood nodes w f
IsUnread stood nodes stop.ArchiveFailed = ⊤
IsUnread stood nodes stop.Memory = ⊤
IsUnread stood nodes stop.DiskFailed = ⊥
IsUnread stood nodes (stop.BadBlock h f) = ⊥
IsUnread stood nodes (stop.Refused h f) = ⊥
