-- How the program ends where it can't read what it begins with.
use Rattle.el_program.specs.declared.file.FileFault.{FileFault}
use Rattle.el_program.specs.declared.file.FileFault.TheVariants as fault
use Rattle.el_program.specs.declared.opening.StartFault.{StartFault}
use Rattle.el_program.specs.declared.opening.StartFault.TheVariants as start
use Rattle.el_program.specs.declared.status.Status.{Status}
use Rattle.el_program.specs.declared.status.Status.TheVariants as status
use Rattle.el_audit_run.specs.declared.fault.AuditFault.{AuditFault}
use Rattle.el_audit_run.specs.declared.fault.AuditFault.TheVariants as audit
use Rattle.el_chain.specs.declared.read_fault.ReadFault.{ReadFault}
use Rattle.el_chain.specs.declared.read_fault.ReadFault.TheVariants as reading
use Rattle.el_redo.specs.declared.faults.OpenFault.{OpenFault}
use Rattle.el_redo.specs.declared.faults.OpenFault.TheVariants as opening
use Rattle.el_model.specs.declared.fault.QueryFault.{QueryFault}
use Rattle.el_model.specs.declared.fault.QueryFault.TheVariants as query

-- the fault of reading a record of file 0 as one of the file
abbrev pub read_fault : ReadFault → FileFault
read_fault reading.ArchiveFailed = fault.Failed
read_fault (reading.Changed wanted found) = fault.Bad
read_fault reading.Memory = fault.Memory

-- how the program ends where file 0 can't be read, or holds no chain
abbrev pub unread_status : FileFault → Status
unread_status fault.Failed = status.ArchiveFailed
unread_status fault.Memory = status.OutOfMemory
unread_status fault.Bad = status.BadChain

-- how the program ends where the index on a disk can't be opened
abbrev pub open_status : OpenFault → Status
open_status opening.DiskFailed = status.DiskFailed
open_status (opening.BadIndex file wanted found) = status.BadIndex
open_status opening.Memory = status.OutOfMemory

-- the fault of a start where the index can't tell its headers
abbrev pub index_fault : QueryFault → StartFault
index_fault query.DiskFailed = start.DiskFailed
index_fault query.Memory = start.Memory

-- how the program ends where a check can't ask its ledger
abbrev pub check_status : QueryFault → Status
check_status query.DiskFailed = status.DiskFailed
check_status query.Memory = status.OutOfMemory

-- how the program ends where an audit can't go on
abbrev pub audit_status : AuditFault → Status
audit_status audit.DiskFailed = status.DiskFailed
audit_status audit.ArchiveFailed = status.ArchiveFailed
audit_status audit.Memory = status.OutOfMemory

-- of all block files; a scan tells of no bad file
abbrev pub start_fault : FileFault → StartFault
start_fault fault.Failed = start.ArchiveFailed
start_fault fault.Memory = start.Memory
start_fault fault.Bad = start.Memory

-- of an index that is open
abbrev pub start_status : StartFault → Status
start_status start.DiskFailed = status.DiskFailed
start_status start.ArchiveFailed = status.ArchiveFailed
start_status start.OtherChain = status.OtherChain
start_status start.Memory = status.OutOfMemory
