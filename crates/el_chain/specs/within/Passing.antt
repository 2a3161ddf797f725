-- How a fault is passed on.
use Rattle.el_chain.specs.declared.read_fault.ScanFault.{ScanFault}
use Rattle.el_chain.specs.declared.read_fault.ScanFault.TheVariants as scan
use Rattle.el_chain.specs.declared.read_fault.ReadFault.{ReadFault}
use Rattle.el_chain.specs.declared.read_fault.ReadFault.TheVariants as read

-- a fault of a scan as one of a read
abbrev pub as_read : ScanFault → ReadFault
as_read scan.ArchiveFailed = read.ArchiveFailed
as_read scan.Memory = read.Memory
