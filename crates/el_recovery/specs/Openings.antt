-- What an opening gives back.
use Rattle.std.specs.Prelude.{Result, Ok, Err}
use Rattle.el_outside.specs.declared.disk.Disk as disk
use Rattle.el_redo.specs.declared.network.NetworkMagic as network
use Rattle.el_redo.specs.declared.faults.OpenFault.{OpenFault}
use Rattle.el_pages.specs.declared.store.Pages.{Pages}
use Rattle.el_pages.specs.Stores.{disk_below}

-- the disk, also where it is refused
abbrev pub disk_in : {D N : Type 0} {G : disk.Ghosts D} {H : network.Ghosts N}
    → Result (Pages D N G H) (OpenFault × D) → D
disk_in (Ok store) = disk_below store
disk_in (Err refused) = refused.1

-- the store or the fault that an opening gives, without the disk
abbrev pub opening_result : {D N : Type 0} {G : disk.Ghosts D} {H : network.Ghosts N}
    → Result (Pages D N G H) (OpenFault × D) → Result (Pages D N G H) OpenFault
opening_result (Ok store) = Ok store
opening_result (Err refused) = Err refused.0
