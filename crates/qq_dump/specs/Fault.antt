-- Why a log isn't dumped whole.
use Rattle.qq_disk.specs.declared.fault.DiskFault.{DiskFault}
use Rattle.qq_disk.specs.declared.fault.DiskFault.TheVariants.{Failed, Memory}
use Rattle.qq_dump.specs.declared.fault.DumpFault.{DumpFault}
use Rattle.qq_dump.specs.declared.fault.DumpFault.TheVariants.{Disk, Sink, NoMemory}

abbrev pub fault_of : DiskFault → DumpFault
fault_of Failed = Disk
fault_of (Memory m) = NoMemory

-- the disk's count of faults rose so, or the sink's, or there was no memory
abbrev pub IsCaused : Type 0 → Type 0 → DumpFault → Type 0
IsCaused disk sink Disk = disk
IsCaused disk sink Sink = sink
IsCaused disk sink NoMemory = Unit {0}
