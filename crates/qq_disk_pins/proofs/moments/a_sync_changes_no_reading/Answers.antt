use Rattle.std.proofs.Common.{inl, inr, refl}
use Rattle.qq_disk_pins.proofs.Held.{sync_reads, sync_images}
use Rattle.qq_disk_pins.proofs.moments.a_sync_changes_no_reading.Goals as goal

pub returns-clause-before : goal.returns-clause-before
returns-clause-before c = λ d file. inl refl

pub returns-clause-after : goal.returns-clause-after
returns-clause-after c = λ d file. inr refl

pub returns-clause-reads : goal.returns-clause-reads
returns-clause-reads c = sync_reads

pub returns-clause-images : goal.returns-clause-images
returns-clause-images c = sync_images
