use Rattle.std.proofs.Common.{inl, inr, refl}
use Rattle.qq_disk_pins.proofs.Held.{remove_reads, remove_others}
use Rattle.qq_disk_pins.proofs.moments.a_removal_takes_one_file.Goals as goal

pub returns-clause-before : goal.returns-clause-before
returns-clause-before c = λ d file. inl refl

pub returns-clause-after : goal.returns-clause-after
returns-clause-after c = λ d file. inr refl

pub returns-clause-reads : goal.returns-clause-reads
returns-clause-reads c = remove_reads

pub returns-clause-others : goal.returns-clause-others
returns-clause-others c = remove_others
