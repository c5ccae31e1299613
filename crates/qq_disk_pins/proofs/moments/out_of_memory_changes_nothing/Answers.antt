use Rattle.qq_disk_pins.proofs.moments.out_of_memory_changes_nothing.Goals as goal

pub returns-clause-stays : goal.returns-clause-stays
returns-clause-stays c = λ old new memory same. same

pub returns-clause-memory : goal.returns-clause-memory
returns-clause-memory c = λ before now memory want. want

pub returns-clause-failed : goal.returns-clause-failed
returns-clause-failed c = λ before now rose. rose
