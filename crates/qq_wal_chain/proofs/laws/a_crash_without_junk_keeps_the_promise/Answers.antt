use Rattle.qq_disk.specs.Image.{image_of}
use Rattle.qq_disk.proofs.Named.{named}
use Rattle.qq_wal_chain.proofs.Gives.{no_junk-honest}
use Rattle.qq_wal_chain.proofs.Promised.{crash-keeps}
use Rattle.qq_wal_chain.proofs.laws.a_crash_without_junk_keeps_the_promise.Goals as goal

pub returns-clause-image : goal.returns-clause-image
returns-clause-image c = λ queues. no_junk-honest queues (c.the_log_has_a_format.ensures queues)

pub returns-clause-promise : goal.returns-clause-promise
returns-clause-promise c = λ queues bound noticed given d image newest none keeps.
    crash-keeps queues bound noticed given d (image_of image newest d) keeps (named image newest d)
    (no_junk-honest queues (c.the_log_has_a_format.ensures queues) image newest d none)
