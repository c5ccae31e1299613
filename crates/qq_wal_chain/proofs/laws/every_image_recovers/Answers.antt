use Rattle.qq_wal_chain.proofs.Promised.{image-recovers, moments-recover}
use Rattle.qq_wal_chain.proofs.laws.every_image_recovers.Goals as goal

pub returns-clause-now : goal.returns-clause-now
returns-clause-now c = image-recovers

pub returns-clause-moments : goal.returns-clause-moments
returns-clause-moments c = moments-recover
