use Rattle.qq_cluster_laws.proofs.Supporting.{promised-supports}
use Rattle.qq_cluster_laws.proofs.laws.disks_support_the_audits.Goals as goal

pub returns : goal.returns
returns c = promised-supports c.whatever_is_left_lies_between.ensures.now c.the_disks_support_the_audit.ensures.supported
