use Rattle.qq_cluster_laws.proofs.Answered.{keeps-answers}
use Rattle.qq_cluster_laws.proofs.Supporting.{promised-supports}
use Rattle.qq_cluster_laws.proofs.serving.what_was_answered_is_kept.Goals as goal

pub returns : goal.returns
returns c = λ setup events disks groups promised.
    keeps-answers c.what_a_group_committed_stays.ensures.whole setup groups events disks
    (promised-supports c.whatever_is_left_lies_between.ensures.now c.the_disks_support_the_audit.ensures.supported setup
    groups events disks promised) (c.a_cluster_prints_what_is_true.ensures setup events groups)
