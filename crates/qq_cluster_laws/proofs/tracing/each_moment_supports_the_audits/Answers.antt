use Rattle.qq_cluster_laws.specs.Linked.{IsLinked, IsPromised}
use Rattle.qq_cluster_laws.proofs.Always.{always}
use Rattle.qq_cluster_laws.proofs.Moments.{event-supports}
use Rattle.qq_cluster_laws.proofs.tracing.each_moment_supports_the_audits.Goals as goal

pub returns-clause-event : goal.returns-clause-event
returns-clause-event c =
    event-supports c.whatever_is_left_lies_between.ensures.now c.the_disks_support_the_audit.ensures.supported
    c.what_a_group_committed_stays.ensures.audit c.what_a_group_committed_stays.ensures.whole

pub returns-clause-always : goal.returns-clause-always
returns-clause-always c = λ setup groups.
    always c.whatever_is_left_lies_between.ensures.now c.the_disks_support_the_audit.ensures.supported
    c.what_a_group_committed_stays.ensures.audit c.what_a_group_committed_stays.ensures.whole setup groups IsLinked

pub returns-clause-broken : goal.returns-clause-broken
returns-clause-broken c = λ setup groups.
    always c.whatever_is_left_lies_between.ensures.now c.the_disks_support_the_audit.ensures.supported
    c.what_a_group_committed_stays.ensures.audit c.what_a_group_committed_stays.ensures.whole setup groups IsPromised
