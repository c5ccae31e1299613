use Rattle.std.proofs.Common.{◌≡◌, ℕ, ◌≤◌, List, length, sym, subst}
use Rattle.qq_base.specs.Fronts.{IsFront}
use Rattle.qq_raft_protocol.specs.Facts.{add, In, Elects, Most}
use Rattle.qq_raft_protocol.specs.Safe.{AcksWithin, IsFirst}
use Rattle.qq_raft_protocol.specs.World.{World}
use Rattle.qq_group_laws.proofs.members.a_leader_has_the_entries_of_its_term.Goals as goal

pub returns-clause-acks : goal.returns-clause-acks
returns-clause-acks c = λ members member audit moves w q ack start may is leads said same.
    subst AcksWithin (sym is) (c.a_leader_has_all_of_its_term.ensures.acks members member audit moves start may) q ack
    leads said same

pub returns-clause-first : goal.returns-clause-first
returns-clause-first c = λ members member audit moves w q before entry start may is stands most front same.
    subst (IsFirst members) (sym is)
    (c.a_leader_has_all_of_its_term.ensures.first members member audit moves start may) q stands most before entry front
    same
