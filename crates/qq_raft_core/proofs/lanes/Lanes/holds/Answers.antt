use Rattle.qq_raft_core.proofs.Undoing.{within-from}
use Rattle.qq_raft_core.proofs.lanes.Lanes.holds.Goals as goal

pub same_before-requires-clause-within : goal.same_before-requires-clause-within
same_before-requires-clause-within g c =
    within-from _ _ _ _ _ _ c.undos_from-undos.ensures c.deref.ensures.value c.requires.leads
