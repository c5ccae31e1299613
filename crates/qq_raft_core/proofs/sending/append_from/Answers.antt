use Rattle.std.proofs.Common.{arith}
use Rattle.qq_raft_core.proofs.Sendable.{sent}
use Rattle.qq_raft_core.proofs.sending.append_from.Goals as goal

pub returns-clause-ends : goal.returns-clause-ends
returns-clause-ends g c =
    let before = c.saturating_sub-before.ensures in
    let batch = c.in_ok-batch_from.ensures in
    let end = batch.end in
    let next = c.requires.peer.2 in
    sent _ c.requires.sender.term_within (omega (arith, before, next)) (c.term_at.ensures.end c.requires.entries)
    c.requires.sender.commit_within (omega (arith, before, end)) batch.each batch.short
