use Rattle.std.proofs.Common.{◌≡◌, length, rules}
use Rattle.qq_inbox.proofs.HandOvers.{all_taken, all_joined}
use Rattle.qq_inbox.proofs.relay.hand_over.Goals as goal

pub returns-clause-taken : goal.returns-clause-taken
returns-clause-taken g c =
    let offering = c.join-pass.ensures.first in
    let taking = c.join-pass.ensures.second in
    let same : length c.join-pass.result.1.1.items ≡ length c.args.ops.items = search rules in
    all_taken _ _ _ _ _ c.join.ensures.view offering.1 taking.0.1 c.join.ensures.begins same

pub returns-clause-view : goal.returns-clause-view
returns-clause-view g c =
    let offering = c.join-pass.ensures.first in
    let taking = c.join-pass.ensures.second in
    let same : length c.join-pass.result.1.1.items ≡ length c.args.ops.items = search rules in
    all_joined _ _ _ _ _ c.join.ensures.view offering.1 taking.0.1 c.join.ensures.begins same
