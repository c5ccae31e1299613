use Rattle.std.proofs.Common.{◌≡◌}
use Rattle.qq_cluster.proofs.Built.{of-ok, queue-made}
use Rattle.qq_cluster.proofs.new.new_queue.Goals as goal

pub returns-clause-ok : goal.returns-clause-ok
returns-clause-ok c =
    let row = c.args.row.now in
    queue-made row c.in_ok-args.args c.in_ok-args.name c.as_slice.result.now c.in_ok-queue.queue
    (of-ok (λ x. x ≡ row.args) c.copy.result c.in_ok-args.args c.in_ok-args.ensures.first c.copy.ensures.ok)
    (of-ok (λ x. x ≡ row.name) c.copy-2.result c.in_ok-args.name c.in_ok-args.ensures.second c.copy-2.ensures.ok)
    c.as_slice.ensures (c.events_reach_groups.ensures.first row.args.queue row.members c.requires.distinct)
    c.in_ok-queue.ensures.sound c.in_ok-queue.ensures.ok c.in_ok-queue.ensures.name
    c.in_ok-queue.ensures.nodes c.in_ok-queue.ensures.down c.in_ok-queue.ensures.begins
