use Rattle.std.proofs.Common.{List}
use Rattle.qq_taker.specs.declared.handed.Handed.{Handed}
use Rattle.qq_queue.specs.Sessions.{standings}
use Rattle.qq_queue.proofs.Told.{has-told}
use Rattle.qq_queue.proofs.cluster_queue.ClusterQueue.tell.Goals as goal

pub returns-clause-ok : goal.returns-clause-ok
returns-clause-ok c =
    let d = c.args.self.now in
    has-told (standings c.args.sessions.now) c.args.rows.items c.as_slice-applied.result.now d
    c.show_rows.new.publishers c.deliver_rows.new.consumers c.show_rows.new.seats c.deliver_rows.new.untold
    c.release_behind.new.untold c.args.shown.now.items c.show_rows.new.shown.items c.release_behind.new.shown.items
    c.as_slice-applied.ensures.value c.in_ok-deliver_rows.ensures.came c.in_ok-deliver_rows.ensures.handed
    c.in_ok-show_rows.ensures.heard c.in_ok-show_rows.ensures.seats c.in_ok-show_rows.ensures.said
    (λ (more : List Handed) whole.
    c.in_ok-release_behind.ensures.ok d.untold more c.count-waited.ensures whole)
