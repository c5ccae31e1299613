use Rattle.qq_wal.proofs.Removing.{removed-sound}
use Rattle.qq_wal.proofs.laws.a_file_that_is_not_read_may_go.Goals as goal

pub returns : goal.returns
returns g c = λ w d m is tells removes.
    removed-sound g.D.NodeDisk.facts w d m (c.the_log_has_a_format.ensures w.queues.items) is tells
    (λ told going. removes told)
