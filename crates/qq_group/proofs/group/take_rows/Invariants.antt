use Rattle.std.proofs.Common.{◌≡◌, ◌++◌}
use Rattle.std.specs.VecDeque.{deque_len}
use Rattle.qq_raft.specs.Stands.{IsSound}
use Rattle.qq_group.proofs.group.take_rows.Given as goal

-- those so far and the rest are all
abbrev pub invariant-rows : goal.invariant-rows
invariant-rows g l =
    record {
      rows : l.rows.items ++ l.server.rows.items ≡ l.fn.server.rows.items;
      sound : IsSound g.L.LogView.log g.Q.Queue.applied l.server;
      same : l.server ≡ record l.fn.server { rows = l.server.rows };
    }

abbrev pub decreases-rows : goal.decreases-rows
decreases-rows g l = deque_len l.server.rows
