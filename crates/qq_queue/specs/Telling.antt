-- What comes of what a member answers, and of what is fetched.
use Rattle.std.specs.Prelude.{◌≡◌, List, ◌++◌}
use Rattle.qq_entry.specs.declared.audit.Effect.{Effect}
use Rattle.qq_raft.specs.declared.row.AppliedRow.{AppliedRow}
use Rattle.qq_session.specs.Clients.{Clients, hear_all, printed}
use Rattle.qq_session.specs.declared.shown.Shown.{Shown}
use Rattle.qq_cluster_model.specs.Delivering.{come_all, hand_all}
use Rattle.qq_cluster_model.specs.Taking.{answers, delivered, seated, told_then, waiting_then}
use Rattle.qq_queue.specs.Members.{audit_rows_of, effects_in}
use Rattle.qq_queue.specs.Sessions.{Standings, clients_of, numbers_of}
use Rattle.qq_queue.specs.declared.cluster_queue.ClusterQueue.{ClusterQueue}

-- the clients of a queue, where the sessions stand so
abbrev pub clients_in : Standings → ClusterQueue → Clients
clients_in sessions d = clients_of sessions (numbers_of d.publishers)

-- Effects have come to the consumers, and what is handed out then was shown, up to the first delivery for a taker.
pub record HasHanded (own : Clients) (effects : List Effect) (old new : ClusterQueue) (before after : List Shown) : Type 0
  where
    pub came : new.consumers ≡ come_all own effects old.consumers
    pub untold : new.untold ≡ waiting_then old.untold old.seats (hand_all own effects old.consumers)
    pub said : after ≡ before
        ++ delivered (told_then old.untold old.seats (hand_all own effects old.consumers))
    pub rest : new ≡ record old { consumers = new.consumers; untold = new.untold }

-- The clients have heard these rows of a member: the answers were shown, each with the takers that are dropped at it, and
-- then what is handed out, up to the first delivery for a taker.
pub record HasTold (sessions : Standings) (rows : List AppliedRow) (old new : ClusterQueue) (before after : List Shown)
    : Type 0 where
  pub heard : clients_in sessions new ≡ hear_all (audit_rows_of rows) (clients_in sessions old)
  pub came : new.consumers ≡ come_all (clients_in sessions old) (effects_in rows) old.consumers
  pub seats : new.seats ≡ seated old.seats (printed (audit_rows_of rows) (clients_in sessions old))
  pub untold : new.untold
      ≡ waiting_then old.untold new.seats (hand_all (clients_in sessions old) (effects_in rows) old.consumers)
  pub said : after ≡ before ++ (answers old.seats (printed (audit_rows_of rows) (clients_in sessions old))
      ++ delivered (told_then old.untold new.seats
      (hand_all (clients_in sessions old) (effects_in rows) old.consumers)))
  pub rest : new ≡ record old {
    publishers = new.publishers;
    consumers = new.consumers;
    seats = new.seats;
    untold = new.untold;
  }
