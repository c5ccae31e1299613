use Rattle.std.proofs.Common.{◌≡◌, ◌++◌, length}
use Rattle.qq_base.specs.Fronts.{IsFront}
use Rattle.qq_cluster_model.specs.Taking.{answers, seated}
use Rattle.qq_session.specs.Clients.{hear_all, printed}
use Rattle.qq_queue.specs.Members.{audit_rows_of}
use Rattle.qq_queue.specs.Sessions.{clients_of, numbers_of, standings}
use Rattle.qq_queue.proofs.telling.show_rows.Given as goal

-- the rows from here on give what all gave at first
abbrev pub invariant-rows : goal.invariant-rows
invariant-rows l = record {
  heard : hear_all (audit_rows_of l.rest.items) (clients_of (standings l.sessions) (numbers_of l.publishers))
      ≡ hear_all (audit_rows_of l.initial.rest.items)
      (clients_of (standings l.sessions) (numbers_of l.fn.publishers));
  seats : seated l.seats
      (printed (audit_rows_of l.rest.items) (clients_of (standings l.sessions) (numbers_of l.publishers)))
      ≡ seated l.fn.seats (printed (audit_rows_of l.initial.rest.items)
      (clients_of (standings l.sessions) (numbers_of l.fn.publishers)));
  said : l.shown.items ++ answers l.seats
      (printed (audit_rows_of l.rest.items) (clients_of (standings l.sessions) (numbers_of l.publishers)))
      ≡ l.fn.shown.items ++ answers l.fn.seats (printed (audit_rows_of l.initial.rest.items)
      (clients_of (standings l.sessions) (numbers_of l.fn.publishers)));
  front : IsFront l.fn.shown.items l.shown.items;
}

abbrev pub decreases-rows : goal.decreases-rows
decreases-rows l = length l.rest.items
