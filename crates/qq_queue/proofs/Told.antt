-- What comes to the clients of a member's rows, by the parts of the call.
use Rattle.std.proofs.Common.{◌≡◌, List, ◌++◌, refl, ap, ◌∙◌}
use Rattle.qq_consuming.specs.Consuming.{Received}
use Rattle.qq_entry.specs.declared.audit.Effect.{Effect}
use Rattle.qq_raft.specs.declared.row.AppliedRow.{AppliedRow}
use Rattle.qq_session.specs.Clients.{Clients, hear_all, printed}
use Rattle.qq_session.specs.declared.shown.Shown.{Shown}
use Rattle.qq_taker.specs.declared.handed.Handed.{Handed}
use Rattle.qq_taker.specs.declared.seats.Seat.{Seat}
use Rattle.qq_cluster_model.specs.Delivering.{come_all, hand_all}
use Rattle.qq_cluster_model.specs.Taking.{answers, delivered, seated, told_then, waiting_then}
use Rattle.qq_queue.specs.Members.{audit_rows_of, effects_in}
use Rattle.qq_queue.specs.Sessions.{Known, Standings, clients_of, no_numbers, numbers_of}
use Rattle.qq_queue.specs.Telling.{HasTold}
use Rattle.qq_queue.specs.declared.cluster_queue.ClusterQueue.{ClusterQueue}
use Rattle.qq_queue.proofs.Hearing.{came-then, hand-same}
use Rattle.qq_queue.proofs.Showing.{shows-both}

-- the deliveries of rows came, their answers were shown, and what was handed out was released behind what waited
pub has-told : (sessions : Standings) (rows slice : List AppliedRow) (old : ClusterQueue) (publishers : Known)
    (consumers : List Received) (seats : List Seat) (mid untold : List Handed) (before between after : List Shown)
    → slice ≡ rows
    → consumers ≡ come_all (clients_of sessions no_numbers) (effects_in slice) old.consumers
    → mid ≡ old.untold ++ hand_all (clients_of sessions no_numbers) (effects_in slice) old.consumers
    → clients_of sessions (numbers_of publishers)
    ≡ hear_all (audit_rows_of rows) (clients_of sessions (numbers_of old.publishers))
    → seats ≡ seated old.seats (printed (audit_rows_of rows) (clients_of sessions (numbers_of old.publishers)))
    → between ≡ before
    ++ answers old.seats (printed (audit_rows_of rows) (clients_of sessions (numbers_of old.publishers)))
    → ((more : List Handed) → mid ≡ old.untold ++ more → (untold ≡ waiting_then old.untold seats more)
    × (after ≡ between ++ delivered (told_then old.untold seats more)))
    → HasTold sessions rows old
    (record old { publishers = publishers; consumers = consumers; seats = seats; untold = untold }) before after
has-told sessions rows slice old publishers consumers seats mid untold before between after is came handed heard sits
    said behind =
    let effects : List Effect = effects_in slice in
    let same : effects ≡ effects_in rows = ap effects_in is in
    let own : Clients = clients_of sessions (numbers_of old.publishers) in
    let more : List Handed = hand_all (clients_of sessions no_numbers) effects old.consumers in
    let hands : more ≡ hand_all own (effects_in rows) old.consumers =
    hand-same sessions no_numbers (numbers_of old.publishers) effects old.consumers
    ∙ ap (λ (l : List Effect). hand_all own l old.consumers) same in
    let released = behind more handed in
    record {
      heard = heard;
      came = came-then sessions no_numbers (numbers_of old.publishers) effects old.consumers consumers came
          ∙ ap (λ (l : List Effect). come_all own l old.consumers) same;
      seats = sits;
      untold = released.0 ∙ ap (waiting_then old.untold seats) hands;
      said = shows-both (answers old.seats (printed (audit_rows_of rows) own))
          (delivered (told_then old.untold seats (hand_all own (effects_in rows) old.consumers))) before between after
          said
          (released.1 ∙ ap (λ (l : List Handed). between ++ delivered (told_then old.untold seats l)) hands);
      rest = refl;
    }
