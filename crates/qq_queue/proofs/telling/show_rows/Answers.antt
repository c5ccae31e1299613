use Rattle.std.proofs.Common.{◌≡◌, ◌∷◌, ◌++◌, [], List, sym, ap, append_assoc, ◌∙◌}
use Rattle.qq_base.proofs.Fronts.{front-trans}
use Rattle.qq_cluster_model.specs.Taking.{answers, seated}
use Rattle.qq_entry.specs.declared.audit.AuditRow.{AuditRow}
use Rattle.qq_raft.specs.declared.row.AppliedRow.{AppliedRow}
use Rattle.qq_session.specs.Clients.{Clients, hear_all, printed}
use Rattle.qq_session.specs.declared.shown.Shown.{Shown}
use Rattle.qq_taker.specs.declared.seats.Seat.{Seat}
use Rattle.qq_queue.specs.Members.{audit_rows_of}
use Rattle.qq_queue.specs.Sessions.{clients_of, numbers_of, standings}
use Rattle.qq_queue.proofs.Hearing.{answers-append, printed-then, seated-append}
use Rattle.qq_queue.proofs.Showing.{shown-front}
use Rattle.qq_queue.proofs.telling.show_rows.Goals as goal

pub rows-preserved : goal.rows-preserved
rows-preserved c =
    let row : AppliedRow = c.in-Some.applied in
    let rest : List AppliedRow = c.pop_front.new.self.items in
    let all : List AppliedRow = c.rows.rest.items in
    let old : Clients = clients_of (standings c.args.sessions.now) (numbers_of c.rows.publishers) in
    let new : Clients = clients_of (standings c.args.sessions.now) (numbers_of c.show_row.new.publishers) in
    let seats : List Seat = c.rows.seats in
    let own : List AuditRow = printed (row.row ∷ []) old in
    let more : List AuditRow = printed (audit_rows_of rest) new in
    let here : row ∷ rest ≡ all = sym c.in-Some.ensures.items in
    let both : own ++ more ≡ printed (row.row ∷ audit_rows_of rest) old =
    sym (printed-then row.row (audit_rows_of rest) old new c.in_ok-show_row.ensures.heard) in
    let first : List Shown = answers seats own in
    record {
      heard = ap (hear_all (audit_rows_of rest)) c.in_ok-show_row.ensures.heard
          ∙ ap (λ (l : List AppliedRow). hear_all (audit_rows_of l) old) here
          ∙ c.rows.invariant.heard;
      seats = ap (λ (l : List Seat). seated l more) c.in_ok-show_row.ensures.seats
          ∙ sym (seated-append own more seats) ∙ ap (seated seats) both
          ∙ ap (λ (l : List AppliedRow). seated seats (printed (audit_rows_of l) old)) here
          ∙ c.rows.invariant.seats;
      said = ap (λ (l : List Shown). l ++ answers c.show_row.new.seats more) c.in_ok-show_row.ensures.said
          ∙ append_assoc c.rows.shown.items first (answers c.show_row.new.seats more)
          ∙ ap (λ (l : List Seat). c.rows.shown.items ++ (first ++ answers l more)) c.in_ok-show_row.ensures.seats
          ∙ ap (λ (l : List Shown). c.rows.shown.items ++ l) (sym (answers-append own more seats))
          ∙ ap (λ (l : List AuditRow). c.rows.shown.items ++ answers seats l) both
          ∙ ap (λ (l : List AppliedRow). c.rows.shown.items
          ++ answers seats (printed (audit_rows_of l) old)) here
          ∙ c.rows.invariant.said;
      front = front-trans c.rows.invariant.front
          (shown-front first c.rows.shown.items c.show_row.new.shown.items c.in_ok-show_row.ensures.said);
    }
