-- The end of a session: whose answer is printed, and that it stays.
use Rattle.std.proofs.Common.{◌≡◌, ℕ, Bool, true, cond, ◌||◌, List, [], ◌∷◌, Option, Some, None, ap, ◌∙◌}
use Rattle.std.proofs.lemmas.Bool.{cond_both}
use Rattle.qq_base.specs.Ids.{client}
use Rattle.qq_base.proofs.Puts.{put-each}
use Rattle.qq_entry.specs.declared.audit.AuditRow.{AuditRow}
use Rattle.qq_entry.specs.declared.command.Command.{Command}
use Rattle.qq_entry.specs.Command.{stamp}
use Rattle.qq_model.proofs.SessionLemmas.{same_session-refl}
use Rattle.qq_session.specs.Printed.{PrintsEnd}
use Rattle.qq_session.specs.Clients.{Client, Clients, take_answer, sender, sender_by, ended_by, tells_end, is_printed_by, hear, hear_by, hear_all}

pub prints-end : (session : ℕ) (clients : Clients) (row : AuditRow) → PrintsEnd session clients row
prints-end session clients row is =
    ap (λ (c : Command). is_printed_by (sender_by (stamp c)) clients row || tells_end (ended_by c) clients) is
    ∙ ap (λ (b : Bool). tells_end (cond b (Some session) None) clients) (same_session-refl (client session))

module _ (session : ℕ) where
  pub heard-ended : (row : AuditRow) (clients : Clients) → (clients session).ended ≡ true
      → (hear row clients session).ended ≡ true
  heard-ended row clients is = by (sender row)
    where
      by : (o : Option ℕ) → (hear_by o row clients session).ended ≡ true
      by None = is
      by (Some own) =
          put-each (λ (i : ℕ) (c : Client). (clients i).ended ≡ true → c.ended ≡ true) own
          (take_answer row (clients own)) clients
          (λ e. cond_both (clients own).muted (clients own) _ (λ (c : Client). c.ended ≡ true) (λ _. e) (λ _. e))
          (λ i other e. e) session is

  pub all-ended : (rows : List AuditRow) (clients : Clients) → (clients session).ended ≡ true
      → (hear_all rows clients session).ended ≡ true
  all-ended [] clients is = is
  all-ended (row ∷ rows) clients is = all-ended rows (hear row clients) (heard-ended row clients is)
