-- A row of a command is found after an index.
use Rattle.std.proofs.Common.{◌≡◌, ℕ, true, List, [], ◌∷◌, Option, Some, refl, sym, ap, ◌∙◌, inl, inr}
use Rattle.std.specs.Prelude.{is_some}
use Rattle.std.proofs.lemmas.Bool.{cond-true, cond_both}
use Rattle.qq_entry.specs.Answers.{answer_after, is_answer}
use Rattle.qq_entry.specs.declared.audit.AuditRow.{AuditRow}
use Rattle.qq_entry.specs.declared.command.Command.{Command}
use Rattle.qq_raft_protocol.specs.Facts.{In}

pub answered : (command : Command) (after : ℕ) (row : AuditRow) (rows : List AuditRow) → In row rows
    → is_answer command after row ≡ true → is_some (answer_after command after rows) ≡ true
answered command after row [] here is = absurd here
answered command after row (r ∷ rows) (inl same) is =
    ap (λ (o : Option AuditRow). is_some o)
    (cond-true (is_answer command after r) (Some r) (answer_after command after rows)
    (ap (is_answer command after) (sym same) ∙ is))
answered command after row (r ∷ rows) (inr here) is =
    cond_both (is_answer command after r) (Some r) (answer_after command after rows)
    (λ (o : Option AuditRow). is_some o ≡ true) (λ _. refl) (λ _. answered command after row rows here is)
