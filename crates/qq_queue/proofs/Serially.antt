-- Rows that a step of a queue's members shows are of the serial audit.
use Rattle.std.proofs.Common.{◌≡◌, ℕ, ◌+◌, List, [], ◌∷◌, map, refl, sym, ap, subst, ◌∙◌, inl, inr}
use Rattle.std.specs.List.{AllByRecursion}
use Rattle.qq_base.proofs.Lists.{AllByRecursion-weaker}
use Rattle.qq_entry.specs.declared.audit.AuditRow.{AuditRow}
use Rattle.qq_entry.specs.declared.command.Entry.{Entry}
use Rattle.qq_entry.specs.declared.queue.QueueArgs.{QueueArgs}
use Rattle.qq_model.specs.Audit.{audit_of, next_index, next_step, row_of}
use Rattle.qq_model.specs.State.{State, empty_queue}
use Rattle.qq_raft_protocol.specs.Facts.{In}
use Rattle.qq_raft.specs.declared.row.AppliedRow.{AppliedRow}
use Rattle.qq_group_laws.specs.Audited.{AreOfAudit, rows_after}
use Rattle.qq_queue.specs.Members.{queue_step}
use Rattle.qq_queue.proofs.SerialSteps.{step_applied}

queue-rows : (s : State) (es : List Entry)
    → map (λ (r : AppliedRow). r.row) (rows_after queue_step s s.applied es) ≡ audit_of s es
queue-rows s [] = refl
queue-rows s (e ∷ es) =
    let next = (next_step s e).state in
    let count : next.applied ≡ s.applied + 1 = step_applied s (next_index s) e in
    ap (λ (rows : List AuditRow). row_of (next_index s) e (next_step s e) ∷ rows)
    (ap (λ (n : ℕ). map (λ (r : AppliedRow). r.row) (rows_after queue_step next n es)) (sym count)
    ∙ queue-rows next es)

in-map : {A B : Type 0} (f : A → B) (x : A) (xs : List A) → In x xs → In (f x) (map f xs)
in-map f x [] here = here
in-map f x (y ∷ xs) (inl is) = inl (ap f is)
in-map f x (y ∷ xs) (inr here) = inr (in-map f x xs here)

in-serial : (args : QueueArgs) (audit : List Entry) (row : AppliedRow)
    → In row (rows_after queue_step (empty_queue args) 0 audit) → In row.row (audit_of (empty_queue args) audit)
in-serial args audit row here =
    subst (λ (rows : List AuditRow). In row.row rows) (queue-rows (empty_queue args) audit)
    (in-map (λ (r : AppliedRow). r.row) row (rows_after queue_step (empty_queue args) 0 audit) here)

pub serial : (args : QueueArgs) (audit : List Entry) (rows : List AppliedRow)
    → AreOfAudit queue_step (empty_queue args) audit rows
    → AllByRecursion (λ (row : AppliedRow). In row.row (audit_of (empty_queue args) audit)) rows
serial args audit rows all =
    AllByRecursion-weaker (λ (row : AppliedRow). In row (rows_after queue_step (empty_queue args) 0 audit))
    (λ (row : AppliedRow). In row.row (audit_of (empty_queue args) audit)) (in-serial args audit) rows all
