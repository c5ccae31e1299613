-- Audits of fronts.
use Rattle.std.proofs.Common.{◌≡◌, List, [], ◌∷◌, refl, ap, ◌∙◌}
use Rattle.qq_base.specs.Fronts.{IsFront}
use Rattle.qq_entry.specs.declared.command.Entry.{Entry}
use Rattle.qq_model.specs.State.{State}
use Rattle.qq_model.specs.Audit.{next_step, audit_of, state_after, entries_of, IsSerial}
use Rattle.qq_session.proofs.AuditRows.{rows-append}

-- the entries of an audit are those that were applied
pub entries-of_audit : (s : State) (es : List Entry) → entries_of (audit_of s es) ≡ es
entries-of_audit s [] = refl
entries-of_audit s (e ∷ es) = ap (λ (l : List Entry). e ∷ l) (entries-of_audit (next_step s e).state es)

pub audit-serial : (s : State) (es : List Entry) → IsSerial s (audit_of s es)
audit-serial s [] = tt
audit-serial s (e ∷ es) = (refl, audit-serial (next_step s e).state es)

pub audit-front : (s : State) (a b : List Entry) → IsFront a b → IsFront (audit_of s a) (audit_of s b)
audit-front s a b f = record {
  rest = audit_of (state_after s a) f.rest;
  is = ap (audit_of s) f.is ∙ rows-append s a f.rest;
}
