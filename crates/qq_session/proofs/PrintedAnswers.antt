-- What is printed as an answer is a row of the audit.
use Rattle.std.proofs.Common.{◌≡◌, ℕ, zero, suc, Bool, true, false, cond, List, [], ◌∷◌, Option, Some, None, drop, refl, sym, subst, inl, inr}
use Rattle.std.specs.Prelude.{Contains}
use Rattle.std.specs.List.{AllByRecursion}
use Rattle.std.proofs.lemmas.Bool.{false≢true, cond_both, or_cases}
use Rattle.std.proofs.lemmas.List.Elements.{Contains-append_left, Contains-append_right}
use Rattle.qq_base.proofs.Lists.{AllByRecursion-append, AllByRecursion-weaker}
use Rattle.qq_entry.specs.declared.audit.AuditRow.{AuditRow}
use Rattle.qq_entry.specs.declared.command.Command.{Command}
use Rattle.qq_session.proofs.AuditRows.{Contains-middle}
use Rattle.qq_base.specs.Fronts.{IsFront}
use Rattle.qq_session.specs.Printed.{IsAnswer, IsAudited}
use Rattle.qq_session.specs.Clients.{Clients, sender, ended_by, tells_end, hear, is_printed_by, is_printed, printed}
use Rattle.qq_session.specs.declared.shown.Shown.{Shown}
use Rattle.qq_session.specs.declared.shown.Shown.TheVariants.{Answered, Delivered, NoLeader, WindowFull, HasEnded, NotTaken, Attached, IsBusy, Taken, Dropped}
use Rattle.qq_session.specs.Shown.{said_of}

pub each-contained : {A : Type 0} (xs : List A) → AllByRecursion (Contains xs) xs
each-contained [] = tt
each-contained (x ∷ xs) = (
  Contains-middle [] xs x,
  AllByRecursion-weaker (Contains xs) (Contains (x ∷ xs)) (λ y is. Contains-append_right (x ∷ []) xs y is) xs
      (each-contained xs),
)

pub all-drop : {A : Type 0} (P : A → Type 0) (k : ℕ) (xs : List A) → AllByRecursion P xs → AllByRecursion P (drop k xs)
all-drop P zero xs each = each
all-drop P (suc k) [] each = tt
all-drop P (suc k) (x ∷ xs) each = all-drop P k xs each.1

pub front-contains : {A : Type 0} (a b : List A) (x : A) → IsFront a b → Contains a x → Contains b x
front-contains a b x front is =
    subst (λ (l : List _). Contains l x) (sym front.is) (Contains-append_left a front.rest x is)

-- what is printed answers a client
sent : (audit : List AuditRow) (clients : Clients) (row : AuditRow) (o : Option ℕ) → sender row ≡ o
    → Contains audit row → is_printed_by o clients row ≡ true → IsAnswer audit row
sent audit clients row None is is_in printed' = absurd (false≢true printed')
sent audit clients row (Some session) is is_in printed' =
    record { is_in = is_in; session = session; sender_is = inl is }

-- or it answers the end of a client's session
told-end : (audit : List AuditRow) (clients : Clients) (row : AuditRow) (o : Option ℕ)
    → ended_by row.entry.command ≡ o → Contains audit row → tells_end o clients ≡ true → IsAnswer audit row
told-end audit clients row None is is_in printed' = absurd (false≢true printed')
told-end audit clients row (Some session) is is_in printed' =
    record { is_in = is_in; session = session; sender_is = inr is }

answers : (audit : List AuditRow) (clients : Clients) (row : AuditRow) → Contains audit row
    → is_printed clients row ≡ true → IsAnswer audit row
answers audit clients row is_in printed' =
    elim (or_cases (is_printed_by (sender row) clients row) (tells_end (ended_by row.entry.command) clients) printed') [
      | inl first ↦ sent audit clients row (sender row) refl is_in first
      | inr second ↦ told-end audit clients row (ended_by row.entry.command) refl is_in second
    ]

pub printed-are : (audit rows : List AuditRow) (clients : Clients) → AllByRecursion (Contains audit) rows
    → AllByRecursion (IsAnswer audit) (printed rows clients)
printed-are audit [] clients each = tt
printed-are audit (row ∷ rows) clients each =
    AllByRecursion-append (IsAnswer audit) (cond (is_printed clients row) (row ∷ []) [])
    (printed rows (hear row clients))
    (cond_both (is_printed clients row) (row ∷ []) [] (AllByRecursion (IsAnswer audit))
    (λ is. (answers audit clients row each.0 is, tt)) (λ _. tt))
    (printed-are audit rows (hear row clients) each.1)

pub offered-audited : (audit : List AuditRow) (ready : Bool) (session : ℕ) (commands : List Command)
    → AllByRecursion (IsAudited audit) (said_of ready session commands)
offered-audited audit true session commands = tt
offered-audited audit false session [] = tt
offered-audited audit false session (command ∷ commands) = (tt, offered-audited audit false session commands)

pub later-audited : (a b : List AuditRow) → IsFront a b → (shown : Shown) → IsAudited a shown → IsAudited b shown
later-audited a b front (Answered row) is =
    record { is_in = front-contains a b row front is.is_in; session = is.session; sender_is = is.sender_is }
later-audited a b front (Delivered consumer delivery) is = tt
later-audited a b front (NoLeader session) is = tt
later-audited a b front (WindowFull session) is = tt
later-audited a b front (HasEnded session) is = tt
later-audited a b front (NotTaken session id) is = tt
later-audited a b front (Attached session number) is = tt
later-audited a b front (IsBusy session number) is = tt
later-audited a b front (Taken number consumer delivery verdict) is = tt
later-audited a b front (Dropped session number) is = tt
