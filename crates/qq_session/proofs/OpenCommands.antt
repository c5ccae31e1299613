-- A session's open commands are of that session, and were given numbers by it.
use Rattle.std.proofs.Common.{◌≡◌, ℕ, Bool, true, false, cond, not, List, [], ◌∷◌, ◌++◌, Some, length, refl, sym, ap, ◌∙◌, subst, append_assoc}
use Rattle.std.specs.Prelude.{nat_eq, nat_lt, Contains}
use Rattle.std.specs.List.{AllByRecursion}
use Rattle.std.proofs.lemmas.Bool.{cond_both}
use Rattle.std.proofs.lemmas.List.Elements.{Contains-append_left}
use Rattle.qq_base.proofs.Lists.{AllByRecursion-append, AllByRecursion-filter, AllByRecursion-weaker}
use Rattle.qq_base.specs.declared.ids.QueueId.{QueueId}
use Rattle.qq_base.specs.declared.ids.SessionId.{SessionId}
use Rattle.qq_base.specs.Ids.{client}
use Rattle.qq_entry.specs.declared.command.Command.{Command}
use Rattle.qq_entry.specs.declared.command.Stamp.{Stamp}
use Rattle.qq_entry.specs.declared.command.Unstamped.{Unstamped}
use Rattle.qq_entry.specs.Command.{stamp}
use Rattle.qq_model.specs.declared.TheConstants.{WINDOW}
use Rattle.qq_session.specs.Arriving.{Deed, Hands, Takes, after_deed, handed_by, handed}
use Rattle.qq_session.specs.Publishing.{OpenCommand, Numbers, new_numbers, next_stamp, next_command, hand, closes, without}
use Rattle.qq_session.proofs.AuditRows.{Contains-middle}
use Rattle.qq_session.proofs.NumberingLemmas.{stamped-stamp}
use Rattle.qq_session.specs.Deeds.{after_deeds}

-- a command is of this session
pub record IsOfSession (session : SessionId) (command : Command) : Type 0 where
  pub by : Stamp
  pub is : stamp command ≡ Some by
  pub session_is : by.session ≡ session

pub record IsOpenOf (session : SessionId) (commands : List Command) (one : OpenCommand) : Type 0 where
  pub given : Contains commands one.1
  pub own : IsOfSession session one.1

abbrev pub AreOpen : SessionId → List Command → List OpenCommand → Type 0
AreOpen session commands opened = AllByRecursion (IsOpenOf session commands) opened

pub next-own : (body : Unstamped) (n : Numbers) → IsOfSession n.session (next_command body n)
next-own body n = record { by = next_stamp n; is = stamped-stamp (next_stamp n) body; session_is = refl }

pub handed-append : (first second : List Deed) (n : Numbers)
    → handed n (first ++ second) ≡ handed n first ++ handed (after_deeds first n) second
handed-append [] second n = refl
handed-append (deed ∷ first) second n =
    ap (λ (l : List Command). handed_by deed n ++ l) (handed-append first second (after_deed deed n))
    ∙ sym (append_assoc (handed_by deed n) (handed (after_deed deed n) first)
    (handed (after_deeds first (after_deed deed n)) second))

deed-session : (deed : Deed) (n : Numbers) → (after_deed deed n).session ≡ n.session
deed-session (Hands body) n =
    cond_both (nat_lt (length n.opened) WINDOW) (hand body n) n (λ (m : Numbers). m.session ≡ n.session) (λ _. refl)
    (λ _. refl)
deed-session (Takes seq given) n =
    cond_both (closes given) (record n { opened = without seq n.opened }) n
    (λ (m : Numbers). m.session ≡ n.session) (λ _. refl) (λ _. refl)

pub deeds-session : (deeds : List Deed) (n : Numbers) → (after_deeds deeds n).session ≡ n.session
deeds-session [] n = refl
deeds-session (deed ∷ more) n = deeds-session more (after_deed deed n) ∙ deed-session deed n

pub more-open : (session : SessionId) (commands more : List Command) (one : OpenCommand) → IsOpenOf session commands one
    → IsOpenOf session (commands ++ more) one
more-open session commands more one is =
    record { given = Contains-append_left commands more one.1 is.given; own = is.own }

deed-open : (deed : Deed) (n : Numbers) (commands : List Command) → AreOpen n.session commands n.opened
    → AreOpen n.session (commands ++ handed_by deed n) (after_deed deed n).opened
deed-open (Hands body) n commands each = by (nat_lt (length n.opened) WINDOW)
  where
    by : (b : Bool) → AreOpen n.session (commands ++ cond b (next_command body n ∷ []) []) (cond b (hand body n) n).opened
    by true =
        AllByRecursion-append (IsOpenOf n.session (commands ++ next_command body n ∷ [])) n.opened
        ((n.next, next_command body n) ∷ [])
        (AllByRecursion-weaker (IsOpenOf n.session commands) (IsOpenOf n.session (commands ++ next_command body n ∷ []))
        (more-open n.session commands (next_command body n ∷ [])) n.opened each)
        (record { given = Contains-middle commands [] (next_command body n); own = next-own body n }, tt)
    by false =
        AllByRecursion-weaker (IsOpenOf n.session commands) (IsOpenOf n.session (commands ++ []))
        (more-open n.session commands []) n.opened each
deed-open (Takes seq given) n commands each =
    cond_both (closes given) (record n { opened = without seq n.opened }) n
    (λ (m : Numbers). AreOpen n.session (commands ++ []) m.opened)
    (λ _. AllByRecursion-filter (IsOpenOf n.session (commands ++ [])) (λ (one : OpenCommand). not (nat_eq one.0 seq))
    n.opened whole) (λ _. whole)
  where
    whole : AreOpen n.session (commands ++ []) n.opened
    whole =
        AllByRecursion-weaker (IsOpenOf n.session commands) (IsOpenOf n.session (commands ++ []))
        (more-open n.session commands []) n.opened each

pub deeds-open : (deeds : List Deed) (n : Numbers) (commands : List Command) → AreOpen n.session commands n.opened
    → AreOpen n.session (commands ++ handed n deeds) (after_deeds deeds n).opened
deeds-open [] n commands each =
    AllByRecursion-weaker (IsOpenOf n.session commands) (IsOpenOf n.session (commands ++ []))
    (more-open n.session commands []) n.opened each
deeds-open (deed ∷ more) n commands each =
    let m : Numbers = after_deed deed n in
    let first : AreOpen m.session (commands ++ handed_by deed n) m.opened =
    subst (λ (s : SessionId). AreOpen s (commands ++ handed_by deed n) m.opened) (sym (deed-session deed n))
    (deed-open deed n commands each) in
    let all = deeds-open more m (commands ++ handed_by deed n) first in
    subst (λ (s : SessionId). AreOpen s (commands ++ (handed_by deed n ++ handed m more)) (after_deeds more m).opened)
    (deed-session deed n)
    (subst (λ (l : List Command). AreOpen m.session l (after_deeds more m).opened)
    (append_assoc commands (handed_by deed n) (handed m more)) all)

pub all-front : {A : Type 0} (P : A → Type 0) (a rest : List A) → AllByRecursion P (a ++ rest) → AllByRecursion P a
all-front P [] rest each = tt
all-front P (x ∷ a) rest each = (each.0, all-front P a rest each.1)

abbrev pub first_numbers : QueueId → ℕ → Numbers
first_numbers queue session = new_numbers (client session) queue

-- two clients with one id are one
pub client-same : (a b : ℕ) → client a ≡ client b → a ≡ b
client-same a b is = ap (λ (s : SessionId). s.number) is
