-- What is printed as confirmed was carried out once.
use Rattle.std.proofs.Common.{◌≡◌, ◌+◌, ◌⊎◌, ℕ, zero, suc, Bool, true, false, cond, List, [], ◌∷◌, ◌++◌, Option, Some, None, length, refl, sym, ap, ◌∙◌, subst, inl, inr, append_assoc, length-append, arith}
use Rattle.std.specs.Prelude.{filter_map, slice_get, Contains}
use Rattle.std.specs.List.{cons_option}
use Rattle.std.proofs.lemmas.Bool.{false≢true, cond-true, cond_both}
use Rattle.std.proofs.lemmas.Option.{slice_get_read}
use Rattle.qq_base.specs.declared.ids.SessionId.{SessionId}
use Rattle.qq_base.specs.Ids.{client, same_session}
use Rattle.qq_entry.specs.declared.answer.Answer.TheVariants.{Confirmed}
use Rattle.qq_entry.specs.declared.audit.AuditRow.{AuditRow}
use Rattle.qq_entry.specs.declared.command.Command.{Command}
use Rattle.qq_entry.specs.declared.command.Command.TheVariants as commands
use Rattle.qq_entry.specs.declared.command.Command.TheVariants.{Enqueue}
use Rattle.qq_entry.specs.declared.command.Entry.{Entry}
use Rattle.qq_entry.specs.declared.command.Stamp.{Stamp}
use Rattle.qq_entry.specs.declared.queue.QueueArgs.{QueueArgs}
use Rattle.qq_entry.specs.Command.{stamp}
use Rattle.qq_laws.specs.Always.{queue_audit}
use Rattle.qq_laws.specs.Numbers.{CountsCommands, fresh_number, number_of}
use Rattle.qq_laws.specs.Published.{is_confirmed}
use Rattle.qq_model.specs.Audit.{state_after}
use Rattle.qq_model.specs.Gate.{IsNumbered}
use Rattle.qq_model.specs.State.{State, empty_queue}
use Rattle.qq_model.proofs.SessionLemmas.{same_session-true, same_session-refl}
use Rattle.qq_entry.specs.Answer.{comes_from_gate}
use Rattle.qq_session.specs.Answered.{IsAnswered, WasAnswered}
use Rattle.qq_session.proofs.AnsweredLemmas.{FreshRow, fresh_row}
use Rattle.qq_session.proofs.AuditRows.{RowAt, row_at, filter_map-append}
use Rattle.qq_session.specs.ExactlyOne.{ExactlyOne}
use Rattle.qq_session.specs.Printed.{IsAnswer, IsAudited, IsConfirmedPublish, IsConfirmedOnce}
use Rattle.qq_session.specs.Clients.{sender, sender_by, ended_by}
use Rattle.qq_session.specs.declared.shown.Shown.{Shown}
use Rattle.qq_session.specs.declared.shown.Shown.TheVariants.{Answered, Delivered, NoLeader, WindowFull, HasEnded, NotTaken, Attached, IsBusy, Taken, Dropped}
use Rattle.qq_session.proofs.Confirming.{IsEnqueue, confirmed-enqueue}

-- ---- places in a list

pub record At {A : Type 0} (xs : List A) (x : A) : Type 0 where
  pub before : List A
  pub behind : List A
  pub are : xs ≡ before ++ x ∷ behind

split-at : {A : Type 0} (xs : List A) (k : ℕ) (x : A) → slice_get xs k ≡ Some x → At xs x
split-at [] k x found = absurd cc
split-at (y ∷ xs) zero x found =
    let same : y ≡ x = cc in
    record { before = []; behind = xs; are = ap (λ z. z ∷ xs) same }
split-at (y ∷ xs) (suc k) x found =
    let rest : At xs x = split-at xs k x found in
    record { before = y ∷ rest.before; behind = rest.behind; are = ap (λ l. y ∷ l) rest.are }

contained-at : {A : Type 0} (xs : List A) (x : A) → Contains xs x → At xs x
contained-at xs x (k, lt, is) = split-at xs k x (slice_get_read xs (length xs) k x refl lt (sym is))

get-middle : {A : Type 0} (xs ys : List A) (x : A) → slice_get (xs ++ x ∷ ys) (length xs) ≡ Some x
get-middle [] ys x = refl
get-middle (y ∷ xs) ys x = get-middle xs ys x

-- ---- the numbers of a session

-- a command that was carried out has the number of its place among those of its session
number-counts : (args : QueueArgs) (entries : List Entry) (session : SessionId) → CountsCommands args entries
    → IsNumbered session → (before behind : List AuditRow) (row : AuditRow) (seq : ℕ)
    → queue_audit args entries ≡ before ++ row ∷ behind → fresh_number session row ≡ Some seq
    → seq ≡ length (filter_map (fresh_number session) before) + 1
number-counts args entries session counts numbered before behind row seq are number =
    let f : AuditRow → Option ℕ = fresh_number session in
    let all : filter_map f (queue_audit args entries) ≡ filter_map f before ++ seq ∷ filter_map f behind =
    ap (filter_map f) are ∙ filter_map-append f before (row ∷ behind)
    ∙ ap (λ (o : Option ℕ). filter_map f before ++ cons_option o (filter_map f behind)) number in
    counts session numbered (length (filter_map f before)) seq
    (ap (λ (l : List ℕ). slice_get l (length (filter_map f before))) all
    ∙ get-middle (filter_map f before) (filter_map f behind) seq)

publish-number : (session : SessionId) (seq : ℕ) (row : AuditRow) → IsConfirmedPublish session seq row
    → fresh_number session row ≡ Some seq
publish-number session seq row is =
    let by_stamp : number_of session (stamp row.entry.command) ≡ Some seq =
    ap (λ (c : Command). number_of session (stamp c)) is.is
    ∙ cond-true (same_session is.by.session session) (Some is.by.seq) None
    (ap (λ (s : SessionId). same_session s session) is.session_is ∙ same_session-refl session)
    ∙ ap (λ (n : ℕ). Some n) is.seq_is in
    cond-true row.fresh (number_of session (stamp row.entry.command)) None is.fresh ∙ by_stamp

-- ---- the one publish

-- a row in which a session's number was carried out and confirmed
record Carried (audit : List AuditRow) (session : SessionId) (seq : ℕ) : Type 0 where
  before : List AuditRow
  row : AuditRow
  behind : List AuditRow
  are : audit ≡ before ++ row ∷ behind
  number : fresh_number session row ≡ Some seq
  answer : row.answer ≡ Confirmed

carried-publish : (args : QueueArgs) (entries : List Entry) (session : SessionId) (seq : ℕ)
    (it : Carried (queue_audit args entries) session seq) → IsConfirmedPublish session seq it.row
carried-publish args entries session seq it =
    let fresh : FreshRow session it.row seq = fresh_row session it.row seq it.number in
    let at : RowAt (empty_queue args) entries it.before it.row =
    row_at (empty_queue args) entries it.before it.behind it.row it.are in
    let s : State = state_after (empty_queue args) at.earlier in
    let enqueue : IsEnqueue at.entry.command =
    confirmed-enqueue s at.entry (sym (ap (λ (r : AuditRow). r.fresh) at.row_is) ∙ fresh.fresh)
    (sym (ap (λ (r : AuditRow). is_confirmed r.answer) at.row_is) ∙ ap is_confirmed it.answer) in
    let command : it.row.entry.command ≡ Enqueue enqueue.0 enqueue.1 enqueue.2 =
    ap (λ (r : AuditRow). r.entry.command) at.row_is ∙ enqueue.3 in
    let same : Some enqueue.0 ≡ Some fresh.given = sym (ap stamp command) ∙ fresh.is in
    let by_is : enqueue.0 ≡ fresh.given = cc in
    record {
      by = enqueue.0;
      origin = enqueue.1;
      message = enqueue.2;
      is = command;
      session_is = ap (λ (g : Stamp). g.session) by_is ∙ fresh.session_is;
      seq_is = ap (λ (g : Stamp). g.seq) by_is ∙ fresh.seq_is;
      fresh = fresh.fresh;
      answer = it.answer;
    }

carried-once : (args : QueueArgs) (entries : List Entry) (session : SessionId) (seq : ℕ)
    → CountsCommands args entries → IsNumbered session → Carried (queue_audit args entries) session seq
    → ExactlyOne (IsConfirmedPublish session seq) (queue_audit args entries)
carried-once args entries session seq counts numbered it =
    let f : AuditRow → Option ℕ = fresh_number session in
    let place = number-counts args entries session counts numbered it.before it.behind it.row seq it.are it.number in
    record {
      before = it.before;
      item = it.row;
      behind = it.behind;
      are = it.are;
      is = carried-publish args entries session seq it;
      none_before = λ front rest other is publish.
          (let number = publish-number session seq other publish in
          let are : queue_audit args entries ≡ front ++ other ∷ (rest ++ it.row ∷ it.behind) =
          it.are ∙ ap (λ (l : List AuditRow). l ++ it.row ∷ it.behind) is
          ∙ append_assoc front (other ∷ rest) (it.row ∷ it.behind) in
          let first = number-counts args entries session counts numbered front (rest ++ it.row ∷ it.behind) other seq
          are number in
          let longer : filter_map f it.before ≡ filter_map f front ++ seq ∷ filter_map f rest =
          ap (filter_map f) is ∙ filter_map-append f front (other ∷ rest)
          ∙ ap (λ (o : Option ℕ). filter_map f front ++ cons_option o (filter_map f rest)) number in
          absurd (omega (
            arith,
            place,
            first,
            ap length longer,
            length-append (filter_map f front) (seq ∷ filter_map f rest),
          )));
      none_behind = λ front rest other is publish.
          (let number = publish-number session seq other publish in
          let are : queue_audit args entries ≡ (it.before ++ it.row ∷ front) ++ other ∷ rest =
          it.are ∙ ap (λ (l : List AuditRow). it.before ++ it.row ∷ l) is
          ∙ sym (append_assoc it.before (it.row ∷ front) (other ∷ rest)) in
          let second = number-counts args entries session counts numbered (it.before ++ it.row ∷ front) rest other seq
          are number in
          let longer : filter_map f (it.before ++ it.row ∷ front)
          ≡ filter_map f it.before ++ seq ∷ filter_map f front =
          filter_map-append f it.before (it.row ∷ front)
          ∙ ap (λ (o : Option ℕ). filter_map f it.before ++ cons_option o (filter_map f front)) it.number in
          absurd (omega (
            arith,
            place,
            second,
            ap length longer,
            length-append (filter_map f it.before) (seq ∷ filter_map f front),
          )));
    }

-- who a client is
pub sent-client : (row : AuditRow) (given : Stamp) (session : ℕ) → stamp row.entry.command ≡ Some given
    → sender row ≡ Some session → given.session ≡ client session
sent-client row given session is sent =
    let own : ℕ = given.session.number in
    let e : cond (same_session given.session (client own)) (Some own) None ≡ Some session =
    sym (ap sender_by is) ∙ sent in
    cond_both (same_session given.session (client own)) (Some own) None
    (λ (o : Option ℕ). o ≡ Some session → given.session ≡ client session)
    (λ same e. (let number : own ≡ session = cc in
    same_session-true given.session (client own) same ∙ ap client number))
    (λ _ e. absurd (let n : None ≡ Some session = e in cc)) e

-- a command with a stamp ends no session
stamped-lives : (command : Command) (given : Stamp) (session : ℕ) → stamp command ≡ Some given
    → ended_by command ≡ Some session → ⊥
stamped-lives (commands.Down id) given session is ends = absurd (let e : None ≡ Some given = is in cc)
stamped-lives _ given session is ends = absurd (let e : None ≡ Some session = ends in cc)

client-of : (row : AuditRow) (given : Stamp) (session : ℕ) → stamp row.entry.command ≡ Some given
    → (sender row ≡ Some session) ⊎ (ended_by row.entry.command ≡ Some session) → given.session ≡ client session
client-of row given session is (inl sent) = sent-client row given session is sent
client-of row given session is (inr ends) = absurd (stamped-lives row.entry.command given session is ends)

answer-once : (args : QueueArgs) (entries : List Entry) → CountsCommands args entries
    → ((session : SessionId) → IsNumbered session → IsAnswered session (queue_audit args entries))
    → (row : AuditRow) → IsAnswer (queue_audit args entries) row → (given : Stamp)
    → stamp row.entry.command ≡ Some given → row.answer ≡ Confirmed
    → ExactlyOne (IsConfirmedPublish given.session given.seq) (queue_audit args entries)
answer-once args entries counts answered row audited given is confirmed =
    carried-once args entries given.session given.seq counts numbered (by row.fresh refl)
  where
    session_is : given.session ≡ client audited.session
    session_is = client-of row given audited.session is audited.sender_is

    numbered : IsNumbered given.session
    numbered = subst IsNumbered (sym session_is) (inl refl)

    at : At (queue_audit args entries) row
    at = contained-at (queue_audit args entries) row audited.is_in

    by : (b : Bool) → row.fresh ≡ b → Carried (queue_audit args entries) given.session given.seq
    by true fresh = record {
      before = at.before;
      row = row;
      behind = at.behind;
      are = at.are;
      number = cond-true row.fresh (number_of given.session (stamp row.entry.command)) None fresh
          ∙ ap (number_of given.session) is
          ∙ cond-true (same_session given.session given.session) (Some given.seq) None
          (same_session-refl given.session);
      answer = confirmed;
    }
    by false stale = told ((answered given.session numbered).repeats at.before at.behind row given at.are is refl stale)
      where
        told : ((comes_from_gate row.answer ≡ true) ⊎ WasAnswered given.session at.before given.seq row.answer)
            → Carried (queue_audit args entries) given.session given.seq
        told (inl gate) = absurd (false≢true (sym (ap comes_from_gate confirmed) ∙ gate))
        told (inr was) =
            let first : At at.before was.first = contained-at at.before was.first was.is_in in
            record {
              before = first.before;
              row = was.first;
              behind = first.behind ++ row ∷ at.behind;
              are = at.are ∙ ap (λ (l : List AuditRow). l ++ row ∷ at.behind) first.are
                  ∙ append_assoc first.before (was.first ∷ first.behind) (row ∷ at.behind);
              number = was.number;
              answer = was.answer_is ∙ confirmed;
            }

pub confirmed-once : (args : QueueArgs) (entries : List Entry) → CountsCommands args entries
    → ((session : SessionId) → IsNumbered session → IsAnswered session (queue_audit args entries))
    → (shown : Shown) → IsAudited (queue_audit args entries) shown → IsConfirmedOnce (queue_audit args entries) shown
confirmed-once args entries counts answered (Delivered consumer delivery) audited = tt
confirmed-once args entries counts answered (NoLeader session) audited = tt
confirmed-once args entries counts answered (WindowFull session) audited = tt
confirmed-once args entries counts answered (HasEnded session) audited = tt
confirmed-once args entries counts answered (NotTaken session id) audited = tt
confirmed-once args entries counts answered (Attached session number) audited = tt
confirmed-once args entries counts answered (IsBusy session number) audited = tt
confirmed-once args entries counts answered (Taken number consumer delivery verdict) audited = tt
confirmed-once args entries counts answered (Dropped session number) audited = tt
confirmed-once args entries counts answered (Answered row) audited =
    λ given is confirmed. answer-once args entries counts answered row audited given is confirmed
