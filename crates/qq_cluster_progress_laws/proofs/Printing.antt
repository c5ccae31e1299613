-- A leader that commits an entry answers it, and that is printed.
use Rattle.std.proofs.Common.{◌≡◌, ◌≢◌, ℕ, zero, suc, ◌≤◌, ◌<◌, ◌+◌, Bool, true, false, cond, not, ◌||◌, List, [], ◌∷◌, ◌++◌, length, take, drop, filter, Option, Some, None, refl, sym, ap, ◌∙◌, subst, arith, append_assoc, length-append}
use Rattle.std.specs.Prelude.{Contains, nat_eq}
use Rattle.std.specs.Option.{option_map_or}
use Rattle.std.specs.List.{AllByRecursion}
use Rattle.std.proofs.lemmas.Bool.{cond_both, cond-true, eq-eqb, ne_eqb, eqb-true, and_from, false≢true}
use Rattle.std.proofs.lemmas.List.{drop-append-le, take-append-le, take_all}
use Rattle.std.proofs.lemmas.List.Elements.{Contains-append_right, filter-append}
use Rattle.std.proofs.lemmas.Map.Views.{any-filter_same}
use Rattle.qq_base.proofs.Lists.{AllByRecursion-filter}
use Rattle.qq_base.specs.Ids.{client, same_session}
use Rattle.qq_base.specs.declared.ids.SessionId.{SessionId}
use Rattle.qq_entry.specs.Command.{seq_of, stamp}
use Rattle.qq_entry.specs.declared.answer.Answer.{Answer}
use Rattle.qq_entry.specs.declared.audit.AuditRow.{AuditRow}
use Rattle.qq_entry.specs.declared.command.Entry.{Entry}
use Rattle.qq_entry.specs.declared.command.Stamp.{Stamp}
use Rattle.qq_entry.specs.declared.queue.QueueArgs.{QueueArgs}
use Rattle.qq_model.specs.Audit.{audit_of, next_index, next_step, row_of, state_after}
use Rattle.qq_model.specs.State.{State, empty_queue}
use Rattle.qq_raft_model.specs.Server.{is_ready}
use Rattle.qq_raft_model.specs.State.{Server}
use Rattle.qq_session.specs.Publishing.{Numbers, OpenCommand, answer, closes, is_open, without}
use Rattle.qq_session.specs.Deeds.{is_sent_by}
use Rattle.qq_session.specs.Clients.{Clients, hear, hear_all, is_printed, is_printed_by, printed, sender, sender_by, tells_end, ended_by}
use Rattle.qq_session.proofs.Heard.{heard}
use Rattle.qq_session.proofs.Once.{sent-client}
use Rattle.qq_session.proofs.PrintedAnswers.{all-drop}
use Rattle.qq_cluster_model.specs.Queue.{is_shown, own_rows}

-- ---- numbers

-- no command of the session with this number
abbrev pub IsOther : ℕ → ℕ → Entry → Type 0
IsOther session seq e =
    (given : Stamp) → stamp e.command ≡ Some given → given.session ≡ client session → given.seq ≢ seq

-- the session hears answers, and the number is open
pub record Awaits (session seq : ℕ) (clients : Clients) : Type 0 where
  pub hears : (clients session).muted ≡ false
  pub opened : is_open seq (clients session).numbers ≡ true

seq-is : (row : AuditRow) (given : Stamp) → stamp row.entry.command ≡ Some given → seq_of row.entry.command ≡ given.seq
seq-is row given is =
    ap (λ (o : Option Stamp). option_map_or (λ (by : Stamp). by.seq) o 0) is

still-open : (seq own : ℕ) (given : Answer) (n : Numbers) → own ≢ seq → is_open seq n ≡ true
    → is_open seq (answer own given n) ≡ true
still-open seq own given n other opened =
    cond_both (closes given) (record n { opened = without own n.opened }) n (λ (m : Numbers). is_open seq m ≡ true)
    (λ _. any-filter_same (λ (one : OpenCommand). nat_eq one.0 seq) (λ (one : OpenCommand). not (nat_eq one.0 own)) true
    (λ one is. ap not (ne_eqb one.0 own (λ same. other (sym same ∙ eqb-true one.0 seq is)))) n.opened ∙ opened)
    (λ _. opened)

-- the answer to another command leaves it open
hear-awaits : (session seq : ℕ) (row : AuditRow) (clients : Clients) → IsOther session seq row.entry
    → Awaits session seq clients → Awaits session seq (hear row clients)
hear-awaits session seq row clients other awaits =
    let h = heard row clients session in
    record {
      hears = h.muted_is ∙ awaits.hears;
      opened = subst (λ (n : Numbers). is_open seq n ≡ true) (sym (h.taken awaits.hears))
          (cond_both (is_sent_by session (sender row))
          (answer (seq_of row.entry.command) row.answer (clients session).numbers) (clients session).numbers
          (λ (n : Numbers). is_open seq n ≡ true)
          (λ sent. still-open seq (seq_of row.entry.command) row.answer (clients session).numbers (differs sent)
          awaits.opened) (λ _. awaits.opened));
    }
  where
    of-sender : (o : Option ℕ) → is_sent_by session o ≡ true → o ≡ Some session
    of-sender None sent = absurd (false≢true sent)
    of-sender (Some own) sent = ap (λ (n : ℕ). Some n) (eqb-true own session sent)

    of-stamp : (o : Option Stamp) → stamp row.entry.command ≡ o → sender row ≡ Some session
        → seq_of row.entry.command ≢ seq
    of-stamp None is sent =
        absurd (let e : None ≡ Some session = sym (ap sender_by is) ∙ sent in cc)
    of-stamp (Some given) is sent =
        λ same. other given is (sent-client row given session is sent) (sym (seq-is row given is) ∙ same)

    differs : is_sent_by session (sender row) ≡ true → seq_of row.entry.command ≢ seq
    differs sent = of-stamp (stamp row.entry.command) refl (of-sender (sender row) sent)

abbrev pub AreOther : ℕ → ℕ → List AuditRow → Type 0
AreOther session seq rows = AllByRecursion (λ (row : AuditRow). IsOther session seq row.entry) rows

hear_all-awaits : (session seq : ℕ) (rows : List AuditRow) (clients : Clients) → AreOther session seq rows
    → Awaits session seq clients → Awaits session seq (hear_all rows clients)
hear_all-awaits session seq [] clients others awaits = awaits
hear_all-awaits session seq (row ∷ rows) clients others awaits =
    hear_all-awaits session seq rows (hear row clients) others.1 (hear-awaits session seq row clients others.0 awaits)

-- ---- rows of a log

others-audit : (session seq : ℕ) (s : State) (log : List Entry) → AllByRecursion (IsOther session seq) log
    → AreOther session seq (audit_of s log)
others-audit session seq s [] others = tt
others-audit session seq s (e ∷ log) others =
    (others.0, others-audit session seq (next_step s e).state log others.1)

take-others : {A : Type 0} (P : A → Type 0) (n : ℕ) (xs : List A) → AllByRecursion P xs → AllByRecursion P (take n xs)
take-others P zero xs all = tt
take-others P (suc n) [] all = tt
take-others P (suc n) (x ∷ xs) all = (all.0, take-others P n xs all.1)

-- the row of the entry after a log
abbrev pub row_after : QueueArgs → List Entry → Entry → AuditRow
row_after args log e =
    let s : State = state_after (empty_queue args) log in
    row_of (next_index s) e (next_step s e)

pub audit-more : (s : State) (log : List Entry) (e : Entry)
    → audit_of s (log ++ e ∷ [])
    ≡ audit_of s log
    ++ row_of (next_index (state_after s log)) e (next_step (state_after s log) e) ∷ []
audit-more s [] e = refl
audit-more s (first ∷ log) e =
    ap (λ (rows : List AuditRow). row_of (next_index s) first (next_step s first) ∷ rows)
    (audit-more (next_step s first).state log e)

audit-length : (s : State) (log : List Entry) → length (audit_of s log) ≡ length log
audit-length s [] = refl
audit-length s (e ∷ log) = ap suc (audit-length (next_step s e).state log)

-- ---- what is printed

printed-append : (rows more : List AuditRow) (clients : Clients)
    → printed (rows ++ more) clients ≡ printed rows clients ++ printed more (hear_all rows clients)
printed-append [] more clients = refl
printed-append (row ∷ rows) more clients =
    ap (λ (l : List AuditRow). cond (is_printed clients row) (row ∷ []) [] ++ l)
    (printed-append rows more (hear row clients))
    ∙ sym (append_assoc (cond (is_printed clients row) (row ∷ []) [])
    (printed rows (hear row clients)) (printed more (hear_all rows (hear row clients))))

-- whose command it is
pub record IsAskedBy (session seq : ℕ) (e : Entry) : Type 0 where
  pub by : Stamp
  pub is : stamp e.command ≡ Some by
  pub session_is : by.session ≡ client session
  pub seq_is : by.seq ≡ seq

own-printed : (session seq : ℕ) (row : AuditRow) (clients : Clients) → IsAskedBy session seq row.entry
    → Awaits session seq clients → Contains (printed (row ∷ []) clients) row
own-printed session seq row clients asked awaits =
    subst (λ (b : Bool). Contains (cond b (row ∷ []) [] ++ []) row) (sym shown)
    (0, omega arith, refl)
  where
    sent : sender row ≡ Some session
    sent =
        ap sender_by asked.is
        ∙ ap (λ (id : SessionId). cond (same_session id (client id.number)) (Some id.number) None)
        asked.session_is
        ∙ cond-true (nat_eq session session) (Some session) None (eq-eqb session session refl)

    opened : is_printed_by (sender row) clients row ≡ true
    opened =
        ap (λ (o : Option ℕ). is_printed_by o clients row) sent
        ∙ and_from (not (clients session).muted) (is_open (seq_of row.entry.command) (clients session).numbers)
        (ap not awaits.hears)
        (ap (λ (n : ℕ). is_open n (clients session).numbers) (seq-is row asked.by asked.is ∙ asked.seq_is)
        ∙ awaits.opened)

    shown : is_printed clients row ≡ true
    shown = ap (λ (b : Bool). b || tells_end (ended_by row.entry.command) clients) opened

-- ---- a leader's commit

-- what a leader's step leaves of a number that is open before the entry is committed, and what it prints then
pub record Tells (i commit after : ℕ) (session seq : ℕ) (row : AuditRow) (old new : Clients) (rows : List AuditRow)
    : Type 0 where
  pub waits : after < i → Awaits session seq old → Awaits session seq new
  pub tells : commit < i → i ≤ after → Awaits session seq old → Contains rows row

module _ (session seq : ℕ) (args : QueueArgs) (log : List Entry) (e : Entry)
    (others : AllByRecursion (IsOther session seq) log) (asked : IsAskedBy session seq e) (s t : Server)
    (log_is : t.log ≡ log ++ e ∷ []) (ready : is_ready t ≡ true) (term : e.term.0 ≡ t.term.0)
    (within : t.commit ≤ length log + 1) (clients : Clients) where
  abbrev first : State
  first = empty_queue args

  abbrev row : AuditRow
  row = row_after args log e

  -- before the entry is committed
  early : t.commit < length log + 1 → AreOther session seq (own_rows args s t)
  early lt =
      AllByRecursion-filter (λ (r : AuditRow). IsOther session seq r.entry) (is_shown t)
      (drop s.commit (audit_of first (take t.commit t.log)))
      (all-drop (λ (r : AuditRow). IsOther session seq r.entry) s.commit (audit_of first (take t.commit t.log))
      (others-audit session seq first (take t.commit t.log)
      (subst (AllByRecursion (IsOther session seq))
      (sym (ap (take t.commit) log_is ∙ take-append-le t.commit log (e ∷ []) (omega (arith, lt))))
      (take-others (IsOther session seq) t.commit log others))))

  abbrev before : List AuditRow
  before = filter (is_shown t) (drop s.commit (audit_of first log))

  -- once it is
  all-own : s.commit < length log + 1 → t.commit ≡ length log + 1 → own_rows args s t ≡ before ++ row ∷ []
  all-own lt is =
      let whole : take t.commit t.log ≡ log ++ e ∷ [] =
      ap (take t.commit) log_is
      ∙ take_all t.commit (log ++ e ∷ []) (let n = length-append log (e ∷ []) in omega (arith, is, n)) in
      let long = audit-length first log in
      let cut : drop s.commit (audit_of first log ++ row ∷ []) ≡ drop s.commit (audit_of first log) ++ row ∷ [] =
      drop-append-le s.commit (audit_of first log) (row ∷ []) (omega (arith, lt, long)) in
      ap (λ (l : List Entry). filter (is_shown t) (drop s.commit (audit_of first l))) whole
      ∙ ap (λ (l : List AuditRow). filter (is_shown t) (drop s.commit l)) (audit-more first log e)
      ∙ ap (filter (is_shown t)) cut
      ∙ filter-append (is_shown t) (drop s.commit (audit_of first log)) (row ∷ [])
      ∙ ap (λ (b : Bool). before ++ cond b (row ∷ []) [])
      (and_from (is_ready t) (nat_eq e.term.0 t.term.0) ready (eq-eqb e.term.0 t.term.0 term))

  before-others : AreOther session seq before
  before-others =
      AllByRecursion-filter (λ (r : AuditRow). IsOther session seq r.entry) (is_shown t)
      (drop s.commit (audit_of first log))
      (all-drop (λ (r : AuditRow). IsOther session seq r.entry) s.commit (audit_of first log)
      (others-audit session seq first log others))

  pub own-tells : Tells (length log + 1) s.commit t.commit session seq row clients
      (hear_all (own_rows args s t) clients) (printed (own_rows args s t) clients)
  own-tells = record {
    waits = λ lt awaits. hear_all-awaits session seq (own_rows args s t) clients (early lt) awaits;
    tells = λ lt le awaits.
        subst (λ (l : List AuditRow). Contains (printed l clients) row) (sym (all-own lt (omega (arith, le, within))))
        (subst (λ (l : List AuditRow). Contains l row) (sym (printed-append before (row ∷ []) clients))
        (Contains-append_right (printed before clients) (printed (row ∷ []) (hear_all before clients)) row
        (own-printed session seq row (hear_all before clients) asked
        (hear_all-awaits session seq before clients before-others awaits))));
  }
