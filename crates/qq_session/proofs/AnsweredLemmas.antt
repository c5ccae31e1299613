-- A session's commands are carried out once, in the order of their numbers, and a repeat has its first answer.
use Rattle.std.proofs.Common.{◌≡◌, ℕ, suc, ◌+◌, ◌-◌, ◌<◌, ◌⊎◌, Bool, true, false, cond, List, [], ◌∷◌, ◌++◌, length, Option, Some, None, refl, sym, ap, ◌∙◌, subst, inl, inr, arith}
use Rattle.std.specs.Prelude.{filter_map, slice_get, Contains, All}
use Rattle.std.specs.List.{cons_option}
use Rattle.std.proofs.lemmas.Bool.{false≢true, cases_Bool, cond-true, cond-false}
use Rattle.qq_base.specs.declared.ids.SessionId.{SessionId}
use Rattle.qq_base.specs.Ids.{same_session}
use Rattle.qq_base.proofs.Lists.{In, find-in}
use Rattle.qq_entry.specs.declared.queue.QueueArgs.{QueueArgs}
use Rattle.qq_entry.specs.declared.command.Stamp.{Stamp}
use Rattle.qq_entry.specs.declared.command.Command.TheVariants.{Get}
use Rattle.qq_entry.specs.declared.command.Entry.{Entry}
use Rattle.qq_entry.specs.declared.answer.Answer.{Answer}
use Rattle.qq_entry.specs.declared.answer.Answer.TheVariants as answers
use Rattle.qq_entry.specs.declared.audit.AuditRow.{AuditRow}
use Rattle.qq_entry.specs.Command.{stamp}
use Rattle.qq_model.specs.declared.session.Gate.{Gate}
use Rattle.qq_model.specs.declared.session.Gate.TheVariants.{Fresh, Again}
use Rattle.qq_model.specs.declared.session.OpenSession.{OpenSession}
use Rattle.qq_model.specs.State.{State, empty_queue}
use Rattle.qq_model.specs.Gate.{IsNumbered, is_dead_letter, is_ended, session_of, gate, gate_answer}
use Rattle.qq_model.specs.Audit.{next_index, next_step, row_of, state_after}
use Rattle.qq_model.specs.Sound.{IsSound, KeepsAnswers}
use Rattle.qq_model.proofs.Current.{numbered-plain}
use Rattle.qq_model.proofs.SessionLemmas.{same_session-true, same_session-refl}
use Rattle.qq_laws.specs.Always.{Always, queue_after, queue_audit}
use Rattle.qq_laws.specs.Numbers.{AnswersAsFirst, CountsCommands, fresh_number, number_of}
use Rattle.qq_laws.specs.Once.{is_fresh, is_let_in, IsFreshWhereLetIn, TurnsAway, IsOpenRepeat}
use Rattle.qq_entry.specs.Answer.{comes_from_gate}
use Rattle.qq_session.specs.Answered.{WasAnswered, IsAnswered}
use Rattle.qq_session.proofs.AuditRows.{RowAt, row_at, picked_at, filter_map-append, get-last, get-within, Contains-middle, state-append, rows-append}
use Rattle.qq_session.proofs.GateRepeats.{again-repeats, probe, probe-fresh}

-- the laws of the queue that these rest on
pub record Laws : Type 0 where
  pub let_in : (s : State) (entry : Entry) → IsFreshWhereLetIn s entry
  pub counts : (args : QueueArgs) (entries : List Entry) → CountsCommands args entries
  pub turns_away : (s : State) (entry : Entry) (given : Stamp) → TurnsAway s entry given
  pub as_first : Always AnswersAsFirst
  pub sound : (args : QueueArgs) (entries : List Entry) → IsSound (state_after (empty_queue args) entries)

-- what the number of a fresh row says
pub record FreshRow (session : SessionId) (row : AuditRow) (seq : ℕ) : Type 0 where
  pub fresh : row.fresh ≡ true
  pub given : Stamp
  pub is : stamp row.entry.command ≡ Some given
  pub session_is : given.session ≡ session
  pub seq_is : given.seq ≡ seq

pub fresh_row : (session : SessionId) (row : AuditRow) (seq : ℕ) → fresh_number session row ≡ Some seq
    → FreshRow session row seq
fresh_row session row seq number =
    by_fresh row.fresh refl number
  where
    by_stamp : (o : Option Stamp) → stamp row.entry.command ≡ o → row.fresh ≡ true → number_of session o ≡ Some seq
        → FreshRow session row seq
    by_stamp None is fresh found = absurd (let e : None ≡ Some seq = found in cc)
    by_stamp (Some given) is fresh found =
        elim (cases_Bool (same_session given.session session)) [
          | inl same ↦
              let e : Some given.seq ≡ Some seq =
              sym (cond-true (same_session given.session session) (Some given.seq) None same) ∙ found in
              let seq_is : given.seq ≡ seq = cc in
              record {
                fresh = fresh;
                given = given;
                is = is;
                session_is = same_session-true given.session session same;
                seq_is = seq_is;
              }
          | inr other ↦
              let e : None ≡ Some seq =
              sym (cond-false (same_session given.session session) (Some given.seq) None other) ∙ found in
              absurd cc
        ]

    by_fresh : (b : Bool) → row.fresh ≡ b → cond b (number_of session (stamp row.entry.command)) None ≡ Some seq
        → FreshRow session row seq
    by_fresh true fresh found = by_stamp (stamp row.entry.command) refl fresh found
    by_fresh false fresh found = absurd (let e : None ≡ Some seq = found in cc)

opened-in : (P : OpenSession → Type 0) (xs : List OpenSession) (one : OpenSession) → All P xs → In one xs → P one
opened-in P [] one each here = absurd here
opened-in P (x ∷ xs) one each (inl same) = subst P (sym same) (each 0 x (omega arith))
opened-in P (x ∷ xs) one each (inr later) =
    opened-in P xs one (λ k d lt. each (suc k) d (omega (arith, lt))) later

-- ---- how many fresh rows there are

abbrev numbers_of : QueueArgs → List Entry → SessionId → List ℕ
numbers_of args entries session = filter_map (fresh_number session) (queue_audit args entries)

abbrev probed : SessionId → OpenSession → Entry
probed session one = record { term = record { 0 = 1 }; time = 0; command = Get (probe session one) }

-- the fresh rows of a session that goes on are one fewer than its next number
next-counts : (laws : Laws) (args : QueueArgs) (entries : List Entry) (session : SessionId) (one : OpenSession)
    → IsNumbered session → is_ended (queue_after args entries).sessions session ≡ false
    → session_of session (queue_after args entries).sessions.opened ≡ Some one
    → one.next ≡ length (numbers_of args entries session) + 1
next-counts laws args entries session one numbered going found =
    let s : State = queue_after args entries in
    let plain : is_dead_letter session ≡ false = numbered-plain session numbered in
    let kept : KeepsAnswers one = opened-in KeepsAnswers s.sessions.opened one (laws.sound args entries).sessions.kept
    (find-in (λ (o : OpenSession). same_session o.session session) s.sessions.opened one found).0 in
    let fresh : gate s.sessions (probe session one) ≡ Fresh =
    probe-fresh s.sessions session one plain going found kept.mark in
    let p : Entry = probed session one in
    let row : AuditRow = row_of (next_index s) p (next_step s p) in
    let row_fresh : row.fresh ≡ true = laws.let_in s p ∙ ap is_fresh fresh in
    let number : fresh_number session row ≡ Some one.next =
    cond-true row.fresh (number_of session (Some (probe session one))) None row_fresh
    ∙ cond-true (same_session session session) (Some one.next) None (same_session-refl session) in
    let numbers : List ℕ = numbers_of args entries session in
    let all : numbers_of args (entries ++ p ∷ []) session ≡ numbers ++ one.next ∷ [] =
    ap (filter_map (fresh_number session)) (rows-append (empty_queue args) entries (p ∷ []))
    ∙ filter_map-append (fresh_number session) (queue_audit args entries) (row ∷ [])
    ∙ ap (λ (o : Option ℕ). numbers ++ cons_option o []) number in
    laws.counts args (entries ++ p ∷ []) session numbered (length numbers) one.next
    (ap (λ (l : List ℕ). slice_get l (length numbers)) all ∙ get-last numbers one.next)

-- ---- the first answer

-- a repeat above the low mark has the answer of the row in which its number was carried out
first_answer : (laws : Laws) (args : QueueArgs) (entries : List Entry) (entry : Entry) (given : Stamp)
    (one : OpenSession)
    → stamp entry.command ≡ Some given → IsNumbered given.session
    → IsOpenRepeat (queue_after args entries).sessions given one
    → WasAnswered given.session (queue_audit args entries) given.seq
    (next_step (queue_after args entries) entry).answer
first_answer laws args entries entry given one is numbered repeats =
    let session : SessionId = given.session in
    let start : State = empty_queue args in
    let numbers : List ℕ = numbers_of args entries session in
    let next = next-counts laws args entries session one numbered repeats.going repeats.repeat.opened in
    let within : given.seq - 1 < length numbers = omega (arith, next, repeats.above, repeats.repeat.below) in
    let there = get-within numbers (given.seq - 1) within in
    let counted = laws.counts args entries session numbered (given.seq - 1) there.0 there.1 in
    let seq_is : there.0 ≡ given.seq = omega (arith, counted, repeats.above) in
    let picked = picked_at (fresh_number session) (queue_audit args entries) (given.seq - 1) there.0 there.1 in
    let at : RowAt start entries picked.before picked.one =
    row_at start entries picked.before picked.after picked.one picked.are in
    let row : FreshRow session picked.one there.0 = fresh_row session picked.one there.0 picked.is in
    let before : State = queue_after args at.earlier in
    let after : State = state_after (next_step before at.entry).state at.later in
    let same : queue_after args entries ≡ after =
    ap (state_after start) at.are ∙ state-append start at.earlier (at.entry ∷ at.later) in
    let first = laws.as_first args at.earlier at.entry entry row.given given at.later one
    (subst IsNumbered (sym row.session_is) numbered)
    (ap (λ (r : AuditRow). stamp r.entry.command) (sym at.row_is) ∙ row.is)
    (ap (λ (r : AuditRow). r.fresh) (sym at.row_is) ∙ row.fresh) is (sym row.session_is)
    (sym (row.seq_is ∙ seq_is)) (subst (λ (s : State). IsOpenRepeat s.sessions given one) same repeats) in
    record {
      first = picked.one;
      is_in = subst (λ (rows : List AuditRow). Contains rows picked.one) (sym picked.are)
          (Contains-middle picked.before picked.after picked.one);
      number = picked.is ∙ ap (λ (n : ℕ). Some n) seq_is;
      answer_is = ap (λ (r : AuditRow). r.answer) at.row_is
          ∙ sym (ap (λ (s : State). (next_step s entry).answer) same ∙ first);
    }

-- ---- the rows that weren't carried out

-- what an entry that isn't fresh is answered
abbrev IsTold : SessionId → List AuditRow → ℕ → Answer → Type 0
IsTold session before seq answer = (comes_from_gate answer ≡ true) ⊎ WasAnswered session before seq answer

told_by : (laws : Laws) (args : QueueArgs) (entries : List Entry) (entry : Entry) (given : Stamp)
    → stamp entry.command ≡ Some given → IsNumbered given.session
    → (g : Gate) → gate (queue_after args entries).sessions given ≡ g
    → (next_step (queue_after args entries) entry).answer ≡ gate_answer g answers.Lead → is_fresh g ≡ false
    → IsTold given.session (queue_audit args entries) given.seq (next_step (queue_after args entries) entry).answer
told_by laws args entries entry given is numbered Fresh at answered stale = absurd (false≢true (sym stale))
told_by laws args entries entry given is numbered (Again before) at answered stale =
    let repeats = again-repeats (queue_after args entries).sessions given before
    (numbered-plain given.session numbered) at in
    inr (first_answer laws args entries entry given repeats.0 is numbered repeats.1)
told_by laws args entries entry given is numbered _ at answered stale = inl (ap comes_from_gate answered)

told : (laws : Laws) (args : QueueArgs) (entries : List Entry) (session : SessionId) → IsNumbered session
    → (before after : List AuditRow) (row : AuditRow) (given : Stamp)
    → queue_audit args entries ≡ before ++ row ∷ after
    → stamp row.entry.command ≡ Some given → given.session ≡ session → row.fresh ≡ false
    → IsTold session before given.seq row.answer
told laws args entries session numbered before after row given are is session_is stale =
    let at : RowAt (empty_queue args) entries before row = row_at (empty_queue args) entries before after row are in
    let s : State = queue_after args at.earlier in
    let numbered' : IsNumbered given.session = subst IsNumbered (sym session_is) numbered in
    let is' : stamp at.entry.command ≡ Some given =
    ap (λ (r : AuditRow). stamp r.entry.command) (sym at.row_is) ∙ is in
    let stale' : is_fresh (gate s.sessions given) ≡ false =
    sym (laws.let_in s at.entry ∙ ap (is_let_in s.sessions) is')
    ∙ ap (λ (r : AuditRow). r.fresh) (sym at.row_is) ∙ stale in
    let away = laws.turns_away s at.entry given is' stale' in
    let said = told_by laws args at.earlier at.entry given is' numbered' (gate s.sessions given) refl
    (away.answer answers.Lead) stale' in
    subst (λ (r : AuditRow). IsTold session before given.seq r.answer) (sym at.row_is)
    (subst (λ (rows : List AuditRow). IsTold session rows given.seq (next_step s at.entry).answer) (sym at.before_is)
    (subst (λ (i : SessionId). IsTold i (queue_audit args at.earlier) given.seq (next_step s at.entry).answer)
    session_is said))

pub is_answered : (laws : Laws) (args : QueueArgs) (entries : List Entry) (session : SessionId) → IsNumbered session
    → IsAnswered session (queue_audit args entries)
is_answered laws args entries session numbered = record {
  numbers = λ k n found. laws.counts args entries session numbered k n found;
  repeats = λ before after row given are is session_is stale.
      told laws args entries session numbered before after row given are is session_is stale;
}
