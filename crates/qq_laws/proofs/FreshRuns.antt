-- The commands of a session that are carried out have the numbers 1, 2, 3 and so on.
use Rattle.std.proofs.Common.{◌≡◌, ℕ, zero, suc, ◌+◌, ◌⊎◌, Bool, false, not, List, [], ◌∷◌, Option, Some, None, refl, sym, ap, ◌∙◌, subst, inl, inr, arith, if◌then◌else◌}
use Rattle.std.specs.Prelude.{filter, filter_map, slice_get}
use Rattle.std.specs.List.{cons_option}
use Rattle.std.proofs.lemmas.Bool.{false≢true, cases_Bool, cond-true, cond-false, cond_both, or_from}
use Rattle.std.proofs.lemmas.List.Folds.{list_any-append}
use Rattle.qq_base.specs.declared.ids.Index.{Index}
use Rattle.qq_base.specs.declared.ids.SessionId.{SessionId}
use Rattle.qq_base.specs.Ids.{same_session}
use Rattle.qq_entry.specs.declared.queue.QueueArgs.{QueueArgs}
use Rattle.qq_entry.specs.declared.command.Stamp.{Stamp}
use Rattle.qq_entry.specs.declared.command.Command.{Command}
use Rattle.qq_entry.specs.declared.command.Entry.{Entry}
use Rattle.qq_entry.specs.declared.answer.Answer.{Answer}
use Rattle.qq_entry.specs.Command.{stamp}
use Rattle.qq_model.specs.declared.session.OpenSession.{OpenSession}
use Rattle.qq_model.specs.declared.session.Gate.{Gate}
use Rattle.qq_model.specs.declared.session.Gate.TheVariants.{Fresh}
use Rattle.qq_model.specs.State.{State, Sessions, empty_queue}
use Rattle.qq_model.specs.Gate.{IsNumbered, is_dead_letter, is_ended, is_open, session_of, change_session, raise_mark, use_number, new_session, is_giving_way, open_session, gate_by, gate, admit, turn_away, add_answer, keep_answer, set_tag, take_tag, end_session, is_end_remembered, put_ended, remember_end}
use Rattle.qq_model.specs.Commands.{Acted}
use Rattle.qq_model.specs.Step.{Step, carry_out, go_through, step_by, step}
use Rattle.qq_model.specs.Audit.{next_index, next_step, audit_of, row_of}
use Rattle.qq_base.proofs.Lists.{list_any-filter, list_any-map}
use Rattle.qq_model.proofs.CarryOut.{carry_out-keeps}
use Rattle.qq_model.proofs.Current.{numbered-plain}
use Rattle.qq_model.proofs.Lists.{list_any-found}
use Rattle.qq_model.proofs.Later.{Guarded, UsedBy}
use Rattle.qq_model.proofs.Later.UsedBy.{EndedBy, OpenBy}
use Rattle.qq_model.proofs.LaterBySteps.{Lasts, admit-by, answer-by, carry_out-by, turn_away-by}
use Rattle.qq_model.proofs.LaterSteps.{admit-later, fresh-checked, fresh-going, next-later}
use Rattle.qq_model.proofs.SessionLemmas.{ended-from, same_session-refl, same_session-true}
use Rattle.qq_model.proofs.SingleChanges.{KeepsRows}
use Rattle.qq_laws.specs.Numbers.{CountsCommands, fresh_number, number_of}
use Rattle.qq_laws.proofs.FreshNumbers.{admit-next, fresh-first, fresh-next}
use Rattle.qq_model.proofs.Indices.{Counts}

-- A session that isn't open stays so -------------------------------------------------------------------------

abbrev IsClosed : SessionId → Sessions → Type 0
IsClosed session s = is_open session s.opened ≡ false

closed-change : (session : SessionId) (s : Sessions) (id : SessionId) (by : OpenSession → OpenSession)
    → ((one : OpenSession) → (by one).session ≡ one.session) → IsClosed session s
    → IsClosed session (record s { opened = change_session id by s.opened })
closed-change session s id by same closed =
    list_any-map (λ (o : OpenSession). same_session o.session session)
    (λ (one : OpenSession). if same_session one.session id then by one else one) s.opened
    (λ one. cond_both (same_session one.session id) (by one) one
    (λ (o : OpenSession). same_session o.session session ≡ same_session one.session session)
    (λ _. ap (λ (i : SessionId). same_session i session) (same one)) (λ _. refl)) ∙ closed

closed-tag : (session : SessionId) (s : Sessions) (id : SessionId) (tag : ℕ) → IsClosed session s
    → IsClosed session (take_tag id tag s)
unfolding take_tag
closed-tag session s id tag closed = closed-change session s id (set_tag tag) (λ one. refl) closed

closed-end : (session : SessionId) (s : Sessions) (id : SessionId) → IsClosed session s
    → IsClosed session (end_session s id)
unfolding end_session
closed-end session s id closed =
    let stays : OpenSession → Bool = λ one. not (same_session one.session id) in
    cond_both (is_open id s.opened) (record s { opened = filter stays s.opened; ended = remember_end id s.ended }) _
    (IsClosed session)
    (λ _. list_any-filter (λ (o : OpenSession). same_session o.session session) stays s.opened closed)
    (λ _. cond_both (is_end_remembered s id) (record s { ended = put_ended id.number s.ended; seen = s.seen + 1 }) s
    (IsClosed session) (λ _. closed) (λ _. closed))

Closed-rows : (session : SessionId) (command : Command) → KeepsRows command (λ p. IsClosed session p.state.sessions)
Closed-rows session command =
    record {
      row = λ p q old new closed here moves out why turns. subst (IsClosed session) (sym turns.sessions)
          closed;
    }

closed-carried : (session : SessionId) (index : Index) (command : Command) (s : State) → IsClosed session s.sessions
    → IsClosed session (carry_out index command s).progress.state.sessions
closed-carried session index command s closed =
    carry_out-keeps {I = λ p. IsClosed session p.state.sessions} index command s (record {
      rows = Closed-rows session command;
      purge = λ p closed purges. closed;
      attach = λ p term closed least greater. closed;
      join = λ p id mode closed above own. closed-tag session p.state.sessions id.session id.tag closed;
      cancel = λ p id consumer closed found. closed;
      finish = λ p closed. closed;
      credit = λ p id consumer credit closed found. closed;
      turn = λ p id consumer closed found. closed;
      leave = λ p id closed is same none. closed-end session p.state.sessions id closed;
    }) (λ p row consumer closed found next. closed) (record {
      rows = Closed-rows session command;
      offer = λ p number cause row closed here is found may few. closed;
      drain = λ p id consumer closed found. closed;
    }) (λ p stamp message closed is found. closed) closed

closed-admit : (session : SessionId) (s : Sessions) (given : Stamp) → same_session given.session session ≡ false
    → IsClosed session s → IsClosed session (admit s given)
unfolding admit
closed-admit session s given other closed =
    let stays : OpenSession → Bool = λ one. not (is_giving_way given.session one) in
    let test : OpenSession → Bool = λ o. same_session o.session session in
    cond_both (is_dead_letter given.session) s _ (IsClosed session) (λ _. closed)
    (λ _. cond_both (is_open given.session s.opened)
    (record s { opened = change_session given.session (use_number given) s.opened }) (open_session s given)
    (IsClosed session) (λ _. closed-change session s given.session (use_number given) (λ one. refl) closed)
    (λ _. list_any-append test (filter stays s.opened) (new_session given ∷ [])
    ∙ or_from _ _ (list_any-filter test stays s.opened closed)
    (or_from (same_session given.session session) false other
    refl)))

closed-answer : (session : SessionId) (s : Sessions) (given : Stamp) (answer : Answer) → IsClosed session s
    → IsClosed session (keep_answer given answer s)
unfolding keep_answer
closed-answer session s given answer closed =
    closed-change session s given.session (add_answer answer) (λ one. refl) closed

closed-away : (session : SessionId) (s : Sessions) (given : Stamp) → IsClosed session s
    → IsClosed session (turn_away s given)
unfolding turn_away
closed-away session s given closed =
    cond_both (is_ended s given.session) s
    (record s { opened = change_session given.session (raise_mark given) s.opened }) (IsClosed session) (λ _. closed)
    (λ _. closed-change session s given.session (raise_mark given) (λ one. refl) closed)

-- How far a session has counted --------------------------------------------------------------------------------

abbrev Next : ℕ → OpenSession → Type 0
Next count one = one.next ≡ count + 1

data Counted (session : SessionId) (count : ℕ) (s : Sessions) : Type 0 where
  NotYet : IsClosed session s → count ≡ 0 → Counted session count s
  SoFar : UsedBy (Next count) s session → Counted session count s

next-lasts : (count : ℕ) → Lasts (Next count)
next-lasts count = record {
  tag = λ one tag next. next;
  raise = λ one stamp next. next;
  answer = λ one answer next. next;
}

-- a row gives no number of the session, or the next one
abbrev Counting : SessionId → ℕ → Option ℕ → Sessions → Type 0
Counting session count number t =
    ((number ≡ None) × Counted session count t) ⊎ ((number ≡ Some (count + 1)) × Counted session (count + 1) t)

-- a number that is let in is the next
fresh-counts : (s : Sessions) (session : SessionId) (given : Stamp) (count : ℕ) → IsNumbered session
    → given.session ≡ session → gate s given ≡ Fresh → Counted session count s → given.seq ≡ count + 1
fresh-counts s session given count numbered same fresh counted =
    by counted (session_of given.session s.opened) refl checked
  where
    plain : is_dead_letter given.session ≡ false
    plain = ap is_dead_letter same ∙ numbered-plain session numbered

    checked : gate_by (session_of given.session s.opened) s given ≡ Fresh
    checked = fresh-checked s given plain fresh

    by : Counted session count s → (o : Option OpenSession) → session_of given.session s.opened ≡ o
        → gate_by o s given ≡ Fresh → given.seq ≡ count + 1
    by (NotYet closed zero') None found passed = let first = fresh-first s given passed in omega (arith, first, zero')
    by (NotYet closed zero') (Some one) found passed =
        absurd (false≢true (sym closed
        ∙ list_any-found (λ (o : OpenSession). same_session o.session session) s.opened one
        (ap (λ (i : SessionId). session_of i s.opened) (sym same) ∙ found)))
    by (SoFar (EndedBy over)) o found passed =
        absurd (false≢true (sym (fresh-going s given plain fresh)
        ∙ ap (is_ended s) same ∙ ended-from s session over))
    by (SoFar (OpenBy one there next)) None found passed =
        let e : None ≡ Some one = sym found ∙ ap (λ (i : SessionId). session_of i s.opened) same ∙ there in absurd cc
    by (SoFar (OpenBy one there next)) (Some other) found passed =
        let e : Some other ≡ Some one = sym found ∙ ap (λ (i : SessionId). session_of i s.opened) same ∙ there in
        let itself : other ≡ one = cc in
        let its = fresh-next given other passed in
        let number : other.next ≡ one.next = ap (λ (o : OpenSession). o.next) itself in
        omega (arith, its, number, next)

next-counts : (s : State) (entry : Entry) (session : SessionId) (count : ℕ) → IsNumbered session → Guarded s.sessions
    → Counted session count s.sessions
    → Counting session count (fresh_number session (row_of (next_index s) entry (next_step s entry)))
    (next_step s entry).state.sessions
unfolding step
next-counts s entry session count numbered guarded counted = by (stamp entry.command) refl
  where
    index : Index
    index = next_index s

    number : Option Stamp → Step → Option ℕ
    number o made = if made.fresh then number_of session o else None

    carried : (x : Sessions) → Counted session count x → Guarded x
        → Counted session count (carry_out index entry.command (record s { sessions = x })).progress.state.sessions
    carried x (NotYet closed zero') g =
        NotYet (closed-carried session index entry.command (record s { sessions = x }) closed) zero'
    carried x (SoFar used) g =
        SoFar ((carry_out-by (Next count) session index entry.command (record s { sessions = x })
        (λ one tag next. next) numbered).used g used)

    own : (given : Stamp) → given.session ≡ session → gate s.sessions given ≡ Fresh
        → UsedBy (Next given.seq)
        (go_through Fresh index given entry.command s).state.sessions given.session
    own given same fresh =
        let numbered' : IsNumbered given.session = subst IsNumbered (sym same) numbered in
        let x : Sessions = admit s.sessions given in
        let a : Acted = carry_out index entry.command (record s { sessions = x }) in
        let x-guarded = (admit-later given.session s.sessions given fresh).guarded guarded in
        let later =
        carry_out-by (Next given.seq) given.session index entry.command (record s { sessions = x })
        (λ one tag next. next) numbered' in
        (answer-by (Next given.seq) given.session a.progress.state.sessions given a.answer
        (next-lasts given.seq)).used
        (later.guarded x-guarded)
        (later.used x-guarded (admit-next s.sessions given (numbered-plain given.session numbered') fresh))

    others : (given : Stamp) → same_session given.session session ≡ false → gate s.sessions given ≡ Fresh
        → Counted session count s.sessions
        → Counted session count (go_through Fresh index given entry.command s).state.sessions
    others given other fresh (NotYet closed zero') =
        NotYet (closed-answer session _ given _
        (closed-carried session index entry.command (record s { sessions = admit s.sessions given })
        (closed-admit session s.sessions given other closed))) zero'
    others given other fresh (SoFar used) =
        let x : Sessions = admit s.sessions given in
        let a : Acted = carry_out index entry.command (record s { sessions = x }) in
        let first =
        admit-by (Next count) session s.sessions given fresh
        (λ own' one next. absurd (false≢true (sym other ∙ ap (same_session given.session) own'
        ∙ same_session-refl given.session))) in
        let second =
        carry_out-by (Next count) session index entry.command (record s { sessions = x }) (λ one tag next. next)
        numbered in
        SoFar ((answer-by (Next count) session a.progress.state.sessions given a.answer (next-lasts count)).used
        (second.guarded (first.guarded guarded)) (second.used (first.guarded guarded) (first.used guarded used)))

    away : (given : Stamp) → Counted session count s.sessions → Counted session count (turn_away s.sessions given)
    away given (NotYet closed zero') = NotYet (closed-away session s.sessions given closed) zero'
    away given (SoFar used) =
        SoFar ((turn_away-by (Next count) session s.sessions given (next-lasts count)).used guarded used)

    fresh-passes : (given : Stamp) → gate s.sessions given ≡ Fresh
        → Counting session count (number_of session (Some given))
        (go_through Fresh index given entry.command s).state.sessions
    fresh-passes given fresh = elim (cases_Bool (same_session given.session session)) [
      | inl is ↦
          let same : given.session ≡ session = same_session-true given.session session is in
          let seq = fresh-counts s.sessions session given count numbered same fresh counted in
          let used = own given same fresh in
          let t : Sessions = (go_through Fresh index given entry.command s).state.sessions in
          inr (
            cond-true (same_session given.session session) (Some given.seq) None is ∙ ap (λ (n : ℕ). Some n) seq,
            SoFar (subst (λ (n : ℕ). UsedBy (Next n) t session) seq
                (subst (UsedBy (Next given.seq) t) same used)),
          )
      | inr other ↦
          inl (
            cond-false (same_session given.session session) (Some given.seq) None other,
            others given other fresh counted,
          )
    ]

    passes : (g : Gate) (given : Stamp) → gate s.sessions given ≡ g
        → Counting session count (number (Some given) (go_through g index given entry.command s))
        (go_through g index given entry.command s).state.sessions
    passes Fresh given is = fresh-passes given is
    passes _ given is = inl (refl, away given counted)

    by : (o : Option Stamp) → stamp entry.command ≡ o
        → Counting session count (number (stamp entry.command) (step_by o index entry.command s))
        (step_by o index entry.command s).state.sessions
    by None is =
        inl (ap (number_of session) is, carried s.sessions counted guarded)
    by (Some given) is =
        subst (λ (o : Option Stamp). Counting session count
        (number o (step_by (Some given) index entry.command s))
        (step_by (Some given) index entry.command s).state.sessions) (sym is)
        (passes (gate s.sessions given) given refl)

run-counts : (session : SessionId) (count : ℕ) (s : State) (entries : List Entry) → IsNumbered session
    → Guarded s.sessions → Counted session count s.sessions
    → Counts count (filter_map (fresh_number session) (audit_of s entries))
run-counts session count s [] numbered guarded counted = tt
run-counts session count s (entry ∷ entries) numbered guarded counted =
    by (next-counts s entry session count numbered guarded counted)
    (λ n now. run-counts session n (next_step s entry).state entries numbered
    ((next-later session s entry numbered).guarded guarded) now)
  where
    rest : List ℕ
    rest = filter_map (fresh_number session) (audit_of (next_step s entry).state entries)

    number : Option ℕ
    number = fresh_number session (row_of (next_index s) entry (next_step s entry))

    by : Counting session count number (next_step s entry).state.sessions
        → ((n : ℕ) → Counted session n (next_step s entry).state.sessions → Counts n rest)
        → Counts count (cons_option number rest)
    by (inl none) later =
        subst (λ (o : Option ℕ). Counts count (cons_option o rest)) (sym none.0) (later count none.1)
    by (inr some) later =
        subst (λ (o : Option ℕ). Counts count (cons_option o rest)) (sym some.0) (refl, later (count + 1) some.1)

read-counts : (n : ℕ) (ns : List ℕ) → Counts n ns → (k m : ℕ) → slice_get ns k ≡ Some m → m ≡ n + k + 1
read-counts n [] counted k m found = absurd cc
read-counts n (first ∷ ns) counted zero m found =
    let same : first ≡ m = cc in sym same ∙ counted.0 ∙ omega arith
read-counts n (first ∷ ns) counted (suc k) m found = read-counts (n + 1) ns counted.1 k m found ∙ omega arith

pub commands_count : (args : QueueArgs) (entries : List Entry) → CountsCommands args entries
commands_count args entries session numbered k n found =
    read-counts 0 _ (run-counts session 0 (empty_queue args) entries numbered tt (NotYet refl refl)) k n found
    ∙ omega arith
