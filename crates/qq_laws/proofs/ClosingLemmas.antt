-- A session that has ended stays so.
use Rattle.std.proofs.Common.{◌≡◌, ℕ, ◌+◌, ◌<◌, ◌⊎◌, true, false, not, ◌&&◌, List, [], None, refl, sym, ap, ◌∙◌, inl, inr}
use Rattle.std.specs.Prelude.{nat_eq, nat_lt, filter}
use Rattle.std.specs.List.{list_any}
use Rattle.std.proofs.lemmas.Bool.{false≢true, cases_Bool, cond-true, cond-false, and_from, or_left, eq-eqb, lt-ltb}
use Rattle.qq_base.specs.declared.ids.Index.{Index}
use Rattle.qq_base.specs.declared.ids.SessionId.{SessionId}
use Rattle.qq_base.specs.Ids.{same_session}
use Rattle.qq_entry.specs.Command.{stamp}
use Rattle.qq_entry.specs.declared.command.Command.{Command}
use Rattle.qq_entry.specs.declared.command.Command.TheVariants.{Down}
use Rattle.qq_entry.specs.declared.command.Entry.{Entry}
use Rattle.qq_entry.specs.declared.command.Stamp.{Stamp}
use Rattle.qq_entry.specs.declared.queue.QueueArgs.{QueueArgs}
use Rattle.qq_model.specs.declared.TheConstants.{MOST_SEEN}
use Rattle.qq_model.specs.declared.session.Gate.TheVariants.{Ended, Fresh}
use Rattle.qq_model.specs.declared.session.OpenSession.{OpenSession}
use Rattle.qq_model.specs.State.{State, Sessions, empty_queue}
use Rattle.qq_model.specs.Changes.{Progress}
use Rattle.qq_model.specs.Commands.{Acted, act, down}
use Rattle.qq_model.specs.Gate.{end_session, gate, is_client, is_dead_letter, is_end_remembered, is_ended, is_open, put_ended, remember_end}
use Rattle.qq_model.specs.Step.{carry_out, step_by, step}
use Rattle.qq_model.specs.Audit.{next_index, next_step, state_after}
use Rattle.qq_base.proofs.Lists.{In-append_right, list_any-from_in}
use Rattle.qq_model.proofs.ActKeeps.{return_session-keeps}
use Rattle.qq_model.proofs.CarryOut.{follow_on, follow_on-keeps}
use Rattle.qq_model.proofs.Later.{UsedBy}
use Rattle.qq_model.proofs.Later.UsedBy.{EndedBy, OpenBy}
use Rattle.qq_model.proofs.LaterBySteps.{Lasts, after-by}
use Rattle.qq_model.proofs.SessionLemmas.{ended-from, ended-true}
use Rattle.qq_model.proofs.SingleChanges.{Serves}
use Rattle.qq_laws.specs.Closing.{ClosesSession, StaysClosed, TellsEnded}
use Rattle.qq_laws.proofs.OnceLemmas.{guarded_at}

-- It stays so ------------------------------------------------------------------------------------------

pub never-lasts : Lasts (λ one. ⊥)
never-lasts = record { tag = λ one tag q. q; raise = λ one stamp q. q; answer = λ one answer q. q }

pub stays_closed : (args : QueueArgs) (before : List Entry) → StaysClosed (state_after (empty_queue args) before)
stays_closed args before entries session numbered ended =
    let s = state_after (empty_queue args) before in
    read (state_after s entries).sessions
    ((after-by (λ one. ⊥) session s entries never-lasts (λ given own one q. q) numbered).used
    (guarded_at session args before numbered) (EndedBy (ended-true s.sessions session ended)))
  where
    read : (t : Sessions) → UsedBy (λ (one : OpenSession). ⊥) t session → is_ended t session ≡ true
    read t (EndedBy over) = ended-from t session over
    read t (OpenBy one found never) = absurd never

pub tells_ended : (s : Sessions) (given : Stamp) → TellsEnded s given
unfolding gate
tells_ended s given plain ended =
    cond-false (is_dead_letter given.session) Fresh _ plain ∙ cond-true (is_ended s given.session) Ended _ ended

-- A Down ends it ---------------------------------------------------------------------------------------

-- a client's number that is among the ended
client-ended : (s : Sessions) (session : SessionId) → is_client session ≡ true
    → list_any (λ (number : ℕ). nat_eq number session.number) s.ended ≡ true → is_ended s session ≡ true
client-ended s session client here = or_left _ _ (and_from (is_client session) _ client here)

put-there : (number : ℕ) (numbers : List ℕ)
    → list_any (λ (one : ℕ). nat_eq one number) (put_ended number numbers) ≡ true
put-there number numbers =
    list_any-from_in (λ (one : ℕ). nat_eq one number) number (put_ended number numbers)
    (In-append_right number (filter (λ (one : ℕ). nat_lt one number) numbers) _ (inl refl))
    (eq-eqb number number refl)

ended-after : (s : Sessions) (session : SessionId) → is_client session ≡ true
    → (is_open session s.opened ≡ true) ⊎ (s.seen < MOST_SEEN) → is_ended (end_session s session) session ≡ true
unfolding end_session
ended-after s session client may = elim (cases_Bool (is_open session s.opened)) [
  | inl opened ↦
      let closed : Sessions = record s {
        opened = filter (λ (one : OpenSession). not (same_session one.session session)) s.opened;
        ended = remember_end session s.ended;
      } in
      let remembered : remember_end session s.ended ≡ put_ended session.number s.ended =
      cond-true (is_client session) (put_ended session.number s.ended) s.ended client in
      ap (λ (t : Sessions). is_ended t session) (cond-true (is_open session s.opened) closed _ opened)
      ∙ client-ended closed session client
      (ap (list_any (λ (number : ℕ). nat_eq number session.number)) remembered
      ∙ put-there session.number s.ended)
  | inr shut ↦
      let seen : s.seen < MOST_SEEN = elim may [
        | inl opened ↦ absurd (false≢true (sym shut ∙ opened))
        | inr few ↦ few
      ] in
      let put : Sessions = record s { ended = put_ended session.number s.ended; seen = s.seen + 1 } in
      elim (cases_Bool (is_ended s session)) [
        | inl already ↦
            let none : is_end_remembered s session ≡ false =
            ap (λ b. is_client session && not b && nat_lt s.seen MOST_SEEN) already
            ∙ ap (λ b. b && false && nat_lt s.seen MOST_SEEN) client in
            ap (λ (t : Sessions). is_ended t session)
            (cond-false (is_open session s.opened) _ _ shut ∙ cond-false (is_end_remembered s session) put s none)
            ∙ already
        | inr yet ↦
            let some : is_end_remembered s session ≡ true =
            ap (λ b. b && not (is_ended s session) && nat_lt s.seen MOST_SEEN) client
            ∙ ap (λ b. true && not b && nat_lt s.seen MOST_SEEN) yet ∙ lt-ltb s.seen MOST_SEEN seen in
            ap (λ (t : Sessions). is_ended t session)
            (cond-false (is_open session s.opened) _ _ shut ∙ cond-true (is_end_remembered s session) put s some)
            ∙ client-ended put session client (put-there session.number s.ended)
      ]
]

-- what follows on a command leaves the sessions
SameSessions-serves : (x : Sessions) (command : Command) → Serves command (λ p. p.state.sessions ≡ x)
SameSessions-serves x command = record {
  rows = record { row = λ p q old new same here moves out why turns. turns.sessions ∙ same };
  offer = λ p number cause row same here is next may few. same;
  drain = λ p id consumer same found. same;
}

down-sessions : (session : SessionId) (p : Progress)
    → (down session p).progress.state.sessions ≡ end_session p.state.sessions session
unfolding down
down-sessions session p =
    ap (λ (x : Sessions). end_session x session)
    (return_session-keeps {I = λ q. q.state.sessions ≡ p.state.sessions} session (record {
      row = λ a b old new same here moves out why turns. turns.sessions ∙ same;
    }) p.state.consumers p refl)

down-carried : (index : Index) (session : SessionId) (s : State)
    → carry_out index (Down session) s
    ≡ follow_on (Down session) (down session (record { state = s; effects = [] }))
unfolding carry_out act
down-carried index session s = refl

-- the sessions after an entry without a stamp
unstamped-sessions : (s : State) (entry : Entry) → stamp entry.command ≡ None
    → (next_step s entry).state.sessions ≡ (carry_out (next_index s) entry.command s).progress.state.sessions
unfolding step
unstamped-sessions s entry none = ap (λ o. (step_by o (next_index s) entry.command s).state.sessions) none

pub closes_session : (s : State) (entry : Entry) → ClosesSession s entry
closes_session s entry session is client may =
    let start : Progress = record { state = s; effects = [] } in
    let done : (follow_on (Down session) (down session start)).progress.state.sessions
    ≡ end_session s.sessions session =
    follow_on-keeps {I = λ p. p.state.sessions ≡ end_session s.sessions session} (Down session)
    (λ p row consumer same found next. same) (SameSessions-serves (end_session s.sessions session) (Down session))
    (down session start) (down-sessions session start) in
    let made : (next_step s entry).state.sessions ≡ end_session s.sessions session =
    unstamped-sessions s entry (ap stamp is)
    ∙ ap (λ c. (carry_out (next_index s) c s).progress.state.sessions) is
    ∙ ap (λ (a : Acted). a.progress.state.sessions) (down-carried (next_index s) session s) ∙ done in
    ap (λ (x : Sessions). is_ended x session) made ∙ ended-after s.sessions session client may
