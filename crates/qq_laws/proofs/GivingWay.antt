-- A worker's first command ends the sessions of earlier workers of its source queue.
use Rattle.std.proofs.Common.{◌≡◌, ◌<◌, ◌≤◌, true, false, List, Option, Some, refl, sym, ap, ◌∙◌, subst, inl, inr, arith}
use Rattle.std.specs.Prelude.{filter, nat_lt}
use Rattle.std.proofs.lemmas.Bool.{cases_Bool, cond-true, cond-false}
use Rattle.qq_base.specs.declared.ids.SessionId.{SessionId}
use Rattle.qq_base.specs.Ids.{same_session}
use Rattle.qq_entry.specs.Command.{stamp}
use Rattle.qq_entry.specs.declared.command.Entry.{Entry}
use Rattle.qq_entry.specs.declared.command.Stamp.{Stamp}
use Rattle.qq_entry.specs.declared.queue.QueueArgs.{QueueArgs}
use Rattle.qq_model.specs.declared.session.Gate.{Gate}
use Rattle.qq_model.specs.declared.session.Gate.TheVariants.{Fresh}
use Rattle.qq_model.specs.declared.session.OpenSession.{OpenSession}
use Rattle.qq_model.specs.declared.session.Worker.{Worker}
use Rattle.qq_model.specs.State.{State, Sessions, empty_queue}
use Rattle.qq_model.specs.Commands.{Acted}
use Rattle.qq_model.specs.Gate.{admit, change_session, gate, is_dead_letter, is_ended, is_open, is_worker, keep_answer, open_session, put_worker, put_worker_by, use_number}
use Rattle.qq_model.specs.Step.{carry_out, go_through, step_by, step}
use Rattle.qq_model.specs.Audit.{next_index, next_step, state_after}
use Rattle.qq_base.proofs.Lists.{In, AllByRecursion-in, In-append_right, list_any-in}
use Rattle.qq_model.proofs.Current.{numbered-plain}
use Rattle.qq_model.proofs.Later.{Guarded, IsKnown, UsedBy}
use Rattle.qq_model.proofs.Later.UsedBy.{EndedBy, OpenBy}
use Rattle.qq_model.proofs.LaterBySteps.{admit-by, answer-by, carry_out-by}
use Rattle.qq_model.proofs.SessionLemmas.{HasEnded, ended-from, same_session-true}
use Rattle.qq_laws.specs.Closing.{GivesWay}
use Rattle.qq_laws.proofs.ClosingLemmas.{never-lasts}
use Rattle.qq_laws.proofs.OnceLemmas.{fresh-gate, guarded_at}

-- once a worker is known, the earlier ones have ended
earlier-ended : (s : Sessions) (session : SessionId) (worker : Worker) → is_worker session ≡ true
    → In worker s.workers → worker.owner ≡ session.owner → session.number < worker.number → HasEnded s session
earlier-ended s session worker is here owner less =
    record { ended = inr (is, (worker, here, owner, inl less)) }

-- a command of a worker that is let in
admitted : (s : Sessions) (given : Stamp) (session : SessionId) → Guarded s → is_dead_letter given.session ≡ false
    → is_worker given.session ≡ true → is_worker session ≡ true → session.owner ≡ given.session.owner
    → session.number < given.session.number → HasEnded (admit s given) session
unfolding admit
admitted s given session guarded plain worker is owner less =
    subst (λ (t : Sessions). HasEnded t session) (sym (cond-false (is_dead_letter given.session) s _ plain))
    (elim (cases_Bool (is_open given.session s.opened)) [
      | inl opened ↦
          let t : Sessions = record s { opened = change_session given.session (use_number given) s.opened } in
          let some =
          list_any-in (λ (one : OpenSession). same_session one.session given.session) s.opened opened in
          let itself : some.0.session ≡ given.session = same_session-true some.0.session given.session some.2 in
          let known : IsKnown s.workers some.0.session =
          AllByRecursion-in
          (λ (one : OpenSession). is_worker one.session ≡ true → IsKnown s.workers one.session) some.0 s.opened guarded
          some.1 (ap is_worker itself ∙ worker) in
          let up : given.session.number ≤ known.worker.number =
          subst (λ (i : SessionId). i.number ≤ known.worker.number) itself known.number in
          subst (λ (u : Sessions). HasEnded u session) (sym (cond-true (is_open given.session s.opened) t _ opened))
          (earlier-ended t session known.worker is known.here
          (known.owner ∙ ap (λ (i : SessionId). i.owner) itself ∙ sym owner) (omega (arith, less, up)))
      | inr shut ↦
          let new : Worker = record { owner = given.session.owner; number = given.session.number } in
          let put : put_worker_by given.session s.workers ≡ put_worker new s.workers =
          cond-true (is_worker given.session) (put_worker new s.workers) s.workers worker in
          let here : In new (put_worker_by given.session s.workers) =
          subst (In new) (sym put)
          (In-append_right new (filter (λ (one : Worker). nat_lt one.owner new.owner) s.workers) _ (inl refl)) in
          subst (λ (u : Sessions). HasEnded u session)
          (sym (cond-false (is_open given.session s.opened) _ (open_session s given) shut))
          (earlier-ended (open_session s given) session new is here (sym owner) less)
    ])

-- and so it is once the command is carried out
gave-way : (s : State) (entry : Entry) (given : Stamp) (session : SessionId) → Guarded s.sessions
    → is_dead_letter given.session ≡ false → is_worker given.session ≡ true → is_worker session ≡ true
    → session.owner ≡ given.session.owner → session.number < given.session.number
    → stamp entry.command ≡ Some given → gate s.sessions given ≡ Fresh
    → is_ended (next_step s entry).state.sessions session ≡ true
unfolding step
gave-way s entry given session guarded plain worker is owner less stamped fresh =
    let x : Sessions = admit s.sessions given in
    let a : Acted = carry_out (next_index s) entry.command (record s { sessions = x }) in
    let ended : UsedBy (λ one. ⊥) x session =
    EndedBy (admitted s.sessions given session guarded plain worker is owner less) in
    let guarded' : Guarded x =
    (admit-by (λ one. ⊥) session s.sessions given fresh (λ own one q. q)).guarded guarded in
    let carried = carry_out-by (λ one. ⊥) session (next_index s) entry.command (record s { sessions = x })
    (λ one tag q. q) (inr is) in
    let answered = answer-by (λ one. ⊥) session a.progress.state.sessions given a.answer never-lasts in
    let last : UsedBy (λ one. ⊥) (keep_answer given a.answer a.progress.state.sessions) session =
    answered.used (carried.guarded guarded') (carried.used guarded' ended) in
    let at : Gate → Type 0 = λ g. is_ended (go_through g (next_index s) given entry.command s).state.sessions session
    ≡ true in
    let by : Option Stamp → Type 0 = λ o. is_ended (step_by o (next_index s) entry.command s).state.sessions session
    ≡ true in
    subst by (sym stamped) (subst at (sym fresh) (read _ last))
  where
    read : (t : Sessions) → UsedBy (λ (one : OpenSession). ⊥) t session → is_ended t session ≡ true
    read t (EndedBy over) = ended-from t session over
    read t (OpenBy one found never) = absurd never

pub gives_way : (args : QueueArgs) (before : List Entry) (entry : Entry)
    → GivesWay (state_after (empty_queue args) before) entry
gives_way args before entry given session stamped fresh worker is owner less =
    let s = state_after (empty_queue args) before in
    gave-way s entry given session (guarded_at given.session args before (inr worker))
    (numbered-plain given.session (inr worker)) worker is owner less stamped (fresh-gate s entry given stamped fresh)
