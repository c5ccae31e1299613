-- What is known of a session lasts through each change of the sessions.
use Rattle.std.proofs.Common.{◌≡◌, ℕ, ◌≤◌, Bool, true, not, ◌&&◌, ◌||◌, List, Some, map, refl, sym, ap, ◌∙◌, subst, arith, if◌then◌else◌}
use Rattle.std.specs.Prelude.{nat_eq, nat_lt}
use Rattle.std.specs.List.{list_any, AllByRecursion}
use Rattle.std.proofs.lemmas.Bool.{cond_both}
use Rattle.qq_base.specs.declared.ids.SessionId.{SessionId}
use Rattle.qq_model.specs.declared.session.OpenSession.{OpenSession}
use Rattle.qq_model.specs.declared.session.Worker.{Worker}
use Rattle.qq_model.specs.State.{Sessions}
use Rattle.qq_base.specs.Ids.{same_session}
use Rattle.qq_model.specs.Gate.{is_client, is_worker, session_of, is_open, is_ended, change_session}
use Rattle.qq_base.proofs.Lists.{In, find-in, AllByRecursion-map, list_any-map}
use Rattle.qq_model.proofs.Lists.{find-map}
use Rattle.qq_model.proofs.SessionLemmas.{HasEnded, ended-from, ended-true, same_session-true}

-- a session has ended, or goes on from a number and with tags up to one
pub data Used (s : Sessions) (session : SessionId) (number tag : ℕ) : Type 0 where
  IsOver : HasEnded s session → Used s session number tag
  GoesOn : (one : OpenSession) → session_of session s.opened ≡ Some one → number ≤ one.next → tag ≤ one.tag
      → Used s session number tag

-- a worker of the same source queue, as great or greater, is known
pub record IsKnown (workers : List Worker) (session : SessionId) : Type 0 where
  pub worker : Worker
  pub here : In worker workers
  pub owner : worker.owner ≡ session.owner
  pub number : session.number ≤ worker.number

-- each open session of a worker is known
abbrev pub Guarded : Sessions → Type 0
Guarded s =
    AllByRecursion (λ (one : OpenSession). is_worker one.session ≡ true → IsKnown s.workers one.session) s.opened

-- a session has ended, or it is open and Q holds of it
pub data UsedBy (Q : OpenSession → Type 0) (s : Sessions) (session : SessionId) : Type 0 where
  EndedBy : HasEnded s session → UsedBy Q s session
  OpenBy : (one : OpenSession) → session_of session s.opened ≡ Some one → Q one → UsedBy Q s session

-- what Q says of a session is true later, unless it ends
pub record LaterBy (Q : OpenSession → Type 0) (session : SessionId) (s t : Sessions) : Type 0 where
  pub guarded : Guarded s → Guarded t
  pub used : Guarded s → UsedBy Q s session → UsedBy Q t session

pub LaterBy-same : (Q : OpenSession → Type 0) (session : SessionId) (s : Sessions) → LaterBy Q session s s
LaterBy-same Q session s = record { guarded = λ g. g; used = λ g u. u }

pub LaterBy-trans : (Q : OpenSession → Type 0) (session : SessionId) (s t u : Sessions) → LaterBy Q session s t
    → LaterBy Q session t u → LaterBy Q session s u
LaterBy-trans Q session s t u first second =
    record {
      guarded = λ g. second.guarded (first.guarded g);
      used = λ g used. second.used (first.guarded g) (first.used g used);
    }

-- what was known of a session is known later
pub record Later (session : SessionId) (s t : Sessions) : Type 0 where
  pub guarded : Guarded s → Guarded t
  pub used : (number tag : ℕ) → Guarded s → Used s session number tag → Used t session number tag

pub Later-same : (session : SessionId) (s : Sessions) → Later session s s
Later-same session s = record { guarded = λ g. g; used = λ number tag g u. u }

pub Later-trans : (session : SessionId) (s t u : Sessions) → Later session s t → Later session t u → Later session s u
Later-trans session s t u first second =
    record {
      guarded = λ g. second.guarded (first.guarded g);
      used = λ number tag g used. second.used number tag (first.guarded g) (first.used number tag g used);
    }

-- whether a session has ended hangs on whether it is open, and not on what is open else
pub ended-same : (session : SessionId) (s : Sessions) (opened : List OpenSession)
    → is_open session opened ≡ is_open session s.opened
    → is_ended (record s { opened = opened }) session ≡ is_ended s session
ended-same session s opened same =
    let by : Bool → Bool = λ o. (is_client session && list_any (λ (n : ℕ). nat_eq n session.number) s.ended)
    || (is_worker session && list_any
    (λ (w : Worker). nat_eq w.owner session.owner
    && (nat_lt session.number w.number || (nat_eq session.number w.number && not o))) s.workers) in
    ap by same

-- Open sessions are changed one by one ---------------------------------------------------------------------

-- a session's numbers and tags don't fall
abbrev pub IsNoLess : OpenSession → OpenSession → Type 0
IsNoLess old new = (old.next ≤ new.next) × (old.tag ≤ new.tag)

-- a session's next number and its greatest tag are at least these
abbrev pub Reaches : ℕ → ℕ → OpenSession → Type 0
Reaches number tag one = (number ≤ one.next) × (tag ≤ one.tag)

pub Later-from : (session : SessionId) (s t : Sessions)
    → ((number tag : ℕ) → LaterBy (Reaches number tag) session s t) → Later session s t
Later-from session s t by = record {
  guarded = (by 0 0).guarded;
  used = λ number tag g used. back number tag ((by number tag).used g (onward number tag used));
}
  where
    onward : (number tag : ℕ) → Used s session number tag → UsedBy (Reaches number tag) s session
    onward number tag (IsOver over) = EndedBy over
    onward number tag (GoesOn one found next above) = OpenBy one found (next, above)

    back : (number tag : ℕ) → UsedBy (Reaches number tag) t session → Used t session number tag
    back number tag (EndedBy over) = IsOver over
    back number tag (OpenBy one found reaches) = GoesOn one found reaches.0 reaches.1

pub LaterBy-changed : (Q : OpenSession → Type 0) (session : SessionId) (s : Sessions) (f : OpenSession → OpenSession)
    → ((one : OpenSession) → (f one).session ≡ one.session)
    → ((one : OpenSession) → session_of session s.opened ≡ Some one → Q one → Q (f one))
    → LaterBy Q session s (record s { opened = map f s.opened })
LaterBy-changed Q session s f same lasts = record {
  guarded =
      λ g. AllByRecursion-map (λ (one : OpenSession). is_worker one.session ≡ true → IsKnown s.workers one.session)
      (λ (one : OpenSession). is_worker one.session ≡ true → IsKnown s.workers one.session) f s.opened
      (λ one known is. subst (IsKnown s.workers) (sym (same one)) (known (ap is_worker (sym (same one)) ∙ is))) g;
  used = λ g u. later u;
}
  where
    t : Sessions
    t = record s { opened = map f s.opened }

    still : (one : OpenSession) → same_session (f one).session session ≡ same_session one.session session
    still one = ap (λ (id : SessionId). same_session id session) (same one)

    later : UsedBy Q s session → UsedBy Q t session
    later (EndedBy ended) =
        let opened : is_open session (map f s.opened) ≡ is_open session s.opened =
        list_any-map (λ (one : OpenSession). same_session one.session session) f s.opened still in
        EndedBy (ended-true t session (ended-same session s (map f s.opened) opened ∙ ended-from s session ended))
    later (OpenBy one found holds) =
        OpenBy (f one) (find-map (λ (one : OpenSession). same_session one.session session) f s.opened one still found)
        (lasts one found holds)

-- the sessions of one id are changed
pub LaterBy-with_session : (Q : OpenSession → Type 0) (session : SessionId) (s : Sessions) (id : SessionId)
    (change : OpenSession → OpenSession) → ((one : OpenSession) → (change one).session ≡ one.session)
    → ((one : OpenSession) → session ≡ id → session_of id s.opened ≡ Some one → Q one → Q (change one))
    → LaterBy Q session s (record s { opened = change_session id change s.opened })
LaterBy-with_session Q session s id change same lasts =
    LaterBy-changed Q session s (λ (one : OpenSession). if same_session one.session id then change one else one)
    (λ one. cond_both (same_session one.session id) (change one) one (λ (o : OpenSession). o.session ≡ one.session)
    (λ _. same one) (λ _. refl))
    (λ one found holds. cond_both (same_session one.session id) (change one) one Q
    (λ is. let its = own one found is in
    lasts one its (ap (λ (i : SessionId). session_of i s.opened) (sym its) ∙ found) holds) (λ _. holds))
  where
    own : (one : OpenSession) → session_of session s.opened ≡ Some one → same_session one.session id ≡ true
        → session ≡ id
    own one found is =
        let mine : one.session ≡ session =
        same_session-true one.session session
        (find-in (λ (o : OpenSession). same_session o.session session) s.opened one found).1 in
        sym mine ∙ same_session-true one.session id is

pub Later-with_session : (session : SessionId) (s : Sessions) (id : SessionId) (change : OpenSession → OpenSession)
    → ((one : OpenSession) → (change one).session ≡ one.session)
    → ((one : OpenSession) → session_of id s.opened ≡ Some one → IsNoLess one (change one))
    → Later session s (record s { opened = change_session id change s.opened })
Later-with_session session s id change same rises =
    Later-from session s (record s { opened = change_session id change s.opened })
    (λ number tag. LaterBy-with_session (Reaches number tag) session s id change same
    (λ one own found reaches. let more = rises one found in
    (omega (arith, more.0, reaches.0), omega (arith, more.1, reaches.1))))
