-- What is known of a session lasts where a session is opened.
use Rattle.std.proofs.Common.{◌≡◌, ℕ, ◌<◌, ◌≤◌, ◌⊎◌, Bool, true, false, not, ◌&&◌, List, [], ◌∷◌, Option, Some, refl, sym, ap, ◌∙◌, subst, inl, inr, arith}
use Rattle.std.specs.Prelude.{nat_eq, nat_lt, filter, find}
use Rattle.std.specs.Option.{option_or}
use Rattle.std.proofs.lemmas.List.Folds.{list_any-append, find-append}
use Rattle.std.proofs.lemmas.Bool.{false≢true, cases_Bool, cond-true, cond-false, and_parts, or_from, eqb-true, ltb-true, lt-ltb, cases_order, cases_eq, cases_lt, not_from_false}
use Rattle.qq_base.specs.declared.ids.SessionId.{SessionId}
use Rattle.qq_entry.specs.declared.command.Stamp.{Stamp}
use Rattle.qq_model.specs.declared.session.OpenSession.{OpenSession}
use Rattle.qq_model.specs.declared.session.Worker.{Worker}
use Rattle.qq_model.specs.State.{Sessions}
use Rattle.qq_base.specs.Ids.{same_session}
use Rattle.qq_model.specs.Gate.{is_worker, session_of, is_open, is_ended, new_session, is_giving_way, put_worker, put_worker_by, open_session}
use Rattle.qq_base.proofs.Lists.{In, AllByRecursion-weaker, find-in, AllByRecursion-append, In-filter, In-append_left, In-append_right, AllByRecursion-filter, list_any-filter}
use Rattle.qq_model.proofs.Lists.{find-filter, list_any-found}
use Rattle.qq_model.proofs.Later.{Guarded, IsKnown, Later, LaterBy, Later-from, Reaches, UsedBy}
use Rattle.qq_model.proofs.SessionLemmas.{HasEnded, ended-from, other_class, other_owner, same_session-true}
use Rattle.qq_model.proofs.Later.UsedBy.{EndedBy, OpenBy}

not-opened : (session : SessionId) (opened : List OpenSession) (one : OpenSession) → is_open session opened ≡ false
    → session_of session opened ≡ Some one → ⊥
not-opened session opened one none found =
    false≢true (sym none ∙ list_any-found (λ (o : OpenSession). same_session o.session session) opened one found)

-- the worker of a session that is neither open nor ended is greater than all that are known of its source queue
pub above_known : (s : Sessions) (session : SessionId) (w : Worker) → is_worker session ≡ true
    → is_open session s.opened ≡ false → is_ended s session ≡ false → In w s.workers → w.owner ≡ session.owner
    → w.number < session.number
above_known s session w is closed going here owner = elim (cases_lt w.number session.number) [
  | inl less ↦ less
  | inr more ↦
      let how : (session.number < w.number) ⊎ ((session.number ≡ w.number) × (is_open session s.opened ≡ false)) =
      elim (cases_order session.number w.number) [
        | inl same ↦ inr (same, closed)
        | inr other ↦ elim (other) [ inl less ↦ inl less | inr greater ↦ absurd (omega arith) ]
      ] in
      let over : HasEnded s session = record { ended = inr (is, (w, here, owner, how)) } in
      absurd (false≢true (sym going ∙ ended-from s session over))
]

put_worker-new : (new : Worker) (workers : List Worker) → In new (put_worker new workers)
put_worker-new new workers =
    In-append_right new (filter (λ (w : Worker). nat_lt w.owner new.owner) workers)
    (new ∷ filter (λ (w : Worker). nat_lt new.owner w.owner) workers) (inl refl)

put_worker-other : (new w : Worker) (workers : List Worker) → In w workers → (w.owner ≡ new.owner → ⊥)
    → In w (put_worker new workers)
put_worker-other new w workers here differ =
    let less : List Worker = filter (λ (one : Worker). nat_lt one.owner new.owner) workers in
    let more : List Worker = filter (λ (one : Worker). nat_lt new.owner one.owner) workers in
    elim (cases_order w.owner new.owner) [
      | inl same ↦ absurd (differ same)
      | inr other ↦ elim (other) [
        | inl lt ↦
            In-append_left w less (new ∷ more)
            (In-filter (λ (one : Worker). nat_lt one.owner new.owner) w workers here (lt-ltb w.owner new.owner lt))
        | inr gt ↦
            In-append_right w less (new ∷ more)
            (inr (In-filter (λ (one : Worker). nat_lt new.owner one.owner) w workers here
            (lt-ltb new.owner w.owner gt)))
      ]
    ]

-- the workers once a session is opened: it is known, if it is one of a worker
opened-known : (s : Sessions) (session : SessionId) → is_worker session ≡ true
    → IsKnown (put_worker_by session s.workers) session
opened-known s session is =
    let new : Worker = record { owner = session.owner; number = session.number } in
    subst (λ (ws : List Worker). IsKnown ws session)
    (sym (cond-true (is_worker session) (put_worker new s.workers) s.workers is))
    (record { worker = new; here = put_worker-new new s.workers; owner = refl; number = omega arith })

-- a worker that was known is known, or was of the opened one's source queue and is less
opened-succeeds : (s : Sessions) (session : SessionId) (w : Worker) → is_open session s.opened ≡ false
    → is_ended s session ≡ false → In w s.workers
    → In w (put_worker_by session s.workers)
    ⊎ ((is_worker session ≡ true) × (w.owner ≡ session.owner) × (w.number < session.number))
opened-succeeds s session w closed going here = by (cases_Bool (is_worker session))
  where
    new : Worker
    new = record { owner = session.owner; number = session.number }

    by : (is_worker session ≡ true) ⊎ (is_worker session ≡ false) → In w (put_worker_by session s.workers)
        ⊎ ((is_worker session ≡ true) × (w.owner ≡ session.owner) × (w.number < session.number))
    by (inl is) = elim (cases_eq w.owner session.owner) [
      | inl same ↦ inr (is, same, above_known s session w is closed going here same)
      | inr differ ↦
          inl (subst (In w) (sym (cond-true (is_worker session) (put_worker new s.workers) s.workers is))
          (put_worker-other new w s.workers here differ))
    ]
    by (inr none) =
        inl (subst (In w) (sym (cond-false (is_worker session) (put_worker new s.workers) s.workers none)) here)

known-later : (s : Sessions) (session id : SessionId) → is_open session s.opened ≡ false → is_ended s session ≡ false
    → IsKnown s.workers id → IsKnown (put_worker_by session s.workers) id
known-later s session id closed going known = elim (opened-succeeds s session known.worker closed going known.here) [
  | inl here ↦ record { worker = known.worker; here = here; owner = known.owner; number = known.number }
  | inr less ↦
      let mine = opened-known s session less.0 in
      record {
        worker = mine.worker;
        here = mine.here;
        owner = mine.owner ∙ sym less.1 ∙ known.owner;
        number = omega (arith, mine.number, known.number, less.2);
      }
]

pub LaterBy-opened : (Q : OpenSession → Type 0) (session : SessionId) (s : Sessions) (stamp : Stamp)
    → is_open stamp.session s.opened ≡ false
    → is_ended s stamp.session ≡ false → LaterBy Q session s (open_session s stamp)
LaterBy-opened Q session s stamp closed going = record { guarded = guarded; used = λ g u. lasts u }
  where
    id : SessionId
    id = stamp.session

    t : Sessions
    t = open_session s stamp

    stays : OpenSession → Bool
    stays one = not (is_giving_way id one)

    guarded : Guarded s → Guarded t
    guarded g =
        let known : OpenSession → Type 0 = λ one. is_worker one.session ≡ true → IsKnown t.workers one.session in
        AllByRecursion-append known (filter stays s.opened) (new_session stamp ∷ [])
        (AllByRecursion-filter known stays s.opened
        (AllByRecursion-weaker (λ (one : OpenSession). is_worker one.session ≡ true → IsKnown s.workers one.session)
        known (λ one before is. known-later s id one.session closed going (before is)) s.opened g))
        ((λ is. opened-known s id is), tt)

    -- a session that isn't open, of another class or owner, isn't opened
    stays_closed : is_open session s.opened ≡ false → same_session id session ≡ false → is_open session t.opened ≡
        false
    stays_closed none other =
        list_any-append (λ (one : OpenSession). same_session one.session session) (filter stays s.opened)
        (new_session stamp ∷ [])
        ∙ or_from _ _ (list_any-filter (λ (one : OpenSession). same_session one.session session) stays s.opened none)
        (or_from (same_session id session) false other refl)

    -- a worker of the opened one's source queue is passed
    passed : is_worker id ≡ true → is_worker session ≡ true → session.owner ≡ id.owner → session.number < id.number
        → HasEnded t session
    passed is mine owner less =
        let known = opened-known s id is in
        let more : session.number < known.worker.number = omega (arith, known.number) in
        record { ended = inr (mine, (known.worker, known.here, known.owner ∙ sym owner, inl more)) }

    worker_over : (w : Worker) → is_worker session ≡ true → In w s.workers → w.owner ≡ session.owner
        → (session.number < w.number) ⊎ ((session.number ≡ w.number) × (is_open session s.opened ≡ false))
        → HasEnded t session
    worker_over w mine here owner how = elim (opened-succeeds s id w closed going here) [
      | inl there ↦ elim (how) [
        | inl less ↦ record { ended = inr (mine, (w, there, owner, inl less)) }
        | inr same ↦ elim (cases_eq id.owner session.owner) [
          | inl own ↦ elim (cases_eq id.class session.class) [
            | inl class ↦
                let is : is_worker id ≡ true = ap (λ (n : ℕ). nat_eq n 2) class ∙ mine in
                let above : w.number < id.number = above_known s id w is closed going here (owner ∙ sym own) in
                passed is mine (sym own) (omega (arith, same.0))
            | inr differ ↦
                record {
                  ended =
                      inr (
                        mine,
                        (
                          w,
                          there,
                          owner,
                          inr
                              (same.0, stays_closed same.1 (other_class id session differ)),
                        ),
                      );
                }
          ]
          | inr differ ↦
              record {
                ended =
                    inr (mine, (w, there, owner, inr (same.0, stays_closed same.1 (other_owner id session differ))));
              }
        ]
      ]
      | inr less ↦
          let below : session.number ≤ w.number =
          elim (how) [ inl lt ↦ omega arith | inr same ↦ omega (arith, same.0) ] in
          passed less.0 mine (sym owner ∙ less.1) (omega (arith, less.2))
    ]

    lasts : UsedBy Q s session → UsedBy Q t session
    lasts (EndedBy over) = elim (over.ended) [
      | inl client ↦ EndedBy (record { ended = inl client })
      | inr worker ↦ EndedBy (worker_over worker.1.0 worker.0 worker.1.1 worker.1.2 worker.1.3)
    ]
    lasts (OpenBy one found holds) = elim (cases_Bool (is_giving_way id one)) [
      | inl gives ↦
          let mine : one.session ≡ session =
          same_session-true one.session session
          (find-in (λ (o : OpenSession). same_session o.session session) s.opened one found).1 in
          let a =
          and_parts (is_worker id && is_worker one.session && nat_eq one.session.owner id.owner)
          (nat_lt one.session.number id.number) gives in
          let b = and_parts (is_worker id && is_worker one.session) (nat_eq one.session.owner id.owner) a.0 in
          let c = and_parts (is_worker id) (is_worker one.session) b.0 in
          let less : one.session.number < id.number = ltb-true one.session.number id.number a.1 in
          EndedBy (passed c.0 (ap is_worker (sym mine) ∙ c.1)
          (ap (λ (i : SessionId). i.owner) (sym mine) ∙ eqb-true one.session.owner id.owner b.1)
          (subst (λ (i : SessionId). i.number < id.number) mine less))
      | inr keeps ↦
          let stands =
          find-filter (λ (o : OpenSession). same_session o.session session) stays s.opened one found
          (not_from_false (is_giving_way id one) keeps) in
          OpenBy one (find-append (λ (o : OpenSession). same_session o.session session) (filter stays s.opened)
          (new_session stamp ∷ [])
          ∙ ap (λ (o : Option OpenSession).
          option_or o (find (λ (o : OpenSession). same_session o.session session) (new_session stamp ∷ []))) stands)
          holds
    ]

pub Later-opened : (session : SessionId) (s : Sessions) (stamp : Stamp) → is_open stamp.session s.opened ≡ false
    → is_ended s stamp.session ≡ false → Later session s (open_session s stamp)
Later-opened session s stamp closed going =
    Later-from session s (open_session s stamp)
    (λ number tag. LaterBy-opened (Reaches number tag) session s stamp closed going)
