-- What is known of a session lasts where a session ends.
use Rattle.std.proofs.Common.{◌≡◌, ℕ, ◌+◌, ◌<◌, ◌⊎◌, Bool, true, false, not, List, [], ◌∷◌, Some, refl, sym, ap, ◌∙◌, subst, inl, inr, arith}
use Rattle.std.specs.Prelude.{nat_lt, filter}
use Rattle.std.proofs.lemmas.Bool.{cases_Bool, cond-true, cond_both, or_from, lt-ltb, cases_order, not-true, not_from_false}
use Rattle.qq_base.specs.declared.ids.SessionId.{SessionId}
use Rattle.qq_model.specs.declared.session.OpenSession.{OpenSession}
use Rattle.qq_model.specs.State.{Sessions}
use Rattle.qq_base.specs.Ids.{same_session}
use Rattle.qq_model.specs.Gate.{is_client, is_worker, session_of, is_open, put_ended, remember_end, is_end_remembered, end_session, IsNumbered}
use Rattle.qq_base.proofs.Lists.{In, AllByRecursion-in, find-in, In-filter, In-append_left, In-append_right, AllByRecursion-filter, list_any-filter}
use Rattle.qq_model.proofs.Lists.{find-filter}
use Rattle.qq_model.proofs.Later.{Guarded, IsKnown, Later, LaterBy, LaterBy-same, Later-from, Reaches, UsedBy}
use Rattle.qq_model.proofs.SessionLemmas.{HasEnded, same_session-true}
use Rattle.qq_model.proofs.Later.UsedBy.{EndedBy, OpenBy}

put_ended-new : (n : ℕ) (ns : List ℕ) → In n (put_ended n ns)
put_ended-new n ns =
    In-append_right n (filter (λ (m : ℕ). nat_lt m n) ns) (n ∷ filter (λ (m : ℕ). nat_lt n m) ns) (inl refl)

put_ended-old : (n m : ℕ) (ns : List ℕ) → In m ns → In m (put_ended n ns)
put_ended-old n m ns here =
    let less : List ℕ = filter (λ (k : ℕ). nat_lt k n) ns in
    let more : List ℕ = filter (λ (k : ℕ). nat_lt n k) ns in
    elim (cases_order m n) [
      | inl same ↦ In-append_right m less (n ∷ more) (inl same)
      | inr other ↦ elim (other) [
        | inl lt ↦ In-append_left m less (n ∷ more) (In-filter (λ (k : ℕ). nat_lt k n) m ns here (lt-ltb m n lt))
        | inr gt ↦ In-append_right m less (n ∷ more)
            (inr (In-filter (λ (k : ℕ). nat_lt n k) m ns here (lt-ltb n m gt)))
      ]
    ]

remember_end-old : (id : SessionId) (m : ℕ) (ns : List ℕ) → In m ns → In m (remember_end id ns)
remember_end-old id m ns here =
    cond_both (is_client id) (put_ended id.number ns) ns (In m) (λ _. put_ended-old id.number m ns here) (λ _. here)

-- the ended session isn't open
ended-gone : (id : SessionId) (ones : List OpenSession)
    → is_open id (filter (λ (one : OpenSession). not (same_session one.session id)) ones) ≡ false
ended-gone id [] = refl
ended-gone id (one ∷ ones) =
    let rest = ended-gone id ones in
    let others : List OpenSession = filter (λ (o : OpenSession). not (same_session o.session id)) ones in
    cond_both (not (same_session one.session id)) (one ∷ others) others
    (λ (os : List OpenSession). is_open id os ≡ false)
    (λ other. or_from (same_session one.session id) (is_open id others) (not-true (same_session one.session id) other)
    rest) (λ _. rest)

pub LaterBy-ends : (Q : OpenSession → Type 0) (session : SessionId) (s : Sessions) (id : SessionId)
    → IsNumbered session → LaterBy Q session s (end_session s id)
unfolding end_session
LaterBy-ends Q session s id numbered =
    cond_both (is_open id s.opened) shut _ (LaterBy Q session s) (λ _. record { guarded = guarded; used = lasts })
    (λ _. cond_both (is_end_remembered s id) unknown s (LaterBy Q session s) (λ _. record {
      guarded = λ g. g;
      used = λ g u. remembers u;
    }) (λ _. LaterBy-same Q session s))
  where
    stays : OpenSession → Bool
    stays one = not (same_session one.session id)

    shut : Sessions
    shut = record s { opened = filter stays s.opened; ended = remember_end id s.ended }

    unknown : Sessions
    unknown = record s { ended = put_ended id.number s.ended; seen = s.seen + 1 }

    guarded : Guarded s → Guarded shut
    guarded g =
        AllByRecursion-filter (λ (one : OpenSession). is_worker one.session ≡ true → IsKnown s.workers one.session)
        stays s.opened g

    remembers : UsedBy Q s session → UsedBy Q unknown session
    remembers (EndedBy over) = elim (over.ended) [
      | inl client ↦ EndedBy (record {
        ended = inl
            (client.0, put_ended-old id.number session.number s.ended client.1);
      })
      | inr worker ↦ EndedBy (record { ended = inr worker })
    ]
    remembers (OpenBy one found holds) = OpenBy one found holds

    -- the session itself has ended then
    itself : Guarded s → (one : OpenSession) → session_of session s.opened ≡ Some one → session ≡ id
        → HasEnded shut session
    itself g one found same = elim (numbered) [
      | inl client ↦
          let here : In id.number (remember_end id s.ended) =
          subst (In id.number)
          (sym (cond-true (is_client id) (put_ended id.number s.ended) s.ended (ap is_client (sym same) ∙ client)))
          (put_ended-new id.number s.ended) in
          record {
            ended = inl (client, subst (λ (i : SessionId). In i.number (remember_end id s.ended)) (sym same) here);
          }
      | inr worker ↦
          let stands = find-in (λ (o : OpenSession). same_session o.session session) s.opened one found in
          let mine : one.session ≡ session = same_session-true one.session session stands.1 in
          let known : IsKnown s.workers session =
          subst (IsKnown s.workers) mine
          (AllByRecursion-in (λ (o : OpenSession). is_worker o.session ≡ true → IsKnown s.workers o.session) one
          s.opened g stands.0 (ap is_worker mine ∙ worker)) in
          let how : (session.number < known.worker.number)
          ⊎ ((session.number ≡ known.worker.number) × (is_open session (filter stays s.opened) ≡ false)) =
          elim (cases_order session.number known.worker.number) [
            | inl eq ↦
                inr (
                  eq,
                  subst (λ (i : SessionId). is_open i (filter stays s.opened) ≡ false) (sym same)
                      (ended-gone id s.opened),
                )
            | inr other ↦ elim (other) [ inl lt ↦ inl lt | inr gt ↦ absurd (omega (arith, known.number)) ]
          ] in
          record { ended = inr (worker, (known.worker, known.here, known.owner, how)) }
    ]

    lasts : Guarded s → UsedBy Q s session → UsedBy Q shut session
    lasts g (EndedBy over) = elim (over.ended) [
      | inl client ↦ EndedBy (record { ended = inl (client.0, remember_end-old id session.number s.ended client.1) })
      | inr worker ↦ elim (worker.1.3) [
        | inl less ↦ EndedBy (record { ended = inr (worker.0, (worker.1.0, worker.1.1, worker.1.2, inl less)) })
        | inr same ↦
            EndedBy (record {
              ended = inr (
                worker.0,
                (
                  worker.1.0,
                  worker.1.1,
                  worker.1.2,
                  inr (
                    same.0,
                    list_any-filter (λ (o : OpenSession). same_session o.session session) stays s.opened
                        same.1,
                  ),
                ),
              );
            })
      ]
    ]
    lasts g (OpenBy one found holds) = elim (cases_Bool (same_session one.session id)) [
      | inl is ↦
          let mine : one.session ≡ session =
          same_session-true one.session session
          (find-in (λ (o : OpenSession). same_session o.session session) s.opened one found).1 in
          EndedBy (itself g one found (sym mine ∙ same_session-true one.session id is))
      | inr other ↦
          OpenBy one (find-filter (λ (o : OpenSession). same_session o.session session) stays s.opened one found
          (not_from_false (same_session one.session id) other)) holds
    ]

pub Later-ends : (session : SessionId) (s : Sessions) (id : SessionId) → IsNumbered session
    → Later session s (end_session s id)
Later-ends session s id numbered =
    Later-from session s (end_session s id) (λ number tag. LaterBy-ends (Reaches number tag) session s id numbered)
