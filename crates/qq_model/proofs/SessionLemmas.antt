-- What a queue knows of a session lasts: an ended one stays ended, an open one's numbers and tags only rise.
use Rattle.std.proofs.Common.{◌≡◌, ℕ, ◌<◌, ◌⊎◌, true, false, not, ◌&&◌, ◌||◌, refl, ap, ◌∙◌, subst, inl, inr}
use Rattle.std.specs.Prelude.{nat_eq, nat_lt}
use Rattle.std.specs.List.{list_any}
use Rattle.std.proofs.lemmas.Bool.{and_parts, and_from, or_cases, or_left, or_right, and_left, and_right, eqb-true, eq-eqb, ne_eqb, ltb-true, lt-ltb, not-true, not_from_false}
use Rattle.qq_base.specs.declared.ids.SessionId.{SessionId}
use Rattle.qq_model.specs.declared.session.Worker.{Worker}
use Rattle.qq_model.specs.State.{Sessions}
use Rattle.qq_base.specs.Ids.{same_session}
use Rattle.qq_model.specs.Gate.{is_client, is_worker, is_open, has_given_way, is_ended}
use Rattle.qq_base.proofs.Lists.{In, list_any-in, list_any-from_in}

-- Lists --------------------------------------------------------------------------------------------------

-- Sessions -----------------------------------------------------------------------------------------------

pub same_session-true : (a b : SessionId) → same_session a b ≡ true → a ≡ b
same_session-true a b same =
    let parts = and_parts (nat_eq a.class b.class && nat_eq a.owner b.owner) (nat_eq a.number b.number) same in
    let first = and_parts (nat_eq a.class b.class) (nat_eq a.owner b.owner) parts.0 in
    let class : a.class ≡ b.class = eqb-true a.class b.class first.0 in
    let owner : a.owner ≡ b.owner = eqb-true a.owner b.owner first.1 in
    let number : a.number ≡ b.number = eqb-true a.number b.number parts.1 in
    ap (λ (n : ℕ). let made : SessionId = record { class = n; owner = a.owner; number = a.number } in made) class
    ∙ ap (λ (n : ℕ). let made : SessionId = record { class = b.class; owner = n; number = a.number } in made) owner
    ∙ ap (λ (n : ℕ). let made : SessionId = record { class = b.class; owner = b.owner; number = n } in made) number

pub same_session-refl : (a : SessionId) → same_session a a ≡ true
same_session-refl a =
    and_from _ _ (and_from _ _ (eq-eqb a.class a.class refl) (eq-eqb a.owner a.owner refl))
    (eq-eqb a.number a.number refl)

-- sessions of another class or owner are others
pub other_owner : (a b : SessionId) → (a.owner ≡ b.owner → ⊥) → same_session a b ≡ false
other_owner a b differ = and_left _ _ (and_right (nat_eq a.class b.class) _ (ne_eqb a.owner b.owner differ))

pub other_class : (a b : SessionId) → (a.class ≡ b.class → ⊥) → same_session a b ≡ false
other_class a b differ = and_left _ _ (and_left _ (nat_eq a.owner b.owner) (ne_eqb a.class b.class differ))

-- what has ended
pub record HasEnded (s : Sessions) (session : SessionId) : Type 0 where
  pub ended : ((is_client session ≡ true) × In session.number s.ended)
      ⊎ ((is_worker session ≡ true) × ((w : Worker) × In w s.workers × (w.owner ≡ session.owner)
      × ((session.number < w.number) ⊎ ((session.number ≡ w.number) × (is_open session s.opened ≡ false)))))

pub ended-true : (s : Sessions) (session : SessionId) → is_ended s session ≡ true → HasEnded s session
ended-true s session ended =
    by (or_cases (is_client session && list_any (λ n. nat_eq n session.number) s.ended)
    (is_worker session && list_any (has_given_way s session) s.workers) ended)
  where
    by : ((is_client session && list_any (λ n. nat_eq n session.number) s.ended) ≡ true)
        ⊎ ((is_worker session && list_any (has_given_way s session) s.workers) ≡ true) → HasEnded s session
    by (inl client) =
        let parts = and_parts (is_client session) _ client in
        let some = list_any-in (λ n. nat_eq n session.number) s.ended parts.1 in
        record {
          ended = inl (
            parts.0,
            subst (λ (n : ℕ). In n s.ended) (eqb-true some.0 session.number some.2)
                some.1,
          );
        }
    by (inr worker) =
        let parts = and_parts (is_worker session) _ worker in
        let some = list_any-in (has_given_way s session) s.workers parts.1 in
        let passed = and_parts (nat_eq some.0.owner session.owner) _ some.2 in
        let how : (session.number < some.0.number)
        ⊎ ((session.number ≡ some.0.number) × (is_open session s.opened ≡ false)) =
        elim (or_cases (nat_lt session.number some.0.number) _ passed.1) [
          | inl less ↦ inl (ltb-true session.number some.0.number less)
          | inr same ↦
              let both = and_parts (nat_eq session.number some.0.number) (not (is_open session s.opened)) same in
              inr (eqb-true session.number some.0.number both.0, not-true (is_open session s.opened) both.1)
        ] in
        record { ended = inr (parts.0, (some.0, some.1, eqb-true some.0.owner session.owner passed.0, how)) }

pub ended-from : (s : Sessions) (session : SessionId) → HasEnded s session → is_ended s session ≡ true
ended-from s session has = by has.ended
  where
    by : ((is_client session ≡ true) × In session.number s.ended)
        ⊎ ((is_worker session ≡ true) × ((w : Worker) × In w s.workers × (w.owner ≡ session.owner)
        × ((session.number < w.number) ⊎ ((session.number ≡ w.number) × (is_open session s.opened ≡ false)))))
        → is_ended s session ≡ true
    by (inl client) =
        or_left _ _ (and_from (is_client session) (list_any (λ n. nat_eq n session.number) s.ended) client.0
        (list_any-from_in (λ n. nat_eq n session.number) session.number s.ended client.1
        (eq-eqb session.number session.number refl)))
    by (inr worker) =
        let w : Worker = worker.1.0 in
        let how : (nat_lt session.number w.number ||
        (nat_eq session.number w.number && not (is_open session s.opened)))
        ≡ true =
        elim (worker.1.3) [
          | inl less ↦ or_left (nat_lt session.number w.number) _ (lt-ltb session.number w.number less)
          | inr same ↦
              or_right (nat_lt session.number w.number) _
              (and_from (nat_eq session.number w.number) (not (is_open session s.opened))
              (eq-eqb session.number w.number same.0) (not_from_false (is_open session s.opened) same.1))
        ] in
        or_right _ _ (and_from (is_worker session) (list_any (has_given_way s session) s.workers) worker.0
        (list_any-from_in (has_given_way s session) w s.workers worker.1.1
        (and_from (nat_eq w.owner session.owner) _ (eq-eqb w.owner session.owner worker.1.2) how)))
