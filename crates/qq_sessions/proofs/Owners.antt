-- Each open worker's session has its source queue among the workers.
use Rattle.std.proofs.Common.{◌≡◌, ℕ, Bool, true, false, List, [], ◌∷◌, ◌++◌, refl, sym, ap, ◌∙◌, subst, inl, inr, if◌then◌else◌}
use Rattle.std.specs.Prelude.{filter, nat_eq, nat_lt}
use Rattle.std.specs.List.{AllByRecursion}
use Rattle.std.proofs.lemmas.Bool.{false≢true, cases_order, cond-true, cond_both, and_parts, and_left, eqb-true, eq-eqb, lt-ltb, false_from_ne_true}
use Rattle.qq_base.specs.declared.ids.SessionId.{SessionId}
use Rattle.qq_base.specs.Ids.{same_session}
use Rattle.qq_base.proofs.Lists.{AllByRecursion-append, AllByRecursion-filter, AllByRecursion-map, AllByRecursion-weaker, In-append_left, In-append_right, In-filter, list_any-in, list_any-from_in}
use Rattle.qq_entry.specs.declared.command.Stamp.{Stamp}
use Rattle.qq_model.specs.declared.session.OpenSession.{OpenSession}
use Rattle.qq_model.specs.declared.session.Worker.{Worker}
use Rattle.qq_model.specs.Gate.{is_worker, change_session, is_giving_way, put_worker_by, new_session}
use Rattle.qq_sessions.specs.Rising.{put_by, owner_key, has_owner}
use Rattle.qq_sessions.specs.Opened.{HasOwner, HaveOwners}

pub owners-change : (session : SessionId) (f : OpenSession → OpenSession) (ones : List OpenSession) (workers : List Worker)
    → ((one : OpenSession) → (f one).session ≡ one.session) → HaveOwners ones workers
    → HaveOwners (change_session session f ones) workers
owners-change session f ones workers same have =
    AllByRecursion-map (HasOwner workers) (HasOwner workers)
    (λ (one : OpenSession). if same_session one.session session then f one else one) ones
    (λ one has. cond_both (same_session one.session session) (f one) one (HasOwner workers)
    (λ _. subst (λ (id : SessionId). is_worker id ≡ true → has_owner id.owner workers ≡ true) (sym (same one)) has)
    (λ _. has)) have

pub owners-filter : (keeps : OpenSession → Bool) (ones : List OpenSession) (workers : List Worker)
    → HaveOwners ones workers → HaveOwners (filter keeps ones) workers
owners-filter keeps ones workers have = AllByRecursion-filter (HasOwner workers) keeps ones have

-- a put leaves each owner there
still-there : (owner : ℕ) (new : Worker) (workers : List Worker) → has_owner owner workers ≡ true
    → has_owner owner (put_by owner_key new workers) ≡ true
still-there owner new workers has =
    let some = list_any-in (λ (w : Worker). nat_eq w.owner owner) workers has in
    let w : Worker = some.0 in
    let below : Worker → Bool = λ x. nat_lt x.owner new.owner in
    let beyond : Worker → Bool = λ x. nat_lt new.owner x.owner in
    elim (cases_order w.owner new.owner) [
      | inl same ↦
          list_any-from_in (λ (x : Worker). nat_eq x.owner owner) new (put_by owner_key new workers)
          (In-append_right new (filter below workers) (new ∷ filter beyond workers) (inl refl))
          (eq-eqb new.owner owner (sym same ∙ eqb-true w.owner owner some.2))
      | inr other ↦ elim other [
        | inl less ↦
            list_any-from_in (λ (x : Worker). nat_eq x.owner owner) w (put_by owner_key new workers)
            (In-append_left w (filter below workers) (new ∷ filter beyond workers)
            (In-filter below w workers some.1 (lt-ltb w.owner new.owner less))) some.2
        | inr more ↦
            list_any-from_in (λ (x : Worker). nat_eq x.owner owner) w (put_by owner_key new workers)
            (In-append_right w (filter below workers) (new ∷ filter beyond workers)
            (inr (In-filter beyond w workers some.1 (lt-ltb new.owner w.owner more)))) some.2
      ]
    ]

pub owners-put : (session : SessionId) (ones : List OpenSession) (workers : List Worker)
    → HaveOwners ones workers → HaveOwners ones (put_worker_by session workers)
owners-put session ones workers have =
    let new : Worker = record { owner = session.owner; number = session.number } in
    cond_both (is_worker session) (put_by owner_key new workers) workers (λ (ws : List Worker). HaveOwners ones ws)
    (λ _. AllByRecursion-weaker (HasOwner workers) (HasOwner (put_by owner_key new workers))
    (λ one has worker. still-there one.session.owner new workers (has worker)) ones have)
    (λ _. have)

pub owners-open : (stamp : Stamp) (ones : List OpenSession) (workers : List Worker) → HaveOwners ones workers
    → HaveOwners (ones ++ new_session stamp ∷ []) (put_worker_by stamp.session workers)
owners-open stamp ones workers have =
    let new : Worker = record { owner = stamp.session.owner; number = stamp.session.number } in
    let own : is_worker stamp.session ≡ true
    → has_owner stamp.session.owner (put_worker_by stamp.session workers) ≡ true = λ worker.
    subst (λ (ws : List Worker). has_owner stamp.session.owner ws ≡ true)
    (sym (cond-true (is_worker stamp.session) (put_by owner_key new workers) workers worker))
    (list_any-from_in (λ (x : Worker). nat_eq x.owner stamp.session.owner) new (put_by owner_key new workers)
    (In-append_right new (filter (λ (x : Worker). nat_lt x.owner new.owner) workers)
    (new ∷ filter (λ (x : Worker). nat_lt new.owner x.owner) workers) (inl refl))
    (eq-eqb new.owner stamp.session.owner refl)) in
    AllByRecursion-append (HasOwner (put_worker_by stamp.session workers)) ones (new_session stamp ∷ [])
    (owners-put stamp.session ones workers have) (own, tt)

-- only a worker's session makes others give way
pub none-for_client : (session : SessionId) (ones : List OpenSession) → is_worker session ≡ false
    → AllByRecursion (λ (one : OpenSession). is_giving_way session one ≡ false) ones
none-for_client session [] other = tt
none-for_client session (one ∷ ones) other =
    (and_left _ _ (and_left _ _ (and_left _ _ other)), none-for_client session ones other)

-- where no worker of the source queue was seen, nobody gives way
pub none-of_owner : (session : SessionId) (ones : List OpenSession) (workers : List Worker) → HaveOwners ones workers
    → has_owner session.owner workers ≡ false
    → AllByRecursion (λ (one : OpenSession). is_giving_way session one ≡ false) ones
none-of_owner session ones workers have unseen =
    AllByRecursion-weaker (HasOwner workers) (λ (one : OpenSession). is_giving_way session one ≡ false)
    (λ one has. false_from_ne_true (is_giving_way session one) (λ way.
    let three = and_parts _ _ way in
    let two = and_parts _ _ three.0 in
    let both = and_parts _ _ two.0 in
    let owner : one.session.owner ≡ session.owner = eqb-true one.session.owner session.owner two.1 in
    false≢true (sym unseen ∙ ap (λ (n : ℕ). has_owner n workers) (sym owner) ∙ has both.1))) ones have
