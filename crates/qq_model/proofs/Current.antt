-- A session whose command was let in is open, and hasn't ended.
use Rattle.std.proofs.Common.{◌≡◌, ℕ, ◌<◌, Bool, true, false, not, cond, List, ◌∷◌, map, Option, Some, None, refl, sym, ap, ◌∙◌, subst, inl, inr, arith, if◌then◌else◌}
use Rattle.std.specs.Prelude.{nat_lt, nat_le, filter}
use Rattle.std.proofs.lemmas.Bool.{false≢true, cases_Bool, cond-true, cond-false, cond_both, leb-false, ltb-true, eqb-true, ne_eqb}
use Rattle.qq_base.specs.declared.ids.SessionId.{SessionId}
use Rattle.qq_base.specs.declared.ids.ConsumerId.{ConsumerId}
use Rattle.qq_entry.specs.declared.command.Stamp.{Stamp}
use Rattle.qq_model.specs.declared.session.OpenSession.{OpenSession}
use Rattle.qq_model.specs.declared.session.Worker.{Worker}
use Rattle.qq_model.specs.declared.session.Gate.TheVariants.{Fresh}
use Rattle.qq_model.specs.State.{Sessions}
use Rattle.qq_base.specs.Ids.{same_session}
use Rattle.qq_model.specs.Gate.{is_worker, is_dead_letter, session_of, is_open, is_ended, use_number, new_session, open_session, is_giving_way, put_worker, gate, admit, change_session, greatest_tag, tag_by, set_tag, take_tag, IsNumbered}
use Rattle.qq_entry.specs.Command.{stamp}
use Rattle.qq_base.proofs.Lists.{In, find-in, list_any-filter, list_any-map, In-append_cases, In-filter_passes}
use Rattle.qq_model.proofs.Lists.{find-map, list_any-found, find-none, find-last}
use Rattle.qq_model.proofs.LaterSteps.{fresh-going}
use Rattle.qq_model.proofs.Later.{Used, ended-same}
use Rattle.qq_model.proofs.Later.Used.{GoesOn, IsOver}
use Rattle.qq_model.proofs.SessionLemmas.{HasEnded, ended-from, ended-true, same_session-refl}

-- a session that is open, and hasn't ended
pub record IsCurrent (s : Sessions) (session : SessionId) : Type 0 where
  pub going : is_ended s session ≡ false
  pub one : OpenSession
  pub opened : session_of session s.opened ≡ Some one

pub current-with_session : (session : SessionId) (s : Sessions) (id : SessionId) (by : OpenSession → OpenSession)
    → ((one : OpenSession) → (by one).session ≡ one.session)
    → IsCurrent s session → IsCurrent (record s { opened = change_session id by s.opened }) session
current-with_session session s id by same current =
    let f : OpenSession → OpenSession = λ one. if same_session one.session id then by one else one in
    let test : OpenSession → Bool = λ one. same_session one.session session in
    let kept : (one : OpenSession) → test (f one) ≡ test one =
    λ one. cond_both (same_session one.session id) (by one) one (λ (o : OpenSession). test o ≡ test one)
    (λ _. ap (λ (i : SessionId). same_session i session) (same one)) (λ _. refl) in
    record {
      going = ended-same session s (map f s.opened) (list_any-map test f s.opened kept) ∙ current.going;
      one = f current.one;
      opened = find-map test f s.opened current.one kept current.opened;
    }

pub tag-current : (session : SessionId) (s : Sessions) (id : SessionId) (tag : ℕ) → IsCurrent s session
    → IsCurrent (take_tag id tag s) session
unfolding take_tag
tag-current session s id tag current = current-with_session session s id (set_tag tag) (λ one. refl) current

-- once its tag is used, a consumer's id is spent
pub tag-used : (s : Sessions) (id : ConsumerId) → IsCurrent s id.session
    → Used (take_tag id.session id.tag s) id.session 0 id.tag
unfolding take_tag
tag-used s id current =
    let session : SessionId = id.session in
    let test : OpenSession → Bool = λ one. same_session one.session session in
    let f : OpenSession → OpenSession = λ one. if same_session one.session session then set_tag id.tag one else one in
    let kept : (one : OpenSession) → test (f one) ≡ test one =
    λ one. cond_both (same_session one.session session) (set_tag id.tag one) one
    (λ (o : OpenSession). test o ≡ test one) (λ _. refl) (λ _. refl) in
    let is : f current.one ≡ set_tag id.tag current.one =
    cond-true (test current.one) (set_tag id.tag current.one) current.one
    (find-in test s.opened current.one current.opened).1 in
    GoesOn (set_tag id.tag current.one)
    (find-map test f s.opened current.one kept current.opened ∙ ap (λ (o : OpenSession). Some o) is) (omega arith)
    (omega arith)

-- a tag above all that its session used isn't spent
pub tag-unused : (s : Sessions) (id : ConsumerId) → IsCurrent s id.session
    → nat_le id.tag (greatest_tag id.session s) ≡ false → Used s id.session 0 id.tag → ⊥
tag-unused s id current above (IsOver over) = false≢true (sym current.going ∙ ended-from s id.session over)
tag-unused s id current above (GoesOn one found next tag) =
    let less : greatest_tag id.session s < id.tag = leb-false id.tag (greatest_tag id.session s) above in
    let is : greatest_tag id.session s ≡ one.tag = ap tag_by found in
    absurd (omega arith)

-- of a source queue one worker is known, the new one
put_worker-own : (new w : Worker) (workers : List Worker) → In w (put_worker new workers) → w.owner ≡ new.owner
    → w ≡ new
put_worker-own new w workers here owner =
    elim (In-append_cases w (filter (λ (one : Worker). nat_lt one.owner new.owner) workers)
    (new ∷ filter (λ (one : Worker). nat_lt new.owner one.owner) workers) here) [
      | inl before ↦
          let less : w.owner < new.owner =
          ltb-true w.owner new.owner
          (In-filter_passes (λ (one : Worker). nat_lt one.owner new.owner) w workers before) in
          absurd (omega arith)
      | inr rest ↦ elim (rest) [
        | inl same ↦ same
        | inr after ↦
            let more : new.owner < w.owner =
            ltb-true new.owner w.owner
            (In-filter_passes (λ (one : Worker). nat_lt new.owner one.owner) w workers after) in
            absurd (omega arith)
      ]
    ]

-- a session that is opened hasn't ended
opened-going : (s : Sessions) (stamp : Stamp) (one : OpenSession) → is_ended s stamp.session ≡ false
    → session_of stamp.session (open_session s stamp).opened ≡ Some one
    → is_ended (open_session s stamp) stamp.session ≡ false
opened-going s stamp one going found = elim (cases_Bool (is_ended (open_session s stamp) stamp.session)) [
  | inr goes ↦ goes
  | inl over ↦ absurd (false≢true (sym going ∙ still (ended-true (open_session s stamp) stamp.session over)))
]
  where
    id : SessionId
    id = stamp.session

    new : Worker
    new = record { owner = id.owner; number = id.number }

    still : HasEnded (open_session s stamp) id → is_ended s id ≡ true
    still over = elim (over.ended) [
      | inl client ↦ ended-from s id (record { ended = inl client })
      | inr worker ↦
          let there : In worker.1.0 (put_worker new s.workers) =
          subst (In worker.1.0) (cond-true (is_worker id) (put_worker new s.workers) s.workers worker.0) worker.1.1 in
          let itself : worker.1.0 ≡ new = put_worker-own new worker.1.0 s.workers there worker.1.2 in
          let number : worker.1.0.number ≡ id.number = ap (λ (w : Worker). w.number) itself in
          elim (worker.1.3) [
            | inl less ↦ absurd (omega arith)
            | inr same ↦
                absurd (false≢true
                (sym same.1 ∙ list_any-found (λ (o : OpenSession). same_session o.session id)
                (open_session s stamp).opened one found))
          ]
    ]

pub admit-current : (s : Sessions) (stamp : Stamp) → is_dead_letter stamp.session ≡ false → gate s stamp ≡ Fresh
    → IsCurrent (admit s stamp) stamp.session
unfolding admit
admit-current s stamp plain fresh =
    let opens : Sessions =
    if is_open stamp.session s.opened
    then record s { opened = change_session stamp.session (use_number stamp) s.opened } else open_session s stamp in
    subst (λ (t : Sessions). IsCurrent t stamp.session)
    (sym (cond-false (is_dead_letter stamp.session) s opens plain))
    (by (session_of stamp.session s.opened) refl)
  where
    test : OpenSession → Bool
    test one = same_session one.session stamp.session

    uses : Sessions
    uses = record s { opened = change_session stamp.session (use_number stamp) s.opened }

    going : is_ended s stamp.session ≡ false
    going = fresh-going s stamp plain fresh

    by : (o : Option OpenSession) → session_of stamp.session s.opened ≡ o
        → IsCurrent (cond (is_open stamp.session s.opened) uses (open_session s stamp)) stamp.session
    by (Some one) found =
        subst (λ (t : Sessions). IsCurrent t stamp.session)
        (sym (cond-true (is_open stamp.session s.opened) uses (open_session s stamp)
        (list_any-found test s.opened one found)))
        (current-with_session stamp.session s stamp.session (use_number stamp) (λ o. refl) (record {
          going = going;
          one = one;
          opened = found;
        }))
    by None found =
        let closed : is_open stamp.session s.opened ≡ false = find-none test s.opened found in
        let stays : OpenSession → Bool = λ one. not (is_giving_way stamp.session one) in
        let last =
        find-last test (filter stays s.opened) (new_session stamp) (list_any-filter test stays s.opened closed)
        (same_session-refl stamp.session) in
        subst (λ (t : Sessions). IsCurrent t stamp.session)
        (sym (cond-false (is_open stamp.session s.opened) uses (open_session s stamp) closed))
        (record {
          going = opened-going s stamp (new_session stamp) going last;
          one = new_session stamp;
          opened = last;
        })

-- a session whose numbers are remembered isn't one of dead letters that are sent at most once
pub numbered-plain : (session : SessionId) → IsNumbered session → is_dead_letter session ≡ false
numbered-plain session (inl client) =
    let one : session.class ≡ 1 = eqb-true session.class 1 client in ne_eqb session.class 3 (λ three. omega arith)
numbered-plain session (inr worker) =
    let two : session.class ≡ 2 = eqb-true session.class 2 worker in ne_eqb session.class 3 (λ three. omega arith)
