use Rattle.std.proofs.Common.{◌≡◌, Bool, not, List, [], ◌∷◌, ◌++◌, filter, sym, ap, ◌∙◌, subst, inl, inr}
use Rattle.std.proofs.lemmas.Bool.{cond-true, cond-false, eq-eqb, ne_eqb, and_cases}
use Rattle.qq_base.specs.declared.ids.SessionId.{SessionId}
use Rattle.qq_model.specs.declared.session.OpenSession.{OpenSession}
use Rattle.qq_model.specs.declared.session.Worker.{Worker}
use Rattle.qq_model.specs.Gate.{is_worker, is_giving_way, put_worker, new_session}
use Rattle.qq_sessions.specs.Opened.{HaveOwners}
use Rattle.qq_sessions.specs.Known.{KnownSessions}
use Rattle.qq_sessions.specs.Rising.{has_owner}
use Rattle.qq_sessions.proofs.Owners.{owners-filter, owners-open, none-for_client, none-of_owner}
use Rattle.qq_sessions.proofs.sessions.Sessions.open_session.Goals as goal

pub open_session-requires-clause-alone : goal.open_session-requires-clause-alone
open_session-requires-clause-alone c = λ rests.
    let id : SessionId = c.args.stamp.now.session in
    let rows : List OpenSession = c.self.inside.opened.rows in
    let workers : List Worker = c.self.inside.workers.workers in
    let seen : has_owner id.owner c.args.self.now.known.workers ≡ has_owner id.owner workers =
    ap (λ (k : KnownSessions). has_owner id.owner k.known.workers) (sym c.self.view_is) in
    elim (and_cases (is_worker id) (has_owner id.owner c.args.self.now.known.workers)
    (sym c.may_end_earlier-ends_earlier.ensures ∙ rests)) [
      | inl client ↦ none-for_client id rows client
      | inr unseen ↦ none-of_owner id rows workers c.self.invariant (sym seen ∙ unseen)
    ]

pub invariant_of-self : goal.invariant_of-self
invariant_of-self c =
    let id : SessionId = c.args.stamp.now.session in
    let new : Worker = record { owner = id.owner; number = id.number } in
    let stays : OpenSession → Bool = λ one. not (is_giving_way id one) in
    let rows : List OpenSession = c.self.inside.opened.rows in
    let workers : List Worker = c.self.inside.workers.workers in
    subst (λ (ones : List OpenSession). HaveOwners ones c.put.new.self.workers) (sym c.open_session.ensures.rows)
    (subst (λ (ws : List Worker). HaveOwners (filter stays rows ++ new_session c.args.stamp.now ∷ []) ws)
    (sym (c.put.ensures ∙ sym (cond-true (is_worker id) (put_worker new workers) workers
    (eq-eqb _ _ c.if-stamp-eq-WORKER.true))))
    (owners-open c.args.stamp.now (filter stays rows) workers (owners-filter stays rows workers c.self.invariant)))

pub invariant_of-self-else-stamp-eq-WORKER : goal.invariant_of-self-else-stamp-eq-WORKER
invariant_of-self-else-stamp-eq-WORKER c =
    let id : SessionId = c.args.stamp.now.session in
    let new : Worker = record { owner = id.owner; number = id.number } in
    let stays : OpenSession → Bool = λ one. not (is_giving_way id one) in
    let rows : List OpenSession = c.self.inside.opened.rows in
    let workers : List Worker = c.self.inside.workers.workers in
    subst (λ (ones : List OpenSession). HaveOwners ones workers) (sym c.open_session.ensures.rows)
    (subst (λ (ws : List Worker). HaveOwners (filter stays rows ++ new_session c.args.stamp.now ∷ []) ws)
    (cond-false (is_worker id) (put_worker new workers) workers (ne_eqb _ _ c.if-stamp-eq-WORKER.false))
    (owners-open c.args.stamp.now (filter stays rows) workers (owners-filter stays rows workers c.self.invariant)))
