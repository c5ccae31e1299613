use Rattle.std.proofs.Common.{◌≡◌, ℕ, List, Bool, false, Option, sym, ap, ◌∙◌, subst}
use Rattle.std.specs.Prelude.{slice_get}
use Rattle.std.specs.List.{list_any}
use Rattle.std.specs.Option.{option_map_or}
use Rattle.std.proofs.lemmas.Bool.{ne_eqb, and_left}
use Rattle.qq_base.specs.declared.ids.SessionId.{SessionId}
use Rattle.qq_model.specs.declared.session.Worker.{Worker}
use Rattle.qq_sessions.specs.Rising.{Owners, Rises, place_of, is_superseded, owner_key}
use Rattle.qq_sessions.proofs.Rising.{any-at_place}
use Rattle.qq_sessions.proofs.workers.Workers.is_superseded.Goals as goal

-- only the worker of the session's owner counts
any-of_owner : (session : SessionId) (still_open : Bool) (ws : List Worker) (place : ℕ) → Rises owner_key ws
    → place ≡ place_of owner_key session.owner ws
    → option_map_or (is_superseded session still_open) (slice_get ws place) false
    ≡ list_any (is_superseded session still_open) ws
any-of_owner session still_open ws place rises is =
    ap (λ (n : ℕ). option_map_or (is_superseded session still_open) (slice_get ws n) false) is
    ∙ sym (any-at_place owner_key session.owner (is_superseded session still_open) ws
    (λ w other. and_left _ _ (ne_eqb w.owner session.owner other)) rises)

pub returns-in-None : goal.returns-in-None
returns-in-None c =
    let seen : c.as_slice.result.now ≡ c.args.self.now.workers =
    c.as_slice.ensures.value ∙ ap (λ (o : Owners). o.workers) c.self.view_is in
    ap (λ (o : Option Worker). option_map_or (is_superseded c.args.session c.args.still_open) o false) c.in-None.ensures
    ∙ any-of_owner c.args.session c.args.still_open c.args.self.now.workers c.place_of.result
    (subst (Rises owner_key) (ap (λ (o : Owners). o.workers) c.self.view_is) c.self.invariant)
    (c.place_of.ensures.place ∙ ap (place_of owner_key c.args.session.owner) seen)

pub returns-in-Some : goal.returns-in-Some
returns-in-Some c =
    let seen : c.as_slice.result.now ≡ c.args.self.now.workers =
    c.as_slice.ensures.value ∙ ap (λ (o : Owners). o.workers) c.self.view_is in
    c.is_superseded.ensures
    ∙ ap (λ (o : Option Worker). option_map_or (is_superseded c.args.session c.args.still_open) o false) c.in-Some.ensures
    ∙ any-of_owner c.args.session c.args.still_open c.args.self.now.workers c.place_of.result
    (subst (Rises owner_key) (ap (λ (o : Owners). o.workers) c.self.view_is) c.self.invariant)
    (c.place_of.ensures.place ∙ ap (place_of owner_key c.args.session.owner) seen)
