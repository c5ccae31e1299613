use Rattle.std.proofs.Common.{◌≡◌, ℕ, List, Bool, sym, ap, ◌∙◌, subst}
use Rattle.std.specs.Prelude.{nat_eq}
use Rattle.std.specs.List.{list_any}
use Rattle.std.proofs.lemmas.Bool.{ne_eqb}
use Rattle.qq_model.specs.declared.session.Worker.{Worker}
use Rattle.qq_sessions.specs.Rising.{Owners, Rises, is_at, owner_key}
use Rattle.qq_sessions.proofs.Rising.{any-at_place}
use Rattle.qq_sessions.proofs.workers.Workers.has_owner.Goals as goal

pub returns : goal.returns
returns c =
    let xs : List Worker = c.as_slice-workers.result.now in
    let own : xs ≡ c.self.inside.workers.items = c.as_slice-workers.ensures.value in
    let seen : c.self.inside.workers.items ≡ c.args.self.now.workers = ap (λ (o : Owners). o.workers) c.self.view_is in
    let test : Worker → Bool = λ w. nat_eq w.owner c.args.owner in
    c.is_at.ensures ∙ ap (λ (n : ℕ). is_at owner_key c.args.owner n xs) c.place_of.ensures.place
    ∙ sym (any-at_place owner_key c.args.owner test xs (λ x other. ne_eqb x.owner c.args.owner other)
    (subst (Rises owner_key) (sym own) c.self.invariant))
    ∙ ap (list_any test) (own ∙ seen)
