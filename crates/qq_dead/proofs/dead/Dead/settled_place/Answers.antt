use Rattle.std.proofs.Common.{◌≡◌, sym, ap, subst, ◌∙◌}
use Rattle.qq_dead.specs.Letters.{Letters, DeadState, letters_of, SettlesNothing, place_of, is_at}
use Rattle.qq_dead.proofs.Places.{nothing-there}
use Rattle.qq_dead.proofs.dead.Dead.settled_place.Goals as goal

pub returns-else-is_at-clause-none : goal.returns-else-is_at-clause-none
returns-else-is_at-clause-none c =
    let s = c.self.inside in
    let d : Letters = letters_of s.rows.items s.counts.deads s.counts.given s.counts.attached in
    let seen : d ≡ c.args.self.now.letters = ap (λ (k : DeadState). k.letters) c.self.view_is in
    subst (SettlesNothing c.args.term.0 c.args.number) seen
    (nothing-there c.args.term.0 c.args.number d c.place_of-place.result c.self.invariant.0.0
    (c.place_of-place.ensures ∙ ap (place_of c.args.number) c.as_deque-rows.ensures)
    (ap (is_at c.args.number c.place_of-place.result) (sym c.as_deque-rows.ensures) ∙ sym c.is_at.ensures
    ∙ c.if-is_at.false))
