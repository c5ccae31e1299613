use Rattle.std.proofs.Common.{◌≡◌, ◌-◌, List, Option, sym, ap, subst, ◌∙◌, arith}
use Rattle.std.specs.Prelude.{remove}
use Rattle.std.specs.Option.{option_map}
use Rattle.qq_dead.specs.declared.row.DeadRow.{DeadRow}
use Rattle.qq_dead.specs.Letters.{Letters, DeadState, settled, settle, letters_of, IsSettledAt}
use Rattle.qq_dead.proofs.Places.{kept-rows, takes_out, at-within}
use Rattle.qq_dead.proofs.dead.Dead.settle.Goals as goal

pub overflow_sub-self : goal.overflow_sub-self
overflow_sub-self c =
    let s = c.self.inside in
    let d : Letters = letters_of s.rows.items s.counts.deads s.counts.given s.counts.attached in
    let seen : d ≡ c.args.self.now.letters = ap (λ (k : DeadState). k.letters) c.self.view_is in
    let at = subst (λ (l : Letters). IsSettledAt c.args.term.0 c.args.number l c.in-Some.place) (sym seen)
    c.in-Some.ensures.some in
    omega (arith, (takes_out c.args.term.0 c.args.number s.counts.under_way d c.in-Some.place c.self.invariant.0 at).under_way)

pub remove-requires : goal.remove-requires
remove-requires c =
    let s = c.self.inside in
    let d : Letters = letters_of s.rows.items s.counts.deads s.counts.given s.counts.attached in
    let seen : d ≡ c.args.self.now.letters = ap (λ (k : DeadState). k.letters) c.self.view_is in
    let at = subst (λ (l : Letters). IsSettledAt c.args.term.0 c.args.number l c.in-Some.place) (sym seen)
    c.in-Some.ensures.some in
    at-within c.args.number c.in-Some.place d.rows at.there

pub invariant_of-self-2 : goal.invariant_of-self-2
invariant_of-self-2 c =
    let s = c.self.inside in
    let d : Letters = letters_of s.rows.items s.counts.deads s.counts.given s.counts.attached in
    let seen : d ≡ c.args.self.now.letters = ap (λ (k : DeadState). k.letters) c.self.view_is in
    let at = subst (λ (l : Letters). IsSettledAt c.args.term.0 c.args.number l c.in-Some.place) (sym seen)
    c.in-Some.ensures.some in
    let takes = takes_out c.args.term.0 c.args.number s.counts.under_way d c.in-Some.place c.self.invariant.0 at in (
      kept-rows (s.counts.under_way - 1) (remove s.rows.items c.in-Some.place) c.remove.new.self.items s.counts.deads
          s.counts.given s.counts.attached c.in_ok-one.ensures.items takes.kept,
      kept-rows s.base.under_way s.rows.base c.remove.new.self.base s.base.deads s.base.given s.base.attached
          c.remove.ensures.base c.self.invariant.1,
    )

pub returns-clause-value : goal.returns-clause-value
returns-clause-value c =
    let s = c.self.inside in
    let d : Letters = letters_of s.rows.items s.counts.deads s.counts.given s.counts.attached in
    let seen : d ≡ c.args.self.now.letters = ap (λ (k : DeadState). k.letters) c.self.view_is in
    let at = subst (λ (l : Letters). IsSettledAt c.args.term.0 c.args.number l c.in-Some.place) (sym seen)
    c.in-Some.ensures.some in
    sym (ap (λ (o : Option DeadRow). option_map (λ (one : DeadRow). one.row) o)
    (ap (settled c.args.term.0 c.args.number) (sym seen)
    ∙ (takes_out c.args.term.0 c.args.number s.counts.under_way d c.in-Some.place c.self.invariant.0 at).one
    ∙ c.in_ok-one.ensures.value))

pub returns-clause-letters : goal.returns-clause-letters
returns-clause-letters c =
    let s = c.self.inside in
    let d : Letters = letters_of s.rows.items s.counts.deads s.counts.given s.counts.attached in
    let seen : d ≡ c.args.self.now.letters = ap (λ (k : DeadState). k.letters) c.self.view_is in
    let at = subst (λ (l : Letters). IsSettledAt c.args.term.0 c.args.number l c.in-Some.place) (sym seen)
    c.in-Some.ensures.some in
    ap (λ (rows : List DeadRow). letters_of rows s.counts.deads s.counts.given s.counts.attached) c.in_ok-one.ensures.items
    ∙ sym (takes_out c.args.term.0 c.args.number s.counts.under_way d c.in-Some.place c.self.invariant.0 at).left
    ∙ ap (settle c.args.term.0 c.args.number) seen
