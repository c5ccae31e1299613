use Rattle.std.proofs.Common.{◌≡◌, sym, ap, ◌∙◌}
use Rattle.std.specs.Prelude.{slice_get}
use Rattle.qq_dead.specs.Letters.{Letters, DeadState, next_dead, letters_of}
use Rattle.qq_dead.proofs.Places.{splits-next}
use Rattle.qq_dead.proofs.dead.Dead.next_dead.Goals as goal

pub returns : goal.returns
returns c =
    let s = c.self.inside in
    let d : Letters = letters_of s.rows.items s.counts.deads s.counts.given s.counts.attached in
    let seen : d ≡ c.args.self.now.letters = ap (λ (k : DeadState). k.letters) c.self.view_is in
    c.row_at.ensures ∙ ap (λ (l : Letters). slice_get l.rows s.counts.under_way) (sym seen)
    ∙ sym (splits-next d.given s.counts.under_way d.rows c.self.invariant.0.1) ∙ ap (λ (l : Letters). next_dead l.given l.rows) seen
