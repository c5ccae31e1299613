use Rattle.std.proofs.Common.{refl, sym, ◌∙◌}
use Rattle.qq_queue.proofs.Waits.{plain-kept, plain-popped}
use Rattle.qq_queue.proofs.untold.Untold.pop_plain.Goals as goal

pub returns-then-not-plain-clause-none : goal.returns-then-not-plain-clause-none
returns-then-not-plain-clause-none c =
    let kept = plain-kept c.args.seats.now c.args.self.now (sym c.is_plain-plain.ensures ∙ c.if-not-plain.true) in
    (refl, kept.0, kept.1)

pub returns-clause-some : goal.returns-clause-some
returns-clause-some c =
    (plain-popped c.args.seats.now c.args.self.now c.pop.new.self c.pop.result
    (sym c.is_plain-plain.ensures ∙ c.if-not-plain.false) c.pop.ensures.items c.pop.ensures.none).0

pub returns-clause-none : goal.returns-clause-none
returns-clause-none c =
    (plain-popped c.args.seats.now c.args.self.now c.pop.new.self c.pop.result
    (sym c.is_plain-plain.ensures ∙ c.if-not-plain.false) c.pop.ensures.items c.pop.ensures.none).1
