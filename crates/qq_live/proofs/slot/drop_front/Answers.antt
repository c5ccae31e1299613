use Rattle.std.proofs.Common.{sym, ap, subst, arith}
use Rattle.std.specs.Prelude.{length}
use Rattle.qq_live.specs.Slots.{Trims}
use Rattle.qq_live.proofs.Changes.{front-trims, front-short}
use Rattle.qq_live.proofs.slot.drop_front.Goals as goal

pub returns-clause-trims : goal.returns-clause-trims
returns-clause-trims c =
    subst (Trims c.args.slots.now.items) (sym c.pop_front.ensures.rest) (front-trims c.args.slots.now.items c.requires)

pub returns-clause-len : goal.returns-clause-len
returns-clause-len c =
    omega (
      arith,
      front-short c.args.slots.now.items c.requires,
      ap length c.pop_front.ensures.rest,
      c.args.slots.now.ok.0,
      c.pop_front.new.self.ok.0,
    )
