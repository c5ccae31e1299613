use Rattle.qq_dead.specs.Letters.{letters_of}
use Rattle.qq_dead.proofs.Places.{kept-rows, kept-add}
use Rattle.qq_dead.proofs.dead.Dead.add.Goals as goal

pub invariant_of-self-2 : goal.invariant_of-self-2
invariant_of-self-2 c =
    let d = c.self.inside in (
      kept-add d.counts.under_way c.args.row c.args.reason
          (letters_of d.rows.items d.counts.deads d.counts.given d.counts.attached) c.push_back.new.self.items
          c.self.invariant.0 c.in_ok-push_back.ensures.items,
      kept-rows d.base.under_way d.rows.base c.push_back.new.self.base d.base.deads d.base.given d.base.attached
          c.push_back.ensures.base c.self.invariant.1,
    )
