use Rattle.std.proofs.Common.{◌+◌, refl}
use Rattle.qq_model.specs.declared.place.Key.TheVariants.{Front}
use Rattle.qq_ready.specs.declared.row.KeyedRow.{KeyedRow}
use Rattle.qq_ready.proofs.Keyed.{kept-front, kept-same}
use Rattle.qq_ready.proofs.ready.Ready.push_returned.Goals as goal

pub invariant_of-self-2 : goal.invariant_of-self-2
invariant_of-self-2 c =
    let q = c.self.inside in
    let one : KeyedRow = record { key = Front (q.counts.returns + 1); row = c.args.row } in (
      kept-front q.fronts.items q.backs.items c.push_back.new.self.items q.counts.orders q.counts.returns q.counts.bytes
          c.size-more.result one c.self.invariant.0 refl c.size-more.ensures.size c.size-more.ensures.fits
          c.in_ok-push_back.ensures.items,
      kept-same q.fronts.base q.backs.base c.push_back.new.self.base q.backs.base q.base.orders q.base.returns q.base.bytes c.push_back.ensures.base refl c.self.invariant.1,
    )
