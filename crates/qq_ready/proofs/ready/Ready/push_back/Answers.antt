use Rattle.std.proofs.Common.{◌+◌, refl}
use Rattle.qq_model.specs.declared.place.Key.TheVariants.{Back}
use Rattle.qq_ready.specs.declared.row.KeyedRow.{KeyedRow}
use Rattle.qq_ready.proofs.Keyed.{kept-back, kept-same}
use Rattle.qq_ready.proofs.ready.Ready.push_back.Goals as goal

pub invariant_of-self-2 : goal.invariant_of-self-2
invariant_of-self-2 c =
    let q = c.self.inside in
    let one : KeyedRow = record { key = Back (q.counts.orders + 1); row = c.args.row } in (
      kept-back q.fronts.items q.backs.items c.push_back.new.self.items q.counts.orders q.counts.returns q.counts.bytes
          c.size-more.result one c.self.invariant.0 refl c.size-more.ensures.size c.size-more.ensures.fits
          c.in_ok-push_back.ensures.items,
      kept-same q.fronts.base q.backs.base q.fronts.base c.push_back.new.self.base q.base.orders q.base.returns q.base.bytes refl c.push_back.ensures.base c.self.invariant.1,
    )
