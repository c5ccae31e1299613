use Rattle.std.proofs.Common.{refl, sym}
use Rattle.qq_model.specs.declared.place.Key.TheVariants.{Back}
use Rattle.qq_model.specs.declared.place.Place.{Place}
use Rattle.qq_model.specs.declared.place.Place.TheVariants.{Ready}
use Rattle.qq_consumer.specs.Roster.{served_of}
use Rattle.qq_machine.specs.Views.{work_of}
use Rattle.qq_machine.proofs.Finishing.{finishes}
use Rattle.qq_machine.proofs.queue.Draft.finish.Goals as goal

pub returns-clause-ok : goal.returns-clause-ok
returns-clause-ok c =
    let place : Place = Ready (Back 0) in
    finishes c.args.outcome c.args.consumer c.args.ids.now (served_of c.in-Some._row.now) c.in-Some._row.now
    (work_of c.args.args.now c.args.self.now) c.take_out.new.self.roster
    _ place (work_of c.args.args.now c.end_taken.new.self)
    (c.sizes.ensures c.args.args.now) (sym c.in-Some.ensures) refl c.in_ok-rows.ensures.roster
    c.in_ok-rows.ensures.rows (c.in_ok-end_taken.ensures.ok place)
