use Rattle.qq_model.specs.declared.place.Key.TheVariants.{Back}
use Rattle.qq_model.specs.declared.place.Place.{Place}
use Rattle.qq_model.specs.declared.place.Place.TheVariants.{Ready}
use Rattle.qq_machine.specs.Views.{parts_of}
use Rattle.qq_machine.proofs.Ready.{arrives}
use Rattle.qq_machine.proofs.queue.Queue.arrive.Goals as goal

pub returns-clause-ok : goal.returns-clause-ok
returns-clause-ok c args =
    let place : Place = Ready (Back 0) in
    arrives place c.args.index c.args.message.now c.in_ok-copy.field-0 c.in_ok-arrival.arrival
    (parts_of args c.args.self.now) (parts_of args c.push_back.new.self) c.in_ok-copy.ensures.ok
    c.in_ok-arrival.ensures.ok (c.in_ok-push_back.ensures.ok place args)
