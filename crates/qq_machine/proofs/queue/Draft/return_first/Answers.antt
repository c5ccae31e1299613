use Rattle.std.proofs.Common.{Option, ap, sym, ◌∙◌}
use Rattle.qq_model.specs.declared.place.Key.TheVariants.{Back}
use Rattle.qq_model.specs.declared.place.Place.{Place}
use Rattle.qq_model.specs.declared.place.Place.TheVariants.{Ready}
use Rattle.qq_parts.specs.Parts.{Served}
use Rattle.qq_parts.specs.AtOnce.{first_of_session}
use Rattle.qq_parts.proofs.AtOnce.{nobody_goes}
use Rattle.std.specs.Option.{option_map}
use Rattle.qq_consumer.specs.declared.row.ConsumerRow.{ConsumerRow}
use Rattle.qq_consumer.specs.Roster.{Roster, end_by, served_of}
use Rattle.qq_machine.specs.Views.{work_of}
use Rattle.qq_machine.proofs.Delivering.{with_roster}
use Rattle.qq_machine.proofs.Leaving.{leaves, fewer}
use Rattle.qq_machine.proofs.queue.Draft.return_first.Goals as goal

pub returns-in-None-clause-over : goal.returns-in-None-clause-over
returns-in-None-clause-over c no_step =
    let old = c.args.self.now.queue.consumers.roster in
    let none =
    sym (ap (λ (o : Option ConsumerRow). option_map served_of o) c.in-None.is) ∙ c.in_ok-ended.ensures.value in
    nobody_goes c.args.session
    (with_roster c.end.new.self.roster (work_of c.args.args.now c.args.self.now))
    (ap (λ (r : Roster). first_of_session c.args.session r.served)
    (c.in_ok-ended.ensures.ok ∙ ap (λ (o : Option Served). end_by o old) (sym none))
    ∙ sym none)

pub returns-clause-ok : goal.returns-clause-ok
returns-clause-ok c =
    let place : Place = Ready (Back 0) in
    leaves c.args.session c.in-Some.row (work_of c.args.args.now c.args.self.now) c.end.new.self.roster place
    (work_of c.args.args.now c.return_rows.new.self) c.len.ensures.apart
    (sym (ap (λ (o : Option ConsumerRow). option_map served_of o) c.in-Some.is) ∙ c.in_ok-ended.ensures.value)
    c.in_ok-ended.ensures.ok
    (c.in_ok-return_rows.ensures.ok place)

pub returns-clause-fewer : goal.returns-clause-fewer
returns-clause-fewer c did =
    let place : Place = Ready (Back 0) in
    fewer c.args.session c.in-Some.row place (work_of c.args.args.now c.args.self.now)
    (work_of c.args.args.now c.return_rows.new.self) c.args.self.now.queue.consumers.roster c.end.new.self.roster
    (sym (ap (λ (o : Option ConsumerRow). option_map served_of o) c.in-Some.is) ∙ c.in_ok-ended.ensures.value)
    c.in_ok-ended.ensures.ok
    (c.in_ok-return_rows.ensures.ok place)
