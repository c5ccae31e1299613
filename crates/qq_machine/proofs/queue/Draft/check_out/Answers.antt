use Rattle.std.proofs.Common.{ap, ◌∙◌}
use Rattle.std.specs.Prelude.{is_some}
use Rattle.qq_model.specs.declared.place.Place.TheVariants.{Ready}
use Rattle.qq_parts.specs.Parts.{Parts}
use Rattle.qq_parts.specs.Changes.{take_first}
use Rattle.qq_parts.specs.Work.{Work, with_parts}
use Rattle.qq_parts.specs.Follows.{next_one, parts_check_out}
use Rattle.qq_parts.specs.Commands.{one_of}
use Rattle.qq_consumer.specs.Roster.{item_at}
use Rattle.qq_machine.specs.Counted.{RosterTracked}
use Rattle.qq_consumer.specs.Turns.{waiting_turn}
use Rattle.qq_machine.specs.Views.{parts_of, work_of, IsFirst, IsNextOne}
use Rattle.qq_entry.specs.declared.message.ReadyRow.{ReadyRow}
use Rattle.qq_machine.proofs.Lists.{if-none, if-some}
use Rattle.qq_machine.proofs.NextOne.{waits}
use Rattle.qq_machine.proofs.Delivering.{delivered}
use Rattle.qq_machine.proofs.queue.Draft.check_out.Goals as goal

pub returns-in-None-clause-still : goal.returns-in-None-clause-still
returns-in-None-clause-still c no_step =
    ap (λ (m : Parts). with_parts m (work_of c.args.args.now c.args.self.now))
    (if-none _ c.in-None.is c.in_ok-taken.ensures.still c.args.args.now)

pub deliver-requires : goal.deliver-requires
deliver-requires c =
    ap (λ (q : RosterTracked). is_some (waiting_turn q.roster.served c.in-Some.id)) c.take_first.ensures.consumers
    ∙ waits c.args.args.now.single_active c.args.self.now.queue.consumers.roster.served c.in-Some.id c.in-Some.ensures

pub returns-clause-ok : goal.returns-clause-ok
unfolding parts_check_out
returns-clause-ok c =
    let args = c.args.args.now in
    let t : Work = work_of args c.args.self.now in
    let first : IsFirst c.in-Some-taken.row c.args.self.now.queue c.take_first.new.self =
    if-some (λ (row : ReadyRow). IsFirst row c.args.self.now.queue c.take_first.new.self) _ _ c.in-Some-taken.is c.in_ok-taken.ensures.some in
    let one : IsNextOne args.single_active c.args.self.now.queue.consumers.roster.served c.in-Some.id =
    c.in-Some.ensures in
    let found =
    ap (λ (q : RosterTracked). one_of c.in-Some.id q.roster.served) c.take_first.ensures.consumers ∙ one.found in
    delivered (take_first t.parts) (next_one args.single_active t.parts.served)
    (record {
      item = item_at (Ready first.0) c.in-Some-taken.row;
      left = parts_of args c.take_first.new.self;
    }) one.one t (work_of args c.deliver.new.self) (first.1 args) one.next
    (c.in_ok-deliver.ensures.ok (Ready first.0) args one.one found)
