use Rattle.std.proofs.Common.{List, ap, sym, ◌∙◌}
use Rattle.qq_entry.specs.declared.audit.Effect.{Effect}
use Rattle.qq_machine.specs.Views.{work_of}
use Rattle.qq_machine.proofs.Delivering.{with_roster, found-id, delivers}
use Rattle.qq_machine.proofs.queue.Draft.deliver.Goals as goal

pub returns-clause-ok : goal.returns-clause-ok
returns-clause-ok c place args one found =
    delivers c.args.id c.args.row place args c.args.self.now one c.check_out.new.self.roster
    c.in-Ok-check_out.number c.in-Ok.message found
    (found-id c.args.id c.args.self.now.queue.consumers.roster.served one found)
    (c.in-Ok-check_out.ensures.ok place) c.in-Ok-check_out.ensures.id c.in-Ok.ensures.ok
    ∙ ap (λ (es : List Effect). record (with_roster c.check_out.new.self.roster (work_of args c.args.self.now)) {
      effects = es;
    }) (sym c.in_ok-push.ensures.items)
