use Rattle.std.proofs.Common.{◌+◌, refl}
use Rattle.qq_parts.specs.Work.{Work}
use Rattle.qq_parts.specs.Commands.{one_of, parts_give_credit}
use Rattle.qq_machine.specs.Views.{work_of}
use Rattle.qq_machine.proofs.Changing.{credits}
use Rattle.qq_machine.proofs.queue.Draft.give_credit.Goals as goal

pub returns-in-Ok-clause-ok : goal.returns-in-Ok-clause-ok
unfolding parts_give_credit
returns-in-Ok-clause-ok c =
    let t : Work = work_of c.args.args.now c.args.self.now in
    credits (one_of c.args.id t.parts.served) c.args.id (c.args.count + c.args.credit) t c.credit.new.self.roster refl
    c.in-Ok.ensures.fits c.in-Ok.ensures.ok
