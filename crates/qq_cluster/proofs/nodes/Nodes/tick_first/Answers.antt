use Rattle.std.proofs.Common.{◌∙◌, ap, sym}
use Rattle.std.specs.Prelude.{slice_get}
use Rattle.qq_base.proofs.Exits.{at_exit}
use Rattle.qq_cluster.proofs.Items.{item-here}
use Rattle.qq_cluster.proofs.Ticked.{ticks, ticks-gave_up, ticks-none}
use Rattle.qq_cluster.proofs.nodes.Nodes.tick_first.Goals as goal

pub returns-in_default-clause-ok : goal.returns-in_default-clause-ok
returns-in_default-clause-ok g c =
    ticks-none c.args.at c.args.self.now c.index.result.now c.args.told.now
    (item-here c.args.self.now.queues.items c.args.at _ c.requires.place c.index.ensures)
    (ap (λ l. slice_get l 0) (sym c.members.ensures) ∙ sym c.first.ensures.value ∙ sym c.copied-first.ensures
    ∙ c.in_default.is)

pub returns-in_err-happen-clause-err : goal.returns-in_err-happen-clause-err
returns-in_err-happen-clause-err g c =
    at_exit _ _ c.from_residual.ensures.1 (ticks-gave_up c.args.at c.in-Some.node c.index.result.now
    (item-here c.args.self.now.queues.items c.args.at _ c.requires.place c.index.ensures)
    (ap (λ l. slice_get l 0) (sym c.members.ensures) ∙ sym c.first.ensures.value ∙ sym c.in-Some.ensures)
    c.in_err-happen.ensures.err)

pub returns-clause-ok : goal.returns-clause-ok
returns-clause-ok g c =
    ticks c.args.at c.in-Some.node c.index.result.now
    (item-here c.args.self.now.queues.items c.args.at _ c.requires.place c.index.ensures)
    (ap (λ l. slice_get l 0) (sym c.members.ensures) ∙ sym c.first.ensures.value ∙ sym c.in-Some.ensures)
    c.in_ok-happen.ensures.ok
