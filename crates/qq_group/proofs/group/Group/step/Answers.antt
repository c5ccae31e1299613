use Rattle.std.proofs.Common.{subst, sym}
use Rattle.std.specs.Prelude.{OnErr}
use Rattle.qq_group.specs.Follows.{Follows, Makes}
use Rattle.qq_group.specs.Steps.{made_by, refused_by}
use Rattle.qq_group.specs.declared.event.Event.{Event}
use Rattle.qq_group.proofs.group.Group.step.Goals as goal

pub returns-in-Tick-clause-err : goal.returns-in-Tick-clause-err
returns-in-Tick-clause-err g c =
    subst (λ (e : Event). OnErr c.tick.result
    (Makes g.L.LogView.log (refused_by e) c.args.self.now c.tick.new.self)) (sym c.in-Tick.is) c.tick.ensures.err

pub returns-in-Submit-clause-err : goal.returns-in-Submit-clause-err
returns-in-Submit-clause-err g c =
    subst (λ (e : Event). OnErr c.submit.result
    (Makes g.L.LogView.log (refused_by e) c.args.self.now c.submit.new.self)) (sym c.in-Submit.is)
    c.submit.ensures.err

pub returns-in-Add-clause-err : goal.returns-in-Add-clause-err
returns-in-Add-clause-err g c =
    subst (λ (e : Event). OnErr c.add.result
    (Makes g.L.LogView.log (refused_by e) c.args.self.now c.add.new.self)) (sym c.in-Add.is) c.add.ensures.err

pub returns-in-Flush-clause-err : goal.returns-in-Flush-clause-err
returns-in-Flush-clause-err g c =
    subst (λ (e : Event). OnErr c.flush.result
    (Makes g.L.LogView.log (refused_by e) c.args.self.now c.flush.new.self)) (sym c.in-Flush.is) c.flush.ensures.err

pub returns-in-Notice-clause-err : goal.returns-in-Notice-clause-err
returns-in-Notice-clause-err g c =
    subst (λ (e : Event). OnErr c.notice.result
    (Makes g.L.LogView.log (refused_by e) c.args.self.now c.notice.new.self)) (sym c.in-Notice.is)
    c.notice.ensures.err

pub returns-in-Crash-clause-ok : goal.returns-in-Crash-clause-ok
returns-in-Crash-clause-ok g c =
    subst (λ (e : Event). Follows g.L.LogView.log (made_by e c.args.self.now) c.args.self.now c.crash.new.self)
    (sym c.in-Crash.is) (λ h reached r. c.crash.ensures.made h r)
