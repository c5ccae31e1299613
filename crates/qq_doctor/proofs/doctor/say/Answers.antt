use Rattle.qq_doctor.proofs.Saying.{says-all}
use Rattle.qq_doctor.proofs.doctor.say.Goals as goal

pub returns-in-Ok-clause-ok : goal.returns-in-Ok-clause-ok
returns-in-Ok-clause-ok c =
    λ count lanes so.
    says-all c.args.setup.now.queues lanes c.new-report.result c.add_all.new.self c.new-report.ensures.text
    c.new-report.ensures.differs (c.in-Ok.ensures.ok count lanes so)
