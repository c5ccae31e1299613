use Rattle.std.proofs.lemmas.Result.{IfErr-weaker, on_ok_weaker}
use Rattle.qq_broker.proofs.Rested.{audit-rests, caused-rests, queue-rests}
use Rattle.qq_broker.proofs.broker.Audits.write.Goals as goal

pub audit_text-requires : goal.audit_text-requires
audit_text-requires g c =
    let r = c.requires in
    queue-rests r.1.0 r.1.1.0 c.args.self.now r.1.1.1.0 r.1.1.1.1 c.args.queue r.1.1.1.2

pub returns-clause-ok : goal.returns-clause-ok
returns-clause-ok g c = λ given s disks run rests.
    on_ok_weaker c.audit_text.result
    (λ say. audit-rests s disks c.args.self.now run rests c.args.queue c.args.text.now.items
    c.audit_text.new.text.items say) c.audit_text.ensures.ok

pub returns-clause-cause : goal.returns-clause-cause
returns-clause-cause g c = λ given s disks run rests.
    IfErr-weaker c.audit_text.result _ _
    (λ e say. caused-rests s disks c.args.self.now run rests c.args.queue e say) c.audit_text.ensures.cause
