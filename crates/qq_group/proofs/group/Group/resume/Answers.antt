use Rattle.std.proofs.Common.{◌≡◌, List, ap, arith, subst, ◌∙◌}
use Rattle.qq_entry.specs.declared.command.Entry.{Entry}
use Rattle.qq_group.specs.Opening.{IsOpened, missing}
use Rattle.qq_group.proofs.Restarting.{opened-fresh, opens-over}
use Rattle.qq_group.proofs.group.Group.resume.Goals as goal

pub start_each-requires-clause-fresh : goal.start_each-requires-clause-fresh
start_each-requires-clause-fresh g c =
    opened-fresh c.args.queue c.args.nodes.now c.into_vec.result.items c.in-Ok.group c.in-Ok.ensures.ok

pub returns-in-Ok-start_each-clause-ok : goal.returns-in-Ok-start_each-clause-ok
returns-in-Ok-start_each-clause-ok g c =
    let queue = c.args.queue in
    let nodes = c.args.nodes.now in
    opens-over g.L.LogView.log queue nodes c.args.audit c.args.starts.items c.in-Ok.group c.start_each.new.self
    (subst (λ (audit : List Entry). IsOpened queue nodes audit c.in-Ok.group) c.into_vec.ensures c.in-Ok.ensures.ok)
    c.in-Ok-start_each.ensures.ok

pub returns-in-Ok-start_each-clause-named : goal.returns-in-Ok-start_each-clause-named
returns-in-Ok-start_each-clause-named g c =
    let count : c.missing-missing.result ≡ missing c.args.nodes.now c.args.starts.items =
    c.missing-missing.ensures ∙ ap (missing c.args.nodes.now) c.as_slice.ensures.value in
    omega (arith, count, c.if-missing-gt0.false)

pub returns-in-Err-start_each-clause-cause : goal.returns-in-Err-start_each-clause-cause
returns-in-Err-start_each-clause-cause g c =
    let count : c.missing-missing.result ≡ missing c.args.nodes.now c.args.starts.items =
    c.missing-missing.ensures ∙ ap (missing c.args.nodes.now) c.as_slice.ensures.value in
    (omega (arith, count, c.if-missing-gt0.false), c.in-Err-start_each.ensures.want)
