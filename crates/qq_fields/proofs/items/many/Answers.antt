use Rattle.std.proofs.lemmas.Result.{err_from_is_err_and}
use Rattle.qq_fields.specs.Reading.{many}
use Rattle.qq_fields.proofs.Loop.{goes_on, ends, is_done}
use Rattle.qq_fields.proofs.items.many.Goals as goal

pub returns-in_err-item : goal.returns-in_err-item
returns-in_err-item g c =
    let p = err_from_is_err_and c.from_residual.result c.from_residual.ensures.1 in
    rw (p.1, p.2) (ends g.E.Fault.memory c.in_err-item.field-0.0 g.T.Item.read c.items.items.items c.args.count
    c.items.counter c.items.rest.now (many g.T.Item.read c.args.count c.args.bytes.now) c.items-test.true
    c.in_err-item.ensures c.items.invariant)

pub items-preserved : goal.items-preserved
items-preserved g c =
    let e = c.in-Ok-push.ensures.items in
    rw e (goes_on g.T.Item.read c.items.items.items c.args.count c.items.counter c.items.rest.now c.in_ok-item.item
    c.in_ok-item.after.now (many g.T.Item.read c.args.count c.args.bytes.now) c.items-test.true
    c.in_ok-item.ensures c.items.invariant)

pub returns : goal.returns
returns g c =
    is_done g.T.Item.read c.items.items.items c.args.count c.items.counter c.items.rest.now
    (many g.T.Item.read c.args.count c.args.bytes.now) c.items-test.false c.items.invariant
