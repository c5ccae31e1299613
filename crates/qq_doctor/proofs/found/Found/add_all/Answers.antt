use Rattle.std.proofs.Common.{arith}
use Rattle.std.proofs.lemmas.List.{nil_from_length}
use Rattle.qq_doctor.proofs.Sorting.{adding-begin, adding-end, adding-more}
use Rattle.qq_doctor.proofs.found.Found.add_all.Goals as goal

pub lanes-init : goal.lanes-init
lanes-init c =
    adding-begin c.args.node.0 c.args.lanes.items c.into_iter-lane-iterator.result.rest.items c.args.self.now.rows.items
    c.into_iter-lane-iterator.ensures.into_iter_gives.0

pub lanes-preserved : goal.lanes-preserved
lanes-preserved c =
    adding-more c.args.node.0 c.args.lanes.items c.lanes.lane-iterator.rest.items c.next.new.self.rest.items
    c.in-Some.lane c.args.self.now.rows.items c.lanes.self.rows.items c.add.new.self.rows.items
    c.in-Some.ensures.steps.0 c.lanes.invariant c.in_ok-add.ensures.ok

pub returns-clause-ok : goal.returns-clause-ok
returns-clause-ok c =
    adding-end c.args.node.0 c.args.lanes.items c.lanes.lane-iterator.rest.items c.args.self.now.rows.items
    c.lanes.self.rows.items
    (nil_from_length c.lanes.lane-iterator.rest.items
    (omega (arith, c.lanes.lane-iterator.rest.ok.0, c.in-None.ensures.steps.0))) c.lanes.invariant
