use Rattle.std.proofs.Common.{◌≡◌, ◌∙◌, ◌++◌, ℕ, List, ap, arith, length, subst}
use Rattle.std.specs.Prelude.{get_or}
use Rattle.qq_route.specs.declared.queue_row.QueueRow.{QueueRow}
use Rattle.qq_route.specs.Setup.{state_of}
use Rattle.qq_doctor.specs.Report.{verdict_text}
use Rattle.qq_doctor.proofs.Saying.{adds-all, adds-begin, adds-next, few-members, means-of, place-after, row-there}
use Rattle.qq_doctor.proofs.report.Report.add_all.Goals as goal

pub overflow_cast-len : goal.overflow_cast-len
overflow_cast-len c =
    let row = c.index-rows-at.result in
    let there = row-there c.args.setup.now.queues c.as_slice-rows.result.now c.rows.at row c.as_slice-rows.ensures
    c.rows-test.true c.index-rows-at.is in
    let few = few-members (state_of c.args.setup.now) c.requires.runs c.rows.at row there in
    omega (arith, few, c.len.ensures)

pub rows-init : goal.rows-init
rows-init c = λ count lanes so. adds-begin lanes c.args.self.now

pub rows-preserved : goal.rows-preserved
rows-preserved c =
    λ count lanes so.
    let row = c.index-rows-at.result in
    let same = c.as_slice-rows.ensures in
    let there = row-there c.args.setup.now.queues c.as_slice-rows.result.now c.rows.at row same c.rows-test.true
    c.index-rows-at.is in
    let within = so.each c.rows.at (omega (arith, c.rows-test.true, ap length same, c.requires.count, so.count_is)) in
    adds-next c.args.setup.now.queues lanes c.rows.at row c.check-verdict.result c.args.self.now c.rows.self c.add.new.self
    (omega (arith, c.rows-test.true, ap length same))
    (subst (λ (l : List QueueRow). row ≡ get_or l c.rows.at row) same c.index-rows-at.is) (c.rows.invariant count lanes so)
    (means-of lanes row c.rows.at c.len.result c.of_place.result.now _ c.check-verdict.result c.len.ensures
    c.of_place.ensures within (place-after (state_of c.args.setup.now) c.requires.runs c.rows.at row there)
    c.check-verdict.ensures)
    (c.in_ok-add.ensures.text
    ∙ ap (λ (name : List ℕ). c.rows.self.text.items ++ verdict_text name c.check-verdict.result) c.as_str.ensures)
    c.in_ok-add.ensures.differs

pub returns-clause-ok : goal.returns-clause-ok
returns-clause-ok c =
    λ count lanes so.
    adds-all c.args.setup.now.queues c.as_slice-rows.result.now lanes c.rows.at c.args.self.now c.rows.self
    c.as_slice-rows.ensures c.rows-test.false (c.rows.invariant count lanes so)
