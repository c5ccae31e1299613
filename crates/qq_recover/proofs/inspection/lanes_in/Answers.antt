use Rattle.std.proofs.Common.{◌<◌, ◌≤◌, ℕ, List, [], suc, drop, length, sym, subst, arith, add-one, drop-cons, append-nil}
use Rattle.std.proofs.lemmas.List.{drop_all}
use Rattle.qq_base.specs.declared.ids.QueueId.{QueueId}
use Rattle.qq_recover.specs.Lanes.{AreLanes}
use Rattle.qq_recover.specs.Table.{lanes_of}
use Rattle.qq_recover.proofs.Handed.{lanes-more}
use Rattle.qq_recover.proofs.inspection.lanes_in.Goals as goal

pub loop-i-preserved : goal.loop-i-preserved
loop-i-preserved c = λ later h.
    let within : c.loop-i.i < length c.args.queues.now = omega arith in
    lanes-more (AreLanes c.args.queues.now (lanes_of c.args.table)) (drop (suc c.loop-i.i) c.args.queues.now) _
    (lanes_of c.loop-i.table) (lanes_of c.add_lane.new.table) c.loop-i.lanes.items c.add_lane.new.lanes.items later
    c.in_ok-add_lane.ensures.ok
    (λ l k. c.loop-i.invariant l (subst (λ (qs : List QueueId). AreLanes qs (lanes_of c.loop-i.table) l)
    (sym (drop-cons c.args.queues.now c.loop-i.i _ within)) k))
    (subst (λ (k : ℕ). AreLanes (drop k c.args.queues.now) (lanes_of c.add_lane.new.table) later)
    (add-one c.loop-i.i) h)

pub returns-clause-ok : goal.returns-clause-ok
returns-clause-ok c =
    let over : length c.args.queues.now ≤ c.loop-i.i = omega arith in
    subst (AreLanes c.args.queues.now (lanes_of c.args.table)) (append-nil c.loop-i.lanes.items)
    (c.loop-i.invariant [] (subst (λ (qs : List QueueId). AreLanes qs (lanes_of c.loop-i.table) [])
    (sym (drop_all c.loop-i.i c.args.queues.now over)) tt))
