use Rattle.std.proofs.Common.{◌∙◌, ℕ, List, [], Some}
use Rattle.std.proofs.lemmas.Result.{IfOk-weaker}
use Rattle.qq_doctor.specs.Lanes.{Found}
use Rattle.qq_doctor.specs.Report.{IsReported, Says}
use Rattle.qq_doctor.specs.Sorted.{AreSorted}
use Rattle.qq_doctor.specs.declared.report.Report.{Report}
use Rattle.qq_doctor.proofs.doctor.examine_nodes.Goals as goal

pub say-requires-clause-count : goal.say-requires-clause-count
say-requires-clause-count g c =
    (c.in-Ok-read_nodes.ensures.ok.2 c.len.result [] c.in-Ok.ensures.ok).count_is ∙ c.len.ensures

pub returns-in-Ok-read_nodes-clause-ok : goal.returns-in-Ok-read_nodes-clause-ok
returns-in-Ok-read_nodes-clause-ok g c =
    let found = c.in-Ok-read_nodes.ensures.ok.0 in
    let sorted = c.in-Ok-read_nodes.ensures.ok.2 c.len.result [] c.in-Ok.ensures.ok in
    IfOk-weaker c.say.result
    (λ (report : Report). (count : ℕ) (lanes : List Found) → AreSorted count lanes c.read_nodes.new.found.rows.items
    → Says c.args.setup.now.queues lanes report)
    (IsReported (g.Y.Yard.is_given (Some c.args.root.now)) g.Y.Disk.NodeDisk.facts c.args.setup.now)
    (λ report says.
    record {
      found = found;
      read = c.in-Ok-read_nodes.ensures.ok.1;
      says = says c.len.result found sorted;
    })
    c.say.ensures.ok
