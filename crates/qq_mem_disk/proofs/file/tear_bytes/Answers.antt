use Rattle.std.proofs.Common.{rules, take-add}
use Rattle.qq_mem_disk.proofs.file.tear_bytes.Goals as goal

pub returns-then-count-pending : goal.returns-then-count-pending
returns-then-count-pending c = search (rules, take-add)
