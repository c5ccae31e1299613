use Rattle.std.proofs.Common.{◌≡◌, ◌<◌, ◌∙◌, List, get_or, length, map, ap, subst, sym, arith}
use Rattle.std.proofs.lemmas.List.{get_or-map, length-map}
use Rattle.qq_wal_record.specs.declared.record.LogRecord.{LogRecord}
use Rattle.qq_wal_record.specs.declared.record.LogRecord.TheVariants.{Op}
use Rattle.qq_wal.specs.Batch.{FitsBatch}
use Rattle.qq_wal.specs.Waiting.{WaitingRecords}
use Rattle.qq_wal.proofs.waiting.Waiting.op_at.Goals as goal

pub returns-clause-fits : goal.returns-clause-fits
returns-clause-fits c = λ all.
    let ops = c.self.inside.ops.items in
    let op = c.index.result.now in
    let place = c.args.place in
    let seen : map Op ops ≡ c.args.self.now.items = ap (λ (w : WaitingRecords). w.items) c.self.view_is in
    let within : place < length ops = omega (arith, ap length seen, length-map ops Op, c.requires) in
    let is : get_or c.args.self.now.items place (Op op) ≡ Op op =
    ap (λ (l : List LogRecord). get_or l place (Op op)) (sym seen) ∙ get_or-map Op ops place op (Op op) within
    ∙ ap Op (sym c.index.ensures) in
    subst (λ (r : LogRecord). FitsBatch r) is (all place (Op op) c.requires)
