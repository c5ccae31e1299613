use Rattle.std.proofs.Common.{List, take, drop, ap, sym, ◌∙◌}
use Rattle.std.proofs.lemmas.Result.{IfOk-weaker}
use Rattle.qq_wal.specs.declared.marks.Mark.{Mark}
use Rattle.qq_wal.specs.Notices.{notices_in}
use Rattle.qq_wal.proofs.Noting.{notices-between}
use Rattle.qq_wal.proofs.table.Marks.notices.Goals as goal

pub returns-clause-ok : goal.returns-clause-ok
returns-clause-ok c =
    let marks = c.self.inside.marks.items in
    let first = c.self.inside.first in
    let end = c.self.inside.end in
    IfOk-weaker c.notices_in.result _ _
    (λ notices is.
    is ∙ ap (λ (ms : List Mark). notices_in ms)
    (c.between.ensures ∙ ap (λ (ms : List Mark). drop first (take end ms)) c.as_slice.ensures.value)
    ∙ sym (notices-between first end marks c.self.invariant.1)
    ∙ ap (λ (ms : List Mark). notices_in ms) c.self.view_is) c.notices_in.ensures.ok
