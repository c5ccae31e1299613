use Rattle.std.proofs.Common.{List, ◌++◌, ap, sym, ◌∙◌, arith}
use Rattle.qq_base.specs.declared.ids.Index.{Index}
use Rattle.qq_live.specs.Indices.{occurrences}
use Rattle.qq_sessions.specs.Row.{open_of}
use Rattle.qq_sessions.specs.Named.{answers_indices, kept_indices}
use Rattle.qq_sessions.proofs.Holders.{all-take, take-end}
use Rattle.qq_sessions.proofs.open_sessions.named_of.Goals as goal

pub rows-preserved : goal.rows-preserved
rows-preserved c =
    c.in_ok-push_answers.ensures.ok
    ∙ ap (λ (xs : List Index). xs ++ answers_indices c.row.result.now.kept.items) c.rows.invariant
    ∙ sym (all-take c.args.opened.now.rows c.rows.place (open_of c.row.result.now) c.row.ensures)

pub returns-clause-ok : goal.returns-clause-ok
returns-clause-ok c = λ i.
    c.in_ok-live.ensures.ok i
    ∙ ap (occurrences i) (c.rows.invariant
    ∙ ap kept_indices (take-end c.args.opened.now.rows c.rows.place (omega (arith, c.rows-test.false))))
