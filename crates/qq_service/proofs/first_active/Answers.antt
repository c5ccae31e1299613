use Rattle.std.proofs.Common.{◌+◌, List, Some, drop, sym, ap, ◌∙◌}
use Rattle.std.specs.Prelude.{find}
use Rattle.std.proofs.lemmas.Bool.{cond-true, cond-false}
use Rattle.qq_entry.specs.declared.table.Standing.{Standing}
use Rattle.qq_service.specs.Next.{is_active}
use Rattle.qq_service.proofs.NextLemmas.{drop-at}
use Rattle.qq_service.proofs.first_active.Goals as goal

pub returns-then-not-one : goal.returns-then-not-one
returns-then-not-one g c =
    let xs : List Standing = g.T.Table.standings c.args.consumers.now in
    let one : Standing = c.standing-one.result in
    sym (cond-true (is_active one) (Some one) (find is_active (drop (c.consumers.place + 1) xs)) c.if-not-one.true)
    ∙ sym (ap (find is_active) (drop-at xs c.consumers.place one c.standing-one.ensures)) ∙ c.consumers.invariant

pub consumers-preserved : goal.consumers-preserved
consumers-preserved g c =
    let xs : List Standing = g.T.Table.standings c.args.consumers.now in
    let one : Standing = c.standing-one.result in
    sym (cond-false (is_active one) (Some one) (find is_active (drop (c.consumers.place + 1) xs)) c.if-not-one.false)
    ∙ sym (ap (find is_active) (drop-at xs c.consumers.place one c.standing-one.ensures)) ∙ c.consumers.invariant
