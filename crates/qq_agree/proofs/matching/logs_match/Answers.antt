use Rattle.std.proofs.Common.{◌+◌, ◌-◌, length, drop, ap, ◌∙◌}
use Rattle.qq_agree.specs.Tests.{apart}
use Rattle.qq_agree.proofs.Matches.{logs_match-known}
use Rattle.qq_agree.proofs.Walks.{common-within}
use Rattle.qq_agree.proofs.matching.logs_match.Goals as goal

pub are_apart-requires-clause-own : goal.are_apart-requires-clause-own
are_apart-requires-clause-own g c =
    let x = (g.H.Holder.lane c.args.holder.now c.args.a.0).log in
    let y = (g.H.Holder.lane c.args.holder.now c.args.b.0).log in
    rw c.common-first.ensures (common-within x y).0

pub are_apart-requires-clause-other : goal.are_apart-requires-clause-other
are_apart-requires-clause-other g c =
    let x = (g.H.Holder.lane c.args.holder.now c.args.a.0).log in
    let y = (g.H.Holder.lane c.args.holder.now c.args.b.0).log in
    rw c.common-first.ensures (common-within x y).1

pub returns-clause-exact : goal.returns-clause-exact
returns-clause-exact g c = λ first second.
    let l = g.H.Holder.lane c.args.holder.now c.args.a.0 in
    let m = g.H.Holder.lane c.args.holder.now c.args.b.0 in
    logs_match-known c.are_apart.result l m
    (c.are_apart.ensures
    ∙ ap (λ n. apart (length l.log + (length m.log - 1)) (drop n l.log) (drop n m.log)) c.common-first.ensures)
    first second
