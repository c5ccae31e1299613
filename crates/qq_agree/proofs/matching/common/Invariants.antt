use Rattle.std.proofs.Common.{◌≡◌, ◌+◌, drop}
use Rattle.qq_agree.specs.Tests.{common}
use Rattle.qq_agree.proofs.matching.common.Given as goal

-- those so far are the same, and the rest has the others
abbrev pub invariant-entries : goal.invariant-entries
invariant-entries g l =
    let own = (g.H.Holder.lane l.holder l.a.0).log in
    let other = (g.H.Holder.lane l.holder l.b.0).log in
    l.place + common (drop l.place own) (drop l.place other) ≡ common own other
