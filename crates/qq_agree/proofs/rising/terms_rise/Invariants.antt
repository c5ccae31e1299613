use Rattle.std.proofs.Common.{◌≡◌, drop}
use Rattle.qq_agree.specs.Tests.{rises}
use Rattle.qq_agree.proofs.rising.terms_rise.Given as goal

-- the rest rises from the last term as all do from 0
abbrev pub invariant-entries : goal.invariant-entries
invariant-entries g l =
    let log = (g.H.Holder.lane l.holder l.node.0).log in
    rises l.before l.own (drop l.place log) ≡ rises 0 l.own log
