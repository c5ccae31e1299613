use Rattle.std.proofs.Common.{length, ap, arith}
use Rattle.qq_live.specs.Indices.{LiveState}
use Rattle.qq_live.proofs.Changes.{count-most}
use Rattle.qq_live.proofs.live.Live.slots.Goals as goal

pub returns-clause-most : goal.returns-clause-most
returns-clause-most c =
    let most = count-most c.self.inside.slots.items in
    let all = ap (λ (l : LiveState). length l.indices) c.self.view_is in
    let half = c.self.invariant.half in
    let long = c.self.invariant.long in
    omega (arith, c.len.ensures, c.self.inside.slots.ok.0, most, all, half, long)
