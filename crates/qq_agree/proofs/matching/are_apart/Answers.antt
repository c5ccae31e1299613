use Rattle.std.proofs.Common.{◌≡◌, ◌+◌, ◌-◌, ℕ, suc, Bool, drop, length, arith, sym}
use Rattle.std.proofs.lemmas.Option.{slice_get_within}
use Rattle.qq_agree.specs.Tests.{apart}
use Rattle.qq_agree.proofs.Walks.{apart-ended, apart-ended_other, apart-other, apart-own, apart-same}
use Rattle.qq_agree.proofs.matching.are_apart.Goals as goal
use Rattle.qq_agree.proofs.matching.are_apart.Goals.{then-one-two, else-one-two+then-two-one}

pub returns-in_default : goal.returns-in_default
returns-in_default g c =
    let x = (g.H.Holder.lane c.args.holder.now c.args.a.0).log in
    let y = (g.H.Holder.lane c.args.holder.now c.args.b.0).log in
    apart-ended x y (c.count.result + c.saturating_sub.result - c.steps.step) c.steps.own c.steps.other
    (apart (length x + (length y - 1)) (drop c.args.first x) (drop c.args.first y)) (sym c.in_default.ensures)
    c.steps.invariant.rest

pub returns-in_default-entry : goal.returns-in_default-entry
returns-in_default-entry g c =
    let x = (g.H.Holder.lane c.args.holder.now c.args.a.0).log in
    let y = (g.H.Holder.lane c.args.holder.now c.args.b.0).log in
    apart-ended_other x y (c.count.result + c.saturating_sub.result - c.steps.step) c.steps.own c.steps.other
    (apart (length x + (length y - 1)) (drop c.args.first x) (drop c.args.first y)) (sym c.in_default-entry.ensures)
    c.steps.invariant.rest

pub returns-else-two-one : goal.returns-else-two-one
returns-else-two-one g c =
    let x = (g.H.Holder.lane c.args.holder.now c.args.a.0).log in
    let y = (g.H.Holder.lane c.args.holder.now c.args.b.0).log in
    apart-same x y (c.count.result + c.saturating_sub.result - c.steps.step) c.steps.own c.steps.other c.in-Some.one.now
    c.in-Some-entry.two.now (apart (length x + (length y - 1)) (drop c.args.first x) (drop c.args.first y))
    (sym c.in-Some.ensures) (sym c.in-Some-entry.ensures) c.if-one-two.false c.if-two-one.false
    (omega (arith, c.steps-test.true)) c.steps.invariant.rest

pub steps-preserved : goal.steps-preserved
steps-preserved g c =
    let x = (g.H.Holder.lane c.args.holder.now c.args.a.0).log in
    let y = (g.H.Holder.lane c.args.holder.now c.args.b.0).log in
    let one = slice_get_within x c.steps.own c.in-Some.one.now (sym c.in-Some.ensures) in
    let two = slice_get_within y c.steps.other c.in-Some-entry.two.now (sym c.in-Some-entry.ensures) in
    let n : ℕ = c.count.result + c.saturating_sub.result - c.steps.step in
    let m : ℕ = c.count.result + c.saturating_sub.result - (c.steps.step + 1) in
    let next : n ≡ suc m = omega (arith, c.steps-test.true) in
    let r : Bool = apart (length x + (length y - 1)) (drop c.args.first x) (drop c.args.first y) in
    elim c.if-one-two.branch [
      | then-one-two w ↦
          record {
            own = omega (arith, one, w.own-is);
            other = omega (arith, c.steps.invariant.other, w.other-is);
            rest = rw (w.own-is, w.other-is)
                (apart-own x y n m c.steps.own c.steps.other c.in-Some.one.now c.in-Some-entry.two.now r
                (sym c.in-Some.ensures) (sym c.in-Some-entry.ensures) w.if-one-two.true next c.steps.invariant.rest);
          }
      | else-one-two+then-two-one w ↦
          record {
            own = omega (arith, c.steps.invariant.own, w.own-is);
            other = omega (arith, two, w.other-is);
            rest = rw (w.own-is, w.other-is)
                (apart-other x y n m c.steps.own c.steps.other c.in-Some.one.now c.in-Some-entry.two.now r
                (sym c.in-Some.ensures) (sym c.in-Some-entry.ensures) w.if-two-one.true next c.steps.invariant.rest);
          }
    ]
