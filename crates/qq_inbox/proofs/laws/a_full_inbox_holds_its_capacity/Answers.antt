use Rattle.std.proofs.Common.{ap, length, length-append, arith}
use Rattle.qq_inbox.proofs.laws.a_full_inbox_holds_its_capacity.Goals as goal

pub returns-clause-waiting : goal.returns-clause-waiting
returns-clause-waiting c capacity v waiting full takes split =
    let between = full.1 takes in
    omega (arith, ap length split, length-append v.taken waiting)

pub returns-clause-few : goal.returns-clause-few
returns-clause-few c capacity v full few = let all = full.0 in absurd (omega arith)
