use Rattle.std.proofs.Common.{ℕ, ap, arith}
use Rattle.qq_raft_core.proofs.Undoing.{begins}
use Rattle.qq_raft_core.proofs.raft.Raft.begin.Goals as goal

pub returns-clause-before : goal.returns-clause-before
returns-clause-before g c =
    let old = c.args.self.now in
    begins g.L.LogView.log old _ (ap (λ (n : ℕ). record old { mark = n }) (omega (arith, c.len-self.ensures)))
