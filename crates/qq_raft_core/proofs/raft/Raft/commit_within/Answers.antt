use Rattle.std.proofs.Common.{ap, ◌∙◌, arith}
use Rattle.std.specs.Prelude.{min}
use Rattle.qq_raft_core.specs.Raft.{server_of}
use Rattle.qq_raft_core.proofs.Commits.{within-more}
use Rattle.qq_raft_core.proofs.Holding.{begins-held}
use Rattle.qq_raft_core.proofs.Falls.{none-earlier}
use Rattle.qq_raft_core.proofs.raft.Raft.commit_within.Goals as goal

pub returns-clause-value : goal.returns-clause-value
returns-clause-value g c =
    let s = server_of g.L.LogView.log c.args.self.now in
    c.commit_up_to.ensures
    ∙ begins-held s c.args.above c.held-held.result _
    (c.min-start.ensures ∙ ap (λ n. min c.args.above n) c.saturating_sub.ensures) c.held-held.ensures

pub returns-then-is_earlier-clause-value : goal.returns-then-is_earlier-clause-value
returns-then-is_earlier-clause-value g c =
    let s = server_of g.L.LogView.log c.args.self.now in
    none-earlier s c.min-start.result c.min-start.result (c.is_earlier.ensures.rising c.if-is_earlier.true)
    (c.is_earlier.ensures.earlier c.if-is_earlier.true) (omega arith)
    ∙ begins-held s c.args.above c.held-held.result _
    (c.min-start.ensures ∙ ap (λ n. min c.args.above n) c.saturating_sub.ensures) c.held-held.ensures

pub returns-clause-end : goal.returns-clause-end
returns-clause-end g c =
    let s = server_of g.L.LogView.log c.args.self.now in
    let is = returns-clause-value g c in
    let le = within-more s c.args.above in
    let above = c.requires.above in
    let last = c.requires.sound.last in
    let commit = c.requires.sound.commit in
    omega (arith, is, le, above, last, commit)
