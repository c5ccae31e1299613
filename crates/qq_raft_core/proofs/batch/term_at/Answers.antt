use Rattle.std.proofs.Common.{◌≡◌, sym, ap, ◌∙◌, arith}
use Rattle.std.specs.Prelude.{Some, min}
use Rattle.qq_log.specs.Log.{term_at}
use Rattle.qq_raft_model.specs.State.{term_at as term_in}
use Rattle.qq_raft_core.proofs.Entries.{term-known}
use Rattle.qq_raft_core.proofs.Sendable.{term_within}
use Rattle.qq_raft_core.proofs.batch.term_at.Goals as goal

pub returns-in-Some-clause-value : goal.returns-in-Some-clause-value
returns-in-Some-clause-value g c =
    let log = g.L.LogView.log c.args.log.now in
    term-known log c.args.index (Some c.in-Some.term) c.requires
    (sym c.in-Some.is ∙ c.term_at.ensures
    ∙ ap (λ n. term_at log n) (c.min.ensures ∙ ap (λ n. min c.args.index n) c.last.ensures))

pub returns-in-Some-clause-end : goal.returns-in-Some-clause-end
returns-in-Some-clause-end g c = λ all.
    let log = g.L.LogView.log c.args.log.now in
    let is : c.in-Some.term.0 ≡ term_in log.entries c.args.index = returns-in-Some-clause-value g c in
    let le = term_within log.entries c.args.index all in
    omega (arith, is, le)
