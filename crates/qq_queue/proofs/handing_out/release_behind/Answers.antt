use Rattle.std.proofs.Common.{List, ◌++◌, append-nil, ap, sym, ◌∙◌}
use Rattle.qq_cluster_model.specs.Taking.{delivered}
use Rattle.qq_taker.specs.declared.handed.Handed.{Handed}
use Rattle.qq_queue.proofs.Waits.{behind-none, behind-some}
use Rattle.qq_queue.proofs.handing_out.release_behind.Goals as goal

pub returns-then-waited-gt0-clause-ok : goal.returns-then-waited-gt0-clause-ok
returns-then-waited-gt0-clause-ok c = λ before more long whole.
    let b = behind-some c.args.seats.now before more c.args.untold.now c.args.waited c.if-waited-gt0.true long whole in (
      b.0,
      sym (append-nil c.args.shown.now.items)
          ∙ ap (λ (l : List Handed). c.args.shown.now.items ++ delivered l) (sym b.1),
    )

pub returns-clause-ok : goal.returns-clause-ok
returns-clause-ok c = λ before more long whole.
    let b = behind-none c.args.seats.now before more c.args.untold.now c.args.waited c.if-waited-gt0.false long
    whole in (
      c.in_ok-release.ensures.untold ∙ b.0,
      c.in_ok-release.ensures.said
          ∙ ap (λ (l : List Handed). c.args.shown.now.items ++ delivered l) b.1,
    )
