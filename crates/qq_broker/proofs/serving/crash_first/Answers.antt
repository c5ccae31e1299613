use Rattle.std.proofs.Common.{◌++◌, arith}
use Rattle.qq_base.proofs.Exits.{at_exit}
use Rattle.qq_broker.specs.Serving.{crashes, with_events}
use Rattle.qq_broker.proofs.Crashes.{crashed-all, crashed-more, crashed-none, yard-earlier}
use Rattle.qq_broker.proofs.GoingOn.{node-in}
use Rattle.qq_broker.proofs.serving.crash_first.Goals as goal

pub nodes-init : goal.nodes-init
nodes-init g c = record {
  crashed = λ given. crashed-none given g.Y.Disk.NodeDisk.facts c.args.image.now c.args.nodes.now;
  later = omega arith;
}

pub crash_one-requires-clause-holds : goal.crash_one-requires-clause-holds
crash_one-requires-clause-holds g c = λ lifetimes bounds.
    (let holds = c.requires.holds in (
      holds.0,
      (
        holds.1.0,
        (
          with_events holds.1.1.0 (holds.1.1.0.events ++ crashes 1 c.nodes.before c.args.image.now),
          c.nodes.invariant.crashed holds.0 holds.1.0 holds.1.1.0 holds.1.1.1,
          node-in holds.1.0.nodes c.nodes.before (omega (arith, holds.1.1.2)),
        ),
      ),
    ))

pub returns-in_err-crash_one-clause-cause : goal.returns-in_err-crash_one-clause-cause
returns-in_err-crash_one-clause-cause g c = record {
  later = omega (arith, c.nodes.invariant.later, c.crash_one.ensures.cause.later);
  cause = at_exit _ _ c.from_residual.ensures.1 (yard-earlier _ _ _ c.in_err-crash_one.field-0.0 c.nodes.invariant.later
      c.in_err-crash_one.ensures.cause.cause);
}

pub nodes-preserved : goal.nodes-preserved
nodes-preserved g c = record {
  crashed = λ given. crashed-more given g.Y.Disk.NodeDisk.facts c.args.image.now c.nodes.before c.args.nodes.now _ _
      (c.nodes.invariant.crashed given)
      (c.in_ok-crash_one.ensures.ok given);
  later = omega (arith, c.nodes.invariant.later, c.crash_one.ensures.cause.later);
}

pub returns-clause-ok : goal.returns-clause-ok
returns-clause-ok g c = λ given.
    crashed-all given g.Y.Disk.NodeDisk.facts c.args.image.now c.nodes.before c.args.count c.args.nodes.now _
    (omega arith) (c.nodes.invariant.crashed given)

pub returns-clause-cause : goal.returns-clause-cause
returns-clause-cause g c = record { later = c.nodes.invariant.later; cause = tt }
