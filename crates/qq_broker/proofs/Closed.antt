-- A run over nodes stops, and writes its closing line.
use Rattle.std.proofs.Common.{◌≡◌, ◌≤◌, ℕ, [], inr, subst}
use Rattle.qq_disk.specs.Facts.{DiskFacts}
use Rattle.qq_ports.specs.Streams.{SinkState, SourceState, Writes}
use Rattle.qq_route.specs.declared.setup.Setup.{Setup}
use Rattle.qq_cluster_run.specs.declared.stop.Stop.{Stop}
use Rattle.qq_cluster_run.specs.Endings.{Ending}
use Rattle.qq_cluster_run.specs.Runs.{Closes, HasRun, HasStopped, ending_of}
use Rattle.qq_cluster_run.proofs.Closings.{at, stop_closes, stopped_earlier}
use Rattle.qq_broker.specs.Lives.{Giving}
use Rattle.qq_broker.specs.Takers.{RunClaims, RunMeets}
use Rattle.qq_taker.specs.Takers.{Takers}
use Rattle.qq_broker.proofs.Meeting.{run-earlier}

-- `first` is the yard's count of faults when the run began, and `a` the sink's state; at the stop they are `after` and `b`
pub run-stopped : {D : Type 0} (given : Giving D) (facts : DiskFacts D) (takers later : Takers) (s : Setup)
    (stop : Stop) (status : ℕ) (ending : Ending) (x y : SourceState)
    (a b c : SinkState) (first before after : ℕ) → first ≤ before → a.faults ≤ b.faults → b.faults ≤ c.faults
    → HasStopped stop s (at x a) (at y b) (RunMeets given facts takers before after)
    (RunClaims given facts takers later) [] → Closes status ending b c (Writes b c) → ending ≡ ending_of stop
    → HasRun status s (at x a) (at y c) (RunMeets given facts takers first after) (RunClaims given facts takers later)
run-stopped given facts takers later s stop status ending x y a b c first before after earlier le more so closes
    is =
    let met = RunMeets given facts takers first after in
    let claims = RunClaims given facts takers later in
    let stopped = stopped_earlier (RunMeets given facts takers before after) met claims
    (run-earlier given facts takers first before after earlier) stop s (at x a) (at y b) [] so in
    inr (inr (record {
      stop = stop;
      closes = subst
          (λ (e : Ending). Closes status e a c (λ more'. HasStopped stop s (at x a) (at y c) met claims more')) is
          (stop_closes stop status ending s x y a b c met claims le more stopped closes);
    }))
