-- The routes of a setup lead to its queues.
use Rattle.std.proofs.Common.{◌≡◌, ℕ, Bool, List, [], ◌∷◌, length, map, Option, Some, None, sym, subst, arith}
use Rattle.std.specs.Prelude.{All, filter}
use Rattle.std.specs.List.{AllByRecursion}
use Rattle.std.specs.Option.{option_map}
use Rattle.std.proofs.lemmas.Bool.{cond_both}
use Rattle.std.proofs.lemmas.List.Elements.{All-weaker, recursion_from_All}
use Rattle.qq_base.specs.declared.ids.QueueId.{QueueId}
use Rattle.qq_raft_protocol.specs.Facts.{In}
use Rattle.qq_defs.specs.Runnable.{AreQueuesAfter, IsNumber}
use Rattle.qq_route.specs.Routes.{ExchangeState, Table, comes_to, queue_id, targets}
use Rattle.qq_route.specs.declared.queue_row.QueueRow.{QueueRow}
use Rattle.qq_route.specs.declared.setup.Setup.{Setup}
use Rattle.qq_route.specs.Setup.{state_of}
use Rattle.qq_cluster_run.specs.Setup.{place_of}
use Rattle.qq_cluster_run.proofs.QueueRows.{places-after}
use Rattle.qq_broker.specs.Nodes.{MayRun}
use Rattle.qq_broker.specs.Serving.{AreThere}
use Rattle.qq_broker.proofs.GoingOn.{range-in}

-- numbers of some queues
abbrev AreOf : List ℕ → List ℕ → Type 0
AreOf places numbers = All (λ (number : ℕ). In number places) numbers

-- the numbers of a setup's queues
of-queues : (nodes : ℕ) (rows : List QueueRow) (number : ℕ) → AreQueuesAfter nodes 0 rows → IsNumber (length rows) number
    → In number (map place_of rows)
of-queues nodes rows number are is =
    subst (In number) (sym (places-after nodes 0 rows are)) (range-in number 1 (length rows) is.0 (omega (arith, is.1)))

filtered : (places numbers : List ℕ) (passes : ℕ → Bool) → AllByRecursion (λ (number : ℕ). In number places) numbers
    → AllByRecursion (λ (queue : QueueId). In queue.0 places) (map queue_id (filter passes numbers))
filtered places [] passes each = tt
filtered places (number ∷ numbers) passes each =
    let rest = filtered places numbers passes each.1 in
    cond_both (passes number) (number ∷ filter passes numbers) (filter passes numbers)
    (λ (l : List ℕ). AllByRecursion (λ (queue : QueueId). In queue.0 places) (map queue_id l))
    (λ is. (each.0, rest)) (λ isnt. rest)

of-exchange : (places : List ℕ) (t : Table) (key : List ℕ) (o : Option ExchangeState) (queues : List QueueId)
    → AreOf places t.queues
    → option_map (λ (e : ExchangeState). map queue_id (filter (comes_to e key) t.queues)) o ≡ Some queues
    → AllByRecursion (λ (queue : QueueId). In queue.0 places) queues
of-exchange places t key None queues are is = absurd cc
of-exchange places t key (Some e) queues are is =
    let same : map queue_id (filter (comes_to e key) t.queues) ≡ queues = cc in
    subst (AllByRecursion (λ (queue : QueueId). In queue.0 places)) same
    (filtered places t.queues (comes_to e key) (recursion_from_All (λ (number : ℕ). In number places) t.queues are))

pub targets-there : (s : Setup) (exchange key : List ℕ) (queues : List QueueId) → MayRun s
    → targets (state_of s).table exchange key ≡ Some queues → AreThere s queues
targets-there s exchange key queues runs is =
    let t : Table = (state_of s).table in
    of-exchange (map place_of s.queues) t key (t.exchanges exchange) queues
    (All-weaker (IsNumber (length s.queues)) (λ (number : ℕ). In number (map place_of s.queues))
    (λ number own. of-queues s.nodes s.queues number runs.queues_are own) t.queues runs.routed)
    is
