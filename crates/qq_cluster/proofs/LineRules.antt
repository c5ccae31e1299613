-- The lines of a script.
use Rattle.std.proofs.Common.{◌≡◌, ◌<◌, ◌≤◌, ◌+◌, ◌-◌, ℕ, true, false, List, Option, Some, None, ◌⊎◌, inl, inr, get_or, length, refl, sym, ap, ◌∙◌, subst, arith}
use Rattle.std.specs.Prelude.{slice_get}
use Rattle.std.proofs.lemmas.List.FromFn.{length-range_with_len}
use Rattle.qq_base.specs.declared.ids.QueueId.{QueueId}
use Rattle.qq_entry.specs.declared.command.Unstamped.{Unstamped}
use Rattle.qq_session.specs.Clients.{Clients}
use Rattle.qq_cluster_model.specs.Cluster.{Alike, At, Cluster, ClusterEvent, SaysDown, Setup, Standing, cluster_happens, event_of}
use Rattle.qq_cluster_model.specs.Lines.{WhereUp}
use Rattle.qq_cluster_model.specs.Outcome.{Outcome}
use Rattle.qq_cluster_model.specs.Queue.{Queue, TellsEnded, happens}
use Rattle.qq_cluster_model.specs.Rules.{ForEach, Is, IsClaimed, IsGiven, is_ended, is_quiet, not_taken}
use Rattle.qq_queue.specs.ClusterQueue.{Stands as IsQueue}
use Rattle.qq_queue.specs.Sessions.{Standings, standings}
use Rattle.qq_queue.specs.declared.cluster_queue.ClusterQueue.{ClusterQueue}
use Rattle.qq_cluster.specs.Nodes.{GaveUp, IsQueueAt, LeadsIn, Served, Stands, places_in}
use Rattle.qq_cluster.specs.declared.nodes.Nodes.{Nodes as Held}
use Rattle.qq_cluster.proofs.OneQueue.{node-stays}
use Rattle.qq_cluster.proofs.Outcomes.{same-outcome, shows-one}
use Rattle.qq_cluster.proofs.Pumping.{rule-else, rule-if}
use Rattle.qq_base.specs.declared.memory.Memory.{Memory}
use Rattle.qq_cluster.proofs.Stands.{Ruling, each-end, each-more, gave_up-each, gave_up-weaker, served-unseen, served-weaker}
use Rattle.qq_cluster.proofs.Total.{Total}
use Rattle.qq_cluster.proofs.Walks.{drop-past, place-at}
use Rattle.std.proofs.lemmas.Option.{slice_get_cases}
use Rattle.qq_disk.specs.Facts.{DiskFacts}

-- whether a session has ended is kept once for all queues
ended-is : (sessions : Standings) (d : ClusterQueue) (q : Queue) (session : ℕ) → IsQueue sessions d q
    → is_ended session q ≡ (sessions session).ended
ended-is sessions d q session st = ap (λ (clients : Clients). (clients session).ended) st.clients

pub queue-index : {D : Type 0} (held : Held D) (queue : QueueId) → IsQueueAt queue held
    → queue.0 - 1 < length held.queues.items
queue-index held queue is = let low = is.0 in let high = is.1 in omega (arith, low, high)

module _ {D : Type 0} {facts : DiskFacts D} where
  pub ended-at : (setup : Setup) (c : Cluster) (held : Held D) (at session : ℕ) → Stands facts setup held c
      → at < length held.queues.items
      → is_ended session (c.queue (at + 1)) ≡ (standings held.sessions session).ended
  ended-at setup c held at session st lt =
      by (slice_get_cases held.queues.items at).1
    where
      by : ((d : ClusterQueue) × (at < length held.queues.items) × (slice_get held.queues.items at ≡ Some d)
          × (get_or held.queues.items at d ≡ d))
          ⊎ ((length held.queues.items ≤ at) × (slice_get held.queues.items at ≡ None))
          → is_ended session (c.queue (at + 1)) ≡ (standings held.sessions session).ended
      by (inl found) =
          ended-is (standings held.sessions) found.0 (c.queue (at + 1)) session (st.queues at found.0 found.2).stands
      by (inr past_end) = let le = past_end.0 in absurd (omega (arith, le, lt))

module _ {D : Type 0} {facts : DiskFacts D} where
  -- a rule for the place of a queue
  pub at-queue : (Each : ℕ → Setup → Cluster → List ClusterEvent → Type 0) {old new : Held D}
      {before later : Outcome} (queue : QueueId) → 0 < queue.0
      → Served facts (Each ((queue.0 - 1) + 1)) old new before later → Served facts (Each queue.0) old new before later
  at-queue Each {old = old} {new = new} {before = before} {later = later} queue low served =
      subst (λ (k : ℕ). Served facts (Each k) old new before later)
      (let e : (queue.0 - 1) + 1 ≡ queue.0 = omega (arith, low) in e) served

  -- ---- a session that has ended, or not

  pub gives-ended : (at session : ℕ) (body : Unstamped) {old new : Held D} {before later : Outcome}
      → at < length old.queues.items → true ≡ (standings old.sessions session).ended
      → Served facts (λ setup. Is (At (at + 1) (TellsEnded session))) old new before later
      → Served facts (λ setup. IsGiven session body (at + 1)) old new before later
  gives-ended at session body {old = old} lt ended served =
      served-weaker served
      (λ setup c events r st allowed. rule-if (is_ended session (c.queue (at + 1)))
      (Is (At (at + 1) (TellsEnded session)))
      (IsClaimed (not_taken session body (c.queue (at + 1))) session body (at + 1)) c events
      (ended-at setup c old at session st lt ∙ sym ended) allowed)

  pub gives : (at session : ℕ) (body : Unstamped) {old new : Held D} {before later : Outcome} (o : Option ℕ)
      → at < length old.queues.items → false ≡ (standings old.sessions session).ended
      → ((setup : Setup) (c : Cluster) → Stands facts setup old c → o ≡ not_taken session body (c.queue (at + 1)))
      → Served facts (λ setup. IsClaimed o session body (at + 1)) old new before later
      → Served facts (λ setup. IsGiven session body (at + 1)) old new before later
  gives at session body {old = old} o lt not' untaken served =
      served-weaker served
      (λ setup c events r st allowed. rule-else (is_ended session (c.queue (at + 1)))
      (Is (At (at + 1) (TellsEnded session)))
      (IsClaimed (not_taken session body (c.queue (at + 1))) session body (at + 1)) c events
      (ended-at setup c old at session st lt ∙ sym not')
      (subst (λ (x : Option ℕ). IsClaimed x session body (at + 1) c events)
      (untaken setup c st) allowed))

  -- ---- where a node is up, or down

  pub where-up : {Rule : Ruling} (k : ℕ) {old new : Held D} {before later : Outcome}
      → ((setup : Setup) (c : Cluster) → Stands facts setup old c → true ≡ c.up k)
      → Served facts Rule old new before later → Served facts (λ setup. WhereUp k (Rule setup)) old new before later
  where-up {Rule = Rule} k up served =
      served-weaker served
      (λ setup c events r st allowed. rule-if (c.up k) (Rule setup) (Is (SaysDown k)) c events (sym (up setup c st))
      allowed)

  pub where-down : {Rule : Ruling} (k : ℕ) {old new : Held D} {before later : Outcome}
      → ((setup : Setup) (c : Cluster) → Stands facts setup old c → false ≡ c.up k)
      → Served facts (λ setup. Is (SaysDown k)) old new before later
      → Served facts (λ setup. WhereUp k (Rule setup)) old new before later
  where-down {Rule = Rule} k down served =
      served-weaker served
      (λ setup c events r st allowed. rule-else (c.up k) (Rule setup) (Is (SaysDown k)) c events (sym (down setup c st))
      allowed)

  -- ---- what happens to all queues alike

  pub served-alike : (standing : Standing) (old new : Held D) (outcome : Outcome)
      → new ≡ record old { sessions = new.sessions }
      → ((q : Queue) → (happens q (event_of standing)).group ≡ q.group)
      → ((d : ClusterQueue) (q : Queue) → IsQueue (standings old.sessions) d q
      → IsQueue (standings new.sessions) d (happens q (event_of standing)))
      → Served facts (λ setup. Is (Alike standing)) old new outcome outcome
  served-alike standing old new outcome same group does =
      served-unseen (Alike standing) old new outcome outcome refl (ap (λ (h : Held D). h.nodes) same)
      (λ setup c r st. (
        refl,
        subst (λ (h : Held D). Stands facts setup h (cluster_happens c (Alike standing))) (sym same) (record {
          set_up = st.set_up;
          queues = λ i d there. (let was = st.queues i d there in record {
            stands = does d (c.queue (i + 1)) was.stands;
            sound = was.sound;
            name_is = was.name_is;
            place_is = was.place_is;
          });
          nodes = λ i node there. node-stays setup c (Alike standing) (i + 1) node refl (st.nodes i node there);
          auto = st.auto;
          within = st.within;
          quiet = λ i lt calm. ap (λ g. is_quiet setup c.up (record (c.queue (i + 1)) { group = g }))
              (group (c.queue (i + 1))) ∙ st.quiet i lt calm;
        }),
        shows-one setup c (Alike standing) outcome outcome (same-outcome outcome),
      ))

  -- ---- loops over all places

  pub places-more : (Each : Setup → ℕ → Cluster → List ClusterEvent → Type 0) {old mid new : Held D}
      {before middle later : Outcome} (at : ℕ) → at < length mid.queues.items
      → Served facts (LeadsIn places_in at Each) old mid before middle
      → Served facts (λ setup. Each setup (at + 1)) mid new middle later
      → Served facts (LeadsIn places_in (at + 1) Each) old new before later
  places-more Each {mid = mid} at lt first second =
      each-more places_in Each at (at + 1)
      (λ setup c st. place-at setup.places (length mid.queues.items) at st.set_up.places lt) first second

  pub places-end : (Each : Setup → ℕ → Cluster → List ClusterEvent → Type 0) {old new : Held D} {before later : Outcome}
      (at : ℕ) → length new.queues.items ≤ at
      → Served facts (LeadsIn places_in at Each) old new before later
      → Served facts (λ setup. ForEach setup.places (Each setup)) old new before later
  places-end Each {new = new} at le served =
      each-end places_in Each at
      (λ setup c st. drop-past setup.places at
      (let e = ap length st.set_up.places in let long = length-range_with_len 1 (length new.queues.items) in
      omega (arith, e, long, le))) served

  -- ---- what is given up

  pub at-queue_gave_up : (Each : ℕ → Setup → Cluster → List ClusterEvent → Type 0) {old new : Held D}
      {memory : Memory} (queue : QueueId) → 0 < queue.0
      → GaveUp facts (Each ((queue.0 - 1) + 1)) old new memory → GaveUp facts (Each queue.0) old new memory
  at-queue_gave_up Each {old = old} {new = new} {memory = memory} queue low given =
      subst (λ (k : ℕ). GaveUp facts (Each k) old new memory)
      (let e : (queue.0 - 1) + 1 ≡ queue.0 = omega (arith, low) in e) given

  pub ended-gave_up : (at session : ℕ) (body : Unstamped) {old new : Held D} {memory : Memory}
      → at < length old.queues.items → true ≡ (standings old.sessions session).ended
      → GaveUp facts (λ setup. Is (At (at + 1) (TellsEnded session))) old new memory
      → GaveUp facts (λ setup. IsGiven session body (at + 1)) old new memory
  ended-gave_up at session body {old = old} lt ended given =
      gave_up-weaker
      (λ setup c events r st allowed. rule-if (is_ended session (c.queue (at + 1)))
      (Is (At (at + 1) (TellsEnded session)))
      (IsClaimed (not_taken session body (c.queue (at + 1))) session body (at + 1)) c events
      (ended-at setup c old at session st lt ∙ sym ended) allowed) given

  pub submit-gave_up : (at session : ℕ) (body : Unstamped) {old new : Held D} {memory : Memory} (o : Option ℕ)
      → at < length old.queues.items → false ≡ (standings old.sessions session).ended
      → ((setup : Setup) (c : Cluster) → Stands facts setup old c → o ≡ not_taken session body (c.queue (at + 1)))
      → GaveUp facts (λ setup. IsClaimed o session body (at + 1)) old new memory
      → GaveUp facts (λ setup. IsGiven session body (at + 1)) old new memory
  submit-gave_up at session body {old = old} o lt not' untaken given =
      gave_up-weaker
      (λ setup c events r st allowed. rule-else (is_ended session (c.queue (at + 1)))
      (Is (At (at + 1) (TellsEnded session)))
      (IsClaimed (not_taken session body (c.queue (at + 1))) session body (at + 1)) c events
      (ended-at setup c old at session st lt ∙ sym not')
      (subst (λ (x : Option ℕ). IsClaimed x session body (at + 1) c events)
      (untaken setup c st) allowed)) given

  pub up-gave_up : {Rule : Ruling} (k : ℕ) {old new : Held D} {memory : Memory}
      → ((setup : Setup) (c : Cluster) → Stands facts setup old c → true ≡ c.up k) → GaveUp facts Rule old new memory
      → GaveUp facts (λ setup. WhereUp k (Rule setup)) old new memory
  up-gave_up {Rule = Rule} k up given =
      gave_up-weaker
      (λ setup c events r st allowed. rule-if (c.up k) (Rule setup) (Is (SaysDown k)) c events (sym (up setup c st))
      allowed) given

  pub places-gave_up : (Each : Setup → ℕ → Cluster → List ClusterEvent → Type 0) {old mid new : Held D}
      {before middle : Outcome} {memory : Memory} (at : ℕ) → ((setup : Setup) (place : ℕ) → Total (Each setup place))
      → at < length mid.queues.items → Served facts (LeadsIn places_in at Each) old mid before middle
      → GaveUp facts (λ setup. Each setup (at + 1)) mid new memory
      → GaveUp facts (λ setup. ForEach setup.places (Each setup)) old new memory
  places-gave_up Each {mid = mid} at total lt first second =
      gave_up-each places_in Each at (at + 1) total
      (λ setup c st. place-at setup.places (length mid.queues.items) at st.set_up.places lt) first second
