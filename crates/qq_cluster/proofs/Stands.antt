-- Which cluster is stood for after a call, and what the call has served.
use Rattle.std.proofs.Common.{◌≡◌, ◌<◌, ◌≤◌, ◌+◌, ◌-◌, ℕ, true, List, [], ◌∷◌, ◌++◌, None, length, get_or, drop, refl, sym, ap, ◌∙◌, subst, arith, append_assoc, append-nil}
use Rattle.std.specs.Global.{Vec}
use Rattle.std.specs.List.{AllByRecursion}
use Rattle.qq_base.specs.declared.memory.Memory.{Memory}
use Rattle.qq_base.specs.declared.memory.Memory.TheVariants.{Spent, Want}
use Rattle.qq_disk.specs.Facts.{DiskFacts}
use Rattle.qq_cluster_model.specs.Cluster.{Cluster, ClusterEvent, Setup, cluster_after, cluster_happens}
use Rattle.qq_cluster_model.specs.Outcome.{Outcome}
use Rattle.qq_cluster_model.specs.Rules.{ForEach, IsNothing, Then, is_quiet}
use Rattle.qq_cluster_laws.specs.Linked.{IsReached}
use Rattle.qq_cluster_laws.specs.Serves.{GivesUp, Leads, Seen, Serves}
use Rattle.qq_cluster_laws.specs.Unseen.{seen_by}
use Rattle.qq_cluster_laws.proofs.Reached.{reached-after}
use Rattle.qq_cluster_laws.proofs.Serves.{ShowsOne, gives_up-behind, gives_up-same, leads-more, leads-start, serves-both, serves-nothing, serves-unseen, serves-weaker}
use Rattle.qq_cluster.specs.Active.{AreRising}
use Rattle.qq_cluster.specs.Ends.{IsAtEnd}
use Rattle.qq_cluster.specs.Nodes.{Begins, CanServe, EndsAt, GaveUp, HaveLogs, LeadsIn, NumberAt, Served, Stands, node_at, places_in, seen, seen_in}
use Rattle.qq_cluster.specs.declared.node.Node.{Node}
use Rattle.qq_cluster.specs.declared.nodes.Nodes.{Nodes as Held}
use Rattle.qq_cluster.proofs.Outcomes.{no_outcome, outcome_after}
use Rattle.qq_cluster.proofs.Total.{Allowed, Total, total-each}
use Rattle.qq_cluster.proofs.Walks.{all-get, next-above, next-end, next-most, none-before, none-between, none-left, place-at, skip}

-- a rule for a cluster of this setup
abbrev pub Ruling : Type 1
Ruling = Setup → Cluster → List ClusterEvent → Type 0

-- where the nodes are the same a clause sees the same of their disks
pub same-seen : {D : Type 0} (facts : DiskFacts D) (old new : Held D)
    → new.nodes ≡ old.nodes → seen facts old ≡ seen facts new
same-seen {D = D} facts old new nodes =
    ap (λ (l : Vec (Node D)). λ (k : ℕ). seen_in facts (node_at k l.items)) (sym nodes)

-- nodes that stand for a cluster have their logs
pub stands-logs : {D : Type 0} {facts : DiskFacts D} (setup : Setup) (held : Held D) (c : Cluster)
    → Stands facts setup held c → HaveLogs setup held.nodes.items
stands-logs setup held c st = record {
  nodes_are = st.set_up.nodes;
  each = λ at node here. (let is = st.nodes at node here in (is.own, is.log_is));
}

-- and so have the same nodes
pub same-logs : {D : Type 0} (setup : Setup) (olds news : Vec (Node D)) → news ≡ olds → HaveLogs setup olds.items
    → HaveLogs setup news.items
same-logs {D} setup olds news same logs = subst (λ (v : Vec (Node D)). HaveLogs setup v.items) (sym same) logs

-- a rule that asks for nothing at a quiet queue
abbrev pub PassesQuiet : {D : Type 0} → DiskFacts D
    → (Setup → ℕ → Cluster → List ClusterEvent → Type 0) → Held D → Type 0
PassesQuiet facts Each held =
    (setup : Setup) (c : Cluster) (place : ℕ) → IsReached setup c → Stands facts setup held c
    → is_quiet setup c.up (c.queue place) ≡ true → Each setup place c []

-- the same call by another rule that allows its events
pub serves-means : {setup : Setup} {c : Cluster} {First More : List ClusterEvent → Type 0} {Stands : Cluster → Type 0}
    {a b : ℕ → Seen} {before later : Outcome} (s : Serves setup c First Stands a b before later) → More s.did.events
    → Serves setup c More Stands a b before later
serves-means s more = record {
  did = record {
    events = s.did.events;
    means = more;
    stands = s.did.stands;
    says = s.did.says;
    sees = s.did.sees;
    told = s.did.told;
    moments = s.did.moments;
  };
  no_crash = s.no_crash;
  rises = s.rises;
  cause = s.cause;
}

-- or from another outcome on
abbrev pub serves-from : {setup : Setup} {c : Cluster} {Allowed : List ClusterEvent → Type 0} {Stands : Cluster → Type 0}
    {a b : ℕ → Seen} {before later : Outcome} (outcome : Outcome) (s : Serves setup c Allowed Stands a b before later)
    → Serves setup c Allowed Stands a b outcome (outcome_after setup c s.did.events outcome)
serves-from outcome s = record {
  did = record {
    events = s.did.events;
    means = s.did.means;
    stands = s.did.stands;
    says = refl;
    sees = refl;
    told = s.did.told;
    moments = s.did.moments;
  };
  no_crash = s.no_crash;
  rises = s.rises;
  cause = s.cause;
}

-- before anything has happened a number is at its end
pub ends-now : {D : Type 0} {facts : DiskFacts D} (setup : Setup) (Allows : Cluster → List ClusterEvent → Type 0)
    (old : Held D) (c : Cluster) (number : ℕ)
    → Stands facts setup old c → Allowed Allows c → NumberAt facts old number → IsAtEnd number
    → EndsAt facts setup Allows old c number
ends-now {facts = facts} setup Allows old c number st more at end = record {
  mid = old;
  before = no_outcome;
  said = no_outcome;
  serves = serves-nothing setup c (Begins Allows c) (Stands facts setup old) (seen facts old) no_outcome
      (record { rest = more.0; allowed = more.1 }) st;
  at = at;
  end = end;
}

-- what follows nothing
after-none : (Rule : Ruling) (setup : Setup) (c : Cluster) (events others : List ClusterEvent) → events ≡ []
    → Rule setup (cluster_after c events) others → Rule setup c (events ++ others)
after-none Rule setup c events others one other =
    subst (λ (l : List ClusterEvent). Rule setup c (l ++ others)) (sym one)
    (subst (λ (l : List ClusterEvent). Rule setup (cluster_after c l) others) one other)

module _ {D : Type 0} {facts : DiskFacts D} where
  -- ---- calls, one after the other

  pub can-after : {Rule : Ruling} {old new : Held D} {before later : Outcome} → CanServe facts old
      → Served facts Rule old new before later → CanServe facts new
  can-after can served =
      let s = served.serves can.0 can.1 can.2 can.3 in
      (can.0, cluster_after can.1 s.did.events, reached-after can.0 can.1 s.did.events can.2, s.did.stands)

  -- what the first and then the second allow is what the whole allows
  pub served-both : {First Second Whole : Ruling} {old mid new : Held D} {before middle later : Outcome}
      → Served facts First old mid before middle → Served facts Second mid new middle later
      → ((setup : Setup) (c : Cluster) (events others : List ClusterEvent) → First setup c events
      → Second setup (cluster_after c events) others → Whole setup c (events ++ others))
      → Served facts Whole old new before later
  served-both {First = First} {Second = Second} {Whole = Whole} {old = old} {mid = mid} {new = new} {before = before} {middle = middle} {later = later} first second join = record {
    serves = λ setup c r st. (let s = first.serves setup c r st in
        let d : Cluster = cluster_after c s.did.events in
        let t = second.serves setup d (reached-after setup c s.did.events r) s.did.stands in
        serves-both setup c (First setup c) (Second setup d) (Whole setup c) (Stands facts setup mid)
        (Stands facts setup new) (seen facts old) (seen facts mid) (seen facts new) before middle later s t
        (join setup c s.did.events t.did.events s.did.means t.did.means));
  }

  pub served-then : {First Second : Ruling} {old mid new : Held D} {before middle later : Outcome}
      → Served facts First old mid before middle → Served facts Second mid new middle later
      → Served facts (λ setup. Then (First setup) (Second setup)) old new before later
  served-then {First = First} {Second = Second} first second =
      served-both {Whole = λ setup. Then (First setup) (Second setup)} first second
      (λ setup c events others one other.
      record { early = events; late = others; is = refl; first = one; second = other })

  -- and then nothing
  pub served-same : {Rule : Ruling} {old mid new : Held D} {before middle later : Outcome}
      → Served facts Rule old mid before middle → Served facts (λ setup. IsNothing) mid new middle later
      → Served facts Rule old new before later
  served-same {Rule = Rule} first second =
      served-both {Whole = Rule} first second
      (λ setup c events others one other. subst (Rule setup c)
      (sym (append-nil events) ∙ ap (λ (l : List ClusterEvent). events ++ l) (sym other)) one)

  -- nothing, and then the rest
  pub after-nothing : {Rule : Ruling} {old mid new : Held D} {before middle later : Outcome}
      → Served facts (λ setup. IsNothing) old mid before middle
      → Served facts Rule mid new middle later → Served facts Rule old new before later
  after-nothing {Rule = Rule} first second =
      served-both {Whole = Rule} first second
      (λ setup c events others one other. after-none Rule setup c events others one other)

  pub served-weaker : {Rule More : Ruling} {old new : Held D} {before later : Outcome}
      → Served facts Rule old new before later
      → ((setup : Setup) (c : Cluster) (events : List ClusterEvent) → IsReached setup c → Stands facts setup old c
      → Rule setup c events → More setup c events) → Served facts More old new before later
  served-weaker {Rule = Rule} {More = More} {old = old} {new = new} {before = before} {later = later} served more = record {
    serves = λ setup c r st. serves-weaker setup c (Rule setup c) (More setup c) (Stands facts setup new)
        (Stands facts setup new) (seen facts old) (seen facts new) before later
        (λ events allowed. more setup c events r st allowed) (λ d is. is) (served.serves setup c r st);
  }

  pub served-nothing : {Rule : Ruling} (held : Held D) (outcome : Outcome)
      → ((setup : Setup) (c : Cluster) → IsReached setup c → Stands facts setup held c → Rule setup c [])
      → Served facts Rule held held outcome outcome
  served-nothing {Rule = Rule} held outcome allowed = record {
    serves = λ setup c r st. serves-nothing setup c (Rule setup c) (Stands facts setup held) (seen facts held) outcome
        (allowed setup c r st) st;
  }

  -- ---- calls that are given up

  -- the disks are as they were, and there was no memory
  pub gave_up-same : {Rule : Ruling} (old new : Held D) (memory : Memory) → new.nodes ≡ old.nodes → memory ≡ Want
      → GaveUp facts Rule old new memory
  gave_up-same old new memory nodes want = record {
    gives_up = λ setup c r st. subst (λ (b : ℕ → Seen). GivesUp setup c (seen facts old) b)
        (same-seen facts old new nodes) (gives_up-same setup c (seen facts old));
    logs = λ setup c r st. same-logs setup old.nodes new.nodes nodes (stands-logs setup old c st);
    spent = λ number is. absurd (let e : Want ≡ Spent number = sym want ∙ is in cc);
  }

  -- what may begin what one rule allows may begin what another does
  pub gave_up-by : {First Whole : Ruling} {old new : Held D} {memory : Memory}
      → ((setup : Setup) (c : Cluster) (early : List ClusterEvent) → IsReached setup c → Stands facts setup old c
      → Begins (First setup) c early → Begins (Whole setup) c early)
      → GaveUp facts First old new memory → GaveUp facts Whole old new memory
  gave_up-by {First = First} {Whole = Whole} {old = old} begins first = record {
    gives_up = first.gives_up;
    logs = first.logs;
    spent = λ number is setup c r st. (let e : EndsAt facts setup (First setup) old c number =
        first.spent number is setup c r st in
        record {
          mid = e.mid;
          before = e.before;
          said = e.said;
          serves = serves-means e.serves (begins setup c e.serves.did.events r st e.serves.did.means);
          at = e.at;
          end = e.end;
        });
  }

  -- what one rule allows another does
  pub gave_up-weaker : {First Whole : Ruling} {old new : Held D} {memory : Memory}
      → ((setup : Setup) (c : Cluster) (events : List ClusterEvent) → IsReached setup c → Stands facts setup old c
      → First setup c events → Whole setup c events)
      → GaveUp facts First old new memory → GaveUp facts Whole old new memory
  gave_up-weaker whole first =
      gave_up-by (λ setup c early r st b. record {
        rest = b.rest;
        allowed = whole setup c (early ++ b.rest) r st b.allowed;
      }) first

  -- in the first of two
  pub gave_up-first : {First Second : Ruling} {old new : Held D} {memory : Memory} → ((setup : Setup) → Total (Second setup))
      → GaveUp facts First old new memory → GaveUp facts (λ setup. Then (First setup) (Second setup)) old new memory
  gave_up-first {First = First} {Second = Second} total first =
      gave_up-by (λ setup c early r st b.
      (let more : Allowed (Second setup) (cluster_after c (early ++ b.rest)) =
      total setup (cluster_after c (early ++ b.rest)) in
      record {
        rest = b.rest ++ more.0;
        allowed = record {
          early = early ++ b.rest;
          late = more.0;
          is = sym (append_assoc early b.rest more.0);
          first = b.allowed;
          second = more.1;
        };
      })) first

  -- after a call that was served
  pub gave_up-after : {First Second Whole : Ruling} {old mid new : Held D} {before middle : Outcome} {memory : Memory}
      → ((setup : Setup) (c : Cluster) (events others : List ClusterEvent) → First setup c events
      → Second setup (cluster_after c events) others → Whole setup c (events ++ others))
      → Served facts First old mid before middle → GaveUp facts Second mid new memory
      → GaveUp facts Whole old new memory
  gave_up-after {First = First} {Second = Second} {Whole = Whole} {old = old} {mid = mid} {new = new} {before = before} {middle = middle} join first second = record {
    gives_up = λ setup c r st. (let s = first.serves setup c r st in
        gives_up-behind setup c (First setup c) (Stands facts setup mid) (seen facts old) (seen facts mid)
        (seen facts new) before middle s
        (second.gives_up setup (cluster_after c s.did.events) (reached-after setup c s.did.events r) s.did.stands));
    logs = λ setup c r st. (let s = first.serves setup c r st in
        second.logs setup (cluster_after c s.did.events) (reached-after setup c s.did.events r) s.did.stands);
    spent = λ number is setup c r st. (let s = first.serves setup c r st in
        let events : List ClusterEvent = s.did.events in
        let d : Cluster = cluster_after c events in
        let e : EndsAt facts setup (Second setup) mid d number =
        second.spent number is setup d (reached-after setup c events r) s.did.stands in
        let early : List ClusterEvent = e.serves.did.events in
        let rest : List ClusterEvent = e.serves.did.means.rest in
        record {
          mid = e.mid;
          before = before;
          said = outcome_after setup d early middle;
          serves = serves-both setup c (First setup c) (Begins (Second setup) d) (Begins (Whole setup) c)
              (Stands facts setup mid) (Stands facts setup e.mid) (seen facts old) (seen facts mid) (seen facts e.mid)
              before middle (outcome_after setup d early middle) s
              (serves-from middle e.serves) (record {
                rest = rest;
                allowed = subst (Whole setup c) (sym (append_assoc events early rest))
                    (join setup c events (early ++ rest) s.did.means e.serves.did.means.allowed);
              });
          at = e.at;
          end = e.end;
        });
  }

  -- in the second of two
  pub gave_up-second : {First Second : Ruling} {old mid new : Held D} {before middle : Outcome} {memory : Memory}
      → Served facts First old mid before middle → GaveUp facts Second mid new memory
      → GaveUp facts (λ setup. Then (First setup) (Second setup)) old new memory
  gave_up-second {First = First} {Second = Second} first second =
      gave_up-after {Whole = λ setup. Then (First setup) (Second setup)}
      (λ setup c events others one other.
      record { early = events; late = others; is = refl; first = one; second = other }) first second

  -- after nothing
  pub gave_up-nothing : {Rule : Ruling} {old mid new : Held D} {before middle : Outcome} {memory : Memory}
      → Served facts (λ setup. IsNothing) old mid before middle
      → GaveUp facts Rule mid new memory → GaveUp facts Rule old new memory
  gave_up-nothing {Rule = Rule} first second =
      gave_up-after {Whole = Rule} (λ setup c events others one other. after-none Rule setup c events others one other)
      first second

  -- within a loop
  pub gave_up-leads : {Rest Whole : Ruling} {old mid new : Held D} {before middle : Outcome} {memory : Memory}
      → Served facts (λ setup. Leads (Rest setup) (Whole setup)) old mid before middle
      → GaveUp facts Rest mid new memory → GaveUp facts Whole old new memory
  gave_up-leads {Rest = Rest} {Whole = Whole} first second =
      gave_up-after {Whole = Whole} (λ setup c events others one other. one others other) first second

  -- the loop's next item
  pub gave_up-each : (list : Setup → List ℕ) (Each : Setup → ℕ → Cluster → List ClusterEvent → Type 0)
      {old mid new : Held D} {before middle : Outcome} {memory : Memory} (at x : ℕ)
      → ((setup : Setup) (place : ℕ) → Total (Each setup place))
      → ((setup : Setup) (c : Cluster) → Stands facts setup mid c
      → drop at (list setup) ≡ x ∷ drop (at + 1) (list setup))
      → Served facts (LeadsIn list at Each) old mid before middle → GaveUp facts (λ setup. Each setup x) mid new memory
      → GaveUp facts (λ setup. ForEach (list setup) (Each setup)) old new memory
  gave_up-each list Each {memory = memory} at x total here first second =
      gave_up-leads {Rest = λ setup. ForEach (drop at (list setup)) (Each setup)} {Whole = λ setup. ForEach (list setup) (Each setup)} first
      (gave_up-by (λ setup c early r st b.
      subst (λ (l : List ℕ). Begins (ForEach l (Each setup)) c early) (sym (here setup c st)) b)
      (gave_up-first {First = λ setup. Each setup x} {Second = λ setup. ForEach (drop (at + 1) (list setup)) (Each setup)}
      (λ setup. total-each (drop (at + 1) (list setup)) (Each setup) (total setup)) second))

  -- ---- single events

  -- nothing happens, and they stand for what they stood for
  pub served-still : {Rule : Ruling} (old new : Held D) (outcome : Outcome) → new.nodes ≡ old.nodes
      → ((setup : Setup) (c : Cluster) → IsReached setup c → Stands facts setup old c
      → Rule setup c [] × Stands facts setup new c) → Served facts Rule old new outcome outcome
  served-still {Rule = Rule} old new outcome nodes still = record {
    serves = λ setup c r st. (let both = still setup c r st in
        subst (λ (b : ℕ → Seen). Serves setup c (Rule setup c) (Stands facts setup new) (seen facts old) b outcome
        outcome) (same-seen facts old new nodes)
        (serves-nothing setup c (Rule setup c) (Stands facts setup new) (seen facts old) outcome both.0 both.1));
  }

  -- an event that no node's log sees
  pub served-unseen : {Rule : Ruling} (event : ClusterEvent) (old new : Held D) (before later : Outcome)
      → seen_by event ≡ None → new.nodes ≡ old.nodes
      → ((setup : Setup) (c : Cluster) → IsReached setup c → Stands facts setup old c
      → Rule setup c (event ∷ []) × Stands facts setup new (cluster_happens c event)
      × ShowsOne setup c event before later)
      → Served facts Rule old new before later
  served-unseen {Rule = Rule} event old new before later unseen nodes does = record {
    serves = λ setup c r st. (let d = does setup c r st in
        subst (λ (b : ℕ → Seen). Serves setup c (Rule setup c) (Stands facts setup new) (seen facts old) b before later)
        (same-seen facts old new nodes)
        (serves-unseen setup c event (Rule setup c) (Stands facts setup new) (seen facts old) before later
        unseen d.0 d.1 d.2));
  }

  -- ---- loops

  pub each-start : (list : Setup → List ℕ) (Each : Setup → ℕ → Cluster → List ClusterEvent → Type 0) (held : Held D)
      (outcome : Outcome) → Served facts (LeadsIn list 0 Each) held held outcome outcome
  each-start list Each held outcome =
      served-nothing held outcome (λ setup c r st. leads-start (ForEach (list setup) (Each setup)) c)

  -- one more is served
  pub each-more : (list : Setup → List ℕ) (Each : Setup → ℕ → Cluster → List ClusterEvent → Type 0)
      {old mid new : Held D} {before middle later : Outcome} (at x : ℕ)
      → ((setup : Setup) (c : Cluster) → Stands facts setup mid c
      → drop at (list setup) ≡ x ∷ drop (at + 1) (list setup))
      → Served facts (LeadsIn list at Each) old mid before middle
      → Served facts (λ setup. Each setup x) mid new middle later
      → Served facts (LeadsIn list (at + 1) Each) old new before later
  each-more list Each {old = old} {mid = mid} {new = new} {before = before} {middle = middle} {later = later} at x here first second = record {
    serves = λ setup c r st. (let s = first.serves setup c r st in
        let d : Cluster = cluster_after c s.did.events in
        let t = second.serves setup d (reached-after setup c s.did.events r) s.did.stands in
        serves-both setup c (LeadsIn list at Each setup c) (Each setup x d) (LeadsIn list (at + 1) Each setup c)
        (Stands facts setup mid) (Stands facts setup new) (seen facts old) (seen facts mid) (seen facts new)
        before middle later s t
        (leads-more (ForEach (drop at (list setup)) (Each setup)) (ForEach (drop (at + 1) (list setup)) (Each setup))
        (ForEach (list setup) (Each setup)) c s.did.events t.did.events s.did.means
        (λ late allowed. subst (λ (l : List ℕ). ForEach l (Each setup) d (t.did.events ++ late))
        (sym (here setup d s.did.stands))
        (record { early = t.did.events; late = late; is = refl; first = t.did.means; second = allowed }))));
  }

  -- all of them
  pub each-end : (list : Setup → List ℕ) (Each : Setup → ℕ → Cluster → List ClusterEvent → Type 0) {old new : Held D}
      {before later : Outcome} (at : ℕ)
      → ((setup : Setup) (c : Cluster) → Stands facts setup new c → drop at (list setup) ≡ [])
      → Served facts (LeadsIn list at Each) old new before later
      → Served facts (λ setup. ForEach (list setup) (Each setup)) old new before later
  each-end list Each {old = old} {new = new} {before = before} {later = later} at past_all served = record {
    serves = λ setup c r st. (let s = served.serves setup c r st in
        let d : Cluster = cluster_after c s.did.events in
        serves-means s (subst (ForEach (list setup) (Each setup) c) (append-nil s.did.events)
        (s.did.means [] (subst (λ (l : List ℕ). ForEach l (Each setup) d []) (sym (past_all setup d s.did.stands)) refl))));
  }

  -- ---- loops over the places that are active

  -- places at which nothing has to happen are passed over
  pub each-skip : (Each : Setup → ℕ → Cluster → List ClusterEvent → Type 0) {old new : Held D} {before later : Outcome}
      (from to : ℕ) → from ≤ to → to ≤ length new.queues.items
      → ((setup : Setup) (c : Cluster) → IsReached setup c → Stands facts setup new c → (at : ℕ) → from ≤ at → at < to
      → Each setup (at + 1) c []) → Served facts (LeadsIn places_in from Each) old new before later
      → Served facts (LeadsIn places_in to Each) old new before later
  each-skip Each {old = old} {new = new} {before = before} {later = later} from to low high quiet served = record {
    serves = λ setup c r st. (let s = served.serves setup c r st in
        let d : Cluster = cluster_after c s.did.events in
        serves-means s (λ late allowed. s.did.means late (skip (Each setup) setup.places (length new.queues.items) d late
        s.did.stands.set_up.places (to - from) from to (omega (arith, low)) high
        (λ at least most. quiet setup d (reached-after setup c s.did.events r) s.did.stands at least most) allowed)));
  }

  -- before the first active place
  pub active-start : (Each : Setup → ℕ → Cluster → List ClusterEvent → Type 0) (held : Held D) (outcome : Outcome)
      → AreRising held.active → PassesQuiet facts Each held
      → AllByRecursion (λ (at : ℕ). at < length held.queues.items) held.active
      → Served facts (LeadsIn places_in (get_or held.active 0 (length held.queues.items)) Each) held held outcome
      outcome
  active-start Each held outcome rising passes within =
      each-skip Each 0 (get_or held.active 0 (length held.queues.items)) (omega arith)
      (next-most held.active (length held.queues.items) 0 within)
      (λ setup c r st at low high. passes setup c (at + 1) r st
      (st.quiet at (let most = next-most held.active (length held.queues.items) 0 within in omega (arith, high, most))
      (none-before held.active (length held.queues.items) at rising high)))
      (each-start places_in Each held outcome)

  -- from one active place to the next
  pub active-more : (Each : Setup → ℕ → Cluster → List ClusterEvent → Type 0) {old mid new : Held D}
      {before middle later : Outcome} (i at : ℕ) → PassesQuiet facts Each new → AreRising new.active
      → new.active ≡ mid.active
      → length new.queues.items ≡ length mid.queues.items
      → AllByRecursion (λ (n : ℕ). n < length mid.queues.items) mid.active → i < length mid.active
      → at ≡ get_or mid.active i (length mid.queues.items)
      → Served facts (LeadsIn places_in (get_or mid.active i (length mid.queues.items)) Each) old mid before middle
      → Served facts (λ setup. Each setup (at + 1)) mid new middle later
      → Served facts (LeadsIn places_in (get_or new.active (i + 1) (length new.queues.items)) Each) old new before later
  active-more Each {old = old} {mid = mid} {new = new} {before = before} {middle = middle} {later = later} i at passes rising same many within lt is first second =
      each-skip Each (at + 1) next
      (next-above new.active n i at rising inside (omega (arith, lt, long)) here)
      (next-most new.active n (i + 1) inside)
      (λ setup c r st k low high. passes setup c (k + 1) r st
      (st.quiet k (let most = next-most new.active n (i + 1) inside in omega (arith, high, most))
      (none-between new.active n i n k rising (omega (arith, lt, long)) (omega (arith, low, here)) high)))
      (each-more places_in Each at (at + 1)
      (λ setup c st. place-at setup.places (length mid.queues.items) at st.set_up.places
      (let below = all-get (λ (x : ℕ). x < length mid.queues.items) mid.active i (length mid.queues.items) within lt in
      omega (arith, below, is)))
      (subst (λ (k : ℕ). Served facts (LeadsIn places_in k Each) old mid before middle) (sym is) first) second)
    where
      n : ℕ
      n = length new.queues.items

      next : ℕ
      next = get_or new.active (i + 1) n

      long : length new.active ≡ length mid.active
      long = ap length same

      here : at ≡ get_or new.active i n
      here =
          is ∙ ap (λ (l : List ℕ). get_or l i (length mid.queues.items)) (sym same)
          ∙ ap (λ (m : ℕ). get_or new.active i m) (sym many)

      inside : AllByRecursion (λ (k : ℕ). k < length new.queues.items) new.active
      inside =
          subst (λ (m : ℕ). AllByRecursion (λ (k : ℕ). k < m) new.active) (sym many)
          (subst (AllByRecursion (λ (k : ℕ). k < length mid.queues.items)) (sym same) within)

  -- after the last one
  pub active-end : (Each : Setup → ℕ → Cluster → List ClusterEvent → Type 0) {old new : Held D} {before later : Outcome}
      (i : ℕ) → length new.active ≤ i
      → Served facts (LeadsIn places_in (get_or new.active i (length new.queues.items)) Each) old new before later
      → Served facts (λ setup. ForEach setup.places (Each setup)) old new before later
  active-end Each {old = old} {new = new} {before = before} {later = later} i le served =
      each-end places_in Each (length new.queues.items)
      (λ setup c st. none-left setup.places (length new.queues.items) st.set_up.places)
      (subst (λ (k : ℕ). Served facts (LeadsIn places_in k Each) old new before later)
      (next-end new.active (length new.queues.items) i le) served)
