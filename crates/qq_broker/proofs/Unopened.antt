-- The nodes of a run weren't opened, and the run ends.
use Rattle.std.proofs.Common.{◌≡◌, ◌≢◌, ◌⊎◌, ◌+◌, ◌-◌, ℕ, zero, suc, Bool, true, false, List, [], ◌∷◌, ◌++◌, Ok, Err, Option, Some, None, length, refl, sym, ap, subst, ◌∙◌, inl, inr, arith}
use Rattle.std.specs.Prelude.{Contains, nat_eq, option_map, ◌||◌}
use Rattle.std.proofs.lemmas.Bool.{eqb-true}
use Rattle.std.proofs.lemmas.Bool.Decides.{eqb_tells}
use Rattle.std.proofs.lemmas.Option.{slice_get_within}
use Rattle.std.specs.List.{AllByRecursion, list_all, range_with_len}
use Rattle.qq_base.specs.Causes.{Rose}
use Rattle.qq_base.specs.Fronts.{put}
use Rattle.qq_base.proofs.Puts.{put-other, put-same}
use Rattle.qq_base.specs.declared.ids.NodeId.{NodeId}
use Rattle.qq_base.specs.declared.ids.QueueId.{QueueId}
use Rattle.qq_base.specs.declared.memory.Memory.TheVariants.{Spent, Want}
use Rattle.qq_disk.specs.Disk.{Disk, now}
use Rattle.qq_disk.specs.Facts.{DiskFacts}
use Rattle.qq_log.specs.declared.op.Op.{Op}
use Rattle.qq_log.specs.Stable.{stable}
use Rattle.qq_lots.specs.Left.{state_in}
use Rattle.qq_model.proofs.Soundness.{Contains-in, in_contains}
use Rattle.qq_raft_protocol.specs.Facts.{In}
use Rattle.qq_recover.specs.Reading.{lanes_read, shown}
use Rattle.qq_recover.specs.declared.fault.RecoverFault.{RecoverFault}
use Rattle.qq_recover.specs.declared.fault.RecoverFault.TheVariants as recover_faults
use Rattle.qq_route.specs.declared.setup.Setup.{Setup}
use Rattle.qq_wal_chain.specs.Lanes.{Lanes}
use Rattle.qq_cluster_model.specs.Cluster.{ClusterEvent, Setup as ClusterSetup, cluster_after, members, new_cluster}
use Rattle.qq_cluster_model.specs.ClusterLaws.{HasGroups}
use Rattle.qq_cluster_model.specs.Laws.{IsBegun}
use Rattle.qq_cluster_model.specs.Rules.{IsOpening}
use Rattle.qq_cluster_laws.specs.Restarts.{first_restart}
use Rattle.qq_cluster_laws.specs.Serves.{Seen, seen_of}
use Rattle.qq_cluster_laws.specs.Unseen.{sees}
use Rattle.qq_cluster_laws.specs.Waiting.{IsChangeOf}
use Rattle.qq_cluster_run.specs.declared.stop.AskStop.{AskStop}
use Rattle.qq_cluster_run.specs.Endings.{lost, spent}
use Rattle.qq_cluster_run.specs.Runs.{MayNotOpen, ending_of, stop_of}
use Rattle.qq_cluster_run.specs.Serving.{EndsSpent, EndsUnsupported, IsReadOf, state_read}
use Rattle.qq_cluster_run.specs.Setup.{Logs, cluster_over, cluster_setup, group_over, is_change_of, members_by, name_by, new_logs, row_at}
use Rattle.qq_cluster_run.specs.Troubles.{AtPlace, Damage, OfVersion, Trouble, damage_ending}
use Rattle.qq_cluster.specs.Nodes.{Begins, EndsAt, Stands, node_at, seen, seen_in, seen_log}
use Rattle.qq_cluster.specs.Setting.{ids_on, is_among}
use Rattle.qq_cluster.specs.declared.node.Node.{Node}
use Rattle.qq_cluster.specs.declared.nodes.Nodes.{Nodes}
use Rattle.qq_node_log.specs.Log.{disk_in}
use Rattle.qq_node_log.specs.declared.node_log.NodeLog.{NodeLog}
use Rattle.qq_opening.specs.Opening.{IsLostOver, IsOpenCaused, IsReadAs, IsRefusedOver, IsSetupWith, MayNotOpen as NodesMayNotOpen, SpentOver, all_of, state_read as lanes_state}
use Rattle.qq_opening.specs.declared.restarting.RestartFault.{RestartFault}
use Rattle.qq_opening.specs.declared.restarting.RestartFault.TheVariants as faults_of
use Rattle.qq_broker.specs.Lives.{Became, BeginsBy, Giving, IsGiven}
use Rattle.qq_broker.specs.Nodes.{IsDiskOf, MayRun, Meets, damage_of}
use Rattle.qq_broker.specs.Serving.{AreUnopened, IsStopOf}
use Rattle.qq_broker.proofs.Beginning.{AreApart, changes-all, is-with, queue-own}
use Rattle.qq_broker.proofs.Failing.{failures-both, opening-once}
use Rattle.qq_broker.proofs.GoingOn.{disk-there, in-range, range-in}
use Rattle.qq_broker.proofs.Living.{goes-on, one-none}
use Rattle.qq_broker.proofs.Opens.{as-read, became-first, begins-read, count-is, held-with, ids-on, nodes-are, own-disk}
use Rattle.qq_broker.proofs.Untouched.{no-crash, no-restart, restarts-unseen, same-disk}

-- a number that counts up stands once
in-front : (k a n : ℕ) (first later : List ℕ) → range_with_len a n ≡ first ++ k ∷ later → In k first → ⊥
in-front k a zero [] later is there = absurd there
in-front k a zero (x ∷ first) later is there = absurd cc
in-front k a (suc n) [] later is there = absurd there
in-front k a (suc n) (x ∷ first) later is there =
    let here : a ≡ x = cc in
    let more : range_with_len (a + 1) n ≡ first ++ k ∷ later = cc in
    elim there [
      | inl same ↦
          let within = in-range k (a + 1) n (subst (In k) (sym more) (last first)) in
          absurd (omega (arith, here, same, within.0))
      | inr rest ↦ in-front k (a + 1) n first later more rest
    ]
  where
    last : (l : List ℕ) → In k (l ++ k ∷ later)
    last [] = inl refl
    last (y ∷ l) = inr (last l)

in-list : (node : ℕ) (first later : List ℕ) → In node (first ++ node ∷ later)
in-list node [] later = inl refl
in-list node (k ∷ first) later = inr (in-list node first later)

in-first : (k : ℕ) (first later : List ℕ) → In k first → In k (first ++ later)
in-first k [] later there = absurd there
in-first k (x ∷ first) later (inl same) = inl same
in-first k (x ∷ first) later (inr there) = inr (in-first k first later there)

-- a node among members
in-members : (k : ℕ) (nodes : List NodeId) → is_among k nodes ≡ true → In (record { 0 = k }) nodes
in-members k [] among = absurd cc
in-members k (n ∷ nodes) among = by (nat_eq n.0 k) refl among (in-members k nodes)
  where
    by : (b : Bool) → nat_eq n.0 k ≡ b → b || is_among k nodes ≡ true
        → (is_among k nodes ≡ true → In (record { 0 = k }) nodes) → In (record { 0 = k }) (n ∷ nodes)
    by true same so rest = inl (ap (λ (i : ℕ). let m : NodeId = record { 0 = i } in m) (sym (eqb-true n.0 k same)))
    by false other so rest = inr (rest so)

-- a count of 64 bits that rose is some disk's
rose-disk : {D : Type 0} (facts : DiskFacts D) (held : Nodes D) (k n : ℕ) → Rose n (seen facts held k).faults
    → (last : D) × (seen facts held k ≡ seen_of facts last)
rose-disk {D} facts held k n rose = by (node_at k held.nodes.items) refl rose
  where
    at-zero : Rose n 0 → ⊥
    at-zero (inl less) = omega (arith, less)
    at-zero (inr end) = absurd (omega (arith, end))

    of-log : (o : Option (NodeLog D)) → Rose n (seen_log facts o).faults
        → (last : D) × (seen_log facts o ≡ seen_of facts last)
    of-log None so = absurd (at-zero so)
    of-log (Some own) so = (disk_in own, refl)

    by : (o : Option (Node D)) → node_at k held.nodes.items ≡ o → Rose n (seen facts held k).faults
        → (last : D) × (seen facts held k ≡ seen_of facts last)
    by None is so =
        absurd (at-zero (subst (λ (p : Option (Node D)). Rose n (seen_in facts p).faults) is so))
    by (Some node) is so =
        let found = of-log node.log (subst (λ (p : Option (Node D)). Rose n (seen_in facts p).faults) is so) in
        (found.0, ap (seen_in facts) is ∙ found.1)

module _ {D : Type 0} (given : Giving D) (facts : DiskFacts D) (s : Setup) (may : MayRun s)
    (begins : HasGroups (cluster_setup s)) (old new : Nodes D)
    (u : AreUnopened given facts s old) (before after : ℕ) where
  abbrev Met : Trouble → Type 0
  Met = Meets given facts before after

  abbrev See : Nodes D → ℕ → Seen
  See held = seen facts held

  abbrev Disk-of : ℕ → Type 0
  Disk-of k = (disk : D) × IsDiskOf facts old k disk × IsGiven given facts k disk

  own : (k : ℕ) → In k (range_with_len 1 s.nodes) → Disk-of k
  own k there = own-disk given facts s may begins old u k there

  -- of a node to which nothing has happened the disk is as it was given
  became-none : (setup : ClusterSetup) (events : List ClusterEvent) (k : ℕ) → (disk : D) → IsGiven given facts k disk
      → (unseen : AllByRecursion (λ (e : ClusterEvent). sees k e ≡ false) events)
      → Became given facts setup events k disk
  became-none setup events k disk is unseen = record {
    first = disk;
    given_is = is;
    begins = subst (BeginsBy facts setup k disk) (sym (no-restart k events unseen)) tt;
    lives = goes-on given facts setup k (new_cluster setup) events disk disk (no-crash k events unseen)
        (same-disk facts setup k (new_cluster setup) events disk unseen) (new_cluster setup) [] disk refl
        (one-none facts setup k (new_cluster setup) disk);
  }

  -- ---- a node's files break the rules

  refused-at : (node : ℕ) (fault : RecoverFault) (damage : Damage) → damage_of fault ≡ Some damage
      → IsRefusedOver facts s.queues old new node fault → MayNotOpen Met s (damage_ending node damage)
  unfolding became-none own
  refused-at node fault damage is so =
      let logs : Logs = so.hold.logs in
      let setup : ClusterSetup = cluster_over s logs in
      let with' = held-with given facts s may begins old u so.first new so.hold in
      let stops = so.stops setup with' in
      let are : range_with_len 1 s.nodes ≡ so.first ++ node ∷ so.later =
      sym (nodes-are given facts s may begins old u) ∙ so.are in
      let there : In node (range_with_len 1 s.nodes) =
      subst (In node) (sym are) (in-list node so.first so.later) in
      let disk = own node there in
      let unseen = restarts-unseen setup node so.first (new_cluster setup) stops.events
      (in-front node 1 s.nodes so.first so.later are) stops.restarted in
      inr (
        logs,
        inr (inr (inl (record {
          at = record {
            before = so.first;
            node = node;
            later = so.later;
            are = are;
            early = stops.events;
            restarted = stops.restarted;
            down = stops.down;
          };
          damage = damage;
          broken = record {
            last = disk.0;
            became = became-none setup stops.events node disk.0 disk.2 unseen;
            as_given = λ none. refl;
            fault = fault;
            is = is;
            read = λ tell.
                ap (λ (ids : List QueueId). lanes_read ids (shown (now (facts.past disk.0))))
                (sym (ids-on given facts s may begins old u logs with' node)) ∙ as-read given facts s may begins old u
                (λ (p : List Disk). lanes_read (ids_on s.queues node) (shown (now p)) ≡ Err fault) node disk.0 disk.1
                so.read tell;
          };
          is = refl;
        }))),
      )

  -- ---- a queue is lost

  module _ (told : (k : ℕ) → (See new k).tells ≡ (See old k).tells) where
    -- what is read of a queue on a node, or the disk has failed
    read-of : (place k : ℕ) (lanes : Option Lanes) → In k (range_with_len 1 s.nodes)
        → IsReadAs facts s.queues old new k lanes → IsReadOf Met (cluster_setup s) k place
        (option_map (λ (l : Lanes). state_in l ((cluster_setup s).args place).queue) lanes)
    unfolding became-none own
    read-of place k None there failed =
        let disk = own k there in
        let last = rose-disk facts new k (See old k).faults failed in
        record {
          first = disk.0;
          given_is = disk.2;
          last = last.0;
          told = ap (λ (v : Seen). v.tells) (sym last.1) ∙ told k ∙ ap (λ (v : Seen). v.tells) disk.1;
          rose = subst (λ (n : ℕ). Rose n (facts.faults last.0)) (ap (λ (v : Seen). v.faults) disk.1)
              (subst (λ (n : ℕ). Rose (See old k).faults n) (ap (λ (v : Seen). v.faults) last.1) failed);
        }
    read-of place k (Some l) there read =
        let disk = own k there in
        let with' = is-with s may new_logs begins
        (record { own = λ p j. tt; others = λ p none j. refl }) (length old.nodes.items)
        (count-is given facts s may begins old u) in
        record {
          last = disk.0;
          became = became-none (cluster_setup s) [] k disk.0 disk.2 tt;
          as_given = λ none. refl;
          read = λ tell. (
            l,
            ap (λ (ids : List QueueId). lanes_read ids (shown (now (facts.past disk.0))))
                (sym (ids-on given facts s may begins old u new_logs with' k)) ∙ as-read given facts s may begins old u
                (λ (p : List Disk). lanes_read (ids_on s.queues k) (shown (now p)) ≡ Ok l) k disk.0 disk.1 read tell,
            refl,
          );
        }

    -- logs of one queue alone
    only-at : (place : ℕ) → (ℕ → List Op) → Logs
    only-at place logs = put place logs new_logs

    only-apart : (place : ℕ) (logs : ℕ → List Op) → In place (range_with_len 1 (length s.queues))
        → ((k : ℕ) → list_all (is_change_of (record { 0 = place })) (logs k) ≡ true)
        → AreApart (length s.queues) (only-at place logs)
    unfolding only-at put
    only-apart place logs there own' = record {
      own = λ p k. at p k (eqb_tells place p);
      others = λ p none k.
          ap (λ (l : ℕ → List Op). l k) (put-other place logs new_logs p (λ same. none (subst (λ (q : ℕ). In q
          (range_with_len 1 (length s.queues))) (sym same) there)));
    }
      where
        at : (p k : ℕ) → ((nat_eq place p ≡ true) × (place ≡ p)) ⊎ ((nat_eq place p ≡ false) × (place ≢ p))
            → AllByRecursion (IsChangeOf (record { 0 = p })) (only-at place logs p k)
        at p k (inl (is, same)) =
            subst (λ (q : ℕ). AllByRecursion (IsChangeOf (record { 0 = q })) (only-at place logs q k)) same
            (subst (λ (l : ℕ → List Op). AllByRecursion (IsChangeOf (record { 0 = place })) (l k))
            (sym (put-same place logs new_logs)) (changes-all (record { 0 = place }) (logs k) (own' k)))
        at p k (inr (isnt, other)) =
            subst (λ (l : ℕ → List Op). AllByRecursion (IsChangeOf (record { 0 = p })) (l k))
            (sym (put-other place logs new_logs p (λ same. other (sym same)))) tt

    lost-at : (node : NodeId) (queue : QueueId) (found : ℕ) → IsLostOver facts s.queues old new node queue found
        → EndsUnsupported Met s (lost node.0 (name_by (row_at s.queues queue.0)) 0 found)
    unfolding only-at put
    lost-at node queue found so = record {
      place = queue.0;
      among = Contains-in queue.0 (cluster_setup s).places there;
      first = so.first;
      rest = so.later;
      are = sym (nodes-are given facts s may begins old u) ∙ so.are;
      lanes = λ k. option_map (λ (l : Lanes). state_in l queue) (so.read.lanes k);
      read = λ n member first.
          subst (IsReadOf Met (cluster_setup s) n.0 queue.0)
          (ap (λ (id : QueueId). option_map (λ (l : Lanes). state_in l id) (so.read.lanes n.0)) (queue-own s.queues queue.0))
          (read-of queue.0 n.0 (so.read.lanes n.0) (in-all n.0 (in_contains so.first n.0 first))
          (so.read.each n.0 (in_contains so.first n.0 first)));
      refused = λ logs own' hold begun.
          so.refused (only-at queue.0 (logs queue.0)) (cluster_over s (only-at queue.0 (logs queue.0)))
          (is-with s may (only-at queue.0 (logs queue.0)) begins
          (only-apart queue.0 (logs queue.0) (subst (In queue.0) places-are there) own') (length old.nodes.items)
          (count-is given facts s may begins old u)) (λ k first among'.
          ap (λ (l : ℕ → List Op). stable (l k)) (put-same queue.0 (logs queue.0) new_logs)
          ∙ hold (record { 0 = k }) (is-there k among') (Contains-in k so.first first)
          ∙ ap Some (states k (so.read.lanes k)))
          (subst (λ (l : ℕ → List Op). IsBegun (group_over (record { 0 = queue.0 }) (members_by (row_at s.queues queue.0)) l))
          (sym (put-same queue.0 (logs queue.0) new_logs)) begun);
      node = node;
      member = subst (λ (l : List NodeId). Contains l node) row-members so.member;
      there = Contains-in node.0 so.first so.among;
      lane = state_in so.own queue;
      found = ap (option_map (λ (l : Lanes). state_in l queue)) so.own_is;
      is = ap (lost node.0 (name_by (row_at s.queues queue.0)) 0) so.found_is;
    }
      where
        with'' : IsSetupWith (cluster_setup s) s.queues (length old.nodes.items) new_logs
        with'' = is-with s may new_logs begins (record { own = λ p j. tt; others = λ p none j. refl })
            (length old.nodes.items) (count-is given facts s may begins old u)

        at-index : queue.0 - 1 + 1 ≡ queue.0
        at-index = omega (arith, so.low)

        row-members : so.row.members ≡ members (cluster_setup s) queue.0
        row-members =
            sym (with''.each (queue.0 - 1) so.row so.here).down.nodes_is ∙ ap (members (cluster_setup s)) at-index

        there : In queue.0 (cluster_setup s).places
        there =
            subst (In queue.0) (sym with''.places)
            (range-in queue.0 1 (length s.queues) (omega (arith, so.low))
            (let less = slice_get_within s.queues (queue.0 - 1) so.row so.here in omega (arith, less, so.low)))

        places-are : (cluster_setup s).places ≡ range_with_len 1 (length s.queues)
        places-are = with''.places

        in-all : (k : ℕ) → In k so.first → In k (range_with_len 1 s.nodes)
        in-all k first =
            subst (In k) (sym (sym (nodes-are given facts s may begins old u) ∙ so.are))
            (in-first k so.first so.later first)

        is-there : (k : ℕ) → is_among k so.row.members ≡ true → Contains (members (cluster_setup s) queue.0) (record { 0 = k })
        is-there k among' =
            Contains-in (record { 0 = k }) (members (cluster_setup s) queue.0)
            (subst (In (record { 0 = k })) row-members (in-members k so.row.members among'))

        states : (k : ℕ) (lanes : Option Lanes)
            → state_read (option_map (λ (l : Lanes). state_in l queue) lanes) ≡ lanes_state lanes queue
        states k None = refl
        states k (Some l) = refl

  -- ---- a number stands at its end

  spent-in : (logs : Logs) → IsSetupWith (cluster_over s logs) s.queues (length old.nodes.items) logs
      → (number : ℕ)
      → (e : EndsAt facts (cluster_over s logs) (IsOpening (cluster_over s logs)) old
      (new_cluster (cluster_over s logs)) number)
      → ((k : ℕ) (there : In k (range_with_len 1 s.nodes)) → BeginsBy facts (cluster_over s logs) k (own k there).0
      (first_restart k e.serves.did.events))
      → EndsSpent Met (cluster_over s logs) (IsOpening (cluster_over s logs)) [] (spent number)
  unfolding own
  spent-in logs with' number e begun =
      let S : ClusterSetup = cluster_over s logs in
      let early : List ClusterEvent = e.serves.did.events in
      let rest : List ClusterEvent = e.serves.did.means.rest in
      record {
        early = early;
        begins = record { rest = rest; allowed = e.serves.did.means.allowed };
        number = number;
        past = e.end;
        stands = record {
          held = e.mid;
          stands = e.serves.did.stands;
          disks = λ k there.
              (let last = disk-there given facts S e.mid (cluster_after (new_cluster S) early)
              e.serves.did.stands k there in (
                last.0,
                last.1,
                became-first given facts s may begins old u logs with' (Begins (IsOpening S) (new_cluster S))
                    (Stands facts S e.mid) e.mid e.before e.said e.serves
                    (λ j. (let few = opening-once j S s.nodes refl (new_cluster S) (early ++ rest) e.serves.did.means.allowed in
                    omega (arith, failures-both j early rest, few))) k there last.0 last.1 (begun k there),
              ));
          at = e.at;
        };
        is = refl;
      }

  spent-open : (number : ℕ) → SpentOver facts s.queues old new number → MayNotOpen Met s (spent number)
  spent-open number (inl first) =
      let with' = is-with s may new_logs begins (record { own = λ p j. tt; others = λ p none j. refl })
      (length old.nodes.items) (count-is given facts s may begins old u) in
      let so = first new_logs (cluster_setup s) with' begins in
      inr (
        new_logs,
        inr (inr (inr (spent-in new_logs with' number so.0
            (λ k there. subst (λ (events : List ClusterEvent). BeginsBy facts (cluster_setup s) k (own k there).0
            (first_restart k events)) (sym so.1) tt)))),
      )
  spent-open number (inr after') =
      let logs : Logs = after'.hold.logs in
      let setup : ClusterSetup = cluster_over s logs in
      let with' = held-with given facts s may begins old u (all_of old) new after'.hold in
      let so = after'.ends setup with' in
      inr (
        logs,
        inr (inr (inr (spent-in logs with' number so.1
            (λ k there. begins-read given facts s may begins old u logs with' (all_of old) new after'.hold.read.lanes
            after'.hold.read.each after'.hold.are k
            (subst (In k) (sym (nodes-are given facts s may begins old u)) there) (own k there).0 (own k there).1
            (first_restart k so.1.serves.did.events)
            (so.2 k (subst (In k) (sym (nodes-are given facts s may begins old u)) there)))))),
      )

  -- ---- all of them

  pub not-opened : (fault : RestartFault) (stop : AskStop) → IsStopOf s fault stop
      → NodesMayNotOpen facts s.queues old new fault → MayNotOpen Met s (ending_of (stop_of stop))
  not-opened fault stop is so = by fault is so.cause
    where
      with'' : IsSetupWith (cluster_setup s) s.queues (length old.nodes.items) new_logs
      with'' = is-with s may new_logs begins (record { own = λ p j. tt; others = λ p none j. refl })
          (length old.nodes.items) (count-is given facts s may begins old u)

      told : (k : ℕ) → (See new k).tells ≡ (See old k).tells
      told k = elim so.gives_up [
        | inl any ↦ (any new_logs (cluster_setup s) with'').told k
        | inr (hold, of) ↦
            (of (cluster_over s hold.logs) (held-with given facts s may begins old u (all_of old) new hold)).told k
      ]

      by : (f : RestartFault) → IsStopOf s f stop → IsOpenCaused facts s.queues old new f
          → MayNotOpen Met s (ending_of (stop_of stop))
      by (faults_of.Damaged node file place) is' cause =
          subst (λ (e : AskStop). MayNotOpen Met s (ending_of (stop_of e))) (sym is')
          (refused-at node.0 (recover_faults.Damaged file place) (AtPlace file.number place) refl cause)
      by (faults_of.Version node file byte) is' cause =
          subst (λ (e : AskStop). MayNotOpen Met s (ending_of (stop_of e))) (sym is')
          (refused-at node.0 (recover_faults.Version file byte) (OfVersion file.number byte) refl cause)
      by (faults_of.Lost node queue noticed found) (inl none) cause =
          subst (λ (e : AskStop). MayNotOpen Met s (ending_of (stop_of e))) (sym none) (inr (new_logs, inl refl))
      by (faults_of.Lost node queue noticed found) (inr is') cause =
          subst (λ (e : AskStop). MayNotOpen Met s (ending_of (stop_of e))) (sym is')
          (inl (subst (λ (n : ℕ). EndsUnsupported Met s (lost node.0 (name_by (row_at s.queues queue.0)) n found))
          (sym cause.0) (lost-at told node queue found cause.1)))
      by (faults_of.Memory Want) is' cause =
          subst (λ (e : AskStop). MayNotOpen Met s (ending_of (stop_of e))) (sym is') (inr (new_logs, inl refl))
      by (faults_of.Memory (Spent number)) is' cause =
          subst (λ (e : AskStop). MayNotOpen Met s (ending_of (stop_of e))) (sym is') (spent-open number cause)
