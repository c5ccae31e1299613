-- A broker is opened again.
use Rattle.std.proofs.Common.{◌≡◌, ◌<◌, ◌≤◌, ◌+◌, ℕ, Bool, true, false, List, [], ◌++◌, length, refl, sym, ap, subst, ◌∙◌, arith}
use Rattle.std.specs.Prelude.{vec_capacity}
use Rattle.std.proofs.lemmas.List.FromFn.{length-range_with_len}
use Rattle.qq_base.specs.declared.ids.QueueId.{QueueId}
use Rattle.qq_disk.specs.Crash.{Remains, reopen}
use Rattle.qq_disk.specs.declared.image.Image.{Image}
use Rattle.qq_disk.specs.Facts.{DiskFacts}
use Rattle.qq_raft_protocol.specs.Facts.{In}
use Rattle.qq_route.specs.declared.setup.Setup.{Setup}
use Rattle.qq_route.specs.Setup.{state_of}
use Rattle.qq_cluster_model.specs.Outcome.{Outcome}
use Rattle.qq_cluster_model.specs.Cluster.{Cluster, ClusterEvent, Setup as ClusterSetup, cluster_after}
use Rattle.qq_cluster_model.specs.Rules.{IsOpening}
use Rattle.qq_cluster_laws.specs.Serves.{GivesUp, Seen, Serves}
use Rattle.qq_cluster_laws.proofs.Serves.{gives_up-behind, gives_up-same}
use Rattle.qq_cluster_run.specs.Serving.{Run, cluster_in, setup_in}
use Rattle.qq_cluster.specs.Disks.{GetDisks}
use Rattle.qq_cluster.specs.Nodes.{CanServe, EachHasLog, HaveLogs, Served, Stands, seen}
use Rattle.qq_cluster.specs.Setting.{HaveDisks}
use Rattle.qq_cluster.specs.declared.nodes.Nodes.{Nodes}
use Rattle.qq_cluster.proofs.Stands.{stands-logs}
use Rattle.qq_opening.specs.Restarting.{IsReopening, Refuses, all_nodes}
use Rattle.qq_opening.specs.declared.restarting.RestartFault.{RestartFault}
use Rattle.qq_opening.proofs.Reopened.{none-recovered, reopening-opens}
use Rattle.qq_wal.specs.Running.{MayRecover}
use Rattle.qq_broker.specs.Broker.{ComeBack, EachFailed, HasReopened, MayNotReopen, Rests, Runs, StillKeep, crashed_events, seen_among}
use Rattle.qq_broker.specs.Faults.{stop_for}
use Rattle.qq_broker.specs.Lives.{Giving, failures}
use Rattle.qq_broker.specs.Nodes.{Had, Holds, MayRun, Meets}
use Rattle.qq_broker.specs.Serving.{with_events}
use Rattle.qq_broker.specs.declared.broker.Audits.{Audits}
use Rattle.qq_broker.specs.declared.broker.Broker.{Broker}
use Rattle.qq_broker.proofs.Failing.{opening-once}
use Rattle.qq_broker.proofs.GoingOn.{became-served, can-serve, had-so, holds-more, range-in, reached}
use Rattle.qq_broker.proofs.Handed.{each-failed, seen-same}
use Rattle.qq_broker.proofs.Refusing.{refused-reopening}
use Rattle.qq_broker.proofs.Returned.{crashed_run, down-back, have-back, holds-back, many-back}

module _ {D : Type 0} (given : Giving D) (facts : DiskFacts D) (s : Setup) (before again : List D) (a : Audits D)
    (run : Run) (images : ℕ → Image)
    (rests : Rests given facts (state_of s) before a run) (back : ComeBack given facts images before again)
    (may : (queues : List QueueId) (i : Remains) → MayRecover queues (reopen i)) (held : Nodes D)
    (same : held ≡ record a.nodes { nodes = held.nodes })
    (get : GetDisks again a.nodes.nodes.items held.nodes.items) where
  abbrev S : ClusterSetup
  S = setup_in s run

  abbrev gone_on : Run
  gone_on = crashed_run given facts s before again a run images rests back may held same get

  abbrev c : Cluster
  c = cluster_in s gone_on

  h : Holds given facts s held gone_on
  h = holds-back given facts s before again a run images rests back may held same get

  have : HaveDisks facts again held
  have = have-back given facts s before again a run images rests back may held same get

  many : length again ≡ length held.nodes.items
  many = many-back given facts s before again a run images rests back may held same get

  -- as many as the setup has nodes
  pub so-many : length again ≡ s.nodes
  so-many =
      many ∙ sym (length-range_with_len 1 (length held.nodes.items)) ∙ ap length (sym h.stands.set_up.nodes)
      ∙ length-range_with_len 1 s.nodes

  pub can-reopen : CanServe facts held
  can-reopen = can-serve given facts s held gone_on h

  -- ---- each node was restarted

  module _ (some : Bool) (new : Nodes D) (first later : Outcome)
      (so : Served facts (IsReopening some) held new first later) where
    sv : Serves S c (IsReopening some S c) (Stands facts S new) (seen facts held) (seen facts new) first later
    sv = so.serves S c (reached given facts s gone_on) h.stands

    few : (k : ℕ) → failures k sv.did.events ≤ 1
    few k = opening-once k S s.nodes refl c sv.did.events (reopening-opens some S c sv.did.events sv.did.means)

    holds : Holds given facts s new (with_events run (gone_on.events ++ sv.did.events))
    holds =
        holds-more given facts s gone_on held new sv.did.events run.lines h sv.did.stands
        (λ k there mid last was is restarted b. became-served given facts S gone_on.events (IsReopening some S c)
        (Stands facts S new) held new first later sv k there (few k) mid last was is restarted b)

    pub still-there : EachHasLog new.nodes.items
    still-there = (stands-logs S new (cluster_after c sv.did.events) sv.did.stands).each

    pub still-so-many : length new.nodes.items ≡ length again
    still-so-many =
        sym (length-range_with_len 1 (length new.nodes.items))
        ∙ ap length (sym sv.did.stands.set_up.nodes ∙ h.stands.set_up.nodes)
        ∙ length-range_with_len 1 (length held.nodes.items) ∙ sym many

    -- some node is up
    pub has-reopened : (b : Broker D) → some ≡ true → b.setup ≡ s → b.nodes ≡ new → b.room.items ≡ []
        → s.nodes ≤ vec_capacity b.room
        → HasReopened (Had given facts) S (crashed_events S run.events images)
        (λ (events : List ClusterEvent). Runs given facts b (with_events run events)) first later
    has-reopened b up own_setup own_nodes empty room = record {
      more = sv.did.events;
      allowed = subst (λ (x : Bool). IsReopening x S c sv.did.events) up sv.did.means;
      disks = had-so given facts s new (with_events run (gone_on.events ++ sv.did.events)) holds;
      stands = record {
        may = subst MayRun (sym own_setup) rests.may;
        holds = subst
            (λ (t : Setup). Holds given facts t b.nodes (with_events run (gone_on.events ++ sv.did.events)))
            (sym own_setup)
            (subst
            (λ (n : Nodes D). Holds given facts s n (with_events run (gone_on.events ++ sv.did.events)))
            (sym own_nodes) holds);
        empty = empty;
        room = subst (λ (t : Setup). t.nodes ≤ vec_capacity b.room) (sym own_setup) room;
      };
      says = sv.did.says;
      sees = sv.did.sees;
    }

    -- none is, and these are left of the disks
    module _ (left : List D) (still : HaveDisks facts left new) (count : length left ≡ length new.nodes.items) where
      pub kept-where-none : StillKeep facts S (crashed_events S run.events images) again left
      kept-where-none = record {
        count = count ∙ still-so-many;
        gives_up =
            subst (λ (v : ℕ → Seen). GivesUp S c v (seen_among facts left)) (seen-same facts held again have many)
            (subst (GivesUp S c (seen facts held)) (seen-same facts new left still count)
            (gives_up-behind S c (IsReopening some S c) (Stands facts S new) (seen facts held) (seen facts new)
            (seen facts new) first later sv (gives_up-same S (cluster_after c sv.did.events) (seen facts new))));
      }

      pub failed-where-none : some ≡ false → EachFailed facts.faults again left
      failed-where-none down =
          each-failed facts held new again left have still (λ i lt. sv.cause (i + 1) (none-recovered S c sv.did.events
          (subst (λ (x : Bool). IsReopening x S c sv.did.events) down sv.did.means) (i + 1) (there i lt)
          (down-back given facts s before again a run images rests back may held same get (i + 1) (there i lt))))
        where
          there : (i : ℕ) → i < length again → In (i + 1) S.nodes
          there i lt =
              subst (In (i + 1)) (sym h.stands.set_up.nodes)
              (range-in (i + 1) 1 (length held.nodes.items) (omega arith) (omega (arith, lt, many)))

  -- ---- a node isn't

  module _ (fault : RestartFault) (new : Nodes D) (first : Outcome)
      (so : Refuses facts all_nodes IsOpening held new first fault) where
    logs : HaveLogs S new.nodes.items
    logs = so.logs S c (reached given facts s gone_on) h.stands

    pub refused-logs : EachHasLog new.nodes.items
    refused-logs = logs.each

    pub refused-many : length new.nodes.items ≡ length again
    refused-many =
        sym (length-range_with_len 1 (length new.nodes.items)) ∙ ap length (sym logs.nodes_are ∙ h.stands.set_up.nodes)
        ∙ length-range_with_len 1 (length held.nodes.items) ∙ sym many

    pub refused-cause : MayNotReopen (Meets given facts 0 0) S (crashed_events S run.events images) (stop_for s fault)
    refused-cause = refused-reopening given facts 0 0 s gone_on held new h first fault so

    pub refused-keeps : (left : List D) → HaveDisks facts left new → length left ≡ length new.nodes.items
        → StillKeep facts S (crashed_events S run.events images) again left
    refused-keeps left still count = record {
      count = count ∙ refused-many;
      gives_up =
          subst (λ (v : ℕ → Seen). GivesUp S c v (seen_among facts left)) (seen-same facts held again have many)
          (subst (GivesUp S c (seen facts held)) (seen-same facts new left still count)
          (so.gives_up S c (reached given facts s gone_on) h.stands));
    }
