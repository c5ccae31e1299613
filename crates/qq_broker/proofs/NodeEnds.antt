-- What stands at its end where nodes of a run have a number there.
use Rattle.std.proofs.Common.{◌≡◌, ◌⊎◌, ◌≤◌, ◌<◌, ◌+◌, ◌-◌, ◌^◌, ℕ, suc, List, None, ◌++◌, length, take, Some, refl, sym, ap, subst, ◌∙◌, inl, inr, arith}
use Rattle.std.specs.Prelude.{IsTrue}
use Rattle.std.proofs.lemmas.Option.{slice_get_within}
use Rattle.qq_disk.specs.Disk.{Disk, IsListed, content, contents, now}
use Rattle.qq_disk.specs.Facts.{DiskFacts}
use Rattle.qq_disk.specs.Image.{log_of}
use Rattle.qq_entry.specs.declared.command.Command.{Command}
use Rattle.qq_raft_model.specs.Group.{Group, group_after}
use Rattle.qq_raft_protocol.specs.Facts.{In}
use Rattle.qq_session.specs.Publishing.{open_commands}
use Rattle.qq_log.specs.declared.op.Op.{Op}
use Rattle.qq_wal.specs.Batch.{encodings}
use Rattle.qq_wal_chain.specs.Laws.{op_records}
use Rattle.qq_cluster_model.specs.Cluster.{ClusterEvent, Setup}
use Rattle.qq_cluster_model.specs.Queue.{Queue, leader, submits}
use Rattle.qq_cluster_laws.specs.Serves.{Seen, seen_of}
use Rattle.qq_cluster_laws.specs.Waiting.{all_waiting}
use Rattle.qq_queue.proofs.MemberEnds.{AtBag, AtNumber, HasEnd, IsFull}
use Rattle.qq_queue.proofs.QueueEnds.{OfClient, OfGroup, QueueEnds}
use Rattle.qq_cluster_run.specs.Serving.{after_all}
use Rattle.qq_node_log.specs.Log.{disk_in}
use Rattle.qq_node_log.specs.declared.node_log.NodeLog.{NodeLog}
use Rattle.qq_cluster.specs.Ends.{HasLog}
use Rattle.qq_cluster.specs.Nodes.{InFile, InNumbers, InQueue, NumberAt, node_at, seen_in, seen_log}
use Rattle.qq_cluster.proofs.EventEnds.{refused-ends}
use Rattle.qq_cluster.proofs.Walks.{in-range}
use Rattle.qq_broker.specs.Lives.{Became, Giving}
use Rattle.qq_broker.specs.Nodes.{HasNumber}

-- ---- queues

-- the group once some commands were given again
abbrev pub again : Queue → List Command → Group
again q given = group_after q.group (submits (leader q.group) given)

-- the next number of a session is at its end, or one of a member is
abbrev pub HasNumberEnd : Queue → Type 0
HasNumberEnd q =
    (session : ℕ) × (((q.clients session).numbers.next ≡ 2 ^ 63)
    ⊎ ((given rest : List Command) × (open_commands (q.clients session).numbers ≡ given ++ rest)
    × HasEnd q.args (again q given)))

-- there are as many messages as may be
abbrev pub HasFullBag : Queue → Type 0
HasFullBag q =
    (session : ℕ) × ((given rest : List Command) × (open_commands (q.clients session).numbers ≡ given ++ rest)
    × IsFull (again q given))

number-ends : (n : ℕ) (q : Queue) → 2 ^ 63 ≤ n → QueueEnds n q → (n ≡ 2 ^ 63) × HasNumberEnd q
number-ends n q end (OfClient is session next) = (is, (session, inl next))
number-ends n q end (OfGroup session given rest are (AtNumber is has)) = (is, (session, inr (given, rest, are, has)))
number-ends n q end (OfGroup session given rest are (AtBag is full)) = absurd (omega (arith, end, is))

bag-ends : (n : ℕ) (q : Queue) → n < 2 ^ 63 → QueueEnds n q → (n ≡ 2 ^ 32 - 1) × HasFullBag q
bag-ends n q below (OfClient is session next) = absurd (omega (arith, below, is))
bag-ends n q below (OfGroup session given rest are (AtNumber is has)) = absurd (omega (arith, below, is))
bag-ends n q below (OfGroup session given rest are (AtBag is full)) = (is, (session, (given, rest, are, full)))

-- ---- disks

-- With the first of some ops a log file has so many bytes, and a batch more may be too many.
abbrev pub IsLongest : ℕ → List Op → Disk → Type 0
IsLongest n ops d =
    (file count : ℕ)
    × (n ≡ length (content d (log_of file)) + length (encodings file (take count (op_records ops))))
    × (2 ^ 64 - 1 < n + 4194304)

-- a log file has this number, and none has a greater one
abbrev pub IsNewest : ℕ → Disk → Type 0
IsNewest n d = IsListed d (log_of n) × ((other : ℕ) → n < other → contents d (log_of other) ≡ None)

module _ {D : Type 0} (given : Giving D) (facts : DiskFacts D) (setup : Setup) (events : List ClusterEvent) (n : ℕ)
    (h : HasNumber given facts setup events n) where
  node-there : (at : ℕ) (own : NodeLog D) → HasLog at h.held own → In (at + 1) setup.nodes
  node-there at own log =
      subst (In (at + 1)) (sym h.stands.set_up.nodes)
      (in-range (length h.held.nodes.items) at (slice_get_within h.held.nodes.items at log.node log.here))

  -- what has become of a node's disk is the one in its log
  record IsIn (at : ℕ) (own : NodeLog D) : Type 0 where
    pub last : D
    pub became : Became given facts setup events (at + 1) last
    pub told : facts.tells (disk_in own) ≡ facts.tells last
    pub past : facts.past (disk_in own) ≡ facts.past last

  in-log : (at : ℕ) (own : NodeLog D) → HasLog at h.held own → IsIn at own
  in-log at own log =
      let disk = h.disks (at + 1) (node-there at own log) in
      let here : node_at (at + 1) h.held.nodes.items ≡ Some log.node =
      subst (λ (m : ℕ). node_at m h.held.nodes.items ≡ Some log.node) (let e : suc at ≡ at + 1 = omega arith in e)
      log.here in
      let same : seen_of facts (disk_in own) ≡ seen_of facts disk.0 =
      sym (ap (seen_in facts) here ∙ ap (seen_log facts) log.is) ∙ disk.1 in
      record {
        last = disk.0;
        became = disk.2;
        told = ap (λ (s : Seen). s.tells) same;
        past = ap (λ (s : Seen). s.past) same;
      }

  -- what its disk holds
  of-disk : (at : ℕ) (own : NodeLog D) (i : IsIn at own) (Holds : Disk → Type 0)
      → (IsTrue (facts.tells (disk_in own)) → Holds (now (facts.past (disk_in own))))
      → IsTrue (facts.tells i.last) → Holds (now (facts.past i.last))
  of-disk at own i Holds holds tell =
      subst (λ (past : List Disk). Holds (now past)) i.past (holds (subst IsTrue (sym i.told) tell))

  -- ---- a number of 2^63 or more

  abbrev pub IsNumbered : Type 0
  IsNumbered =
      ((place : ℕ) × In place setup.places × (n ≡ 2 ^ 63)
      × HasNumberEnd ((after_all setup events).queue place))
      ⊎ ((k : ℕ) × In k setup.nodes × ((last : D) × Became given facts setup events k last
      × ((IsTrue (facts.tells last) → IsNewest n (now (facts.past last)))
      ⊎ (IsTrue (facts.tells last)
      → IsLongest n (all_waiting setup (after_all setup events) k) (now (facts.past last))))))

  pub numbered : 2 ^ 63 ≤ n → IsNumbered
  numbered end = by h.at
    where
      by : NumberAt facts h.held n → IsNumbered
      by (InQueue at ask r) =
          let ends = refused-ends facts setup h.held (after_all setup events) h.stands n at ask r in
          let number = number-ends n ((after_all setup events).queue (at + 1)) end ends.1 in
          inl (at + 1, ends.0, number.0, number.1)
      by (InFile at own log long) =
          let i = in-log at own log in
          inr (
            at + 1,
            node-there at own log,
            (
              i.last,
              i.became,
              inr (of-disk at own i (IsLongest n (all_waiting setup (after_all setup events) (at + 1)))
                  (λ tell. let file = long setup (after_all setup events) (events, refl) h.stands tell in
                  (file.file, file.with_ops.count, file.with_ops.is, file.with_ops.long))),
            ),
          )
      by (InNumbers at own log most) =
          let i = in-log at own log in
          inr (
            at + 1,
            node-there at own log,
            (
              i.last,
              i.became,
              inl (of-disk at own i (IsNewest n) (λ tell. let file = most tell in (file.there, file.greatest))),
            ),
          )

  -- ---- a smaller one

  abbrev pub IsCounted : Type 0
  IsCounted =
      (place : ℕ) × In place setup.places × (n ≡ 2 ^ 32 - 1) × HasFullBag ((after_all setup events).queue place)

  pub counted : ((disk : D) → IsTrue (facts.tells disk)) → n < 2 ^ 63 → IsCounted
  counted shows below = by h.at
    where
      by : NumberAt facts h.held n → IsCounted
      by (InQueue at ask r) =
          let ends = refused-ends facts setup h.held (after_all setup events) h.stands n at ask r in
          let bag = bag-ends n ((after_all setup events).queue (at + 1)) below ends.1 in
          (at + 1, ends.0, bag.0, bag.1)
      by (InFile at own log long) =
          let file = long setup (after_all setup events) (events, refl) h.stands (shows (disk_in own)) in
          let most : 2 ^ 64 - 1 < n + 4194304 = file.with_ops.long in absurd (omega (arith, below, most))
      by (InNumbers at own log most) =
          let file = most (shows (disk_in own)) in
          let end : 2 ^ 63 ≤ n = file.end in absurd (omega (arith, below, end))
