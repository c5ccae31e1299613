-- A line that gives one command to one queue.
use Rattle.std.proofs.Common.{◌≡◌, ℕ, suc, ◌≤◌, Bool, true, false, not, ◌||◌, List, [], ◌∷◌, ◌++◌, Option, Some, None, refl, sym, ap, ◌∙◌, subst, inl, inr, append-nil, append_assoc}
use Rattle.std.specs.Prelude.{nat_eq, nat_lt, fold}
use Rattle.std.proofs.lemmas.Bool.{and_from, and_parts, cond_both, eq-eqb, eqb-true, false≢true, or_cases}
use Rattle.qq_base.specs.declared.ids.NodeId.{NodeId}
use Rattle.qq_entry.specs.declared.command.Entry.{Entry}
use Rattle.qq_entry.specs.declared.command.Unstamped.{Unstamped}
use Rattle.qq_raft_protocol.specs.Facts.{In}
use Rattle.qq_raft_protocol.proofs.Lists.{In-filter, In-map, map-In}
use Rattle.qq_raft_model.specs.Handing.{peer_number}
use Rattle.qq_raft_model.specs.declared.peer.Peer.{Peer}
use Rattle.qq_raft_model.specs.Group.{Event as Move, Group, group_after, has_node}
use Rattle.qq_raft_model.specs.Promises.{AreDistinct, IsOpened, IsUp, members_of}
use Rattle.qq_raft_model.specs.Refines.{number}
use Rattle.qq_raft_model.specs.Server.{is_ready}
use Rattle.qq_raft_model.specs.State.{Server, last}
use Rattle.qq_script_lines.specs.declared.line.ScriptLine.{ScriptLine}
use Rattle.qq_script_lines.specs.declared.line.ScriptLine.TheVariants as lines
use Rattle.qq_cluster_model.specs.Cluster.{Cluster, ClusterEvent, At, Setup, cluster_after, cluster_happens, members, new_cluster, parts_of}
use Rattle.qq_cluster_model.specs.ClusterLaws.{HasGroups}
use Rattle.qq_cluster_model.specs.Lines.{AndPumped, IsLine, IsRouted}
use Rattle.qq_cluster_model.specs.Queue.{Leading, Queue, Submits, TellsEnded, later, latest, leader, leading, node_of}
use Rattle.qq_cluster_model.specs.Rules.{Is, IsClaimed, IsGiven, IsNothing, IsPump, IsPumped, IsRound, Pumps, Then, if_so, is_ended, is_idle, is_quiet, not_taken}
use Rattle.qq_cluster_model.proofs.Counts.{counted-new}
use Rattle.qq_cluster_model.proofs.Groups.{reached-new}
use Rattle.qq_cluster_progress_laws.specs.Rounds.{Rounds}
use Rattle.qq_cluster_progress_laws.specs.Soon.{AreNodes, GivesOne, HasItsLog, LeadsMost}
use Rattle.qq_cluster_progress_laws.proofs.Exchange.{same_some}
use Rattle.qq_cluster_progress_laws.proofs.Fit.{IsFit, fit-down, others}
use Rattle.qq_cluster_progress_laws.proofs.Leader.{majority-le}
use Rattle.qq_cluster_progress_laws.proofs.Playing.{AreCounted, counted-after, queue-is}
use Rattle.qq_cluster_progress_laws.proofs.Sending.{CanCommit}
use Rattle.qq_cluster_progress_laws.proofs.Soon.{all-in, counted_by, peers-majority, quiet-bag, quiet-settled, runs, runs-from, runs-up}
use Rattle.qq_cluster_progress_laws.proofs.Sound.{IsSound, sound-all}

-- ---- a pump's first rounds

pub record Splits (setup : Setup) (c : Cluster) (events : List ClusterEvent) : Type 0 where
  pub early : List ClusterEvent
  pub late : List ClusterEvent
  pub is : events ≡ early ++ late
  pub rounds : Rounds 2 setup c early

pumps-one : (more : ℕ) (setup : Setup) (c : Cluster) (events : List ClusterEvent) → Pumps (suc more) setup c events
    → (early : List ClusterEvent) × (late : List ClusterEvent) × (events ≡ early ++ late) × Rounds 1 setup c early
pumps-one more setup c events is = by (is_idle setup c) is
  where
    by : (b : Bool) → if_so b IsNothing (Then (IsRound setup) (Pumps more setup)) c events
        → (early : List ClusterEvent) × (late : List ClusterEvent) × (events ≡ early ++ late)
        × if_so b IsNothing (Then (IsRound setup) (Rounds 0 setup)) c early
    by true none = ([], [], none, refl)
    by false some = (
      some.early,
      some.late,
      some.is,
      record { early = some.early; late = []; is = sym (append-nil some.early); first = some.first; second = refl },
    )

pub pumps-two : (more : ℕ) (setup : Setup) (c : Cluster) (events : List ClusterEvent)
    → Pumps (suc (suc more)) setup c events → Splits setup c events
pumps-two more setup c events is =
    let s = by (is_idle setup c) is in record { early = s.0; late = s.1; is = s.2; rounds = s.3 }
  where
    by : (b : Bool) → if_so b IsNothing (Then (IsRound setup) (Pumps (suc more) setup)) c events
        → (early : List ClusterEvent) × (late : List ClusterEvent) × (events ≡ early ++ late)
        × if_so b IsNothing (Then (IsRound setup) (Rounds 1 setup)) c early
    by true none = ([], [], none, refl)
    by false some =
        let rest = pumps-one more setup (cluster_after c some.early) some.late some.second in (
          some.early ++ rest.0,
          rest.1,
          some.is ∙ ap (λ l. some.early ++ l) rest.2 ∙ sym (append_assoc some.early rest.0 rest.1),
          record { early = some.early; late = rest.0; is = refl; first = some.first; second = rest.3 },
        )

-- ---- the line

-- the command, and then the pump
pub record Asked (setup : Setup) (c : Cluster) (place session : ℕ) (given : Unstamped) (events : List ClusterEvent) : Type 0
  where
    pub rest : List ClusterEvent
    pub is : events ≡ At place (Submits session given) ∷ rest
    pub pumps : IsPump setup (cluster_happens c (At place (Submits session given))) rest

given-asked : (setup : Setup) (c : Cluster) (place session : ℕ) (given : Unstamped) (events : List ClusterEvent)
    → c.auto ≡ true → is_ended session (c.queue place) ≡ false → not_taken session given (c.queue place) ≡ None
    → AndPumped setup (IsGiven session given place) c events → Asked setup c place session given events
given-asked setup c place session given events auto lives taken is =
    let first : is.early ≡ At place (Submits session given) ∷ [] =
    subst (λ (o : Option ℕ). IsClaimed o session given place c is.early) taken
    (subst (λ (b : Bool). if_so b (Is (At place (TellsEnded session)))
    (IsClaimed (not_taken session given (c.queue place)) session given place) c is.early) lives is.first) in
    let there : IsPumped setup (cluster_happens c (At place (Submits session given))) is.late =
    subst (λ es. IsPumped setup (cluster_after c es) is.late) first is.second in
    record {
      rest = is.late;
      is = is.is ∙ ap (λ es. es ++ is.late) first;
      pumps = subst (λ (b : Bool). if_so b (IsPump setup) IsNothing (cluster_happens c (At place (Submits session given)))
          is.late) auto there;
    }

routed-given : (setup : Setup) (c : Cluster) (place session : ℕ) (given : Unstamped) (places : List ℕ)
    (events : List ClusterEvent) → places ≡ place ∷ [] → AndPumped setup (IsRouted session given places) c events
    → AndPumped setup (IsGiven session given place) c events
routed-given setup c place session given places events is asked =
    let a = subst (λ (l : List ℕ). AndPumped setup (IsRouted session given l) c events) is asked in
    let all : a.early ≡ a.first.early = a.first.is ∙ ap (λ es. a.first.early ++ es) a.first.second
    ∙ append-nil a.first.early in
    record {
      early = a.early;
      late = a.late;
      is = a.is;
      first = subst (λ es. IsGiven session given place c es) (sym all) a.first.first;
      second = a.second;
    }

pub line-asked : (setup : Setup) (c : Cluster) (line : ScriptLine) (place session : ℕ) (given : Unstamped)
    (events : List ClusterEvent) → c.auto ≡ true → is_ended session (c.queue place) ≡ false
    → not_taken session given (c.queue place) ≡ None → GivesOne setup line session place given
    → IsLine setup line c events → Asked setup c place session given events
unfolding IsLine
line-asked setup c (lines.Publish body) place session given events auto lives taken one is =
    given-asked setup c place session given events auto lives taken
    (routed-given setup c place session given (setup.targets [] (setup.name setup.first)) events one.1
    (subst (λ (n : ℕ). AndPumped setup (IsRouted n given (setup.targets [] (setup.name setup.first))) c events)
    (sym one.0) (subst (λ (g : Unstamped). AndPumped setup (IsRouted 1 g (setup.targets [] (setup.name setup.first))) c
    events) (sym one.2) is)))
line-asked setup c (lines.Send by exchange key body) place session given events auto lives taken one is =
    given-asked setup c place session given events auto lives taken
    (routed-given setup c place session given (setup.targets exchange key) events one.1
    (subst (λ (n : ℕ). AndPumped setup (IsRouted n given (setup.targets exchange key)) c events) (sym one.0)
    (subst (λ (g : Unstamped). AndPumped setup (IsRouted by.number g (setup.targets exchange key)) c events) (sym one.2)
    is)))
line-asked setup c (lines.Client by at body) place session given events auto lives taken one is =
    given-asked setup c place session given events auto lives taken
    (subst (λ (n : ℕ). AndPumped setup (IsGiven n given place) c events) (sym one.0)
    (subst (λ (n : ℕ). AndPumped setup (IsGiven by.number given n) c events) (sym one.1)
    (subst (λ (g : Unstamped). AndPumped setup (IsGiven by.number g at.0) c events) (sym one.2) is)))
line-asked setup c lines.Nothing place session given events auto lives taken one is = absurd one
line-asked setup c (lines.Attach by at tag taker) place session given events auto lives taken one is = absurd one
line-asked setup c (lines.End by) place session given events auto lives taken one is = absurd one
line-asked setup c (lines.Resend by) place session given events auto lives taken one is = absurd one
line-asked setup c (lines.Mute by muted) place session given events auto lives taken one is = absurd one
line-asked setup c (lines.Pace pace) place session given events auto lives taken one is = absurd one
line-asked setup c lines.Pump place session given events auto lives taken one is = absurd one
line-asked setup c (lines.Write node) place session given events auto lives taken one is = absurd one
line-asked setup c (lines.Sync node) place session given events auto lives taken one is = absurd one
line-asked setup c (lines.Notice node at) place session given events auto lives taken one is = absurd one
line-asked setup c (lines.Tick node at) place session given events auto lives taken one is = absurd one
line-asked setup c (lines.Deliver at message) place session given events auto lives taken one is = absurd one
line-asked setup c (lines.Lose at message) place session given events auto lives taken one is = absurd one
line-asked setup c (lines.Copy at message) place session given events auto lives taken one is = absurd one
line-asked setup c (lines.Crash nodes image) place session given events auto lives taken one is = absurd one
line-asked setup c (lines.Restart nodes) place session given events auto lives taken one is = absurd one
line-asked setup c (lines.Show at) place session given events auto lives taken one is = absurd one

-- ---- the leader

-- who leads takes commands
record TakesAt (g : Group) (k : ℕ) : Type 0 where
  server : Server
  is : (g.seat k).server ≡ Some server
  ready : is_ready server ≡ true

abbrev AreReady : Group → Option Leading → Type 0
AreReady g best = (l : Leading) → best ≡ Some l → TakesAt g l.node

leading-takes : (g : Group) (k : ℕ) → AreReady g (leading k (g.seat k).server)
leading-takes g k = by (g.seat k).server refl
  where
    by : (o : Option Server) → (g.seat k).server ≡ o → AreReady g (leading k o)
    by None is l led = absurd (let e : None ≡ Some l = led in cc)
    by (Some s) is l led =
        cond_both (is_ready s) (Some (record { node = k; term = s.term.0 })) None
        (λ (o : Option Leading). o ≡ Some l → TakesAt g l.node)
        (λ ready e. (let same : record { node = k; term = s.term.0 } ≡ l = same_some (record { node = k; term = s.term.0 }) l e in
        subst (λ (x : Leading). TakesAt g x.node) same (record { server = s; is = is; ready = ready })))
        (λ _ e. absurd (let none : None ≡ Some l = e in cc)) led

later-takes : (g : Group) (best next : Option Leading) → AreReady g best → AreReady g next → AreReady g (later best next)
later-takes g best None a b = a
later-takes g None (Some next) a b = b
later-takes g (Some best) (Some next) a b =
    cond_both (nat_lt best.term next.term) (Some next) (Some best) (AreReady g) (λ _. b) (λ _. a)

latest-takes : (g : Group) (nodes : List NodeId) (best : Option Leading) → AreReady g best
    → AreReady g (fold (λ b (n : NodeId). later b (leading n.0 (g.seat n.0).server)) best nodes)
latest-takes g [] best ready = ready
latest-takes g (n ∷ nodes) best ready =
    latest-takes g nodes (later best (leading n.0 (g.seat n.0).server))
    (later-takes g best (leading n.0 (g.seat n.0).server) ready (leading-takes g n.0))

leader-ready : (g : Group) (k : ℕ) (s : Server) → leader g ≡ Some k → (g.seat k).server ≡ Some s → is_ready s ≡ true
leader-ready g k s leads up =
    by (latest g.nodes g) (latest-takes g g.nodes None (λ l e. absurd (let n : None ≡ Some l = e in cc))) leads
  where
    by : (o : Option Leading) → AreReady g o → node_of o ≡ Some k → is_ready s ≡ true
    by None ready is = absurd (let e : None ≡ Some k = is in cc)
    by (Some l) ready is =
        let t = ready l refl in
        let same : l.node ≡ k = same_some l.node k is in
        let who : t.server ≡ s =
        same_some t.server s (sym t.is ∙ ap (λ (n : ℕ). (g.seat n).server) same ∙ up) in
        subst (λ (x : Server). is_ready x ≡ true) who t.ready

-- ---- a queue whose leader may commit

-- what the law of groups says of a commit
abbrev pub AreWithin : Type 0
AreWithin =
    (g : Group) (whole : List Entry) (made : List Move) (k : ℕ) (s : Server) → AreDistinct g.nodes → IsOpened g whole
    → IsUp (group_after g made) k s → s.commit ≤ last s

pub sound-at : (setup : Setup) (made : List ClusterEvent) (place : ℕ) → HasGroups setup
    → IsSound (members setup place) ((cluster_after (new_cluster setup) made).queue place)
sound-at setup made place groups =
    let group : Group = setup.group place in
    subst (IsSound (members setup place)) (sym (queue-is (new_cluster setup) made place))
    (sound-all (members setup place) ((new_cluster setup).queue place) (parts_of place made) (record {
      fit = fit-down group (groups place).opened.down;
      counted = counted-new (setup.args place) group (groups place);
      reached = reached-new (setup.args place) group (groups place);
    }))

pub counted-at : (setup : Setup) (made : List ClusterEvent) → HasGroups setup
    → AreCounted (cluster_after (new_cluster setup) made)
counted-at setup made groups =
    counted-after (new_cluster setup) made (λ place. counted-new (setup.args place) (setup.group place) (groups place))

-- a number of a member
pub member-in : (j : ℕ) (nodes : List NodeId) → has_node j nodes ≡ true → In j (members_of nodes)
member-in j [] is = absurd (false≢true is)
member-in j (n ∷ nodes) is = elim (or_cases (nat_eq n.0 j) (has_node j nodes) is) [
  | inl own ↦ inl (sym (eqb-true n.0 j own))
  | inr more ↦ inr (member-in j nodes more)
]

pub in-member : (j : ℕ) (nodes : List NodeId) → In j (members_of nodes) → has_node j nodes ≡ true
in-member j [] here = absurd here
in-member j (n ∷ nodes) (inl own) = ap (λ (b : Bool). b || has_node j nodes) (eq-eqb n.0 j (sym own))
in-member j (n ∷ nodes) (inr more) = by (nat_eq n.0 j) (in-member j nodes more)
  where
    by : (b : Bool) → has_node j nodes ≡ true → (b || has_node j nodes) ≡ true
    by true is = refl
    by false is = is

peer-member : (k : ℕ) (nodes : List NodeId) (s : Server) (x : Peer) → IsFit nodes k s → In x s.peers
    → has_node x.node.0 nodes ≡ true
peer-member k nodes s x fit here =
    let m = In-map number x.node.0 (others k nodes)
    (subst (λ (l : List ℕ). In x.node.0 l) fit.peers (map-In peer_number x s.peers here)) in
    in-member x.node.0 nodes
    (subst (λ (n : ℕ). In n (members_of nodes)) (sym m.is)
    (map-In number m.item nodes (In-filter (λ (q : NodeId). not (nat_eq q.0 k)) m.item nodes m.here).0))

module _ (within : AreWithin) (setup : Setup) (made : List ClusterEvent) (place k : ℕ) (s : Server)
    (groups : HasGroups setup) (nodes : AreNodes setup) where
  abbrev c : Cluster
  c = cluster_after (new_cluster setup) made

  abbrev q : Queue
  q = c.queue place

  pub can-commit : In place setup.places → is_idle setup c ≡ true → (m : LeadsMost setup c place k s)
      → CanCommit (members setup place) (runs setup c) (counted_by (members setup place) m.most.counts) q k s
  can-commit here idle m = record {
    sound = sound;
    distinct = (groups place).distinct;
    here = m.up;
    ready = leader-ready q.group k s m.leads m.up;
    node_up = runs-from setup c k m.node_up (nodes place k here (member-in k (members setup place) fit.member));
    bag = quiet-bag setup c.up q quiet;
    settled = λ j j_up. (let r = runs-up setup c j j_up in
        quiet-settled setup c.up q j (counted-at setup made groups place) r.1 r.0 quiet);
    latest = λ j t up. m.latest j t up;
    counts_up = λ j counts. (let h = has j counts in
        runs-from setup c j h.node_up (nodes place j here (there j counts)));
    log = λ j counts. (let h = has j counts in (h.server, h.up, h.log));
    next = λ j counts other x peer is. (has j counts).next other x peer is;
    majority = majority-le (λ x. m.most.counts x.node.0) (λ x. counted_by (members setup place) m.most.counts x.node.0)
        s.peers
        (λ x peer counts. and_from (has_node x.node.0 (members setup place)) (m.most.counts x.node.0)
        (peer-member k (members setup place) s x fit peer) counts)
        (peers-majority (members setup place) k m.most.counts s.peers (groups place).distinct fit.member fit.peers
        m.most.majority);
    within = (let r = sound.reached in within r.start r.begun.whole r.made k s r.begun.distinct r.begun.opened
        (subst (λ (g : Group). IsUp g k s) r.is m.up));
  }
    where
      sound : IsSound (members setup place) q
      sound = sound-at setup made place groups

      fit : IsFit (members setup place) k s
      fit = sound.fit.each k s m.up

      quiet : is_quiet setup c.up q ≡ true
      quiet = all-in (λ (p : ℕ). is_quiet setup c.up (c.queue p)) setup.places place idle here

      there : (j : ℕ) → counted_by (members setup place) m.most.counts j ≡ true → In j (members_of (members setup place))
      there j counts =
          member-in j (members setup place) (and_parts (has_node j (members setup place)) (m.most.counts j) counts).0

      has : (j : ℕ) → counted_by (members setup place) m.most.counts j ≡ true → HasItsLog c place k s j
      has j counts =
          m.most.each j (there j counts) (and_parts (has_node j (members setup place)) (m.most.counts j) counts).1
