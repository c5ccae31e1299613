-- An opening's restarts, over new logs: each member is up with a new server.
use Rattle.std.proofs.Common.{◌≡◌, ℕ, Bool, true, false, ◌&&◌, List, [], ◌∷◌, length, take, Some, refl, sym, ap, ◌∙◌, subst, inl, inr, arith}
use Rattle.std.specs.Prelude.{nat_le}
use Rattle.std.proofs.lemmas.Bool.{and_parts, cond-true, cond-false, cases_Bool, cases_eq, false≢true, leb-true}
use Rattle.qq_base.specs.Fronts.{put}
use Rattle.qq_base.proofs.Puts.{put-each, put-same, put-other}
use Rattle.qq_base.specs.declared.ids.NodeId.{NodeId}
use Rattle.qq_log.specs.Stable.{stable}
use Rattle.qq_raft_protocol.specs.Facts.{In}
use Rattle.qq_raft_model.specs.Group.{Group, Seat, has_node, is_down, may_restart, restart_by}
use Rattle.qq_raft_model.specs.State.{Server}
use Rattle.qq_cluster_model.specs.Cluster.{Cluster, ClusterEvent, FindsEach, Setup, cluster_after, members}
use Rattle.qq_cluster_model.specs.ClusterLaws.{has_failure}
use Rattle.qq_cluster_model.specs.Queue.{Queue, Finds, happens}
use Rattle.qq_cluster_model.specs.Rules.{FindsLanes, ForEach, IsFound, IsNothing, IsRestart, if_so, may_find}
use Rattle.qq_cluster_progress_laws.specs.Soon.{AreOnce}
use Rattle.qq_cluster_progress_laws.proofs.Exchange.{same_some}
use Rattle.qq_cluster_progress_laws.proofs.Playing.{after-both, parts-fine}
use Rattle.qq_cluster_progress_laws.proofs.Soon.{all-in}
use Rattle.qq_cluster_progress_laws.proofs.Sound.{IsSound, sound-event}
use Rattle.qq_cluster_progress_laws.proofs.Voting.{IsNew}

-- a seat with no op, and a new server if any
pub record IsNewSeat (seat : Seat) : Type 0 where
  pub new : (t : Server) → seat.server ≡ Some t → IsNew t
  pub ops : seat.ops ≡ []
  pub noticed : seat.noticed ≡ 0

-- the members whose nodes are up have new servers
pub record IsRising (members : List NodeId) (up : ℕ → Bool) (q : Queue) : Type 0 where
  pub sound : IsSound members q
  pub bag : q.group.bag ≡ []
  pub seats : (j : ℕ) → IsNewSeat (q.group.seat j)
  pub synced : (j : ℕ) → q.synced j ≡ 0
  pub there : (j : ℕ) → has_node j members ≡ true → up j ≡ true
      → (t : Server) × ((q.group.seat j).server ≡ Some t)

abbrev found : ℕ → Group → Group
found k g = restart_by k 0 (stable []) g

module _ (members : List NodeId) (up : ℕ → Bool) (q : Queue) (k : ℕ) (rising : IsRising members up q) where
  abbrev g : Group
  g = q.group

  nodes_are : g.nodes ≡ members
  nodes_are = rising.sound.fit.nodes_are

  no-ops : (op : ℕ) → nat_le op (length (g.seat k).ops) ≡ true → op ≡ 0
  no-ops op is =
      let le = leb-true op (length (g.seat k).ops) is in
      let none = ap length (rising.seats k).ops in
      omega (arith, le, none)

  -- a member is found
  rises-own : may_restart k 0 g ≡ true → IsRising members (put k true up) (happens q (Finds k 0))
  rises-own may =
      let group : (happens q (Finds k 0)).group ≡ found k g =
      cond-true (may_restart k 0 g) (restart_by k 0 (stable (take 0 (g.seat k).ops)) g) g may in
      let synced : (happens q (Finds k 0)).synced ≡ put k 0 q.synced =
      cond-true (may_restart k 0 g) (put k 0 q.synced) q.synced may in
      record {
        sound = sound-event members q (Finds k 0) rising.sound;
        bag = ap (λ (x : Group). x.bag) group ∙ rising.bag;
        seats = λ j. subst (λ (x : Group). IsNewSeat (x.seat j)) (sym group)
            (put-each (λ (i : ℕ) (x : Seat). IsNewSeat x) k _ g.seat (record {
              new = λ t is. subst IsNew (same_some _ t is) (record {
                op = refl;
                term = refl;
                vote = refl;
                log = refl;
                noticed = refl;
                role = refl;
                commit = refl;
                waiting = refl;
                ops = refl;
              });
              ops = refl;
              noticed = refl;
            }) (λ i other. rising.seats i) j);
        synced = λ j. ap (λ (f : ℕ → ℕ). f j) synced
            ∙ put-each (λ (i n : ℕ). n ≡ 0) k 0 q.synced refl (λ i other. rising.synced i) j;
        there = λ j is j_up.
            subst (λ (x : Group). (t : Server) × ((x.seat j).server ≡ Some t)) (sym group)
            (put-each (λ (i : ℕ) (x : Seat). has_node i members ≡ true → put k true up i ≡ true
            → (t : Server) × (x.server ≡ Some t)) k _ g.seat (λ _ _. (_, refl))
            (λ i other m i_up. rising.there i m (sym (put-other k true up i other) ∙ i_up)) j is j_up);
      }

  -- it has no member there
  rises-none : (op : ℕ) → has_node k g.nodes ≡ false → IsRising members (put k true up) (happens q (Finds k op))
  rises-none op none =
      let no : may_restart k op g ≡ false = by (is_down (g.seat k).server) in
      let group : (happens q (Finds k op)).group ≡ g =
      cond-false (may_restart k op g) (restart_by k op (stable (take op (g.seat k).ops)) g) g no in
      let synced : (happens q (Finds k op)).synced ≡ q.synced =
      cond-false (may_restart k op g) (put k op q.synced) q.synced no in
      record {
        sound = sound-event members q (Finds k op) rising.sound;
        bag = ap (λ (x : Group). x.bag) group ∙ rising.bag;
        seats = λ j. subst (λ (x : Group). IsNewSeat (x.seat j)) (sym group) (rising.seats j);
        synced = λ j. ap (λ (f : ℕ → ℕ). f j) synced ∙ rising.synced j;
        there = λ j is j_up. subst (λ (x : Group). (t : Server) × ((x.seat j).server ≡ Some t)) (sym group)
            (elim (cases_eq j k) [
              | inl same ↦ absurd (false≢true (sym none ∙ ap (λ (l : List NodeId). has_node k l) nodes_are
                  ∙ ap (λ (n : ℕ). has_node n members) (sym same) ∙ is))
              | inr other ↦ rising.there j is (sym (put-other k true up j other) ∙ j_up)
            ]);
      }
    where
      by : (b : Bool) → (b && (has_node k g.nodes && (nat_le (g.seat k).noticed op && nat_le op (length (g.seat k).ops)))) ≡ false
      by true = ap (λ (b : Bool). b && (nat_le (g.seat k).noticed op && nat_le op (length (g.seat k).ops))) none
      by false = refl

  pub rises : (op : ℕ) → may_find k op q ≡ true → IsRising members (put k true up) (happens q (Finds k op))
  rises op may = elim (cases_Bool (has_node k g.nodes)) [
    | inl own ↦
        let can : may_restart k op g ≡ true =
        sym (cond-true (has_node k g.nodes) (may_restart k op g) true own) ∙ may in
        let rest = (and_parts (is_down (g.seat k).server)
        (has_node k g.nodes && (nat_le (g.seat k).noticed op && nat_le op (length (g.seat k).ops))) can).1 in
        let last = (and_parts (has_node k g.nodes)
        (nat_le (g.seat k).noticed op && nat_le op (length (g.seat k).ops)) rest).1 in
        let none : op ≡ 0 =
        no-ops op (and_parts (nat_le (g.seat k).noticed op) (nat_le op (length (g.seat k).ops)) last).1 in
        subst (λ (n : ℕ). IsRising members (put k true up) (happens q (Finds k n))) (sym none)
        (rises-own (subst (λ (n : ℕ). may_restart k n g ≡ true) none can))
    | inr other ↦ rises-none op other
  ]

-- ---- all nodes

pub record HaveRisen (setup : Setup) (nodes : List ℕ) (before c : Cluster) : Type 0 where
  pub each : (place : ℕ) → In place setup.places → IsRising (members setup place) c.up (c.queue place)
  pub nodes_up : (k : ℕ) → In k nodes → c.up k ≡ true
  pub still : (k : ℕ) → before.up k ≡ true → c.up k ≡ true

pub all-rise : (setup : Setup) (nodes : List ℕ) → AreOnce nodes → (c : Cluster) (events : List ClusterEvent)
    → ((k : ℕ) → In k nodes → c.up k ≡ false)
    → ((place : ℕ) → In place setup.places → IsRising (members setup place) c.up (c.queue place))
    → ForEach nodes (IsRestart setup) c events → has_failure events ≡ false
    → HaveRisen setup nodes c (cluster_after c events)
all-rise setup [] once c events down each is fine =
    subst (λ es. HaveRisen setup [] c (cluster_after c es)) (sym is) (record {
      each = each;
      nodes_up = λ k here. absurd here;
      still = λ k up. up;
    })
all-rise setup (k ∷ nodes) once c events down each is fine =
    by found (λ d rest down' each' fine'. all-rise setup nodes once.1 d is.late down' each' rest fine')
  where
    both : (has_failure is.early ≡ false) × (has_failure is.late ≡ false)
    both = parts-fine events is.early is.late is.is fine

    found : FindsLanes setup k c is.early
    found = elim (subst (λ (b : Bool). if_so b IsNothing (IsFound setup k) c is.early) (down k (inl refl)) is.first) [
      | inl lanes ↦ lanes
      | inr fails ↦ absurd (false≢true (sym both.0 ∙ ap has_failure fails))
    ]

    by : (f : FindsLanes setup k c is.early)
        → ((d : Cluster) → ForEach nodes (IsRestart setup) d is.late → ((i : ℕ) → In i nodes → d.up i ≡ false)
        → ((place : ℕ) → In place setup.places → IsRising (members setup place) d.up (d.queue place))
        → has_failure is.late ≡ false → HaveRisen setup nodes d (cluster_after d is.late))
        → HaveRisen setup (k ∷ nodes) c (cluster_after c events)
    by f rest =
        let d : Cluster = cluster_after c (FindsEach k f.ops ∷ []) in
        let d_is : cluster_after c is.early ≡ d = ap (cluster_after c) f.is in
        let r : HaveRisen setup nodes d (cluster_after d is.late) =
        rest d (subst (λ (x : Cluster). ForEach nodes (IsRestart setup) x is.late) d_is is.second)
        (λ i here. put-other k true c.up i (λ same. once.0 (subst (λ (n : ℕ). In n nodes) same here))
        ∙ down i (inr here))
        (λ place here. rises (members setup place) c.up (c.queue place) k (each place here) (f.ops place)
        (all-in (λ (p : ℕ). may_find k (f.ops p) (c.queue p)) setup.places place f.may here)) both.1 in
        let end : cluster_after c events ≡ cluster_after d is.late =
        ap (cluster_after c) is.is ∙ after-both c is.early is.late ∙ ap (λ (x : Cluster). cluster_after x is.late) d_is in
        subst (HaveRisen setup (k ∷ nodes) c) (sym end) (record {
          each = r.each;
          nodes_up = λ i here. elim here [
            | inl same ↦ r.still i (ap (put k true c.up) same ∙ put-same k true c.up)
            | inr later ↦ r.nodes_up i later
          ];
          still = λ i up. r.still i (put-each (λ (n : ℕ) (b : Bool). c.up n ≡ true → b ≡ true) k true c.up (λ _. refl)
              (λ n other on. on) i up);
        })
