-- An opening over new disks gives each queue its first member as its leader.
use Rattle.std.proofs.Common.{◌≡◌, ◌≢◌, ◌<◌, ◌+◌, ℕ, zero, suc, ◌≤◌, Bool, true, false, ◌||◌, List, [], ◌∷◌, ◌++◌, length, Some, None, refl, sym, ap, ◌∙◌, subst, inl, inr, arith}
use Rattle.std.proofs.Math.Path.{fun_ext}
use Rattle.std.proofs.lemmas.Bool.{cases_eq, eq-eqb}
use Rattle.qq_base.specs.declared.ids.NodeId.{NodeId}
use Rattle.qq_raft_protocol.specs.Facts.{In, tally}
use Rattle.qq_raft_model.specs.Group.{Group, has_node}
use Rattle.qq_raft_model.specs.Promises.{members_of}
use Rattle.qq_raft_model.specs.State.{Server}
use Rattle.qq_cluster_model.specs.Cluster.{Cluster, ClusterEvent, SaysBusy, Setup, cluster_after, members, new_cluster, parts_of}
use Rattle.qq_cluster_model.specs.ClusterLaws.{HasGroups, has_failure}
use Rattle.qq_cluster_model.specs.Queue.{Queue, Event, Ticks, after, begin}
use Rattle.qq_cluster_model.specs.Rules.{ForEach, Is, IsFirstTick, IsNothing, IsOpening, IsRestart, IsRound, Pumps, Then, if_so, is_idle, is_quiet, most_rounds, tick_at}
use Rattle.qq_cluster_progress_laws.specs.Alone.{round_alone}
use Rattle.qq_cluster_progress_laws.specs.Opened.{AreNewGroups, FirstLeads, HasOpened}
use Rattle.qq_cluster_progress_laws.specs.Soon.{AreNodes, AreOnce, HasItsLog, LeadsMost}
use Rattle.qq_cluster_progress_laws.proofs.Committing.{IsLedQuietly}
use Rattle.qq_cluster_progress_laws.proofs.Led.{idle-is, is-leader}
use Rattle.qq_cluster_progress_laws.proofs.Exchange.{same_some}
use Rattle.qq_cluster_progress_laws.proofs.Following.{free-quiet, none-round}
use Rattle.qq_cluster_progress_laws.proofs.Line.{counted-at, in-member, member-in, sound-at}
use Rattle.qq_cluster_model.proofs.Takerless.{at-other, at-own}
use Rattle.qq_cluster_progress_laws.proofs.Playing.{AreCounted, Plays, after-both, counted-after, parts-fine, played, queue-is, round-plays, takerless-after}
use Rattle.qq_cluster_progress_laws.proofs.Unasked.{AreTakerless, of-each, of-restart, of-tick, takerless-new, takerless-then}
use Rattle.qq_cluster_progress_laws.proofs.Restarting.{HaveRisen, IsRising, all-rise}
use Rattle.qq_cluster_progress_laws.proofs.Rising.{IsFreshQueue}
use Rattle.qq_cluster_progress_laws.proofs.Rounds.{IsSettled}
use Rattle.qq_cluster_progress_laws.proofs.Settling.{Settles, rounds, settles}
use Rattle.qq_cluster_progress_laws.proofs.Soon.{all-in, quiet-bag, quiet-settled, round-same, runs, runs-from, runs-up}
use Rattle.qq_cluster_progress_laws.proofs.Sound.{AreHanded, IsSound}

-- ---- ticks

abbrev first_tick : List NodeId → List Event
first_tick [] = []
first_tick (n ∷ nodes) = Ticks n.0 ∷ []

record AreTicked (setup : Setup) (places : List ℕ) (c d : Cluster) : Type 0 where
  up : d.up ≡ c.up
  own : (place : ℕ) → In place places → d.queue place ≡ after (c.queue place) (first_tick (members setup place))
  others : (place : ℕ) → (In place places → ⊥) → d.queue place ≡ c.queue place

record IsTicked (place : ℕ) (ns : List NodeId) (c : Cluster) (events : List ClusterEvent) : Type 0 where
  up : (cluster_after c events).up ≡ c.up
  fine : has_failure events ≡ false
  own : parts_of place events ≡ first_tick ns
  others : (other : ℕ) → other ≢ place → parts_of other events ≡ []

ticked : (place : ℕ) (ns : List NodeId) (c : Cluster) (events : List ClusterEvent) → tick_at place ns c events
    → IsTicked place ns c events
ticked place [] c events is =
    subst (IsTicked place [] c) (sym is) (record { up = refl; fine = refl; own = refl; others = λ other differs. refl })
ticked place (n ∷ ns) c events is =
    subst (IsTicked place (n ∷ ns) c) (sym is) (record {
      up = refl;
      fine = refl;
      own = ap (λ (l : List Event). l ++ []) (at-own place (Ticks n.0));
      others = λ other differs. ap (λ (l : List Event). l ++ []) (at-other other place (Ticks n.0) (λ same. differs (sym same)));
    })

all-ticked : (setup : Setup) (places : List ℕ) → AreOnce places → (c : Cluster) (events : List ClusterEvent)
    → ForEach places (IsFirstTick setup) c events → AreTicked setup places c (cluster_after c events)
all-ticked setup [] once c events is =
    subst (λ es. AreTicked setup [] c (cluster_after c es)) (sym is) (record {
      up = refl;
      own = λ place here. absurd here;
      others = λ place gone. refl;
    })
all-ticked setup (p ∷ places) once c events is =
    let d : Cluster = cluster_after c is.early in
    let t = ticked p (members setup p) c is.early is.first in
    let r = all-ticked setup places once.1 d is.late is.second in
    let end : cluster_after c events ≡ cluster_after d is.late =
    ap (cluster_after c) is.is ∙ after-both c is.early is.late in
    subst (AreTicked setup (p ∷ places) c) (sym end) (record {
      up = r.up ∙ t.up;
      own = λ place here. elim here [
        | inl same ↦
            r.others place (λ later. once.0 (subst (λ (n : ℕ). In n places) same later))
            ∙ queue-is c is.early place
            ∙ ap (after (c.queue place)) (subst (λ (n : ℕ). parts_of n is.early ≡ first_tick (members setup n)) (sym same) t.own)
        | inr later ↦
            r.own place later
            ∙ ap (λ (q : Queue). after q (first_tick (members setup place))) (queue-is c is.early place
            ∙ ap (after (c.queue place))
            (t.others place (λ same. once.0 (subst (λ (n : ℕ). In n places) same later))))
      ];
      others = λ place gone.
          r.others place (λ later. gone (inr later)) ∙ queue-is c is.early place
          ∙ ap (after (c.queue place)) (t.others place (λ same. gone (inl same)));
    })

-- ---- a pump

record AreLed (setup : Setup) (c d : Cluster) (first : ℕ → ℕ) : Type 0 where
  up : d.up ≡ c.up
  each : (place : ℕ) → In place setup.places
      → IsLedQuietly (members setup place) (runs setup c) (first place) (d.queue place)
  idle : is_idle setup d ≡ true

pumps-none : (setup : Setup) (n : ℕ) (d : Cluster) (events : List ClusterEvent) → is_idle setup d ≡ true
    → Pumps n setup d events → events ≡ []
pumps-none setup zero d events idle is =
    subst (λ (b : Bool). if_so b IsNothing (Is SaysBusy) d events) idle is
pumps-none setup (suc n) d events idle is =
    subst (λ (b : Bool). if_so b IsNothing (Then (IsRound setup) (Pumps n setup)) d events) idle is

module _ (setup : Setup) (once : AreOnce setup.places) (c : Cluster) (first : ℕ → ℕ)
    (each : (place : ℕ) → In place setup.places
    → Settles (members setup place) (runs setup c) setup.nodes (first place) (c.queue place)) where
  abbrev up : ℕ → Bool
  up = runs setup c

  abbrev turn_round : Queue → List Event
  turn_round = round_alone up setup.nodes

  a-round : (d : Cluster) (events : List ClusterEvent) → d.up ≡ c.up → AreCounted d → IsRound setup d events
      → has_failure events ≡ false → Plays setup d events (λ p. turn_round (d.queue p))
  a-round d events same counted is fine =
      subst (λ (f : Queue → List Event). Plays setup d events (λ p. f (d.queue p)))
      (ap (λ (u : ℕ → Bool). λ (r : Queue). round_alone u setup.nodes r) same
      ∙ fun_ext (λ r. sym (round-same setup c r)))
      (round-plays setup once d events counted is fine)

  abbrev HasPlayed : ℕ → Cluster → Type 0
  HasPlayed r d = (place : ℕ) → In place setup.places → d.queue place ≡ rounds up setup.nodes r (c.queue place)

  led-then : (d : Cluster) → d.up ≡ c.up
      → ((place : ℕ) → In place setup.places → IsLedQuietly (members setup place) up (first place) (d.queue place))
      → AreLed setup c d first
  led-then d same led = record { up = same; each = led; idle = idle-is setup c d first same led }

  -- it stops before
  led-early : (r : ℕ) (d : Cluster) → r < 4 → d.up ≡ c.up → AreCounted d → HasPlayed r d → is_idle setup d ≡ true
      → AreLed setup c d first
  led-early r d lt same counted played' idle =
      led-then d same (λ place here.
      let q = d.queue place in
      let still : is_quiet setup c.up q ≡ true =
      ap (λ (u : ℕ → Bool). is_quiet setup u q) (sym same)
      ∙ all-in (λ (p : ℕ). is_quiet setup d.up (d.queue p)) setup.places place idle here in
      let is = played' place here in
      subst (IsLedQuietly (members setup place) up (first place)) (sym is)
      ((each place here).early r lt (ap (λ (x : Queue). x.group.bag) (sym is) ∙ quiet-bag setup c.up q still)
      (λ j j_up. subst (IsSettled j) is (let u = runs-up setup c j j_up in
      quiet-settled setup c.up q j (counted place) u.1 u.0 still))))

  ends : (more r n : ℕ) → r + more ≡ 4 → more ≤ n → (d : Cluster) (events : List ClusterEvent) → d.up ≡ c.up
      → AreCounted d → AreTakerless d → HasPlayed r d → Pumps n setup d events → has_failure events ≡ false
      → AreLed setup c (cluster_after d events) first
  ends zero r n four le d events same counted free played' is fine =
      let all : r ≡ 4 = omega (arith, four) in
      let led : AreLed setup c d first =
      led-then d same (λ place here. subst (IsLedQuietly (members setup place) up (first place))
      (sym (played' place here ∙ ap (λ (m : ℕ). rounds up setup.nodes m (c.queue place)) all))
      (each place here).then) in
      subst (λ es. AreLed setup c (cluster_after d es) first) (sym (pumps-none setup n d events led.idle is)) led
  ends (suc more) r zero four le d events same counted free played' is fine = absurd (omega (arith, le))
  ends (suc more) r (suc n) four le d events same counted free played' is fine =
      by (is_idle setup d) refl is
      (λ x es same' counted' free' played'' is' fine'. ends more (suc r) n (omega (arith, four)) (omega (arith, le)) x es
      same' counted' free' played'' is' fine')
    where
      by : (b : Bool) → is_idle setup d ≡ b → if_so b IsNothing (Then (IsRound setup) (Pumps n setup)) d events
          → ((x : Cluster) (es : List ClusterEvent) → x.up ≡ c.up → AreCounted x → AreTakerless x → HasPlayed (suc r) x
          → Pumps n setup x es → has_failure es ≡ false → AreLed setup c (cluster_after x es) first)
          → AreLed setup c (cluster_after d events) first
      by true idle none rest =
          subst (λ es. AreLed setup c (cluster_after d es) first) (sym none)
          (led-early r d (omega (arith, four)) same counted played' idle)
      by false idle begun rest =
          let both = parts-fine events begun.early begun.late begun.is fine in
          let plays = a-round d begun.early same counted begun.first both.0 in
          let end : cluster_after d events ≡ cluster_after (cluster_after d begun.early) begun.late =
          ap (cluster_after d) begun.is ∙ after-both d begun.early begun.late in
          subst (λ (x : Cluster). AreLed setup c x first) (sym end)
          (rest (cluster_after d begun.early) begun.late (plays.up ∙ same) (counted-after d begun.early counted)
          (λ place. takerless-after d begun.early place plays.plain (free place))
          (λ place here. played setup d begun.early (λ p. turn_round (d.queue p)) place here (free place).untold
          (free-quiet (d.queue place) (turn_round (d.queue place)) (none-round up setup.nodes (d.queue place)) (free place))
          plays
          ∙ ap (λ (q : Queue). after q (turn_round q)) (played' place here)) begun.second both.1)

-- ---- a queue that is led

-- all members are up with the leader's log
has-all : (setup : Setup) (c : Cluster) (place k : ℕ) (up : ℕ → Bool)
    (led : IsLedQuietly (members setup place) up k (c.queue place))
    → ((j : ℕ) → In j (members_of (members setup place)) → c.up j ≡ true) → (j : ℕ)
    → In j (members_of (members setup place)) → HasItsLog c place k led.server j
has-all setup c place k up led members_up j here = elim (cases_eq j k) [
  | inl same ↦ subst (λ (n : ℕ). HasItsLog c place k led.server n) (sym same) (record {
    node_up = ap c.up (sym same) ∙ members_up j here;
    server = led.server;
    up = led.here;
    log = refl;
    next = λ other. absurd (other refl);
  })
  | inr other ↦ (let l = led.logs j other (in-member j (members setup place) here) in record {
    node_up = members_up j here;
    server = l.0;
    up = l.1;
    log = l.2;
    next = λ _ x peer _. (led.next x peer).0;
  })
]

tally-all : (xs : List ℕ) → tally (λ (j : ℕ). true) xs ≡ length xs
tally-all [] = refl
tally-all (x ∷ xs) = (let more = tally-all xs in omega (arith, more))

leads-most : (setup : Setup) (c : Cluster) (place k : ℕ) (up : ℕ → Bool)
    (led : IsLedQuietly (members setup place) up k (c.queue place))
    → IsSound (members setup place) (c.queue place)
    → ((j : ℕ) → In j (members_of (members setup place)) → HasItsLog c place k led.server j)
    → has_node k (members setup place) ≡ true → (first : NodeId) (others : List NodeId)
    → members setup place ≡ first ∷ others → LeadsMost setup c place k led.server
leads-most setup c place k up led sound all member first others are = record {
  leads = is-leader (c.queue place).group k led.server led.here led.ready led.others
      (ap (has_node k) sound.fit.nodes_are ∙ member);
  node_up = (all k (member-in k (members setup place) member)).node_up;
  up = led.here;
  most = record {
    counts = λ j. true;
    majority = (let t = tally-all (members_of (members setup place)) in
        let some = ap (λ (l : List NodeId). length (members_of l)) are in omega (arith, t, some));
    each = λ j here _. all j here;
  };
  latest = λ j t is. elim (cases_eq j k) [
    | inl same ↦ (let own : led.server ≡ t =
        same_some led.server t (sym led.here ∙ ap (λ (n : ℕ). ((c.queue place).group.seat n).server) (sym same) ∙ is) in
        subst (λ (x : Server). x.term.0 ≤ led.server.term.0) own (omega arith))
    | inr other ↦ (let term = led.terms j other t is in omega (arith, term))
  ];
}

-- ---- an opening

-- it begins with nothing
begins : (setup : Setup) → HasGroups setup → AreNewGroups setup → (place : ℕ) → In place setup.places
    → IsRising (members setup place) (λ k. false) ((new_cluster setup).queue place)
begins setup groups new place here =
    let g = new place here in
    subst (λ (x : Group). IsSound x.nodes (begin (setup.args place) x)
    → IsRising x.nodes (λ k. false) (begin (setup.args place) x)) (sym g.is) (λ sound. record {
      sound = sound;
      bag = refl;
      seats = λ j. record { new = λ t is. absurd (let none : None ≡ Some t = is in cc); ops = refl; noticed = refl };
      synced = λ j. refl;
      there = λ j member up. absurd (let no : false ≡ true = up in cc);
    }) (sound-at setup [] place groups)

abbrev head_of : List NodeId → ℕ
head_of [] = 0
head_of (n ∷ ns) = n.0

pub opens : AreHanded → (setup : Setup) (events : List ClusterEvent) → HasGroups setup → AreOnce setup.places
    → AreOnce setup.nodes → AreNodes setup → AreNewGroups setup → IsOpening setup (new_cluster setup) events
    → has_failure events ≡ false → HasOpened setup (cluster_after (new_cluster setup) events)
unfolding most_rounds
opens handed setup events groups once nodes_once nodes new is fine =
    subst (HasOpened setup) (sym end) (record {
      nodes_up = nodes-up;
      each = leads;
      idle = led.idle;
    })
  where
    c0 : Cluster
    c0 = new_cluster setup

    early : List ClusterEvent
    early = is.early

    c1 : Cluster
    c1 = cluster_after c0 early

    middle : List ClusterEvent
    middle = is.second.early

    c2 : Cluster
    c2 = cluster_after c1 middle

    late : List ClusterEvent
    late = is.second.late

    c3 : Cluster
    c3 = cluster_after c2 late

    fine-first : (has_failure is.early ≡ false) × (has_failure is.late ≡ false)
    fine-first = parts-fine events is.early is.late is.is fine

    fine-second : (has_failure is.second.early ≡ false) × (has_failure is.second.late ≡ false)
    fine-second = parts-fine is.late is.second.early is.second.late is.second.is fine-first.1

    end : cluster_after c0 events ≡ c3
    end =
        ap (cluster_after c0) is.is ∙ after-both c0 early is.late ∙ ap (cluster_after c1) is.second.is
        ∙ after-both c1 middle late

    risen : HaveRisen setup setup.nodes c0 c1
    risen =
        all-rise setup setup.nodes nodes_once c0 early (λ k here. refl) (begins setup groups new) is.first fine-first.0

    ticks : AreTicked setup setup.places c1 c2
    ticks = all-ticked setup setup.places once c1 middle is.second.first

    counted-two : AreCounted c2
    counted-two = counted-after c1 middle (counted-after c0 early (counted-at setup [] groups))

    free-one : AreTakerless c1
    free-one =
        takerless-then c0 early
        (of-each setup.nodes (IsRestart setup) (of-restart setup) c0 early (takerless-new setup) is.first)
        (takerless-new setup)

    free-two : AreTakerless c2
    free-two =
        takerless-then c1 middle
        (of-each setup.places (IsFirstTick setup) (λ place. of-tick place (members setup place)) c1 middle free-one
        is.second.first) free-one

    among : (j : ℕ) → runs setup c2 j ≡ true → In j setup.nodes
    among j j_up = (runs-up setup c2 j j_up).1

    first : ℕ → ℕ
    first place = head_of (members setup place)

    members-are : (place : ℕ) (here : In place setup.places) → members setup place
        ≡ (new place here).first ∷ (new place here).others
    members-are place here = ap (λ (g : Group). g.nodes) (new place here).is

    is-member : (place : ℕ) (here : In place setup.places) → has_node (new place here).first.0 (members setup place) ≡ true
    is-member place here =
        let n = new place here in
        ap (has_node n.first.0) (members-are place here)
        ∙ ap (λ (b : Bool). b || has_node n.first.0 n.others) (eq-eqb n.first.0 n.first.0 refl)

    members-up : (place : ℕ) → In place setup.places → (j : ℕ) → has_node j (members setup place) ≡ true
        → runs setup c2 j ≡ true
    members-up place here j is =
        let node = nodes place j here (member-in j (members setup place) is) in
        runs-from setup c2 j (ap (λ (f : ℕ → Bool). f j) ticks.up ∙ risen.nodes_up j node) node

    fresh : (place : ℕ) → In place setup.places → IsFreshQueue (members setup place) (runs setup c2) (c1.queue place)
    fresh place here =
        let r = risen.each place here in
        record {
          sound = r.sound;
          distinct = (groups place).distinct;
          bag = r.bag;
          new = λ j t is. (r.seats j).new t is;
          there = λ j is. r.there j is (risen.nodes_up j (nodes place j here (member-in j (members setup place) is)));
          ops = λ j. (r.seats j).ops;
          noticed = λ j. (r.seats j).noticed;
          synced = r.synced;
          members_up = members-up place here;
        }

    all-settle : (place : ℕ) → In place setup.places
        → Settles (members setup place) (runs setup c2) setup.nodes (first place) (c2.queue place)
    all-settle place here =
        let n = new place here in
        let who : first place ≡ n.first.0 = ap head_of (members-are place here) in
        subst (λ (k : ℕ). Settles (members setup place) (runs setup c2) setup.nodes k (c2.queue place)) (sym who)
        (subst (Settles (members setup place) (runs setup c2) setup.nodes n.first.0)
        (sym (ticks.own place here ∙ ap (λ (l : List NodeId). after (c1.queue place) (first_tick l)) (members-are place here)))
        (settles handed (members setup place) (runs setup c2) setup.nodes (c1.queue place) n.first.0 (fresh place here)
        (is-member place here) among nodes_once))

    led : AreLed setup c2 c3 first
    led =
        ends setup once c2 first all-settle 4 zero most_rounds refl (omega arith) c2 late refl counted-two free-two
        (λ place here. refl) is.second.second fine-second.1

    sound-end : (place : ℕ) → IsSound (members setup place) (c3.queue place)
    sound-end place =
        subst (λ (c : Cluster). IsSound (members setup place) (c.queue place)) end (sound-at setup events place groups)

    nodes-up : (k : ℕ) → In k setup.nodes → c3.up k ≡ true
    nodes-up k here = ap (λ (f : ℕ → Bool). f k) (led.up ∙ ticks.up) ∙ risen.nodes_up k here

    leads : (place : ℕ) → In place setup.places → FirstLeads setup c3 place
    leads place here =
        let n = new place here in
        let l = led.each place here in
        let who : first place ≡ n.first.0 = ap head_of (members-are place here) in
        let all =
        has-all setup c3 place (first place) (runs setup c2) l (λ j member. nodes-up j (nodes place j here member)) in
        record {
          first = n.first;
          others = n.others;
          members_are = members-are place here;
          server = l.server;
          ready = l.ready;
          leads = subst (λ (k : ℕ). LeadsMost setup c3 place k l.server) who
              (leads-most setup c3 place (first place) (runs setup c2) l (sound-end place) all
              (ap (λ (k : ℕ). has_node k (members setup place)) who ∙ is-member place here) n.first n.others
              (members-are place here));
          all = subst (λ (k : ℕ). (j : ℕ) → In j (members_of (members setup place))
              → HasItsLog c3 place k l.server j) who all;
        }
