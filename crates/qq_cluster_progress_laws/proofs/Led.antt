-- A queue whose first member leads quietly: that is its leader, it stays so, and a pump finds nothing to do.
use Rattle.std.proofs.Common.{◌≡◌, ◌≢◌, ◌⊎◌, ℕ, Bool, true, ◌&&◌, ◌||◌, List, [], ◌∷◌, length, fold, Option, Some, None, refl, sym, ap, ◌∙◌, subst, inl, inr, arith}
use Rattle.std.specs.Prelude.{nat_eq, nat_lt, replicate}
use Rattle.std.specs.List.{list_all}
use Rattle.std.proofs.lemmas.Bool.{and_from, cond-true, cond-false, cond_both, cases_eq, eq-eqb, false≢true, le-ltb, ne_eqb}
use Rattle.qq_base.specs.declared.ids.NodeId.{NodeId}
use Rattle.qq_raft_protocol.specs.Facts.{In}
use Rattle.qq_raft_msg.specs.declared.rpc.Rpc.{Rpc}
use Rattle.qq_raft_msg.specs.declared.state.Role.{Role}
use Rattle.qq_raft_msg.specs.declared.state.Role.TheVariants.{Follower}
use Rattle.qq_raft_model.specs.Group.{Group, has_node}
use Rattle.qq_raft_model.specs.Server.{is_ready}
use Rattle.qq_raft_model.specs.State.{Server, is_leader, term_at}
use Rattle.qq_cluster_model.specs.Cluster.{Cluster, Setup, members}
use Rattle.qq_cluster_model.specs.Queue.{Queue, Leading, Delivers, after, later, leader, leading, node_of, waiting, waiting_by}
use Rattle.qq_cluster_model.specs.Rules.{is_idle, is_quiet, is_quiet_at, is_settled}
use Rattle.qq_cluster_model.proofs.Groups.{after-append}
use Rattle.qq_cluster_progress_laws.specs.Alone.{round_alone, turns}
use Rattle.qq_cluster_progress_laws.proofs.Committing.{IsLedQuietly}
use Rattle.qq_cluster_progress_laws.proofs.Rounds.{IsSettled, settled-rests, turns-rest}
use Rattle.qq_cluster_progress_laws.proofs.Soon.{runs, runs-from}
use Rattle.qq_cluster_progress_laws.proofs.Turns.{Rests}

-- ---- the leader

abbrev step : Group → Option Leading → NodeId → Option Leading
step g best n = later best (leading n.0 (g.seat n.0).server)

module _ (g : Group) (k : ℕ) (s : Server) (here : (g.seat k).server ≡ Some s) (ready : is_ready s ≡ true)
    (others : (j : ℕ) → j ≢ k → (t : Server) → (g.seat j).server ≡ Some t → t.role ≡ Follower) where
  abbrev best : Leading
  best = record { node = k; term = s.term.0 }

  own : leading k (g.seat k).server ≡ Some best
  own = ap (leading k) here ∙ cond-true (is_ready s) (Some best) None ready

  none : (j : ℕ) → j ≢ k → leading j (g.seat j).server ≡ None
  none j other = by (g.seat j).server refl
    where
      by : (o : Option Server) → (g.seat j).server ≡ o → leading j o ≡ None
      by None is = refl
      by (Some t) is =
          cond-false (is_ready t) (Some (record { node = j; term = t.term.0 })) None
          (ap (λ (r : Role). is_leader r && nat_eq (term_at t.log t.commit) t.term.0) (others j other t is))

  stays : (n : NodeId) → step g (Some best) n ≡ Some best
  stays n = elim (cases_eq n.0 k) [
    | inl same ↦ ap (λ (i : ℕ). later (Some best) (leading i (g.seat i).server)) same ∙ ap (later (Some best)) own
        ∙ cond-false (nat_lt s.term.0 s.term.0) (Some best) (Some best) (le-ltb s.term.0 s.term.0 (omega arith))
    | inr other ↦ ap (later (Some best)) (none n.0 other)
  ]

  all-stay : (nodes : List NodeId) → fold (step g) (Some best) nodes ≡ Some best
  all-stay [] = refl
  all-stay (n ∷ nodes) = ap (λ (o : Option Leading). fold (step g) o nodes) (stays n) ∙ all-stay nodes

  finds : (nodes : List NodeId) → has_node k nodes ≡ true → fold (step g) None nodes ≡ Some best
  finds [] is = absurd (false≢true is)
  finds (n ∷ nodes) is = by (cases_eq n.0 k) (λ more. finds nodes more)
    where
      by : ((n.0 ≡ k) ⊎ (n.0 ≢ k)) → (has_node k nodes ≡ true → fold (step g) None nodes ≡ Some best)
          → fold (step g) None (n ∷ nodes) ≡ Some best
      by (inl same) rest =
          ap (λ (o : Option Leading). fold (step g) (later None o) nodes)
          (ap (λ (i : ℕ). leading i (g.seat i).server) same ∙ own)
          ∙ all-stay nodes
      by (inr other) rest =
          ap (λ (o : Option Leading). fold (step g) (later None o) nodes) (none n.0 other)
          ∙ rest (sym (ap (λ (b : Bool). b || has_node k nodes) (ne_eqb n.0 k other)) ∙ is)

  pub is-leader : has_node k g.nodes ≡ true → leader g ≡ Some k
  is-leader member = ap node_of (finds g.nodes member)

-- ---- it stays so

pub quiet-stays : (members : List NodeId) (up : ℕ → Bool) (nodes : List ℕ) (k : ℕ) (q : Queue)
    → IsLedQuietly members up k q → IsLedQuietly members up k (after q (round_alone up nodes q))
quiet-stays members up nodes k q led =
    subst (IsLedQuietly members up k) (sym ends) (record {
      bag = bag;
      settled = λ j j_up. settled-rests q r j rests (led.settled j j_up);
      server = led.server;
      here = ap (λ (g : Group). (g.seat k).server) rests.group ∙ led.here;
      ready = led.ready;
      others = λ j other t is. led.others j other t (ap (λ (g : Group). (g.seat j).server) (sym rests.group) ∙ is);
      terms = λ j other t is. led.terms j other t (ap (λ (g : Group). (g.seat j).server) (sym rests.group) ∙ is);
      logs = λ j other is. (let l = led.logs j other is in
          (l.0, ap (λ (g : Group). (g.seat j).server) rests.group ∙ l.1, l.2));
      next = led.next;
    })
  where
    r : Queue
    r = after q (turns up nodes q)

    rests : Rests q r
    rests = turns-rest up nodes q (λ j there j_up. led.settled j j_up)

    bag : r.group.bag ≡ []
    bag = ap (λ (g : Group). g.bag) rests.group ∙ led.bag

    ends : after q (round_alone up nodes q) ≡ r
    ends =
        after-append q (turns up nodes q) (replicate (length r.group.bag) (Delivers 0))
        ∙ ap (λ (l : List Rpc). after r (replicate (length l) (Delivers 0))) bag

-- ---- nothing is left to do

pub all-from : (test : ℕ → Bool) (xs : List ℕ) → ((x : ℕ) → In x xs → test x ≡ true) → list_all test xs ≡ true
all-from test [] each = refl
all-from test (x ∷ xs) each =
    and_from (test x) (list_all test xs) (each x (inl refl)) (all-from test xs (λ y here. each y (inr here)))

settled-is : (j : ℕ) (q : Queue) → IsSettled j q → is_settled j q ≡ true
settled-is j q settled =
    and_from (nat_eq (waiting j q.group) 0) (nat_eq (q.group.seat j).noticed (length (q.group.seat j).ops))
    (eq-eqb (waiting j q.group) 0 (by (q.group.seat j).server refl))
    (eq-eqb (q.group.seat j).noticed (length (q.group.seat j).ops) settled.0.noticed)
  where
    by : (o : Option Server) → (q.group.seat j).server ≡ o → waiting_by o ≡ 0
    by None is = refl
    by (Some s) is = ap length (settled.1 s is)

quiet-is : (setup : Setup) (up : ℕ → Bool) (q : Queue) → q.group.bag ≡ []
    → ((j : ℕ) → In j setup.nodes → up j ≡ true → IsSettled j q) → is_quiet setup up q ≡ true
quiet-is setup up q none each =
    and_from (nat_eq (length q.group.bag) 0) (list_all (is_quiet_at q up) setup.nodes)
    (eq-eqb (length q.group.bag) 0 (ap length none))
    (all-from (is_quiet_at q up) setup.nodes (λ j here.
    cond_both (up j) (is_settled j q) true (λ (b : Bool). b ≡ true) (λ on. settled-is j q (each j here on)) (λ _. refl)))

-- where each queue is led quietly
pub idle-is : (setup : Setup) (c d : Cluster) (first : ℕ → ℕ) → d.up ≡ c.up
    → ((place : ℕ) → In place setup.places
    → IsLedQuietly (members setup place) (runs setup c) (first place) (d.queue place)) → is_idle setup d ≡ true
idle-is setup c d first same each =
    all-from (λ (place : ℕ). is_quiet setup d.up (d.queue place)) setup.places (λ place here.
    let led = each place here in
    quiet-is setup d.up (d.queue place) led.bag (λ j node j_up.
    led.settled j (runs-from setup c j (ap (λ (f : ℕ → Bool). f j) (sym same) ∙ j_up) node)))
