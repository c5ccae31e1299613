-- A queue counts what its leader has applied.
use Rattle.std.proofs.Common.{◌≡◌, ℕ, Bool, true, false, List, [], ◌∷◌, Option, Some, None, cond, fold, refl, ap, ◌∙◌, subst, take}
use Rattle.std.specs.Prelude.{is_some, nat_lt}
use Rattle.std.specs.Option.{option_map}
use Rattle.qq_base.specs.declared.ids.NodeId.{NodeId}
use Rattle.qq_entry.specs.declared.command.Entry.{Entry}
use Rattle.qq_model.specs.Audit.{state_after}
use Rattle.qq_model.specs.State.{empty_queue}
use Rattle.qq_raft_model.specs.Group.{Group}
use Rattle.qq_raft_model.specs.Server.{is_ready}
use Rattle.qq_raft_model.specs.State.{Server}
use Rattle.qq_cluster_model.specs.Counts.{counts, counts_by, counts_of}
use Rattle.qq_cluster_model.specs.Queue.{Leading, Queue, later, latest, leader, leading, node_of, server_of}

counted : (q : Queue) (k : ℕ) (s : Server) → leader q.group ≡ Some k → (q.group.seat k).server ≡ Some s
    → counts q ≡ Some (counts_by q.args s)
counted q k s led is =
    ap (λ (o : Option ℕ). option_map (counts_by q.args) (server_of o q.group)) led
    ∙ ap (option_map (counts_by q.args)) is

pub counts-whole : (q : Queue) (k : ℕ) (s : Server) → leader q.group ≡ Some k → (q.group.seat k).server ≡ Some s
    → take s.commit s.log ≡ q.group.audit
    → counts q ≡ Some (counts_of (state_after (empty_queue q.args) q.group.audit))
counts-whole q k s led is whole =
    counted q k s led is
    ∙ ap (λ (entries : List Entry). Some (counts_of (state_after (empty_queue q.args) entries))) whole

pub counts-none : (q : Queue) → leader q.group ≡ None → counts q ≡ None
counts-none q none = ap (λ (o : Option ℕ). option_map (counts_by q.args) (server_of o q.group)) none

-- ---- a leader is up

-- the member that leads is up
abbrev IsUpAt : Group → Option Leading → Type 0
IsUpAt g None = Unit {0}
IsUpAt g (Some l) = is_some (g.seat l.node).server ≡ true

module _ (g : Group) where
  leading-up : (k : ℕ) → IsUpAt g (leading k (g.seat k).server)
  leading-up k = by (g.seat k).server refl
    where
      by : (o : Option Server) → (g.seat k).server ≡ o → IsUpAt g (leading k o)
      by None is = tt
      by (Some s) is = ready (is_ready s)
        where
          ready : (b : Bool) → IsUpAt g (cond b (Some (record { node = k; term = s.term.0 })) None)
          ready true = ap is_some is
          ready false = tt

  later-up : (best next : Option Leading) → IsUpAt g best → IsUpAt g next → IsUpAt g (later best next)
  later-up best None up next_up = up
  later-up None (Some next) up next_up = next_up
  later-up (Some best) (Some next) up next_up = by (nat_lt best.term next.term)
    where
      by : (b : Bool) → IsUpAt g (cond b (Some next) (Some best))
      by true = next_up
      by false = up

  all-up : (nodes : List NodeId) (best : Option Leading) → IsUpAt g best
      → IsUpAt g (fold (λ (b : Option Leading) (n : NodeId). later b (leading n.0 (g.seat n.0).server)) best nodes)
  all-up [] best up = up
  all-up (n ∷ nodes) best up =
      all-up nodes (later best (leading n.0 (g.seat n.0).server))
      (later-up best (leading n.0 (g.seat n.0).server) up (leading-up n.0))

  leads-up : (o : Option Leading) (k : ℕ) → IsUpAt g o → node_of o ≡ Some k → is_some (g.seat k).server ≡ true
  leads-up None k up is = absurd cc
  leads-up (Some l) k up is =
      let same : l.node ≡ k = cc in
      subst (λ (n : ℕ). is_some (g.seat n).server ≡ true) same up

pub counts-some : (q : Queue) (k : ℕ) → leader q.group ≡ Some k → is_some (counts q) ≡ true
counts-some q k led =
    by (q.group.seat k).server refl
    (leads-up q.group (latest q.group.nodes q.group) k (all-up q.group q.group.nodes None tt) led)
  where
    by : (o : Option Server) → (q.group.seat k).server ≡ o → is_some o ≡ true → is_some (counts q) ≡ true
    by None is up = absurd cc
    by (Some s) is up = ap is_some (counted q k s led is)
