-- A queue over new logs, whose first member stands for election.
use Rattle.std.proofs.Common.{◌≡◌, ℕ, ◌+◌, leb, List, [], ◌∷◌, ◌++◌, length, map, take, Option, Some, refl, sym, ap, ◌∙◌, subst, arith}
use Rattle.std.proofs.lemmas.Bool.{cond-false, lt-leb}
use Rattle.qq_base.proofs.Puts.{put-same, put-other}
use Rattle.qq_entry.specs.declared.command.Entry.{Entry}
use Rattle.qq_log.specs.declared.op.Op.{Op}
use Rattle.qq_log.specs.declared.op.Op.TheVariants.{Change}
use Rattle.qq_raft_msg.specs.declared.rpc.Rpc.{Rpc}
use Rattle.qq_raft_msg.specs.declared.state.Role.TheVariants.{Candidate}
use Rattle.qq_raft_model.specs.declared.peer.Waiting.{Waiting}
use Rattle.qq_raft_model.specs.Group.{Group, after_step, feed_by}
use Rattle.qq_raft_model.specs.Leading.{ask, become_candidate, clear_vote, everyone, send, stand}
use Rattle.qq_raft_model.specs.Server.{Input, send_again, tick}
use Rattle.qq_raft_model.specs.State.{Server, change, is_leader, last, say_all, wait}
use Rattle.qq_cluster_model.specs.Queue.{Queue, Ticks, happens}
use Rattle.qq_cluster_progress_laws.proofs.Asking.{Asks}
use Rattle.qq_cluster_progress_laws.proofs.Feeding.{fed}
use Rattle.qq_cluster_progress_laws.proofs.Voting.{IsNew}

-- ---- a tick

pub ticks-asks : (q : Queue) (k : ℕ) (s : Server) → (q.group.seat k).server ≡ Some s
    → Asks q (happens q (Ticks k)) k s (tick s)
ticks-asks q k s up =
    let u = tick s in
    let is : (happens q (Ticks k)).group ≡ after_step k u q.group =
    ap (λ (o : Option Server). feed_by k Input.Tick o q.group) up in
    record {
      seat = ap (λ (g : Group). g.seat k) is ∙ put-same k (fed (q.group.seat k) u) q.group.seat;
      others = λ i other.
          ap (λ (g : Group). g.seat i) is ∙ put-other k (fed (q.group.seat k) u) q.group.seat i other;
      bag = ap (λ (g : Group). g.bag) is;
      args = refl;
      synced = refl;
    }

-- what it asks for
abbrev pub asked : Server → List Rpc
asked s = let c = become_candidate s in map (ask c) c.peers

-- a new server stands for the first term
pub record Stands (s u : Server) : Type 0 where
  pub role : u.role ≡ Candidate
  pub term : u.term.0 ≡ 1
  pub op : u.op ≡ 1
  pub noticed : u.noticed ≡ 0
  pub log : u.log ≡ []
  pub commit : u.commit ≡ 0
  pub change : Op
  pub ops : u.ops ≡ change ∷ []
  pub out : u.out ≡ s.out
  pub waiting : u.waiting ≡ map (wait 1) (asked s)
  pub node : u.node ≡ s.node
  pub peers : u.peers ≡ map clear_vote s.peers

pub tick-stands : (s : Server) → IsNew s → Stands s (tick s)
unfolding tick stand say_all change
tick-stands s new =
    subst (Stands s) (sym is) (record {
      role = refl;
      term = ap (λ (n : ℕ). n + 1) new.term;
      op = ap (λ (n : ℕ). n + 1) new.op;
      noticed = new.noticed;
      log = ap (λ (l : List Entry). take (length l) l ++ []) new.log;
      commit = new.commit;
      change = Change s.queue (s.op + 1) (record { 0 = s.term.0 + 1 }) (Some s.node) (record { 0 = last s }) [];
      ops = ap (λ (l : List Op). l ++ Change s.queue (s.op + 1) (record { 0 = s.term.0 + 1 }) (Some s.node)
          (record { 0 = last s }) [] ∷ []) new.ops;
      out = refl;
      waiting = ap (λ (l : List Waiting). l ++ map (wait (s.op + 1)) (asked s)) new.waiting
          ∙ ap (λ (n : ℕ). map (wait (n + 1)) (asked s)) new.op;
      node = refl;
      peers = refl;
    })
  where
    c : Server
    c = become_candidate s

    is : tick s ≡ record c { waiting = c.waiting ++ map (wait c.op) (asked s) }
    is =
        cond-false (is_leader s.role) (send everyone (record s { peers = map send_again s.peers })) (stand s)
        (ap is_leader new.role)
        ∙ cond-false (leb c.op c.noticed) (record c { out = c.out ++ asked s })
        (record c { waiting = c.waiting ++ map (wait c.op) (asked s) })
        (lt-leb c.op c.noticed (let n = new.noticed in let o = new.op in omega (arith, n, o)))
