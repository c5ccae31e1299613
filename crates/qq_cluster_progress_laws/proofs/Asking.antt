-- A command reaches the leader.
use Rattle.std.proofs.Common.{◌≡◌, ◌≢◌, ℕ, Bool, true, List, [], ◌∷◌, ◌++◌, length, map, Option, Some, refl, sym, ap, ◌∙◌, subst, arith}
use Rattle.std.specs.List.{flat_map}
use Rattle.std.proofs.lemmas.Bool.{cond-true, and_parts, eqb-true}
use Rattle.std.proofs.lemmas.List.{take-append-le}
use Rattle.qq_base.proofs.Puts.{put-same, put-other}
use Rattle.qq_base.specs.declared.ids.NodeId.{NodeId}
use Rattle.qq_entry.specs.declared.command.Command.{Command}
use Rattle.qq_entry.specs.declared.command.Entry.{Entry}
use Rattle.qq_entry.specs.declared.command.Unstamped.{Unstamped}
use Rattle.qq_log.specs.declared.op.Op.{Op}
use Rattle.qq_raft_protocol.specs.Moves.{last_term}
use Rattle.qq_raft_msg.specs.declared.rpc.Rpc.{Rpc}
use Rattle.qq_raft_model.specs.Group.{Group, Seat, after_step, feed_by, group_after}
use Rattle.qq_raft_model.specs.Leading.{append_to}
use Rattle.qq_raft_model.specs.Refines.{entry_of}
use Rattle.qq_raft_model.specs.Server.{Input, submit}
use Rattle.qq_raft_model.specs.State.{Server, is_leader, term_at}
use Rattle.qq_raft_model.proofs.Adding.{is_leader_of}
use Rattle.qq_cluster_model.specs.Queue.{Queue, Submits, happens, leader, submit_to}
use Rattle.qq_session.specs.Clients.{may_hand}
use Rattle.qq_cluster_progress_laws.specs.Soon.{MayGive, command_of}
use Rattle.qq_cluster_progress_laws.proofs.Committing.{IsSending}
use Rattle.qq_cluster_progress_laws.proofs.Delivering.{Plan, talk}
use Rattle.qq_cluster_progress_laws.proofs.Exchange.{Seated}
use Rattle.qq_cluster_progress_laws.proofs.Feeding.{fed}
use Rattle.qq_cluster_progress_laws.proofs.Leader.{HasOwnCommit}
use Rattle.qq_cluster_progress_laws.proofs.Rounds.{IsSettled}
use Rattle.qq_cluster_progress_laws.proofs.Sending.{Added, CanCommit, all-noticed, begins, plan_of, sent-all, sent-once, submits-adds, with_entry}
use Rattle.qq_cluster_progress_laws.proofs.Sound.{AreHanded, IsSound}

-- ---- the command reaches the leader

-- what an event leaves that gives the leader a command
pub record Asks (q r : Queue) (k : ℕ) (s u : Server) : Type 0 where
  pub seat : r.group.seat k ≡ fed (q.group.seat k) u
  pub others : (i : ℕ) → i ≢ k → r.group.seat i ≡ q.group.seat i
  pub bag : r.group.bag ≡ q.group.bag ++ u.out
  pub args : r.args ≡ q.args
  pub synced : r.synced ≡ q.synced

pub submits-asks : (q : Queue) (session : ℕ) (given : Unstamped) (k : ℕ) (s : Server) → MayGive session given q
    → leader q.group ≡ Some k → (q.group.seat k).server ≡ Some s
    → Asks q (happens q (Submits session given)) k s (submit 0 (command_of session given q) s)
submits-asks q session given k s may leads up =
    let command = command_of session given q in
    let u = submit 0 command s in
    let is : (happens q (Submits session given)).group ≡ after_step k u q.group =
    ap (λ (l : List Command). group_after q.group (flat_map (submit_to (leader q.group)) l))
    (cond-true (may_hand (q.clients session).numbers) (command ∷ []) [] may.window)
    ∙ ap (λ (o : Option ℕ). group_after q.group (submit_to o command ++ [])) leads
    ∙ ap (λ (o : Option Server). feed_by k (Input.Submit 0 command) o q.group) up in
    record {
      seat = ap (λ (g : Group). g.seat k) is ∙ put-same k (fed (q.group.seat k) u) q.group.seat;
      others = λ i other.
          ap (λ (g : Group). g.seat i) is ∙ put-other k (fed (q.group.seat k) u) q.group.seat i other;
      bag = ap (λ (g : Group). g.bag) is;
      args = refl;
      synced = refl;
    }

-- what it sends is its entry
module _ (handed : AreHanded) (members : List NodeId) (up most : ℕ → Bool) (q : Queue) (k : ℕ) (s : Server)
    (can : CanCommit members up most q k s) (one : Queue) (command : Command) (sound : IsSound members one)
    (asks : Asks q one k s (submit 0 command s)) where
  abbrev e : Entry
  e = entry_of 0 command s

  abbrev plan : Plan
  plan = plan_of up most k s

  abbrev u : Server
  u = submit 0 command s

  abbrev first : Server
  first = record u { out = [] }

  abbrev messages : List Rpc
  messages = map (append_to (with_entry e s)) s.peers

  added : Added e s u
  added = submits-adds 0 command s can.ready

  -- the leader noticed all before it
  old : (s.noticed ≡ s.op) × (s.waiting ≡ [])
  old = all-noticed handed members q k s can.sound can.here (can.settled k can.node_up)

  settled : (j : ℕ) → j ≢ k → up j ≡ true → IsSettled j one
  settled j other j_up = (
    record {
      synced = ap (λ (f : ℕ → ℕ). f j) asks.synced ∙ (can.settled j j_up).0.synced
          ∙ ap (λ (x : Seat). length x.ops) (sym (asks.others j other));
      noticed = ap (λ (x : Seat). x.noticed) (asks.others j other) ∙ (can.settled j j_up).0.noticed
          ∙ ap (λ (x : Seat). length x.ops) (sym (asks.others j other));
    },
    λ t is. (can.settled j j_up).1 t (ap (λ (x : Seat). x.server) (sym (asks.others j other)) ∙ is),
  )

  pub own-commit : HasOwnCommit first
  own-commit =
      ap (λ (l : List Entry). term_at l u.commit) added.log
      ∙ ap (λ (c : ℕ). term_at (s.log ++ e ∷ []) c) added.commit
      ∙ ap last_term (take-append-le s.commit s.log (e ∷ []) can.within)
      ∙ eqb-true (term_at s.log s.commit) s.term.0 (and_parts (is_leader s.role) _ can.ready).1
      ∙ ap (λ x. x.0) (sym added.term)

  pub commit-is : first.commit ≡ s.commit
  commit-is = added.commit

  pub asks-sends : IsSending members plan e one first messages
  asks-sends = record {
    sound = sound;
    node_up = can.node_up;
    here = ap (λ (x : Seat). x.server) asks.seat;
    leads = added.role ∙ is_leader_of s.role (and_parts (is_leader s.role) _ can.ready).0;
    log = added.log;
    term = ap (λ x. x.0) added.term;
    own = refl;
    upto = refl;
    op = added.ops.0;
    ops = added.ops.1 ∙ ap (λ (l : List Op). l ++ added.ops.0 ∷ []) ((can.settled k can.node_up).1 s can.here);
    within = (let c = added.commit in let w = can.within in omega (arith, c, w));
    noticed = (let n = added.noticed in let o = added.op in let same = old.0 in omega (arith, n, o, same));
    waiting = added.waiting ∙ old.1;
    majority = added.peers most can.majority;
    even = record {
      synced = ap (λ (f : ℕ → ℕ). f k) asks.synced ∙ (can.settled k can.node_up).0.synced
          ∙ ap (λ (x : Seat). length x.ops) (sym asks.seat);
      noticed = ap (λ (x : Seat). x.noticed) asks.seat ∙ added.noticed ∙ (can.sound.counted k).server s can.here
          ∙ (can.settled k can.node_up).0.noticed ∙ ap (λ (x : Seat). length x.ops) (sym asks.seat);
    };
    settled = settled;
    counts_up = can.counts_up;
    bag = asks.bag ∙ ap (λ (l : List Rpc). l ++ u.out) can.bag ∙ added.out
        ∙ ap (λ (l : List Rpc). l ++ messages) (can.sound.fit.each k s can.here).out;
    sent = sent-all handed members up most q k s e can;
    once = sent-once handed members up most q k s e can;
    begins = λ j other.
        subst (Seated (talk plan e) messages [] j) (sym (asks.others j other))
        (begins handed members up most q k s e can j other);
  }
