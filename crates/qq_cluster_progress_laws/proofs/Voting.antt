-- What a new member answers a candidate.
use Rattle.std.proofs.Common.{◌≡◌, ◌≢◌, ℕ, ◌<◌, Bool, true, false, eqb, ltb, leb, ◌&&◌, ◌||◌, List, [], ◌∷◌, ◌++◌, length, take, Option, Some, None, refl, sym, ap, ◌∙◌, subst, inl, inr, arith}
use Rattle.std.specs.List.{AllByRecursion}
use Rattle.std.proofs.lemmas.Bool.{cond-true, cond-false, lt-leb, lt-ltb, le-ltb, and_from}
use Rattle.qq_base.specs.declared.ids.NodeId.{NodeId}
use Rattle.qq_entry.specs.declared.command.Entry.{Entry}
use Rattle.qq_log.specs.Same.{same_vote}
use Rattle.qq_raft_protocol.specs.Facts.{In}
use Rattle.qq_raft_msg.specs.Rpc.{envelope}
use Rattle.qq_raft_msg.specs.declared.rpc.Rpc.{Rpc}
use Rattle.qq_raft_msg.specs.declared.rpc.Rpc.TheVariants.{Vote, Voted}
use Rattle.qq_raft_msg.specs.declared.rpc.VoteMsg.{VoteMsg}
use Rattle.qq_raft_msg.specs.declared.rpc.VotedMsg.{VotedMsg}
use Rattle.qq_raft_msg.specs.declared.state.Role.TheVariants.{Follower}
use Rattle.qq_raft_model.specs.declared.peer.Waiting.{Waiting}
use Rattle.qq_raft_model.specs.Group.{Seat}
use Rattle.qq_raft_model.specs.Server.{accept, give_vote, is_current, is_free, may_grant, receive, receive_vote, refuse, say_voted, voted}
use Rattle.qq_raft_model.specs.State.{Server, change, enter, follow, is_later, last, leader_in, say, say_all, vote_in, wait}
use Rattle.qq_cluster_progress_laws.proofs.Exchange.{Goes, Replies, Talk, same_some}
use Rattle.qq_cluster_progress_laws.proofs.Feeding.{fed}
use Rattle.qq_cluster_progress_laws.proofs.Member.{rpcs_of}

-- a server that nothing has happened to since it began with a new log
pub record IsNew (s : Server) : Type 0 where
  pub op : s.op ≡ 0
  pub term : s.term.0 ≡ 0
  pub vote : s.vote ≡ None
  pub log : s.log ≡ []
  pub noticed : s.noticed ≡ 0
  pub role : s.role ≡ Follower
  pub commit : s.commit ≡ 0
  pub waiting : s.waiting ≡ []
  pub ops : s.ops ≡ []

-- Who asks for votes, in which term, which members there are and which nodes are up
pub record Ballot : Type 0 where
  pub node : ℕ
  pub most : ℕ → Bool
  pub up : ℕ → Bool

-- a candidate of the first term asks another member for its vote
pub record IsAsk (b : Ballot) (r : Rpc) : Type 0 where
  pub msg : VoteMsg
  pub is : r ≡ Vote msg
  pub term : msg.term.0 ≡ 1
  pub from : msg.from.0 ≡ b.node
  pub other : msg.to.0 ≢ b.node
  pub index : msg.last_index.0 ≡ 0
  pub last : msg.last_term.0 ≡ 0

-- and is given it
pub record IsVote (b : Ballot) (r : Rpc) : Type 0 where
  pub msg : VotedMsg
  pub is : r ≡ Voted msg
  pub term : msg.term.0 ≡ 1
  pub to : msg.to.0 ≡ b.node
  pub granted : msg.granted ≡ true

pub record IsBlank (b : Ballot) (j : ℕ) (seat : Seat) : Type 0 where
  pub new : (t : Server) → seat.server ≡ Some t → IsNew t
  pub there : b.most j ≡ true → (t : Server) × (seat.server ≡ Some t)

-- it has voted in the first term, and has no entry
abbrev pub HasVoted : Server → Type 0
HasVoted t = (t.term.0 ≡ 1) × (t.log ≡ [])

abbrev pub ballot_talk : Ballot → Talk
ballot_talk b =
    record {
      node = b.node;
      most = b.most;
      up = b.up;
      Sent = IsAsk b;
      Reply = IsVote b;
      Fresh = IsBlank b;
      Since = HasVoted;
    }

-- ---- a vote

-- what gives the vote and says so
given : VoteMsg → Server → Server
given m t = say_voted m true (follow (leader_in m.term t) (change m.term (Some m.from) (last t) [] t))

-- a new server gives its vote to who asks
gives : (m : VoteMsg) (t : Server) → IsNew t → m.term.0 ≡ 1 → m.last_index.0 ≡ 0 → m.last_term.0 ≡ 0
    → receive (Vote m) t ≡ given m t
unfolding receive accept refuse receive_vote give_vote given
gives m t new term index lastt =
    cond-false (ltb m.term.0 t.term.0) (say (voted m.from false t) t) (receive_vote m t)
    (le-ltb m.term.0 t.term.0 (let z = new.term in omega (arith, z, term)))
    ∙ cond-true (may_grant m t) (say_voted m true (give_vote m t)) (say_voted m false (enter m.term t)) may
    ∙ ap (say_voted m true)
    (cond-false (same_vote (vote_in m.term t) (Some m.from)) t
    (follow (leader_in m.term t) (change m.term (Some m.from) (last t) [] t))
    (ap (λ (v : Option NodeId). same_vote v (Some m.from)) none))
  where
    later : is_later m.term t ≡ true
    later = lt-ltb t.term.0 m.term.0 (let z = new.term in omega (arith, z, term))

    none : vote_in m.term t ≡ None
    none = cond-true (is_later m.term t) None t.vote later

    may : may_grant m t ≡ true
    may =
        and_from (is_free (vote_in m.term t) m.from) (is_current t.log m)
        (ap (λ (v : Option NodeId). is_free v m.from) none)
        (ap (λ l. is_current l m) new.log
        ∙ ap (λ (n : ℕ). ltb 0 n || (eqb 0 n && leb 0 m.last_index.0)) lastt
        ∙ ap (λ (n : ℕ). leb 0 n) index)

-- what it has made of that
record Gave (m : VoteMsg) (t u : Server) : Type 0 where
  role : u.role ≡ Follower
  since : HasVoted u
  reply : VotedMsg
  from : reply.from ≡ t.node
  to : reply.to ≡ m.from
  term : reply.term.0 ≡ m.term.0
  granted : reply.granted ≡ true
  out : u.out ≡ t.out
  waiting : u.waiting ≡ t.waiting ++ wait u.op (Voted reply) ∷ []
  later : u.noticed < u.op

gave : (m : VoteMsg) (t : Server) → IsNew t → m.term.0 ≡ 1 → Gave m t (given m t)
unfolding given say_all change
gave m t new first =
    subst (Gave m t)
    (sym (cond-false (leb v.op v.noticed) (record v { out = v.out ++ r ∷ [] })
    (record v { waiting = v.waiting ++ wait v.op r ∷ [] }) busy))
    (record {
      role = refl;
      since = (first, ap (λ (l : List Entry). take (length l) l ++ []) new.log);
      reply = record { from = t.node; to = m.from; term = m.term; granted = true };
      from = refl;
      to = refl;
      term = refl;
      granted = refl;
      out = refl;
      waiting = refl;
      later = (let a = new.op in let b = new.noticed in omega (arith, a, b));
    })
  where
    v : Server
    v = follow (leader_in m.term t) (change m.term (Some m.from) (last t) [] t)

    r : Rpc
    r = Voted (record { from = t.node; to = m.from; term = m.term; granted = true })

    busy : leb v.op v.noticed ≡ false
    busy = lt-leb v.op v.noticed (let a = new.op in let b = new.noticed in omega (arith, a, b))

-- it answers once
vote-replies : (b : Ballot) (rs : List Rpc) (j : ℕ) (seat : Seat) (t : Server) (m : VoteMsg) → IsNew t
    → seat.server ≡ Some t → t.node.0 ≡ j → t.out ≡ [] → m.term.0 ≡ 1 → m.from.0 ≡ b.node → m.last_index.0 ≡ 0
    → m.last_term.0 ≡ 0 → Replies (ballot_talk b) rs j (fed seat (receive (Vote m) t)) (receive (Vote m) t).out
vote-replies b rs j seat t m new up node none term from index lastt =
    subst (λ (u : Server). Replies (ballot_talk b) rs j (fed seat u) u.out) (sym (gives m t new term index lastt))
    (record {
      out_are = subst (AllByRecursion (IsVote b)) (sym out) tt;
      heard = record {
        follows = λ v is. ap (λ (x : Server). x.role) (sym (is_u v is)) ∙ g.role;
        since = λ v is. subst HasVoted (is_u v is) g.since;
        alive = λ counts. (record u { out = [] }, refl);
        waiting = λ v is node_up.
            subst (λ (l : List Waiting). AllByRecursion (IsVote b) (rpcs_of l))
            (sym (ap (λ (x : Server). x.waiting) (sym (is_u v is)) ∙ waits)) (reply, tt);
        answered = λ counts. inr (record {
          server = record u { out = [] };
          is = refl;
          reply = record {
            msg = Voted g.reply;
            here = subst (λ (l : List Waiting). In (Voted g.reply) (rpcs_of l)) (sym waits) (inl refl);
            from = ap (λ (n : NodeId). n.0) g.from ∙ node;
          };
          later = g.later;
        });
      };
    })
  where
    u : Server
    u = given m t

    g : Gave m t u
    g = gave m t new term

    out : u.out ≡ []
    out = g.out ∙ none

    waits : u.waiting ≡ wait u.op (Voted g.reply) ∷ []
    waits = g.waiting ∙ ap (λ (l : List Waiting). l ++ wait u.op (Voted g.reply) ∷ []) new.waiting

    reply : IsVote b (Voted g.reply)
    reply = record {
      msg = g.reply;
      is = refl;
      term = g.term ∙ term;
      to = ap (λ (n : NodeId). n.0) g.to ∙ from;
      granted = g.granted;
    }

    is_u : (v : Server) → (fed seat u).server ≡ Some v → record u { out = [] } ≡ v
    is_u v is = same_some (record u { out = [] }) v is

pub votes-go : (b : Ballot) → Goes (ballot_talk b)
votes-go b = record {
  other = λ r sent same. sent.other (ap (λ (x : Rpc). (envelope x).to.0) (sym sent.is) ∙ same);
  there = λ j seat blank counts. blank.there counts;
  answers = λ rs j seat t r sent to up node none blank.
      subst (λ (x : Rpc). Replies (ballot_talk b) rs j (fed seat (receive x t)) (receive x t).out) (sym sent.is)
      (vote-replies b rs j seat t sent.msg (blank.new t up) up node none sent.term sent.from sent.index sent.last);
  keeps = λ t n is. is;
}
