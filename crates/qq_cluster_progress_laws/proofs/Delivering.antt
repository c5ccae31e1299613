-- A leader's entries come to the other members, and each answers once.
use Rattle.std.proofs.Common.{◌≡◌, ◌≢◌, ◌⊎◌, ℕ, ◌≤◌, ◌<◌, Bool, true, List, [], ◌∷◌, ◌++◌, length, Some, refl, sym, ap, ◌∙◌, subst, inl, inr, arith}
use Rattle.std.specs.List.{AllByRecursion}
use Rattle.qq_base.specs.declared.ids.NodeId.{NodeId}
use Rattle.qq_entry.specs.declared.command.Entry.{Entry}
use Rattle.qq_raft_protocol.proofs.Lists.{In-right}
use Rattle.qq_raft_msg.specs.Rpc.{envelope}
use Rattle.qq_raft_msg.specs.declared.rpc.AppendMsg.{AppendMsg}
use Rattle.qq_raft_msg.specs.declared.rpc.AppendedMsg.{AppendedMsg}
use Rattle.qq_raft_msg.specs.declared.rpc.Rpc.{Rpc}
use Rattle.qq_raft_msg.specs.declared.rpc.Rpc.TheVariants.{Append, Appended}
use Rattle.qq_raft_model.specs.declared.peer.Waiting.{Waiting}
use Rattle.qq_raft_model.specs.Group.{Seat}
use Rattle.qq_raft_model.specs.Server.{end, is_match, receive}
use Rattle.qq_raft_model.specs.State.{Server, wait}
use Rattle.qq_cluster_progress_laws.proofs.Exchange.{Goes, Replied, Replies, Talk, same_some}
use Rattle.qq_cluster_progress_laws.proofs.Feeding.{fed}
use Rattle.qq_cluster_progress_laws.proofs.Member.{Answers, append-answers, rpcs_of}

-- ---- what is said of an entry

-- A leader and its term, the index of the entry, the log before it of the members that count, which nodes are up, and which
-- members it may send to
pub record Plan : Type 0 where
  pub node : ℕ
  pub term : ℕ
  pub upto : ℕ
  pub log : List Entry
  pub most : ℕ → Bool
  pub up : ℕ → Bool
  pub asked : ℕ → Bool

-- the leader's message to another member; to one that counts it brings the entry behind the log
pub record IsSent (p : Plan) (e : Entry) (r : Rpc) : Type 0 where
  pub msg : AppendMsg
  pub is : r ≡ Append msg
  pub term : msg.term.0 ≡ p.term
  pub from : msg.from.0 ≡ p.node
  pub other : msg.to.0 ≢ p.node
  pub known : p.asked msg.to.0 ≡ true
  pub good : p.most msg.to.0 ≡ true → (is_match msg p.log ≡ true) × (end msg ≡ p.upto)
  pub brings : p.most msg.to.0 ≡ true → (msg.prev_index.0 ≡ length p.log) × (msg.entries ≡ e ∷ [])

-- an answer to it; one that counts has the entry
pub record IsReply (p : Plan) (r : Rpc) : Type 0 where
  pub msg : AppendedMsg
  pub is : r ≡ Appended msg
  pub term : msg.term.0 ≡ p.term
  pub to : msg.to.0 ≡ p.node
  pub known : p.asked msg.from.0 ≡ true
  pub good : p.most msg.from.0 ≡ true → (msg.ok ≡ true) × (msg.index.0 ≡ p.upto)

-- it hasn't heard of the entry
pub record IsFresh (p : Plan) (j : ℕ) (seat : Seat) : Type 0 where
  pub term : (t : Server) → seat.server ≡ Some t → t.term.0 ≤ p.term
  pub waiting : (t : Server) → seat.server ≡ Some t → p.up j ≡ true → t.waiting ≡ []
  pub log : (t : Server) → seat.server ≡ Some t → p.most j ≡ true → t.log ≡ p.log
  pub there : p.most j ≡ true → (t : Server) × (seat.server ≡ Some t)

-- it is in the leader's term, and if it counts it has the leader's log
pub record HasEntry (p : Plan) (e : Entry) (t : Server) : Type 0 where
  pub term : t.term.0 ≡ p.term
  pub log : p.most t.node.0 ≡ true → t.log ≡ p.log ++ e ∷ []

-- the talk of it
abbrev pub talk : Plan → Entry → Talk
talk p e =
    record {
      node = p.node;
      most = p.most;
      up = p.up;
      Sent = IsSent p e;
      Reply = IsReply p;
      Fresh = IsFresh p;
      Since = HasEntry p e;
    }

-- ---- one message

rpcs-more : (ws : List Waiting) (op : ℕ) (r : Rpc) → rpcs_of (ws ++ wait op r ∷ []) ≡ rpcs_of ws ++ r ∷ []
rpcs-more [] op r = refl
rpcs-more (w ∷ ws) op r = ap (λ (l : List Rpc). w.rpc ∷ l) (rpcs-more ws op r)

replies : (p : Plan) (e : Entry) (rs : List Rpc) (j : ℕ) (seat : Seat) (t : Server) (m : AppendMsg) → m.to.0 ≡ j
    → seat.server ≡ Some t → t.node.0 ≡ j → t.out ≡ [] → IsFresh p j seat → m.term.0 ≡ p.term → m.from.0 ≡ p.node
    → p.asked m.to.0 ≡ true → (p.most m.to.0 ≡ true → (is_match m p.log ≡ true) × (end m ≡ p.upto))
    → (p.most m.to.0 ≡ true → (m.prev_index.0 ≡ length p.log) × (m.entries ≡ e ∷ []))
    → Replies (talk p e) rs j (fed seat (receive (Append m) t)) (receive (Append m) t).out
replies p e rs j seat t m to up node none fresh term from known good brings = by a.says
  where
    le : t.term.0 ≤ m.term.0
    le = let early = fresh.term t up in omega (arith, early, term)

    a : Answers m t (receive (Append m) t)
    a = append-answers m t le

    u : Server
    u = receive (Append m) t

    reply : IsReply p (Appended a.reply)
    reply = record {
      msg = a.reply;
      is = refl;
      term = a.term_is ∙ term;
      to = ap (λ (n : NodeId). n.0) a.to ∙ from;
      known = ap p.asked (ap (λ (n : NodeId). n.0) a.from ∙ node ∙ sym to) ∙ known;
      good = λ counts.
          let at : p.most j ≡ true = subst (λ (n : ℕ). p.most n ≡ true) (ap (λ (n : NodeId). n.0) a.from ∙ node) counts in
          let g = good (ap p.most to ∙ at) in
          let same : is_match m t.log ≡ true = ap (is_match m) (fresh.log t up at) ∙ g.0 in
          let ok = a.good same in
          let reaches = g.1 in
          let index = ok.1 in
          (ok.0, index ∙ reaches);
    }

    own : (rest : List Rpc) → Replied j (rest ++ Appended a.reply ∷ [])
    own rest = record {
      msg = Appended a.reply;
      here = In-right (Appended a.reply) rest (Appended a.reply ∷ []) (inl refl);
      from = ap (λ (n : NodeId). n.0) a.from ∙ node;
    }

    held : HasEntry p e u
    held = record {
      term = a.term ∙ term;
      log = λ counts.
          let at : p.most j ≡ true = subst (λ (n : ℕ). p.most n ≡ true) (ap (λ (n : NodeId). n.0) a.node ∙ node) counts in
          let old = fresh.log t up at in
          let b = brings (ap p.most to ∙ at) in
          a.takes e (ap (is_match m) old ∙ (good (ap p.most to ∙ at)).0) (b.0 ∙ ap length (sym old)) b.1
          ∙ ap (λ (l : List Entry). l ++ e ∷ []) old;
    }

    since : (v : Server) → (fed seat u).server ≡ Some v → HasEntry p e v
    since v is =
        subst (HasEntry p e) (same_some (record u { out = [] }) v is) (record { term = held.term; log = held.log })

    is_u : (v : Server) → (fed seat u).server ≡ Some v → record u { out = [] } ≡ v
    is_u v is = same_some (record u { out = [] }) v is

    by : (((u.out ≡ t.out ++ Appended a.reply ∷ []) × (u.waiting ≡ t.waiting))
        ⊎ ((u.noticed < u.op) × (u.out ≡ t.out) × (u.waiting ≡ t.waiting ++ wait u.op (Appended a.reply) ∷ [])))
        → Replies (talk p e) rs j (fed seat u) u.out
    by (inl now) =
        let out : u.out ≡ Appended a.reply ∷ [] = now.0 ∙ ap (λ (l : List Rpc). l ++ Appended a.reply ∷ []) none in
        record {
          out_are = subst (AllByRecursion (IsReply p)) (sym out) (reply, tt);
          heard = record {
            follows = λ v is. ap (λ (x : Server). x.role) (sym (is_u v is)) ∙ a.role;
            since = since;
            alive = λ counts. (record u { out = [] }, refl);
            waiting = λ v is node_up.
                subst (λ (l : List Waiting). AllByRecursion (IsReply p) (rpcs_of l))
                (sym (ap (λ (x : Server). x.waiting) (sym (is_u v is)) ∙ now.1 ∙ fresh.waiting t up node_up)) tt;
            answered = λ counts. inl (subst (λ (l : List Rpc). Replied j (rs ++ l)) (sym out) (own rs));
          };
        }
    by (inr later) =
        let out : u.out ≡ [] = later.1 ∙ none in
        record {
          out_are = subst (AllByRecursion (IsReply p)) (sym out) tt;
          heard = record {
            follows = λ v is. ap (λ (x : Server). x.role) (sym (is_u v is)) ∙ a.role;
            since = since;
            alive = λ counts. (record u { out = [] }, refl);
            waiting = λ v is node_up.
                subst (λ (l : List Waiting). AllByRecursion (IsReply p) (rpcs_of l))
                (sym (ap (λ (x : Server). x.waiting) (sym (is_u v is)) ∙ later.2
                ∙ ap (λ (l : List Waiting). l ++ wait u.op (Appended a.reply) ∷ []) (fresh.waiting t up node_up)))
                (reply, tt);
            answered = λ counts. inr (record {
              server = record u { out = [] };
              is = refl;
              reply = subst (Replied j)
                  (sym (ap rpcs_of later.2 ∙ rpcs-more t.waiting u.op (Appended a.reply))) (own (rpcs_of t.waiting));
              later = later.0;
            });
          };
        }

pub entries-go : (p : Plan) (e : Entry) → Goes (talk p e)
entries-go p e = record {
  other = λ r sent same. sent.other (ap (λ (x : Rpc). (envelope x).to.0) (sym sent.is) ∙ same);
  there = λ j seat fresh counts. fresh.there counts;
  answers = λ rs j seat t r sent to up node none fresh.
      subst (λ (x : Rpc). Replies (talk p e) rs j (fed seat (receive x t)) (receive x t).out) (sym sent.is)
      (replies p e rs j seat t sent.msg (ap (λ (x : Rpc). (envelope x).to.0) (sym sent.is) ∙ to) up node none fresh
      sent.term sent.from sent.known sent.good sent.brings);
  keeps = λ t n is. record { term = is.term; log = is.log };
}
