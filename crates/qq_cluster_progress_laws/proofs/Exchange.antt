-- One member's messages go to the others, and each answers once.
use Rattle.std.proofs.Common.{◌≡◌, ◌≢◌, ◌⊎◌, ℕ, ◌<◌, Bool, true, false, cond, ◌&&◌, eqb, List, [], ◌∷◌, ◌++◌, length, map, drop, take, Option, Some, None, refl, sym, ap, ◌∙◌, subst, inl, inr, append_assoc}
use Rattle.std.specs.Prelude.{replicate, filter}
use Rattle.std.specs.List.{AllByRecursion}
use Rattle.std.proofs.lemmas.Bool.{cases_eq, cond-false}
use Rattle.qq_base.proofs.Lists.{AllByRecursion-append}
use Rattle.qq_base.specs.declared.ids.NodeId.{NodeId}
use Rattle.qq_entry.specs.declared.audit.AuditRow.{AuditRow}
use Rattle.qq_entry.specs.declared.queue.QueueArgs.{QueueArgs}
use Rattle.qq_raft_protocol.specs.Facts.{In}
use Rattle.qq_raft_protocol.proofs.Lists.{In-left, In-right}
use Rattle.qq_raft_msg.specs.Rpc.{envelope}
use Rattle.qq_raft_msg.specs.declared.rpc.Rpc.{Rpc}
use Rattle.qq_raft_msg.specs.declared.state.Role.{Role}
use Rattle.qq_raft_msg.specs.declared.state.Role.TheVariants.{Follower}
use Rattle.qq_model.specs.Audit.{audit_of, state_after}
use Rattle.qq_model.specs.State.{empty_queue}
use Rattle.qq_raft_model.specs.Group.{Seat, deliver_by}
use Rattle.qq_raft_model.specs.Server.{Input, receive}
use Rattle.qq_raft_model.specs.State.{Server, is_leader, term_at}
use Rattle.qq_raft_model.proofs.Noticed.{noticed-is}
use Rattle.qq_cluster_model.specs.Queue.{Queue, Delivers, after, happens, is_shown, own_effects, own_rows, receiver_by}
use Rattle.qq_session.specs.Clients.{hear_all}
use Rattle.qq_session.specs.Shown.{effects_of_term}
use Rattle.qq_entry.specs.declared.command.Entry.{Entry}
use Rattle.qq_cluster_progress_laws.specs.Soon.{AreOnce}
use Rattle.qq_cluster_progress_laws.proofs.Feeding.{Feeds, FeedsNobody, FeedsOne, effects-nobody, effects-told, fed, feeds-nobody, feeds-one}
use Rattle.qq_cluster_progress_laws.proofs.Following.{AllQuiet, IsQuiet, delivers-quiet}
use Rattle.qq_cluster_progress_laws.proofs.Fit.{IsFit}
use Rattle.qq_cluster_progress_laws.proofs.Member.{rpcs_of}
use Rattle.qq_cluster_progress_laws.proofs.Sound.{IsSound, sound-event}

-- ---- a talk

-- Which member asks, which ones count, which nodes are up, what it asks and what the others answer, and what they are before
-- and after that
pub record Talk : Type 1 where
  pub node : ℕ
  pub most : ℕ → Bool
  pub up : ℕ → Bool
  pub Sent : Rpc → Type 0
  pub Reply : Rpc → Type 0
  pub Fresh : ℕ → Seat → Type 0
  pub Since : Server → Type 0

-- a member's answer is among these
pub record Replied (j : ℕ) (rs : List Rpc) : Type 0 where
  pub msg : Rpc
  pub here : In msg rs
  pub from : (envelope msg).from.0 ≡ j

pub replied-left : (j : ℕ) (rs more : List Rpc) → Replied j rs → Replied j (rs ++ more)
replied-left j rs more r = record { msg = r.msg; here = In-left r.msg rs more r.here; from = r.from }

pub replied-right : (j : ℕ) (rs more : List Rpc) → Replied j more → Replied j (rs ++ more)
replied-right j rs more r = record { msg = r.msg; here = In-right r.msg rs more r.here; from = r.from }

-- ---- a member

-- its answer waits for a change
pub record Pends (j : ℕ) (seat : Seat) : Type 0 where
  pub server : Server
  pub is : seat.server ≡ Some server
  pub reply : Replied j (rpcs_of server.waiting)
  pub later : server.noticed < server.op

-- It has heard the question and follows; nothing else waits there. If it counts, its answer is on its way or waits.
pub record HasHeard (p : Talk) (rs : List Rpc) (j : ℕ) (seat : Seat) : Type 0 where
  pub follows : (t : Server) → seat.server ≡ Some t → t.role ≡ Follower
  pub since : (t : Server) → seat.server ≡ Some t → p.Since t
  pub alive : p.most j ≡ true → (t : Server) × (seat.server ≡ Some t)
  pub waiting : (t : Server) → seat.server ≡ Some t → p.up j ≡ true → AllByRecursion p.Reply (rpcs_of t.waiting)
  pub answered : p.most j ≡ true → Replied j rs ⊎ Pends j seat

pub heard-more : (p : Talk) (rs more : List Rpc) (j : ℕ) (seat : Seat) → HasHeard p rs j seat
    → HasHeard p (rs ++ more) j seat
heard-more p rs more j seat h = record {
  follows = h.follows;
  since = h.since;
  alive = h.alive;
  waiting = h.waiting;
  answered = λ counts. elim (h.answered counts) [
    | inl there ↦ inl (replied-left j rs more there)
    | inr pends ↦ inr pends
  ];
}

-- ---- one message

pub same_some : {A : Type 0} (a b : A) → Some a ≡ Some b → a ≡ b
same_some a b e = cc

pub some_none : {A : Type 0} (a : A) → Some a ≡ None → ⊥
some_none a e = absurd cc

-- what a member has made of a message
pub record Replies (p : Talk) (rs : List Rpc) (j : ℕ) (seat : Seat) (out : List Rpc) : Type 0 where
  pub out_are : AllByRecursion p.Reply out
  pub heard : HasHeard p (rs ++ out) j seat

-- ---- the messages of a bag

abbrev pub receivers : List Rpc → List ℕ
receivers rs = map (λ (r : Rpc). (envelope r).to.0) rs

pub record Seated (p : Talk) (ms rs : List Rpc) (j : ℕ) (seat : Seat) : Type 0 where
  pub fresh : In j (receivers ms) → p.Fresh j seat
  pub heard : (In j (receivers ms) → ⊥) → HasHeard p rs j seat

-- the first messages of the bag are what was asked, the others are answers
pub record IsDelivering (p : Talk) (q : Queue) (ms rs : List Rpc) : Type 0 where
  pub bag : q.group.bag ≡ ms ++ rs
  pub sent : AllByRecursion p.Sent ms
  pub once : AreOnce (receivers ms)
  pub replies : AllByRecursion p.Reply rs
  pub seats : (j : ℕ) → j ≢ p.node → Seated p ms rs j (q.group.seat j)

-- what a delivery to another member leaves
pub record Leaves (p : Talk) (q r : Queue) : Type 0 where
  pub leader : r.group.seat p.node ≡ q.group.seat p.node
  pub clients : r.clients ≡ q.clients
  pub args : r.args ≡ q.args
  pub synced : r.synced ≡ q.synced
  pub ops : (i : ℕ) → (r.group.seat i).ops ≡ (q.group.seat i).ops
  pub noticed : (i : ℕ) → (r.group.seat i).noticed ≡ (q.group.seat i).noticed

leaves-refl : (p : Talk) (q : Queue) → Leaves p q q
leaves-refl p q =
    record { leader = refl; clients = refl; args = refl; synced = refl; ops = λ i. refl; noticed = λ i. refl }

leaves-then : (p : Talk) (q r s : Queue) → Leaves p q r → Leaves p r s → Leaves p q s
leaves-then p q r s a b = record {
  leader = b.leader ∙ a.leader;
  clients = b.clients ∙ a.clients;
  args = b.args ∙ a.args;
  synced = b.synced ∙ a.synced;
  ops = λ i. b.ops i ∙ a.ops i;
  noticed = λ i. b.noticed i ∙ a.noticed i;
}

-- the message at the front of the bag is delivered
pub delivers : (q : Queue) (m : Rpc) (rest : List Rpc) → q.group.bag ≡ m ∷ rest
    → Feeds q (Delivers 0) (envelope m).to.0 (Input.Receive m) rest
delivers q m rest bag = record {
  steps = ap (λ (b : List Rpc). receiver_by (drop 0 b)) bag;
  is = ap (λ (b : List Rpc). deliver_by (take 0 b) (drop 0 b) q.group) bag;
  synced = refl;
  acts = refl;
}

filter-none : {A : Type 0} (test : A → Bool) (xs : List A) → ((x : A) → test x ≡ false) → filter test xs ≡ []
filter-none test [] none = refl
filter-none test (x ∷ xs) none =
    cond-false (test x) (x ∷ filter test xs) (filter test xs) (none x) ∙ filter-none test xs none

-- only a leader that takes commands answers
pub none-own : (args : QueueArgs) (s t : Server) → t.role ≡ Follower → own_rows args s t ≡ []
none-own args s t follows =
    filter-none (is_shown t) (drop s.commit (audit_of (empty_queue args) (take t.commit t.log)))
    (λ row. ap (λ (r : Role). (is_leader r && eqb (term_at t.log t.commit) t.term.0) && eqb row.entry.term.0 t.term.0)
    follows)

pub none-effects : (args : QueueArgs) (s t : Server) → t.role ≡ Follower → own_effects args s t ≡ []
none-effects args s t follows =
    let all : List Entry = take t.commit t.log in
    ap (λ (r : Role). cond (is_leader r && eqb (term_at t.log t.commit) t.term.0)
    (effects_of_term t.term (state_after (empty_queue args) (take s.commit all)) (drop s.commit all)) []) follows

-- how a talk goes: its messages are for others; who counts is there; who hears one answers once; and a notice leaves what a
-- member is then
pub record Goes (p : Talk) : Type 0 where
  pub other : (r : Rpc) → p.Sent r → (envelope r).to.0 ≢ p.node
  pub there : (j : ℕ) (seat : Seat) → p.Fresh j seat → p.most j ≡ true → (t : Server) × (seat.server ≡ Some t)
  pub answers : (rs : List Rpc) (j : ℕ) (seat : Seat) (t : Server) (r : Rpc) → p.Sent r → (envelope r).to.0 ≡ j
      → seat.server ≡ Some t → t.node.0 ≡ j → t.out ≡ [] → p.Fresh j seat
      → Replies p rs j (fed seat (receive r t)) (receive r t).out
  pub keeps : (t : Server) (n : ℕ) → p.Since t
      → p.Since (record t { ops = []; noticed = n; out = []; waiting = [] })

module _ (nodes : List NodeId) (p : Talk) (goes : Goes p) (q : Queue) (m : Rpc) (ms rs : List Rpc)
    (sound : IsSound nodes q) (d : IsDelivering p q (m ∷ ms) rs) where
  abbrev j : ℕ
  j = (envelope m).to.0

  other : j ≢ p.node
  other = goes.other m d.sent.0

  abbrev next : Queue
  next = happens q (Delivers 0)

  feeds : Feeds q (Delivers 0) j (Input.Receive m) (ms ++ rs)
  feeds = delivers q m (ms ++ rs) d.bag

  fresh : p.Fresh j (q.group.seat j)
  fresh = (d.seats j other).fresh (inl refl)

  nobody : (q.group.seat j).server ≡ None
      → Leaves p q next × ((more : List Rpc) × IsDelivering p next ms more)
  nobody down =
      let f : FeedsNobody q next (ms ++ rs) = feeds-nobody q (Delivers 0) j (Input.Receive m) (ms ++ rs) feeds down in
      let same : (i : ℕ) → next.group.seat i ≡ q.group.seat i = λ i. ap (λ (s : ℕ → Seat). s i) f.seat in (
        record {
          leader = same p.node;
          clients = f.clients;
          args = f.args;
          synced = f.synced;
          ops = λ i. ap (λ (s : Seat). s.ops) (same i);
          noticed = λ i. ap (λ (s : Seat). s.noticed) (same i);
        },
        (
          rs,
          record {
            bag = f.bag;
            sent = d.sent.1;
            once = d.once.1;
            replies = d.replies;
            seats = λ i away. subst (Seated p ms rs i) (sym (same i)) (by i away (cases_eq i j));
          },
        ),
      )
    where
      by : (i : ℕ) → i ≢ p.node → ((i ≡ j) ⊎ (i ≢ j)) → Seated p ms rs i (q.group.seat i)
      by i away (inl own) = subst (λ (n : ℕ). Seated p ms rs n (q.group.seat n)) (sym own) (record {
        fresh = λ here. absurd (d.once.0 here);
        heard = λ _. record {
          follows = λ t is. absurd (some_none t (sym is ∙ down));
          since = λ t is. absurd (some_none t (sym is ∙ down));
          alive = goes.there j (q.group.seat j) fresh;
          waiting = λ t is. absurd (some_none t (sym is ∙ down));
          answered = λ counts. (let there = goes.there j (q.group.seat j) fresh counts in absurd (some_none there.0 (sym there.1 ∙ down)));
        };
      })
      by i away (inr differs) = record {
        fresh = λ here. (d.seats i away).fresh (inr here);
        heard = λ gone. (d.seats i away).heard (λ here. elim here [ inl own ↦ differs own | inr later ↦ gone later ]);
      }

  somebody : (t : Server) → (q.group.seat j).server ≡ Some t
      → Leaves p q next × ((more : List Rpc) × IsDelivering p next ms more)
  somebody t up = (
    record {
      leader = f.others p.node (λ same. other (sym same));
      clients = f.clients ∙ ap (λ (rows : List AuditRow). hear_all rows q.clients)
          (none-own q.args t (record u { out = [] }) (r.heard.follows (record u { out = [] }) refl));
      args = f.args;
      synced = f.synced;
      ops = λ i. elim (cases_eq i j) [
        | inl own ↦ subst (λ (n : ℕ). (next.group.seat n).ops ≡ (q.group.seat n).ops) (sym own)
            (ap (λ (s : Seat). s.ops) f.seat)
        | inr differs ↦ ap (λ (s : Seat). s.ops) (f.others i differs)
      ];
      noticed = λ i. elim (cases_eq i j) [
        | inl own ↦ subst (λ (n : ℕ). (next.group.seat n).noticed ≡ (q.group.seat n).noticed) (sym own)
            (ap (λ (s : Seat). s.noticed) f.seat ∙ noticed-is t (Input.Receive m)
            ∙ (sound.counted j).server t up)
        | inr differs ↦ ap (λ (s : Seat). s.noticed) (f.others i differs)
      ];
    },
    (
      rs ++ u.out,
      record {
        bag = f.bag ∙ append_assoc ms rs u.out;
        sent = d.sent.1;
        once = d.once.1;
        replies = AllByRecursion-append p.Reply rs u.out d.replies r.out_are;
        seats = λ i away. by i away (cases_eq i j);
      },
    ),
  )
    where
      u : Server
      u = receive m t

      fit : IsFit nodes j t
      fit = sound.fit.each j t up

      f : FeedsOne q next j t u (ms ++ rs)
      f = feeds-one q (Delivers 0) j (Input.Receive m) (ms ++ rs) t feeds up

      r : Replies p rs j (fed (q.group.seat j) u) u.out
      r = goes.answers rs j (q.group.seat j) t m d.sent.0 refl up fit.node fit.out fresh

      by : (i : ℕ) → i ≢ p.node → ((i ≡ j) ⊎ (i ≢ j)) → Seated p ms (rs ++ u.out) i (next.group.seat i)
      by i away (inl own) =
          subst (λ (n : ℕ). Seated p ms (rs ++ u.out) n (next.group.seat n)) (sym own) (record {
            fresh = λ here. absurd (d.once.0 here);
            heard = λ _. subst (HasHeard p (rs ++ u.out) j) (sym f.seat) r.heard;
          })
      by i away (inr differs) =
          subst (Seated p ms (rs ++ u.out) i) (sym (f.others i differs)) (record {
            fresh = λ here. (d.seats i away).fresh (inr here);
            heard = λ gone.
                heard-more p rs u.out i (q.group.seat i)
                ((d.seats i away).heard (λ here. elim here [ inl own ↦ differs own | inr later ↦ gone later ]));
          })

  one-delivery : Leaves p q next × ((more : List Rpc) × IsDelivering p next ms more)
  one-delivery = by (q.group.seat j).server refl
    where
      by : (o : Option Server) → (q.group.seat j).server ≡ o
          → Leaves p q next × ((more : List Rpc) × IsDelivering p next ms more)
      by None down = nobody down
      by (Some t) up = somebody t up

  -- it hands nothing out
  one-quiet : IsQuiet q → IsQuiet next
  one-quiet quiet = by (q.group.seat j).server refl
    where
      by : (o : Option Server) → (q.group.seat j).server ≡ o → IsQuiet next
      by None down =
          delivers-quiet q 0 quiet (effects-nobody q (Delivers 0) j (Input.Receive m) (ms ++ rs) feeds down)
      by (Some t) up =
          let u : Server = receive m t in
          let fit = sound.fit.each j t up in
          let r : Replies p rs j (fed (q.group.seat j) u) u.out =
          goes.answers rs j (q.group.seat j) t m d.sent.0 refl up fit.node fit.out fresh in
          delivers-quiet q 0 quiet
          (effects-told q (Delivers 0) j (Input.Receive m) (ms ++ rs) t feeds up
          ∙ none-effects q.args t (record u { out = [] }) (r.heard.follows (record u { out = [] }) refl))

-- all messages that were sent are delivered
pub all-delivered : (nodes : List NodeId) (p : Talk) → Goes p → (ms rs : List Rpc) (q : Queue) → IsSound nodes q
    → IsDelivering p q ms rs
    → Leaves p q (after q (replicate (length ms) (Delivers 0)))
    × ((more : List Rpc) × IsDelivering p (after q (replicate (length ms) (Delivers 0))) [] more)
all-delivered nodes p goes [] rs q sound d = (leaves-refl p q, (rs, d))
all-delivered nodes p goes (m ∷ ms) rs q sound d =
    let one = one-delivery nodes p goes q m ms rs sound d in
    let next : Queue = happens q (Delivers 0) in
    let rest = all-delivered nodes p goes ms one.1.0 next (sound-event nodes q (Delivers 0) sound) one.1.1 in
    (leaves-then p q next (after next (replicate (length ms) (Delivers 0))) one.0 rest.0, rest.1)

-- and hand nothing out
pub deliveries-quiet : (nodes : List NodeId) (p : Talk) → Goes p → (ms rs : List Rpc) (q : Queue) → IsSound nodes q
    → IsDelivering p q ms rs → IsQuiet q → AllQuiet q (replicate (length ms) (Delivers 0))
deliveries-quiet nodes p goes [] rs q sound d quiet = tt
deliveries-quiet nodes p goes (m ∷ ms) rs q sound d quiet =
    let one = one-delivery nodes p goes q m ms rs sound d in
    let next = one-quiet nodes p goes q m ms rs sound d quiet in (
      next,
      deliveries-quiet nodes p goes ms one.1.0 (happens q (Delivers 0)) (sound-event nodes q (Delivers 0) sound)
          one.1.1 next,
    )
