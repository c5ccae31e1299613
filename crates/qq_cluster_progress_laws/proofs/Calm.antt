-- A leader that has sent all sends nothing more where each answer has the entry.
use Rattle.std.proofs.Common.{◌≡◌, ℕ, ◌≤◌, ◌<◌, ◌+◌, Bool, true, false, cond, ltb, leb, ◌&&◌, List, [], ◌∷◌, ◌++◌, length, map, filter, Some, None, refl, sym, ap, ◌∙◌, subst, inl, inr, arith, append-nil}
use Rattle.std.specs.Prelude.{replicate}
use Rattle.std.specs.List.{AllByRecursion}
use Rattle.std.proofs.lemmas.Bool.{cond-true, cond-false, cond_both, le-ltb, lt-leb, ltb-true}
use Rattle.qq_raft_protocol.specs.Facts.{In}
use Rattle.qq_raft_protocol.proofs.Lists.{In-map}
use Rattle.qq_raft_msg.specs.declared.rpc.AppendedMsg.{AppendedMsg}
use Rattle.qq_raft_msg.specs.declared.rpc.Rpc.{Rpc}
use Rattle.qq_raft_msg.specs.declared.rpc.Rpc.TheVariants.{Appended}
use Rattle.qq_raft_model.specs.declared.peer.Peer.{Peer}
use Rattle.qq_raft_model.specs.Leading.{append_to, pass, send}
use Rattle.qq_raft_model.specs.Server.{accept, at_peer, greater, is_peer, lacks, match_peer, receive, receive_appended, refuse, take_ack, take_reply, step_back}
use Rattle.qq_raft_model.specs.State.{Server, change, enter, follow, is_leader, last}
use Rattle.qq_cluster_model.specs.Queue.{Queue, Delivers, after, happens, said}
use Rattle.qq_cluster_progress_laws.proofs.Delivering.{IsReply, Plan}
use Rattle.qq_cluster_progress_laws.proofs.Exchange.{delivers, same_some}
use Rattle.qq_raft_model.specs.Group.{Seat}
use Rattle.qq_raft_model.specs.Server.{Input}
use Rattle.qq_entry.specs.declared.command.Entry.{Entry}
use Rattle.qq_cluster_progress_laws.proofs.Feeding.{Feeds, FeedsOne, feeds-one}
use Rattle.qq_cluster_progress_laws.proofs.Hearing.{HasHeardAll, LeaderIs, one-heard}
use Rattle.qq_cluster_progress_laws.proofs.Leader.{MayCommit, advances}
use Rattle.qq_cluster_progress_laws.proofs.Sending.{AllNext, IsNext}

filter-none : {A : Type 0} (test : A → Bool) (xs : List A) → ((x : A) → In x xs → test x ≡ false) → filter test xs ≡ []
filter-none test [] none = refl
filter-none test (x ∷ xs) none =
    cond-false (test x) (x ∷ filter test xs) (filter test xs) (none x (inl refl))
    ∙ filter-none test xs (λ y here. none y (inr here))

abbrev matching : AppendedMsg → Peer → Peer
matching m x = cond (is_peer m.from x) (match_peer m.index.0 x) x

abbrev passing : AppendedMsg → Server → Peer → Peer
passing m s x = cond (lacks m.from (last s) x) (pass s.log x) x

-- an acknowledgement of no more than there is
next-match : (m : AppendedMsg) (s : Server) → m.index.0 ≤ last s → AllNext s → (x : Peer)
    → In x (map (matching m) s.peers) → IsNext (last s) x
next-match m s within all x here =
    let w = In-map (matching m) x s.peers here in
    let old = all w.item w.here in
    let high = up-to w.item.matched m.index.0 old.1 within in
    let next = old.0 in
    subst (IsNext (last s)) (sym w.is)
    (cond_both (is_peer m.from w.item) (match_peer m.index.0 w.item) w.item (IsNext (last s))
    (λ _. (still w.item.next (greater w.item.matched m.index.0 + 1) (omega (arith, high, next)) ∙ next, high)) (λ _. old))
  where
    up-to : (a b : ℕ) → a ≤ last s → b ≤ last s → greater a b ≤ last s
    up-to a b first second = cond_both (ltb a b) b a (λ (n : ℕ). n ≤ last s) (λ _. second) (λ _. first)

    still : (a b : ℕ) → b ≤ a → greater a b ≡ a
    still a b le =
        cond_both (ltb a b) b a (λ (n : ℕ). n ≡ a) (λ e. (let lt = ltb-true a b e in absurd (omega (arith, lt, le))))
        (λ _. refl)

-- an acknowledgement makes it send nothing
ack-calm : (m : AppendedMsg) (s : Server) (i : ℕ) (most : ℕ → Bool) → MayCommit i most s → AllNext s
    → m.index.0 ≤ last s → ((take_ack m s).out ≡ s.out) × AllNext (take_ack m s)
unfolding take_ack send
ack-calm m s i most may all within =
    let first : Server = at_peer m.from (match_peer m.index.0) s in
    let t : Server = send (lacks m.from (last s)) first in
    let after : (x : Peer) → In x first.peers → IsNext (last s) x = next-match m s within all in
    let none : (x : Peer) → In x first.peers → lacks m.from (last s) x ≡ false =
    λ x here. lack x (let is = (after x here).0 in omega (arith, is)) in
    let a = advances t may.leads in (
      ap (λ (x : Server). x.out) a.is
          ∙ ap (λ (l : List Peer). s.out ++ map (append_to first) l) (filter-none (lacks m.from (last s)) first.peers none)
          ∙ append-nil s.out,
      subst AllNext (sym a.is) (λ x here.
          let w = In-map (passing m s) x first.peers here in
          let is : passing m s w.item ≡ w.item =
          cond-false (lacks m.from (last s) w.item) (pass s.log w.item) w.item (none w.item w.here) in
          subst (IsNext (last s)) (sym (w.is ∙ is)) (after w.item w.here)),
    )
  where
    lack : (x : Peer) → last s < x.next → lacks m.from (last s) x ≡ false
    lack x lt = by (is_peer m.from x) (lt-leb x.next (last s) lt)
      where
        by : (b : Bool) → leb x.next (last s) ≡ false → (b && leb x.next (last s)) ≡ false
        by true is = is
        by false is = refl

reply-calm : (m : AppendedMsg) (s : Server) (i : ℕ) (most : ℕ → Bool) → MayCommit i most s → AllNext s
    → m.term.0 ≡ s.term.0 → m.ok ≡ true → m.index.0 ≤ last s
    → ((receive (Appended m) s).out ≡ s.out) × AllNext (receive (Appended m) s)
unfolding receive accept refuse receive_appended enter
reply-calm m s i most may all term ok within =
    subst (λ (t : Server). (t.out ≡ s.out) × AllNext t) (sym is) (ack-calm m s i most may all within)
  where
    is : cond (ltb m.term.0 s.term.0) s
        (take_reply m (cond (ltb s.term.0 m.term.0) (follow None (change m.term None (last s) [] s)) s)) ≡ take_ack m s
    is =
        cond-false (ltb m.term.0 s.term.0) s
        (take_reply m (cond (ltb s.term.0 m.term.0) (follow None (change m.term None (last s) [] s)) s))
        (le-ltb m.term.0 s.term.0 (omega (arith, term)))
        ∙ ap (take_reply m) (cond-false (ltb s.term.0 m.term.0) (follow None (change m.term None (last s) [] s)) s
        (le-ltb s.term.0 m.term.0 (omega (arith, term))))
        ∙ cond-true (is_leader s.role) (cond m.ok (take_ack m s) (step_back m s)) s (ap is_leader may.leads)
        ∙ cond-true m.ok (take_ack m s) (step_back m s) ok

-- all answers come
pub all-calm : (p : Plan) (e : Entry) → e.term.0 ≡ p.term → ((j : ℕ) → p.asked j ≡ true → p.most j ≡ true)
    → (rs more : List Rpc) (q : Queue) (s : Server) → LeaderIs p e q s → q.group.bag ≡ rs ++ more
    → AllByRecursion (IsReply p) rs → AllNext s → s.out ≡ []
    → ((after q (replicate (length rs) (Delivers 0))).group.bag ≡ more)
    × ((t : Server) → ((after q (replicate (length rs) (Delivers 0))).group.seat p.node).server ≡ Some t → AllNext t)
all-calm p e own all [] more q s leader bag replies sent silent =
    (bag, λ t is. subst AllNext (same_some s t (sym leader.up ∙ is)) sent)
all-calm p e own all (r ∷ rs) more q s leader bag replies sent silent =
    all-calm p e own all rs more next t.server t.is
    (f.bag ∙ ap (λ (l : List Rpc). (rs ++ more) ++ l) (calm.0 ∙ silent) ∙ append-nil (rs ++ more)) replies.1
    (subst AllNext same (λ x here. calm.1 x here)) (ap (λ (x : Server). x.out) (sym same))
  where
    reply : IsReply p r
    reply = replies.0

    m : AppendedMsg
    m = reply.msg

    next : Queue
    next = happens q (Delivers 0)

    bag_is : q.group.bag ≡ Appended m ∷ rs ++ more
    bag_is = bag ∙ ap (λ (x : Rpc). x ∷ rs ++ more) reply.is

    t : HasHeardAll p e q next s (Appended m ∷ []) (said q (Delivers 0))
    t = (one-heard p e own q s m (rs ++ more) leader bag_is reply.term reply.to reply.good).2

    f : FeedsOne q next p.node s (receive (Appended m) s) (rs ++ more)
    f =
        feeds-one q (Delivers 0) p.node (Input.Receive (Appended m)) (rs ++ more) s
        (subst (λ (n : ℕ). Feeds q (Delivers 0) n (Input.Receive (Appended m)) (rs ++ more)) reply.to
        (delivers q (Appended m) (rs ++ more) bag_is)) leader.up

    same : record (receive (Appended m) s) { out = [] } ≡ t.server
    same =
        same_some (record (receive (Appended m) s) { out = [] }) t.server
        (sym (ap (λ (x : Seat). x.server) f.seat) ∙ t.is.up)

    good : (m.ok ≡ true) × (m.index.0 ≡ p.upto)
    good = reply.good (all m.from.0 reply.known)

    calm : ((receive (Appended m) s).out ≡ s.out) × AllNext (receive (Appended m) s)
    calm =
        reply-calm m s p.upto p.most leader.waits.may sent (reply.term ∙ sym leader.term) good.0
        (let is = good.1 in let long = leader.waits.may.last_is in omega (arith, is, long))
