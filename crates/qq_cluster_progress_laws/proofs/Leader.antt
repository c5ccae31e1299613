-- A leader whose last entry is its own commits it once the peers that count have it.
use Rattle.std.proofs.Common.{◌≡◌, ◌⊎◌, ℕ, zero, suc, ◌≤◌, ◌-◌, ◌+◌, ◌*◌, Bool, true, false, cond, ◌&&◌, ltb, leb, eqb, List, [], ◌∷◌, ◌++◌, length, map, count_by, None, refl, sym, ap, ◌∙◌, subst, inl, inr, arith}
use Rattle.std.proofs.lemmas.Bool.{cond_both, cond-true, cond-false, and_parts, and_from, eqb-true, eq-eqb, le-leb, lt-ltb, ltb-true, ltb-false, le-ltb}
use Rattle.std.proofs.lemmas.List.{length-map}
use Rattle.std.proofs.lemmas.List.Sums.{sum_by-cons}
use Rattle.qq_raft_protocol.specs.Facts.{In}
use Rattle.qq_raft_protocol.proofs.Lists.{In-map, map-In}
use Rattle.qq_raft_msg.specs.declared.rpc.AppendedMsg.{AppendedMsg}
use Rattle.qq_raft_msg.specs.declared.rpc.Rpc.{Rpc}
use Rattle.qq_raft_msg.specs.declared.rpc.Rpc.TheVariants.{Appended}
use Rattle.qq_raft_msg.specs.declared.state.Role.{Role}
use Rattle.qq_raft_msg.specs.declared.state.Role.TheVariants.{Leader}
use Rattle.qq_raft_model.specs.declared.peer.Peer.{Peer}
use Rattle.qq_raft_model.specs.declared.peer.Waiting.{Waiting}
use Rattle.qq_raft_model.specs.Leading.{advance, commit_within, durable, is_elected, is_majority, lead, lead_if_elected, may_commit, pass, send}
use Rattle.qq_raft_model.specs.Server.{accept, at_peer, back_peer, greater, is_peer, lacks, match_peer, notice, receive, receive_appended, refuse, step_back, free, still_waiting, take_ack, take_notice, take_reply}
use Rattle.qq_raft_model.specs.State.{Server, change, enter, follow, is_candidate, is_leader, last, term_at}

-- ---- counts

count-le : {A : Type 0} (p q : A → Bool) (xs : List A) → ((x : A) → In x xs → p x ≡ true → q x ≡ true)
    → count_by p xs ≤ count_by q xs
count-le p q [] each = omega arith
count-le p q (x ∷ xs) each =
    let rest = count-le p q xs (λ y here. each y (inr here)) in
    let first = sum_by-cons (λ y. cond (p y) 1 0) x xs in
    let second = sum_by-cons (λ y. cond (q y) 1 0) x xs in
    let one : cond (p x) 1 0 ≤ cond (q x) 1 0 = by (p x) (q x) (each x (inl refl)) in
    omega (arith, rest, first, second, one)
  where
    by : (b c : Bool) → (b ≡ true → c ≡ true) → cond b 1 0 ≤ cond c 1 0
    by true true f = omega arith
    by true false f = absurd (let e : false ≡ true = f refl in cc)
    by false true f = omega arith
    by false false f = omega arith

pub majority-le : (p q : Peer → Bool) (xs : List Peer) → ((x : Peer) → In x xs → p x ≡ true → q x ≡ true)
    → is_majority true p xs ≡ true → is_majority true q xs ≡ true
majority-le p q xs each is =
    let le = count-le p q xs each in
    let lt = ltb-true (length xs + 1) (2 * (1 + count_by p xs)) is in
    lt-ltb (length xs + 1) (2 * (1 + count_by q xs)) (omega (arith, le, lt))

count-map : {A : Type 0} (test : A → Bool) (f : A → A) (xs : List A) → ((x : A) → test (f x) ≡ test x)
    → count_by test (map f xs) ≡ count_by test xs
count-map test f [] same = refl
count-map test f (x ∷ xs) same =
    sum_by-cons (λ y. cond (test y) 1 0) (f x) (map f xs)
    ∙ ap (λ (b : Bool). cond b 1 0 + count_by test (map f xs)) (same x)
    ∙ ap (λ (n : ℕ). cond (test x) 1 0 + n) (count-map test f xs same)
    ∙ sym (sum_by-cons (λ y. cond (test y) 1 0) x xs)

pub majority-map : (most : ℕ → Bool) (f : Peer → Peer) (xs : List Peer) → ((p : Peer) → (f p).node ≡ p.node)
    → is_majority true (λ p. most p.node.0) xs ≡ true → is_majority true (λ p. most p.node.0) (map f xs) ≡ true
majority-map most f xs same is =
    let n = length-map xs f in
    let c = count-map (λ (p : Peer). most p.node.0) f xs (λ p. ap (λ n. most n.0) (same p)) in
    let lt = ltb-true (length xs + 1) (2 * (1 + count_by (λ (p : Peer). most p.node.0) xs)) is in
    lt-ltb (length (map f xs) + 1) (2 * (1 + count_by (λ (p : Peer). most p.node.0) (map f xs)))
    (omega (arith, n, c, lt))

-- ---- what a leader waits for

-- a peer has the entries up to an index
abbrev pub HasUpTo : ℕ → ℕ → List Peer → Type 0
HasUpTo i j peers = (p : Peer) → In p peers → p.node.0 ≡ j → i ≤ p.matched

-- and so has each that counts
abbrev pub AllHave : ℕ → (ℕ → Bool) → List Peer → Type 0
AllHave i most peers = (j : ℕ) → most j ≡ true → HasUpTo i j peers

-- It leads, and its last entry is of its term and durable. It and the peers that count are a majority.
pub record MayCommit (i : ℕ) (most : ℕ → Bool) (s : Server) : Type 0 where
  pub leads : s.role ≡ Leader
  pub last_is : last s ≡ i
  pub own : term_at s.log i ≡ s.term.0
  pub within : s.commit ≤ i
  pub noticed : s.noticed ≡ s.op
  pub majority : is_majority true (λ p. most p.node.0) s.peers ≡ true

-- and it commits that entry once they have it
pub record Waits (i : ℕ) (most : ℕ → Bool) (s : Server) : Type 0 where
  pub may : MayCommit i most s
  pub counts : AllHave i most s.peers → i ≤ s.commit

-- ---- a commit

record Found (s : Server) (n c : ℕ) : Type 0 where
  low : s.commit ≤ c
  high : c ≤ s.commit + n
  term : (c ≡ s.commit) ⊎ (term_at s.log c ≡ s.term.0)

found : (s : Server) (n : ℕ) → Found s n (commit_within s n)
found s zero = record { low = omega arith; high = omega arith; term = inl refl }
found s (suc n) =
    cond_both (may_commit s (s.commit + suc n)) (s.commit + suc n) (commit_within s n) (Found s (suc n))
    (λ may. record {
      low = omega arith;
      high = omega arith;
      term = inr (eqb-true (term_at s.log (s.commit + suc n)) s.term.0
          (and_parts (eqb (term_at s.log (s.commit + suc n)) s.term.0)
          (is_majority (leb (s.commit + suc n) (durable s)) (λ p. leb (s.commit + suc n) p.matched) s.peers) may).0);
    })
    (λ _. let f = found s n in record { low = f.low; high = (let h = f.high in omega (arith, h)); term = f.term })

all-durable : (s : Server) → s.noticed ≡ s.op → durable s ≡ last s
all-durable s is = (let so : s.op - s.noticed ≡ 0 = omega (arith, is) in omega (arith, so))

may-commit : (i : ℕ) (most : ℕ → Bool) (s : Server) → MayCommit i most s → AllHave i most s.peers
    → may_commit s i ≡ true
may-commit i most s may all =
    let kept : leb i (durable s) ≡ true =
    le-leb i (durable s) (let d = all-durable s may.noticed in let l = may.last_is in omega (arith, d, l)) in
    and_from (eqb (term_at s.log i) s.term.0) (is_majority (leb i (durable s)) (λ p. leb i p.matched) s.peers)
    (eq-eqb (term_at s.log i) s.term.0 may.own)
    (subst (λ (b : Bool). is_majority b (λ p. leb i p.matched) s.peers ≡ true) (sym kept)
    (majority-le (λ p. most p.node.0) (λ p. leb i p.matched) s.peers
    (λ p here counts. le-leb i p.matched (all p.node.0 counts p here refl)) may.majority))

reaches : (i : ℕ) (s : Server) (n : ℕ) → s.commit + n ≡ i → may_commit s i ≡ true → i ≤ commit_within s n
reaches i s zero is may = omega (arith, is)
reaches i s (suc n) is may =
    let here : may_commit s (s.commit + suc n) ≡ true = ap (may_commit s) is ∙ may in
    let so : commit_within s (suc n) ≡ s.commit + suc n =
    cond-true (may_commit s (s.commit + suc n)) (s.commit + suc n) (commit_within s n) here in
    omega (arith, so, is)

-- what it has committed ends with an entry of its term
abbrev pub HasOwnCommit : Server → Type 0
HasOwnCommit s = term_at s.log s.commit ≡ s.term.0

-- what changes with a commit
pub record Advances (s t : Server) : Type 0 where
  pub commit : ℕ
  pub is : t ≡ record s { commit = commit }
  pub rises : s.commit ≤ commit
  pub most : s.commit ≤ last s → commit ≤ last s
  pub own : HasOwnCommit s → HasOwnCommit t

pub advances : (s : Server) → s.role ≡ Leader → Advances s (advance s)
unfolding advance
advances s leads =
    let n = last s - s.commit in
    let is : advance s ≡ record s { commit = commit_within s n } =
    cond-true (is_leader s.role) (record s { commit = commit_within s n }) s (ap is_leader leads) in
    record {
      commit = commit_within s n;
      is = is;
      rises = (found s n).low;
      most = λ le. (let h = (found s n).high in omega (arith, h, le));
      own = λ old. subst HasOwnCommit (sym is) (elim (found s n).term [
        | inl same ↦ ap (λ (c : ℕ). term_at s.log c) same ∙ old
        | inr term ↦ term
      ]);
    }

pub advance-waits : (i : ℕ) (most : ℕ → Bool) (s : Server) → MayCommit i most s → Waits i most (advance s)
unfolding advance
advance-waits i most s may =
    let n = last s - s.commit in
    let f = found s n in
    let last_is : last s ≡ i = may.last_is in
    let within : s.commit ≤ i = may.within in
    let all : s.commit + n ≡ i = omega (arith, last_is, within) in
    subst (Waits i most)
    (sym (cond-true (is_leader s.role) (record s { commit = commit_within s n }) s (ap is_leader may.leads)))
    (record {
      may = record {
        leads = may.leads;
        last_is = may.last_is;
        own = may.own;
        within = (let h = f.high in omega (arith, h, all));
        noticed = may.noticed;
        majority = may.majority;
      };
      counts = λ have. reaches i s n all (may-commit i most s may have);
    })

-- ---- an answer of a peer

-- what it hears leaves its node, term, log and ops, and of what its peers have takes nothing away
pub record Hears (i : ℕ) (s t : Server) : Type 0 where
  pub node : t.node ≡ s.node
  pub term : t.term ≡ s.term
  pub log : t.log ≡ s.log
  pub ops : t.ops ≡ s.ops
  pub rises : s.commit ≤ t.commit
  pub ready : HasOwnCommit s → HasOwnCommit t
  pub keeps : (j : ℕ) → HasUpTo i j s.peers → HasUpTo i j t.peers

greater-left : (a b : ℕ) → a ≤ greater a b
greater-left a b =
    cond_both (ltb a b) b a (λ (n : ℕ). a ≤ n) (λ e. let lt = ltb-true a b e in omega (arith, lt)) (λ _. omega arith)

greater-right : (a b : ℕ) → b ≤ greater a b
greater-right a b =
    cond_both (ltb a b) b a (λ (n : ℕ). b ≤ n) (λ _. omega arith) (λ e. let le = leb-of a b e in omega (arith, le))
  where
    leb-of : (a b : ℕ) → ltb a b ≡ false → b ≤ a
    leb-of a b e = ltb-false a b e

-- peers that keep their node and have no less
keeps-mapped : (i : ℕ) (f : Peer → Peer) (peers : List Peer) → ((p : Peer) → (f p).node ≡ p.node)
    → ((p : Peer) → p.matched ≤ (f p).matched) → (j : ℕ) → HasUpTo i j peers → HasUpTo i j (map f peers)
keeps-mapped i f peers node more j has p here is =
    let m = In-map f p peers here in
    let old : i ≤ m.item.matched =
    has m.item m.here (ap (λ n. n.0) (sym (node m.item)) ∙ ap (λ (q : Peer). q.node.0) (sym m.is) ∙ is) in
    let rose = more m.item in
    let same : p.matched ≡ (f m.item).matched = ap (λ (q : Peer). q.matched) m.is in
    omega (arith, old, rose, same)

abbrev matching : AppendedMsg → Peer → Peer
matching m p = cond (is_peer m.from p) (match_peer m.index.0 p) p

abbrev passing : AppendedMsg → Server → Peer → Peer
passing m s p = cond (lacks m.from (last s) p) (pass s.log p) p

abbrev backing : AppendedMsg → Peer → Peer
backing m p = cond (is_peer m.from p) (back_peer m.index.0 p) p

abbrev again : AppendedMsg → Server → Peer → Peer
again m s p = cond (is_peer m.from p) (pass s.log p) p

same-node : (b : Bool) (p q : Peer) → p.node ≡ q.node → (cond b p q).node ≡ q.node
same-node b p q is = cond_both b p q (λ (x : Peer). x.node ≡ q.node) (λ _. is) (λ _. refl)

not-less : (b : Bool) (p q : Peer) → q.matched ≤ p.matched → q.matched ≤ (cond b p q).matched
not-less b p q le = cond_both b p q (λ (x : Peer). q.matched ≤ x.matched) (λ _. le) (λ _. omega arith)

-- the peers of a leader that may commit are changed
may-peers : (i : ℕ) (most : ℕ → Bool) (s : Server) (f : Peer → Peer) (out : List Rpc)
    → ((p : Peer) → (f p).node ≡ p.node) → MayCommit i most s
    → MayCommit i most (record s { peers = map f s.peers; out = out })
may-peers i most s f out node may = record {
  leads = may.leads;
  last_is = may.last_is;
  own = may.own;
  within = may.within;
  noticed = may.noticed;
  majority = majority-map most f s.peers node may.majority;
}

pub ack-hears : (i : ℕ) (most : ℕ → Bool) (m : AppendedMsg) (s : Server) → MayCommit i most s
    → Waits i most (take_ack m s) × Hears i s (take_ack m s)
    × (i ≤ m.index.0 → HasUpTo i m.from.0 (take_ack m s).peers)
unfolding take_ack send
ack-hears i most m s may =
    let f = matching m in
    let g = passing m s in
    let first : Server = at_peer m.from (match_peer m.index.0) s in
    let t : Server = send (lacks m.from (last s)) first in
    let f_node : (p : Peer) → (f p).node ≡ p.node =
    λ p. same-node (is_peer m.from p) (match_peer m.index.0 p) p refl in
    let g_node : (p : Peer) → (g p).node ≡ p.node =
    λ p. same-node (lacks m.from (last s) p) (pass s.log p) p refl in
    let now : MayCommit i most t =
    may-peers i most first g t.out g_node (may-peers i most s f s.out f_node may) in
    let a = advances t may.leads in
    let rose = a.rises in (
      advance-waits i most t now,
      record {
        node = ap (λ (x : Server). x.node) a.is;
        term = ap (λ (x : Server). x.term) a.is;
        log = ap (λ (x : Server). x.log) a.is;
        ops = ap (λ (x : Server). x.ops) a.is;
        rises = subst (λ (x : Server). s.commit ≤ x.commit) (sym a.is) rose;
        ready = a.own;
        keeps = λ j has.
            subst (λ (x : Server). HasUpTo i j x.peers) (sym a.is)
            (keeps-mapped i g (map f s.peers) g_node
            (λ p. not-less (lacks m.from (last s) p) (pass s.log p) p (omega arith)) j
            (keeps-mapped i f s.peers f_node
            (λ p. not-less (is_peer m.from p) (match_peer m.index.0 p) p (greater-left p.matched m.index.0)) j has));
      },
      λ le.
          subst (λ (x : Server). HasUpTo i m.from.0 x.peers) (sym a.is)
          (keeps-mapped i g (map f s.peers) g_node
          (λ p. not-less (lacks m.from (last s) p) (pass s.log p) p (omega arith)) m.from.0
          (λ p here is.
          let w = In-map f p s.peers here in
          let own : w.item.node.0 ≡ m.from.0 =
          ap (λ n. n.0) (sym (f_node w.item)) ∙ ap (λ (q : Peer). q.node.0) (sym w.is) ∙ is in
          let to : f w.item ≡ match_peer m.index.0 w.item =
          cond-true (is_peer m.from w.item) (match_peer m.index.0 w.item) w.item (eq-eqb w.item.node.0 m.from.0 own) in
          let same : p.matched ≡ greater w.item.matched m.index.0 = ap (λ (q : Peer). q.matched) (w.is ∙ to) in
          let most' = greater-right w.item.matched m.index.0 in
          omega (arith, same, most', le))),
    )

-- and have no more
has-back : (i : ℕ) (f : Peer → Peer) (peers : List Peer) → ((p : Peer) → (f p).node ≡ p.node)
    → ((p : Peer) → (f p).matched ≡ p.matched) → (j : ℕ) → HasUpTo i j (map f peers) → HasUpTo i j peers
has-back i f peers node same j has p here is =
    let le = has (f p) (map-In f p peers here) (ap (λ n. n.0) (node p) ∙ is) in
    let e = same p in
    omega (arith, le, e)

same-matched : (b : Bool) (p q : Peer) → p.matched ≡ q.matched → (cond b p q).matched ≡ q.matched
same-matched b p q is = cond_both b p q (λ (x : Peer). x.matched ≡ q.matched) (λ _. is) (λ _. refl)

pub back-hears : (i : ℕ) (most : ℕ → Bool) (m : AppendedMsg) (s : Server) → Waits i most s
    → Waits i most (step_back m s) × Hears i s (step_back m s)
unfolding step_back send
back-hears i most m s waits =
    let f = backing m in
    let g = again m s in
    let first : Server = at_peer m.from (back_peer m.index.0) s in
    let t : Server = send (is_peer m.from) first in
    let f_node : (p : Peer) → (f p).node ≡ p.node =
    λ p. same-node (is_peer m.from p) (back_peer m.index.0 p) p refl in
    let g_node : (p : Peer) → (g p).node ≡ p.node =
    λ p. same-node (is_peer m.from p) (pass s.log p) p refl in
    let f_same : (p : Peer) → (f p).matched ≡ p.matched =
    λ p. same-matched (is_peer m.from p) (back_peer m.index.0 p) p refl in
    let g_same : (p : Peer) → (g p).matched ≡ p.matched =
    λ p. same-matched (is_peer m.from p) (pass s.log p) p refl in (
      record {
        may = may-peers i most first g t.out g_node (may-peers i most s f s.out f_node waits.may);
        counts = λ have. waits.counts (λ j counts.
            has-back i f s.peers f_node f_same j (has-back i g (map f s.peers) g_node g_same j (have j counts)));
      },
      record {
        node = refl;
        term = refl;
        log = refl;
        ops = refl;
        rises = omega arith;
        ready = λ old. old;
        keeps = λ j has.
            keeps-mapped i g (map f s.peers) g_node (λ p. (let e = g_same p in omega (arith, e))) j
            (keeps-mapped i f s.peers f_node (λ p. (let e = f_same p in omega (arith, e))) j has);
      },
    )

-- an answer of its own term
pub appended-hears : (i : ℕ) (most : ℕ → Bool) (m : AppendedMsg) (s : Server) → Waits i most s
    → m.term.0 ≡ s.term.0 → Waits i most (receive (Appended m) s) × Hears i s (receive (Appended m) s)
    × (m.ok ≡ true → i ≤ m.index.0 → HasUpTo i m.from.0 (receive (Appended m) s).peers)
unfolding receive accept refuse receive_appended enter
appended-hears i most m s waits term =
    subst (λ (t : Server). Waits i most t × Hears i s t
    × (m.ok ≡ true → i ≤ m.index.0 → HasUpTo i m.from.0 t.peers)) (sym is)
    (by m.ok)
  where
    own : (t : Server) → take_reply m (cond (ltb s.term.0 m.term.0) t s) ≡ take_reply m s
    own t = ap (take_reply m) (cond-false (ltb s.term.0 m.term.0) t s
        (le-ltb s.term.0 m.term.0 (omega (arith, term))))

    is : cond (ltb m.term.0 s.term.0) s
        (take_reply m (cond (ltb s.term.0 m.term.0) (follow None (change m.term None (last s) [] s)) s))
        ≡ cond m.ok (take_ack m s) (step_back m s)
    is =
        cond-false (ltb m.term.0 s.term.0) s
        (take_reply m (cond (ltb s.term.0 m.term.0) (follow None (change m.term None (last s) [] s)) s))
        (le-ltb m.term.0 s.term.0 (omega (arith, term)))
        ∙ own (follow None (change m.term None (last s) [] s))
        ∙ cond-true (is_leader s.role) (cond m.ok (take_ack m s) (step_back m s)) s (ap is_leader waits.may.leads)

    by : (b : Bool) → Waits i most (cond b (take_ack m s) (step_back m s))
        × Hears i s (cond b (take_ack m s) (step_back m s))
        × (b ≡ true → i ≤ m.index.0 → HasUpTo i m.from.0 (cond b (take_ack m s) (step_back m s)).peers)
    by true = let a = ack-hears i most m s waits.may in (a.0, a.1, λ _ le. a.2 le)
    by false = let b = back-hears i most m s waits in (b.0, b.1, λ e. absurd (let x : false ≡ true = e in cc))

-- ---- a notice

pub greater-high : (a b : ℕ) → a ≤ b → greater a b ≡ b
greater-high a b le =
    cond_both (ltb a b) b a (λ (n : ℕ). n ≡ b) (λ _. refl)
    (λ e. (let more = ltb-false a b e in omega (arith, le, more)))

pub record Notices (i : ℕ) (s t : Server) : Type 0 where
  pub node : t.node ≡ s.node
  pub term : t.term ≡ s.term
  pub log : t.log ≡ s.log
  pub ops : t.ops ≡ s.ops
  pub out : t.out ≡ s.out ++ []
  pub op : t.op ≡ s.op
  pub peers : t.peers ≡ s.peers
  pub rises : s.commit ≤ t.commit
  pub ready : HasOwnCommit s → HasOwnCommit t

-- a leader is told that all its changes are durable
pub notice-waits : (i : ℕ) (most : ℕ → Bool) (s : Server) → s.role ≡ Leader → last s ≡ i
    → term_at s.log i ≡ s.term.0 → s.commit ≤ i
    → is_majority true (λ p. most p.node.0) s.peers ≡ true → s.noticed ≤ s.op → s.waiting ≡ []
    → Waits i most (notice s.op s) × Notices i s (notice s.op s)
unfolding notice lead_if_elected
notice-waits i most s leads last_is own within majority le none = (
  subst (Waits i most) (sym (ap advance is)) (advance-waits i most told (record {
    leads = leads;
    last_is = last_is;
    own = own;
    within = within;
    noticed = refl;
    majority = majority;
  })),
  let a = advances told leads in
      let all = ap advance is ∙ a.is in
      let rose = a.rises in
      record {
        node = ap (λ (x : Server). x.node) all;
        term = ap (λ (x : Server). x.term) all;
        log = ap (λ (x : Server). x.log) all;
        ops = ap (λ (x : Server). x.ops) all;
        out = ap (λ (x : Server). x.out) all;
        op = ap (λ (x : Server). x.op) all;
        peers = ap (λ (x : Server). x.peers) all;
        rises = subst (λ (x : Server). s.commit ≤ x.commit) (sym all) rose;
        ready = λ old. subst HasOwnCommit (sym (ap advance is)) (a.own old);
      },
)
  where
    told : Server
    told = record s { noticed = s.op; out = s.out ++ []; waiting = [] }

    taken : take_notice (greater s.noticed s.op) s ≡ told
    taken =
        ap (λ (n : ℕ). take_notice n s) (greater-high s.noticed s.op le)
        ∙ ap (λ (ws : List Waiting). record s { noticed = s.op; out = s.out ++ free s.op ws; waiting = still_waiting s.op ws })
        none

    is : lead_if_elected (take_notice (greater s.noticed s.op) s) ≡ told
    is =
        ap lead_if_elected taken
        ∙ cond-false (is_elected told) (lead told) told
        (ap (λ (r : Role). is_candidate r && is_majority (leb s.op s.op) (λ p. p.granted) s.peers) leads)
