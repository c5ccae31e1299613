-- Whether a term may have had its election.
use Rattle.std.proofs.Common.{◌≡◌, ◌⊎◌, ℕ, ◌+◌, ◌*◌, ◌<◌, ◌≤◌, Bool, true, false, cond, List, [], ◌∷◌, length, Option, Some, None, refl, sym, ap, subst, ◌∙◌, arith, inl, inr}
use Rattle.std.specs.Bool.{Decides}
use Rattle.std.specs.Prelude.{nat_eq, nat_le, nat_lt, ◌&&◌}
use Rattle.std.proofs.lemmas.Bool.{and_from, and_parts, eq-eqb, false≢true, le-leb, le-ltb, leb-true, lt-ltb, ltb-true}
use Rattle.std.proofs.lemmas.Bool.Decides.{Decides-and, Decides-eqb, Decides-like, Decides-ltb, Decides-or}
use Rattle.std.proofs.lemmas.List.{length-map}
use Rattle.qq_base.specs.declared.ids.NodeId.{NodeId}
use Rattle.qq_entry.specs.declared.command.Entry.{Entry}
use Rattle.qq_raft_protocol.specs.World.{Lane}
use Rattle.qq_raft_protocol.specs.Facts.{In, tally}
use Rattle.qq_raft_protocol.specs.Safe.{HasVoted}
use Rattle.qq_raft_protocol.proofs.Lists.{In-map}
use Rattle.qq_raft_protocol.proofs.Majorities.{choose}
use Rattle.qq_agree.specs.Support.{HasElection, number, numbers}
use Rattle.qq_agree.specs.Tests.{has_election, has_voted, have_elections, is_vote, may_lead, may_lead_by, named}
use Rattle.qq_agree.proofs.Tests.{Has, has-list_any, list_all-decides, list_any-has}

-- ---- votes

vote-decides : (c : ℕ) (o : Option ℕ) → Decides (is_vote c o) (o ≡ Some c)
vote-decides c None = (λ pass. absurd (false≢true pass), λ e. absurd cc)
vote-decides c (Some v) = Decides-like (nat_eq v c) (λ e. ap Some e) (λ e. cc) (Decides-eqb v c)

has_voted-decides : (t c : ℕ) (l : Lane) → Decides (has_voted t c l) (HasVoted t c l)
has_voted-decides t c l =
    Decides-or (nat_lt t l.term) (nat_eq l.term t && is_vote c l.vote) (Decides-ltb t l.term)
    (Decides-and (nat_eq l.term t) (is_vote c l.vote) (Decides-eqb l.term t) (vote-decides c l.vote))

-- ---- counts

count : (nodes : List NodeId) → length (numbers nodes) ≡ length nodes
count nodes = length-map nodes number

tally-more : (p r : ℕ → Bool) (ms : List ℕ) → ((q : ℕ) → In q ms → p q ≡ true → r q ≡ true) → tally p ms ≤ tally r ms
tally-more p r [] more = omega arith
tally-more p r (m ∷ ms) more =
    by (p m) (r m) (more m (inl refl)) (tally-more p r ms (λ q here. more q (inr here)))
  where
    by : (x y : Bool) → (x ≡ true → y ≡ true) → tally p ms ≤ tally r ms
        → cond x (1 + tally p ms) (tally p ms) ≤ cond y (1 + tally r ms) (tally r ms)
    by true true first le = omega (arith, le)
    by true false first le = absurd (false≢true (first refl))
    by false true first le = omega (arith, le)
    by false false first le = le

tally-has : (p : ℕ → Bool) (ms : List ℕ) → 0 < tally p ms → Has ms (λ q. p q ≡ true)
tally-has p [] lt = absurd (omega (arith, lt))
tally-has p (m ∷ ms) lt = by (p m) refl (tally-has p ms) lt
  where
    by : (x : Bool) → p m ≡ x → (0 < tally p ms → Has ms (λ q. p q ≡ true))
        → 0 < cond x (1 + tally p ms) (tally p ms) → Has (m ∷ ms) (λ q. p q ≡ true)
    by true is rest some = record { item = m; here = inl refl; is = is }
    by false is rest some =
        let h = rest some in
        record { item = h.item; here = inr h.here; is = h.is }

-- ---- from the test

may_lead-elected : (nodes : List NodeId) (lane : ℕ → Lane) (t c : ℕ) → may_lead nodes lane t c ≡ true
    → HasElection nodes lane t
may_lead-elected nodes lane t c e =
    let voted = λ (k : ℕ). has_voted t c (lane k) in
    let h = and_parts (nat_le t (lane c).term) (nat_lt (length nodes) (2 * tally voted (numbers nodes))) e in
    let most : length nodes < 2 * tally voted (numbers nodes) =
    ltb-true (length nodes) (2 * tally voted (numbers nodes)) h.1 in
    record {
      node = c;
      own = λ l is. subst (λ (x : Lane). t ≤ x.term) (sym is) (leb-true t (lane c).term h.0);
      majority = record {
        counts = voted;
        majority = omega (arith, most, count nodes);
        each = λ q here pass l is. subst (HasVoted t c) (sym is) ((has_voted-decides t c (lane q)).0 pass);
      };
    }

may_lead_by-elected : (nodes : List NodeId) (lane : ℕ → Lane) (t : ℕ) (o : Option ℕ)
    → may_lead_by nodes lane t o ≡ true → HasElection nodes lane t
may_lead_by-elected nodes lane t None e = absurd (false≢true e)
may_lead_by-elected nodes lane t (Some c) e = may_lead-elected nodes lane t c e

elected : (nodes : List NodeId) (lane : ℕ → Lane) (t : ℕ) → has_election nodes lane t ≡ true → HasElection nodes lane t
elected nodes lane t e =
    let test = λ (n : NodeId). may_lead_by nodes lane t (named t n.0 (lane n.0)) in
    let h = list_any-has test nodes e in
    may_lead_by-elected nodes lane t (named t h.item.0 (lane h.item.0)) h.is

-- ---- to the test

-- a member names a node that may lead
names : (nodes : List NodeId) (lane : ℕ → Lane) (t c q : ℕ) → In q (numbers nodes) → named t q (lane q) ≡ Some c
    → may_lead nodes lane t c ≡ true → has_election nodes lane t ≡ true
names nodes lane t c q here is leads =
    let m = In-map number q nodes here in
    let own : named t m.item.0 (lane m.item.0) ≡ Some c = subst (λ (k : ℕ). named t k (lane k) ≡ Some c) m.is is in
    has-list_any (λ (n : NodeId). may_lead_by nodes lane t (named t n.0 (lane n.0))) m.item nodes m.here
    (ap (may_lead_by nodes lane t) own ∙ leads)

leads : (nodes : List NodeId) (lane : ℕ → Lane) (t c : ℕ) (p : ℕ → Bool) → t ≤ (lane c).term
    → length (numbers nodes) < 2 * tally p (numbers nodes)
    → ((q : ℕ) → In q (numbers nodes) → p q ≡ true → HasVoted t c (lane q)) → may_lead nodes lane t c ≡ true
leads nodes lane t c p own most each =
    let voted = λ (k : ℕ). has_voted t c (lane k) in
    let more = tally-more p voted (numbers nodes)
    (λ q here pass. (has_voted-decides t c (lane q)).1 (each q here pass)) in
    and_from (nat_le t (lane c).term) (nat_lt (length nodes) (2 * tally voted (numbers nodes)))
    (le-leb t (lane c).term own)
    (lt-ltb (length nodes) (2 * tally voted (numbers nodes)) (omega (arith, most, more, count nodes)))

-- a member gave its vote in the term
record Voted (lane : ℕ → Lane) (t c q : ℕ) : Type 0 where
  term_is : (lane q).term ≡ t
  vote : (lane q).vote ≡ Some c

voted-names : (t c q : ℕ) (l : Lane) → l.term ≡ t → l.vote ≡ Some c → named t q l ≡ Some c
voted-names t c q l same vote =
    rw (le-ltb t l.term (omega (arith, same)), eq-eqb l.term t same) vote

past-names : (t q : ℕ) (l : Lane) → t < l.term → named t q l ≡ Some q
past-names t q l lt = rw (lt-ltb t l.term lt) refl

is-elected : (nodes : List NodeId) (lane : ℕ → Lane) (t : ℕ) → HasElection nodes lane t
    → has_election nodes lane t ≡ true
is-elected nodes lane t e =
    let m = e.majority in
    let c = e.node in
    let ms = numbers nodes in
    let each : (q : ℕ) → In q ms → m.counts q ≡ true → HasVoted t c (lane q) =
    λ q here pass. m.each q here pass (lane q) refl in
    let split : Has ms (Voted lane t c) ⊎ ((q : ℕ) → In q ms → m.counts q ≡ true → t < (lane q).term) =
    choose ms m.counts (λ q here pass. elim (each q here pass) [
      | inl past ↦ inr past
      | inr voted ↦ inl (record { item = q; here = here; is = record { term_is = voted.0; vote = voted.1 } })
    ]) in
    elim split [
      | inl h ↦
          names nodes lane t c h.item h.here (voted-names t c h.item (lane h.item) h.is.term_is h.is.vote)
          (leads nodes lane t c m.counts (e.own (lane c) refl) m.majority each)
      | inr past ↦
          let some = tally-has m.counts ms (omega (arith, m.majority)) in
          let lt : t < (lane some.item).term = past some.item some.here some.is in
          names nodes lane t some.item some.item some.here (past-names t some.item (lane some.item) lt)
          (leads nodes lane t some.item m.counts (omega (arith, lt)) m.majority (λ q here pass. inl (past q here pass)))
    ]

pub has_election-decides : (nodes : List NodeId) (lane : ℕ → Lane) (t : ℕ)
    → Decides (has_election nodes lane t) (HasElection nodes lane t)
has_election-decides nodes lane t = (elected nodes lane t, is-elected nodes lane t)

pub have_elections-decides : (nodes : List NodeId) (lane : ℕ → Lane) (log : List Entry)
    → Decides (have_elections nodes lane log) ((e : Entry) → In e log → HasElection nodes lane e.term.0)
have_elections-decides nodes lane log =
    list_all-decides (λ (e : Entry). has_election nodes lane e.term.0)
    (λ (e : Entry). HasElection nodes lane e.term.0) log
    (λ e here. has_election-decides nodes lane e.term.0)
