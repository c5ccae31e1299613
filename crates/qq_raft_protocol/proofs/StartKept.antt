-- The invariant holds of a start.
use Rattle.std.proofs.Common.{◌≡◌, ◌⊎◌, ℕ, ◌+◌, ◌≤◌, ◌<◌, true, List, [], length, Some, None, refl, sym, ap, subst, ◌∙◌, arith, inl, inr}
use Rattle.std.proofs.lemmas.Bool.{cases_eq, cases_lt}
use Rattle.qq_base.specs.Fronts.{IsFront}
use Rattle.qq_base.proofs.Fronts.{front-nil, front-trans, front-compare, front-length, front-shorter}
use Rattle.qq_entry.specs.declared.command.Entry.{Entry}
use Rattle.qq_raft_protocol.specs.World.{Lane, Member, Grant, Ack, World, lanes}
use Rattle.qq_raft_protocol.specs.Facts.{add, In, Within, Most, Point, Acked, Holds, Settled, Elects}
use Rattle.qq_raft_protocol.specs.Safe.{IsCarried}
use Rattle.qq_raft_protocol.specs.Starts.{IsStart}
use Rattle.qq_raft_protocol.proofs.Kept.{Kept, GrantKept, AckKept, voted_term}
use Rattle.qq_raft_protocol.proofs.Lists.{In-front}
use Rattle.qq_raft_protocol.proofs.Logs.{length-add, In-add, In-place}
use Rattle.qq_raft_protocol.proofs.Majorities.{shared}
use Rattle.qq_raft_protocol.proofs.Roles.{follower_leads, follower_asks, some_same}
use Rattle.qq_raft_protocol.proofs.Starts.{Spot, Reign, Voted, IsAck, Carrier, shaded_start, top_of, list_place, list_within, elected_at, lead_by, reign, vote_of, vote_there, voted, terms_of, carrier, ack_of, acks_by, acked_at, ack_there, place_point, start_good}
use Rattle.qq_raft_protocol.proofs.Tops.{Top, HasTop, list_of, ends_whole}

-- ---- what carries the audit

-- it is in the log of its last entry's term
carried_point : {members : List ℕ} {member : ℕ → Member} {audit : List Entry} (st : IsStart members member audit)
    (c : IsCarried members (λ q l. In l (lanes (member q))) audit) → Point (shaded_start st) c.before c.entry
carried_point {member = member} st c =
    let q = shared c.majority c.majority in
    place_point st (record {
      node = q.who;
      inside = q.here;
      lane = (member q.who).mine;
      here = inl refl;
      front = q.first (member q.who).mine (inl refl);
    })

carried_reaches : {members : List ℕ} {member : ℕ → Member} {audit : List Entry} (st : IsStart members member audit)
    (c : IsCarried members (λ q l. In l (lanes (member q))) audit) (q : ℕ) → In q members
    → c.majority.counts q ≡ true → (l : Lane) → In l (lanes (member q)) → c.entry.term.0 ≤ l.term
carried_reaches st c q inside passes l here =
    (st.supported.terms_rise q l here c.before c.entry (c.majority.each q inside passes l here)).1

-- and in the log of each later term
carried_in : {members : List ℕ} {member : ℕ → Member} {audit : List Entry} (st : IsStart members member audit)
    (c : IsCarried members (λ q l. In l (lanes (member q))) audit) (t : ℕ) (top : Top (Spot members member t))
    → c.entry.term.0 < t → IsFront (add c.before c.entry) top.list
carried_in {member = member} st c t top lt =
    let s = top.is in
    let x = s.is.is in
    let term : x.entry.term.0 ≡ t = x.term in
    let lane : IsFront (add c.before c.entry) s.is.item.log = c.later s.item s.is.item s.is.here x.before x.entry
    (ends_whole x) (omega (arith, lt, term)) in
    elim (front-compare lane x.front) [
      | inl shorter ↦ shorter
      | inr longer ↦
          let inside : In x.entry (add c.before c.entry) = In-front x.entry longer
          (subst (In x.entry) (sym x.is) (In-add x.before x.entry)) in
          let q = shared c.majority c.majority in
          let mine = (member q.who).mine in
          let place = In-place x.entry (add c.before c.entry) inside in
          let le : x.entry.term.0 ≤ c.entry.term.0 = list_within st c.entry.term.0 (top_of st c.entry.term.0) x.entry
          (In-front x.entry (carried_point st c) inside) in
          absurd (omega (arith, lt, term, le))
    ]

-- an entry of an earlier term is in a term's log, or nobody acknowledged it
acked_by_cases : {members : List ℕ} {member : ℕ → Member} {audit : List Entry} (st : IsStart members member audit)
    (h : Carrier members member audit) (t : ℕ) (top : Top (Spot members member t)) (a : List Entry) (e : Entry)
    → Point (shaded_start st) a e → e.term.0 < t
    → IsFront (add a e) top.list ⊎ ((q : ℕ) → Acked (acks_by member h) a e q → ⊥)
acked_by_cases st (inl nothing) t top a e p lt = inr (λ q x. x.said)
acked_by_cases {member = member} st (inr c) t top a e p lt =
    elim (cases_eq c.entry.term.0 e.term.0) [
      | inr other ↦ inr (λ q x.
          let is = acked_at member c x.ack x.said in
          other (sym is.term ∙ x.term))
      | inl same ↦ elim (cases_lt (length a) (length (add c.before c.entry))) [
        | inr past ↦ inr (λ q x.
            let is = acked_at member c x.ack x.said in
            let upto : x.ack.upto ≡ length (add c.before c.entry) = is.upto in
            let reaches : length a < x.ack.upto = x.reaches in
            omega (arith, past, upto, reaches))
        | inl inside ↦
            let own : IsFront (add a e) (list_of (top_of st c.entry.term.0)) =
            subst (λ (i : ℕ). IsFront (add a e) (list_of (top_of st i))) (sym same) p in
            let front : IsFront (add a e) (add c.before c.entry) =
            front-shorter own (carried_point st c) (omega (arith, inside, length-add a e)) in
            inl (front-trans front (carried_in st c t top (omega (arith, same, lt))))
      ]
    ]

acked_or_not : {members : List ℕ} {member : ℕ → Member} {audit : List Entry} (st : IsStart members member audit)
    (t : ℕ) (top : Top (Spot members member t)) (a : List Entry) (e : Entry)
    → Point (shaded_start st) a e → e.term.0 < t
    → IsFront (add a e) top.list ⊎ ((q : ℕ) → Acked (acks_by member (carrier st)) a e q → ⊥)
acked_or_not st t top a e p lt = acked_by_cases st (carrier st) t top a e p lt

-- ---- elections

list-at : {members : List ℕ} {member : ℕ → Member} {audit : List Entry} (st : IsStart members member audit)
    (t : ℕ) (top : Top (Spot members member t)) → top_of st t ≡ inl top → list_of (top_of st t) ≡ top.list
list-at {members} {member} st t top is = ap (λ (h : HasTop (Spot members member t)). list_of h) is

start_won : {members : List ℕ} {member : ℕ → Member} {audit : List Entry} (st : IsStart members member audit)
    (t c : ℕ) → Reign st t c → Most members (Elects (shaded_start st) t c)
start_won {member = member} st t c r =
    let x = elected_at st t r.top in
    record {
      counts = x.majority.counts;
      majority = x.majority.majority;
      each = λ q inside passes. record {
        grant = vote_of member t x.node r.top.list q;
        said = vote_there st t r.top r.is q inside passes;
        from = refl;
        to = r.node;
        term = refl;
        durable = omega arith;
      };
    }

-- a node's lanes have the terms that it leads, or later ones
start_led : {members : List ℕ} {member : ℕ → Member} {audit : List Entry} (st : IsStart members member audit)
    (t c : ℕ) → Reign st t c → (l : Lane) → In l (lanes (member c)) → t ≤ l.term
start_led {member = member} st t c r l here =
    (elected_at st t r.top).own l (subst (λ (j : ℕ). In l (lanes (member j))) (sym r.node) here)

start_safe : {members : List ℕ} {member : ℕ → Member} {audit : List Entry} (st : IsStart members member audit)
    (t c : ℕ) → Reign st t c → (a : List Entry) (e : Entry) → Point (shaded_start st) a e → e.term.0 < t
    → Holds members (shaded_start st) a e (list_of (top_of st t))
start_safe {members} {member} st t c r a e p lt =
    let x = elected_at st t r.top in
    elim (acked_or_not st t r.top a e p lt) [
      | inl front ↦ inl (subst (IsFront (add a e)) (sym (list-at st t r.top r.is)) front)
      | inr unacked ↦ inr (record {
        counts = x.majority.counts;
        majority = x.majority.majority;
        each = λ q inside passes. record {
          unacked = unacked q;
          later = λ l here.
              let le = voted_term t x.node l (x.majority.each q inside passes l here) in
              omega (arith, lt, le);
        };
      })
    ]

-- ---- votes

vote_reign : {members : List ℕ} {member : ℕ → Member} {audit : List Entry} (st : IsStart members member audit)
    (g : Grant) → Voted st g → Reign st g.term g.to
vote_reign st g v =
    subst (λ (i : ℕ). Reign st i g.to) (sym v.vote.term)
    (record { top = v.top; is = v.is; node = sym v.vote.to })

reign_leads : {members : List ℕ} {member : ℕ → Member} {audit : List Entry} (st : IsStart members member audit)
    (t c : ℕ) → Reign st t c → lead_by st t (top_of st t) ≡ Some c
reign_leads {members} {member} st t c r =
    ap (λ (h : HasTop (Spot members member t)). lead_by st t h) r.is ∙ ap (λ (n : ℕ). Some n) r.node

start_once : {members : List ℕ} {member : ℕ → Member} {audit : List Entry} (st : IsStart members member audit)
    (g h : Grant) → Voted st g → Voted st h → g.term ≡ h.term → g.to ≡ h.to
start_once st g h v u same =
    some_same g.to h.to (sym (reign_leads st g.term g.to (vote_reign st g v))
    ∙ ap (λ (t : ℕ). lead_by st t (top_of st t)) same ∙ reign_leads st h.term h.to (vote_reign st h u))

start_grant : {members : List ℕ} {member : ℕ → Member} {audit : List Entry} (st : IsStart members member audit)
    (g : Grant) → Voted st g → GrantKept g (member g.from)
start_grant {member = member} st g v =
    let x = elected_at st v.at v.top in
    let op : g.op ≡ (member g.from).noticed = v.vote.op in
    let noticed : (member g.from).noticed ≤ (member g.from).mine.op = st.noticed g.from (member g.from).mine (inl refl)
    in
    record {
      op = omega (arith, op, noticed);
      each = λ l here reach.
          elim (x.majority.each g.from v.vote.inside v.vote.counts l here) [
            | inl lt ↦ let term : g.term ≡ v.at = v.vote.term in inl (omega (arith, lt, term))
            | inr same ↦ inr (same.0 ∙ sym v.vote.term, same.1 ∙ ap (λ (n : ℕ). Some n) (sym v.vote.to))
          ];
    }

start_vote : {members : List ℕ} {member : ℕ → Member} {audit : List Entry} (st : IsStart members member audit)
    (g : Grant) → Voted st g → (a : List Entry) (e : Entry) → Point (shaded_start st) a e → e.term.0 < g.term
    → Acked (acks_by member (carrier st)) a e g.from → Holds members (shaded_start st) a e g.log
start_vote st g v a e p lt acked =
    let term : g.term ≡ v.at = v.vote.term in
    elim (acked_or_not st v.at v.top a e p (omega (arith, lt, term))) [
      | inl front ↦ inl (subst (IsFront (add a e)) (sym v.vote.log) front)
      | inr unacked ↦ absurd (unacked g.from acked)
    ]

-- ---- acknowledgements

start_ack : {members : List ℕ} {member : ℕ → Member} {audit : List Entry} (st : IsStart members member audit)
    (c : IsCarried members (λ q l. In l (lanes (member q))) audit) (x : Ack) → IsAck member c x
    → AckKept members (shaded_start st) x (member x.from)
start_ack {member = member} st c x is =
    let carries = add c.before c.entry in
    let op : x.op ≡ (member x.from).noticed = is.op in
    let noticed : (member x.from).noticed ≤ (member x.from).mine.op = st.noticed x.from (member x.from).mine (inl refl)
    in
    let upto : x.upto ≡ length carries = is.upto in
    let term : x.term ≡ c.entry.term.0 = is.term in
    let at : IsFront carries (list_of (top_of st x.term)) =
    subst (λ (i : ℕ). IsFront carries (list_of (top_of st i))) (sym term) (carried_point st c) in
    record {
      upto = let long = front-length at in omega (arith, upto, long);
      op = omega (arith, op, noticed);
      each = λ l here reach.
          let own : c.entry.term.0 ≤ l.term = carried_reaches st c x.from is.inside is.counts l here in
          record {
            term = omega (arith, term, own);
            entries = λ a e p same lt.
                let point : IsFront (add a e) (list_of (top_of st x.term)) =
                subst (λ (i : ℕ). IsFront (add a e) (list_of (top_of st i))) same p in
                let front : IsFront (add a e) carries = front-shorter point at (omega (arith, lt, upto, length-add a e))
                in
                inl (front-trans front (c.majority.each x.from is.inside is.counts l here));
          };
    }

ack_by : {members : List ℕ} {member : ℕ → Member} {audit : List Entry} (st : IsStart members member audit)
    (h : Carrier members member audit) (x : Ack) → In x (acks_by member h)
    → AckKept members (shaded_start st) x (member x.from)
ack_by st (inl nothing) x said = absurd said
ack_by {member = member} st (inr c) x said = start_ack st c x (acked_at member c x said)

-- ---- the audit

record SettledSome (members : List ℕ) (w : World) (x : List Entry) : Type 0 where
  term : ℕ
  settled : Settled members w term x

audit_by : {members : List ℕ} {member : ℕ → Member} {audit : List Entry} (st : IsStart members member audit)
    (h : Carrier members member audit) → carrier st ≡ h → SettledSome members (shaded_start st) audit
audit_by st (inl nothing) is = record { term = 0; settled = inl nothing }
audit_by {members} {member} {audit} st (inr c) is = record {
  term = c.entry.term.0;
  settled = inr (record {
    before = c.before;
    entry = c.entry;
    term = omega arith;
    point = carried_point st c;
    committed = record {
      counts = c.majority.counts;
      majority = c.majority.majority;
      each = λ q inside passes. record {
        acked = record {
          ack = ack_of member c.entry.term.0 (length (add c.before c.entry)) q;
          said =
              subst (λ (h : Carrier members member audit).
              In (ack_of member c.entry.term.0 (length (add c.before c.entry)) q) (acks_by member h)) (sym is)
              (ack_there member c q inside passes);
          from = refl;
          term = refl;
          reaches = omega (arith, length-add c.before c.entry);
        };
        durable = omega arith;
      };
    };
    front = c.front;
  });
}

-- ---- all of it

lane_within : {members : List ℕ} {member : ℕ → Member} {audit : List Entry} (st : IsStart members member audit)
    (q : ℕ) (l : Lane) → In l (lanes (member q)) → Within l.term l.log
lane_within st q l here e inside =
    let place = In-place e l.log inside in
    (st.supported.terms_rise q l here place.before e place.front).1

unled_by : {members : List ℕ} {member : ℕ → Member} {audit : List Entry} (st : IsStart members member audit)
    (t : ℕ) (h : HasTop (Spot members member t)) → lead_by st t h ≡ None → list_of h ≡ []
unled_by st t (inl top) e = absurd cc
unled_by st t (inr none) e = refl

pub kept-start : {members : List ℕ} {member : ℕ → Member} {audit : List Entry} (st : IsStart members member audit)
    → Kept members (shaded_start st)
kept-start {members} {member} {audit} st =
    let n = terms_of member members + 1 in
    let all = audit_by st (carrier st) refl in
    record {
      noticed = st.noticed;
      older = st.older;
      good = λ q l here. start_good st q l here;
      within = λ q l here. lane_within st q l here;
      hist_good = λ t a e front. place_point st (list_place t (top_of st t) a e front);
      hist_within = λ t. list_within st t (top_of st t);
      unled = λ t e. unled_by st t (top_of st t) e;
      won = λ t c lead. start_won st t c (reign st t c lead);
      led = λ q t lead l here. start_led st t q (reign st t q lead) l here;
      safe = λ t c lead a e p lt. start_safe st t c (reign st t c lead) a e p lt;
      ask_good = λ x said. absurd said;
      ask = λ q x said. absurd said;
      grant = λ q g said from.
          subst (λ (j : ℕ). GrantKept g (member j)) from (start_grant st g (voted st g n said));
      asked = λ q g said to.
          inr (λ l here.
          start_led st g.term g.to (vote_reign st g (voted st g n said)) l
          (subst (λ (j : ℕ). In l (lanes (member j))) (sym to) here));
      once = λ g h first second from term. start_once st g h (voted st g n first) (voted st h n second) term;
      vote = λ g said a e p lt acked. start_vote st g (voted st g n said) a e p lt acked;
      leader = λ q is. absurd (follower_leads is);
      candidate = λ q is. absurd (follower_asks is);
      sent = λ s said. absurd said;
      ack = λ q x said from.
          subst (λ (j : ℕ). AckKept members (shaded_start st) x (member j)) from (ack_by st (carrier st) x said);
      done = λ q. record { front = front-nil (member q).mine.log; settled = inl refl };
      audit_term = all.term;
      audit = all.settled;
      dones = λ q. front-nil audit;
    }
