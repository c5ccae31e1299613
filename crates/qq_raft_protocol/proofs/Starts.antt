-- A world with the disks of a start, and with leaders' logs, votes and acknowledgements that such disks speak of.
use Rattle.std.proofs.Common.{◌≡◌, ◌⊎◌, ℕ, zero, suc, ◌+◌, ◌≤◌, ◌<◌, true, List, [], ◌∷◌, ◌++◌, map, length, Option, Some, None, refl, sym, ap, subst, ◌∙◌, arith, inl, inr}
use Rattle.std.specs.Prelude.{filter}
use Rattle.std.proofs.lemmas.Bool.{cases_eq}
use Rattle.qq_base.specs.Fronts.{IsFront}
use Rattle.qq_base.proofs.Fronts.{front-refl, front-trans}
use Rattle.qq_entry.specs.declared.command.Entry.{Entry}
use Rattle.qq_raft_protocol.specs.World.{Lane, Member, Grant, Ack, World, lanes, start_world}
use Rattle.qq_raft_protocol.specs.Facts.{add, In, Within, Good, Point}
use Rattle.qq_raft_protocol.specs.Safe.{IsCarried, IsElected}
use Rattle.qq_raft_protocol.specs.Starts.{IsStart, WasThere}
use Rattle.qq_raft_protocol.proofs.Kept.{not_empty}
use Rattle.qq_raft_protocol.proofs.Lists.{In-front, In-left, In-right, In-append, In-map, map-In, In-filter, filter-In, In-cases}
use Rattle.qq_raft_protocol.proofs.Logs.{In-add, Within-add, last_of}
use Rattle.qq_raft_protocol.proofs.Roles.{none_some, some_same}
use Rattle.qq_raft_protocol.proofs.Tops.{Top, HasTop, EndsIn, Found, list_of, top-front, ends_whole, last_ends, top_over}

-- ---- the logs of terms

-- a front of a member's lane that ends with an entry of a term
abbrev pub Spot : List ℕ → (ℕ → Member) → ℕ → List Entry → Type 0
Spot members member t = Found members (λ q. Found (lanes (member q)) (λ l. EndsIn t l.log))

ends_agree : {members : List ℕ} {member : ℕ → Member} {audit : List Entry} (st : IsStart members member audit)
    (t p q : ℕ) (l m : Lane) → In l (lanes (member p)) → In m (lanes (member q)) → (a b : List Entry)
    → EndsIn t l.log a → EndsIn t m.log b → IsFront a b ⊎ IsFront b a
ends_agree st t p q l m here there a b x y =
    subst (λ (z : List Entry). IsFront z b ⊎ IsFront b z) (sym x.is)
    (subst (λ (z : List Entry). IsFront (add x.before x.entry) z ⊎ IsFront z (add x.before x.entry)) (sym y.is)
    (st.supported.logs_match p q l m here there x.before y.before x.entry y.entry (ends_whole x) (ends_whole y)
    (x.term ∙ sym y.term)))

lanes_top : {members : List ℕ} {member : ℕ → Member} {audit : List Entry} → IsStart members member audit
    → (t q : ℕ) → HasTop (Found (lanes (member q)) (λ l. EndsIn t l.log))
lanes_top {member = member} st t q =
    top_over (lanes (member q)) (λ l. EndsIn t l.log) (λ l. last_ends t l.log)
    (λ l m here there a b x y. ends_agree st t q q l m here there a b x y)

-- the log of a term's leader: the longest front of a member's lane that ends with an entry of the term
pub top_of : {members : List ℕ} {member : ℕ → Member} {audit : List Entry} → IsStart members member audit
    → (t : ℕ) → HasTop (Spot members member t)
top_of {members} {member} st t =
    top_over members (λ q. Found (lanes (member q)) (λ l. EndsIn t l.log)) (λ q. lanes_top st t q)
    (λ p q inside other a b x y. ends_agree st t p q x.item y.item x.here y.here a b x.is y.is)

pub spot : {members : List ℕ} {member : ℕ → Member} {a : List Entry} {e : Entry} (p : WasThere members member a e)
    → Spot members member e.term.0 (add a e)
spot {a = a} {e = e} p = record {
  item = p.node;
  here = p.inside;
  is = record {
    item = p.lane;
    here = p.here;
    is = record { before = a; entry = e; term = refl; is = refl; front = p.front };
  };
}

pub list_place : {members : List ℕ} {member : ℕ → Member} (t : ℕ) (h : HasTop (Spot members member t))
    (a : List Entry) (e : Entry) → IsFront (add a e) (list_of h) → WasThere members member a e
list_place t (inl top) a e front =
    let s = top.is in
    record {
      node = s.item;
      inside = s.here;
      lane = s.is.item;
      here = s.is.here;
      front = front-trans front s.is.is.front;
    }
list_place t (inr none) a e front = absurd (not_empty a [] e front refl)

pub list_within : {members : List ℕ} {member : ℕ → Member} {audit : List Entry} → IsStart members member audit
    → (t : ℕ) (h : HasTop (Spot members member t)) → Within t (list_of h)
list_within st t (inl top) =
    let s = top.is in
    let x = s.is.is in
    let rise = st.supported.terms_rise s.item s.is.item s.is.here x.before x.entry (ends_whole x) in
    let term : x.entry.term.0 ≡ t = x.term in
    subst (Within t) (sym x.is)
    (Within-add x.before x.entry (subst (λ (i : ℕ). Within i x.before) term rise.0) (omega (arith, term)))
list_within st t (inr none) = λ e here. absurd here

-- ---- elections

-- the election of a term of which there is an entry
pub elected_at : {members : List ℕ} {member : ℕ → Member} {audit : List Entry} → IsStart members member audit
    → (t : ℕ) → Top (Spot members member t) → IsElected members (λ q l. In l (lanes (member q))) t
elected_at {members} {member} st t top =
    let s = top.is in
    let x = s.is.is in
    subst (IsElected members (λ q l. In l (lanes (member q)))) x.term
    (st.supported.elected s.item s.is.item s.is.here x.entry
    (In-front x.entry (ends_whole x) (In-add x.before x.entry)))

abbrev pub lead_by : {members : List ℕ} {member : ℕ → Member} {audit : List Entry} → IsStart members member audit
    → (t : ℕ) → HasTop (Spot members member t) → Option ℕ
lead_by st t (inl top) = Some (elected_at st t top).node
lead_by st t (inr none) = None

-- what it is that a term has a leader
pub record Reign {members : List ℕ} {member : ℕ → Member} {audit : List Entry} (st : IsStart members member audit)
    (t c : ℕ) : Type 0 where
  pub top : Top (Spot members member t)
  pub is : top_of st t ≡ inl top
  pub node : (elected_at st t top).node ≡ c

reign_by : {members : List ℕ} {member : ℕ → Member} {audit : List Entry} (st : IsStart members member audit)
    (t c : ℕ) (h : HasTop (Spot members member t)) → top_of st t ≡ h → lead_by st t h ≡ Some c → Reign st t c
reign_by st t c (inl top) e lead =
    record { top = top; is = e; node = some_same (elected_at st t top).node c lead }
reign_by st t c (inr none) e lead = absurd (none_some None c refl lead)

pub reign : {members : List ℕ} {member : ℕ → Member} {audit : List Entry} (st : IsStart members member audit)
    (t c : ℕ) → lead_by st t (top_of st t) ≡ Some c → Reign st t c
reign st t c lead = reign_by st t c (top_of st t) refl lead

-- ---- votes

-- a vote of a term's majority, for the log of the term's leader
abbrev pub vote_of : (ℕ → Member) → (t node : ℕ) → List Entry → ℕ → Grant
vote_of member t node log q = record { from = q; to = node; term = t; op = (member q).noticed; log = log }

abbrev pub votes_by : {members : List ℕ} {member : ℕ → Member} {audit : List Entry} → IsStart members member audit
    → (t : ℕ) → HasTop (Spot members member t) → List Grant
votes_by {members} {member} st t (inl top) =
    let x = elected_at st t top in
    map (vote_of member t x.node top.list) (filter x.majority.counts members)
votes_by st t (inr none) = []

abbrev pub votes_below : {members : List ℕ} {member : ℕ → Member} {audit : List Entry} → IsStart members member audit
    → ℕ → List Grant
votes_below st zero = []
votes_below st (suc n) = votes_by st n (top_of st n) ++ votes_below st n

pub record IsVote {members : List ℕ} {member : ℕ → Member} {audit : List Entry} (st : IsStart members member audit)
    (t : ℕ) (top : Top (Spot members member t)) (g : Grant) : Type 0 where
  pub inside : In g.from members
  pub counts : (elected_at st t top).majority.counts g.from ≡ true
  pub to : g.to ≡ (elected_at st t top).node
  pub term : g.term ≡ t
  pub op : g.op ≡ (member g.from).noticed
  pub log : g.log ≡ top.list

-- where a vote comes from
pub record Voted {members : List ℕ} {member : ℕ → Member} {audit : List Entry} (st : IsStart members member audit)
    (g : Grant) : Type 0 where
  pub at : ℕ
  pub top : Top (Spot members member at)
  pub is : top_of st at ≡ inl top
  pub vote : IsVote st at top g

voted_by : {members : List ℕ} {member : ℕ → Member} {audit : List Entry} (st : IsStart members member audit)
    (g : Grant) (t : ℕ) (h : HasTop (Spot members member t)) → top_of st t ≡ h → In g (votes_by st t h) → Voted st g
voted_by {members} {member} st g t (inl top) e here =
    let x = elected_at st t top in
    let m = In-map (vote_of member t x.node top.list) g (filter x.majority.counts members) here in
    let r = In-filter x.majority.counts m.item members m.here in
    record {
      at = t;
      top = top;
      is = e;
      vote = subst (IsVote st t top) (sym m.is) (record {
        inside = r.0;
        counts = r.1;
        to = refl;
        term = refl;
        op = refl;
        log = refl;
      });
    }
voted_by st g t (inr none) e here = absurd here

pub voted : {members : List ℕ} {member : ℕ → Member} {audit : List Entry} (st : IsStart members member audit)
    (g : Grant) (n : ℕ) → In g (votes_below st n) → Voted st g
voted st g zero here = absurd here
voted st g (suc n) here =
    elim (In-append g (votes_by st n (top_of st n)) (votes_below st n) here) [
      | inl now ↦ voted_by st g n (top_of st n) refl now
      | inr before ↦ voted st g n before
    ]

below : {members : List ℕ} {member : ℕ → Member} {audit : List Entry} (st : IsStart members member audit)
    (g : Grant) (t n : ℕ) → t < n → In g (votes_by st t (top_of st t)) → In g (votes_below st n)
below st g t zero lt here = absurd (omega (arith, lt))
below st g t (suc n) lt here =
    elim (cases_eq t n) [
      | inl same ↦
          In-left g (votes_by st n (top_of st n)) (votes_below st n)
          (subst (λ (i : ℕ). In g (votes_by st i (top_of st i))) same here)
      | inr other ↦
          In-right g (votes_by st n (top_of st n)) (votes_below st n)
          (below st g t n (omega (arith, lt, other)) here)
    ]

-- ---- no term of an entry is above all these

abbrev lane_terms : List Lane → ℕ
lane_terms [] = 0
lane_terms (l ∷ ls) = l.term + lane_terms ls

abbrev pub terms_of : (ℕ → Member) → List ℕ → ℕ
terms_of member [] = 0
terms_of member (q ∷ qs) = lane_terms (lanes (member q)) + terms_of member qs

lane_within : (l : Lane) (ls : List Lane) → In l ls → l.term ≤ lane_terms ls
lane_within l [] here = absurd here
lane_within l (m ∷ ls) (inl same) =
    let level : l.term ≡ m.term = ap (λ (x : Lane). x.term) same in omega (arith, level)
lane_within l (m ∷ ls) (inr later) = let le = lane_within l ls later in omega (arith, le)

member_within : (member : ℕ → Member) (q : ℕ) (qs : List ℕ) → In q qs
    → lane_terms (lanes (member q)) ≤ terms_of member qs
member_within member q [] here = absurd here
member_within member q (p ∷ qs) (inl same) =
    let level : lane_terms (lanes (member q)) ≡ lane_terms (lanes (member p)) =
    ap (λ (i : ℕ). lane_terms (lanes (member i))) same in
    omega (arith, level)
member_within member q (p ∷ qs) (inr later) = let le = member_within member q qs later in omega (arith, le)

top_within : {members : List ℕ} {member : ℕ → Member} {audit : List Entry} → IsStart members member audit
    → (t : ℕ) → Top (Spot members member t) → t < terms_of member members + 1
top_within {members} {member} st t top =
    let s = top.is in
    let x = s.is.is in
    let le : x.entry.term.0 ≤ s.is.item.term =
    (st.supported.terms_rise s.item s.is.item s.is.here x.before x.entry (ends_whole x)).1 in
    let lane : s.is.item.term ≤ lane_terms (lanes (member s.item)) =
    lane_within s.is.item (lanes (member s.item)) s.is.here in
    let all : lane_terms (lanes (member s.item)) ≤ terms_of member members = member_within member s.item members s.here
    in
    let term : x.entry.term.0 ≡ t = x.term in
    omega (arith, le, lane, all, term)

abbrev pub votes : {members : List ℕ} {member : ℕ → Member} {audit : List Entry} → IsStart members member audit
    → List Grant
votes {members} {member} st = votes_below st (terms_of member members + 1)

-- each member of a term's majority voted
pub vote_there : {members : List ℕ} {member : ℕ → Member} {audit : List Entry} (st : IsStart members member audit)
    (t : ℕ) (top : Top (Spot members member t)) → top_of st t ≡ inl top → (q : ℕ) → In q members
    → (elected_at st t top).majority.counts q ≡ true
    → In (vote_of member t (elected_at st t top).node top.list q) (votes st)
vote_there {members} {member} st t top is q inside passes =
    let x = elected_at st t top in
    let g = vote_of member t x.node top.list q in
    below st g t (terms_of member members + 1) (top_within st t top)
    (subst (λ (h : HasTop (Spot members member t)). In g (votes_by st t h)) (sym is)
    (map-In (vote_of member t x.node top.list) q (filter x.majority.counts members)
    (filter-In x.majority.counts q members passes inside)))

-- ---- acknowledgements

-- what carries the audit
abbrev pub Carrier : List ℕ → (ℕ → Member) → List Entry → Type 0
Carrier members member audit = (audit ≡ []) ⊎ IsCarried members (λ q l. In l (lanes (member q))) audit

pub carrier : {members : List ℕ} {member : ℕ → Member} {audit : List Entry} → IsStart members member audit
    → Carrier members member audit
carrier {audit = audit} st = elim (last_of audit) [
  | inl nothing ↦ inl nothing
  | inr l ↦ inr (st.supported.carried audit (front-refl audit) l.before l.entry l.is)
]

abbrev pub ack_of : (ℕ → Member) → (t upto : ℕ) → ℕ → Ack
ack_of member t upto q = record { from = q; term = t; upto = upto; op = (member q).noticed }

abbrev pub acks_by : {members : List ℕ} (member : ℕ → Member) {audit : List Entry} → Carrier members member audit
    → List Ack
acks_by member (inl nothing) = []
acks_by {members} member (inr c) =
    map (ack_of member c.entry.term.0 (length (add c.before c.entry))) (filter c.majority.counts members)

pub record IsAck {members : List ℕ} (member : ℕ → Member) {audit : List Entry}
    (c : IsCarried members (λ q l. In l (lanes (member q))) audit) (x : Ack) : Type 0 where
  pub inside : In x.from members
  pub counts : c.majority.counts x.from ≡ true
  pub term : x.term ≡ c.entry.term.0
  pub upto : x.upto ≡ length (add c.before c.entry)
  pub op : x.op ≡ (member x.from).noticed

pub acked_at : {members : List ℕ} (member : ℕ → Member) {audit : List Entry}
    (c : IsCarried members (λ q l. In l (lanes (member q))) audit) (x : Ack)
    → In x (map (ack_of member c.entry.term.0 (length (add c.before c.entry))) (filter c.majority.counts members))
    → IsAck member c x
acked_at {members} member c x here =
    let m = In-map (ack_of member c.entry.term.0 (length (add c.before c.entry))) x (filter c.majority.counts members)
    here in
    let r = In-filter c.majority.counts m.item members m.here in
    subst (IsAck member c) (sym m.is) (record { inside = r.0; counts = r.1; term = refl; upto = refl; op = refl })

pub ack_there : {members : List ℕ} (member : ℕ → Member) {audit : List Entry}
    (c : IsCarried members (λ q l. In l (lanes (member q))) audit) (q : ℕ) → In q members
    → c.majority.counts q ≡ true
    → In (ack_of member c.entry.term.0 (length (add c.before c.entry)) q)
    (map (ack_of member c.entry.term.0 (length (add c.before c.entry))) (filter c.majority.counts members))
ack_there {members} member c q inside passes =
    map-In (ack_of member c.entry.term.0 (length (add c.before c.entry))) q (filter c.majority.counts members)
    (filter-In c.majority.counts q members passes inside)

-- ---- the world

abbrev pub shaded_start : {members : List ℕ} {member : ℕ → Member} {audit : List Entry}
    → IsStart members member audit → World
shaded_start {member = member} {audit = audit} st =
    record (start_world member audit) {
      hist = λ t. list_of (top_of st t);
      lead = λ t. lead_by st t (top_of st t);
      grants = votes st;
      acks = acks_by member (carrier st);
    }

pub place_point : {members : List ℕ} {member : ℕ → Member} {audit : List Entry} {a : List Entry} {e : Entry}
    (st : IsStart members member audit) → WasThere members member a e → Point (shaded_start st) a e
place_point {a = a} {e = e} st p = top-front (top_of st e.term.0) (add a e) (spot p)

pub point_place : {members : List ℕ} {member : ℕ → Member} {audit : List Entry} (a : List Entry) (e : Entry)
    (st : IsStart members member audit) → Point (shaded_start st) a e → WasThere members member a e
point_place a e st point = list_place e.term.0 (top_of st e.term.0) a e point

pub start_good : {members : List ℕ} {member : ℕ → Member} {audit : List Entry} (st : IsStart members member audit)
    (q : ℕ) (l : Lane) → In l (lanes (member q)) → Good (shaded_start st) l.log
start_good {members} st q l here a e front =
    elim (In-cases q members) [
      | inl inside ↦
          place_point st (record { node = q; inside = inside; lane = l; here = here; front = front })
      | inr away ↦ absurd (not_empty a l.log e front (st.others q away l here))
    ]
