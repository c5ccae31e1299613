-- A vote, and the acknowledgement of what a leader sent.
use Rattle.std.proofs.Common.{◌≡◌, ◌⊎◌, ℕ, ◌≤◌, ◌<◌, List, [], ◌∷◌, length, refl, sym, ap, subst, ◌∙◌, arith, inl, inr}
use Rattle.qq_base.specs.Fronts.{IsFront}
use Rattle.qq_base.proofs.Fronts.{front-refl, front-trans, front-length, front-compare, front-shorter}
use Rattle.qq_entry.specs.declared.command.Entry.{Entry}
use Rattle.qq_raft_protocol.specs.World.{Lane, Ask, Grant, Ack, Sent, World, lanes}
use Rattle.qq_raft_protocol.specs.Facts.{add, In, Good, Point, Acked, Holds}
use Rattle.qq_raft_protocol.specs.Moves.{last_term, IsCurrent, MayVote, HasSent, after, Allowed}
use Rattle.qq_raft_protocol.specs.Moves.Move.{Vote, Reply}
use Rattle.qq_raft_protocol.specs.Safe.{HasVoted}
use Rattle.qq_raft_protocol.proofs.Grows.{Grows, holds-grows, settled-grows, won-grows}
use Rattle.qq_raft_protocol.proofs.Kept.{Kept, GrantKept, AckKept, Has, IsAsked, not_empty, leader_of, newest_vote, acked_holds, ack_grows, sent_grows, done_grows}
use Rattle.qq_raft_protocol.proofs.Roles.{some_same}
use Rattle.qq_raft_protocol.proofs.Logs.{length-add, In-add, Last, last_of, last_term-add}
use Rattle.qq_raft_protocol.proofs.Lists.{In-front}

-- ---- a log that is as up to date holds what the other holds

-- the last entries of two logs
current_lasts : {members : List ℕ} {w : World} {a log own : List Entry} {e : Entry} → Kept members w
    → Good w own → Good w log → Point w a e → IsFront (add a e) own → (o : Last own) → (l : Last log)
    → (o.entry.term.0 < l.entry.term.0) ⊎ ((o.entry.term.0 ≡ l.entry.term.0) × (length own ≤ length log))
    → Holds members w a e log
current_lasts {members} {w} {a} {log} {own} {e} k good_own good p front o l current =
    let own_point : Point w o.before o.entry = good_own o.before o.entry
    (subst (λ x. IsFront x own) o.is (front-refl own)) in
    let point : Point w l.before l.entry = good l.before l.entry (subst (λ x. IsFront x log) l.is (front-refl log)) in
    let inside : In e (add o.before o.entry) = subst (In e) o.is (In-front e front (In-add a e)) in
    let below : e.term.0 ≤ o.entry.term.0 = k.hist_within o.entry.term.0 e (In-front e own_point inside) in
    elim current [
      | inl lt ↦
          let led = leader_of l.before l.entry k point in
          elim (k.safe l.entry.term.0 led.node led.is a e p (omega (arith, below, lt))) [
            | inr dead ↦ inr dead
            | inl there ↦ elim (front-compare there point) [
              | inl q ↦ inl (subst (IsFront (add a e)) (sym l.is) q)
              | inr q ↦
                  let again : In l.entry (add a e) = In-front l.entry q (In-add l.before l.entry) in
                  let le : l.entry.term.0 ≤ e.term.0 = k.hist_within e.term.0 l.entry (In-front l.entry p again) in
                  absurd (omega (arith, below, lt, le))
            ]
          ]
      | inr level ↦
          let own_in : IsFront own (w.hist l.entry.term.0) = subst (λ x. IsFront x (w.hist l.entry.term.0)) (sym o.is)
          (subst (λ (t : ℕ). IsFront (add o.before o.entry) (w.hist t)) level.0 own_point) in
          let log_in : IsFront log (w.hist l.entry.term.0) = subst (λ x. IsFront x (w.hist l.entry.term.0)) (sym l.is)
          point in
          inl (front-trans front (front-shorter own_in log_in level.1))
    ]

current_by : {members : List ℕ} {w : World} {a log own : List Entry} {e : Entry} → Kept members w → Good w own
    → Good w log → Point w a e → IsFront (add a e) own → (o : Last own) → (log ≡ []) ⊎ Last log → IsCurrent own log
    → Holds members w a e log
current_by {members} {w} {a} {log} {own} {e} k good_own good p front o (inl nothing) current =
    let long : length (add a e) ≤ length own = front-length front in
    let none_left : length log ≡ 0 = ap length nothing in
    let last : last_term log ≡ 0 = ap last_term nothing in
    elim current [
      | inl lt ↦ absurd (omega (arith, lt, last))
      | inr level ↦ let le = level.1 in absurd (omega (arith, le, none_left, long, length-add a e))
    ]
current_by {members} {w} {a} {log} {own} {e} k good_own good p front o (inr l) current =
    let own_last : last_term own ≡ o.entry.term.0 = ap last_term o.is ∙ last_term-add o.before o.entry in
    let last : last_term log ≡ l.entry.term.0 = ap last_term l.is ∙ last_term-add l.before l.entry in
    current_lasts k good_own good p front o l (elim current [
      | inl lt ↦ inl (omega (arith, lt, own_last, last))
      | inr level ↦ inr (sym own_last ∙ level.0 ∙ last, level.1)
    ])

current_holds : {members : List ℕ} {w : World} {a log own : List Entry} {e : Entry} → Kept members w → Good w own
    → Good w log → Point w a e → IsFront (add a e) own → IsCurrent own log → Holds members w a e log
current_holds {a = a} {log = log} {own = own} {e = e} k good_own good p front current = elim (last_of own) [
  | inl nothing ↦ absurd (not_empty a own e front nothing)
  | inr o ↦ current_by k good_own good p front o (last_of log) current
]

-- ---- a vote

-- whoever votes has, or refuses, what the candidate's log lacks
vote_holds : {members : List ℕ} {w : World} {a : List Entry} {e : Entry} (i : ℕ) (x : Ask) → Kept members w
    → MayVote w (w.member i).mine x → Point w a e → Acked w.acks a e i → Holds members w a e x.log
vote_holds i x k may p acked = elim (acked_holds k p acked) [
  | inr dead ↦ inr dead
  | inl front ↦
      current_holds k (k.good i _ (inl refl)) (k.ask_good x may.asked) p front may.current
]

abbrev vote_of : World → ℕ → Ask → Grant
vote_of w i x =
    record { from = i; to = x.from; term = x.term; op = (w.member i).mine.op; log = x.log }

-- what a member has voted before in this term was the same
vote_once : {members : List ℕ} {w : World} (i : ℕ) (x : Ask) (g : Grant) → Kept members w
    → MayVote w (w.member i).mine x → In g w.grants → g.from ≡ i → g.term ≡ x.term → g.to ≡ x.from
vote_once {members} {w} i x g k may said from term =
    let level : (w.member i).mine.term ≡ x.term = may.term_is in
    elim (newest_vote i g k said from) [
      | inl lt ↦ absurd (omega (arith, lt, term, level))
      | inr same ↦ sym (some_same x.from g.to (sym may.vote_is ∙ same.1))
    ]

-- of the lanes from a change on only the newest has the number of the newest
newest_only : {members : List ℕ} {w : World} (i : ℕ) (P : Lane → Type 0) → Kept members w → P (w.member i).mine
    → (l : Lane) → In l (lanes (w.member i)) → (w.member i).mine.op ≤ l.op → P l
newest_only i P k own l here reach = elim here [
  | inl same ↦ subst P (sym same) own
  | inr before ↦ let lt = k.older i l before in absurd (omega (arith, lt, reach))
]

new_vote : {members : List ℕ} {w : World} (i : ℕ) (x : Ask) → Kept members w → MayVote w (w.member i).mine x
    → GrantKept (vote_of w i x) (w.member i)
new_vote {w = w} i x k may =
    record {
      op = omega arith;
      each = newest_only i (HasVoted x.term x.from) k (inr (may.term_is, may.vote_is));
    }

-- who asked has only lanes of the term or later ones
asked_lanes : {members : List ℕ} {w : World} {own : Lane} (x : Ask) → Kept members w → MayVote w own x → (l : Lane)
    → In l (lanes (w.member x.from)) → x.term ≤ l.term
asked_lanes {w = w} x k may l here =
    let leave : x.op ≤ (w.member x.from).noticed = may.may_leave in
    let noticed : (w.member x.from).noticed ≤ l.op = k.noticed x.from l here in
    (k.ask x.from x may.asked refl).each l here (omega (arith, leave, noticed))

pub kept-vote : {members : List ℕ} {w : World} (i : ℕ) (x : Ask) → Kept members w
    → Allowed members w (Vote i x) → Kept members (after w (Vote i x))
kept-vote {members} {w} i x k may =
    let m = w.member i in
    let v = after w (Vote i x) in
    let new = vote_of w i x in
    let g : Grows w v = record {
      lane = λ q l here. record { lane = l; here = here; term = omega arith };
      acks = λ y said. inl said;
      stored = λ y said le. (said, le);
      votes = λ y said le. (inr said, le);
      hist = λ t. front-refl (w.hist t);
    } in
    record {
      noticed = k.noticed;
      older = k.older;
      good = k.good;
      within = k.within;
      hist_good = k.hist_good;
      hist_within = k.hist_within;
      unled = k.unled;
      won = λ t c lead. won-grows g (k.won t c lead);
      led = k.led;
      safe = λ t c lead a e p lt. holds-grows g (k.safe t c lead a e p lt);
      ask_good = k.ask_good;
      ask = k.ask;
      grant = λ q y said from. elim said [
        | inr before ↦ k.grant q y before from
        | inl same ↦
            subst (λ (z : Grant). GrantKept z (w.member q)) (sym same)
            (subst (λ (j : ℕ). GrantKept new (w.member j)) (ap (λ (z : Grant). z.from) (sym same) ∙ from)
            (new_vote i x k may))
      ];
      asked = λ q y said to. elim said [
        | inr before ↦ k.asked q y before to
        | inl same ↦
            subst (λ (z : Grant). IsAsked z (w.member q)) (sym same)
            (subst (λ (j : ℕ). IsAsked new (w.member j)) (ap (λ (z : Grant). z.to) (sym same) ∙ to)
            (inr (λ l here. asked_lanes x k may l here)))
      ];
      once = λ y z first second from term. elim first [
        | inr y_before ↦ elim second [
          | inr z_before ↦ k.once y z y_before z_before from term
          | inl z_same ↦
              vote_once i x y k may y_before (from ∙ ap (λ (u : Grant). u.from) z_same)
              (term ∙ ap (λ (u : Grant). u.term) z_same) ∙ ap (λ (u : Grant). u.to) (sym z_same)
        ]
        | inl y_same ↦ elim second [
          | inr z_before ↦
              ap (λ (u : Grant). u.to) y_same
              ∙ sym (vote_once i x z k may z_before (sym from ∙ ap (λ (u : Grant). u.from) y_same)
              (sym term ∙ ap (λ (u : Grant). u.term) y_same))
          | inl z_same ↦ ap (λ (u : Grant). u.to) y_same ∙ ap (λ (u : Grant). u.to) (sym z_same)
        ]
      ];
      vote = λ y said a e p lt acked. elim said [
        | inr before ↦ holds-grows g (k.vote y before a e p lt acked)
        | inl same ↦
            subst (λ (z : Grant). Holds members v a e z.log) (sym same)
            (holds-grows g (vote_holds i x k may p
            (subst (λ (z : Grant). Acked w.acks a e z.from) same acked)))
      ];
      leader = k.leader;
      candidate = λ q is.
          let c = k.candidate q is in
          record {
            other = c.other;
            asked = c.asked;
            given = λ y said to term. elim said [
              | inr before ↦ c.given y before to term
              | inl same ↦
                  ap (λ (z : Grant). z.log) same
                  ∙ c.asked x may.asked (ap (λ (z : Grant). z.to) (sym same) ∙ to)
                  (ap (λ (z : Grant). z.term) (sym same) ∙ term)
            ];
          };
      sent = λ s said. let kept = k.sent s said in sent_grows g kept.lead kept;
      ack = λ q y said from. ack_grows g (λ a e same lt p. p) (k.ack q y said from);
      done = λ q. done_grows g (k.done q);
      audit_term = k.audit_term;
      audit = settled-grows g k.audit;
      dones = k.dones;
    }

-- ---- what a leader sent is there

abbrev ack_of : World → ℕ → Sent → Ack
ack_of w i s = record { from = i; term = s.term; upto = length s.front; op = (w.member i).mine.op }

-- a front of a leader's log that is shorter than another is its front
within_sent : {front whole own : List Entry} (a : List Entry) (e : Entry) → IsFront (add a e) whole → IsFront front whole
    → length a < length front → IsFront front own → IsFront (add a e) own
within_sent a e p q lt r = front-trans (front-shorter p q (omega (arith, lt, length-add a e))) r

new_ack : {members : List ℕ} {w : World} (i : ℕ) (s : Sent) → Kept members w → HasSent w (w.member i).mine s
    → AckKept members w (ack_of w i s) (w.member i)
new_ack {members} {w} i s k may =
    let kept = k.sent s may.said in
    let term : s.term ≡ (w.member i).mine.term = may.term_is in
    record {
      upto = front-length kept.front;
      op = omega arith;
      each =
          newest_only i (Has members w (ack_of w i s)) k (record {
            term = omega (arith, term);
            entries = λ a e p same lt.
                inl (within_sent a e (subst (λ (t : ℕ). IsFront (add a e) (w.hist t)) same p) kept.front lt may.front);
          });
    }

-- an acknowledgement of the newest term tells nothing of a vote in a later one
pub no_vote : {members : List ℕ} {w : World} (i : ℕ) (g : Grant) → Kept members w → In g w.grants → g.from ≡ i
    → g.term ≤ (w.member i).mine.term
no_vote i g k said from = elim (newest_vote i g k said from) [
  | inl lt ↦ omega (arith, lt)
  | inr same ↦ let level = same.0 in omega (arith, level)
]

-- who voted in a later term acknowledged it before
old_ack : {members : List ℕ} {w : World} {a : List Entry} {e : Entry} (i : ℕ) (s : Sent) (g : Grant)
    → Kept members w → HasSent w (w.member i).mine s → In g w.grants → e.term.0 < g.term
    → Acked (ack_of w i s ∷ w.acks) a e g.from → Acked w.acks a e g.from
old_ack {members} {w} {a} {e} i s g k may said lt x = elim x.said [
  | inr before ↦ record { ack = x.ack; said = before; from = x.from; term = x.term; reaches = x.reaches }
  | inl same ↦
      let from : g.from ≡ i = sym x.from ∙ ap (λ (z : Ack). z.from) same in
      let term : s.term ≡ e.term.0 = ap (λ (z : Ack). z.term) (sym same) ∙ x.term in
      let level : s.term ≡ (w.member i).mine.term = may.term_is in
      let le = no_vote i g k said from in
      absurd (omega (arith, lt, term, level, le))
]

pub kept-reply : {members : List ℕ} {w : World} (i : ℕ) (s : Sent) → Kept members w
    → Allowed members w (Reply i s) → Kept members (after w (Reply i s))
kept-reply {members} {w} i s k may =
    let v = after w (Reply i s) in
    let new = ack_of w i s in
    let level : s.term ≡ (w.member i).mine.term = may.term_is in
    let g : Grows w v = record {
      lane = λ q l here. record { lane = l; here = here; term = omega arith };
      acks = λ y said. elim said [
        | inr before ↦ inl before
        | inl same ↦
            inr (subst (λ (z : Ack). (w.member z.from).mine.term ≤ z.term) (sym same) (omega (arith, level)))
      ];
      stored = λ y said le. (inr said, le);
      votes = λ y said le. (said, le);
      hist = λ t. front-refl (w.hist t);
    } in
    record {
      noticed = k.noticed;
      older = k.older;
      good = k.good;
      within = k.within;
      hist_good = k.hist_good;
      hist_within = k.hist_within;
      unled = k.unled;
      won = λ t c lead. won-grows g (k.won t c lead);
      led = k.led;
      safe = λ t c lead a e p lt. holds-grows g (k.safe t c lead a e p lt);
      ask_good = k.ask_good;
      ask = k.ask;
      grant = k.grant;
      asked = k.asked;
      once = k.once;
      vote = λ y said a e p lt acked. holds-grows g (k.vote y said a e p lt (old_ack i s y k may said lt acked));
      leader = k.leader;
      candidate = k.candidate;
      sent = λ t said. let kept = k.sent t said in sent_grows g kept.lead kept;
      ack = λ q y said from. elim said [
        | inr before ↦ ack_grows g (λ a e same lt p. p) (k.ack q y before from)
        | inl same ↦
            subst (λ (z : Ack). AckKept members v z (w.member q)) (sym same)
            (subst (λ (j : ℕ). AckKept members v new (w.member j)) (ap (λ (z : Ack). z.from) (sym same) ∙ from)
            (ack_grows g (λ a e same lt p. p) (new_ack i s k may)))
      ];
      done = λ q. done_grows g (k.done q);
      audit_term = k.audit_term;
      audit = settled-grows g k.audit;
      dones = k.dones;
    }
