-- A server stands for election, and leads.
use Rattle.std.proofs.Common.{◌≡◌, ◌⊎◌, ℕ, ◌+◌, ◌≤◌, ◌<◌, List, [], ◌∷◌, length, Option, Some, None, refl, sym, ap, subst, ◌∙◌, arith, inl, inr}
use Rattle.std.proofs.lemmas.Bool.{cases_eq, cases_lt}
use Rattle.qq_base.specs.Fronts.{IsFront, put}
use Rattle.qq_base.proofs.Fronts.{front-refl, front-nil}
use Rattle.qq_base.proofs.Puts.{put-each, put-same, put-other}
use Rattle.qq_entry.specs.declared.command.Entry.{Entry}
use Rattle.qq_raft_protocol.specs.World.{Lane, Ask, Grant, Ack, World, lanes}
use Rattle.qq_raft_protocol.specs.World.Role.{Candidate, Leader}
use Rattle.qq_raft_protocol.specs.Facts.{add, In, Within, Most, Good, Point, Acked, Refuses, Holds, Elects}
use Rattle.qq_raft_protocol.specs.Moves.{push, next_lane, after, Allowed}
use Rattle.qq_raft_protocol.specs.Moves.Move.{Stand, Lead}
use Rattle.qq_raft_protocol.specs.Safe.{IsLaneOf, HasVoted}
use Rattle.qq_raft_protocol.proofs.Changes.{Follows, pushed, push-each, push-noticed, push-older, push-led, push-ask, push-grant, push-asked, push-ack, pushed-grows}
use Rattle.qq_raft_protocol.proofs.Grows.{Grows, good-grows, holds-grows, settled-grows, won-grows}
use Rattle.qq_raft_protocol.proofs.Kept.{Kept, AskKept, GrantKept, LeaderKept, CandidateKept, DoneKept, acked_holds, elects_lanes, voted_term, ack_grows, sent_grows, done_grows}
use Rattle.qq_raft_protocol.proofs.Majorities.{shared, choose}
use Rattle.qq_raft_protocol.proofs.Settles.{settled_later}
use Rattle.qq_raft_protocol.proofs.Votes.{no_vote}
use Rattle.qq_raft_protocol.proofs.Roles.{candidate_leads, leader_asks, none_some, some_same}
use Rattle.qq_raft_protocol.proofs.Logs.{Within-later}

-- ---- a server stands

-- no vote of a later term is for a member
none_for : {members : List ℕ} {w : World} (i t : ℕ) (g : Grant) → Kept members w → (w.member i).mine.term < t
    → In g w.grants → g.to ≡ i → g.term ≡ t → ⊥
none_for {w = w} i t g k lt said to term = elim (k.asked i g said to) [
  | inl own ↦ let le = no_vote i g k said (own ∙ to) in omega (arith, le, lt, term)
  | inr each ↦
      let le : g.term ≤ (w.member i).mine.term = each (w.member i).mine (inl refl) in omega (arith, le, lt, term)
]

none_by : {members : List ℕ} {w : World} (i t : ℕ) (x : Ask) → Kept members w → (w.member i).mine.term < t
    → In x w.asks → x.from ≡ i → x.term ≡ t → ⊥
none_by {w = w} i t x k lt said from term =
    let kept = k.ask i x said from in
    let le : x.term ≤ (w.member i).mine.term = kept.each (w.member i).mine (inl refl) kept.op in
    omega (arith, le, lt, term)

-- of the lanes of a member that stood only the newest has the newest number
pub stood_only : {members : List ℕ} {w : World} (i : ℕ) (lane : Lane) (P : Lane → Type 0) → Kept members w
    → lane.op ≡ (w.member i).mine.op + 1 → P lane → (l : Lane) → In l (lane ∷ lanes (w.member i)) → lane.op ≤ l.op
    → P l
stood_only {w = w} i lane P k op own l here reach = elim here [
  | inl same ↦ subst P (sym same) own
  | inr before ↦ elim before [
    | inl mine ↦
        let level : l.op ≡ (w.member i).mine.op = ap (λ (x : Lane). x.op) mine in
        absurd (omega (arith, level, op, reach))
    | inr older ↦ let lt = k.older i l older in absurd (omega (arith, lt, op, reach))
  ]
]

pub kept-stand : {members : List ℕ} {w : World} (i : ℕ) → Kept members w → Kept members (after w (Stand i))
kept-stand {members} {w} i k =
    let m = w.member i in
    let t = m.mine.term + 1 in
    let lane = next_lane m t (Some i) m.mine.log in
    let rises : m.mine.term ≤ t = omega arith in
    let f : Follows m.mine lane = record { op = refl; term = rises; vote = λ e. absurd (omega (arith, e)) } in
    let ask : Ask = record { from = i; term = t; op = lane.op; log = m.mine.log } in
    let own : Grant = record { from = i; to = i; term = t; op = lane.op; log = m.mine.log } in
    let v = after w (Stand i) in
    let g : Grows w v = pushed-grows w v i lane rises (λ q. refl) (λ x said. inl said) (λ x said. said)
    (λ x said. inr said) (λ t. front-refl (w.hist t)) in
    record {
      noticed = push-noticed i lane k f;
      older = push-older i lane k f;
      good = push-each w (λ q l. Good w l.log) i lane (k.good i m.mine (inl refl)) k.good;
      within =
          push-each w (λ q l. Within l.term l.log) i lane (Within-later m.mine.log rises (k.within i m.mine (inl refl)))
          k.within;
      hist_good = k.hist_good;
      hist_within = k.hist_within;
      unled = k.unled;
      won = λ t c lead. won-grows g (k.won t c lead);
      led = push-led i lane k f;
      safe = λ t c lead a e p lt. holds-grows g (k.safe t c lead a e p lt);
      ask_good = λ x said. elim said [
        | inr before ↦ k.ask_good x before
        | inl same ↦
            subst (λ (y : Ask). Good w y.log) (sym same) (k.good i m.mine (inl refl))
      ];
      ask = λ q x said from. elim said [
        | inr before ↦ push-ask i lane k f q x before from
        | inl same ↦
            subst (λ (y : Ask). AskKept y (pushed w i lane q)) (sym same)
            (put-each (λ q x. i ≡ q → AskKept ask x) i (push m lane) w.member
            (λ own. record {
              op = omega arith;
              each = stood_only i lane (λ l. t ≤ l.term) k refl (omega arith);
            })
            (λ q other here. absurd (other (sym here))) q (ap (λ (y : Ask). y.from) (sym same) ∙ from))
      ];
      grant = λ q x said from. elim said [
        | inr before ↦ push-grant i lane k f q x before from
        | inl same ↦
            subst (λ (y : Grant). GrantKept y (pushed w i lane q)) (sym same)
            (put-each (λ q x. i ≡ q → GrantKept own x) i (push m lane) w.member
            (λ here. record {
              op = omega arith;
              each = stood_only i lane (HasVoted t i) k refl (inr (refl, refl));
            })
            (λ q other here. absurd (other (sym here))) q (ap (λ (y : Grant). y.from) (sym same) ∙ from))
      ];
      asked = λ q x said to. elim said [
        | inr before ↦ push-asked i lane k f q x before to
        | inl same ↦ inl (ap (λ (y : Grant). y.from) same ∙ ap (λ (y : Grant). y.to) (sym same))
      ];
      once = λ x y first second from term. elim first [
        | inr x_before ↦ elim second [
          | inr y_before ↦ k.once x y x_before y_before from term
          | inl y_same ↦
              let le = no_vote i x k x_before (from ∙ ap (λ (u : Grant). u.from) y_same) in
              let level : x.term ≡ m.mine.term + 1 = term ∙ ap (λ (u : Grant). u.term) y_same in
              absurd (omega (arith, le, level))
        ]
        | inl x_same ↦ elim second [
          | inr y_before ↦
              let le = no_vote i y k y_before (sym from ∙ ap (λ (u : Grant). u.from) x_same) in
              let level : y.term ≡ m.mine.term + 1 = sym term ∙ ap (λ (u : Grant). u.term) x_same in
              absurd (omega (arith, le, level))
          | inl y_same ↦ ap (λ (u : Grant). u.to) x_same ∙ ap (λ (u : Grant). u.to) (sym y_same)
        ]
      ];
      vote = λ x said a e p lt acked. elim said [
        | inr before ↦ holds-grows g (k.vote x before a e p lt acked)
        | inl same ↦
            subst (λ (y : Grant). Holds members v a e y.log) (sym same)
            (holds-grows g
            (acked_holds k p (subst (λ (y : Grant). Acked w.acks a e y.from) same acked)))
      ];
      leader =
          put-each (λ q x. put i Candidate w.role q ≡ Leader → LeaderKept w.lead w.hist q x) i (push m lane) w.member
          (λ is. absurd (candidate_leads (sym (put-same i Candidate w.role) ∙ is)))
          (λ q other is. k.leader q (sym (put-other i Candidate w.role q other) ∙ is));
      candidate =
          put-each (λ q x. put i Candidate w.role q ≡ Candidate → CandidateKept w.lead (ask ∷ w.asks) (own ∷ w.grants) q x)
          i (push m lane) w.member
          (λ is. record {
            other = λ lead. let le = k.led i t lead m.mine (inl refl) in omega (arith, le);
            asked = λ x said from term. elim said [
              | inr before ↦ absurd (none_by i t x k (omega arith) before from term)
              | inl same ↦ ap (λ (y : Ask). y.log) same
            ];
            given = λ x said to term. elim said [
              | inr before ↦ absurd (none_for i t x k (omega arith) before to term)
              | inl same ↦ ap (λ (y : Grant). y.log) same
            ];
          })
          (λ q other is.
          let c = k.candidate q (sym (put-other i Candidate w.role q other) ∙ is) in
          record {
            other = c.other;
            asked = λ x said from term. elim said [
              | inr before ↦ c.asked x before from term
              | inl same ↦ absurd (other (sym from ∙ ap (λ (y : Ask). y.from) same))
            ];
            given = λ x said to term. elim said [
              | inr before ↦ c.given x before to term
              | inl same ↦ absurd (other (sym to ∙ ap (λ (y : Grant). y.to) same))
            ];
          });
      sent = λ s said. let kept = k.sent s said in sent_grows g kept.lead kept;
      ack =
          λ q x said from. ack_grows g (λ a e same lt p. p)
          (push-ack i lane k f (λ a e p le holds. holds) q x said from);
      done =
          put-each (λ q x. DoneKept members v x (w.done q)) i (push m lane) w.member
          (record { front = (k.done i).front; settled = settled-grows g (settled_later rises (k.done i).settled) })
          (λ q other. done_grows g (k.done q));
      audit_term = k.audit_term;
      audit = settled-grows g k.audit;
      dones = k.dones;
    }

-- ---- a candidate leads

-- nobody leads the term of a candidate that has a majority
pub is_free : {members : List ℕ} {w : World} (i t : ℕ) (o : Option ℕ) → w.lead t ≡ o → Kept members w
    → Most members (Elects w t i) → (w.lead t ≡ Some i → ⊥) → w.lead t ≡ None
is_free i t None e k most other = e
is_free {members} {w} i t (Some c) e k most other =
    let q = shared (k.won t c e) most in
    let x = q.first in
    let y = q.second in
    let same : x.grant.to ≡ y.grant.to = k.once x.grant y.grant x.said y.said (x.from ∙ sym y.from) (x.term ∙ sym y.term)
    in
    absurd (other (e ∙ ap (λ (n : ℕ). Some n) (sym x.to ∙ same ∙ y.to)))

-- a member that voted for a log holds an entry of an earlier term in it, or never acknowledged it
voter : {members : List ℕ} {w : World} {a : List Entry} {e : Entry} (i t q : ℕ)
    → Kept members w → CandidateKept w.lead w.asks w.grants i (w.member i) → t ≡ (w.member i).mine.term
    → Point w a e → e.term.0 < t → Elects w t i q → (Acked w.acks a e q) ⊎ (Acked w.acks a e q → ⊥)
    → Holds members w a e (w.member i).mine.log ⊎ Refuses w a e q
voter {members} {w} {a} {e} i t q k c at p lt x (inl acked) =
    let known : x.grant.log ≡ (w.member i).mine.log = c.given x.grant x.said x.to (x.term ∙ at) in
    let by_voter : Acked w.acks a e x.grant.from = subst (λ (j : ℕ). Acked w.acks a e j) (sym x.from) acked in
    let later : e.term.0 < x.grant.term = subst (λ (n : ℕ). e.term.0 < n) (sym x.term) lt in
    inl (subst (Holds members w a e) known (k.vote x.grant x.said a e p later by_voter))
voter {members} {w} {a} {e} i t q k c at p lt x (inr unacked) =
    inr (record {
      unacked = unacked;
      later = λ l here. let le = voted_term t i l (elects_lanes k x l here) in omega (arith, lt, le);
    })

not_first : {y : Ack} {acks : List Ack} {a : List Entry} {e : Entry} {q : ℕ} → (Acked acks a e q → ⊥)
    → ((x : Acked (y ∷ acks) a e q) → x.ack ≡ y → ⊥) → Acked (y ∷ acks) a e q → ⊥
not_first others first x = elim x.said [
  | inl same ↦ first x same
  | inr before ↦
      others (record { ack = x.ack; said = before; from = x.from; term = x.term; reaches = x.reaches })
]

first_acked : (y : Ack) (acks : List Ack) (a : List Entry) (e : Entry) (q : ℕ) → (Acked acks a e q → ⊥)
    → (y.from ≡ q) ⊎ (y.from ≡ q → ⊥) → (y.term ≡ e.term.0) ⊎ (y.term ≡ e.term.0 → ⊥)
    → (length a < y.upto) ⊎ (y.upto ≤ length a)
    → (Acked (y ∷ acks) a e q) ⊎ (Acked (y ∷ acks) a e q → ⊥)
first_acked y acks a e q others (inl from) (inl term) (inl reaches) =
    inl (record { ack = y; said = inl refl; from = from; term = term; reaches = reaches })
first_acked y acks a e q others (inr from) term reaches =
    inr (not_first others (λ x same. from (ap (λ (z : Ack). z.from) (sym same) ∙ x.from)))
first_acked y acks a e q others from (inr term) reaches =
    inr (not_first others (λ x same. term (ap (λ (z : Ack). z.term) (sym same) ∙ x.term)))
first_acked y acks a e q others from term (inr le) =
    inr (not_first others (λ x same.
    let lt : length a < x.ack.upto = x.reaches in
    let level : x.ack.upto ≡ y.upto = ap (λ (z : Ack). z.upto) same in
    omega (arith, lt, level, le)))

-- whether a member acknowledged an entry
acked_by : (acks : List Ack) (a : List Entry) (e : Entry) (q : ℕ) → (Acked acks a e q) ⊎ (Acked acks a e q → ⊥)
acked_by [] a e q = inr (λ x. absurd x.said)
acked_by (y ∷ acks) a e q = elim (acked_by acks a e q) [
  | inl x ↦ inl (record { ack = x.ack; said = inr x.said; from = x.from; term = x.term; reaches = x.reaches })
  | inr no_other ↦ first_acked y acks a e q no_other (cases_eq y.from q) (cases_eq y.term e.term.0)
      (cases_lt (length a) y.upto)
]

-- the log of a candidate with a majority holds all that may be committed in earlier terms
elected_holds : {members : List ℕ} {w : World} {a : List Entry} {e : Entry} (i : ℕ) → Kept members w
    → CandidateKept w.lead w.asks w.grants i (w.member i) → (most : Most members (Elects w (w.member i).mine.term i))
    → Point w a e → e.term.0 < (w.member i).mine.term → Holds members w a e (w.member i).mine.log
elected_holds {members} {w} {a} {e} i k c most p lt =
    elim (choose {A = Holds members w a e (w.member i).mine.log} {B = Refuses w a e} members most.counts (λ q here passes.
    voter i (w.member i).mine.term q k c refl p lt (most.each q here passes) (acked_by w.acks a e q))) [
      | inl holds ↦ holds
      | inr refuses ↦ inr (record { counts = most.counts; majority = most.majority; each = refuses })
    ]

-- a leader's lanes have its term or later ones
elected_led : {members : List ℕ} {w : World} (i t : ℕ) → Kept members w → Most members (Elects w t i)
    → (l : Lane) → IsLaneOf w i l → t ≤ l.term
elected_led {members} {w} i t k most l here =
    let q = shared most most in
    let x = q.first in
    let term : x.grant.term ≡ t = x.term in
    elim (k.asked i x.grant x.said x.to) [
      | inl own ↦
          let by_own : Elects w t i i = record {
            grant = x.grant;
            said = x.said;
            from = own ∙ x.to;
            to = x.to;
            term = x.term;
            durable = subst (λ (j : ℕ). x.grant.op ≤ (w.member j).noticed) (sym x.from ∙ own ∙ x.to) x.durable;
          } in
          voted_term t i l (elects_lanes k by_own l here)
      | inr each ↦ let le = each l here in omega (arith, le, term)
    ]

pub kept-lead : {members : List ℕ} {w : World} (i : ℕ) → Kept members w → Allowed members w (Lead i)
    → Kept members (after w (Lead i))
kept-lead {members} {w} i k may =
    let m = w.member i in
    let t = m.mine.term in
    let log = m.mine.log in
    let c = k.candidate i may.0 in
    let free : w.lead t ≡ None = is_free i t (w.lead t) refl k may.1 c.other in
    let v = after w (Lead i) in
    let back : (a : List Entry) (e : Entry) → Point v a e → Point w a e =
    λ a e p. put-each (λ j h. j ≡ e.term.0 → IsFront (add a e) h → Point w a e) t log w.hist
    (λ same q. k.good i m.mine (inl refl) a e q)
    (λ j other same q. subst (λ (n : ℕ). IsFront (add a e) (w.hist n)) same q) e.term.0 refl p in
    let hist : (j : ℕ) → IsFront (w.hist j) (v.hist j) =
    put-each (λ j h. IsFront (w.hist j) h) t log w.hist
    (subst (λ x. IsFront x log) (sym (k.unled t free)) (front-nil log)) (λ j other. front-refl (w.hist j)) in
    let g : Grows w v = record {
      lane = λ q l here. record { lane = l; here = here; term = omega arith };
      acks = λ y said. inl said;
      stored = λ y said le. (said, le);
      votes = λ y said le. (said, le);
      hist = hist;
    } in
    let keeps : (j : ℕ) (o : Option ℕ) → w.lead j ≡ o → (x : ℕ) → o ≡ Some x → v.lead j ≡ Some x =
    λ j o is x some. put-each (λ j r. w.lead j ≡ Some x → r ≡ Some x) t (Some i) w.lead
    (λ lead. absurd (none_some (w.lead t) x free lead)) (λ j other lead. lead) j (is ∙ some) in
    record {
      noticed = k.noticed;
      older = k.older;
      good = λ q l here. good-grows g (k.good q l here);
      within = k.within;
      hist_good =
          put-each (λ j h. Good v h) t log w.hist (good-grows g (k.good i m.mine (inl refl)))
          (λ j other. good-grows g (k.hist_good j));
      hist_within =
          put-each (λ j h. Within j h) t log w.hist (k.within i m.mine (inl refl)) (λ j other. k.hist_within j);
      unled =
          put-each (λ j o. o ≡ None → v.hist j ≡ []) t (Some i) w.lead (λ e. absurd (none_some (Some i) i e refl))
          (λ j other e. put-other t log w.hist j other ∙ k.unled j e);
      won = λ j x. put-each (λ j o. o ≡ Some x → Most members (Elects v j x)) t (Some i) w.lead
          (λ e. subst (λ (y : ℕ). Most members (Elects v t y)) (some_same i x e) (won-grows g may.1))
          (λ j other lead. won-grows g (k.won j x lead)) j;
      led = λ q j. put-each (λ j o. o ≡ Some q → (l : Lane) → IsLaneOf w q l → j ≤ l.term) t (Some i) w.lead
          (λ e l here. elected_led i t k may.1 l (subst (λ (y : ℕ). IsLaneOf w y l) (sym (some_same i q e)) here))
          (λ j other lead. k.led q j lead) j;
      safe = λ j x lead a e p lt.
          put-each (λ j o. o ≡ Some x → e.term.0 < j → Holds members v a e (v.hist j)) t (Some i) w.lead
          (λ is lt. subst (Holds members v a e) (sym (put-same t log w.hist))
          (holds-grows g (elected_holds i k c may.1 (back a e p) lt)))
          (λ j other lead lt. subst (Holds members v a e) (sym (put-other t log w.hist j other))
          (holds-grows g (k.safe j x lead a e (back a e p) lt))) j lead lt;
      ask_good = λ x said. good-grows g (k.ask_good x said);
      ask = k.ask;
      grant = k.grant;
      asked = k.asked;
      once = k.once;
      vote = λ x said a e p lt acked. holds-grows g (k.vote x said a e (back a e p) lt acked);
      leader =
          put-each (λ q r. r ≡ Leader → LeaderKept v.lead v.hist q (w.member q)) i Leader w.role
          (λ is. record { leads = put-same t (Some i) w.lead; log = put-same t log w.hist })
          (λ q other is.
          let l = k.leader q is in
          let away : (w.member q).mine.term ≡ t → ⊥ =
          λ same. none_some (w.lead t) q free (ap w.lead (sym same) ∙ l.leads) in
          record {
            leads = put-other t (Some i) w.lead (w.member q).mine.term away ∙ l.leads;
            log = put-other t log w.hist (w.member q).mine.term away ∙ l.log;
          });
      candidate =
          put-each (λ q r. r ≡ Candidate → CandidateKept v.lead w.asks w.grants q (w.member q)) i Leader w.role
          (λ is. absurd (leader_asks is))
          (λ q other is.
          let d = k.candidate q is in
          record {
            other =
                put-each (λ j o. j ≡ (w.member q).mine.term → o ≡ Some q → ⊥) t (Some i) w.lead
                (λ same e. other (sym (some_same i q e)))
                (λ j away same lead. d.other (ap w.lead (sym same) ∙ lead)) (w.member q).mine.term refl;
            asked = d.asked;
            given = d.given;
          });
      sent = λ s said.
          let kept = k.sent s said in
          sent_grows g (keeps s.term (w.lead s.term) refl s.from kept.lead) kept;
      ack = λ q x said from. ack_grows g (λ a e same lt p. back a e p) (k.ack q x said from);
      done = λ q. done_grows g (k.done q);
      audit_term = k.audit_term;
      audit = settled-grows g k.audit;
      dones = k.dones;
    }

-- a term's leader stays its leader
pub lead-stays : {members : List ℕ} {w : World} (i : ℕ) → Kept members w → Allowed members w (Lead i) → (t c : ℕ)
    → w.lead t ≡ Some c → (after w (Lead i)).lead t ≡ Some c
lead-stays {w = w} i k may t c lead =
    let own = (w.member i).mine.term in
    let free : w.lead own ≡ None = is_free i own (w.lead own) refl k may.1 (k.candidate i may.0).other in
    put-each (λ j r. w.lead j ≡ Some c → r ≡ Some c) own (Some i) w.lead
    (λ lead. absurd (none_some (w.lead own) c free lead)) (λ j other lead. lead) t lead
