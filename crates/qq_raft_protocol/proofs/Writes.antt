-- A server takes up a term, a vote or a leader's log.
use Rattle.std.proofs.Common.{◌≡◌, ℕ, ◌≤◌, List, Option, refl, sym, subst, ◌∙◌, arith, inl, inr}
use Rattle.qq_base.specs.Fronts.{IsFront, put}
use Rattle.qq_base.proofs.Fronts.{front-refl, front-trans, front-compare}
use Rattle.qq_base.proofs.Puts.{put-each, put-same, put-other}
use Rattle.qq_entry.specs.declared.command.Entry.{Entry}
use Rattle.qq_raft_protocol.specs.World.{Sent, World}
use Rattle.qq_raft_protocol.specs.World.Role.{Follower, Candidate, Leader}
use Rattle.qq_raft_protocol.specs.Facts.{In, Within, Good, Point, Holds}
use Rattle.qq_raft_protocol.specs.Moves.{MayWrite, push, next_lane, after, Allowed}
use Rattle.qq_raft_protocol.specs.Moves.Move.{Write}
use Rattle.qq_raft_protocol.proofs.Changes.{Follows, push-each, push-noticed, push-older, push-led, push-ask, push-grant, push-asked, push-ack, pushed-grows}
use Rattle.qq_raft_protocol.proofs.Grows.{Grows, holds-grows, settled-grows, won-grows}
use Rattle.qq_raft_protocol.proofs.Kept.{Kept, LeaderKept, CandidateKept, DoneKept, ack_grows, sent_grows, done_grows}
use Rattle.qq_raft_protocol.proofs.Settles.{point_holds, settled_in, settled_later}
use Rattle.qq_raft_protocol.proofs.Roles.{follower_leads, follower_asks}
use Rattle.qq_raft_protocol.proofs.Logs.{Within-front, Within-later}

-- two fronts of a leader's log: the one that is in the own log is in the one that replaces it
replaced_front : {x front own whole : List Entry} → IsFront x whole → IsFront front whole → IsFront x own
    → (IsFront front own → ⊥) → IsFront x front
replaced_front p q in_own differs =
    elim (front-compare p q) [
      | inl shorter ↦ shorter
      | inr longer ↦ absurd (differs (front-trans longer in_own))
    ]

-- what the new log is
record Taken (members : List ℕ) (w : World) (i term : ℕ) (log : List Entry) : Type 0 where
  good : Good w log
  within : Within term log
  holds : (a : List Entry) (e : Entry) → Point w a e → e.term.0 ≤ (w.member i).mine.term
      → Holds members w a e (w.member i).mine.log → Holds members w a e log
  known : IsFront (w.done i) log

taken_same : {members : List ℕ} {w : World} (i term : ℕ) → Kept members w → (w.member i).mine.term ≤ term
    → Taken members w i term (w.member i).mine.log
taken_same {members} {w} i term k rises = record {
  good = k.good i (w.member i).mine (inl refl);
  within = Within-later (w.member i).mine.log rises (k.within i (w.member i).mine (inl refl));
  holds = λ a e p le holds. holds;
  known = (k.done i).front;
}

taken_sent : {members : List ℕ} {w : World} (i : ℕ) (s : Sent) → Kept members w → (w.member i).mine.term ≤ s.term
    → In s w.sents → (IsFront s.front (w.member i).mine.log → ⊥) → Taken members w i s.term s.front
taken_sent {members} {w} i s k rises said differs =
    let kept = k.sent s said in
    record {
      good = λ a e p. k.hist_good s.term a e (front-trans p kept.front);
      within = Within-front kept.front (k.hist_within s.term);
      holds = λ a e p le holds. elim holds [
        | inr dead ↦ inr dead
        | inl own ↦ elim (point_holds k p s.term s.from kept.lead (omega (arith, le, rises))) [
          | inr dead ↦ inr dead
          | inl there ↦ inl (replaced_front there kept.front own differs)
        ]
      ];
      known =
          replaced_front (settled_in k (settled_later rises (k.done i).settled) s.from kept.lead) kept.front
          (k.done i).front differs;
    }

taken : {members : List ℕ} {w : World} (i term : ℕ) (vote : Option ℕ) (log : List Entry) → Kept members w
    → MayWrite w (w.member i).mine term vote log → Taken members w i term log
taken {members} {w} i term vote log k may = elim may.log_is [
  | inl same ↦ subst (Taken members w i term) (sym same) (taken_same i term k may.term_rises)
  | inr r ↦
      subst (Taken members w i term) r.log_is
      (subst (λ (t : ℕ). Taken members w i t r.sent.front) r.term_is
      (taken_sent i r.sent k (subst (λ (t : ℕ). (w.member i).mine.term ≤ t) (sym r.term_is) may.term_rises) r.said
      (λ p. r.differs (subst (λ x. IsFront x (w.member i).mine.log) r.log_is p))))
]

pub kept-write : {members : List ℕ} {w : World} (i term : ℕ) (vote : Option ℕ) (log : List Entry) → Kept members w
    → Allowed members w (Write i term vote log) → Kept members (after w (Write i term vote log))
kept-write {members} {w} i term vote log k may =
    let m = w.member i in
    let lane = next_lane m term vote log in
    let f : Follows m.mine lane = record { op = refl; term = may.term_rises; vote = may.vote_stays } in
    let new = taken i term vote log k may in
    let v = after w (Write i term vote log) in
    let g : Grows w v = pushed-grows w v i lane may.term_rises (λ q. refl) (λ x said. inl said) (λ x said. said)
    (λ x said. said) (λ t. front-refl (w.hist t)) in
    record {
      noticed = push-noticed i lane k f;
      older = push-older i lane k f;
      good = push-each w (λ q l. Good w l.log) i lane new.good k.good;
      within = push-each w (λ q l. Within l.term l.log) i lane new.within k.within;
      hist_good = k.hist_good;
      hist_within = k.hist_within;
      unled = k.unled;
      won = λ t c lead. won-grows g (k.won t c lead);
      led = push-led i lane k f;
      safe = λ t c lead a e p lt. holds-grows g (k.safe t c lead a e p lt);
      ask_good = k.ask_good;
      ask = push-ask i lane k f;
      grant = push-grant i lane k f;
      asked = push-asked i lane k f;
      once = k.once;
      vote = λ x said a e p lt acked. holds-grows g (k.vote x said a e p lt acked);
      leader =
          put-each (λ q x. put i Follower w.role q ≡ Leader → LeaderKept w.lead w.hist q x) i (push m lane) w.member
          (λ is. absurd (follower_leads (sym (put-same i Follower w.role) ∙ is)))
          (λ q other is. k.leader q (sym (put-other i Follower w.role q other) ∙ is));
      candidate =
          put-each (λ q x. put i Follower w.role q ≡ Candidate → CandidateKept w.lead w.asks w.grants q x) i
          (push m lane) w.member (λ is. absurd (follower_asks (sym (put-same i Follower w.role) ∙ is)))
          (λ q other is. k.candidate q (sym (put-other i Follower w.role q other) ∙ is));
      sent = λ s said. let kept = k.sent s said in sent_grows g kept.lead kept;
      ack = λ q x said from. ack_grows g (λ a e same lt p. p) (push-ack i lane k f new.holds q x said from);
      done =
          put-each (λ q x. DoneKept members v x (w.done q)) i (push m lane) w.member
          (record { front = new.known; settled = settled-grows g (settled_later may.term_rises (k.done i).settled) })
          (λ q other. done_grows g (k.done q));
      audit_term = k.audit_term;
      audit = settled-grows g k.audit;
      dones = k.dones;
    }
