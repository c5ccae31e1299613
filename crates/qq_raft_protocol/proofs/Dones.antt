-- Moves that change no lane and no message but what is sent: a server follows, sends, and learns what is committed.
use Rattle.std.proofs.Common.{◌≡◌, ◌⊎◌, ℕ, ◌+◌, ◌≤◌, ◌<◌, Bool, true, false, cond, ltb, List, length, refl, sym, ap, subst, ◌∙◌, arith, inl, inr}
use Rattle.std.proofs.lemmas.Bool.{ltb-true, ltb-false}
use Rattle.qq_base.specs.Fronts.{IsFront}
use Rattle.qq_base.proofs.Fronts.{front-refl, front-trans, front-length, front-shorter}
use Rattle.qq_base.proofs.Puts.{put-each}
use Rattle.qq_entry.specs.declared.command.Entry.{Entry}
use Rattle.qq_raft_protocol.specs.World.{Role, Sent, World}
use Rattle.qq_raft_protocol.specs.World.Role.{Follower, Candidate, Leader}
use Rattle.qq_raft_protocol.specs.Facts.{add, In, Settled}
use Rattle.qq_raft_protocol.specs.Moves.{longer, learn, after, Allowed}
use Rattle.qq_raft_protocol.specs.Moves.Move.{Send, Learn, Commit, Follow}
use Rattle.qq_raft_protocol.proofs.Grows.{Grows, holds-grows, settled-grows, won-grows}
use Rattle.qq_raft_protocol.proofs.Kept.{Kept, LeaderKept, CandidateKept, SentKept, DoneKept, ack_grows, sent_grows, done_grows}
use Rattle.qq_raft_protocol.proofs.Settles.{settled_compare, settled_front, settled_later}
use Rattle.qq_raft_protocol.proofs.Roles.{follower_leads, follower_asks}

-- a world with the same lanes, logs and messages
abbrev told : World → (ℕ → Role) → (ℕ → List Entry) → List Entry → List Sent → World
told w role done audit sents = record w { role = role; done = done; audit = audit; sents = sents }

told-grows : (w : World) (role : ℕ → Role) (done : ℕ → List Entry) (audit : List Entry) (sents : List Sent)
    → Grows w (told w role done audit sents)
told-grows w role done audit sents =
    record {
      lane = λ q l here. record { lane = l; here = here; term = omega arith };
      acks = λ x said. inl said;
      stored = λ x said le. (said, le);
      votes = λ g said le. (said, le);
      hist = λ t. front-refl (w.hist t);
    }

-- what has to be shown anew where only these change
record Told (members : List ℕ) (w : World) (role : ℕ → Role) (done : ℕ → List Entry) (audit : List Entry)
    (sents : List Sent) : Type 0 where
  leader : (q : ℕ) → role q ≡ Leader → LeaderKept w.lead w.hist q (w.member q)
  candidate : (q : ℕ) → role q ≡ Candidate → CandidateKept w.lead w.asks w.grants q (w.member q)
  sent : (s : Sent) → In s sents → SentKept members w s
  done_kept : (q : ℕ) → DoneKept members w (w.member q) (done q)
  audit_term : ℕ
  audit_settled : Settled members w audit_term audit
  dones : (q : ℕ) → IsFront (done q) audit

told-kept : {members : List ℕ} {w : World} {role : ℕ → Role} {done : ℕ → List Entry} {audit : List Entry}
    {sents : List Sent} → Kept members w → Told members w role done audit sents
    → Kept members (told w role done audit sents)
told-kept {members} {w} {role} {done} {audit} {sents} k n =
    let g = told-grows w role done audit sents in
    record {
      noticed = k.noticed;
      older = k.older;
      good = k.good;
      within = k.within;
      hist_good = k.hist_good;
      hist_within = k.hist_within;
      unled = k.unled;
      won = λ t c lead. won-grows g (k.won t c lead);
      led = k.led;
      safe = λ t c lead a e p lt. holds-grows g (k.safe t c lead a e p lt);
      ask_good = k.ask_good;
      ask = k.ask;
      grant = k.grant;
      asked = k.asked;
      once = k.once;
      vote = λ x said a e p lt acked. holds-grows g (k.vote x said a e p lt acked);
      leader = n.leader;
      candidate = n.candidate;
      sent = λ s said. let kept = n.sent s said in sent_grows g kept.lead kept;
      ack = λ q x said from. ack_grows g (λ a e same lt p. p) (k.ack q x said from);
      done = λ q. done_grows g (n.done_kept q);
      audit_term = n.audit_term;
      audit = settled-grows g n.audit_settled;
      dones = n.dones;
    }

-- ---- a server follows

pub kept-follow : {members : List ℕ} {w : World} (q : ℕ) → Kept members w → Kept members (after w (Follow q))
kept-follow {members} {w} i k = told-kept k (record {
  leader =
      put-each (λ q role. role ≡ Leader → LeaderKept w.lead w.hist q (w.member q)) i Follower w.role
      (λ e. absurd (follower_leads e)) (λ q other. k.leader q);
  candidate =
      put-each (λ q role. role ≡ Candidate → CandidateKept w.lead w.asks w.grants q (w.member q)) i Follower w.role
      (λ e. absurd (follower_asks e)) (λ q other. k.candidate q);
  sent = k.sent;
  done_kept = k.done;
  audit_term = k.audit_term;
  audit_settled = k.audit;
  dones = k.dones;
})

-- ---- a leader sends

pub kept-send : {members : List ℕ} {w : World} (q : ℕ) (front done : List Entry) → Kept members w
    → Allowed members w (Send q front done) → Kept members (after w (Send q front done))
kept-send {members} {w} i front done k may =
    let l = k.leader i may.0 in
    let known = k.done i in
    let log : w.hist (w.member i).mine.term ≡ (w.member i).mine.log = l.log in
    told-kept k (record {
      leader = k.leader;
      candidate = k.candidate;
      sent = λ s said. elim said [
        | inl same ↦ subst (SentKept members w) (sym same) (record {
          lead = l.leads;
          front = subst (IsFront front) (sym log) may.1;
          done = subst (IsFront done) (sym log) (front-trans may.2 known.front);
          settled = settled_front may.2 known.settled;
        })
        | inr before ↦ k.sent s before
      ];
      done_kept = k.done;
      audit_term = k.audit_term;
      audit_settled = k.audit;
      dones = k.dones;
    })

-- ---- a server learns what is committed

longer_by : (P : List Entry → Type 0) (x y : List Entry) (b : Bool) → ltb (length x) (length y) ≡ b
    → (length y ≤ length x → P x) → (length x < length y → P y) → P (cond b y x)
longer_by P x y true e first second = second (ltb-true _ _ e)
longer_by P x y false e first second = first (ltb-false _ _ e)

longer-each : (P : List Entry → Type 0) (x y : List Entry) → (length y ≤ length x → P x)
    → (length x < length y → P y) → P (longer x y)
longer-each P x y first second = longer_by P x y (ltb (length x) (length y)) refl first second

-- of two lists that agree each is a front of the longer one
first-of_longer : {x y : List Entry} → IsFront x y ⊎ IsFront y x → IsFront x (longer x y)
first-of_longer {x} {y} agree =
    longer-each (IsFront x) x y (λ le. front-refl x) (λ lt. elim agree [
      | inl p ↦ p
      | inr p ↦ let le = front-length p in absurd (omega (arith, lt, le))
    ])

second-of_longer : {x y : List Entry} → IsFront x y ⊎ IsFront y x → IsFront y (longer x y)
second-of_longer {x} {y} agree =
    longer-each (IsFront y) x y (λ le. elim agree [
      | inl p ↦ front-shorter (front-refl y) p le
      | inr p ↦ p
    ]) (λ lt. front-refl y)

longer_front-by : {x y audit : List Entry} → IsFront x audit → IsFront y audit → IsFront (longer x y) audit
longer_front-by {x} {y} {audit} p q = longer-each (λ z. IsFront z audit) x y (λ le. p) (λ lt. q)

longer_settled : {members : List ℕ} {w : World} {t u : ℕ} {x y : List Entry} → Settled members w t x
    → Settled members w u y → Settled members w (t + u) (longer x y)
longer_settled {members} {w} {t} {u} {x} {y} p q =
    longer-each (Settled members w (t + u)) x y (λ le. settled_later (omega arith) p)
    (λ lt. settled_later (omega arith) q)

-- a member may know a settled front of its log to be committed
kept-learned : {members : List ℕ} {w : World} (q : ℕ) (x : List Entry) → Kept members w
    → IsFront x (w.member q).mine.log → Settled members w (w.member q).mine.term x → Kept members (learn w q x)
kept-learned {members} {w} i x k front settled =
    let agree = settled_compare k k.audit settled in
    let first : IsFront w.audit (longer w.audit x) = first-of_longer agree in
    let second : IsFront x (longer w.audit x) = second-of_longer agree in
    told-kept k (record {
      leader = k.leader;
      candidate = k.candidate;
      sent = k.sent;
      done_kept =
          put-each (λ q done. DoneKept members w (w.member q) done) i (longer (w.done i) x) w.done
          (longer-each (DoneKept members w (w.member i)) (w.done i) x (λ le. k.done i)
          (λ lt. record { front = front; settled = settled }))
          (λ q other. k.done q);
      audit_term = k.audit_term + (w.member i).mine.term;
      audit_settled = longer_settled k.audit settled;
      dones =
          put-each (λ q done. IsFront done (longer w.audit x)) i (longer (w.done i) x) w.done
          (longer_front-by (front-trans (k.dones i) first) second)
          (λ q other. front-trans (k.dones q) first);
    })

-- the audit only grows
pub audit-learned : {members : List ℕ} {w : World} (q : ℕ) (x : List Entry) → Kept members w
    → Settled members w (w.member q).mine.term x → IsFront w.audit (longer w.audit x)
audit-learned q x k settled = first-of_longer (settled_compare k k.audit settled)

pub learn-settled : {members : List ℕ} {w : World} (q : ℕ) (s : Sent) (x : List Entry) → Kept members w
    → Allowed members w (Learn q s x) → Settled members w (w.member q).mine.term x
learn-settled {members} {w} i s x k may =
    subst (λ (t : ℕ). Settled members w t x) may.0.term_is (settled_front may.2 (k.sent s may.0.said).settled)

pub commit-settled : {members : List ℕ} {w : World} (q : ℕ) (a : List Entry) (e : Entry) → Kept members w
    → Allowed members w (Commit q a e) → Settled members w (w.member q).mine.term (add a e)
commit-settled {members} {w} i a e k may =
    let l = k.leader i may.0 in
    let same : e.term.0 ≡ (w.member i).mine.term = may.2 in
    let log : w.hist e.term.0 ≡ (w.member i).mine.log = ap w.hist same ∙ l.log in
    inr (record {
      before = a;
      entry = e;
      term = omega (arith, same);
      point = subst (IsFront (add a e)) (sym log) may.1;
      committed = may.3;
      front = front-refl (add a e);
    })

pub kept-learn : {members : List ℕ} {w : World} (q : ℕ) (s : Sent) (x : List Entry) → Kept members w
    → Allowed members w (Learn q s x) → Kept members (after w (Learn q s x))
kept-learn i s x k may = kept-learned i x k (front-trans may.1 may.0.front) (learn-settled i s x k may)

pub kept-commit : {members : List ℕ} {w : World} (q : ℕ) (a : List Entry) (e : Entry) → Kept members w
    → Allowed members w (Commit q a e) → Kept members (after w (Commit q a e))
kept-commit i a e k may = kept-learned i (add a e) k may.1 (commit-settled i a e k may)
