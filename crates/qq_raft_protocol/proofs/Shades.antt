-- Of a world that a group comes to from a start, the invariant holds but for leaders' logs, votes and acknowledgements
-- from before the start, which nobody says any more. It holds of a world beside it, which has these too.
use Rattle.std.proofs.Common.{◌≡◌, ◌⊎◌, ℕ, ◌+◌, ◌≤◌, Bool, List, [], ◌∷◌, length, Option, Some, refl, sym, ap, subst, ◌∙◌, inl, inr}
use Rattle.std.specs.Prelude.{filter}
use Rattle.qq_base.specs.Fronts.{IsFront}
use Rattle.qq_base.proofs.Fronts.{front-compare, front-refl, front-trans}
use Rattle.qq_entry.specs.declared.command.Entry.{Entry}
use Rattle.qq_raft_protocol.specs.World.{Lane, Member, Grant, Ack, Sent, World, start_world}
use Rattle.qq_raft_protocol.specs.Facts.{add, In, Stored, Elects}
use Rattle.qq_raft_protocol.specs.Moves.{Move, MayWrite, HasSent, stays, after, Allowed, run, AreAllowed}
use Rattle.qq_raft_protocol.specs.Moves.Move.{Write, Stand, Vote, Lead, Append, Send, Reply, Learn, Commit, Notice, Restart, Follow}
use Rattle.qq_raft_protocol.specs.Safe.{IsSafe, IsLaneOf, HasOneLeader, OnlyAppends, AcksWithin, IsFirst}
use Rattle.qq_raft_protocol.specs.Starts.{IsStart}
use Rattle.qq_raft_protocol.proofs.Kept.{Kept}
use Rattle.qq_raft_protocol.proofs.Leaders.{leader-acks, candidate-first}
use Rattle.qq_raft_protocol.proofs.Lists.{In-filter, filter-In}
use Rattle.qq_raft_protocol.proofs.Majorities.{Most-map}
use Rattle.qq_raft_protocol.proofs.Promises.{kept-safe}
use Rattle.qq_raft_protocol.proofs.Roles.{some_same}
use Rattle.qq_raft_protocol.proofs.AfterMoves.{kept-after, audit-after, lead-after, hist-after}
use Rattle.qq_raft_protocol.proofs.StartKept.{kept-start}
use Rattle.qq_raft_protocol.proofs.Starts.{shaded_start}

-- a world with other leaders' logs, votes and acknowledgements
abbrev pub beside : World → (ℕ → List Entry) → (ℕ → Option ℕ) → List Grant → List Ack → World
beside w hist lead grants acks = record w { hist = hist; lead = lead; grants = grants; acks = acks }

pub record Shaded (members : List ℕ) (w : World) : Type 0 where
  pub hist : ℕ → List Entry
  pub lead : ℕ → Option ℕ
  pub grants : List Grant
  pub acks : List Ack
  pub grants_in : (g : Grant) → In g w.grants → In g grants
  pub acks_in : (x : Ack) → In x w.acks → In x acks
  pub kept : Kept members (beside w hist lead grants acks)

abbrev pub shade : {members : List ℕ} {w : World} → Shaded members w → World
shade {w = w} s = beside w s.hist s.lead s.grants s.acks

-- ---- what is allowed is allowed there

elects-shade : {members : List ℕ} {w : World} {t c q : ℕ} (s : Shaded members w) → Elects w t c q
    → Elects (shade s) t c q
elects-shade s x = record {
  grant = x.grant;
  said = s.grants_in x.grant x.said;
  from = x.from;
  to = x.to;
  term = x.term;
  durable = x.durable;
}

stored-shade : {members : List ℕ} {w : World} {a : List Entry} {e : Entry} {q : ℕ} (s : Shaded members w)
    → Stored w a e q → Stored (shade s) a e q
stored-shade s x = record {
  acked = record {
    ack = x.acked.ack;
    said = s.acks_in x.acked.ack x.acked.said;
    from = x.acked.from;
    term = x.acked.term;
    reaches = x.acked.reaches;
  };
  durable = x.durable;
}

sent-shade : {members : List ℕ} {w : World} {own : Lane} {sent : Sent} (s : Shaded members w) → HasSent w own sent
    → HasSent (shade s) own sent
sent-shade s x = record { said = x.said; term_is = x.term_is; front = x.front }

write-shade : {members : List ℕ} {w : World} {own : Lane} {term : ℕ} {vote : Option ℕ} {log : List Entry}
    (s : Shaded members w) → MayWrite w own term vote log → MayWrite (shade s) own term vote log
write-shade s x = record {
  term_rises = x.term_rises;
  vote_stays = x.vote_stays;
  log_is = elim x.log_is [
    | inl same ↦ inl same
    | inr r ↦ inr (record {
      sent = r.sent;
      said = r.said;
      term_is = r.term_is;
      log_is = r.log_is;
      differs = r.differs;
    })
  ];
}

pub allowed-shade : {members : List ℕ} {w : World} (m : Move) (s : Shaded members w) → Allowed members w m
    → Allowed members (shade s) m
allowed-shade (Write i term vote log) s may = write-shade s may
allowed-shade (Stand i) s may = may
allowed-shade (Vote i ask) s may = record {
  asked = may.asked;
  may_leave = may.may_leave;
  term_is = may.term_is;
  vote_is = may.vote_is;
  current = may.current;
}
allowed-shade (Lead i) s may = (may.0, Most-map (λ q x. elects-shade s x) may.1)
allowed-shade (Append i e) s may = may
allowed-shade (Send i front done) s may = may
allowed-shade (Reply i sent) s may = sent-shade s may
allowed-shade (Learn i sent x) s may = (sent-shade s may.0, may.1, may.2)
allowed-shade (Commit i a e) s may = (may.0, may.1, may.2, Most-map (λ q x. stored-shade s x) may.3)
allowed-shade (Notice i op) s may = may
allowed-shade (Restart i lane) s may = may
allowed-shade (Follow i) s may = may

-- ---- each move leads to such a world again

pub same-after : {members : List ℕ} {w : World} (m : Move) (s : Shaded members w)
    → beside (after w m) (after (shade s) m).hist (after (shade s) m).lead (after (shade s) m).grants
    (after (shade s) m).acks ≡ after (shade s) m
same-after (Write i term vote log) s = refl
same-after (Stand i) s = refl
same-after (Vote i ask) s = refl
same-after (Lead i) s = refl
same-after (Append i e) s = refl
same-after (Send i front done) s = refl
same-after (Reply i sent) s = refl
same-after (Learn i sent x) s = refl
same-after (Commit i a e) s = refl
same-after (Notice i op) s = refl
same-after (Restart i lane) s = refl
same-after (Follow i) s = refl

-- one thing more is said in both
more-in : {A : Type 0} (y : A) (xs zs : List A) → ((x : A) → In x xs → In x zs) → (x : A) → In x (y ∷ xs)
    → In x (y ∷ zs)
more-in y xs zs f x here = elim here [ inl same ↦ inl same | inr before ↦ inr (f x before) ]

filter-in : {A : Type 0} (passes : A → Bool) (xs zs : List A) → ((x : A) → In x xs → In x zs) → (x : A)
    → In x (filter passes xs) → In x (filter passes zs)
filter-in passes xs zs f x here =
    let r = In-filter passes x xs here in
    filter-In passes x zs r.1 (f x r.0)

pub grants-after : {members : List ℕ} {w : World} (m : Move) (s : Shaded members w) → (g : Grant)
    → In g (after w m).grants → In g (after (shade s) m).grants
grants-after {w = w} (Stand i) s =
    let m = w.member i in
    more-in (record { from = i; to = i; term = m.mine.term + 1; op = m.mine.op + 1; log = m.mine.log }) w.grants
    s.grants s.grants_in
grants-after {w = w} (Vote i ask) s =
    more-in (record { from = i; to = ask.from; term = ask.term; op = (w.member i).mine.op; log = ask.log }) w.grants
    s.grants s.grants_in
grants-after {w = w} (Restart i lane) s =
    filter-in (λ x. stays i (w.member i).noticed x.from x.op) w.grants s.grants s.grants_in
grants-after (Write i term vote log) s = s.grants_in
grants-after (Lead i) s = s.grants_in
grants-after (Append i e) s = s.grants_in
grants-after (Send i front done) s = s.grants_in
grants-after (Reply i sent) s = s.grants_in
grants-after (Learn i sent x) s = s.grants_in
grants-after (Commit i a e) s = s.grants_in
grants-after (Notice i op) s = s.grants_in
grants-after (Follow i) s = s.grants_in

pub acks-after : {members : List ℕ} {w : World} (m : Move) (s : Shaded members w) → (x : Ack) → In x (after w m).acks
    → In x (after (shade s) m).acks
acks-after {w = w} (Append i e) s =
    let mine = (w.member i).mine in
    more-in (record { from = i; term = mine.term; upto = length (add mine.log e); op = mine.op + 1 }) w.acks s.acks
    s.acks_in
acks-after {w = w} (Reply i sent) s =
    more-in (record { from = i; term = sent.term; upto = length sent.front; op = (w.member i).mine.op }) w.acks s.acks
    s.acks_in
acks-after {w = w} (Restart i lane) s =
    filter-in (λ x. stays i (w.member i).noticed x.from x.op) w.acks s.acks s.acks_in
acks-after (Write i term vote log) s = s.acks_in
acks-after (Stand i) s = s.acks_in
acks-after (Vote i ask) s = s.acks_in
acks-after (Lead i) s = s.acks_in
acks-after (Send i front done) s = s.acks_in
acks-after (Learn i sent x) s = s.acks_in
acks-after (Commit i a e) s = s.acks_in
acks-after (Notice i op) s = s.acks_in
acks-after (Follow i) s = s.acks_in

abbrev pub next : {members : List ℕ} {w : World} (m : Move) (s : Shaded members w) → Allowed members w m
    → Shaded members (after w m)
next {members} {w} m s may = record {
  hist = (after (shade s) m).hist;
  lead = (after (shade s) m).lead;
  grants = (after (shade s) m).grants;
  acks = (after (shade s) m).acks;
  grants_in = grants-after m s;
  acks_in = acks-after m s;
  kept = subst (Kept members) (sym (same-after m s)) (kept-after m s.kept (allowed-shade m s may));
}

abbrev pub shaded-run : {members : List ℕ} (moves : List Move) (w : World) → Shaded members w
    → AreAllowed members w moves → Shaded members (run w moves)
shaded-run [] w s may = s
shaded-run (m ∷ moves) w s may = shaded-run moves (after w m) (next m s may.0) may.1

abbrev pub shaded-start : {members : List ℕ} {member : ℕ → Member} {audit : List Entry}
    → IsStart members member audit → Shaded members (start_world member audit)
shaded-start st = record {
  hist = (shaded_start st).hist;
  lead = (shaded_start st).lead;
  grants = (shaded_start st).grants;
  acks = (shaded_start st).acks;
  grants_in = λ g said. absurd said;
  acks_in = λ x said. absurd said;
  kept = kept-start st;
}

-- ---- what it promises

pub shaded-safe : {members : List ℕ} {w : World} → Shaded members w → IsSafe members w
shaded-safe s =
    let safe = kept-safe s.kept in
    record { one_leader = safe.one_leader; supported = safe.supported; done = safe.done }

pub shaded-acks : {members : List ℕ} {w : World} → Shaded members w → AcksWithin w
shaded-acks s q x is said same = leader-acks q x s.kept is (s.acks_in x said) same

pub shaded-first : {members : List ℕ} {w : World} → Shaded members w → IsFirst members w
shaded-first s q is most a e p same =
    candidate-first q s.kept is (Most-map (λ i x. elects-shade s x) most) a e p same

pub shaded-noticed : {members : List ℕ} {w : World} → Shaded members w → (q : ℕ) (l : Lane) → IsLaneOf w q l
    → (w.member q).noticed ≤ l.op
shaded-noticed s q l here = s.kept.noticed q l here

-- what was sent matches every lane
pub shaded-sent : {members : List ℕ} {w : World} → Shaded members w → (q : ℕ) (l : Lane) (x : Sent)
    → IsLaneOf w q l → In x w.sents → (a b : List Entry) (e f : Entry) → IsFront (add a e) l.log
    → IsFront (add b f) x.front → e.term.0 ≡ f.term.0
    → IsFront (add a e) (add b f) ⊎ IsFront (add b f) (add a e)
shaded-sent s q l x here said a b e f first second same =
    let kept = s.kept.sent x said in
    let sent : IsFront (add b f) (s.hist f.term.0) = s.kept.hist_good x.term b f (front-trans second kept.front) in
    let own : IsFront (add a e) (s.hist f.term.0) =
    subst (λ (t : ℕ). IsFront (add a e) (s.hist t)) same (s.kept.good q l here a e first) in
    front-compare own sent

audit-shade : {members : List ℕ} {w : World} (m : Move) (s : Shaded members w)
    → IsFront w.audit (after (shade s) m).audit → IsFront w.audit (after w m).audit
audit-shade {w = w} m s p = subst (IsFront w.audit) (sym (ap (λ (v : World). v.audit) (same-after m s))) p

-- the audit only grows
pub shaded-audit : {members : List ℕ} (moves : List Move) (w : World) → Shaded members w
    → AreAllowed members w moves → IsFront w.audit (run w moves).audit
shaded-audit [] w s may = front-refl w.audit
shaded-audit (m ∷ moves) w s may =
    front-trans (audit-shade m s (audit-after m s.kept (allowed-shade m s may.0)))
    (shaded-audit moves (after w m) (next m s may.0) may.1)

lead-run : {members : List ℕ} (moves : List Move) (w : World) (s : Shaded members w) (may : AreAllowed members w moves)
    (t c : ℕ) → s.lead t ≡ Some c → (shaded-run moves w s may).lead t ≡ Some c
lead-run [] w s may t c lead = lead
lead-run (m ∷ moves) w s may t c lead =
    lead-run moves (after w m) (next m s may.0) may.1 t c
    (lead-after m s.kept (allowed-shade m s may.0) t c lead)

hist-run : {members : List ℕ} (moves : List Move) (w : World) (s : Shaded members w) (may : AreAllowed members w moves)
    (t : ℕ) → IsFront (s.hist t) ((shaded-run moves w s may).hist t)
hist-run [] w s may t = front-refl (s.hist t)
hist-run (m ∷ moves) w s may t =
    front-trans (hist-after m s.kept (allowed-shade m s may.0) t)
    (hist-run moves (after w m) (next m s may.0) may.1 t)

-- whoever leads a term leads it later
pub shaded-leader : {members : List ℕ} (moves : List Move) (w : World) → Shaded members w
    → AreAllowed members w moves → HasOneLeader w (run w moves)
shaded-leader moves w s may p q is other same =
    let v = run w moves in
    let r = shaded-run moves w s may in
    let before : r.lead (w.member p).mine.term ≡ Some p =
    lead-run moves w s may (w.member p).mine.term p (s.kept.leader p is).leads in
    some_same p q (sym before ∙ ap r.lead same ∙ (r.kept.leader q other).leads)

-- the log of a term's leader is only extended
pub shaded-log : {members : List ℕ} (moves : List Move) (w : World) → Shaded members w → AreAllowed members w moves
    → OnlyAppends w (run w moves)
shaded-log moves w s may p q is other same =
    let v = run w moves in
    let r = shaded-run moves w s may in
    let own : s.hist (w.member p).mine.term ≡ (w.member p).mine.log = (s.kept.leader p is).log in
    let there : r.hist (v.member q).mine.term ≡ (v.member q).mine.log = (r.kept.leader q other).log in
    subst (λ (x : List Entry). IsFront x (v.member q).mine.log) own
    (subst (λ (y : List Entry). IsFront (s.hist (w.member p).mine.term) y) (ap r.hist same ∙ there)
    (hist-run moves w s may (w.member p).mine.term))
