-- With a ready leader, those that are present support the audit by themselves.
use Rattle.std.proofs.Common.{◌≡◌, ◌⊎◌, ℕ, ◌+◌, ◌≤◌, Bool, true, false, List, [], ◌∷◌, Some, refl, sym, ap, subst, ◌∙◌, arith, inl, inr}
use Rattle.std.specs.Prelude.{filter, nat_le}
use Rattle.std.proofs.lemmas.Bool.{cases_Bool, false≢true}
use Rattle.qq_base.specs.Fronts.{IsFront, put}
use Rattle.qq_base.proofs.Fronts.{front-trans}
use Rattle.qq_base.proofs.Puts.{put-each, put-same, put-other}
use Rattle.qq_entry.specs.declared.command.Entry.{Entry}
use Rattle.qq_raft_protocol.specs.World.{Lane, Member, Role, Sent, World, lanes, start_world}
use Rattle.qq_raft_protocol.specs.World.Role.{Follower, Candidate, Leader}
use Rattle.qq_raft_protocol.specs.Facts.{add, In, Most, Elects}
use Rattle.qq_raft_protocol.specs.Moves.{Move, push, next_lane, after, Allowed, run, AreAllowed}
use Rattle.qq_raft_protocol.specs.Moves.Move.{Write, Stand, Vote, Lead, Append, Send, Reply, Learn, Commit, Notice, Restart, Follow}
use Rattle.qq_raft_protocol.specs.Safe.{IsLaneOf, IsSupported, HasVoted}
use Rattle.qq_raft_protocol.specs.Starts.{IsStart}
use Rattle.qq_raft_protocol.proofs.Kept.{elects_lanes, not_empty}
use Rattle.qq_raft_protocol.proofs.Lists.{In-front}
use Rattle.qq_raft_protocol.proofs.Logs.{In-add, In-add_cases, In-place}
use Rattle.qq_raft_protocol.proofs.Majorities.{Most-map}
use Rattle.qq_raft_protocol.proofs.Runs.{safe-run}
use Rattle.qq_raft_protocol.proofs.Shades.{Shaded, next, shade, shaded-start}
use Rattle.qq_raft_away_laws.specs.Away.{mover, AreStill, IsPresent, IsReady}
use Rattle.qq_raft_away_laws.proofs.Above.{Each, Adds, each-moved, each-after, voted-stays, term-stays, leader-above, follower_leads, candidate_leads}
use Rattle.qq_raft_away_laws.proofs.Still.{Quiet, quiet-after, quiet-start, run-keeps}

-- ---- a term that was won by those that are present

record Backed (members : List ℕ) (away : ℕ → Bool) (w : World) (t : ℕ) : Type 0 where
  node : ℕ
  here : away node ≡ false
  own : Each (λ l. t ≤ l.term) (w.member node)
  majority : Most members (λ q. (away q ≡ false) × Each (HasVoted t node) (w.member q))

backed-after : {members : List ℕ} {away : ℕ → Bool} {w : World} {t : ℕ} (m : Move) → Allowed members w m
    → Backed members away w t → Backed members away (after w m) t
backed-after {members} {away} {w} {t} m may b = record {
  node = b.node;
  here = b.here;
  own = each-after members (λ l. t ≤ l.term) (term-stays t) w m may b.node b.own;
  majority = Most-map (λ q x. (x.0, each-after members (HasVoted t b.node) (voted-stays t b.node) w m may q x.1))
      b.majority;
}

-- an entry of the start has this term
record Old (one : ℕ → Member) (t : ℕ) : Type 0 where
  node : ℕ
  lane : Lane
  entry : Entry
  there : In lane (lanes (one node))
  inside : In entry lane.log
  term : entry.term.0 ≡ t

abbrev Known : List ℕ → (ℕ → Bool) → (ℕ → Member) → World → Entry → Type 0
Known members away one w e = Old one e.term.0 ⊎ Backed members away w e.term.0

known-after : {members : List ℕ} {away : ℕ → Bool} {one : ℕ → Member} {w : World} (m : Move) (e : Entry)
    → Allowed members w m → Known members away one w e → Known members away one (after w m) e
known-after m e may known = elim known [ inl old ↦ inl old | inr b ↦ inr (backed-after m may b) ]

abbrev Knows : List ℕ → (ℕ → Bool) → (ℕ → Member) → World → List Entry → Type 0
Knows members away one w log = (e : Entry) → In e log → Known members away one w e

-- each entry is of such a term, and so is each leader
record Alone (members : List ℕ) (away : ℕ → Bool) (one : ℕ → Member) (w : World) : Type 0 where
  shaded : Shaded members w
  quiet : Quiet away w
  logs : (q : ℕ) → Each (λ l. Knows members away one w l.log) (w.member q)
  sents : (s : Sent) → In s w.sents → Knows members away one w s.front
  leads : (q : ℕ) → w.role q ≡ Leader → Backed members away w (w.member q).mine.term

-- ---- logs

adds-known : {members : List ℕ} {away : ℕ → Bool} {one : ℕ → Member} {w : World} (m : Move)
    → Alone members away one w → Allowed members w m → Adds (λ l. Knows members away one w l.log) w m
adds-known {members} {away} {one} {w} (Write k term vote log) a may = λ own. elim may.log_is [
  | inl same ↦ subst (Knows members away one w) (sym same) own
  | inr r ↦ subst (Knows members away one w) r.log_is (a.sents r.sent r.said)
]
adds-known (Stand k) a may = λ own. own
adds-known {members} {away} {one} {w} (Append k new) a may = λ own e inside.
    elim (In-add_cases e (w.member k).mine.log new inside) [
      | inl before ↦ own e before
      | inr same ↦
          inr (subst (Backed members away w) (sym may.1 ∙ ap (λ (x : Entry). x.term.0) (sym same)) (a.leads k may.0))
    ]
adds-known (Vote k ask) a may = tt
adds-known (Lead k) a may = tt
adds-known (Send k front done) a may = tt
adds-known (Reply k sent) a may = tt
adds-known (Learn k sent x) a may = tt
adds-known (Commit k b e) a may = tt
adds-known (Notice k op) a may = tt
adds-known (Restart k lane) a may = tt
adds-known (Follow k) a may = tt

logs-after : {members : List ℕ} {away : ℕ → Bool} {one : ℕ → Member} {w : World} (m : Move)
    → Alone members away one w → Allowed members w m → (q : ℕ)
    → Each (λ l. Knows members away one (after w m) l.log) ((after w m).member q)
logs-after {members} {away} {one} {w} m a may q l here e inside =
    known-after m e may
    (each-moved members (λ l. Knows members away one w l.log) w m may (adds-known m a may) q (a.logs q) l here e inside)

sents-after : {members : List ℕ} {away : ℕ → Bool} {one : ℕ → Member} {w : World} (m : Move)
    → Alone members away one w → Allowed members w m → (s : Sent) → In s (after w m).sents
    → Knows members away one w s.front
sents-after {members} {away} {one} {w} (Send k front done) a may s said = elim said [
  | inr before ↦ a.sents s before
  | inl same ↦
      subst (λ (x : Sent). Knows members away one w x.front) (sym same)
      (λ e inside. a.logs k (w.member k).mine (inl refl) e (In-front e may.1 inside))
]
sents-after (Write k term vote log) a may s said = a.sents s said
sents-after (Stand k) a may s said = a.sents s said
sents-after (Vote k ask) a may s said = a.sents s said
sents-after (Lead k) a may s said = a.sents s said
sents-after (Append k e) a may s said = a.sents s said
sents-after (Reply k sent) a may s said = a.sents s said
sents-after (Learn k sent x) a may s said = a.sents s said
sents-after (Commit k b e) a may s said = a.sents s said
sents-after (Notice k op) a may s said = a.sents s said
sents-after (Restart k lane) a may s said = a.sents s said
sents-after (Follow k) a may s said = a.sents s said

-- ---- leaders

-- whoever led before leads the same term
others-lead : {members : List ℕ} {away : ℕ → Bool} {one : ℕ → Member} {w : World} (k : ℕ) (role : Role) (m : Member)
    → Alone members away one w → (role ≡ Leader → ⊥) → (q : ℕ) → put k role w.role q ≡ Leader
    → Backed members away w (put k m w.member q).mine.term
others-lead {members} {away} {one} {w} k role m a is =
    put-each (λ q r. r ≡ Leader → Backed members away w (put k m w.member q).mine.term) k role w.role
    (λ leads. absurd (is leads))
    (λ q other leads. subst (λ (x : Member). Backed members away w x.mine.term) (sym (put-other k m w.member q other))
    (a.leads q leads))

-- a vote counts in the world beside too
elects-there : {members : List ℕ} {w : World} {t c q : ℕ} (s : Shaded members w) → Elects w t c q
    → Elects (shade s) t c q
elects-there s x = record {
  grant = x.grant;
  said = s.grants_in x.grant x.said;
  from = x.from;
  to = x.to;
  term = x.term;
  durable = x.durable;
}

won : {members : List ℕ} {away : ℕ → Bool} {one : ℕ → Member} {w : World} (k : ℕ) → Alone members away one w
    → away k ≡ false → Allowed members w (Lead k) → Backed members away w (w.member k).mine.term
won {members} {away} {one} {w} k a here may =
    let t = (w.member k).mine.term in
    let kept = (next (Lead k) a.shaded may).kept in
    record {
      node = k;
      here = here;
      own = λ l there. kept.led k t (put-same t (Some k) a.shaded.lead) l there;
      majority = Most-map (λ q x. (
        subst (λ i. away i ≡ false) x.from (a.quiet.grants x.grant x.said),
        λ l there. elects_lanes a.shaded.kept (elects-there a.shaded x) l there,
      )) may.1;
    }

leads-after : {members : List ℕ} {away : ℕ → Bool} {one : ℕ → Member} {w : World} (m : Move)
    → Alone members away one w → away (mover m) ≡ false → Allowed members w m → (q : ℕ)
    → (after w m).role q ≡ Leader → Backed members away w ((after w m).member q).mine.term
leads-after {w = w} (Write k term vote log) a here may =
    others-lead k Follower (push (w.member k) (next_lane (w.member k) term vote log)) a follower_leads
leads-after {w = w} (Stand k) a here may =
    let m = w.member k in
    others-lead k Candidate (push m (next_lane m (m.mine.term + 1) (Some k) m.mine.log)) a candidate_leads
leads-after {w = w} (Restart k lane) a here may =
    others-lead k Follower (record { mine = lane; older = []; noticed = lane.op }) a follower_leads
leads-after {members} {away} {one} {w} (Lead k) a here may =
    put-each (λ q r. r ≡ Leader → Backed members away w (w.member q).mine.term) k Leader w.role
    (λ is. won k a here may) (λ q other is. a.leads q is)
leads-after {members} {away} {one} {w} (Append k e) a here may =
    let m = w.member k in
    let lane = next_lane m m.mine.term m.mine.vote (add m.mine.log e) in
    put-each (λ q x. w.role q ≡ Leader → Backed members away w x.mine.term) k (push m lane) w.member
    (λ is. a.leads k is) (λ q other is. a.leads q is)
leads-after {members} {away} {one} {w} (Notice k op) a here may =
    let m = w.member k in
    put-each (λ q x. w.role q ≡ Leader → Backed members away w x.mine.term) k
    (record { mine = m.mine; older = filter (λ l. nat_le op l.op) m.older; noticed = op })
    w.member (λ is. a.leads k is) (λ q other is. a.leads q is)
leads-after {members} {away} {one} {w} (Follow k) a here may =
    put-each (λ q r. r ≡ Leader → Backed members away w (w.member q).mine.term) k Follower w.role
    (λ is. absurd (follower_leads is)) (λ q other is. a.leads q is)
leads-after (Vote k ask) a here may = a.leads
leads-after (Send k front done) a here may = a.leads
leads-after (Reply k sent) a here may = a.leads
leads-after (Learn k sent y) a here may = a.leads
leads-after (Commit k b e) a here may = a.leads

-- ---- after any moves of those that are present

alone-run : {members : List ℕ} {away : ℕ → Bool} {one : ℕ → Member} (moves : List Move) (w : World)
    → Alone members away one w → AreStill away moves → AreAllowed members w moves
    → Alone members away one (run w moves)
alone-run [] w a still may = a
alone-run (m ∷ moves) w a still may =
    alone-run moves (after w m) (record {
      shaded = next m a.shaded may.0;
      quiet = quiet-after m a.quiet still.0;
      logs = logs-after m a may.0;
      sents = λ s said e inside. known-after m e may.0 (sents-after m a may.0 s said e inside);
      leads = λ q is. backed-after m may.0 (leads-after m a still.0 may.0 q is);
    }) still.1 may.1

alone-supported : (members : List ℕ) (away : ℕ → Bool) (one : ℕ → Member) (moves : List Move) (k : ℕ)
    (a : List Entry) (e : Entry) → IsStart members one []
    → ((q : ℕ) (l : Lane) → away q ≡ true → IsLaneOf (run (start_world one []) moves) q l → l.log ≡ [])
    → AreStill away moves → AreAllowed members (start_world one []) moves
    → IsReady (run (start_world one []) moves) k a e
    → IsSupported members (IsPresent away (run (start_world one []) moves)) (run (start_world one []) moves).audit
alone-supported members away one moves k a e st empty still may ready =
    let w = run (start_world one []) moves in
    let safe = safe-run members one [] moves st may in
    let s = safe.supported in
    let t = (w.member k).mine.term in
    let first : Alone members away one (start_world one []) = record {
      shaded = shaded-start st;
      quiet = quiet-start away one [];
      logs = λ q l there x inside. inl (record {
        node = q;
        lane = l;
        entry = x;
        there = there;
        inside = inside;
        term = refl;
      });
      sents = λ x said. absurd said;
      leads = λ q is. absurd (follower_leads is);
    } in
    let last = alone-run moves (start_world one []) first still may in
    let front : IsFront (add a e) w.audit = front-trans ready.done (safe.done k).0 in
    let carried = s.carried (add a e) front a e refl in
    -- a member with this list isn't away, and has the leader's term or a later one
    let present : (q : ℕ) (b : List Entry) (f : Entry)
    → ((l : Lane) → IsLaneOf w q l → IsFront (add b f) l.log) → away q ≡ false =
    λ q b f has. elim (cases_Bool (away q)) [
      | inr here ↦ here
      | inl is ↦
          absurd (not_empty b (w.member q).mine.log f (has (w.member q).mine (inl refl))
          (empty q (w.member q).mine is (inl refl)))
    ] in
    let backed : Backed members away w t = last.leads k ready.leads in
    record {
      logs_match = λ p q l m here there b c f g first second same. elim here [
        | inl gone ↦ absurd (not_empty b l.log f first gone.1)
        | inr own ↦ elim there [
          | inl gone ↦ absurd (not_empty c m.log g second gone.1)
          | inr other ↦ s.logs_match p q l m own.1 other.1 b c f g first second same
        ]
      ];
      carried = λ x inside b f is.
          let c = s.carried x inside b f is in
          record {
            before = c.before;
            entry = c.entry;
            front = c.front;
            majority = Most-map (λ q has l here. elim here [
              | inl gone ↦ absurd (false≢true (sym (present q c.before c.entry has) ∙ gone.0))
              | inr own ↦ has l own.1
            ]) c.majority;
            later = λ q l here z g second lt. elim here [
              | inl gone ↦ absurd (not_empty z l.log g second gone.1)
              | inr own ↦ c.later q l own.1 z g second lt
            ];
          };
      elected = λ q l here x inside. elim here [
        | inl gone ↦ absurd (subst (In x) gone.1 inside)
        | inr own ↦ elim (last.logs q l own.1 x inside) [
          | inr b ↦ record {
            node = b.node;
            own = λ m there. elim there [
              | inl gone ↦ absurd (false≢true (sym b.here ∙ gone.0))
              | inr other ↦ b.own m other.1
            ];
            majority = Most-map (λ p y m there. elim there [
              | inl gone ↦ absurd (false≢true (sym y.0 ∙ gone.0))
              | inr other ↦ y.1 m other.1
            ]) b.majority;
          }
          | inl old ↦
              let lt = leader-above members one [] moves k old.node old.lane old.entry st may ready.leads old.there
              old.inside in
              let term : old.entry.term.0 ≡ x.term.0 = old.term in
              record {
                node = backed.node;
                own = λ m there. elim there [
                  | inl gone ↦ absurd (false≢true (sym backed.here ∙ gone.0))
                  | inr other ↦ let le = backed.own m other.1 in omega (arith, le, lt, term)
                ];
                majority = Most-map (λ p has m there. elim there [
                  | inl gone ↦ absurd (false≢true (sym (present p carried.before carried.entry has) ∙ gone.0))
                  | inr other ↦
                      let inside : In e m.log =
                      In-front e (front-trans carried.front (has m other.1)) (In-add a e) in
                      let place = In-place e m.log inside in
                      let le : e.term.0 ≤ m.term = (s.terms_rise p m other.1 place.before e place.front).1 in
                      let level : e.term.0 ≡ t = ready.own in
                      inl (omega (arith, le, level, lt, term))
                ]) carried.majority;
              }
        ]
      ];
      terms_rise = λ q l here b f front. elim here [
        | inl gone ↦ absurd (not_empty b l.log f front gone.1)
        | inr own ↦ s.terms_rise q l own.1 b f front
      ];
    }

pub alone-start : (members : List ℕ) (away : ℕ → Bool) (one : ℕ → Member) (moves : List Move) (k : ℕ)
    (a : List Entry) (e : Entry) → IsStart members one []
    → ((q : ℕ) (l : Lane) → away q ≡ true → In l (lanes (one q)) → l.log ≡ [])
    → AreStill away moves → AreAllowed members (start_world one []) moves
    → IsReady (run (start_world one []) moves) k a e
    → IsSupported members (IsPresent away (run (start_world one []) moves)) (run (start_world one []) moves).audit
alone-start members away one moves k a e st empty still may ready =
    alone-supported members away one moves k a e st
    (λ q l is here. empty q l is
    (subst (λ (m : Member). In l (lanes m)) (run-keeps away moves (start_world one []) q is still)
    here)) still may ready
