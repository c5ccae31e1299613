-- What a leader commits stands after the audit of the start.
use Rattle.std.proofs.Common.{◌≡◌, ◌⊎◌, ℕ, ◌≤◌, ◌<◌, List, [], ◌∷◌, length, refl, subst, arith, inl, inr}
use Rattle.std.proofs.lemmas.Bool.{cases_lt}
use Rattle.qq_base.specs.Fronts.{IsFront}
use Rattle.qq_base.proofs.Fronts.{front-trans, front-compare, front-shorter}
use Rattle.qq_base.proofs.Puts.{put-same}
use Rattle.qq_entry.specs.declared.command.Entry.{Entry}
use Rattle.qq_raft_protocol.specs.World.{Lane, Member, World, lanes, start_world}
use Rattle.qq_raft_protocol.specs.Facts.{add, In}
use Rattle.qq_raft_protocol.specs.Moves.{Move, longer, after, Allowed, run, AreAllowed}
use Rattle.qq_raft_protocol.specs.Moves.Move.{Commit}
use Rattle.qq_raft_protocol.specs.Starts.{IsStart}
use Rattle.qq_raft_protocol.proofs.Lists.{In-front}
use Rattle.qq_raft_protocol.proofs.Logs.{In-add}
use Rattle.qq_raft_protocol.proofs.Majorities.{shared}
use Rattle.qq_raft_protocol.proofs.Runs.{safe-run, audit-stays}
use Rattle.qq_raft_protocol.proofs.Shades.{Shaded, shaded-safe, shaded-audit, shaded-run, shaded-start, next}
use Rattle.qq_raft_away_laws.specs.Away.{IsReady}
use Rattle.qq_raft_away_laws.proofs.Above.{leader-above}
use Rattle.qq_raft_away_laws.proofs.Still.{longer_long}

-- ---- an entry of the start is of an earlier term

-- each entry of the audit of a start stands in a lane
record InLane (member : ℕ → Member) (e : Entry) : Type 0 where
  node : ℕ
  here : In e (member node).mine.log

audit-lane : {members : List ℕ} {member : ℕ → Member} {audit : List Entry} (a : List Entry) (e : Entry)
    → IsStart members member audit → IsFront (add a e) audit → InLane member e
audit-lane {member = member} a e st front =
    let c = st.supported.carried (add a e) front a e refl in
    let q = shared c.majority c.majority in
    record {
      node = q.who;
      here =
          In-front e (front-trans c.front (q.first (member q.who).mine (inl refl))) (In-add a e);
    }

-- of two fronts of a list, one of which ends in an entry of a term that the other has no entry of
comes_after : {members : List ℕ} {member : ℕ → Member} {audit known : List Entry} {t : ℕ} (a : List Entry) (e : Entry)
    → IsStart members member audit
    → ((q : ℕ) (l : Lane) → In l (lanes (member q)) → (f : Entry) → In f l.log → f.term.0 < t) → e.term.0 ≡ t
    → IsFront audit known → IsFront (add a e) known → IsFront audit (add a e)
comes_after {member = member} {t = t} a e st above own first second =
    elim (front-compare first second) [
      | inl shorter ↦ shorter
      | inr whole ↦
          let x = audit-lane a e st whole in
          let lt : e.term.0 < t = above x.node (member x.node).mine (inl refl) e x.here in
          absurd (omega (arith, lt, own))
    ]

-- ---- what a leader knows to be committed

pub ready-after : (members : List ℕ) (member : ℕ → Member) (audit : List Entry) (moves : List Move) (q : ℕ)
    (a : List Entry) (e : Entry) → IsStart members member audit
    → AreAllowed members (start_world member audit) moves → IsReady (run (start_world member audit) moves) q a e
    → IsFront audit (add a e)
ready-after members member audit moves q a e st may r =
    let w = run (start_world member audit) moves in
    let safe = safe-run members member audit moves st may in
    comes_after a e st
    (λ p l here f inside. leader-above members member audit moves q p l f st may r.leads here inside) r.own
    (audit-stays members member audit [] moves st tt may) (front-trans r.done (safe.done q).0)

-- ---- what it commits

done-cases : (x y : List Entry) → (length x < length y) ⊎ (length y ≤ length x)
    → (longer x y ≡ y) ⊎ (length y ≤ length x)
done-cases x y (inl lt) = inl (longer_long x y lt)
done-cases x y (inr le) = inr le

-- it stands in the audit then
pub commit-known : {members : List ℕ} {w : World} (i : ℕ) (a : List Entry) (e : Entry) (s : Shaded members w)
    → (may : Allowed members w (Commit i a e)) → IsFront (add a e) (after w (Commit i a e)).audit
commit-known {w = w} i a e s may =
    let v = after w (Commit i a e) in
    let before = shaded-safe s in
    let now = shaded-safe (next (Commit i a e) s may) in
    elim (done-cases (w.done i) (add a e) (cases_lt (length (w.done i)) (length (add a e)))) [
      | inl all ↦
          subst (λ (x : List Entry). IsFront x v.audit) all
          (subst (λ (x : List Entry). IsFront x v.audit) (put-same i (longer (w.done i) (add a e)) w.done)
          (now.done i).0)
      | inr le ↦
          front-trans (front-shorter may.1 (before.done i).1 le)
          (front-trans (before.done i).0 (shaded-audit (Commit i a e ∷ []) w s (may, tt)))
    ]

pub commit-after : (members : List ℕ) (member : ℕ → Member) (audit : List Entry) (moves : List Move) (i : ℕ)
    (a : List Entry) (e : Entry) → IsStart members member audit
    → AreAllowed members (start_world member audit) moves
    → Allowed members (run (start_world member audit) moves) (Commit i a e) → IsFront audit (add a e)
commit-after members member audit moves i a e st may commit =
    let w = run (start_world member audit) moves in
    let s = shaded-run moves (start_world member audit) (shaded-start st) may in
    comes_after a e st
    (λ p l here f inside. leader-above members member audit moves i p l f st may commit.0 here inside) commit.2
    (front-trans (audit-stays members member audit [] moves st tt may)
    (shaded-audit (Commit i a e ∷ []) w s (commit, tt)))
    (commit-known i a e s commit)
