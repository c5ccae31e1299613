-- What the protocol promises, of servers that stand for its members.
use Rattle.std.proofs.Common.{◌≡◌, ℕ, ◌≤◌, List, length, take, sym, ap, ◌∙◌, arith}
use Rattle.std.proofs.Math.Seq.{take-append_seam}
use Rattle.qq_base.specs.Fronts.{IsFront}
use Rattle.qq_base.proofs.Fronts.{front-shorter, front-trans}
use Rattle.qq_entry.specs.declared.command.Entry.{Entry}
use Rattle.qq_raft_protocol.specs.Moves.{run}
use Rattle.qq_raft_protocol.specs.Safe.{IsSafe}
use Rattle.qq_raft_protocol.specs.World.{Lane, World}
use Rattle.qq_raft_msg.specs.declared.state.Role.TheVariants.{Leader}
use Rattle.qq_raft_model.specs.State.{Server}
use Rattle.qq_raft_model.specs.Refines.{role_of, IsReached, Stands, Refines}
use Rattle.qq_raft_model.proofs.Adding.{done-front}
use Rattle.qq_raft_model.proofs.Reached.{safe-there, then-reached}

pub one-leader : {members : List ℕ} {w : World} {p q : ℕ} {s t : Server} → IsReached members w
    → Stands w p s → Stands w q t → s.role ≡ Leader → t.role ≡ Leader → s.term.0 ≡ t.term.0 → p ≡ q
one-leader {members} {w} {p} {q} {s} {t} reached first second leads other same =
    (safe-there members w reached).one_leader p q (first.role ∙ ap role_of leads)
    (second.role ∙ ap role_of other)
    (ap (λ (l : Lane). l.term) first.lane ∙ same ∙ sym (ap (λ (l : Lane). l.term) second.lane))

pub take_front : (x log : List Entry) (n : ℕ) → IsFront x log → length x ≡ n → take n log ≡ x
take_front x log n p long =
    ap (λ (i : ℕ). take i log) (sym long) ∙ ap (take (length x)) p.is ∙ take-append_seam x p.rest

pub one-history : {members : List ℕ} {w : World} {p q : ℕ} {s t : Server} → IsReached members w
    → Stands w p s → Stands w q t → s.commit ≤ t.commit → take s.commit s.log ≡ take s.commit t.log
one-history {members} {w} {p} {q} {s} {t} reached first second le =
    let safe : IsSafe members w = safe-there members w reached in
    let own : length (w.done p) ≡ s.commit = first.commit in
    let other : length (w.done q) ≡ t.commit = second.commit in
    let shorter : IsFront (w.done p) (w.done q) =
    front-shorter (safe.done p).0 (safe.done q).0 (omega (arith, own, other, le)) in
    take_front (w.done p) s.log s.commit (done-front reached first) own
    ∙ sym (take_front (w.done p) t.log s.commit (front-trans shorter (done-front reached second)) own)

pub still-reached : {members : List ℕ} {w : World} {k : ℕ} {s : Server} → IsReached members w
    → (r : Refines members w k s) → IsReached members (run w r.moves)
still-reached reached r = then-reached r.moves reached r.allowed
