-- Worlds that the protocol can come to: what it keeps in them, and moves that lead on.
use Rattle.std.proofs.Common.{◌≡◌, ℕ, List, ◌++◌, sym, ap, subst, ◌∙◌}
use Rattle.qq_raft_protocol.specs.Moves.{Move, AreAllowed, run}
use Rattle.qq_raft_protocol.specs.Safe.{IsSafe}
use Rattle.qq_raft_protocol.specs.World.{World, start_world}
use Rattle.qq_raft_protocol.proofs.Runs.{shaded-moves}
use Rattle.qq_raft_protocol.proofs.Shades.{Shaded, shaded-safe}
use Rattle.qq_raft_model.specs.State.{Server}
use Rattle.qq_raft_model.specs.Refines.{IsReached, OnlyMoves, Refines, Stands}
use Rattle.qq_raft_model.proofs.Later.{only-trans}
use Rattle.qq_raft_model.proofs.Refining.{run-append, allowed-append, quiet-append}

pub shaded-there : (members : List ℕ) (w : World) → IsReached members w → Shaded members w
shaded-there members w reached =
    subst (Shaded members) (sym reached.is) (shaded-moves reached.moves reached.start reached.allowed)

pub safe-there : (members : List ℕ) (w : World) → IsReached members w → IsSafe members w
safe-there members w reached = shaded-safe (shaded-there members w reached)

pub then-reached : {members : List ℕ} {w : World} (moves : List Move) → IsReached members w
    → AreAllowed members w moves → IsReached members (run w moves)
then-reached {members} {w} moves reached allowed =
    let start = start_world reached.member reached.audit in
    let is : w ≡ run start reached.moves = reached.is in
    record {
      member = reached.member;
      audit = reached.audit;
      start = reached.start;
      moves = reached.moves ++ moves;
      allowed =
          allowed-append members start reached.moves moves reached.allowed
          (subst (λ (v : World). AreAllowed members v moves) is allowed);
      is = ap (λ (v : World). run v moves) is ∙ sym (run-append start reached.moves moves);
    }

-- one thing after another, the second in a world that the protocol can come to
pub refines-next : {members : List ℕ} {w : World} {k : ℕ} {s t : Server} → IsReached members w
    → Refines members w k s
    → ((v : World) → IsReached members v → Stands v k s → OnlyMoves k w v → Refines members v k t)
    → Refines members w k t
refines-next {members = members} {w = w} {k = k} {t = t} reached first next =
    let v = run w first.moves in
    let second = next v (then-reached first.moves reached first.allowed) first.stands first.only in
    let same = run-append w first.moves second.moves in
    record {
      moves = first.moves ++ second.moves;
      allowed = allowed-append members w first.moves second.moves first.allowed second.allowed;
      quiet = quiet-append first.moves second.moves first.quiet second.quiet;
      stands = subst (λ x. Stands x k t) (sym same) second.stands;
      only = subst (OnlyMoves k w) (sym same) (only-trans first.only second.only);
    }
