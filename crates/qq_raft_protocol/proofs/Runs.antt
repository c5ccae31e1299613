-- What holds of all that a group comes to from a start.
use Rattle.std.proofs.Common.{ℕ, List}
use Rattle.qq_base.specs.Fronts.{IsFront}
use Rattle.qq_entry.specs.declared.command.Entry.{Entry}
use Rattle.qq_raft_protocol.specs.World.{Member, start_world}
use Rattle.qq_raft_protocol.specs.Moves.{Move, run, AreAllowed}
use Rattle.qq_raft_protocol.specs.Safe.{IsSafe, HasOneLeader, OnlyAppends, AcksWithin, IsFirst}
use Rattle.qq_raft_protocol.specs.Starts.{IsStart}
use Rattle.qq_raft_protocol.proofs.Shades.{Shaded, shaded-start, shaded-run, shaded-safe, shaded-acks, shaded-first, shaded-audit, shaded-leader, shaded-log}

pub shaded-moves : {members : List ℕ} {member : ℕ → Member} {audit : List Entry} (moves : List Move)
    → IsStart members member audit → AreAllowed members (start_world member audit) moves
    → Shaded members (run (start_world member audit) moves)
shaded-moves {member = member} {audit = audit} moves st may =
    shaded-run moves (start_world member audit) (shaded-start st) may

pub safe-run : (members : List ℕ) (member : ℕ → Member) (audit : List Entry) (moves : List Move)
    → IsStart members member audit → AreAllowed members (start_world member audit) moves
    → IsSafe members (run (start_world member audit) moves)
safe-run members member audit moves st may = shaded-safe (shaded-moves moves st may)

pub audit-stays : (members : List ℕ) (member : ℕ → Member) (audit : List Entry) (first second : List Move)
    → IsStart members member audit → AreAllowed members (start_world member audit) first
    → AreAllowed members (run (start_world member audit) first) second
    → IsFront (run (start_world member audit) first).audit (run (run (start_world member audit) first) second).audit
audit-stays members member audit first second st may later =
    shaded-audit second (run (start_world member audit) first) (shaded-moves first st may) later

pub leader-stays : (members : List ℕ) (member : ℕ → Member) (audit : List Entry) (first second : List Move)
    → IsStart members member audit → AreAllowed members (start_world member audit) first
    → AreAllowed members (run (start_world member audit) first) second
    → HasOneLeader (run (start_world member audit) first) (run (run (start_world member audit) first) second)
leader-stays members member audit first second st may later =
    shaded-leader second (run (start_world member audit) first) (shaded-moves first st may) later

pub log-stays : (members : List ℕ) (member : ℕ → Member) (audit : List Entry) (first second : List Move)
    → IsStart members member audit → AreAllowed members (start_world member audit) first
    → AreAllowed members (run (start_world member audit) first) second
    → OnlyAppends (run (start_world member audit) first) (run (run (start_world member audit) first) second)
log-stays members member audit first second st may later =
    shaded-log second (run (start_world member audit) first) (shaded-moves first st may) later

pub acks-within : (members : List ℕ) (member : ℕ → Member) (audit : List Entry) (moves : List Move)
    → IsStart members member audit → AreAllowed members (start_world member audit) moves
    → AcksWithin (run (start_world member audit) moves)
acks-within members member audit moves st may = shaded-acks (shaded-moves moves st may)

pub is-first : (members : List ℕ) (member : ℕ → Member) (audit : List Entry) (moves : List Move)
    → IsStart members member audit → AreAllowed members (start_world member audit) moves
    → IsFirst members (run (start_world member audit) moves)
is-first members member audit moves st may = shaded-first (shaded-moves moves st may)
