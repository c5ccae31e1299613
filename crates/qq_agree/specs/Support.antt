-- When the logs of a group's members support an audit. Each node has one lane.
use Rattle.std.specs.Prelude.{◌≡◌, ◌⊎◌, ◌≤◌, ℕ, List, [], map}
use Rattle.qq_base.specs.Fronts.{IsFront}
use Rattle.qq_base.specs.declared.ids.NodeId.{NodeId}
use Rattle.qq_entry.specs.declared.command.Entry.{Entry}
use Rattle.qq_raft_protocol.specs.World.{Lane}
use Rattle.qq_raft_protocol.specs.Facts.{add, In, Within}
use Rattle.qq_raft_protocol.specs.Safe.{IsElected, IsSupported}

abbrev pub number : NodeId → ℕ
number node = node.0

abbrev pub numbers : List NodeId → List ℕ
numbers nodes = map number nodes

-- each node has this lane
abbrev pub HasLane : (ℕ → Lane) → ℕ → Lane → Type 0
HasLane lane k l = l ≡ lane k

-- the lanes support an audit
abbrev pub SupportAudit : List NodeId → (ℕ → Lane) → Type 0
SupportAudit nodes lane = IsSupported (numbers nodes) (HasLane lane) []

-- nobody but the members has entries
abbrev pub HaveAll : List NodeId → (ℕ → Lane) → Type 0
HaveAll nodes lane = (k : ℕ) → (In k (numbers nodes) → ⊥) → (lane k).log ≡ []

-- ---- of what that consists

-- terms don't fall along a log, and are at or below the lane's term
abbrev pub TermsRise : Lane → Type 0
TermsRise l = (a : List Entry) (e : Entry) → IsFront (add a e) l.log → Within e.term.0 a × (e.term.0 ≤ l.term)

-- logs that have entries of one term agree up to the first of these (Ongaro's dissertation, section 3.5, log matching)
abbrev pub LogsMatch : List Entry → List Entry → Type 0
LogsMatch x y =
    (a b : List Entry) (e f : Entry) → IsFront (add a e) x → IsFront (add b f) y → e.term.0 ≡ f.term.0
    → IsFront (add a e) (add b f) ⊎ IsFront (add b f) (add a e)

-- a term has its election
abbrev pub HasElection : List NodeId → (ℕ → Lane) → ℕ → Type 0
HasElection nodes lane t = IsElected (numbers nodes) (HasLane lane) t
