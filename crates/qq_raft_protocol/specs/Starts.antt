-- Disks that a group may begin with, and where its entries come from.
use Rattle.std.specs.Prelude.{◌≡◌, ◌<◌, ◌≤◌, ℕ, List, [], ◌∷◌, ◌++◌}
use Rattle.qq_base.specs.Fronts.{IsFront}
use Rattle.qq_entry.specs.declared.command.Entry.{Entry}
use Rattle.qq_raft_protocol.specs.World.{Lane, Member, World, lanes}
use Rattle.qq_raft_protocol.specs.World.Role.{Leader}
use Rattle.qq_raft_protocol.specs.Facts.{add, In}
use Rattle.qq_raft_protocol.specs.Moves.{Move, run}
use Rattle.qq_raft_protocol.specs.Moves.Move.{Append}
use Rattle.qq_raft_protocol.specs.Safe.{IsSupported}

-- the members' disks, whatever a crash leaves of each, support an audit, and nobody else has an entry
pub record IsStart (members : List ℕ) (member : ℕ → Member) (audit : List Entry) : Type 0 where
  pub noticed : (q : ℕ) (l : Lane) → In l (lanes (member q)) → (member q).noticed ≤ l.op
  pub older : (q : ℕ) (l : Lane) → In l (member q).older → l.op < (member q).mine.op
  pub others : (q : ℕ) → (In q members → ⊥) → (l : Lane) → In l (lanes (member q)) → l.log ≡ []
  pub supported : IsSupported members (λ q l. In l (lanes (member q))) audit

-- ---- where an entry comes from

-- a disk of a member had the entry behind these
pub record WasThere (members : List ℕ) (member : ℕ → Member) (a : List Entry) (e : Entry) : Type 0 where
  pub node : ℕ
  pub inside : In node members
  pub lane : Lane
  pub here : In lane (lanes (member node))
  pub front : IsFront (add a e) lane.log

-- one of the moves was that a leader added the entry to these, in its own term
pub record IsAppended (w : World) (moves : List Move) (a : List Entry) (e : Entry) : Type 0 where
  pub first : List Move
  pub node : ℕ
  pub rest : List Move
  pub is : moves ≡ first ++ Append node e ∷ rest
  pub leads : (run w first).role node ≡ Leader
  pub term : e.term.0 ≡ ((run w first).member node).mine.term
  pub log : ((run w first).member node).mine.log ≡ a
