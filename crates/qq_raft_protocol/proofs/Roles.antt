-- Roles differ, and a term has no leader or one.
use Rattle.std.proofs.Common.{◌≡◌, ℕ, Option, Some, None}
use Rattle.qq_raft_protocol.specs.World.{Role}
use Rattle.qq_raft_protocol.specs.World.Role.{Candidate, Leader}

pub follower_leads : Role.Follower ≡ Leader → ⊥
follower_leads e = absurd cc

pub follower_asks : Role.Follower ≡ Candidate → ⊥
follower_asks e = absurd cc

pub candidate_leads : Role.Candidate ≡ Leader → ⊥
candidate_leads e = absurd cc

pub leader_asks : Role.Leader ≡ Candidate → ⊥
leader_asks e = absurd cc

pub none_some : (o : Option ℕ) (c : ℕ) → o ≡ None → o ≡ Some c → ⊥
none_some o c e f = absurd cc

pub some_same : (a b : ℕ) → Some a ≡ Some b → a ≡ b
some_same a b e = cc
