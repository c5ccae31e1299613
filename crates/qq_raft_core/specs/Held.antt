-- Up to which index a majority has the log.
use Rattle.std.specs.Prelude.{ℕ, Bool, nat_le}
use Rattle.qq_raft_model.specs.Leading.{durable, is_majority}
use Rattle.qq_raft_model.specs.State.{Server}

-- a majority has the entries up to an index, the server itself those that are durable
abbrev pub is_held : Server → ℕ → Bool
is_held s index = is_majority (nat_le index (durable s)) (λ p. nat_le index p.matched) s.peers
