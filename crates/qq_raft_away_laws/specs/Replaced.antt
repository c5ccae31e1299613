-- A group of three. Node 1 was elected by itself and node 3, and these two have the entry that it committed. Then the
-- disk of node 3 is replaced.
use Rattle.std.specs.Prelude.{ℕ, Bool, List, [], ◌∷◌, ◌++◌, Some, nat_eq, ◌||◌, if◌then◌else◌}
use Rattle.qq_entry.specs.declared.command.Entry.{Entry}
use Rattle.qq_raft_protocol.specs.World.{Lane, Member, Ask, Sent, no_lane, opened}
use Rattle.qq_raft_protocol.specs.Moves.{Move}
use Rattle.qq_raft_protocol.specs.Moves.Move.{Write, Stand, Vote, Lead, Append, Send, Reply, Commit, Notice}
use Rattle.qq_raft_away_laws.specs.Away.{read_lane}

abbrev pub is_third : ℕ → Bool
is_third q = nat_eq q 3

abbrev pub elected_lane : Entry → Lane
elected_lane e = record { op = 1; term = 1; vote = Some 1; log = e ∷ [] }

-- the lanes before
abbrev pub old_lane : Entry → ℕ → Lane
old_lane e q = if nat_eq q 1 || nat_eq q 3 then elected_lane e else no_lane

abbrev pub old_disks : Entry → ℕ → Member
old_disks e q = opened (old_lane e q)

-- and those that are read after it, with the next term for node 3
abbrev pub new_disks : Entry → ℕ → Member
new_disks e q = opened (read_lane is_third (λ p. 2) (old_lane e) q)

-- node 2 asks for votes in term 3
abbrev pub third_ask : Ask
third_ask = record { from = 2; term = 3; op = 3; log = [] }

abbrev pub third_sent : Entry → Sent
third_sent f = record { from = 2; term = 3; front = f ∷ []; done = [] }

-- node 3 takes part at once: it elects node 2, which has no entry
abbrev pub at_once_election : List Move
at_once_election =
    Stand 2 ∷ Stand 2 ∷ Stand 2 ∷ Notice 2 3 ∷ Write 3 3 (Some 2) [] ∷ Vote 3 third_ask ∷ Notice 3 2 ∷ Lead 2 ∷ []

-- and both commit another one
abbrev pub at_once_commit : Entry → List Move
at_once_commit f =
    Append 2 f ∷ Send 2 (f ∷ []) [] ∷ Write 3 3 (Some 2) (f ∷ []) ∷ Reply 3 (third_sent f) ∷ Notice 3 3 ∷ Notice 2 4
    ∷ Commit 2 [] f ∷ []

abbrev pub at_once : Entry → List Move
at_once f = at_once_election ++ at_once_commit f
