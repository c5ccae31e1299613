-- A group of three in which node 1 is elected by itself and node 2 and commits an entry, while node 3 is away.
use Rattle.std.specs.Prelude.{ℕ, List, [], ◌∷◌, Some}
use Rattle.qq_entry.specs.declared.command.Entry.{Entry}
use Rattle.qq_raft_protocol.specs.World.{Ask, Sent}
use Rattle.qq_raft_protocol.specs.Moves.{Move}
use Rattle.qq_raft_protocol.specs.Moves.Move.{Write, Stand, Vote, Lead, Append, Send, Reply, Commit, Notice}

abbrev pub three : List ℕ
three = 1 ∷ 2 ∷ 3 ∷ []

-- what node 1 asks when it stands
abbrev pub first_ask : Ask
first_ask = record { from = 1; term = 1; op = 1; log = [] }

-- what it sends when it leads
abbrev pub first_sent : Entry → Sent
first_sent e = record { from = 1; term = 1; front = e ∷ []; done = [] }

-- node 1 is elected
abbrev pub election : List Move
election =
    Stand 1 ∷ Notice 1 1 ∷ Write 2 1 (Some 1) [] ∷ Vote 2 first_ask ∷ Notice 2 1 ∷ Lead 1 ∷ []

-- and then commits an entry once node 2 and it have it durably
abbrev pub replication : Entry → List Move
replication e =
    Append 1 e ∷ Send 1 (e ∷ []) [] ∷ Write 2 1 (Some 1) (e ∷ []) ∷ Reply 2 (first_sent e) ∷ Notice 2 2 ∷ Notice 1 2
    ∷ Commit 1 [] e ∷ []
