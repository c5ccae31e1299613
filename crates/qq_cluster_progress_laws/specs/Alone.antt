-- A round of a pump, as one queue alone sees it.
use Rattle.std.specs.Prelude.{ℕ, List, [], ◌∷◌, ◌++◌, Bool, length, replicate, if◌then◌else◌}
use Rattle.qq_cluster_model.specs.Queue.{Queue, Event, Delivers, Notices, Syncs, Writes, after, happens}
use Rattle.qq_cluster_model.specs.Rules.{waits_noticed}

-- a node writes and syncs, and its member is told of what is new
abbrev pub turn : ℕ → Queue → List Event
turn j q =
    Writes j ∷ Syncs j
    ∷ (if waits_noticed j (happens (happens q (Writes j)) (Syncs j)) then Notices j ∷ [] else [])

abbrev pub turn_where : Bool → ℕ → Queue → List Event
turn_where up j q = if up then turn j q else []

-- the nodes that are up, in order
abbrev pub turns : (ℕ → Bool) → List ℕ → Queue → List Event
turns up [] q = []
turns up (j ∷ nodes) q =
    let early = turn_where (up j) j q in
    early ++ turns up nodes (after q early)

-- and then the messages that are there by then
abbrev pub round_alone : (ℕ → Bool) → List ℕ → Queue → List Event
round_alone up nodes q =
    let early = turns up nodes q in
    early ++ replicate (length (after q early).group.bag) (Delivers 0)
