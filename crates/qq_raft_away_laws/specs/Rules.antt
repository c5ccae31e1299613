-- By what rule members are away, and when they take part again.
use Rattle.std.specs.Prelude.{◌≡◌, ◌+◌, ℕ, Bool, false, List, [], ◌∷◌, max, nat_eq, nat_lt, not, ◌&&◌, ◌||◌}
use Rattle.std.specs.List.{list_all, list_any}
use Rattle.qq_base.specs.Fronts.{put}
use Rattle.qq_entry.specs.declared.command.Entry.{Entry}
use Rattle.qq_raft_protocol.specs.World.{Lane, Member, opened}
use Rattle.qq_raft_protocol.specs.Safe.{IsSupported}
use Rattle.qq_raft_away_laws.specs.Away.{assumed_lane, read_lane}

-- ---- who is away

-- the members of a queue, and what recovery found of it on each node: a lane without a change where that is nothing
pub record Reading : Type 0 where
  pub members : List ℕ
  pub lane : ℕ → Lane

abbrev pub has_change : Lane → Bool
has_change lane = nat_lt 0 lane.op

abbrev pub is_used : Reading → Bool
is_used r = list_any (λ (q : ℕ). has_change (r.lane q)) r.members

abbrev pub is_used_at : ℕ → Reading → Bool
is_used_at node r = list_any (nat_eq node) r.members && is_used r

-- A node is new among old ones where no change of any queue was found on it, and a queue of which it is a member has
-- one on another node. It is a matter of lanes and not of files: a disk that was opened and never used has a file.
abbrev pub is_new : List Reading → ℕ → Bool
is_new readings node =
    list_all (λ (r : Reading). not (has_change (r.lane node))) readings && list_any (is_used_at node) readings

-- a node is away where its disk failed, or where it is new among old ones
abbrev pub is_away : (ℕ → Bool) → List Reading → ℕ → Bool
is_away failed readings node = failed node || is_new readings node

-- ---- what is assumed of them

-- the latest term of an entry, 0 where there is none
abbrev pub latest_term : List Entry → ℕ
latest_term [] = 0
latest_term (e ∷ es) = max e.term.0 (latest_term es)

-- the latest term of an entry of these nodes
abbrev pub latest_of : (ℕ → Lane) → List ℕ → ℕ
latest_of lane [] = 0
latest_of lane (q ∷ qs) = max (latest_term (lane q).log) (latest_of lane qs)

-- one term more than each entry that was read
abbrev pub term_above : (ℕ → Bool) → (ℕ → Lane) → List ℕ → ℕ
term_above away lane members = latest_of (read_lane away (λ p. 0) lane) members + 1

-- the lanes that a queue's group begins with
abbrev pub opening_lane : (ℕ → Bool) → (ℕ → Lane) → List ℕ → ℕ → Lane
opening_lane away lane members = read_lane away (λ p. term_above away lane members) lane

abbrev pub opening : List ℕ → (ℕ → Bool) → (ℕ → Lane) → ℕ → Member
opening members away lane q = opened (opening_lane away lane members q)

-- ---- when they take part

-- the opening as it would have been with a lane that is found later; who began meanwhile has what it began with
abbrev pub reopening : List ℕ → (ℕ → Bool) → (ℕ → Lane) → ℕ → Lane → ℕ → Member
reopening members away lane k found = opening members (put k false away) (put k found lane)

-- A failed node is taken up with what its restart finds where the lanes of the opening, with this one in its place,
-- support an audit. Who is still away is assumed to have a later term than the entries of this one too.
abbrev pub MayReturn : List ℕ → (ℕ → Bool) → (ℕ → Lane) → ℕ → Lane → Type 0
MayReturn members away lane k found =
    IsSupported members (λ q l. l ≡ opening_lane (put k false away) (put k found lane) members q) []

-- A new node begins where each of its queues that was used has a ready leader.
abbrev pub may_begin : (Reading → Bool) → List Reading → ℕ → Bool
may_begin has_leader readings node =
    list_all (λ (r : Reading). not (is_used_at node r) || has_leader r) readings

-- with the leader's term where that is later than what was assumed
abbrev pub first_lane : ℕ → ℕ → Lane
first_lane t leader = assumed_lane (max t leader)
