-- The tests that decide whether logs support an audit.
use Rattle.std.specs.Prelude.{◌+◌, ◌-◌, ◌*◌, ℕ, zero, suc, Bool, true, false, List, [], ◌∷◌, length, drop, Option, Some, None, nat_eq, nat_le, nat_lt, ◌&&◌, ◌||◌, if◌then◌else◌}
use Rattle.std.specs.List.{list_all, list_any}
use Rattle.qq_base.specs.declared.ids.NodeId.{NodeId}
use Rattle.qq_entry.specs.declared.command.Entry.{Entry}
use Rattle.qq_entry.specs.Same.{same_entry}
use Rattle.qq_raft_protocol.specs.World.{Lane}
use Rattle.qq_raft_protocol.specs.Facts.{tally}
use Rattle.qq_agree.specs.Support.{numbers}

-- ---- one log

-- terms don't fall from this one on, and none is later than that
abbrev pub rises : ℕ → ℕ → List Entry → Bool
rises from upto [] = true
rises from upto (e ∷ es) = nat_le from e.term.0 && (nat_le e.term.0 upto && rises e.term.0 upto es)

abbrev pub terms_rise : Lane → Bool
terms_rise l = rises 0 l.term l.log

-- ---- two logs

-- how many entries both begin with
abbrev pub common : List Entry → List Entry → ℕ
common [] ys = 0
common (x ∷ xs) [] = 0
common (x ∷ xs) (y ∷ ys) = if same_entry x y then suc (common xs ys) else 0

-- No term occurs in both, along each of which terms rise. One step less is enough than both have entries.
abbrev pub apart : ℕ → List Entry → List Entry → Bool
apart zero xs ys = true
apart (suc n) [] ys = true
apart (suc n) (x ∷ xs) [] = true
apart (suc n) (x ∷ xs) (y ∷ ys) =
    if nat_lt x.term.0 y.term.0 then apart n xs (y ∷ ys)
    else if nat_lt y.term.0 x.term.0 then apart n (x ∷ xs) ys
    else false

-- no term occurs in both after what both begin with
abbrev pub logs_match : List Entry → List Entry → Bool
logs_match x y = apart (length x + (length y - 1)) (drop (common x y) x) (drop (common x y) y)

-- ---- elections

abbrev pub is_vote : ℕ → Option ℕ → Bool
is_vote c None = false
is_vote c (Some v) = nat_eq v c

-- a lane is past a term, or has its vote in it for this node
abbrev pub has_voted : ℕ → ℕ → Lane → Bool
has_voted t c l = nat_lt t l.term || (nat_eq l.term t && is_vote c l.vote)

-- a node may have been elected: it has reached the term, and a majority may have voted for it
abbrev pub may_lead : List NodeId → (ℕ → Lane) → ℕ → ℕ → Bool
may_lead nodes lane t c =
    nat_le t (lane c).term && nat_lt (length nodes) (2 * tally (λ k. has_voted t c (lane k)) (numbers nodes))

-- whom a member's lane names for a term: itself where it is past it, else its vote in it
abbrev pub named : ℕ → ℕ → Lane → Option ℕ
named t k l = if nat_lt t l.term then Some k else if nat_eq l.term t then l.vote else None

abbrev pub may_lead_by : List NodeId → (ℕ → Lane) → ℕ → Option ℕ → Bool
may_lead_by nodes lane t None = false
may_lead_by nodes lane t (Some c) = may_lead nodes lane t c

-- one of those that the members name
abbrev pub has_election : List NodeId → (ℕ → Lane) → ℕ → Bool
has_election nodes lane t = list_any (λ (n : NodeId). may_lead_by nodes lane t (named t n.0 (lane n.0))) nodes

-- each term of these entries has its election
abbrev pub have_elections : List NodeId → (ℕ → Lane) → List Entry → Bool
have_elections nodes lane log = list_all (λ (e : Entry). has_election nodes lane e.term.0) log

-- ---- all members

abbrev pub all_rise : (ℕ → Lane) → List NodeId → Bool
all_rise lane nodes = list_all (λ (n : NodeId). terms_rise (lane n.0)) nodes

-- a log with each of these
abbrev pub matches_each : (ℕ → Lane) → List Entry → List NodeId → Bool
matches_each lane log nodes = list_all (λ (n : NodeId). logs_match log (lane n.0).log) nodes

-- each with each that follows
abbrev pub all_match : (ℕ → Lane) → List NodeId → Bool
all_match lane [] = true
all_match lane (n ∷ nodes) = matches_each lane (lane n.0).log nodes && all_match lane nodes

abbrev pub all_have_elections : (ℕ → Lane) → List NodeId → List NodeId → Bool
all_have_elections lane nodes some = list_all (λ (n : NodeId). have_elections nodes lane (lane n.0).log) some

abbrev pub support_audit : List NodeId → (ℕ → Lane) → Bool
support_audit nodes lane =
    all_rise lane nodes && (all_match lane nodes && all_have_elections lane nodes nodes)
