-- Whatever logs the members of a group start with, there are ops that come to them.
use Rattle.std.proofs.Common.{◌≡◌, ℕ, zero, suc, ◌+◌, Option, Some, None, List, [], ◌∷◌, ◌++◌, length, map, refl, sym, ap, ◌∙◌, length-append, take_all, arith}
use Rattle.std.specs.List.{AllByRecursion}
use Rattle.std.proofs.lemmas.Bool.{eq-eqb}
use Rattle.std.proofs.lemmas.List.Sums.{fold-append}
use Rattle.qq_base.proofs.Puts.{put-each, put-other, put-same}
use Rattle.qq_base.specs.Fronts.{put}
use Rattle.qq_base.specs.declared.ids.NodeId.{NodeId}
use Rattle.qq_base.specs.declared.ids.QueueId.{QueueId}
use Rattle.qq_base.specs.declared.ids.Term.{Term}
use Rattle.qq_entry.specs.declared.command.Entry.{Entry}
use Rattle.qq_log.specs.Log.{LogState}
use Rattle.qq_log.specs.Stable.{Stable, apply_op, change, new_state, stable, then_apply}
use Rattle.qq_log.specs.declared.op.Op.{Op}
use Rattle.qq_log.specs.declared.op.Op.TheVariants.{Change}
use Rattle.qq_raft_model.specs.Handing.{plain_state}
use Rattle.qq_raft_model.specs.Group.{Group as GroupState, Seat as SeatState, empty_seat}
use Rattle.qq_group.specs.Opening.{AreApart, AreFound, IsAllDown, IsFoundBy, IsUnused, MayBeFound, MayBeFoundBy, Start}
use Rattle.qq_group.specs.Restarts.{IsFound}
use Rattle.qq_group.proofs.Starting.{by-still}

-- ---- ops that lead to a log

-- an op that makes a log of these entries alone
abbrev set_log : ℕ → Term → Option NodeId → List Entry → Op
set_log op term vote entries = Change (record { 0 = 1 }) op term vote (record { 0 = 0 }) entries

abbrev idle : ℕ → List Op
idle zero = []
idle (suc m) = idle m ++ set_log (suc m) (record { 0 = 0 }) None [] ∷ []

abbrev made : ℕ → Term → Option NodeId → List Entry → Stable
made op term vote entries =
    record new_state { op = op; term = term; vote = vote; log = map Some entries }

next-op : (m : ℕ) (term : Term) (vote : Option NodeId) (entries : List Entry)
    → apply_op (record new_state { op = m }) (set_log (suc m) term vote entries) ≡ Some (made (suc m) term vote entries)
unfolding apply_op change
next-op m term vote entries = rw (eq-eqb (suc m) (m + 1) (omega arith)) refl

idle-state : (m : ℕ) → stable (idle m) ≡ Some (record new_state { op = m })
idle-state zero = refl
idle-state (suc m) =
    fold-append then_apply (Some new_state) (idle m) (set_log (suc m) (record { 0 = 0 }) None [] ∷ [])
    ∙ ap (λ o. then_apply o (set_log (suc m) (record { 0 = 0 }) None [])) (idle-state m)
    ∙ next-op m (record { 0 = 0 }) None []

idle-length : (m : ℕ) → length (idle m) ≡ m
idle-length zero = refl
idle-length (suc m) =
    let more : length (idle (suc m)) ≡ length (idle m) + 1 = length-append (idle m) _ in
    let is : length (idle m) ≡ m = idle-length m in
    omega (arith, more, is)

abbrev pub ops_by : ℕ → LogState → List Op
ops_by zero l = []
ops_by (suc m) l = idle m ++ set_log (suc m) l.term l.vote l.entries ∷ []

abbrev pub state_by : ℕ → LogState → Stable
state_by zero l = new_state
state_by (suc m) l = made (suc m) l.term l.vote l.entries

pub by-stable : (n : ℕ) (l : LogState) → stable (ops_by n l) ≡ Some (state_by n l)
by-stable zero l = refl
by-stable (suc m) l =
    fold-append then_apply (Some new_state) (idle m) (set_log (suc m) l.term l.vote l.entries ∷ [])
    ∙ ap (λ o. then_apply o (set_log (suc m) l.term l.vote l.entries)) (idle-state m)
    ∙ next-op m l.term l.vote l.entries

pub by-length : (n : ℕ) (l : LogState) → length (ops_by n l) ≡ n
by-length zero l = refl
by-length (suc m) l =
    let more : length (ops_by (suc m) l) ≡ length (idle m) + 1 = length-append (idle m) _ in
    let is : length (idle m) ≡ m = idle-length m in
    omega (arith, more, is)

pub by-plain : (n : ℕ) (l : LogState) → (n ≡ 0 → IsUnused l)
    → state_by n l ≡ plain_state n l.term l.vote l.entries
by-plain zero l unused =
    let u = unused refl in
    let term : record { 0 = 0 } ≡ l.term = sym u.term in
    let vote : None ≡ l.vote = sym u.vote in
    let entries : [] ≡ l.entries = sym u.entries in
    λ i. plain_state 0 (term i) (vote i) (entries i)
by-plain (suc m) l unused = refl

-- the seat of a member that is down, with ops that lead to a log
abbrev left : LogState → SeatState
left l = record { server = None; ops = ops_by l.op l; noticed = 0 }

is-found : (g : GroupState) (k : ℕ) (l : LogState) → MayBeFound l → g.seat k ≡ left l → IsFound g k l
is-found g k l may is =
    let ops : (g.seat k).ops ≡ ops_by l.op l = ap (λ (s : SeatState). s.ops) is in
    let noticed : (g.seat k).noticed ≡ 0 = ap (λ (s : SeatState). s.noticed) is in
    let count : length (ops_by l.op l) ≡ l.op = by-length l.op l in
    let here : length (g.seat k).ops ≡ l.op = ap (λ (xs : List Op). length xs) ops ∙ count in
    record {
      noticed = omega (arith, noticed);
      handed = omega (arith, here);
      is =
          ap stable (take_all l.op (g.seat k).ops (omega (arith, here)) ∙ ops)
          ∙ by-stable l.op l
          ∙ ap (λ (state : Stable). Some state) (by-plain l.op l may);
    }

-- ---- all members

abbrev left_by : {Q L : Type 0} → (L → LogState) → Option (Q × L) → SeatState
left_by log None = empty_seat
left_by log (Some s) = left (log s.1)

abbrev seats_of : {Q L : Type 0} → (L → LogState) → List (Start Q L) → ℕ → SeatState
seats_of log [] = λ k. empty_seat
seats_of log (s ∷ starts) = put s.0.0 (left_by log s.1) (seats_of log starts)

abbrev pub group_of : QueueId → List NodeId → List Entry → (ℕ → SeatState) → GroupState
group_of queue nodes audit seats =
    record { queue = queue; nodes = nodes; seat = seats; bag = []; audit = audit }

left-down : {Q L : Type 0} (log : L → LogState) (o : Option (Q × L)) → (left_by log o).server ≡ None
left-down log None = refl
left-down log (Some s) = refl

all-left : {Q L : Type 0} (log : L → LogState) (starts : List (Start Q L)) (k : ℕ)
    → (seats_of log starts k).server ≡ None
all-left log [] k = refl
all-left log (s ∷ starts) k =
    put-each (λ i (x : SeatState). x.server ≡ None) s.0.0 (left_by log s.1) (seats_of log starts) (left-down log s.1)
    (λ i other. all-left log starts i) k

by-found : {Q L : Type 0} (log : L → LogState) (g : GroupState) (k : ℕ) (o : Option (Q × L)) → MayBeFoundBy log o
    → g.seat k ≡ left_by log o → IsFoundBy log g k o
by-found log g k None may is = tt
by-found log g k (Some s) may is = is-found g k (log s.1) may is

still-found : {Q L : Type 0} (log : L → LogState) (g h : GroupState) (k : ℕ) (starts : List (Start Q L))
    → ((q : ℕ) → (q ≡ k → ⊥) → h.seat q ≡ g.seat q)
    → AllByRecursion (λ (t : Start Q L). t.0.0 ≡ k → ⊥) starts → AreFound log g starts → AreFound log h starts
still-found log g h k [] same apart found = tt
still-found log g h k (t ∷ starts) same apart found = (
  by-still log g h t.0.0 t.1 (same t.0.0 apart.0) found.0,
  still-found log g h k starts same apart.1 found.1,
)

all-found : {Q L : Type 0} (log : L → LogState) (queue : QueueId) (nodes : List NodeId) (audit : List Entry)
    (starts : List (Start Q L)) → AreApart starts → AllByRecursion (λ (s : Start Q L). MayBeFoundBy log s.1) starts
    → AreFound log (group_of queue nodes audit (seats_of log starts)) starts
all-found log queue nodes audit [] apart may = tt
all-found log queue nodes audit (s ∷ starts) apart may =
    let seats = seats_of log starts in
    let g = group_of queue nodes audit (seats_of log (s ∷ starts)) in (
      by-found log g s.0.0 s.1 may.0 (put-same s.0.0 (left_by log s.1) seats),
      still-found log (group_of queue nodes audit seats) g s.0.0 starts
          (λ q other. put-other s.0.0 (left_by log s.1) seats q other) apart.0
          (all-found log queue nodes audit starts apart.1 may.1),
    )

pub logs-found : {Q L : Type 0} (log : L → LogState) (queue : QueueId) (nodes : List NodeId) (audit : List Entry)
    (starts : List (Start Q L)) → AreApart starts → AllByRecursion (λ (s : Start Q L). MayBeFoundBy log s.1) starts
    → (g : GroupState) × IsAllDown queue nodes audit g × AreFound log g starts
logs-found log queue nodes audit starts apart may = (
  group_of queue nodes audit (seats_of log starts),
  record { queue_is = refl; nodes_is = refl; seats = all-left log starts; bag = refl; audit_is = refl },
  all-found log queue nodes audit starts apart may,
)
