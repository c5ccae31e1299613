-- The queues of a setup without arguments, as a cluster has them.
use Rattle.std.proofs.Common.{◌≡◌, ℕ, ◌+◌, ◌*◌, ◌/◌, ◌%◌, ◌<◌, ◌≤◌, zero, suc, List, ◌∷◌, ◌++◌, map, Some, refl, sym, ap, ◌∙◌, inl, inr, codes, arith}
use Rattle.std.specs.Prelude.{nat_eq, min}
use Rattle.std.specs.List.{range_with_len}
use Rattle.std.specs.Fmt.{decimal}
use Rattle.std.proofs.Math.Nat.{div-add-mod, min-le_right, mul-le-mul_left, mul-suc}
use Rattle.std.proofs.lemmas.Bool.{cases_lt, cond-true, cond-false}
use Rattle.std.proofs.lemmas.Bool.Decides.{eqb_tells}
use Rattle.qq_base.specs.declared.ids.NodeId.{NodeId}
use Rattle.qq_entry.specs.Queue.{default_args}
use Rattle.qq_raft_protocol.specs.Facts.{In}
use Rattle.qq_raft_model.specs.Group.{new_group}
use Rattle.qq_raft_model.specs.Promises.{AreDistinct}
use Rattle.qq_route.specs.declared.queue_row.QueueRow.{QueueRow}
use Rattle.qq_route.specs.Members.{member, members}
use Rattle.qq_route.specs.Setup.{plain_row, plain_rows}
use Rattle.qq_cluster_run.specs.Setup.{args_by, first_place, group_over, members_by, name_by, new_logs, place_of, row_at}

-- ---- places

places_from : (nodes group a n : ℕ)
    → map place_of (map (plain_row nodes group) (range_with_len a n)) ≡ range_with_len (a + 1) n
places_from nodes group a zero = refl
places_from nodes group a (suc n) = ap (λ (l : List ℕ). (a + 1) ∷ l) (places_from nodes group (a + 1) n)

pub places : (nodes group count : ℕ) → map place_of (plain_rows nodes group count) ≡ range_with_len 1 count
places nodes group count = places_from nodes group 0 count

pub first_is : (nodes group count : ℕ) → 0 < count → first_place (plain_rows nodes group count) ≡ 1
first_is nodes group zero some = absurd (omega (arith, some))
first_is nodes group (suc n) some = refl

found : (nodes group a n before : ℕ) → a ≤ before → before < a + n
    → row_at (map (plain_row nodes group) (range_with_len a n)) (before + 1) ≡ Some (plain_row nodes group before)
found nodes group a zero before le lt = absurd (omega (arith, le, lt))
found nodes group a (suc n) before le lt =
    let rest : List QueueRow = map (plain_row nodes group) (range_with_len (a + 1) n) in
    elim (eqb_tells (a + 1) (before + 1)) [
      | inl (is, same) ↦
          let here : a ≡ before = omega (arith, same) in
          cond-true (nat_eq (a + 1) (before + 1)) (Some (plain_row nodes group a)) (row_at rest (before + 1)) is
          ∙ ap (λ (k : ℕ). Some (plain_row nodes group k)) here
      | inr (isnt, other) ↦
          cond-false (nat_eq (a + 1) (before + 1)) (Some (plain_row nodes group a)) (row_at rest (before + 1)) isnt
          ∙ found nodes group (a + 1) n before (further a before le other) (omega (arith, lt))
    ]
  where
    further : (a b : ℕ) → a ≤ b → (a + 1 ≡ b + 1 → ⊥) → a + 1 ≤ b
    further a b le other = elim (cases_lt a b) [
      | inl lt ↦ omega (arith, lt)
      | inr ge ↦ absurd (other (omega (arith, le, ge)))
    ]

pub row_is : (nodes group count before : ℕ) → before < count
    → row_at (plain_rows nodes group count) (before + 1) ≡ Some (plain_row nodes group before)
row_is nodes group count before lt = found nodes group 0 count before (omega arith) (omega (arith, lt))

pub name_is : (nodes group count before : ℕ) → before < count
    → name_by (row_at (plain_rows nodes group count) (before + 1)) ≡ codes "q" ++ decimal (before + 1)
name_is nodes group count before lt = ap name_by (row_is nodes group count before lt)

pub args_is : (nodes group count before : ℕ) → before < count
    → args_by (row_at (plain_rows nodes group count) (before + 1)) (before + 1)
    ≡ default_args (record { 0 = before + 1 }) (min group nodes)
args_is nodes group count before lt = ap (λ row. args_by row (before + 1)) (row_is nodes group count before lt)

pub group_is : (nodes group count before : ℕ) → before < count
    → group_over (record { 0 = before + 1 }) (members_by (row_at (plain_rows nodes group count) (before + 1)))
    (new_logs (before + 1))
    ≡ new_group (record { 0 = before + 1 }) (members nodes group before)
group_is nodes group count before lt =
    ap (λ row. group_over (record { 0 = before + 1 }) (members_by row) (new_logs (before + 1)))
    (row_is nodes group count before lt)

-- ---- members

-- two numbers that lie less than n apart leave other rests
mod-apart : (n before a b : ℕ) → a < b → b < n → (before + a) % n ≡ (before + b) % n → ⊥
mod-apart n before a b lt small same =
    let x : n * ((before + a) / n) + (before + a) % n ≡ before + a = div-add-mod (before + a) n in
    let y : n * ((before + b) / n) + (before + b) % n ≡ before + b = div-add-mod (before + b) n in
    elim (cases_lt ((before + a) / n) ((before + b) / n)) [
      | inl less ↦
          let more : n * suc ((before + a) / n) ≤ n * ((before + b) / n) =
          mul-le-mul_left n (omega (arith, less)) in
          let sum : n * suc ((before + a) / n) ≡ n * ((before + a) / n) + n = mul-suc n ((before + a) / n) in
          omega (arith, x, y, same, more, sum, lt, small)
      | inr least ↦
          let more : n * ((before + b) / n) ≤ n * ((before + a) / n) = mul-le-mul_left n least in
          omega (arith, x, y, same, more, lt)
    ]

-- no node has two members of a group
members-apart : (nodes before a n : ℕ) → a + n ≤ nodes → AreDistinct (map (member nodes before) (range_with_len a n))
members-apart nodes before a zero le = tt
members-apart nodes before a (suc n) le = (
  (λ m here same. apart (a + 1) n m here (omega arith) (omega (arith, le)) same),
  members-apart nodes before (a + 1) n (omega (arith, le)),
)
  where
    apart : (b k : ℕ) (m : NodeId) → In m (map (member nodes before) (range_with_len b k)) → a < b → b + k ≤ nodes
        → m.0 ≡ (member nodes before a).0 → ⊥
    apart b zero m here lt most same = absurd here
    apart b (suc k) m (inl is) lt most same =
        let one : (before + b) % nodes + 1 ≡ (before + a) % nodes + 1 =
        sym (ap (λ (node : NodeId). node.0) is) ∙ same in
        let two : (before + a) % nodes ≡ (before + b) % nodes = omega (arith, one) in
        absurd (mod-apart nodes before a b lt (omega (arith, most)) two)
    apart b (suc k) m (inr there) lt most same =
        apart (b + 1) k m there (omega (arith, lt)) (omega (arith, most)) same

pub members-distinct : (nodes group before : ℕ) → AreDistinct (members nodes group before)
members-distinct nodes group before = members-apart nodes before 0 (min group nodes) (omega (arith, min-le_right group nodes))
