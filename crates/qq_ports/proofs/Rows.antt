-- The first row of a root and a node, by its place.
use Rattle.std.proofs.Common.{◌≡◌, ℕ, suc, ◌<◌, ◌≤◌, false, List, [], ◌∷◌, Some, None, length, slice_index_or, refl, ap, subst, ◌∙◌, inl, inr, arith}
use Rattle.std.specs.List.{remove}
use Rattle.std.proofs.lemmas.Bool.{cases_Bool}
use Rattle.qq_base.specs.declared.ids.NodeId.{NodeId}
use Rattle.qq_ports.specs.MemYard.{Row, is_of, place_of, first_of, without}

-- behind another row there is one place more
place-past : (root : List ℕ) (node : NodeId) (row : Row) (rows : List Row) → is_of root node row ≡ false
    → place_of root node (row ∷ rows) ≡ suc (place_of root node rows)
place-past root node row rows other = rw other refl

pub place-within : (root : List ℕ) (node : NodeId) (rows : List Row) → place_of root node rows ≤ length rows
place-within root node [] = omega arith
place-within root node (row ∷ rows) =
    elim (cases_Bool (is_of root node row))
    [ inl is ↦ rw is (omega arith) | inr other ↦ rw other (omega (arith, place-within root node rows)) ]

-- the first row, and those that are left without it
pub record IsTaken (root : List ℕ) (node : NodeId) (rows : List Row) (row : Row) (rest : List Row) : Type 0 where
  pub first : Some row.2 ≡ first_of root node rows
  pub rest_is : rest ≡ without root node rows

taken-at : (root : List ℕ) (node : NodeId) (rows : List Row) (d : Row) → place_of root node rows < length rows
    → IsTaken root node rows (slice_index_or rows (place_of root node rows) d) (remove rows (place_of root node rows))
taken-at root node [] d lt = absurd (omega arith)
taken-at root node (row ∷ rows) d lt =
    elim (cases_Bool (is_of root node row)) [
      | inl is ↦ record { first = rw is refl; rest_is = rw is refl }
      | inr other ↦
          let at = taken-at root node rows d (omega (arith, place-past root node row rows other)) in
          record { first = rw other at.first; rest_is = rw other (ap (λ l. row ∷ l) at.rest_is) }
    ]

-- the row at the place is the first
pub taken : (root : List ℕ) (node : NodeId) (rows : List Row) (place : ℕ) (row : Row)
    → place ≡ place_of root node rows → place < length rows → row ≡ slice_index_or rows place row
    → IsTaken root node rows row (remove rows place)
taken root node rows place row is lt at =
    let found = taken-at root node rows row (subst (λ n. n < length rows) is lt) in
    record {
      first = ap (λ (r : Row). Some r.2) (at ∙ ap (λ n. slice_index_or rows n row) is) ∙ found.first;
      rest_is = ap (remove rows) is ∙ found.rest_is;
    }

-- there is no such row
pub record IsNone (root : List ℕ) (node : NodeId) (rows : List Row) : Type 0 where
  pub first : None ≡ first_of root node rows
  pub rest_is : rows ≡ without root node rows

pub is_none : (root : List ℕ) (node : NodeId) (rows : List Row)
    → place_of root node rows ≡ length rows → IsNone root node rows
is_none root node [] e = record { first = refl; rest_is = refl }
is_none root node (row ∷ rows) e =
    elim (cases_Bool (is_of root node row)) [
      | inl is ↦ absurd (let zero : place_of root node (row ∷ rows) ≡ 0 = rw is refl in omega arith)
      | inr other ↦
          let none = is_none root node rows (omega (arith, place-past root node row rows other)) in
          record { first = rw other none.first; rest_is = rw other (ap (λ l. row ∷ l) none.rest_is) }
    ]
