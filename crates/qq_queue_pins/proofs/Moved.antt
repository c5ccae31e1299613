-- How an entry moves one message.
use Rattle.std.proofs.Common.{◌≡◌, ◌⊎◌, ◌≤◌, ◌++◌, ℕ, true, false, Some, inl, inr}
use Rattle.std.specs.Prelude.{slice_get}
use Rattle.qq_entry.specs.declared.command.Entry.{Entry}
use Rattle.qq_laws.specs.Published.{new_message}
use Rattle.qq_laws.specs.Rows.{StepsRows, new_rows}
use Rattle.qq_model.specs.declared.place.Row.{Row}
use Rattle.qq_model.specs.Audit.{next_index, next_step}
use Rattle.qq_model.specs.Limits.{is_dead, is_live}
use Rattle.qq_model.specs.Reasons.{Follows, may_go_back, may_move}
use Rattle.qq_model.specs.State.{State}
use Rattle.qq_model.proofs.Lists.{AllZip-second}

pub moves-live : (s : State) (entry : Entry) (k : ℕ) (row : Row) → StepsRows s entry (next_step s entry)
    → slice_get (next_step s entry).state.rows k ≡ Some row
    → (old : Row) × (slice_get (s.rows ++ new_rows s (next_index s)
    (new_message (next_step s entry).fresh (next_step s entry).answer entry.command)) k ≡ Some old)
    × ((row ≡ old) ⊎ ((is_live old.place ≡ true) × (row.index ≡ old.index) × (row.arrival ≡ old.arrival)
    × (row.size ≡ old.size) × (may_move s.args entry.command row.place ≡ true)
    × (is_dead old.place ≡ true → is_live row.place ≡ false) × (old.count ≤ row.count)
    × ((row.count ≡ old.count) ⊎ (may_go_back entry.command ≡ true))))
moves-live s entry k row steps there =
    let was = AllZip-second (Follows s.args entry.command)
    (s.rows ++ new_rows s (next_index s)
    (new_message (next_step s entry).fresh (next_step s entry).answer entry.command)) (next_step s entry).state.rows k row
    steps.rows there in
    (was.0, was.1, by was.0 was.2)
  where
    by : (old : Row) → Follows s.args entry.command old row → (row ≡ old) ⊎ ((is_live old.place ≡ true)
        × (row.index ≡ old.index) × (row.arrival ≡ old.arrival) × (row.size ≡ old.size)
        × (may_move s.args entry.command row.place ≡ true) × (is_dead old.place ≡ true → is_live row.place ≡ false)
        × (old.count ≤ row.count) × ((row.count ≡ old.count) ⊎ (may_go_back entry.command ≡ true)))
    by old (inl same) = inl same
    by old (inr moves) = inr (
      moves.live,
      moves.index,
      moves.arrival,
      moves.size,
      moves.place,
      moves.dead,
      moves.rises,
      moves.counted,
    )
