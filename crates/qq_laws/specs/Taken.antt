-- What takes a message out of the queue, and what doesn't.
use Rattle.std.specs.Prelude.{◌≡◌, ◌⊎◌, ℕ, true, false, Contains}
use Rattle.qq_base.specs.declared.ids.ConsumerId.{ConsumerId}
use Rattle.qq_entry.specs.declared.answer.Answer.TheVariants.{Got, Empty, Purged}
use Rattle.qq_entry.specs.declared.command.Command.TheVariants.{Get, Purge}
use Rattle.qq_entry.specs.declared.command.Entry.{Entry}
use Rattle.qq_entry.specs.declared.command.Stamp.{Stamp}
use Rattle.qq_model.specs.declared.place.GoneReason.TheVariants as gone
use Rattle.qq_model.specs.declared.place.Place.TheVariants.{Out, Gone}
use Rattle.qq_model.specs.declared.place.Row.{Row}
use Rattle.qq_model.specs.State.{State}
use Rattle.qq_model.specs.Limits.{is_ready, ready_count}
use Rattle.qq_model.specs.Changes.{delivery_of}
use Rattle.qq_model.specs.Reasons.{ends_delivery}
use Rattle.qq_model.specs.Audit.{next_step}
use Rattle.qq_laws.specs.Turns.{IsFirstMessage}

-- what is with a consumer stays there unless the entry ends its delivery: a settle, return or discard of its id for that
-- consumer, or the end of the consumer's session
abbrev pub StaysOut : State → Entry → Type 0
StaysOut s entry =
    (row : Row) (consumer : ConsumerId) (id : ℕ) → Contains s.rows row → row.place ≡ Out consumer id
    → ends_delivery entry.command consumer id ≡ false → Contains (next_step s entry).state.rows row

-- a get that is carried out finds the queue empty, or takes the first message and answers it
abbrev pub TakesFirst : State → Entry → Type 0
TakesFirst s entry =
    let made = next_step s entry in
    (given : Stamp) → entry.command ≡ Get given → made.fresh ≡ true → s.args.single_active ≡ false
    → ((made.answer ≡ Empty) × (ready_count s.rows ≡ 0))
    ⊎ ((row : Row) × Contains s.rows row × IsFirstMessage s.rows row × (made.answer ≡ Got (delivery_of s 0 row))
    × Contains made.state.rows (record row { place = Gone gone.Got }))

-- a purge that is carried out answers how many messages were ready, and these are gone
abbrev pub PurgesReady : State → Entry → Type 0
PurgesReady s entry =
    let made = next_step s entry in
    (given : Stamp) → entry.command ≡ Purge given → made.fresh ≡ true
    → (made.answer ≡ Purged (ready_count s.rows))
    × ((row : Row) → Contains s.rows row → is_ready row.place ≡ true
    → Contains made.state.rows (record row { place = Gone gone.Purged }))
