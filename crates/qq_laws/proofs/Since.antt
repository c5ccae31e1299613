-- What a command has done since a state: messages move, and what leaves was published.
use Rattle.std.proofs.Common.{◌≡◌, ℕ, ◌+◌, ◌-◌, ◌⊎◌, true, false, List, [], ◌∷◌, ◌++◌, Some, None, length, refl, sym, ap, ◌∙◌, subst, inl, inr, arith}
use Rattle.std.specs.Prelude.{nat_eq, slice_get, unwrap_or}
use Rattle.std.specs.List.{AllZip, AllByRecursion}
use Rattle.std.proofs.lemmas.List.Elements.{length_all_zip}
use Rattle.std.proofs.lemmas.Bool.{cases_Bool, cond-true, cond-false}
use Rattle.qq_base.specs.declared.ids.Index.{Index}
use Rattle.qq_entry.specs.declared.message.Message.{Message}
use Rattle.qq_entry.specs.declared.message.Reason.{Reason}
use Rattle.qq_entry.specs.declared.command.Command.{Command}
use Rattle.qq_entry.specs.declared.queue.QueueArgs.{QueueArgs}
use Rattle.qq_entry.specs.declared.audit.Effect.TheVariants.{Deliver, DeadOnce, Offer}
use Rattle.qq_model.specs.declared.place.GoneReason.TheVariants as gone
use Rattle.qq_model.specs.declared.place.Place.TheVariants.{Out, Gone}
use Rattle.qq_model.specs.declared.place.Row.{Row}
use Rattle.qq_model.specs.State.{State}
use Rattle.qq_model.specs.Limits.{is_ready}
use Rattle.qq_model.specs.Changes.{Progress, message_of, delivery_of}
use Rattle.qq_model.specs.Commands.{purge_row}
use Rattle.qq_model.specs.Reasons.{Follows, Moves, is_purge}
use Rattle.qq_laws.specs.Published.{Publish, kept_publishes, Shows, WasPublished, EffectShows}
use Rattle.qq_model.proofs.Choices.{next_message-in}
use Rattle.qq_base.proofs.Lists.{In, AllByRecursion-append}
use Rattle.qq_model.proofs.Lists.{AllZip-map_second}
use Rattle.qq_laws.proofs.RowLemmas.{Follows-more, beside, found-beside, same_indices, zip-arrival, zip-index, zip-publishes, zip-row, zip-same}
use Rattle.qq_model.proofs.SingleChanges.{Acts, IsIn-ready, KeepsDeliveries, KeepsRows, Moves-in, Recounts-same, Serves, Turns}
use Rattle.qq_model.proofs.Indices.{Counts, Rises, arrivals_of, indices}

-- rows in the order of arrival, with a message beside each
pub record Orderly (s : State) : Type 0 where
  pub rising : Rises (indices s.rows)
  pub counted : Counts 0 (arrivals_of s.rows)
  pub arrivals : length s.rows ≡ s.arrivals
  pub messages : length s.messages ≡ s.arrivals

-- the publishes whose messages the queue has
abbrev pub publishes_of : State → List Publish
publishes_of s = kept_publishes s.rows s.messages

pub record Since (b : State) (command : Command) (p : Progress) : Type 0 where
  pub args : p.state.args ≡ b.args
  pub arrivals : p.state.arrivals ≡ b.arrivals
  pub messages : p.state.messages ≡ b.messages
  pub rows : AllZip (Follows b.args command) b.rows p.state.rows
  pub shown : AllByRecursion (EffectShows (publishes_of b)) p.effects

pub Since-start : (b : State) (command : Command) (p : Progress) → p.state.args ≡ b.args → p.state.arrivals ≡
    b.arrivals
    → p.state.messages ≡ b.messages → p.state.rows ≡ b.rows → p.effects ≡ [] → Since b command p
Since-start b command p args arrivals messages rows effects = record {
  args = args;
  arrivals = arrivals;
  messages = messages;
  rows = subst (AllZip (Follows b.args command) b.rows) (sym rows) (zip-same b.args command b.rows);
  shown = subst (AllByRecursion (EffectShows (publishes_of b))) (sym effects) tt;
}

-- the state now is orderly too
pub Since-orderly : (b : State) (command : Command) (p : Progress) → Orderly b → Since b command p → Orderly p.state
Since-orderly b command p orderly since = record {
  rising =
      subst Rises (sym (same_indices b.rows p.state.rows (zip-index b.args command b.rows p.state.rows since.rows)))
      orderly.rising;
  counted = subst (Counts 0) (sym (zip-arrival b.args command b.rows p.state.rows since.rows)) orderly.counted;
  arrivals =
      sym (length_all_zip (Follows b.args command) b.rows p.state.rows since.rows) ∙ orderly.arrivals
      ∙ sym since.arrivals;
  messages = ap length since.messages ∙ orderly.messages ∙ sym since.arrivals;
}

pub Since-publishes : (b : State) (command : Command) (p : Progress) → Since b command p
    → publishes_of p.state ≡ publishes_of b
Since-publishes b command p since =
    ap (kept_publishes p.state.rows) since.messages
    ∙ zip-publishes b.args command b.rows p.state.rows b.messages since.rows

-- what a row shows was published
pub row_shows : (b : State) (command : Command) (p : Progress) (row : Row) (id : ℕ) → Orderly b → Since b command p
    → In row p.state.rows → Shows (publishes_of b) (delivery_of p.state id row)
row_shows b command p row id orderly since here =
    let now = Since-orderly b command p orderly since in
    let same : length p.state.rows ≡ length p.state.messages = now.arrivals ∙ sym now.messages in
    let found = found-beside 0 p.state.rows p.state.messages row here now.rising now.counted same in
    let less : row.arrival - 1 ≡ row.arrival - (0 + 1) = ap (λ n. row.arrival - n) (omega arith) in
    let is : message_of p.state.rows p.state.messages row ≡ found.message =
    ap (λ o. unwrap_or o (record { size = row.size; content = None })) found.is in
    record {
      counted = found.above;
      published =
          ap (λ (all : List Publish). slice_get all (row.arrival - 1)) (sym (Since-publishes b command p since))
          ∙ ap (slice_get (publishes_of p.state)) less ∙ found.kept
          ∙ ap (λ (m : Message). Some (record { index = row.index; message = m })) (sym is);
    }

pub row_published : (b : State) (command : Command) (p : Progress) (row : Row) → Orderly b → Since b command p
    → In row p.state.rows → WasPublished (publishes_of b) (message_of p.state.rows p.state.messages row)
row_published b command p row orderly since here =
    let shows = row_shows b command p row 0 orderly since here in (row.arrival - 1, row.index, shows.published)

purged-moves : (args : QueueArgs) (command : Command) (first row : Row) → is_purge command ≡ true
    → Follows args command first row → Follows args command first (purge_row row)
purged-moves args command first row purges follows = by (cases_Bool (is_ready row.place))
  where
    by : (is_ready row.place ≡ true) ⊎ (is_ready row.place ≡ false) → Follows args command first (purge_row row)
    by (inl ready) =
        let gone : Row = record row { place = Gone gone.Purged } in
        let at = IsIn-ready row.place ready in
        let moves : Moves args command row gone = record {
          live = at.live;
          index = refl;
          arrival = refl;
          size = refl;
          place = purges;
          dead = λ h. refl;
          rises = omega arith;
          counted = inl refl;
        } in
        subst (Follows args command first) (sym (cond-true _ gone row ready))
        (Follows-more args command first row gone follows moves)
    by (inr other) =
        subst (Follows args command first) (sym (cond-false _ (record row { place = Gone gone.Purged }) row other))
        follows

pub Since-rows : (b : State) (command : Command) → Orderly b → KeepsRows command (Since b command)
Since-rows b command orderly = record {
  row = λ p q old new since here moves out why turns.
      let now = Since-orderly b command p orderly since in
      record {
        args = turns.args ∙ since.args;
        arrivals = turns.arrivals ∙ since.arrivals;
        messages = turns.messages ∙ since.messages;
        rows = subst (AllZip (Follows b.args command) b.rows) (sym turns.rows)
            (zip-row b.args command b.rows p.state.rows old new since.rows now.rising here
            (subst (λ (a : QueueArgs). Moves a command old new) since.args moves));
        shown = effects p q old new since here moves turns turns.effects;
      };
}
  where
    effects : (p q : Progress) (old new : Row) → Since b command p → In old p.state.rows
        → Moves p.state.args command old new → Turns p q new
        → (q.effects ≡ p.effects) ⊎ ((reason : Reason)
        × (q.effects ≡ p.effects ++ DeadOnce reason (message_of p.state.rows p.state.messages new) ∷ []))
        → AllByRecursion (EffectShows (publishes_of b)) q.effects
    effects p q old new since here moves turns (inl same) =
        subst (AllByRecursion (EffectShows (publishes_of b))) (sym same) since.shown
    effects p q old new since here moves turns (inr more) =
        let message : Index → ℕ → Message =
        λ index size. unwrap_or (beside (λ other. nat_eq other.index.0 index.0) p.state.rows p.state.messages)
        (record { size = size; content = None }) in
        let same : message_of p.state.rows p.state.messages old ≡ message_of p.state.rows p.state.messages new =
        ap (λ i. message i old.size) (sym moves.index) ∙ ap (message new.index) (sym moves.size) in
        subst (AllByRecursion (EffectShows (publishes_of b))) (sym more.1)
        (AllByRecursion-append (EffectShows (publishes_of b)) p.effects
        (DeadOnce more.0 (message_of p.state.rows p.state.messages new) ∷ []) since.shown
        (subst (WasPublished (publishes_of b)) same (row_published b command p old orderly since here), tt))

pub Since-acts : (b : State) (command : Command) → Orderly b → Acts command (Since b command)
Since-acts b command orderly = record {
  rows = Since-rows b command orderly;
  purge = λ p since purges. record {
    args = since.args;
    arrivals = since.arrivals;
    messages = since.messages;
    rows =
        AllZip-map_second (Follows b.args command) purge_row b.rows p.state.rows since.rows
        (λ x y iny follows. purged-moves b.args command x y purges follows);
    shown = since.shown;
  };
  attach =
      λ p term since least greater. record {
        args = since.args;
        arrivals = since.arrivals;
        messages = since.messages;
        rows = since.rows;
        shown = since.shown;
      };
  join =
      λ p id mode since above own. record {
        args = since.args;
        arrivals = since.arrivals;
        messages = since.messages;
        rows =
            since.rows;
        shown = since.shown;
      };
  cancel =
      λ p id consumer since found. record {
        args = since.args;
        arrivals = since.arrivals;
        messages = since.messages;
        rows =
            since.rows;
        shown = since.shown;
      };
  finish =
      λ p since. record {
        args = since.args;
        arrivals = since.arrivals;
        messages = since.messages;
        rows = since.rows;
        shown = since.shown;
      };
  credit =
      λ p id consumer credit since found.
      record {
        args = since.args;
        arrivals = since.arrivals;
        messages = since.messages;
        rows = since.rows;
        shown = since.shown;
      };
  turn =
      λ p id consumer since found. record {
        args = since.args;
        arrivals = since.arrivals;
        messages = since.messages;
        rows =
            since.rows;
        shown = since.shown;
      };
  leave =
      λ p session since is same none. record {
        args = since.args;
        arrivals = since.arrivals;
        messages = since.messages;
        rows =
            since.rows;
        shown = since.shown;
      };
}

pub Since-delivers : (b : State) (command : Command) → Orderly b → KeepsDeliveries (Since b command)
Since-delivers b command orderly p row consumer since found served =
    let some = next_message-in p.state.rows row found in
    let now = Since-orderly b command p orderly since in
    let moves : Moves p.state.args command row (record row { place = Out consumer.id consumer.next_id }) =
    Moves-in p row row (Out consumer.id consumer.next_id) (IsIn-ready row.place some.1) (Recounts-same command row)
    refl in
    record {
      args = since.args;
      arrivals = since.arrivals;
      messages = since.messages;
      rows =
          zip-row b.args command b.rows p.state.rows row (record row { place = Out consumer.id consumer.next_id })
          since.rows now.rising some.0
          (subst (λ (a : QueueArgs). Moves a command row (record row {
            place = Out consumer.id consumer.next_id;
          })) since.args moves);
      shown =
          AllByRecursion-append (EffectShows (publishes_of b)) p.effects
          (Deliver consumer.id (delivery_of p.state consumer.next_id row) ∷ []) since.shown
          (row_shows b command p row consumer.next_id orderly since some.0, tt);
    }

pub Since-serves : (b : State) (command : Command) → Orderly b → Serves command (Since b command)
Since-serves b command orderly = record {
  rows = Since-rows b command orderly;
  offer = λ p number reason row since here is next may few. record {
    args = since.args;
    arrivals = since.arrivals;
    messages = since.messages;
    rows = since.rows;
    shown =
        AllByRecursion-append (EffectShows (publishes_of b)) p.effects
        (Offer number reason (message_of p.state.rows p.state.messages row) ∷ []) since.shown
        (row_published b command p row orderly since here, tt);
  };
  drain =
      λ p id consumer since found. record {
        args = since.args;
        arrivals = since.arrivals;
        messages = since.messages;
        rows =
            since.rows;
        shown = since.shown;
      };
}
