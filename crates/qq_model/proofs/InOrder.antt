-- The rows of a queue stand in the order of their entries, with a message beside each.
use Rattle.std.proofs.Common.{◌≡◌, ℕ, ◌+◌, ◌<◌, ◌≤◌, false, List, [], ◌∷◌, ◌++◌, Option, Some, None, map, length, refl, sym, ap, ◌∙◌, subst, inl, inr, arith, length-append, if◌then◌else◌}
use Rattle.std.specs.Prelude.{nat_eq}
use Rattle.std.specs.List.{AllByRecursion}
use Rattle.std.proofs.lemmas.Bool.{false≢true, cases_Bool, cond-true, cond-false, eqb-true}
use Rattle.std.proofs.lemmas.List.{map-append, length-map}
use Rattle.qq_base.specs.declared.ids.Index.{Index}
use Rattle.qq_entry.specs.declared.message.Message.{Message}
use Rattle.qq_entry.specs.declared.command.Command.{Command}
use Rattle.qq_entry.specs.declared.command.Command.TheVariants.{Enqueue}
use Rattle.qq_entry.specs.declared.answer.Full.{Full}
use Rattle.qq_model.specs.declared.place.Row.{Row}
use Rattle.qq_model.specs.State.{State}
use Rattle.qq_model.specs.Limits.{publish_limit}
use Rattle.qq_model.specs.Changes.{Progress, put_row}
use Rattle.qq_model.specs.Commands.{purge_row, append_message, set_state, enqueue_by, enqueue, act}
use Rattle.qq_model.specs.Reasons.{is_enqueue}
use Rattle.qq_model.specs.Step.{carry_out}
use Rattle.qq_base.proofs.Lists.{AllByRecursion-append, AllByRecursion-weaker}
use Rattle.qq_model.proofs.CarryOut.{carry_out-keeps, follow_on, follow_on-keeps}
use Rattle.qq_model.proofs.Indices.{Rises, indices, rises-push}
use Rattle.qq_model.proofs.Numbers.{purged-index}
use Rattle.qq_model.proofs.SingleChanges.{Acts, KeepsDeliveries, KeepsRows, Serves}
use Rattle.qq_model.specs.declared.place.Place.TheVariants.{Ready}
use Rattle.qq_model.specs.declared.place.Key.TheVariants.{Back}

pub indices-put : (new : Row) (rows : List Row) → indices (put_row new rows) ≡ indices rows
indices-put new [] = refl
indices-put new (row ∷ rows) =
    let rest = indices-put new rows in
    elim (cases_Bool (nat_eq row.index.0 new.index.0)) [
      | inl is ↦
          let first : (if_new row).index.0 ≡ row.index.0 =
          ap (λ (r : Row). r.index.0) (cond-true (nat_eq row.index.0 new.index.0) new row is)
          ∙ sym (eqb-true row.index.0 new.index.0 is) in
          ap (λ (n : ℕ). n ∷ indices (put_row new rows)) first ∙ ap (λ ns. row.index.0 ∷ ns) rest
      | inr other ↦
          let first : (if_new row).index.0 ≡ row.index.0 =
          ap (λ (r : Row). r.index.0) (cond-false (nat_eq row.index.0 new.index.0) new row other) in
          ap (λ (n : ℕ). n ∷ indices (put_row new rows)) first ∙ ap (λ ns. row.index.0 ∷ ns) rest
    ]
  where
    if_new : Row → Row
    if_new one = if nat_eq one.index.0 new.index.0 then new else one

pub indices-purged : (rows : List Row) → indices (map purge_row rows) ≡ indices rows
indices-purged [] = refl
indices-purged (row ∷ rows) =
    ap (λ (n : ℕ). n ∷ indices (map purge_row rows)) (ap (λ i. i.0) (purged-index row))
    ∙ ap (λ ns. row.index.0 ∷ ns) (indices-purged rows)

-- rows up to an index, in its order, and a message for each
pub record Ordered (last : ℕ) (s : State) : Type 0 where
  pub rising : Rises (indices s.rows)
  pub below : AllByRecursion (λ n. n ≤ last) (indices s.rows)
  pub arrivals : length s.rows ≡ s.arrivals
  pub messages : length s.messages ≡ s.arrivals

pub Ordered-same : (last : ℕ) (s t : State) → Ordered last s → indices t.rows ≡ indices s.rows
    → length t.rows ≡ length s.rows
    → t.arrivals ≡ s.arrivals → t.messages ≡ s.messages → Ordered last t
Ordered-same last s t it same long arrivals messages = record {
  rising = subst Rises (sym same) it.rising;
  below = subst (AllByRecursion (λ n. n ≤ last)) (sym same) it.below;
  arrivals = long ∙ it.arrivals ∙ sym arrivals;
  messages = ap length messages ∙ it.messages ∙ sym arrivals;
}

pub put-length : (new : Row) (rows : List Row) → length (put_row new rows) ≡ length rows
put-length new rows = length-map rows (λ (row : Row). if nat_eq row.index.0 new.index.0 then new else row)

Ordered-rows : (last : ℕ) (command : Command) → KeepsRows command (λ p. Ordered last p.state)
Ordered-rows last command = record {
  row = λ p q old new it here moves out why turns.
      Ordered-same last p.state q.state it (ap indices turns.rows ∙ indices-put new p.state.rows)
      (ap length turns.rows ∙ put-length new p.state.rows) turns.arrivals turns.messages;
}

pub Ordered-acts : (last : ℕ) (command : Command) → Acts command (λ p. Ordered last p.state)
Ordered-acts last command = record {
  rows = Ordered-rows last command;
  purge = λ p it purges.
      Ordered-same last p.state _ it (indices-purged p.state.rows) (length-map p.state.rows purge_row) refl refl;
  attach = λ p term it least greater. Ordered-same last p.state _ it refl refl refl refl;
  join = λ p id mode it above own. Ordered-same last p.state _ it refl refl refl refl;
  cancel = λ p id consumer it found. Ordered-same last p.state _ it refl refl refl refl;
  finish = λ p it. Ordered-same last p.state _ it refl refl refl refl;
  credit = λ p id consumer credit it found. Ordered-same last p.state _ it refl refl refl refl;
  turn = λ p id consumer it found. Ordered-same last p.state _ it refl refl refl refl;
  leave = λ p session it is same none. Ordered-same last p.state _ it refl refl refl refl;
}

pub Ordered-delivers : (last : ℕ) → KeepsDeliveries (λ p. Ordered last p.state)
Ordered-delivers last p row consumer it found next =
    Ordered-same last p.state _ it (indices-put _ p.state.rows) (put-length _ p.state.rows) refl refl

pub Ordered-serves : (last : ℕ) (command : Command) → Serves command (λ p. Ordered last p.state)
Ordered-serves last command = record {
  rows = Ordered-rows last command;
  offer = λ p number cause row it here is next may few. Ordered-same last p.state _ it refl refl refl refl;
  drain = λ p id consumer it found. Ordered-same last p.state _ it refl refl refl refl;
}

-- What a command makes of the rows below its index, it keeps. A message that it brings is the last one.
pub record BringsLast (index : Index) (I J : Progress → Type 0) : Type 0 where
  pub stays : (p : Progress) → I p → J p
  pub arrives : (p : Progress) (message : Message) → I p → publish_limit p.state.args p.state.rows ≡ None
      → J (set_state (append_message p.state index message) p)

others-from : {I J : Progress → Type 0} (index : Index) (command : Command) (s : State) → is_enqueue command ≡ false
    → BringsLast index I J → Acts command J → KeepsDeliveries J → Serves command J
    → I (record { state = s; effects = [] }) → J (carry_out index command s).progress
others-from {J = J} index command s none brings acts deliver serves holds =
    carry_out-keeps {I = J} index command s acts deliver serves
    (λ p stamp message it is found. absurd (false≢true (sym none ∙ is))) (brings.stays _ holds)

pub carry_out-from : {I J : Progress → Type 0} (index : Index) (command : Command) (s : State)
    → BringsLast index I J → Acts command J → KeepsDeliveries J → Serves command J
    → I (record { state = s; effects = [] }) → J (carry_out index command s).progress
unfolding carry_out act enqueue
carry_out-from {I = I} {J = J} index (Enqueue stamp origin message) s brings acts deliver serves holds =
    by (publish_limit s.args s.rows) refl
  where
    start : Progress
    start = record { state = s; effects = [] }

    by : (o : Option Full) → publish_limit s.args s.rows ≡ o
        → J (follow_on (Enqueue stamp origin message) (enqueue_by o index message start)).progress
    by None found =
        follow_on-keeps {I = J} (Enqueue stamp origin message) deliver serves (enqueue_by None index message start)
        (brings.arrives start message holds found)
    by (Some full) found =
        follow_on-keeps {I = J} (Enqueue stamp origin message) deliver serves
        (enqueue_by (Some full) index message start) (brings.stays start holds)
carry_out-from index command s brings acts deliver serves holds =
    others-from index command s refl brings acts deliver serves holds

pub Ordered-brings : (last : ℕ) (index : Index) → last < index.0
    → BringsLast index (λ p. Ordered last p.state) (λ p. Ordered index.0 p.state)
Ordered-brings last index less = record {
  stays = λ p it. record {
    rising = it.rising;
    below =
        AllByRecursion-weaker (λ n. n ≤ last) (λ n. n ≤ index.0) (λ n le. omega arith) (indices p.state.rows)
        it.below;
    arrivals = it.arrivals;
    messages = it.messages;
  };
  arrives = λ p message it found.
      let row : Row = record {
        index = index;
        arrival = p.state.arrivals + 1;
        count = 0;
        size = message.size;
        place = Ready (Back (p.state.orders + 1));
      } in
      let same : indices (p.state.rows ++ row ∷ []) ≡ indices p.state.rows ++ index.0 ∷ [] =
      map-append (λ (one : Row). one.index.0) p.state.rows (row ∷ []) in
      let itself : index.0 ≤ index.0 = omega arith in
      record {
        rising =
            subst Rises (sym same) (rises-push (indices p.state.rows) index.0 it.rising
            (AllByRecursion-weaker (λ n. n ≤ last) (λ n. n < index.0) (λ n le. omega arith) (indices p.state.rows)
            it.below));
        below =
            subst (AllByRecursion (λ n. n ≤ index.0)) (sym same)
            (AllByRecursion-append (λ n. n ≤ index.0) (indices p.state.rows) (index.0 ∷ [])
            (AllByRecursion-weaker (λ n. n ≤ last) (λ n. n ≤ index.0) (λ n le. omega arith) (indices p.state.rows)
            it.below) (itself, tt));
        arrivals = length-append p.state.rows (row ∷ []) ∙ ap (λ n. n + 1) it.arrivals;
        messages = length-append p.state.messages (message ∷ []) ∙ ap (λ n. n + 1) it.messages;
      };
}
