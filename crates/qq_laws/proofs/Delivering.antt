-- Each delivery takes the first message, and its consumer waits behind all others then.
use Rattle.std.proofs.Common.{◌≡◌, ℕ, ◌+◌, Option, Some, None, refl, sym, ap, ◌∙◌, subst, inl, inr}
use Rattle.std.specs.Prelude.{IfSome}
use Rattle.std.proofs.lemmas.Bool.{false≢true, cond-true, cond-false}
use Rattle.qq_base.specs.declared.ids.ConsumerId.{ConsumerId}
use Rattle.qq_base.specs.Ids.{same_consumer}
use Rattle.qq_entry.specs.declared.command.Mode.{Mode}
use Rattle.qq_entry.specs.declared.command.Mode.TheVariants.{Prefetch, Link}
use Rattle.qq_model.specs.declared.consumer.Consumer.{Consumer}
use Rattle.qq_model.specs.declared.place.Place.TheVariants.{Out}
use Rattle.qq_model.specs.declared.place.Row.{Row}
use Rattle.qq_model.specs.Choice.{next_message, active_consumer, longest_waiting, next_consumer}
use Rattle.qq_model.specs.Changes.{Progress}
use Rattle.qq_model.specs.Serving.{use_credit, serve, deliver, deliver_by, check_out}
use Rattle.qq_base.proofs.Lists.{In}
use Rattle.qq_model.proofs.Choices.{next_message-in}
use Rattle.qq_model.proofs.Drawn.{In-put_new}
use Rattle.qq_model.proofs.Lookups.{active_consumer-is}
use Rattle.qq_model.proofs.OneConsumer.{same_consumer-refl}
use Rattle.qq_model.proofs.Serve.{serve-id}
use Rattle.qq_model.proofs.Soundness.{Contains-in, in_contains}
use Rattle.qq_laws.specs.Delivering.{Delivers, DeliversInTurn}
use Rattle.qq_laws.specs.Turns.{HasWaitedLongest, IsFirstMessage}
use Rattle.qq_laws.proofs.EachConsumer.{In-put_apart}
use Rattle.qq_laws.proofs.Turns.{first_is_next, serves_in_turn}

serve-turn : (turn : ℕ) (one : Consumer) → (serve turn one).turn ≡ turn
serve-turn turn one = by one.mode
  where
    by : (mode : Mode) → (use_credit mode (record one { next_id = one.next_id + 1; turn = turn })).turn ≡ turn
    by (Prefetch prefetch) = refl
    by Link = refl

delivers : (p : Progress) (row : Row) (consumer : Consumer) → next_message p.state.rows ≡ Some row
    → next_consumer p.state.args.single_active p.state.rows p.state.consumers ≡ Some consumer
    → Delivers p (deliver row consumer p)
delivers p row consumer found next = record {
  row = row;
  consumer = consumer;
  there = Contains-in row p.state.rows here;
  first = subst (λ (o : Option Row). IfSome o (IsFirstMessage p.state.rows)) found (first_is_next p.state.rows);
  longest = λ many.
      let chosen : longest_waiting p.state.rows p.state.consumers ≡ Some consumer =
      sym (cond-false p.state.args.single_active (active_consumer p.state.rows p.state.consumers)
      (longest_waiting p.state.rows p.state.consumers) many) ∙ next in
      subst (λ (o : Option Consumer). IfSome o (HasWaitedLongest p.state.rows p.state.consumers)) chosen
      (serves_in_turn p.state.rows p.state.consumers);
  active = λ single.
      let chosen : active_consumer p.state.rows p.state.consumers ≡ Some consumer =
      sym (cond-true p.state.args.single_active (active_consumer p.state.rows p.state.consumers)
      (longest_waiting p.state.rows p.state.consumers) single) ∙ next in
      (active_consumer-is p.state.rows p.state.consumers consumer chosen).0;
  shows = refl;
  out =
      Contains-in (record row { place = Out consumer.id consumer.next_id }) (deliver row consumer p).state.rows
      (In-put_new (record row { place = Out consumer.id consumer.next_id }) row p.state.rows here refl);
  turns = refl;
  behind = λ one inside own.
      elim (In-put_apart one new p.state.consumers (in_contains (deliver row consumer p).state.consumers one inside)) [
        | inl same ↦ ap (λ (c : Consumer). c.turn) same ∙ serve-turn (p.state.turns + 1) consumer
        | inr old ↦
            absurd (false≢true (sym old.1 ∙ ap (λ (i : ConsumerId). same_consumer i new.id) (own ∙ sym id)
            ∙ same_consumer-refl new.id))
      ];
  others = λ one inside other.
      elim (In-put_apart one new p.state.consumers (in_contains (deliver row consumer p).state.consumers one inside)) [
        | inl same ↦ absurd (other (ap (λ (c : Consumer). c.id) same ∙ id))
        | inr old ↦ Contains-in one p.state.consumers old.0
      ];
}
  where
    here : In row p.state.rows
    here = (next_message-in p.state.rows row found).0

    new : Consumer
    new = serve (p.state.turns + 1) consumer

    id : new.id ≡ consumer.id
    id = serve-id (p.state.turns + 1) consumer

pub delivers_in_turn : (p next : Progress) → DeliversInTurn p next
unfolding check_out
delivers_in_turn p next made =
    by (next_message p.state.rows) refl
    (next_consumer p.state.args.single_active p.state.rows p.state.consumers) refl made
  where
    by : (o : Option Row) → next_message p.state.rows ≡ o → (c : Option Consumer)
        → next_consumer p.state.args.single_active p.state.rows p.state.consumers ≡ c → deliver_by o c p ≡ Some next
        → Delivers p next
    by None found c chosen made = absurd cc
    by (Some row) found None chosen made = absurd cc
    by (Some row) found (Some consumer) chosen made =
        let same : deliver row consumer p ≡ next = cc in
        subst (Delivers p) same (delivers p row consumer found chosen)
