-- A consumer gets a turn where its free credit comes from 0 to more.
use Rattle.std.proofs.Common.{◌≡◌, ℕ, ◌+◌, ◌-◌, Bool, true, false, not, ◌&&◌, List, [], Option, Some, None, refl, sym, ap, ◌∙◌, subst, inl, inr, arith, if◌then◌else◌}
use Rattle.std.specs.Prelude.{nat_eq, nat_lt}
use Rattle.std.specs.Option.{option_map_or}
use Rattle.std.proofs.lemmas.Bool.{cases_Bool, cond-true, cond-false, cond_both, eqb-true, le-ltb}
use Rattle.qq_base.specs.declared.ids.Index.{Index}
use Rattle.qq_base.specs.declared.ids.ConsumerId.{ConsumerId}
use Rattle.qq_base.specs.Ids.{same_consumer}
use Rattle.qq_entry.specs.Command.{consumer_id}
use Rattle.qq_entry.specs.declared.command.Command.{Command}
use Rattle.qq_entry.specs.declared.command.Command.TheVariants.{Credit, Discard, Return, Settle}
use Rattle.qq_entry.specs.declared.command.Mode.{Mode}
use Rattle.qq_entry.specs.declared.command.Mode.TheVariants.{Prefetch, Link}
use Rattle.qq_entry.specs.declared.message.Reason.{Reason}
use Rattle.qq_entry.specs.declared.message.Reason.TheVariants as reason
use Rattle.qq_entry.specs.declared.queue.Strategy.{Strategy}
use Rattle.qq_entry.specs.declared.queue.Strategy.TheVariants.{Absent, AtMostOnce, AtLeastOnce}
use Rattle.qq_entry.specs.declared.answer.Cause.TheVariants.{NoConsumer}
use Rattle.qq_model.specs.declared.consumer.Consumer.{Consumer}
use Rattle.qq_model.specs.declared.consumer.Outcome.{Outcome}
use Rattle.qq_model.specs.declared.consumer.Outcome.TheVariants.{Settled, Returned, Discarded}
use Rattle.qq_model.specs.declared.place.Row.{Row}
use Rattle.qq_model.specs.State.{State}
use Rattle.qq_model.specs.Choice.{free_credit, out_count}
use Rattle.qq_model.specs.Limits.{has_passed}
use Rattle.qq_model.specs.Changes.{Progress, begin_to_wait, consumer_of, credit_of, die, die_by, drop_finished, go_back, is_needed, put_consumer, return_row, take_turn}
use Rattle.qq_model.specs.Commands.{act, credit_by, credit_by_mode, delivered_row, end_deliveries, end_delivery, end_delivery_by, finish, finish_by, give_credit, refuse, set_credit}
use Rattle.qq_base.proofs.Lists.{find-in, fold-keeps}
use Rattle.qq_model.proofs.Lists.{find-filter, find-map}
use Rattle.qq_model.proofs.OneConsumer.{same_consumer-refl, same_consumer-true}
use Rattle.qq_laws.specs.Places.{BeginsToWait}

own-id : (id : ConsumerId) (consumers : List Consumer) (one : Consumer) → consumer_of id consumers ≡ Some one
    → one.id ≡ id
own-id id consumers one found =
    same_consumer-true one.id id
    (find-in (λ (c : Consumer). same_consumer c.id id) consumers one found).1

-- the consumer of an id, once it is another
put-found : (id : ConsumerId) (consumers : List Consumer) (one new : Consumer) → consumer_of id consumers ≡ Some one
    → new.id ≡ id → consumer_of id (put_consumer new consumers) ≡ Some new
put-found id consumers one new found own =
    find-map (λ (c : Consumer). same_consumer c.id id) f consumers one same found
    ∙ ap (λ (c : Consumer). Some c) (cond-true (same_consumer one.id new.id) new one
    (ap (same_consumer one.id) (own ∙ sym (own-id id consumers one found)) ∙ same_consumer-refl one.id))
  where
    f : Consumer → Consumer
    f c = if same_consumer c.id new.id then new else c

    same : (c : Consumer) → same_consumer (f c).id id ≡ same_consumer c.id id
    same c = elim (cases_Bool (same_consumer c.id new.id)) [
      | inl is ↦
          ap (λ (d : Consumer). same_consumer d.id id) (cond-true (same_consumer c.id new.id) new c is)
          ∙ ap (λ (i : ConsumerId). same_consumer i id) (sym (same_consumer-true c.id new.id is))
      | inr other ↦ ap (λ (d : Consumer). same_consumer d.id id) (cond-false (same_consumer c.id new.id) new c other)
    ]

-- what beginning to wait does to the consumer
abbrev waited : Bool → ℕ → Consumer → Consumer
waited b turn one = if b then record one { turn = turn } else one

begins : (before : ℕ) (id : ConsumerId) (t : State) (one : Consumer) → consumer_of id t.consumers ≡ Some one
    → consumer_of id (begin_to_wait before id t).consumers
    ≡ Some (waited (nat_eq before 0 && nat_lt 0 (free_credit t.rows one)) (t.turns + 1) one)
begins before id t one found =
    ap (λ (u : State). consumer_of id u.consumers) (ap (λ n. if nat_eq before 0 && nat_lt 0 n
    then take_turn (consumer_of id t.consumers) t else t)
    (ap (λ (o : Option Consumer). option_map_or (free_credit t.rows) o 0) found))
    ∙ ap (λ (o : Option Consumer). consumer_of id
    (if nat_eq before 0 && nat_lt 0 (free_credit t.rows one) then take_turn o t else t).consumers) found
    ∙ by (nat_eq before 0 && nat_lt 0 (free_credit t.rows one))
  where
    by : (b : Bool)
        → consumer_of id (if b then take_turn (Some one) t else t).consumers ≡ Some (waited b (t.turns + 1) one)
    by true = put-found id t.consumers one (record one { turn = t.turns + 1 }) found (own-id id t.consumers one found)
    by false = found

-- its turn, where its free credit is looked at afterwards
waited-turn : (before turn : ℕ) (rows : List Row) (one new : Consumer)
    → Some new ≡ Some (waited (nat_eq before 0 && nat_lt 0 (free_credit rows one)) turn one)
    → new.turn ≡ (if nat_eq before 0 && nat_lt 0 (free_credit rows new) then turn else one.turn)
waited-turn before turn rows one new is =
    let b : Bool = nat_eq before 0 && nat_lt 0 (free_credit rows one) in
    let same : new ≡ waited b turn one = cc in
    let credit : free_credit rows new ≡ free_credit rows one =
    ap (free_credit rows) same
    ∙ cond_both b (record one { turn = turn }) one (λ (c : Consumer). free_credit rows c ≡ free_credit rows one)
    (λ _. refl) (λ _. refl) in
    ap (λ (c : Consumer). c.turn) same ∙ by b
    ∙ sym (ap (λ n. if nat_eq before 0 && nat_lt 0 n then turn else one.turn) credit)
  where
    by : (b : Bool) → (waited b turn one).turn ≡ (if b then turn else one.turn)
    by true = refl
    by false = refl

-- a number isn't 0 and more
never-both : (n : ℕ) → (nat_eq n 0 && nat_lt 0 n) ≡ false
never-both n = elim (cases_Bool (nat_eq n 0)) [
  | inl zero' ↦
      ap (λ b. b && nat_lt 0 n) zero' ∙ ap (nat_lt 0) (eqb-true n 0 zero') ∙ le-ltb 0 0 (omega arith)
  | inr other ↦ ap (λ b. b && nat_lt 0 n) other
]

unchanged : (rows : List Row) (turn : ℕ) (one new : Consumer) → Some one ≡ Some new
    → new.turn ≡ (if nat_eq (free_credit rows one) 0 && nat_lt 0 (free_credit rows new) then turn else one.turn)
unchanged rows turn one new is =
    let same : one ≡ new = cc in
    ap (λ (c : Consumer). c.turn) (sym same)
    ∙ sym (cond-false (nat_eq (free_credit rows one) 0 && nat_lt 0 (free_credit rows new)) turn one.turn
    (ap (λ (c : Consumer). nat_eq (free_credit rows one) 0 && nat_lt 0 (free_credit rows c)) (sym same)
    ∙ never-both (free_credit rows one)))

-- Credit -----------------------------------------------------------------------------------------------

credit-begins : (id : ConsumerId) (total : ℕ) (p : Progress) (one new : Consumer)
    → consumer_of id p.state.consumers ≡ Some one
    → let after = (give_credit id total p).progress.state in consumer_of id after.consumers ≡ Some new
    → new.turn
    ≡ (if nat_eq (free_credit p.state.rows one) 0 && nat_lt 0 (free_credit after.rows new) then p.state.turns + 1
    else one.turn)
unfolding give_credit
credit-begins id total p one new found last =
    subst (λ (o : Option Consumer). let after = (credit_by o total p).progress.state in
    consumer_of id after.consumers ≡ Some new
    → new.turn ≡ (if nat_eq (free_credit p.state.rows one) 0 && nat_lt 0 (free_credit after.rows new)
    then p.state.turns + 1 else one.turn)) (sym found) some last
  where
    in_mode : (mode : Mode) → let after = (credit_by_mode mode one total p).progress.state in
        consumer_of id after.consumers ≡ Some new
        → new.turn ≡ (if nat_eq (free_credit p.state.rows one) 0 && nat_lt 0 (free_credit after.rows new)
        then p.state.turns + 1 else one.turn)
    in_mode (Prefetch prefetch) last = unchanged p.state.rows (p.state.turns + 1) one new (sym found ∙ last)
    in_mode Link last =
        let own = own-id id p.state.consumers one found in
        let credited : Consumer = record one { credit = total - one.count } in
        let t : State = set_credit one total p.state in
        let there : consumer_of id t.consumers ≡ Some credited =
        put-found id p.state.consumers one credited found own in
        let before : credit_of one.id p.state.rows p.state.consumers ≡ free_credit p.state.rows one =
        ap (λ (i : ConsumerId). credit_of i p.state.rows p.state.consumers) own
        ∙ ap (λ (o : Option Consumer). option_map_or (free_credit p.state.rows) o 0) found in
        let at : consumer_of id (begin_to_wait (free_credit p.state.rows one) id t).consumers ≡ Some new =
        subst (λ n. consumer_of id (begin_to_wait n id t).consumers ≡ Some new) before
        (subst (λ (i : ConsumerId). consumer_of id (begin_to_wait
        (credit_of one.id p.state.rows p.state.consumers) i t).consumers ≡ Some new) own last) in
        let turn = waited-turn (free_credit p.state.rows one) (p.state.turns + 1) p.state.rows credited new
        (sym at ∙ begins (free_credit p.state.rows one) id t credited there) in
        turn ∙ ap (λ (rows : List Row). if nat_eq (free_credit p.state.rows one) 0 && nat_lt 0 (free_credit rows new)
        then p.state.turns + 1 else one.turn) (rows-same one.id)
      where
        rows-same : (i : ConsumerId) → p.state.rows
            ≡ (begin_to_wait (credit_of one.id p.state.rows p.state.consumers) i
            (set_credit one total p.state)).rows
        rows-same i =
            cond_both _ (take_turn (consumer_of i (set_credit one total p.state).consumers)
            (set_credit one total p.state)) (set_credit one total p.state)
            (λ (u : State). p.state.rows ≡ u.rows)
            (λ _. by (consumer_of i (set_credit one total p.state).consumers)) (λ _. refl)
          where
            by : (o : Option Consumer) → p.state.rows ≡ (take_turn o (set_credit one total p.state)).rows
            by None = refl
            by (Some c) = refl

    some : let after = (credit_by (Some one) total p).progress.state in
        consumer_of id after.consumers ≡ Some new
        → new.turn ≡ (if nat_eq (free_credit p.state.rows one) 0 && nat_lt 0 (free_credit after.rows new)
        then p.state.turns + 1 else one.turn)
    some =
        cond_both one.cancelled (refuse NoConsumer p) (credit_by_mode one.mode one total p)
        (λ a. consumer_of id a.progress.state.consumers ≡ Some new
        → new.turn ≡ (if nat_eq (free_credit p.state.rows one) 0
        && nat_lt 0 (free_credit a.progress.state.rows new) then p.state.turns + 1 else one.turn))
        (λ _ last. unchanged p.state.rows (p.state.turns + 1) one new (sym found ∙ last)) (λ _. in_mode one.mode)

-- Settle, Return, Discard ------------------------------------------------------------------------------

-- neither the consumers nor the turns change
record SameTurns (p q : Progress) : Type 0 where
  consumers : q.state.consumers ≡ p.state.consumers
  turns : q.state.turns ≡ p.state.turns

die_by-turns : (strategy : Strategy) (cause : Reason) (row : Row) (p : Progress)
    → SameTurns p (die_by strategy cause row p)
die_by-turns Absent cause row p = record { consumers = refl; turns = refl }
die_by-turns AtMostOnce cause row p = record { consumers = refl; turns = refl }
die_by-turns AtLeastOnce cause row p = record { consumers = refl; turns = refl }

go_back-turns : (limit : Option ℕ) (row : Row) (p : Progress) → SameTurns p (go_back limit row p)
go_back-turns None row p = record { consumers = refl; turns = refl }
go_back-turns (Some most) row p = record { consumers = refl; turns = refl }

end-turns : (outcome : Outcome) (row : Row) (p : Progress) → SameTurns p (end_delivery outcome row p)
unfolding die return_row
end-turns Settled row p = record { consumers = refl; turns = refl }
end-turns Returned row p =
    let more : Row = record row { count = row.count + 1 } in
    cond_both (has_passed p.state.args.delivery_limit more.count) (die reason.DeliveryLimit more p)
    (go_back p.state.args.delivery_limit more p) (SameTurns p)
    (λ _. die_by-turns p.state.args.strategy reason.DeliveryLimit more p)
    (λ _. go_back-turns p.state.args.delivery_limit more p)
end-turns Discarded row p = die_by-turns p.state.args.strategy reason.Rejected row p

all-turns : (outcome : Outcome) (id : ConsumerId) (ids : List ℕ) (p : Progress)
    → SameTurns p (end_deliveries outcome id ids p)
all-turns outcome id ids p =
    fold-keeps (SameTurns p)
    (λ (now : Progress) (n : ℕ). end_delivery_by outcome (delivered_row id n now.state.rows) now)
    (λ now n same. by now (delivered_row id n now.state.rows) same) ids p
    (record { consumers = refl; turns = refl })
  where
    by : (now : Progress) (o : Option Row) → SameTurns p now → SameTurns p (end_delivery_by outcome o now)
    by now None same = same
    by now (Some row) same =
        let more = end-turns outcome row now in
        record { consumers = more.consumers ∙ same.consumers; turns = more.turns ∙ same.turns }

wait-rows : (before : ℕ) (id : ConsumerId) (t : State) → t.rows ≡ (begin_to_wait before id t).rows
wait-rows before id t =
    cond_both _ (take_turn (consumer_of id t.consumers) t) t (λ (u : State). t.rows ≡ u.rows)
    (λ _. by (consumer_of id t.consumers)) (λ _. refl)
  where
    by : (o : Option Consumer) → t.rows ≡ (take_turn o t).rows
    by None = refl
    by (Some c) = refl

finish-begins : (outcome : Outcome) (id : ConsumerId) (ids : List ℕ) (p : Progress) (one new : Consumer)
    → consumer_of id p.state.consumers ≡ Some one → one.cancelled ≡ false
    → let after = (finish outcome id ids p).progress.state in consumer_of id after.consumers ≡ Some new
    → new.turn
    ≡ (if nat_eq (free_credit p.state.rows one) 0 && nat_lt 0 (free_credit after.rows new) then p.state.turns + 1
    else one.turn)
unfolding finish
finish-begins outcome id ids p one new found going last =
    subst (λ (o : Option Consumer). let after = (finish_by o outcome id ids p).progress.state in
    consumer_of id after.consumers ≡ Some new
    → new.turn ≡ (if nat_eq (free_credit p.state.rows one) 0 && nat_lt 0 (free_credit after.rows new)
    then p.state.turns + 1 else one.turn)) (sym found) some last
  where
    rest : Progress
    rest = end_deliveries outcome id ids p

    t : State
    t = drop_finished rest.state

    before : ℕ
    before = credit_of id p.state.rows p.state.consumers

    some : let after = (finish_by (Some one) outcome id ids p).progress.state in
        consumer_of id after.consumers ≡ Some new
        → new.turn ≡ (if nat_eq (free_credit p.state.rows one) 0 && nat_lt 0 (free_credit after.rows new)
        then p.state.turns + 1 else one.turn)
    some last =
        let same = all-turns outcome id ids p in
        let needed : is_needed rest.state.rows one ≡ true =
        ap (λ b. not (b && nat_eq (out_count one.id rest.state.rows) 0)) going in
        let there : consumer_of id t.consumers ≡ Some one =
        find-filter (λ (c : Consumer). same_consumer c.id id) (is_needed rest.state.rows) rest.state.consumers one
        (ap (λ (cs : List Consumer). consumer_of id cs) same.consumers ∙ found) needed in
        let free : before ≡ free_credit p.state.rows one =
        ap (λ (o : Option Consumer). option_map_or (free_credit p.state.rows) o 0) found in
        let turn = waited-turn before (t.turns + 1) t.rows one new (sym last ∙ begins before id t one there) in
        turn
        ∙ ap (λ n. if nat_eq n 0 && nat_lt 0 (free_credit t.rows new) then t.turns + 1 else one.turn) free
        ∙ ap (λ n. if nat_eq (free_credit p.state.rows one) 0 && nat_lt 0 (free_credit t.rows new) then n + 1
        else one.turn) same.turns
        ∙ ap (λ (rows : List Row). if nat_eq (free_credit p.state.rows one) 0 && nat_lt 0 (free_credit rows new)
        then p.state.turns + 1 else one.turn) (wait-rows before id t)

finishes : (outcome : Outcome) (s : State) (own : ConsumerId) (ids : List ℕ) (id : ConsumerId) (one new : Consumer)
    → own ≡ id → consumer_of id s.consumers ≡ Some one → one.cancelled ≡ false
    → let after = (finish outcome own ids (record { state = s; effects = [] })).progress.state in
    consumer_of id after.consumers ≡ Some new
    → new.turn
    ≡ (if nat_eq (free_credit s.rows one) 0 && nat_lt 0 (free_credit after.rows new) then s.turns + 1 else one.turn)
finishes outcome s own ids id one new same found going last =
    finish-begins outcome own ids (record { state = s; effects = [] }) one new
    (ap (λ (i : ConsumerId). consumer_of i s.consumers) same ∙ found) going
    (ap (λ (i : ConsumerId). consumer_of i
    (finish outcome own ids (record { state = s; effects = [] })).progress.state.consumers) same ∙ last)

pub begins_to_wait : (s : State) (index : Index) (command : Command) → BeginsToWait s index command
unfolding act
begins_to_wait s index (Credit given tag count credit wanted) id one new named found going last =
    let start : Progress = record { state = s; effects = [] } in
    let same : consumer_id given tag ≡ id = cc in
    credit-begins (consumer_id given tag) (count + credit) start one new
    (ap (λ (i : ConsumerId). consumer_of i s.consumers) same ∙ found)
    (ap (λ (i : ConsumerId). consumer_of i
    (give_credit (consumer_id given tag) (count + credit) start).progress.state.consumers) same ∙ last)
begins_to_wait s index (Settle given tag ids) id one new named found going last =
    let same : consumer_id given tag ≡ id = cc in
    finishes Settled s (consumer_id given tag) ids id one new same found going last
begins_to_wait s index (Return given tag ids) id one new named found going last =
    let same : consumer_id given tag ≡ id = cc in
    finishes Returned s (consumer_id given tag) ids id one new same found going last
begins_to_wait s index (Discard given tag ids) id one new named found going last =
    let same : consumer_id given tag ≡ id = cc in
    finishes Discarded s (consumer_id given tag) ids id one new same found going last
begins_to_wait s index _ id one new named found going last = absurd cc
