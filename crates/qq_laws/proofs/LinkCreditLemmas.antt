-- A link consumer gets no more than its credit.
use Rattle.std.proofs.Common.{◌≡◌, ℕ, ◌+◌, ◌-◌, ◌<◌, ◌≤◌, true, not, List, [], ◌∷◌, ◌++◌, Option, Some, None, length, refl, sym, ap, ◌∙◌, subst, inl, inr, arith, length-append}
use Rattle.std.specs.Prelude.{max, nat_lt}
use Rattle.std.proofs.lemmas.Bool.{cond-true, and_parts, ltb-true}
use Rattle.std.proofs.lemmas.List.{length-map}
use Rattle.qq_base.specs.declared.ids.Index.{Index}
use Rattle.qq_base.specs.declared.ids.ConsumerId.{ConsumerId}
use Rattle.qq_base.specs.Ids.{same_consumer}
use Rattle.qq_entry.specs.Command.{stamp, consumer_id}
use Rattle.qq_entry.specs.declared.answer.Delivery.{Delivery}
use Rattle.qq_entry.specs.declared.command.Command.{Command}
use Rattle.qq_entry.specs.declared.command.Entry.{Entry}
use Rattle.qq_entry.specs.declared.command.Mode.{Mode}
use Rattle.qq_entry.specs.declared.command.Mode.TheVariants.{Prefetch, Link}
use Rattle.qq_entry.specs.declared.command.Stamp.{Stamp}
use Rattle.qq_entry.specs.declared.queue.QueueArgs.{QueueArgs}
use Rattle.qq_model.specs.declared.consumer.Consumer.{Consumer}
use Rattle.qq_model.specs.declared.place.Row.{Row}
use Rattle.qq_model.specs.declared.session.Gate.{Gate}
use Rattle.qq_model.specs.declared.session.Gate.TheVariants.{Fresh}
use Rattle.qq_model.specs.State.{State, empty_queue}
use Rattle.qq_model.specs.Gate.{gate, admit, IsNumbered}
use Rattle.qq_model.specs.Choice.{may_be_served, free_credit, credit_left, out_count}
use Rattle.qq_model.specs.Changes.{Progress, is_needed}
use Rattle.qq_model.specs.Commands.{act, delivery_id}
use Rattle.qq_model.specs.Serving.{serve, use_credit}
use Rattle.qq_model.specs.Step.{Step, carry_out, go_through, step_by, step}
use Rattle.qq_model.specs.Audit.{next_index, next_step, state_after, audit_of, effects_of, entries_of, deliveries}
use Rattle.qq_base.proofs.Lists.{In, In-append_cases, find-in}
use Rattle.qq_model.proofs.CarryOut.{follow_on-keeps}
use Rattle.qq_model.proofs.Drawn.{Drawn-none}
use Rattle.qq_model.proofs.Holders.{In-filtered}
use Rattle.qq_model.proofs.Ids.{consumer-found, ids-append, ids_of}
use Rattle.qq_model.proofs.IdSteps.{Known, next-knows}
use Rattle.qq_model.proofs.OneConsumer.{same_consumer-refl, same_consumer-true, who-one}
use Rattle.qq_model.proofs.OneConsumer.Who.{Never}
use Rattle.qq_model.proofs.Serve.{serve-id}
use Rattle.qq_model.proofs.Soundness.{in_contains}
use Rattle.qq_laws.specs.LinkCredit.{credit_limit, greatest_limit, KeepsLinkCredit}
use Rattle.qq_laws.proofs.ActConsumers.{KeepsConsumers, act-consumers}
use Rattle.qq_laws.proofs.EachConsumer.{EachOf, each-delivers, each-put, each-serves}

-- a consumer's credit and its count are within a bound, and a link consumer's deliveries within its count
pub record Within (bound : ℕ) (one : Consumer) : Type 0 where
  pub sum : one.credit + one.count ≤ bound
  pub ids : one.mode ≡ Link → one.next_id ≤ one.count + 1

within-more : (first second : ℕ) (one : Consumer) → first ≤ second → Within first one → Within second one
within-more first second one le within = record { sum = omega (arith, within.sum); ids = within.ids }

-- a link consumer that may be served has credit
pub has-credit : (rows : List Row) (one : Consumer) → may_be_served rows one ≡ true → one.mode ≡ Link → 0 < one.credit
has-credit rows one may link =
    let free : 0 < free_credit rows one =
    ltb-true 0 (free_credit rows one) (and_parts (not one.cancelled) (nat_lt 0 (free_credit rows one)) may).1 in
    let is : free_credit rows one ≡ one.credit =
    ap (λ (m : Mode). credit_left m one.credit (out_count one.id rows)) link in
    omega (arith, free, is)

-- what serving does to a consumer's numbers
pub serve-link : (turn : ℕ) (one : Consumer) → one.mode ≡ Link
    → serve turn one
    ≡ record one { next_id = one.next_id + 1; turn = turn; credit = one.credit - 1; count = one.count + 1 }
serve-link turn one link =
    ap (λ (m : Mode). use_credit m (record one { next_id = one.next_id + 1; turn = turn })) link

pub serve-prefetch : (turn : ℕ) (one : Consumer) (prefetch : ℕ) → one.mode ≡ Prefetch prefetch
    → serve turn one ≡ record one { next_id = one.next_id + 1; turn = turn }
serve-prefetch turn one prefetch is =
    ap (λ (m : Mode). use_credit m (record one { next_id = one.next_id + 1; turn = turn })) is

within-served : (bound : ℕ) (rows : List Row) (turn : ℕ) (one : Consumer) → Within bound one
    → may_be_served rows one ≡ true → Within bound (serve turn one)
within-served bound rows turn one within may = by one.mode refl
  where
    by : (mode : Mode) → one.mode ≡ mode → Within bound (serve turn one)
    by (Prefetch prefetch) is = subst (Within bound) (sym (serve-prefetch turn one prefetch is)) (record {
      sum = within.sum;
      ids = λ link. let e : Prefetch prefetch ≡ Link = sym is ∙ link in absurd cc;
    })
    by Link is =
        let some = has-credit rows one may is in
        let below = within.sum in
        let ids = within.ids is in
        subst (Within bound) (sym (serve-link turn one is)) (record {
          sum = omega (arith, some, below);
          ids = λ link. omega (arith, ids);
        })

-- each consumer is within the bound of its id
abbrev Bounded : (ConsumerId → ℕ) → Consumer → Type 0
Bounded bound one = Within (bound one.id) one

bounded-served : (bound : ConsumerId → ℕ) (rows : List Row) (turn : ℕ) (one : Consumer) → Bounded bound one
    → may_be_served rows one ≡ true → Bounded bound (serve turn one)
bounded-served bound rows turn one within may =
    subst (λ (i : ConsumerId). Within (bound i) (serve turn one)) (sym (serve-id turn one))
    (within-served (bound one.id) rows turn one within may)

bounded-drained : (bound : ConsumerId → ℕ) (one : Consumer) → Bounded bound one
    → Bounded bound (record one { credit = 0; count = one.count + one.credit })
bounded-drained bound one within = record {
  sum = omega (arith, within.sum);
  ids = λ link. omega (arith, within.ids link);
}

-- up to which delivery an id may have credit after a command
abbrev more_limit : (ConsumerId → ℕ) → Command → ConsumerId → ℕ
more_limit bound command id = max (bound id) (credit_limit id command)

bounded-more : (first second : ConsumerId → ℕ) (consumers : List Consumer)
    → ((id : ConsumerId) → first id ≤ second id) → EachOf (Bounded first) consumers
    → EachOf (Bounded second) consumers
bounded-more first second consumers le each one here =
    within-more (first one.id) (second one.id) one (le one.id) (each one here)

-- a credit gives its consumer no more than its limit
bounded-acts : (bound : ConsumerId → ℕ) (command : Command)
    → ((id : ConsumerId) → credit_limit id command ≤ bound id)
    → KeepsConsumers command (EachOf (Bounded bound))
bounded-acts bound command limits = record {
  join = λ consumers id mode turn each is one here. elim (In-append_cases one consumers _ here) [
    | inl old ↦ each one old
    | inr new ↦ elim new [
      | inl same ↦ subst (Bounded bound) (sym same) (record { sum = omega arith; ids = λ link. omega arith })
      | inr no' ↦ absurd no'
    ]
  ];
  cancel = λ consumers id one each found is.
      let before = each one (consumer-found id consumers one found) in
      each-put (Bounded bound) consumers _ each (record { sum = before.sum; ids = before.ids });
  credit = λ consumers id one total each found link is.
      let there = find-in (λ (c : Consumer). same_consumer c.id id) consumers one found in
      let mine' : one.id ≡ consumer_id is.0 is.1 = same_consumer-true one.id id there.1 ∙ is.6 in
      let limit : credit_limit one.id command ≡ total =
      ap (credit_limit one.id) is.5 ∙ cond-true (same_consumer (consumer_id is.0 is.1) one.id) (is.2 + is.3) 0
      (ap (same_consumer (consumer_id is.0 is.1)) mine' ∙ same_consumer-refl (consumer_id is.0 is.1)) ∙ sym is.7 in
      let below = limits one.id in
      let before = (each one there.0).sum in
      let ids = (each one there.0).ids in
      each-put (Bounded bound) consumers _ each
      (record { sum = omega (arith, limit, below, before); ids = ids });
  turn = λ consumers one turn each here.
      let before = each one here in
      each-put (Bounded bound) consumers _ each (record { sum = before.sum; ids = before.ids });
  needed = λ rows consumers each one here. each one (In-filtered (is_needed rows) one consumers here);
  leave = λ consumers session each is one here. each one (In-filtered _ one consumers here);
}

act-bounded : (bound : ConsumerId → ℕ) (index : Index) (command : Command) (p : Progress)
    → EachOf (Bounded bound) p.state.consumers
    → EachOf (Bounded (more_limit bound command)) (act index command p).progress.state.consumers
act-bounded bound index command p each =
    act-consumers (EachOf (Bounded (more_limit bound command))) index command
    (bounded-acts (more_limit bound command) command (λ id. omega arith)) p
    (bounded-more bound (more_limit bound command) p.state.consumers (λ id. omega arith) each)

carried-bounded : (bound : ConsumerId → ℕ) (index : Index) (command : Command) (s : State)
    → EachOf (Bounded bound) s.consumers
    → EachOf (Bounded (more_limit bound command)) (carry_out index command s).progress.state.consumers
unfolding carry_out
carried-bounded bound index command s each =
    let bound' : ConsumerId → ℕ = more_limit bound command in
    follow_on-keeps {I = λ p. EachOf (Bounded bound') p.state.consumers} command
    (each-delivers (Bounded bound') (bounded-served bound'))
    (each-serves (Bounded bound') command (bounded-drained bound')) _
    (act-bounded bound index command (record { state = s; effects = [] }) each)

next-bounded : (bound : ConsumerId → ℕ) (s : State) (entry : Entry) → EachOf (Bounded bound) s.consumers
    → EachOf (Bounded (more_limit bound entry.command)) (next_step s entry).state.consumers
unfolding step
next-bounded bound s entry each = by (stamp entry.command)
  where
    index : Index
    index = next_index s

    bound' : ConsumerId → ℕ
    bound' = more_limit bound entry.command

    passes : (g : Gate) (given : Stamp)
        → EachOf (Bounded bound') (go_through g index given entry.command s).state.consumers
    passes Fresh given = carried-bounded bound index entry.command (record s { sessions = admit s.sessions given }) each
    passes _ given = bounded-more bound bound' s.consumers (λ id. omega arith) each

    by : (o : Option Stamp) → EachOf (Bounded bound') (step_by o index entry.command s).state.consumers
    by None = carried-bounded bound index entry.command s each
    by (Some given) = passes (gate s.sessions given) given

after-bounded : (bound : ConsumerId → ℕ) (s : State) (entries : List Entry) → EachOf (Bounded bound) s.consumers
    → EachOf (Bounded (λ id. max (bound id) (greatest_limit id entries))) (state_after s entries).consumers
after-bounded bound s [] each =
    bounded-more bound (λ id. max (bound id) 0) s.consumers (λ id. omega arith) each
after-bounded bound s (entry ∷ entries) each =
    bounded-more (λ id. max (max (bound id) (credit_limit id entry.command)) (greatest_limit id entries))
    (λ id. max (bound id) (max (credit_limit id entry.command) (greatest_limit id entries)))
    (state_after (next_step s entry).state entries).consumers (λ id. omega arith)
    (after-bounded (more_limit bound entry.command) (next_step s entry).state entries (next-bounded bound s entry each))

-- Deliveries -----------------------------------------------------------------------------------------------

-- so many deliveries were made
run-known : (id : ConsumerId) (before : ℕ) (s : State) (entries : List Entry) → IsNumbered id.session
    → Known id before s → Known id (before + length (ids_of id (effects_of s entries))) (state_after s entries)
run-known id before s [] numbered known =
    let none : before ≡ before + 0 = omega arith in subst (λ (n : ℕ). Known id n s) none known
run-known id before s (entry ∷ entries) numbered known =
    let made : Step = next_step s entry in
    let now = next-knows id before s entry numbered known in
    let rest = run-known id (before + length (ids_of id made.effects)) made.state entries numbered now.known in
    let all : before + length (ids_of id made.effects) + length (ids_of id (effects_of made.state entries))
    ≡ before + length (ids_of id (made.effects ++ effects_of made.state entries)) =
    omega (
      arith,
      ap (λ ns. length ns) (ids-append id made.effects (effects_of made.state entries)),
      length-append (ids_of id made.effects) (ids_of id (effects_of made.state entries)),
    ) in
    subst (λ (n : ℕ). Known id n (state_after made.state entries)) all rest

entries-audit : (s : State) (entries : List Entry) → entries_of (audit_of s entries) ≡ entries
entries-audit s [] = refl
entries-audit s (entry ∷ entries) =
    ap (λ (es : List Entry). entry ∷ es) (entries-audit (next_step s entry).state entries)

pub keeps_link_credit : (args : QueueArgs) (entries : List Entry) → KeepsLinkCredit args entries
keeps_link_credit args entries consumer there numbered link =
    let start : State = empty_queue args in
    let s : State = state_after start entries in
    let here : In consumer s.consumers = in_contains s.consumers consumer there in
    let within = after-bounded (λ id. 0) start entries (λ one none. absurd none) consumer here in
    let known = run-known consumer.id 0 start entries numbered
    (record { guarded = tt; who = Never refl refl; drawn = Drawn-none (delivery_id consumer.id) 0 }) in
    let its = who-one consumer.id s.consumers _ s.sessions consumer here (same_consumer-refl consumer.id) known.who in
    let delivered : List Delivery = deliveries start (audit_of start entries) consumer.id in
    let long : length (ids_of consumer.id (effects_of start entries)) ≡ length delivered =
    ap (λ (es : List Entry). length (ids_of consumer.id (effects_of start es))) (sym (entries-audit start entries))
    ∙ length-map delivered (λ (d : Delivery). d.id) in
    let ids = within.ids link in
    omega (arith, within.sum, ids, its.1, long)
