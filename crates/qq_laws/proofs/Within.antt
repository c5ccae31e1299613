-- Where the counters are far from their ends, all numbers are within them.
use Rattle.std.proofs.Common.{◌≡◌, ℕ, ◌+◌, ◌≤◌, true, ◌&&◌, List, [], ◌∷◌, ◌++◌, refl, sym, ap, ◌∙◌, subst, inl, inr, arith}
use Rattle.std.specs.List.{AllByRecursion, list_all}
use Rattle.std.proofs.lemmas.Bool.{and_from, and_parts, le-leb, leb-true}
use Rattle.qq_base.specs.declared.memory.TheConstants.{NUMBER_END}
use Rattle.qq_base.proofs.Lists.{AllByRecursion-append}
use Rattle.qq_entry.specs.Range.{IsInRange}
use Rattle.qq_entry.specs.declared.command.Entry.{Entry}
use Rattle.qq_entry.specs.declared.queue.QueueArgs.{QueueArgs}
use Rattle.qq_model.specs.declared.consumer.Consumer.{Consumer}
use Rattle.qq_model.specs.declared.place.Row.{Row}
use Rattle.qq_model.specs.declared.session.OpenSession.{OpenSession}
use Rattle.qq_model.specs.Audit.{next_step, state_after}
use Rattle.qq_model.specs.State.{State, empty_queue, is_consumer_within, is_row_within, is_session_within, is_within_ends}
use Rattle.qq_laws.proofs.EachConsumer.{EachOf}
use Rattle.qq_laws.specs.declared.number_ends.TheConstants.{HALFWAY}
use Rattle.qq_laws.specs.Far.{IsReached, are_far, is_far}
use Rattle.qq_laws.proofs.Drawn.{IsDrawn, IsCounted, HasIds, drawn_after}
use Rattle.qq_laws.proofs.Counts.{HasCredit, credit_after}
use Rattle.qq_laws.proofs.Numbers.{HasUsed, HaveUsed, used_after}

-- ---- a queue that is reached

pub new-reached : (args : QueueArgs) → IsReached (empty_queue args)
new-reached args = record { args = args; entries = []; range = tt; is = refl }

after-one : (s : State) (entries : List Entry) (entry : Entry)
    → state_after s (entries ++ entry ∷ []) ≡ (next_step (state_after s entries) entry).state
after-one s [] entry = refl
after-one s (first ∷ entries) entry = after-one (next_step s first).state entries entry

pub next-reached : (s : State) (entry : Entry) → IsReached s → IsInRange entry → IsReached (next_step s entry).state
next-reached s entry it range = record {
  args = it.args;
  entries = it.entries ++ entry ∷ [];
  range = AllByRecursion-append IsInRange it.entries (entry ∷ []) it.range (range, tt);
  is = ap (λ (t : State). (next_step t entry).state) it.is ∙ sym (after-one (empty_queue it.args) it.entries entry);
}

-- ---- its numbers

rows-within : (places : ℕ) (rows : List Row) → places ≤ NUMBER_END → AllByRecursion (IsCounted places) rows
    → list_all is_row_within rows ≡ true
rows-within places [] le each = refl
rows-within places (row ∷ rows) le each =
    let it = each.0 in
    and_from (is_row_within row) (list_all is_row_within rows) (le-leb row.count NUMBER_END (omega (arith, le, it)))
    (rows-within places rows le each.1)

consumers-within : (turns : ℕ) (consumers : List Consumer) → turns ≤ HALFWAY → EachOf (HasIds turns) consumers
    → EachOf HasCredit consumers → list_all is_consumer_within consumers ≡ true
consumers-within turns [] le ids credit = refl
consumers-within turns (one ∷ rest) le ids credit =
    let id = ids one (inl refl) in
    let count = credit one (inl refl) in
    and_from (is_consumer_within one) (list_all is_consumer_within rest)
    (and_from _ _ (le-leb one.next_id NUMBER_END (omega (arith, le, id)))
    (le-leb one.count NUMBER_END (omega (arith, count))))
    (consumers-within turns rest le (λ other here. ids other (inr here)) (λ other here. credit other (inr here)))

sessions-within : (entries : ℕ) (opened : List OpenSession) → entries ≤ HALFWAY
    → AllByRecursion (HasUsed entries) opened → list_all is_session_within opened ≡ true
sessions-within entries [] le each = refl
sessions-within entries (one ∷ rest) le each =
    let it = each.0 in
    and_from (is_session_within one) (list_all is_session_within rest)
    (le-leb one.next NUMBER_END (omega (arith, le, it))) (sessions-within entries rest le each.1)

pub record AreBelow (s : State) : Type 0 where
  pub applied : s.applied ≤ HALFWAY
  pub arrivals : s.arrivals ≤ HALFWAY
  pub orders : s.orders ≤ HALFWAY
  pub returns : s.returns ≤ HALFWAY
  pub deads : s.deads ≤ HALFWAY
  pub turns : s.turns ≤ HALFWAY

pub below : (s : State) → are_far s ≡ true → AreBelow s
below s far =
    let fifth = and_parts
    (is_far s.applied && is_far s.arrivals && is_far s.orders && is_far s.returns && is_far s.deads)
    (is_far s.turns) far in
    let fourth = and_parts (is_far s.applied && is_far s.arrivals && is_far s.orders && is_far s.returns)
    (is_far s.deads) fifth.0 in
    let third = and_parts (is_far s.applied && is_far s.arrivals && is_far s.orders) (is_far s.returns) fourth.0 in
    let second = and_parts (is_far s.applied && is_far s.arrivals) (is_far s.orders) third.0 in
    let first = and_parts (is_far s.applied) (is_far s.arrivals) second.0 in
    record {
      applied = leb-true s.applied HALFWAY first.0;
      arrivals = leb-true s.arrivals HALFWAY first.1;
      orders = leb-true s.orders HALFWAY second.1;
      returns = leb-true s.returns HALFWAY third.1;
      deads = leb-true s.deads HALFWAY fourth.1;
      turns = leb-true s.turns HALFWAY fifth.1;
    }

pub is_within : (s : State) → IsReached s → are_far s ≡ true → is_within_ends s ≡ true
is_within s it is =
    let far = below s is in
    let start : State = empty_queue it.args in
    let drawn : IsDrawn s =
    subst IsDrawn (sym it.is) (drawn_after start it.entries (record { rows = tt; ids = λ one here. absurd here })) in
    let credit : EachOf HasCredit s.consumers =
    subst (λ (t : State). EachOf HasCredit t.consumers) (sym it.is)
    (credit_after start it.entries it.range (λ one here. absurd here)) in
    let used : HaveUsed s.applied s.sessions =
    subst (λ (t : State). HaveUsed t.applied t.sessions) (sym it.is) (used_after start it.entries tt) in
    let places : s.orders + s.returns ≤ NUMBER_END = omega (arith, far.orders, far.returns) in
    and_from _ _
    (and_from _ _
    (and_from _ _
    (and_from _ _
    (and_from _ _
    (and_from _ _
    (and_from _ _
    (and_from _ _ (le-leb s.applied NUMBER_END (omega (arith, far.applied)))
    (le-leb s.arrivals NUMBER_END (omega (arith, far.arrivals))))
    (le-leb s.orders NUMBER_END (omega (arith, far.orders))))
    (le-leb s.returns NUMBER_END (omega (arith, far.returns))))
    (le-leb s.deads NUMBER_END (omega (arith, far.deads))))
    (le-leb s.turns NUMBER_END (omega (arith, far.turns))))
    (rows-within (s.orders + s.returns) s.rows places drawn.rows))
    (consumers-within s.turns s.consumers far.turns drawn.ids credit))
    (sessions-within s.applied s.sessions.opened far.applied used)
