-- Consumers keep their order.
use Rattle.std.proofs.Common.{◌≡◌, ℕ, ◌+◌, Bool, true, false, not, List, [], ◌∷◌, ◌++◌, Option, Some, None, refl, sym, ap, ◌∙◌, subst, inl, inr, length, if◌then◌else◌}
use Rattle.std.specs.Prelude.{nat_le, filter}
use Rattle.std.proofs.lemmas.Bool.{cond_both, false≢true}
use Rattle.std.proofs.lemmas.List.{append-nil}
use Rattle.qq_base.specs.declared.ids.Index.{Index}
use Rattle.qq_base.specs.declared.ids.ConsumerId.{ConsumerId}
use Rattle.qq_base.specs.Ids.{same_consumer}
use Rattle.qq_entry.specs.Command.{stamp, consumer_id}
use Rattle.qq_entry.specs.declared.answer.Answer.TheVariants as answer
use Rattle.qq_entry.specs.declared.answer.Cause.TheVariants.{NumberSpent, ConsumersFull}
use Rattle.qq_entry.specs.declared.command.Command.{Command}
use Rattle.qq_entry.specs.declared.command.Command.TheVariants.{Subscribe}
use Rattle.qq_entry.specs.declared.command.Entry.{Entry}
use Rattle.qq_entry.specs.declared.command.Mode.{Mode}
use Rattle.qq_entry.specs.declared.command.Stamp.{Stamp}
use Rattle.qq_model.specs.declared.TheConstants.{MOST_CONSUMERS}
use Rattle.qq_model.specs.declared.consumer.Consumer.{Consumer}
use Rattle.qq_model.specs.declared.session.Gate.{Gate}
use Rattle.qq_model.specs.declared.session.Gate.TheVariants.{Fresh}
use Rattle.qq_model.specs.State.{State}
use Rattle.qq_model.specs.Gate.{gate, admit, greatest_tag}
use Rattle.qq_model.specs.Changes.{Progress, put_consumer, is_needed}
use Rattle.qq_model.specs.Commands.{Acted, act, reply, refuse, set_state, new_consumer, join, subscribe, is_of_session}
use Rattle.qq_model.specs.Serving.{serve, drain_after}
use Rattle.qq_model.specs.Step.{Step, carry_out, go_through, step_by, step}
use Rattle.qq_model.specs.Audit.{next_index}
use Rattle.qq_model.proofs.CarryOut.{follow_on, follow_on-keeps}
use Rattle.qq_model.proofs.OneConsumer.{same_consumer-true}
use Rattle.qq_model.proofs.SingleChanges.{KeepsDeliveries, Serves}
use Rattle.qq_laws.specs.Order.{IsPart, ids, joined_by, joined, KeepsOrder, JoinLast}
use Rattle.qq_laws.proofs.ActConsumers.{KeepsConsumers, act-consumers}
use Rattle.qq_laws.proofs.EndingRuns.{carried-follows}

-- Parts of lists ---------------------------------------------------------------------------------------

pub part-skip : {A : Type 0} (xs : List A) (y : A) (ys : List A) → IsPart xs ys → IsPart xs (y ∷ ys)
part-skip [] y ys is = tt
part-skip (x ∷ xs) y ys is = inr is

pub part-refl : {A : Type 0} (xs : List A) → IsPart xs xs
part-refl [] = tt
part-refl (x ∷ xs) = inl (refl, part-refl xs)

pub part-trans : {A : Type 0} (xs ys zs : List A) → IsPart xs ys → IsPart ys zs → IsPart xs zs
part-trans [] ys zs some more = tt
part-trans (x ∷ xs) [] zs some more = absurd some
part-trans (x ∷ xs) (y ∷ ys) [] some more = absurd more
part-trans (x ∷ xs) (y ∷ ys) (z ∷ zs) (inl here) (inl there) =
    inl (here.0 ∙ there.0, part-trans xs ys zs here.1 there.1)
part-trans (x ∷ xs) (y ∷ ys) (z ∷ zs) (inr later) (inl there) = inr (part-trans (x ∷ xs) ys zs later there.1)
part-trans (x ∷ xs) (y ∷ ys) (z ∷ zs) some (inr later) = inr (part-trans (x ∷ xs) (y ∷ ys) zs some later)

pub part-filter : (keeps : Consumer → Bool) (consumers : List Consumer)
    → IsPart (ids (filter keeps consumers)) (ids consumers)
part-filter keeps [] = tt
part-filter keeps (one ∷ rest) =
    cond_both (keeps one) (one ∷ filter keeps rest) (filter keeps rest)
    (λ (list : List Consumer). IsPart (ids list) (one.id ∷ ids rest))
    (λ _. inl (refl, part-filter keeps rest))
    (λ _. part-skip (ids (filter keeps rest)) one.id (ids rest) (part-filter keeps rest))

-- Changes ----------------------------------------------------------------------------------------------

-- a consumer that takes the place of those of its id
pub ids-put : (new : Consumer) (consumers : List Consumer) → ids (put_consumer new consumers) ≡ ids consumers
ids-put new [] = refl
ids-put new (one ∷ rest) =
    ap (λ (id : ConsumerId). id ∷ ids (put_consumer new rest)) (here one)
    ∙ ap (λ (list : List ConsumerId). one.id ∷ list) (ids-put new rest)
  where
    here : (one : Consumer) → (if same_consumer one.id new.id then new else one).id ≡ one.id
    here one =
        cond_both (same_consumer one.id new.id) new one (λ (c : Consumer). c.id ≡ one.id)
        (λ is. sym (same_consumer-true one.id new.id is)) (λ _. refl)

pub ids-append : (consumers more : List Consumer) → ids (consumers ++ more) ≡ ids consumers ++ ids more
ids-append [] more = refl
ids-append (one ∷ rest) more = ap (λ (list : List ConsumerId). one.id ∷ list) (ids-append rest more)

abbrev Keeps : List ConsumerId → Progress → Type 0
Keeps before p = ids p.state.consumers ≡ before

delivers-ids : (before : List ConsumerId) → KeepsDeliveries (Keeps before)
delivers-ids before p row consumer same found next =
    ids-put (serve (p.state.turns + 1) consumer) p.state.consumers ∙ same

serves-ids : (before : List ConsumerId) (command : Command) → Serves command (Keeps before)
serves-ids before command = record {
  rows = record {
    row = λ p q old new same here moves out why turns. ap ids turns.consumers ∙ same;
  };
  offer = λ p number cause row same here is next may few. same;
  drain = λ p other consumer same found. ids-put _ p.state.consumers ∙ same;
}

pub follow-ids : (command : Command) (a : Acted)
    → ids (follow_on command a).progress.state.consumers ≡ ids a.progress.state.consumers
follow-ids command a =
    let before = ids a.progress.state.consumers in
    follow_on-keeps {I = Keeps before} command (delivers-ids before) (serves-ids before command) a refl

-- A command --------------------------------------------------------------------------------------------

abbrev pub is_subscribe : Command → Bool
is_subscribe (Subscribe given tag mode) = true
is_subscribe _ = false

-- a command that isn't a subscribe leaves some out
part-acts : (before : List ConsumerId) (command : Command) → is_subscribe command ≡ false
    → KeepsConsumers command (λ consumers. IsPart (ids consumers) before)
part-acts before command plain = record {
  join = λ consumers id mode turn part is. absurd (false≢true (sym plain ∙ ap is_subscribe is.2));
  cancel = λ consumers id one part found is. subst (λ list. IsPart list before) (sym (ids-put _ consumers)) part;
  credit = λ consumers id one total part found link is.
      subst (λ list. IsPart list before) (sym (ids-put _ consumers)) part;
  turn = λ consumers one turn part here. subst (λ list. IsPart list before) (sym (ids-put _ consumers)) part;
  needed = λ rows consumers part.
      part-trans _ (ids consumers) before (part-filter (is_needed rows) consumers) part;
  leave = λ consumers session part is.
      part-trans _ (ids consumers) before
      (part-filter (λ (one : Consumer). not (is_of_session session one)) consumers) part;
}

-- the order after a command's row of the table
abbrev Ordered : Command → State → Acted → Type 0
Ordered command s a = KeepsOrder (ids s.consumers) (joined_by command a.answer) (ids a.progress.state.consumers)

all-stay : (consumers : List Consumer) → KeepsOrder (ids consumers) [] (ids consumers)
all-stay consumers = (ids consumers, part-refl (ids consumers), sym (append-nil (ids consumers)))

subscribe-ordered : (given : Stamp) (tag : ℕ) (mode : Mode) (s : State)
    → Ordered (Subscribe given tag mode) s (subscribe (consumer_id given tag) mode (record { state = s; effects = [] }))
unfolding subscribe
subscribe-ordered given tag mode s =
    cond_both (nat_le tag (greatest_tag given.session s.sessions)) (refuse NumberSpent start) _
    (Ordered (Subscribe given tag mode) s) (λ _. all-stay s.consumers) (λ _.
    cond_both (nat_le MOST_CONSUMERS (length s.consumers)) (refuse ConsumersFull start)
    (reply answer.Subscribed (set_state (join id mode s) start)) (Ordered (Subscribe given tag mode) s)
    (λ _. all-stay s.consumers)
    (λ _. (
      ids s.consumers,
      part-refl (ids s.consumers),
      ids-append s.consumers (new_consumer id mode (s.turns + 1) ∷ []),
    )))
  where
    start : Progress
    start = record { state = s; effects = [] }

    id : ConsumerId
    id = consumer_id given tag

act-ordered : (index : Index) (command : Command) (s : State)
    → Ordered command s (act index command (record { state = s; effects = [] }))
unfolding act
act-ordered index command s = by command
  where
    start : Progress
    start = record { state = s; effects = [] }

    others : (other : Command) → is_subscribe other ≡ false → (new : List ConsumerId) → new ≡ []
        → KeepsOrder (ids s.consumers) new (ids (act index other start).progress.state.consumers)
    others other plain new none = (
      ids (act index other start).progress.state.consumers,
      act-consumers (λ consumers. IsPart (ids consumers) (ids s.consumers)) index other
          (part-acts (ids s.consumers) other plain) start (part-refl (ids s.consumers)),
      sym (ap (λ (list : List ConsumerId). ids (act index other start).progress.state.consumers ++ list) none
          ∙ append-nil (ids (act index other start).progress.state.consumers)),
    )

    by : (other : Command) → Ordered other s (act index other start)
    by (Subscribe given tag mode) = subscribe-ordered given tag mode s
    by other = others other refl [] refl

-- what follows a command leaves who joined by it
pub follow-joined : (command : Command) (a : Acted) → joined_by command (follow_on command a).answer ≡ joined_by command a.answer
unfolding drain_after
follow-joined (Subscribe given tag mode) a = refl
follow-joined command a = refl

carry-ordered : (index : Index) (command : Command) (s : State) → Ordered command s (carry_out index command s)
carry-ordered index command s =
    let acted : Acted = act index command (record { state = s; effects = [] }) in
    let kept = act-ordered index command s in
    subst (Ordered command s) (sym (carried-follows index command s)) (
      kept.0,
      kept.1,
      follow-ids command acted ∙ kept.2
          ∙ ap (λ (new : List ConsumerId). kept.0 ++ new) (sym (follow-joined command acted)),
    )

-- An entry ---------------------------------------------------------------------------------------------

pub join_last : (s : State) (entry : Entry) → JoinLast s entry
unfolding step
join_last s entry = by (stamp entry.command)
  where
    index : Index
    index = next_index s

    Last : Step → Type 0
    Last made = KeepsOrder (ids s.consumers) (joined entry made) (ids made.state.consumers)

    passes : (g : Gate) (given : Stamp) → Last (go_through g index given entry.command s)
    passes Fresh given = carry-ordered index entry.command (record s { sessions = admit s.sessions given })
    passes _ given = all-stay s.consumers

    by : (o : Option Stamp) → Last (step_by o index entry.command s)
    by None = carry-ordered index entry.command s
    by (Some given) = passes (gate s.sessions given) given
