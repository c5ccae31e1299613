-- What follows on a command, change by change, with its effects.
use Rattle.std.proofs.Common.{◌≡◌, ℕ, ◌&&◌, [], ◌∷◌, ◌++◌, Option, Some, None, refl, sym, subst}
use Rattle.std.specs.Prelude.{nat_lt}
use Rattle.std.proofs.lemmas.Bool.{cond_both}
use Rattle.qq_base.specs.declared.ids.Index.{Index}
use Rattle.qq_entry.specs.Command.{consumer_id}
use Rattle.qq_entry.specs.declared.audit.Effect.TheVariants.{Offer}
use Rattle.qq_entry.specs.declared.answer.Full.{Full}
use Rattle.qq_entry.specs.declared.command.Command.{Command}
use Rattle.qq_entry.specs.declared.command.Command.TheVariants.{Credit, Enqueue}
use Rattle.qq_entry.specs.declared.message.Message.{Message}
use Rattle.qq_entry.specs.declared.message.Reason.{Reason}
use Rattle.qq_entry.specs.declared.message.Reason.TheVariants.{MaxLen}
use Rattle.qq_entry.specs.declared.queue.QueueArgs.{QueueArgs}
use Rattle.qq_model.specs.declared.TheConstants.{MOST_GIVEN}
use Rattle.qq_model.specs.declared.place.Place.{Place}
use Rattle.qq_model.specs.declared.place.Place.TheVariants.{Dead}
use Rattle.qq_model.specs.declared.place.Row.{Row}
use Rattle.qq_model.specs.declared.consumer.Consumer.{Consumer}
use Rattle.qq_model.specs.State.{State, Sessions}
use Rattle.qq_model.specs.Choice.{next_message}
use Rattle.qq_model.specs.Limits.{publish_limit, is_over_limit}
use Rattle.qq_model.specs.Changes.{Progress, consumer_of, message_of, die}
use Rattle.qq_model.specs.Commands.{Acted, set_state, append_message, enqueue_by, enqueue, act}
use Rattle.qq_model.specs.Serving.{check_out_all, drain_by, is_credited, drain_after, drop_head_by, drop_head, keep_limits, next_dead, given_count, offer_at, offer_by, give_dead, give_all_dead}
use Rattle.qq_model.specs.Step.{map_progress, carry_out}
use Rattle.qq_base.proofs.Lists.{In}
use Rattle.qq_model.proofs.CarryOut.{check_out_all-keeps, follow_on}
use Rattle.qq_model.proofs.Choices.{next_message-in, next_dead-in}
use Rattle.qq_model.proofs.Loops.{while_next-keeps}
use Rattle.qq_model.proofs.SingleChanges.{KeepsDeliveries}
use Rattle.qq_laws.specs.Explains.{IsDeath}
use Rattle.qq_laws.proofs.MessageChanges.{KeepsMessages, Replaced, SameMessages, act-messages, die-ended}

-- what a row is that dies at the head of the queue
abbrev pub IsDropped : QueueArgs → Row → Row → Type 0
IsDropped args row new = (place : Place) × IsDeath args MaxLen place × (new ≡ record row { place = place })

-- a dead letter is offered
abbrev pub offer : ℕ → Reason → Row → Progress → Progress
offer number cause row p =
    record {
      state = record (p.state) { given = number };
      effects = p.effects ++ Offer number cause (message_of p.state.rows p.state.messages row) ∷ [];
    }

-- each offer of a dead letter keeps J
abbrev pub KeepsOffers : (Progress → Type 0) → Type 0
KeepsOffers J =
    (p : Progress) (number : ℕ) (cause : Reason) (row : Row) → J p → In row p.state.rows
    → row.place ≡ Dead number cause → next_dead p.state.given p.state.rows ≡ Some row → J (offer number cause row p)

-- what each change up to the limits keeps
pub record KeepsServing (J : Progress → Type 0) : Type 0 where
  pub delivers : KeepsDeliveries J
  pub same : (p q : Progress) → J p → SameMessages p q → J q
  pub drops : (p q : Progress) (row : Row) → J p → next_message p.state.rows ≡ Some row
      → Replaced (IsDropped p.state.args row) p q row → J q

-- and what each change that follows on a command keeps
pub record KeepsFollowing (J : Progress → Type 0) : Type 0 where
  pub serves : KeepsServing J
  pub offers : KeepsOffers J

drain-messages : (command : Command) (a : Acted) → SameMessages a.progress (drain_after command a).progress
unfolding drain_after
drain-messages (Credit given tag count credit wanted) a =
    cond_both (wanted && is_credited a.answer)
    (drain_by (consumer_of (consumer_id given tag) a.progress.state.consumers) a.answer a.progress) a
    (λ (b : Acted). SameMessages a.progress b.progress)
    (λ _. by (consumer_of (consumer_id given tag) a.progress.state.consumers)) (λ _. itself)
  where
    itself : SameMessages a.progress a.progress
    itself = record {
      rows = refl;
      args = refl;
      messages = refl;
      arrivals = refl;
      attached = refl;
      given = refl;
      orders = refl;
      returns = refl;
      effects = refl;
    }

    by : (o : Option Consumer) → SameMessages a.progress (drain_by o a.answer a.progress).progress
    by None = itself
    by (Some consumer) = record {
      rows = refl;
      args = refl;
      messages = refl;
      arrivals = refl;
      attached = refl;
      given = refl;
      orders = refl;
      returns = refl;
      effects = refl;
    }
drain-messages _ a = record {
  rows = refl;
  args = refl;
  messages = refl;
  arrivals = refl;
  attached = refl;
  given = refl;
  orders = refl;
  returns = refl;
  effects = refl;
}

limits-messages : {J : Progress → Type 0} → KeepsServing J → (p : Progress) → J p → J (keep_limits p)
unfolding keep_limits drop_head
limits-messages {J = J} keeps p holds =
    while_next-keeps J drop_head
    (λ a b it made. cond_both (is_over_limit a.state.args a.state.rows)
    (drop_head_by (next_message a.state.rows) a) None (λ (o : Option Progress). o ≡ Some b → J b)
    (λ _ e. one a b (next_message a.state.rows) refl it e) (λ _ e. absurd cc) made) _ p holds
  where
    one : (a b : Progress) (o : Option Row) → next_message a.state.rows ≡ o → J a → drop_head_by o a ≡ Some b → J b
    one a b None found it made = absurd cc
    one a b (Some row) found it made =
        let some = next_message-in a.state.rows row found in
        let same : die MaxLen row a ≡ b = cc in
        subst J same (keeps.drops a (die MaxLen row a) row it found
        (die-ended MaxLen row row a some.0 (λ place death. (place, death, refl))))

pub gives-messages : {J : Progress → Type 0} → KeepsOffers J → (p : Progress) → J p → J (give_all_dead p)
unfolding give_all_dead give_dead
gives-messages {J = J} keeps p holds =
    while_next-keeps J give_dead
    (λ a b it made. cond_both
    (nat_lt 0 a.state.attached && nat_lt (given_count a.state.given a.state.rows) MOST_GIVEN)
    (offer_by (next_dead a.state.given a.state.rows) a) None (λ (o : Option Progress). o ≡ Some b → J b)
    (λ _ e. one a b (next_dead a.state.given a.state.rows) refl it e) (λ _ e. absurd cc) made) _ p holds
  where
    at : (a b : Progress) (row : Row) (place : Place) → row.place ≡ place
        → next_dead a.state.given a.state.rows ≡ Some row → J a → offer_at place row a ≡ Some b → J b
    at a b row (Dead number cause) is found it made =
        let same : offer number cause row a ≡ b = cc in
        subst J same
        (keeps a number cause row it (next_dead-in a.state.given a.state.rows row found).0 is found)
    at a b row _ is found it made = absurd cc

    one : (a b : Progress) (o : Option Row) → next_dead a.state.given a.state.rows ≡ o → J a
        → offer_by o a ≡ Some b → J b
    one a b None found it made = absurd cc
    one a b (Some row) found it made = at a b row row.place refl found it made

-- what a command has done, up to the limits
abbrev pub limited_by : Command → Acted → Progress
limited_by command a = keep_limits (drain_after command (map_progress check_out_all a)).progress

limited_by-messages : {J : Progress → Type 0} → KeepsServing J → (command : Command) (a : Acted) → J a.progress
    → J (limited_by command a)
limited_by-messages {J = J} keeps command a holds =
    let checked : Acted = map_progress check_out_all a in
    limits-messages keeps _
    (keeps.same checked.progress (drain_after command checked).progress
    (check_out_all-keeps J keeps.delivers a.progress holds) (drain-messages command checked))

-- and to the end of the command
pub follow_on-messages : {J : Progress → Type 0} → KeepsFollowing J → (command : Command) (a : Acted) → J a.progress
    → J (follow_on command a).progress
follow_on-messages {J = J} keeps command a holds =
    gives-messages keeps.offers (limited_by command a) (limited_by-messages {J = J} keeps.serves command a holds)

-- a queue that begins a command with these sessions
abbrev pub start_with : State → Sessions → Progress
start_with s x = record { state = record s { sessions = x }; effects = [] }

-- and what the command has done to it, up to the limits
abbrev pub limited_with : State → Sessions → Index → Command → Progress
limited_with s x index command = limited_by command (act index command (start_with s x))

-- a message that arrives
abbrev pub KeepsArrival : Index → Progress → (Progress → Type 0) → Type 0
KeepsArrival index p J = (message : Message) → J p → J (set_state (append_message p.state index message) p)

-- what each change keeps, a command keeps up to the limits
pub limited-messages : {J : Progress → Type 0} (index : Index) (command : Command) (s : State) (x : Sessions)
    → KeepsMessages command (start_with s x) J → KeepsArrival index (start_with s x) J → KeepsServing J
    → J (start_with s x) → J (limited_with s x index command)
unfolding act enqueue
limited-messages {J = J} index (Enqueue given origin message) s x acts arrives serves holds =
    by (publish_limit s.args s.rows)
  where
    by : (o : Option Full)
        → J (limited_by (Enqueue given origin message) (enqueue_by o index message (start_with s x)))
    by None =
        limited_by-messages {J = J} serves (Enqueue given origin message) (enqueue_by None index message
        (start_with s x)) (arrives message holds)
    by (Some full) =
        limited_by-messages {J = J} serves (Enqueue given origin message)
        (enqueue_by (Some full) index message (start_with s x)) holds
limited-messages {J = J} index command s x acts arrives serves holds =
    limited_by-messages {J = J} serves command (act index command (start_with s x))
    (act-messages {J = J} index command (start_with s x) refl acts holds)

pub carried-gives : (index : Index) (command : Command) (s : State) (x : Sessions)
    → (carry_out index command (record s { sessions = x })).progress ≡ give_all_dead (limited_with s x index command)
unfolding carry_out
carried-gives index command s x = refl

-- and to its end
pub carry_out-messages : {J : Progress → Type 0} (index : Index) (command : Command) (s : State) (x : Sessions)
    → KeepsMessages command (start_with s x) J → KeepsArrival index (start_with s x) J → KeepsFollowing J
    → J (start_with s x) → J (carry_out index command (record s { sessions = x })).progress
carry_out-messages {J = J} index command s x acts arrives follows holds =
    subst J (sym (carried-gives index command s x))
    (gives-messages follows.offers (limited_with s x index command)
    (limited-messages {J = J} index command s x acts arrives follows.serves holds))
