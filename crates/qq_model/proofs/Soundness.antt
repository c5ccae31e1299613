-- Each queue is sound.
use Rattle.std.proofs.Common.{◌≡◌, ℕ, ◌+◌, ◌-◌, ◌<◌, ◌≤◌, false, cond, List, [], ◌∷◌, None, length, count_by, refl, sym, ap, ◌∙◌, subst, inl, inr, arith, suc}
use Rattle.std.specs.Prelude.{All, AllPairs, Contains, slice_index_or}
use Rattle.std.specs.List.{AllByRecursion}
use Rattle.std.proofs.lemmas.Bool.{false≢true, cases_Bool, cond-true, cond-false}
use Rattle.std.proofs.lemmas.List.Elements.{All-cons, All-from_recursion, All-nil}
use Rattle.std.proofs.lemmas.List.Kept.{AllPairs-cons}
use Rattle.std.proofs.lemmas.List.Sums.{sum_by-cons}
use Rattle.qq_base.specs.declared.ids.Index.{Index}
use Rattle.qq_base.specs.declared.ids.SessionId.{SessionId}
use Rattle.qq_base.specs.declared.ids.ConsumerId.{ConsumerId}
use Rattle.qq_base.specs.Ids.{same_session, same_consumer}
use Rattle.qq_entry.specs.declared.queue.QueueArgs.{QueueArgs}
use Rattle.qq_entry.specs.declared.command.Command.{Command}
use Rattle.qq_entry.specs.declared.command.Entry.{Entry}
use Rattle.qq_model.specs.declared.place.Row.{Row}
use Rattle.qq_model.specs.declared.consumer.Consumer.{Consumer}
use Rattle.qq_model.specs.declared.session.OpenSession.{OpenSession}
use Rattle.qq_model.specs.State.{State, Sessions, empty_queue}
use Rattle.qq_model.specs.Gate.{IsNumbered, is_ended, greatest_tag, tag_by}
use Rattle.qq_model.specs.Commands.{delivery_id}
use Rattle.qq_model.specs.Step.{carry_out}
use Rattle.qq_model.specs.Audit.{next_index, next_step, state_after}
use Rattle.qq_model.specs.Sound.{front_number, back_number, death_number, KeepsAnswers, IsSound}
use Rattle.qq_base.proofs.Lists.{In, AllByRecursion-weaker, list_any-from_in}
use Rattle.qq_model.proofs.Lists.{AllByRecursion-from_in, In-from_contains}
use Rattle.qq_model.proofs.CarryOut.{carry_out-keeps}
use Rattle.qq_model.proofs.Drawn.{Drawn-none, drawn_once, Drawn}
use Rattle.qq_model.proofs.Holders.{Held, Held-acts, Held-arrives, Held-delivers, Held-serves, InTurn, InTurn-acts, InTurn-delivers, InTurn-serves}
use Rattle.qq_model.proofs.IdSteps.{Known, next-knows}
use Rattle.qq_model.proofs.Ids.{ids_of}
use Rattle.qq_model.proofs.Indices.{Rises, indices}
use Rattle.qq_model.proofs.InOrder.{Ordered, Ordered-acts, Ordered-brings, Ordered-delivers, Ordered-serves, carry_out-from}
use Rattle.qq_model.proofs.KeptAnswers.{AreApart, IsKept, Keeps, keeps_answers, next-kept}
use Rattle.qq_model.proofs.Numbers.{Numbered, Numbered-acts, Numbered-arrives, Numbered-delivers, Numbered-serves}
use Rattle.qq_model.proofs.OneConsumer.{Who, consumers_with, who-one, same_consumer-refl}
use Rattle.qq_model.proofs.OneConsumer.Who.{Never, Went, Stays}
use Rattle.qq_model.proofs.SessionLemmas.{ended-from, same_session-refl}
use Rattle.qq_model.proofs.StepKeeps.{IsKeptByStep, after-keeps}
use Rattle.qq_model.proofs.Window.{carry_out-window}
use Rattle.qq_model.specs.Serving.{given_count}
use Rattle.qq_model.specs.declared.TheConstants.{MOST_CONSUMERS, MOST_GIVEN}
use Rattle.qq_model.proofs.Bounds.{carried-bounds}
use Rattle.qq_model.proofs.Few.{Busy}
use Rattle.qq_model.proofs.Later.{Used}
use Rattle.qq_model.proofs.Later.Used.{GoesOn, IsOver}
use Rattle.qq_model.proofs.SetsRise.{after-rise, number, owner, pairs_of}

-- The messages ------------------------------------------------------------------------------------------

pub record SoundRows (s : State) : Type 0 where
  pub ordered : Ordered s.applied s
  pub numbered : Numbered s
  pub held : Held s.rows s.consumers
  pub turns : InTurn s.turns s.consumers
  pub window : given_count s.given s.rows ≤ MOST_GIVEN
  pub few : length s.consumers ≤ MOST_CONSUMERS
  pub busy : Busy s.rows s.consumers

rows-carried : (s : State) (index : Index) (command : Command) (x : Sessions) → s.applied < index.0 → SoundRows s
    → let t = (carry_out index command (record s { sessions = x })).progress.state in
    Ordered index.0 t × Numbered t × Held t.rows t.consumers × InTurn t.turns t.consumers
rows-carried s index command x less sound = (
  carry_out-from {I = λ p. Ordered s.applied p.state} {J = λ p. Ordered index.0 p.state} index command
      (record s { sessions = x }) (Ordered-brings s.applied index less) (Ordered-acts index.0 command)
      (Ordered-delivers index.0) (Ordered-serves index.0 command)
      (record {
        rising = sound.ordered.rising;
        below = sound.ordered.below;
        arrivals = sound.ordered.arrivals;
        messages = sound.ordered.messages;
      }),
  carry_out-keeps {I = λ p. Numbered p.state} index command (record s { sessions = x }) (Numbered-acts command)
      Numbered-delivers (Numbered-serves command) (Numbered-arrives index command)
      (record {
        fronts = sound.numbered.fronts;
        backs = sound.numbered.backs;
        deads = sound.numbered.deads;
        given = sound.numbered.given;
      }),
  carry_out-keeps {I = λ p. Held p.state.rows p.state.consumers} index command (record s { sessions = x })
      (Held-acts command) Held-delivers (Held-serves command) (Held-arrives index command) sound.held,
  carry_out-keeps {I = λ p. InTurn p.state.turns p.state.consumers} index command (record s { sessions = x })
      (InTurn-acts command) InTurn-delivers (InTurn-serves command) (λ p stamp message was is found. was) sound.turns,
)

pub rows-kept : (s : State) → IsKeptByStep SoundRows SoundRows (next_index s) s
rows-kept s = record {
  stale = λ x sound. record {
    ordered = record {
      rising = sound.ordered.rising;
      below =
          AllByRecursion-weaker (λ n. n ≤ s.applied) (λ n. n ≤ s.applied + 1) (λ n le. omega arith) (indices s.rows)
          sound.ordered.below;
      arrivals = sound.ordered.arrivals;
      messages = sound.ordered.messages;
    };
    numbered = record {
      fronts = sound.numbered.fronts;
      backs = sound.numbered.backs;
      deads = sound.numbered.deads;
      given = sound.numbered.given;
    };
    held = sound.held;
    turns = sound.turns;
    window = sound.window;
    few = sound.few;
    busy = sound.busy;
  };
  fresh = λ command x y sound.
      let done = rows-carried s (next_index s) command x (omega arith) sound in
      let bounds = carried-bounds (next_index s) command (record s { sessions = x }) sound.ordered.rising done.0.rising
      sound.few sound.busy in
      record {
        ordered = record {
          rising = done.0.rising;
          below = done.0.below;
          arrivals = done.0.arrivals;
          messages = done.0.messages;
        };
        numbered = record {
          fronts = done.1.fronts;
          backs = done.1.backs;
          deads = done.1.deads;
          given = done.1.given;
        };
        held = done.2;
        turns = done.3;
        few = bounds.few;
        busy = bounds.busy;
        window =
            (carry_out-window (record s { sessions = x }) (next_index s) command s.applied (omega arith) (record {
              ordered = record {
                rising = sound.ordered.rising;
                below = sound.ordered.below;
                arrivals = sound.ordered.arrivals;
                messages = sound.ordered.messages;
              };
              numbered = record {
                fronts = sound.numbered.fronts;
                backs = sound.numbered.backs;
                deads = sound.numbered.deads;
                given = sound.numbered.given;
              };
              window = sound.window;
            })).window;
      };
}

pub rows_at : (args : QueueArgs) (entries : List Entry) → SoundRows (state_after (empty_queue args) entries)
rows_at args entries = after-keeps SoundRows rows-kept (empty_queue args) entries (record {
  ordered = record { rising = tt; below = tt; arrivals = refl; messages = refl };
  numbered = record {
    fronts = Drawn-none front_number 0;
    backs = Drawn-none back_number 0;
    deads = Drawn-none death_number 0;
    given = omega arith;
  };
  held = λ row consumer id here is. absurd here;
  turns = record { own = λ a b ina inb same. absurd ina; drawn = λ one here. absurd here };
  window = omega arith;
  few = omega arith;
  busy = λ one here over. absurd here;
})

-- The consumers of one id --------------------------------------------------------------------------------

pub known_after : (id : ConsumerId) (s : State) (entries : List Entry) (count : ℕ) → IsNumbered id.session
    → Known id count s → (count' : ℕ) × Known id count' (state_after s entries)
known_after id s [] count numbered known = (count, known)
known_after id s (entry ∷ entries) count numbered known =
    known_after id (next_step s entry).state entries (count + length (ids_of id (next_step s entry).effects)) numbered
    (next-knows id count s entry numbered known).known

pub known_at : (args : QueueArgs) (entries : List Entry) (id : ConsumerId) → IsNumbered id.session
    → (count : ℕ) × Known id count (state_after (empty_queue args) entries)
known_at args entries id numbered =
    known_after id (empty_queue args) entries 0 numbered
    (record { guarded = tt; who = Never refl refl; drawn = Drawn-none (delivery_id id) 0 })

count-with : (id : ConsumerId) (consumers : List Consumer)
    → count_by (λ (one : Consumer). same_consumer one.id id) consumers ≡ length (consumers_with id consumers)
count-with id [] = refl
count-with id (one ∷ rest) =
    let here = sum_by-cons (λ (c : Consumer). cond (same_consumer c.id id) 1 0) one rest in
    let more = count-with id rest in
    elim (cases_Bool (same_consumer one.id id)) [
      | inl is ↦
          let first : cond (same_consumer one.id id) 1 0 ≡ 1 = ap (λ b. let n : ℕ = cond b 1 0 in n) is in
          let all : length (consumers_with id (one ∷ rest)) ≡ 1 + length (consumers_with id rest) =
          ap (λ (cs : List Consumer). length cs)
          (cond-true (same_consumer one.id id) (one ∷ consumers_with id rest) (consumers_with id rest) is)
          ∙ omega arith in
          omega (arith, here, more, first, all)
      | inr other ↦
          let first : cond (same_consumer one.id id) 1 0 ≡ 0 = ap (λ b. let n : ℕ = cond b 1 0 in n) other in
          let all : length (consumers_with id (one ∷ rest)) ≡ length (consumers_with id rest) =
          ap (λ (cs : List Consumer). length cs)
          (cond-false (same_consumer one.id id) (one ∷ consumers_with id rest) (consumers_with id rest) other) in
          omega (arith, here, more, first, all)
    ]

who-alone : (id : ConsumerId) (consumers : List Consumer) (count : ℕ) (s : Sessions) → Who id consumers count s
    → length (consumers_with id consumers) ≤ 1
who-alone id consumers count s (Never none zero') = let e = ap (λ (cs : List Consumer). length cs) none in omega arith
who-alone id consumers count s (Went none used) = let e = ap (λ (cs : List Consumer). length cs) none in omega arith
who-alone id consumers count s (Stays one only next used) =
    let e = ap (λ (cs : List Consumer). length cs) only in omega arith

-- a tag that was used isn't above the greatest one, while the session goes on
used-tag : (s : Sessions) (id : ConsumerId) → is_ended s id.session ≡ false → Used s id.session 0 id.tag
    → id.tag ≤ greatest_tag id.session s
used-tag s id going (IsOver over) = absurd (false≢true (sym going ∙ ended-from s id.session over))
used-tag s id going (GoesOn one found number' tag) =
    let is : greatest_tag id.session s ≡ one.tag = ap tag_by found in omega (arith, is, tag)

-- The sessions -------------------------------------------------------------------------------------------

kept_after : (s : State) (entries : List Entry) → Keeps None s.sessions → Keeps None (state_after s entries).sessions
kept_after s [] keeps = keeps
kept_after s (entry ∷ entries) keeps = kept_after (next_step s entry).state entries (next-kept s entry keeps)

pub kept_at : (args : QueueArgs) (entries : List Entry) → Keeps None (state_after (empty_queue args) entries).sessions
kept_at args entries = kept_after (empty_queue args) entries (record { each = tt; apart = tt })

apart-pairs : (ones : List OpenSession) → AreApart ones
    → AllPairs (λ (a b : OpenSession). a.session ≡ b.session → ⊥) ones
apart-pairs [] apart = λ i j d lt within. absurd (omega arith)
apart-pairs (one ∷ rest) apart =
    AllPairs-cons (λ (a b : OpenSession). a.session ≡ b.session → ⊥) one rest
    (All-from_recursion (λ (other : OpenSession). one.session ≡ other.session → ⊥) rest
    (AllByRecursion-from_in (λ (other : OpenSession). one.session ≡ other.session → ⊥) rest
    (λ other here same.
    false≢true (sym apart.0
    ∙ list_any-from_in (λ (o : OpenSession). same_session o.session one.session) other rest here
    (ap (λ (i : SessionId). same_session i one.session) (sym same) ∙ same_session-refl one.session)))))
    (apart-pairs rest apart.1)

-- All of it ----------------------------------------------------------------------------------------------

pub all_of_indices : (P : ℕ → Type 0) (rows : List Row) → AllByRecursion P (indices rows)
    → All (λ (row : Row). P row.index.0) rows
all_of_indices P [] each = All-nil (λ (row : Row). P row.index.0)
all_of_indices P (row ∷ rows) each =
    All-cons (λ (one : Row). P one.index.0) row rows each.0 (all_of_indices P rows each.1)

pub pairs_of_rising : (rows : List Row) → Rises (indices rows)
    → AllPairs (λ (a b : Row). a.index.0 < b.index.0) rows
pairs_of_rising [] rising = λ i j d lt within. absurd (omega arith)
pairs_of_rising (row ∷ rows) rising =
    AllPairs-cons (λ (a b : Row). a.index.0 < b.index.0) row rows
    (all_of_indices (λ n. row.index.0 < n) rows rising.0)
    (pairs_of_rising rows rising.1)

pub Contains-in : {A : Type 0} (x : A) (xs : List A) → In x xs → Contains xs x
Contains-in x [] here = absurd here
Contains-in x (y ∷ xs) (inl same) = (0, omega arith, sym same)
Contains-in x (y ∷ xs) (inr later) =
    let rest = Contains-in x xs later in (rest.0 + 1, omega (arith, rest.1), at rest.0 (rest.2))
  where
    at : (k : ℕ) → slice_index_or xs k x ≡ x → slice_index_or (y ∷ xs) (k + 1) x ≡ x
    at k is = let one : k + 1 ≡ suc k = omega arith in ap (λ n. slice_index_or (y ∷ xs) n x) one ∙ is

pub in_contains : {A : Type 0} (xs : List A) (x : A) → Contains xs x → In x xs
in_contains xs x there = In-from_contains xs x there.0 there.1 there.2

pub is_sound : (args : QueueArgs) (entries : List Entry) → IsSound (state_after (empty_queue args) entries)
is_sound args entries =
    let s = state_after (empty_queue args) entries in
    let rows = rows_at args entries in
    let kept = kept_at args entries in
    let rise = after-rise (empty_queue args) entries (record { ended = tt; workers = tt }) in
    record {
      messages = record {
        rising = pairs_of_rising s.rows rows.ordered.rising;
        applied = all_of_indices (λ n. n ≤ s.applied) s.rows rows.ordered.below;
        arrivals = rows.ordered.arrivals;
        messages = rows.ordered.messages;
        fronts = drawn_once front_number s.returns s.rows rows.ordered.rising rows.numbered.fronts;
        backs = drawn_once back_number s.orders s.rows rows.ordered.rising rows.numbered.backs;
        deads = drawn_once death_number s.deads s.rows rows.ordered.rising rows.numbered.deads;
        given = rows.numbered.given;
        window = rows.window;
        holders = λ row consumer id here is.
            let seat = rows.held row consumer id (in_contains s.rows row here) is in
            (seat.0, Contains-in seat.0 s.consumers seat.1, seat.2);
      };
      consumers = record {
        turns = λ a b ina inb. rows.turns.own a b (in_contains s.consumers a ina) (in_contains s.consumers b inb);
        drawn = λ one here. rows.turns.drawn one (in_contains s.consumers one here);
        few = rows.few;
        busy = λ one here. rows.busy one (in_contains s.consumers one here);
        tags = λ one here numbered going.
            let known = known_at args entries one.id numbered in
            let its = who-one one.id s.consumers known.0 s.sessions one (in_contains s.consumers one here)
            (same_consumer-refl one.id) known.1.who in
            used-tag s.sessions one.id going its.2;
        alone = λ id numbered.
            let known = known_at args entries id numbered in
            let few = who-alone id s.consumers known.0 s.sessions known.1.who in
            omega (arith, few, count-with id s.consumers);
        deliveries = λ one here numbered.
            let known = known_at args entries one.id numbered in
            let its = who-one one.id s.consumers known.0 s.sessions one (in_contains s.consumers one here)
            (same_consumer-refl one.id) known.1.who in
            let last : known.0 ≡ one.next_id - 1 = omega (arith, its.1) in
            drawn_once (delivery_id one.id) (one.next_id - 1) s.rows rows.ordered.rising
            (subst (λ (n : ℕ). Drawn (delivery_id one.id) n s.rows) last known.1.drawn);
      };
      sessions = record {
        ended = pairs_of number s.sessions.ended rise.ended;
        owners = pairs_of owner s.sessions.workers rise.workers;
        alone = apart-pairs s.sessions.opened kept.apart;
        kept =
            All-from_recursion KeepsAnswers s.sessions.opened
            (AllByRecursion-weaker (λ (one : OpenSession). IsKept 0 one) KeepsAnswers keeps_answers s.sessions.opened
            kept.each);
      };
    }
