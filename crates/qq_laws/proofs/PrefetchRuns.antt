-- No consumer has more that it hasn't settled than its prefetch allows, over whole runs.
use Rattle.std.proofs.Common.{◌≡◌, ℕ, ◌+◌, ◌-◌, ◌<◌, ◌≤◌, List, [], ◌∷◌, ◌++◌, Option, Some, None, length, refl, sym, ap, ◌∙◌, subst, arith}
use Rattle.qq_base.specs.declared.ids.Index.{Index}
use Rattle.qq_base.specs.declared.ids.ConsumerId.{ConsumerId}
use Rattle.qq_entry.specs.declared.queue.QueueArgs.{QueueArgs}
use Rattle.qq_entry.specs.declared.command.Stamp.{Stamp}
use Rattle.qq_entry.specs.declared.command.Command.{Command}
use Rattle.qq_entry.specs.declared.command.Mode.{Mode}
use Rattle.qq_entry.specs.declared.command.Entry.{Entry}
use Rattle.qq_model.specs.declared.session.Gate.{Gate}
use Rattle.qq_model.specs.declared.session.Gate.TheVariants.{Fresh}
use Rattle.qq_model.specs.State.{State, Sessions, empty_queue}
use Rattle.qq_model.specs.Choice.{free_credit, credit_left, prefetch_limit, out_count}
use Rattle.qq_model.specs.Changes.{Progress}
use Rattle.qq_model.specs.Gate.{is_dead_letter, gate, admit, turn_away, IsNumbered}
use Rattle.qq_model.specs.Commands.{Acted, delivery_id}
use Rattle.qq_entry.specs.Command.{stamp}
use Rattle.qq_model.specs.Step.{carry_out, go_through, step_by, step}
use Rattle.qq_model.specs.Audit.{next_index, next_step, state_after}
use Rattle.qq_base.proofs.Lists.{In, AllByRecursion-weaker}
use Rattle.qq_model.proofs.Lists.{In-from_contains}
use Rattle.qq_laws.specs.Rows.{new_row}
use Rattle.qq_laws.specs.Credit.{FillsPrefetch}
use Rattle.std.specs.List.{AllByRecursion}
use Rattle.qq_laws.proofs.Both.{carry_out-with}
use Rattle.qq_model.proofs.Current.{admit-current, IsCurrent, numbered-plain}
use Rattle.qq_model.proofs.Ids.{CountsOn, ids_of}
use Rattle.qq_model.proofs.Later.{Later, Later-same}
use Rattle.qq_model.proofs.LaterSteps.{admit-later, answer-later, turn_away-later}
use Rattle.qq_model.proofs.OneConsumer.{Who, same_consumer-refl, who-later, who-one}
use Rattle.qq_model.proofs.OneConsumer.Who.{Never}
use Rattle.qq_model.proofs.OutCounts.{out-push}
use Rattle.qq_laws.proofs.Prefetch.{Fits, Roomy, fits-acts, fits-delivers, fits-serves, roomy-later}
use Rattle.qq_laws.proofs.Runs.{empty-sound}
use Rattle.qq_laws.proofs.Since.{Orderly}
use Rattle.qq_laws.proofs.Steps.{Sound, next_stepped}
use Rattle.qq_model.proofs.Indices.{indices}
use Rattle.qq_model.proofs.IdSteps.{Known, next-knows}
use Rattle.qq_model.proofs.Drawn.{Drawn, Drawn-append, Drawn-none}
use Rattle.std.proofs.lemmas.Option.{none-some}

fresh-roomy : (id : ConsumerId) (before : ℕ) (s : State) (x y : Sessions) (command : Command) → IsNumbered id.session
    → Sound s → Known id before s → Roomy id s.rows s.consumers s.sessions → Later id.session s.sessions x
    → ((given : Stamp) → stamp command ≡ Some given → given.session ≡ id.session → IsCurrent x id.session)
    → let a = carry_out (next_index s) command (record s { sessions = x }) in
    Later id.session a.progress.state.sessions y → Roomy id a.progress.state.rows a.progress.state.consumers y
fresh-roomy id before s x y command numbered sound known roomy first current last =
    let index : Index = next_index s in
    let s' : State = record s { sessions = x } in
    let start : Progress = record { state = s'; effects = [] } in
    let none : before ≡ before + length (ids_of id []) = omega arith in
    let on : CountsOn id before command start = record {
      guarded = first.guarded known.guarded;
      ids = tt;
      who =
          subst (λ (n : ℕ). Who id s.consumers n x) none
          (who-later id s.consumers before s.sessions x first known.guarded known.who);
      current = current;
      drawn = subst (λ (n : ℕ). Drawn (delivery_id id) n s.rows) none known.drawn;
    } in
    let fits : Fits id before command start =
    record { on = on; roomy = roomy-later id s.rows s.consumers s.sessions x first known.guarded roomy } in
    let orderly : Orderly
    s' =
    record {
      rising = sound.orderly.rising;
      counted = sound.orderly.counted;
      arrivals = sound.orderly.arrivals;
      messages = sound.orderly.messages;
    } in
    let below : AllByRecursion (λ n. n < index.0) (indices s.rows) =
    AllByRecursion-weaker (λ n. n ≤ s.applied) (λ n. n < index.0) (λ n le. omega arith) (indices s.rows) sound.below
    in
    let a : Acted = carry_out index command s' in
    let done : Fits id before command a.progress =
    carry_out-with s' index command (Fits id before command) orderly below (fits-acts id before command numbered)
    (fits-delivers id before command) (fits-serves id before command numbered)
    (λ p stamp message now is found.
    let same : out_count id (p.state.rows ++ new_row p.state index message ∷ []) ≡ out_count id p.state.rows =
    out-push id p.state.rows (new_row p.state index message) refl in
    record {
      on = record {
        guarded = now.on.guarded;
        ids = now.on.ids;
        who = now.on.who;
        current = now.on.current;
        drawn =
            Drawn-append (delivery_id id) _ _ p.state.rows _ now.on.drawn (omega arith)
            (λ n e. absurd (none-some n e));
      };
      roomy = record {
        room = λ one prefetch only mode. omega (arith, same, now.roomy.room one prefetch only mode);
        unspent = λ never. same ∙ now.roomy.unspent never;
      };
    }) fits in
    roomy-later id a.progress.state.rows a.progress.state.consumers a.progress.state.sessions y last done.on.guarded
    done.roomy

next-roomy : (id : ConsumerId) (before : ℕ) (s : State) (entry : Entry) → IsNumbered id.session → Sound s
    → Known id before s → Roomy id s.rows s.consumers s.sessions
    → let t = (next_step s entry).state in Roomy id t.rows t.consumers t.sessions
unfolding step
next-roomy id before s entry numbered sound known roomy = by (stamp entry.command) refl
  where
    index : Index
    index = next_index s

    command : Command
    command = entry.command

    After : State → Type 0
    After t = Roomy id t.rows t.consumers t.sessions

    stale : (stamp : Stamp) → Roomy id s.rows s.consumers (turn_away s.sessions stamp)
    stale stamp =
        roomy-later id s.rows s.consumers s.sessions (turn_away s.sessions stamp)
        (turn_away-later id.session s.sessions stamp) known.guarded roomy

    passes : (g : Gate) (given : Stamp) → stamp command ≡ Some given → gate s.sessions given ≡ g
        → Roomy id (go_through g index given command s).state.rows
        (go_through g index given command s).state.consumers
        (go_through g index given command s).state.sessions
    passes Fresh stamp is fresh =
        let x : Sessions = admit s.sessions stamp in
        fresh-roomy id before s x _ command numbered sound known roomy (admit-later id.session s.sessions stamp fresh)
        (λ other some own.
        let same : other ≡ stamp = cc (sym some ∙ is) in
        let mine' : stamp.session ≡ id.session = ap (λ (one : Stamp). one.session) (sym same) ∙ own in
        subst (λ i. IsCurrent x i) mine'
        (admit-current s.sessions stamp (ap is_dead_letter mine' ∙ numbered-plain id.session numbered) fresh))
        (answer-later id.session _ stamp _)
    passes _ stamp is fresh = stale stamp

    by : (o : Option Stamp) → stamp command ≡ o
        → Roomy id (step_by o index command s).state.rows (step_by o index command s).state.consumers
        (step_by o index command s).state.sessions
    by None is =
        fresh-roomy id before s s.sessions _ command numbered sound known roomy (Later-same id.session s.sessions)
        (λ stamp some own. absurd (cc (sym is ∙ some))) (Later-same id.session _)
    by (Some stamp) is = passes (gate s.sessions stamp) stamp is refl

-- what is known of a consumer after entries
record Held (id : ConsumerId) (s : State) : Type 0 where
  pub count : ℕ
  pub sound : Sound s
  pub known : Known id count s
  pub roomy : Roomy id s.rows s.consumers s.sessions

after-held : (id : ConsumerId) (s : State) (entries : List Entry) → IsNumbered id.session → Held id s
    → Held id (state_after s entries)
after-held id s [] numbered held = held
after-held id s (entry ∷ entries) numbered held =
    let now = next-knows id held.count s entry numbered held.known in
    after-held id (next_step s entry).state entries numbered
    (record {
      count = _;
      sound = (next_stepped s entry held.sound).sound;
      known = now.known;
      roomy = next-roomy id held.count s entry numbered held.sound held.known held.roomy;
    })

pub fills_prefetch : (args : QueueArgs) (entries : List Entry) → FillsPrefetch
    (state_after (empty_queue args) entries)
fills_prefetch args entries consumer prefetch there numbered mode =
    let s : State = state_after (empty_queue args) entries in
    let held = after-held consumer.id (empty_queue args) entries numbered
    (record {
      count = 0;
      sound = empty-sound args;
      known = record { guarded = tt; who = Never refl refl; drawn = Drawn-none (delivery_id consumer.id) 0 };
      roomy = record { room = λ one prefetch only mode. absurd cc; unspent = λ never. refl };
    }) in
    let here : In consumer s.consumers = In-from_contains s.consumers consumer there.0 there.1 there.2 in
    let only =
    (who-one consumer.id s.consumers held.count s.sessions consumer here (same_consumer-refl consumer.id)
    held.known.who).0 in
    let room : out_count consumer.id s.rows ≤ prefetch_limit prefetch = held.roomy.room consumer prefetch only mode in
    let free : free_credit s.rows consumer ≡ prefetch_limit prefetch - out_count consumer.id s.rows =
    ap (λ (m : Mode). credit_left m consumer.credit (out_count consumer.id s.rows)) mode in
    omega (arith, free, room)
