-- The numbers of ended clients, and the owners of workers, rise.
use Rattle.std.proofs.Common.{◌≡◌, ℕ, ◌+◌, ◌<◌, Bool, true, not, List, [], ◌∷◌, ◌++◌, Option, Some, None, sym, subst, arith}
use Rattle.std.specs.Prelude.{nat_lt, filter, AllPairs}
use Rattle.std.specs.List.{AllByRecursion}
use Rattle.std.proofs.lemmas.Bool.{cond_both, ltb-true}
use Rattle.std.proofs.lemmas.List.Elements.{All-from_recursion}
use Rattle.std.proofs.lemmas.List.Kept.{AllPairs-cons}
use Rattle.qq_base.specs.declared.ids.Index.{Index}
use Rattle.qq_base.specs.declared.ids.SessionId.{SessionId}
use Rattle.qq_base.specs.Ids.{same_session}
use Rattle.qq_entry.specs.Command.{stamp}
use Rattle.qq_entry.specs.declared.answer.Answer.{Answer}
use Rattle.qq_entry.specs.declared.command.Command.{Command}
use Rattle.qq_entry.specs.declared.command.Entry.{Entry}
use Rattle.qq_entry.specs.declared.command.Stamp.{Stamp}
use Rattle.qq_model.specs.declared.session.OpenSession.{OpenSession}
use Rattle.qq_model.specs.declared.session.Worker.{Worker}
use Rattle.qq_model.specs.declared.session.Gate.{Gate}
use Rattle.qq_model.specs.declared.session.Gate.TheVariants.{Fresh}
use Rattle.qq_model.specs.State.{State, Sessions}
use Rattle.qq_model.specs.Gate.{is_client, is_worker, is_dead_letter, is_open, is_ended, gate, raise_mark, change_session, turn_away, use_number, put_worker, open_session, admit, keep_answer, take_tag, put_ended, remember_end, is_end_remembered, end_session}
use Rattle.qq_model.specs.Step.{carry_out, go_through, step_by, step}
use Rattle.qq_model.specs.Audit.{next_index, next_step, state_after}
use Rattle.qq_base.proofs.Lists.{AllByRecursion-append, AllByRecursion-filter, AllByRecursion-weaker, In-filter_passes}
use Rattle.qq_model.proofs.CarryOut.{carry_out-keeps}
use Rattle.qq_model.proofs.Lists.{AllByRecursion-from_in}
use Rattle.qq_model.proofs.SingleChanges.{Acts, KeepsRows}

-- each item has a greater key than those before it
abbrev pub RisesBy : {A : Type 0} → (A → ℕ) → List A → Type 0
RisesBy key [] = Unit {0}
RisesBy key (x ∷ xs) = AllByRecursion (λ y. key x < key y) xs × RisesBy key xs

rises-filter : {A : Type 0} (key : A → ℕ) (keeps : A → Bool) (xs : List A) → RisesBy key xs
    → RisesBy key (filter keeps xs)
rises-filter key keeps [] rising = tt
rises-filter key keeps (x ∷ xs) rising =
    let rest = rises-filter key keeps xs rising.1 in
    cond_both (keeps x) (x ∷ filter keeps xs) (filter keeps xs) (RisesBy key)
    (λ _. (AllByRecursion-filter (λ y. key x < key y) keeps xs rising.0, rest)) (λ _. rest)

rises-join : {A : Type 0} (key : A → ℕ) (xs : List A) (new : A) (ys : List A) → RisesBy key xs → RisesBy key ys
    → AllByRecursion (λ x. key x < key new) xs → AllByRecursion (λ y. key new < key y) ys
    → RisesBy key (xs ++ new ∷ ys)
rises-join key [] new ys first second below above = (above, second)
rises-join {A = A} key (x ∷ xs) new ys first second below above =
    let less : key x < key new = below.0 in
    let later : AllByRecursion (λ (y : A). key x < key y) ys =
    AllByRecursion-weaker (λ (y : A). key new < key y) (λ (y : A). key x < key y) (λ y lt. omega arith) ys above in (
      AllByRecursion-append (λ (y : A). key x < key y) xs (new ∷ ys) first.0 (less, later),
      rises-join key xs new ys first.1 second below.1 above,
    )

passing : {A : Type 0} (P : A → Type 0) (keeps : A → Bool) (xs : List A) → ((x : A) → keeps x ≡ true → P x)
    → AllByRecursion P (filter keeps xs)
passing P keeps xs each =
    AllByRecursion-from_in P (filter keeps xs) (λ x here. each x (In-filter_passes keeps x xs here))

-- an item takes its place among those of lesser and of greater keys
rises-put : {A : Type 0} (key : A → ℕ) (new : A) (xs : List A) → RisesBy key xs
    → RisesBy key
    (filter (λ (x : A). nat_lt (key x) (key new)) xs ++ new ∷ filter (λ (x : A). nat_lt (key new) (key x)) xs)
rises-put {A = A} key new xs rising =
    let lesser : A → Bool = λ x. nat_lt (key x) (key new) in
    let greater : A → Bool = λ x. nat_lt (key new) (key x) in
    rises-join key (filter lesser xs) new (filter greater xs) (rises-filter key lesser xs rising)
    (rises-filter key greater xs rising)
    (passing (λ (x : A). key x < key new) lesser xs (λ x is. ltb-true (key x) (key new) is))
    (passing (λ (x : A). key new < key x) greater xs (λ x is. ltb-true (key new) (key x) is))

pub pairs_of : {A : Type 0} (key : A → ℕ) (xs : List A) → RisesBy key xs → AllPairs (λ (a b : A). key a < key b) xs
pairs_of key [] rising = λ i j d lt within. absurd (omega arith)
pairs_of {A = A} key (x ∷ xs) rising =
    AllPairs-cons (λ (a b : A). key a < key b) x xs
    (All-from_recursion (λ (y : A). key x < key y) xs rising.0) (pairs_of key xs rising.1)

-- Sessions -------------------------------------------------------------------------------------------------

abbrev pub number : ℕ → ℕ
number n = n

abbrev pub owner : Worker → ℕ
owner worker = worker.owner

pub record SetsRise (s : Sessions) : Type 0 where
  pub ended : RisesBy number s.ended
  pub workers : RisesBy owner s.workers

-- the open sessions change alone
rise-opened : (s : Sessions) (opened : List OpenSession) → SetsRise s → SetsRise (record s { opened = opened })
rise-opened s opened rise = record { ended = rise.ended; workers = rise.workers }

tag-rise : (s : Sessions) (id : SessionId) (tag : ℕ) → SetsRise s → SetsRise (take_tag id tag s)
unfolding take_tag
tag-rise s id tag rise = record { ended = rise.ended; workers = rise.workers }

end-rise : (s : Sessions) (id : SessionId) → SetsRise s → SetsRise (end_session s id)
unfolding end_session
end-rise s id rise =
    let opened : List OpenSession =
    filter (λ (one : OpenSession). not (same_session one.session id)) s.opened in
    let put : RisesBy number (put_ended id.number s.ended) = rises-put number id.number s.ended rise.ended in
    cond_both (is_open id s.opened) (record s { opened = opened; ended = remember_end id s.ended }) _ SetsRise
    (λ _. record {
      ended = cond_both (is_client id) (put_ended id.number s.ended) s.ended (RisesBy number) (λ _. put)
          (λ _. rise.ended);
      workers = rise.workers;
    })
    (λ _. cond_both (is_end_remembered s id)
    (record s { ended = put_ended id.number s.ended; seen = s.seen + 1 }) s SetsRise
    (λ _. record { ended = put; workers = rise.workers }) (λ _. rise))

rise-rows : (command : Command) → KeepsRows command (λ p. SetsRise p.state.sessions)
rise-rows command = record {
  row = λ p q old new rise here moves out why turns. subst SetsRise (sym turns.sessions) rise;
}

rise-acts : (command : Command) → Acts command (λ p. SetsRise p.state.sessions)
rise-acts command = record {
  rows = rise-rows command;
  purge = λ p rise purges. rise;
  attach = λ p term rise least greater. rise;
  join = λ p id mode rise above own. tag-rise p.state.sessions id.session id.tag rise;
  cancel = λ p id consumer rise found. rise;
  finish = λ p rise. rise;
  credit = λ p id consumer credit rise found. rise;
  turn = λ p id consumer rise found. rise;
  leave = λ p session rise is same none. end-rise p.state.sessions session rise;
}

carried-rise : (index : Index) (command : Command) (s : State) → SetsRise s.sessions
    → SetsRise (carry_out index command s).progress.state.sessions
carried-rise index command s rise =
    carry_out-keeps {I = λ p. SetsRise p.state.sessions} index command s (rise-acts command)
    (λ p row consumer rise found next. rise)
    (record {
      rows = rise-rows command;
      offer = λ p number reason row rise here is found may full. rise;
      drain = λ p id consumer rise found. rise;
    })
    (λ p stamp message rise is found. rise) rise

admit-rise : (s : Sessions) (given : Stamp) → SetsRise s → SetsRise (admit s given)
unfolding admit
admit-rise s given rise =
    let uses : Sessions = record s { opened = change_session given.session (use_number given) s.opened } in
    let new : Worker = record { owner = given.session.owner; number = given.session.number } in
    cond_both (is_dead_letter given.session) s _ SetsRise (λ _. rise)
    (λ _. cond_both (is_open given.session s.opened) uses (open_session s given) SetsRise
    (λ _. record { ended = rise.ended; workers = rise.workers })
    (λ _. record {
      ended = rise.ended;
      workers =
          cond_both (is_worker given.session) (put_worker new s.workers) s.workers (RisesBy owner)
          (λ _. rises-put owner new s.workers rise.workers) (λ _. rise.workers);
    }))

answer-rise : (s : Sessions) (given : Stamp) (answer : Answer) → SetsRise s → SetsRise (keep_answer given answer s)
unfolding keep_answer
answer-rise s given answer rise = record { ended = rise.ended; workers = rise.workers }

turn_away-rise : (s : Sessions) (given : Stamp) → SetsRise s → SetsRise (turn_away s given)
unfolding turn_away
turn_away-rise s given rise =
    cond_both (is_ended s given.session) s
    (record s { opened = change_session given.session (raise_mark given) s.opened }) SetsRise (λ _. rise)
    (λ _. record { ended = rise.ended; workers = rise.workers })

next-rise : (s : State) (entry : Entry) → SetsRise s.sessions → SetsRise (next_step s entry).state.sessions
unfolding step
next-rise s entry rise = by (stamp entry.command)
  where
    passes : (g : Gate) (given : Stamp)
        → SetsRise (go_through g (next_index s) given entry.command s).state.sessions
    passes Fresh given =
        answer-rise _ given _
        (carried-rise (next_index s) entry.command (record s { sessions = admit s.sessions given })
        (admit-rise s.sessions given rise))
    passes _ given = turn_away-rise s.sessions given rise

    by : (o : Option Stamp) → SetsRise (step_by o (next_index s) entry.command s).state.sessions
    by None = carried-rise (next_index s) entry.command s rise
    by (Some given) = passes (gate s.sessions given) given

pub after-rise : (s : State) (entries : List Entry) → SetsRise s.sessions
    → SetsRise (state_after s entries).sessions
after-rise s [] rise = rise
after-rise s (entry ∷ entries) rise = after-rise (next_step s entry).state entries (next-rise s entry rise)
