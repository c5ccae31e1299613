-- Between entries nothing is ready, or nobody may be served: each step keeps it.
use Rattle.std.proofs.Common.{◌≡◌, ◌+◌, List, [], ◌∷◌, ◌++◌, Option, Some, None, refl, sym, ap, ◌∙◌, subst, inl, inr}
use Rattle.std.specs.List.{AllByRecursion}
use Rattle.qq_base.specs.declared.ids.Index.{Index}
use Rattle.qq_entry.specs.declared.queue.QueueArgs.{QueueArgs}
use Rattle.qq_entry.specs.declared.command.Stamp.{Stamp}
use Rattle.qq_entry.specs.declared.command.Command.{Command}
use Rattle.qq_entry.specs.declared.command.Entry.{Entry}
use Rattle.qq_entry.specs.Command.{stamp}
use Rattle.qq_entry.specs.Range.{IsCommand, IsInRange}
use Rattle.qq_model.specs.declared.session.Gate.{Gate}
use Rattle.qq_model.specs.declared.session.Gate.TheVariants.{Fresh, Again, Gap, Forgotten, Ended, WindowFull, SessionsFull}
use Rattle.qq_model.specs.State.{State, empty_queue}
use Rattle.qq_model.specs.Gate.{gate, admit}
use Rattle.qq_model.specs.Changes.{Progress}
use Rattle.qq_model.specs.Commands.{Acted, act}
use Rattle.qq_model.specs.Serving.{check_out_all}
use Rattle.qq_model.specs.Step.{map_progress}
use Rattle.qq_model.specs.Sound.{IsSound}
use Rattle.qq_model.specs.Audit.{next_index, next_step, state_after}
use Rattle.qq_model.proofs.Soundness.{is_sound}
use Rattle.qq_parts.specs.Parts.{Parts, Stands, IsWhole}
use Rattle.qq_parts.specs.Changes.{Taken, take_first, Holds}
use Rattle.qq_parts.specs.Work.{Work, Answered, AnswersFor}
use Rattle.qq_parts.specs.Follows.{next_one, IsServed, parts_check_out_all, parts_keep_limits}
use Rattle.qq_parts.specs.Commands.{IsBehind, HasFreeId, parts_act, parts_drain_after}
use Rattle.qq_parts.specs.Step.{map_work, parts_carry_out, with_sessions, parts_go_through, parts_step_by, parts_step, parts_next_index, parts_next_step, new_parts, parts_after}
use Rattle.qq_parts.proofs.Following.{checks_out}
use Rattle.qq_parts.proofs.Commanding.{acts}
use Rattle.qq_parts.proofs.Joining.{has-free_id, unstamped-free}
use Rattle.qq_parts.proofs.Stepping.{phase, admits, is_behind, steps, new-holds, after-one, Runs, runs-from}
use Rattle.qq_parts.proofs.Quiet.{delivered-served, rest-served, drained-served, limited-served, given-served}

carry-served : (index : Index) (command : Command) (m : Parts) (s : State) → Holds m s → IsBehind index s
    → HasFreeId command m → IsServed (parts_carry_out index command m).work.parts
unfolding parts_carry_out
carry-served index command m s it behind free =
    let t : Work = record { parts = m; effects = [] } in
    let p : Progress = record { state = s; effects = [] } in
    let a : Answered = parts_act index command t in
    let b : Acted = act index command p in
    let acted : AnswersFor a b =
    acts index command t p (record { stands = it.stands; whole = it.whole; effects = refl }) behind free in
    let delivered : AnswersFor (map_work parts_check_out_all a) (map_progress check_out_all b) =
    phase parts_check_out_all check_out_all checks_out a b acted in
    let drained : Answered = parts_drain_after command (map_work parts_check_out_all a) in
    given-served (parts_keep_limits drained.work)
    (limited-served drained.work
    (drained-served command (map_work parts_check_out_all a) (map_progress check_out_all b) delivered
    (delivered-served a.work b.progress acted.work)))

through-served : (g : Gate) (index : Index) (by : Stamp) (command : Command) (m : Parts) (s : State) → Holds m s
    → IsBehind index s → (g ≡ Fresh → HasFreeId command (with_sessions (admit m.rest.sessions by) m)) → IsServed m
    → IsServed (parts_go_through g index by command m).parts
through-served Fresh index by command m s it behind free served =
    let n : Parts = with_sessions (admit m.rest.sessions by) m in
    rest-served (parts_carry_out index command n).work.parts _ refl refl refl refl
    (carry-served index command n (record s { sessions = admit s.sessions by }) (admits by m s it) behind (free refl))
through-served (Again before) index by command m s it behind free served = rest-served m _ refl refl refl refl served
through-served (Gap next) index by command m s it behind free served = rest-served m _ refl refl refl refl served
through-served Forgotten index by command m s it behind free served = rest-served m _ refl refl refl refl served
through-served Ended index by command m s it behind free served = rest-served m _ refl refl refl refl served
through-served WindowFull index by command m s it behind free served = rest-served m _ refl refl refl refl served
through-served SessionsFull index by command m s it behind free served = rest-served m _ refl refl refl refl served

step-served : (o : Option Stamp) (index : Index) (command : Command) (m : Parts) (s : State) → stamp command ≡ o
    → Holds m s → IsBehind index s → IsCommand command → IsSound s → IsServed m
    → IsServed (parts_step_by o index command m).parts
step-served None index command m s is it behind range sound served =
    rest-served (parts_carry_out index command m).work.parts _ refl refl refl refl
    (carry-served index command m s it behind (unstamped-free command m is))
step-served (Some by) index command m s is it behind range sound served =
    subst (λ (g : Gate). IsServed (parts_go_through g index by command m).parts)
    (ap (λ (t : State). gate t.sessions by) it.stands.rest)
    (through-served (gate s.sessions by) index by command m s it behind
    (λ fresh. has-free_id command by m s is range sound it.stands fresh) served)

pub next-served : (m : Parts) (s : State) (entry : Entry) → IsSound s → Stands m s → IsWhole m → IsInRange entry
    → IsServed m → IsServed (parts_next_step m entry).parts
unfolding parts_step
next-served m s entry sound stands whole range served =
    let same : next_index s ≡ parts_next_index m =
    ap (λ (t : State). let index : Index = record { 0 = t.applied + 1 } in index) stands.rest in
    subst (λ (index : Index). IsServed (parts_step m index entry).parts) same
    (step-served (stamp entry.command) (next_index s) entry.command m s refl
    (record { stands = stands; whole = whole }) (is_behind s sound) range.command sound served)

served-from : (args : QueueArgs) (before entries : List Entry) (m : Parts) (s : State)
    → state_after (empty_queue args) before ≡ s → Holds m s → AllByRecursion IsInRange entries → IsServed m
    → IsServed (parts_after m entries)
served-from args before [] m s at it range served = served
served-from args before (entry ∷ entries) m s at it range served =
    let sound : IsSound s = subst IsSound at (is_sound args before) in
    let made = steps m s entry sound it.stands it.whole range.0 in
    served-from args (before ++ entry ∷ []) entries (parts_next_step m entry).parts (next_step s entry).state
    (after-one (empty_queue args) before entry ∙ ap (λ (t : State). (next_step t entry).state) at) made.holds range.1
    (next-served m s entry sound it.stands it.whole range.0 served)

pub runs : (args : QueueArgs) (entries : List Entry) → AllByRecursion IsInRange entries
    → Runs (new_parts args) (empty_queue args) entries
runs args entries range = runs-from args [] entries (new_parts args) (empty_queue args) refl (new-holds args) range

-- what is ready has nobody to go to
waits-by : (m : Parts) (taken : Taken) → IsServed m → take_first m ≡ Some taken
    → next_one m.rest.args.single_active m.served ≡ None
waits-by m taken (inl none) first = let clash : Some taken ≡ None = sym first ∙ none in absurd cc
waits-by m taken (inr nobody) first = nobody

pub all-served : (args : QueueArgs) (entries : List Entry) (taken : Taken) → AllByRecursion IsInRange entries
    → take_first (parts_after (new_parts args) entries) ≡ Some taken
    → next_one (parts_after (new_parts args) entries).rest.args.single_active
    (parts_after (new_parts args) entries).served ≡ None
all-served args entries taken range first =
    waits-by (parts_after (new_parts args) entries) taken
    (served-from args [] entries (new_parts args) (empty_queue args) refl (new-holds args) range (inl refl)) first
