-- An open session has used no more numbers than entries were applied.
use Rattle.std.proofs.Common.{if◌then◌else◌, ◌≡◌, ℕ, ◌+◌, ◌≤◌, not, List, [], ◌∷◌, Option, Some, None, refl, sym, subst, arith}
use Rattle.std.specs.List.{AllByRecursion}
use Rattle.std.proofs.lemmas.Bool.{cond_both}
use Rattle.qq_base.specs.Ids.{same_session}
use Rattle.qq_base.specs.declared.ids.Index.{Index}
use Rattle.qq_base.specs.declared.ids.SessionId.{SessionId}
use Rattle.qq_base.proofs.Lists.{AllByRecursion-append, AllByRecursion-filter, AllByRecursion-map, AllByRecursion-weaker}
use Rattle.qq_entry.specs.Command.{stamp}
use Rattle.qq_entry.specs.declared.answer.Answer.{Answer}
use Rattle.qq_entry.specs.declared.command.Command.{Command}
use Rattle.qq_entry.specs.declared.command.Entry.{Entry}
use Rattle.qq_entry.specs.declared.command.Stamp.{Stamp}
use Rattle.qq_model.specs.declared.session.Gate.{Gate}
use Rattle.qq_model.specs.declared.session.Gate.TheVariants.{Fresh}
use Rattle.qq_model.specs.declared.session.OpenSession.{OpenSession}
use Rattle.qq_model.specs.Audit.{next_index, next_step, state_after}
use Rattle.qq_model.specs.Gate.{add_answer, admit, change_session, end_session, gate, is_dead_letter, is_end_remembered, is_ended, is_giving_way, is_open, keep_answer, new_session, open_session, put_ended, raise_mark, set_tag, take_tag, turn_away, use_number}
use Rattle.qq_model.specs.State.{Sessions, State}
use Rattle.qq_model.specs.Step.{carry_out, go_through, step_by, step}
use Rattle.qq_model.proofs.CarryOut.{carry_out-keeps}
use Rattle.qq_model.proofs.SingleChanges.{Acts, KeepsRows, Serves}

abbrev pub HasUsed : ℕ → OpenSession → Type 0
HasUsed entries one = one.next ≤ entries + 1

abbrev pub HaveUsed : ℕ → Sessions → Type 0
HaveUsed entries x = AllByRecursion (HasUsed entries) x.opened

-- the sessions of an id are changed
changed : (few many : ℕ) (x : Sessions) (session : SessionId) (f : OpenSession → OpenSession) → few ≤ many
    → ((one : OpenSession) → HasUsed few one → HasUsed many (f one)) → HaveUsed few x
    → HaveUsed many (record x { opened = change_session session f x.opened })
changed few many x session f le change each =
    AllByRecursion-map (HasUsed few) (HasUsed many)
    (λ (one : OpenSession). if same_session one.session session then f one else one) x.opened
    (λ one it. cond_both (same_session one.session session) (f one) one (HasUsed many) (λ _. change one it)
    (λ _. omega (arith, le, it))) each

used-more : (few many : ℕ) (x : Sessions) → few ≤ many → HaveUsed few x → HaveUsed many x
used-more few many x le each =
    AllByRecursion-weaker (HasUsed few) (HasUsed many) (λ one it. omega (arith, le, it)) x.opened each

turned_away : (entries : ℕ) (x : Sessions) (given : Stamp) → HaveUsed entries x → HaveUsed entries (turn_away x given)
unfolding turn_away
turned_away entries x given each =
    cond_both (is_ended x given.session) x _ (HaveUsed entries) (λ _. each)
    (λ _. changed entries entries x given.session (raise_mark given) (omega arith) (λ one it. it) each)

answered : (entries : ℕ) (x : Sessions) (given : Stamp) (answer : Answer) → HaveUsed entries x
    → HaveUsed entries (keep_answer given answer x)
unfolding keep_answer
answered entries x given answer each =
    changed entries entries x given.session (add_answer answer) (omega arith) (λ one it. it) each

tagged : (entries : ℕ) (x : Sessions) (session : SessionId) (tag : ℕ) → HaveUsed entries x
    → HaveUsed entries (take_tag session tag x)
unfolding take_tag
tagged entries x session tag each =
    changed entries entries x session (set_tag tag) (omega arith) (λ one it. it) each

admitted : (entries : ℕ) (x : Sessions) (given : Stamp) → HaveUsed entries x → HaveUsed (entries + 1) (admit x given)
unfolding admit
admitted entries x given each =
    cond_both (is_dead_letter given.session) x _ (HaveUsed (entries + 1))
    (λ _. used-more entries (entries + 1) x (omega arith) each) (λ plain.
    cond_both (is_open given.session x.opened) _ (open_session x given) (HaveUsed (entries + 1))
    (λ _. changed entries (entries + 1) x given.session (use_number given) (omega arith)
    (λ one it. omega (arith, it)) each)
    (λ shut.
    AllByRecursion-append (HasUsed (entries + 1)) _ (new_session given ∷ [])
    (AllByRecursion-filter (HasUsed (entries + 1)) (λ (one : OpenSession). not (is_giving_way given.session one))
    x.opened (used-more entries (entries + 1) x (omega arith) each)) (omega arith, tt)))

ended : (entries : ℕ) (x : Sessions) (session : SessionId) → HaveUsed entries x
    → HaveUsed entries (end_session x session)
unfolding end_session
ended entries x session each =
    cond_both (is_open session x.opened) _ _ (HaveUsed entries)
    (λ _. AllByRecursion-filter (HasUsed entries) (λ (one : OpenSession). not (same_session one.session session))
    x.opened each)
    (λ _. cond_both (is_end_remembered x session)
    (record x { ended = put_ended session.number x.ended; seen = x.seen + 1 }) x (HaveUsed entries) (λ _. each)
    (λ _. each))

Used-rows : (entries : ℕ) (command : Command) → KeepsRows command (λ p. HaveUsed entries p.state.sessions)
Used-rows entries command = record {
  row = λ p q old new each here moves out why turns. subst (HaveUsed entries) (sym turns.sessions) each;
}

Used-acts : (entries : ℕ) (command : Command) → Acts command (λ p. HaveUsed entries p.state.sessions)
Used-acts entries command = record {
  rows = Used-rows entries command;
  purge = λ p each purges. each;
  attach = λ p term each least greater. each;
  join = λ p id mode each above own. tagged entries p.state.sessions id.session id.tag each;
  cancel = λ p id consumer each found. each;
  finish = λ p each. each;
  credit = λ p id consumer credit each found. each;
  turn = λ p id consumer each found. each;
  leave = λ p session each is same none. ended entries p.state.sessions session each;
}

Used-serves : (entries : ℕ) (command : Command) → Serves command (λ p. HaveUsed entries p.state.sessions)
Used-serves entries command = record {
  rows = Used-rows entries command;
  offer = λ p number cause row each here is next may full. each;
  drain = λ p id consumer each found. each;
}

carried : (entries : ℕ) (index : Index) (command : Command) (s : State) → HaveUsed entries s.sessions
    → HaveUsed entries (carry_out index command s).progress.state.sessions
carried entries index command s each =
    carry_out-keeps {I = λ p. HaveUsed entries p.state.sessions} index command s (Used-acts entries command)
    (λ p row consumer each' found next. each') (Used-serves entries command)
    (λ p given message each' is found. each') each

next-used : (s : State) (entry : Entry) → HaveUsed s.applied s.sessions
    → HaveUsed (s.applied + 1) (next_step s entry).state.sessions
unfolding step
next-used s entry each = by (stamp entry.command)
  where
    more : HaveUsed (s.applied + 1) s.sessions
    more = used-more s.applied (s.applied + 1) s.sessions (omega arith) each

    passes : (g : Gate) (given : Stamp)
        → HaveUsed (s.applied + 1) (go_through g (next_index s) given entry.command s).state.sessions
    passes Fresh given =
        answered (s.applied + 1) _ given _
        (carried (s.applied + 1) (next_index s) entry.command (record s { sessions = admit s.sessions given })
        (admitted s.applied s.sessions given each))
    passes _ given = turned_away (s.applied + 1) s.sessions given more

    by : (o : Option Stamp) → HaveUsed (s.applied + 1) (step_by o (next_index s) entry.command s).state.sessions
    by None = carried (s.applied + 1) (next_index s) entry.command s more
    by (Some given) = passes (gate s.sessions given) given

-- each entry counts
pub next-applied : (s : State) (entry : Entry) → (next_step s entry).state.applied ≡ s.applied + 1
unfolding step
next-applied s entry = by (stamp entry.command)
  where
    passes : (g : Gate) (given : Stamp)
        → (go_through g (next_index s) given entry.command s).state.applied ≡ s.applied + 1
    passes Fresh given = refl
    passes _ given = refl

    by : (o : Option Stamp) → (step_by o (next_index s) entry.command s).state.applied ≡ s.applied + 1
    by None = refl
    by (Some given) = passes (gate s.sessions given) given

pub used_after : (s : State) (entries : List Entry) → HaveUsed s.applied s.sessions
    → HaveUsed (state_after s entries).applied (state_after s entries).sessions
used_after s [] each = each
used_after s (entry ∷ entries) each =
    let next : State = (next_step s entry).state in
    used_after next entries
    (subst (λ (n : ℕ). HaveUsed n next.sessions) (sym (next-applied s entry)) (next-used s entry each))
