-- Sessions number their commands, and each number is carried out once (Ongaro's dissertation, section 6.3).
use Rattle.std.specs.Prelude.{◌≡◌, ◌⊎◌, true, ℕ, ◌+◌, ◌-◌, min, max, length, List, [], ◌∷◌, ◌++◌, Option, Some, None, Bool, not, ◌&&◌, ◌||◌, nat_eq, nat_lt, nat_le, find, filter, map, drop, slice_get, if◌then◌else◌}
use Rattle.std.specs.List.{list_any}
use Rattle.qq_base.specs.declared.ids.SessionId.{SessionId}
use Rattle.qq_entry.specs.declared.command.Stamp.{Stamp}
use Rattle.qq_entry.specs.declared.answer.Answer.{Answer}
use Rattle.qq_entry.specs.declared.answer.Answer.TheVariants as answer
use Rattle.qq_model.specs.declared.TheConstants.{WINDOW, MOST_OPEN, MOST_SEEN}
use Rattle.qq_model.specs.declared.session.OpenSession.{OpenSession}
use Rattle.qq_model.specs.declared.session.Worker.{Worker}
use Rattle.qq_model.specs.declared.session.Gate.{Gate}
use Rattle.qq_model.specs.declared.session.Gate.TheVariants.{Fresh, Again, Gap, Forgotten, Ended, WindowFull, SessionsFull}
use Rattle.qq_model.specs.State.{Sessions}
use Rattle.qq_base.specs.Ids.{same_session}

-- the classes of sessions
abbrev pub is_client : SessionId → Bool
is_client session = nat_eq session.class 1

abbrev pub is_worker : SessionId → Bool
is_worker session = nat_eq session.class 2

abbrev pub is_dead_letter : SessionId → Bool
is_dead_letter session = nat_eq session.class 3

-- sessions of clients, and of workers that dead-letter at least once
abbrev pub IsNumbered : SessionId → Type 0
IsNumbered session = (is_client session ≡ true) ⊎ (is_worker session ≡ true)

-- the open session of an id
abbrev pub session_of : SessionId → List OpenSession → Option OpenSession
session_of session opened = find (λ (one : OpenSession). same_session one.session session) opened

abbrev pub is_open : SessionId → List OpenSession → Bool
is_open session opened = list_any (λ (one : OpenSession). same_session one.session session) opened

-- whether the worker of a session gave way to a later one of the same source queue, or has ended itself
abbrev pub has_given_way : Sessions → SessionId → Worker → Bool
has_given_way s session worker =
    let has_ended = nat_eq session.number worker.number && not (is_open session s.opened) in
    nat_eq worker.owner session.owner && (nat_lt session.number worker.number || has_ended)

-- whether a session has ended
abbrev pub is_ended : Sessions → SessionId → Bool
is_ended s session =
    (is_client session && list_any (λ (number : ℕ). nat_eq number session.number) s.ended)
    || (is_worker session && list_any (has_given_way s session) s.workers)

-- the low mark that a stamp brings: it only rises, and stays below the next number
abbrev pub next_mark : Stamp → OpenSession → ℕ
next_mark stamp one = max one.mark (min stamp.done (one.next - 1))

-- the kept answer of a number; it is there for each number above the mark and below the next
abbrev pub repeat_by : Option Answer → Gate
repeat_by None = Forgotten
repeat_by (Some answer) = Again answer

abbrev pub kept_answer : ℕ → OpenSession → Option Answer
kept_answer seq one = slice_get one.kept (seq - one.mark - 1)

-- the checks of an open session's number, in their order
abbrev pub gate_number : Stamp → OpenSession → Gate
gate_number stamp one =
    if nat_le stamp.seq (next_mark stamp one) then Forgotten
    else if nat_lt stamp.seq one.next then repeat_by (kept_answer stamp.seq one)
    else if nat_lt one.next stamp.seq then Gap one.next
    else if nat_eq (one.next - 1 - next_mark stamp one) WINDOW then WindowFull
    else Fresh

-- the checks of a session that isn't known, in their order
abbrev pub gate_unknown : Sessions → Stamp → Gate
gate_unknown s stamp =
    if not (nat_eq stamp.seq 1) then Gap 1
    else if nat_le MOST_OPEN (length s.opened) || nat_le MOST_SEEN s.seen then SessionsFull
    else Fresh

abbrev pub gate_by : Option OpenSession → Sessions → Stamp → Gate
gate_by None s stamp = gate_unknown s stamp
gate_by (Some one) s stamp = gate_number stamp one

-- what becomes of a stamped command; a dead letter that is sent at most once always passes
unfoldable pub gate : Sessions → Stamp → Gate
gate s stamp =
    if is_dead_letter stamp.session then Fresh
    else if is_ended s stamp.session then Ended
    else gate_by (session_of stamp.session s.opened) s stamp

-- what is answered to a command that isn't carried out
abbrev pub gate_answer : Gate → Answer → Answer
gate_answer Fresh carried_out = carried_out
gate_answer (Again before) carried_out = before
gate_answer (Gap next) carried_out = answer.Gap next
gate_answer Forgotten carried_out = answer.Forgotten
gate_answer Ended carried_out = answer.Ended
gate_answer WindowFull carried_out = answer.WindowFull
gate_answer SessionsFull carried_out = answer.SessionsFull

-- a stamp's low mark is taken over, and the answers up to it are forgotten
abbrev pub raise_mark : Stamp → OpenSession → OpenSession
raise_mark stamp one = record one
    { mark = next_mark stamp one; kept = drop (next_mark stamp one - one.mark) one.kept }

-- the open session of an id is changed by this
abbrev pub change_session : SessionId → (OpenSession → OpenSession) → List OpenSession → List OpenSession
change_session session change opened =
    map (λ (one : OpenSession). if same_session one.session session then change one else one) opened

-- the sessions after a command that isn't carried out
unfoldable pub turn_away : Sessions → Stamp → Sessions
turn_away s stamp =
    if is_ended s stamp.session then s
    else record s { opened = change_session stamp.session (raise_mark stamp) s.opened }

-- a number was used
abbrev pub use_number : Stamp → OpenSession → OpenSession
use_number stamp one = record (raise_mark stamp one) { next = one.next + 1 }

-- a session with its first number used
abbrev pub new_session : Stamp → OpenSession
new_session stamp = record { session = stamp.session; next = 2; mark = 0; kept = []; tag = 0 }

-- whether an open session is of an earlier worker of the same source queue
abbrev pub is_giving_way : SessionId → OpenSession → Bool
is_giving_way session one =
    is_worker session && is_worker one.session
    && nat_eq one.session.owner session.owner && nat_lt one.session.number session.number

-- the greatest numbers of workers, by rising owner, with this one in the place of its owner's
abbrev pub put_worker : Worker → List Worker → List Worker
put_worker new workers =
    filter (λ (worker : Worker). nat_lt worker.owner new.owner) workers
    ++ new ∷ filter (λ (worker : Worker). nat_lt new.owner worker.owner) workers

abbrev pub put_worker_by : SessionId → List Worker → List Worker
put_worker_by session workers =
    if is_worker session then put_worker (record { owner = session.owner; number = session.number }) workers
    else workers

-- a session is opened; that of a worker ends those of earlier workers of the same source queue
abbrev pub open_session : Sessions → Stamp → Sessions
open_session s stamp =
    record s {
      opened = filter (λ (one : OpenSession). not (is_giving_way stamp.session one)) s.opened ++ new_session stamp ∷
          [];
      workers = put_worker_by stamp.session s.workers;
      seen = s.seen + 1;
    }

-- the sessions once a command has passed the gate
unfoldable pub admit : Sessions → Stamp → Sessions
admit s stamp =
    if is_dead_letter stamp.session then s
    else if is_open stamp.session s.opened then
    record s { opened = change_session stamp.session (use_number stamp) s.opened }
    else open_session s stamp

-- an answer is kept, in the session of the stamp alone
abbrev pub add_answer : Answer → OpenSession → OpenSession
add_answer answer one = record one { kept = one.kept ++ answer ∷ [] }

unfoldable pub keep_answer : Stamp → Answer → Sessions → Sessions
keep_answer stamp answer s = record s { opened = change_session stamp.session (add_answer answer) s.opened }

-- the greatest tag of a session's consumers, 0 where it had none
abbrev pub tag_by : Option OpenSession → ℕ
tag_by None = 0
tag_by (Some one) = one.tag

abbrev pub greatest_tag : SessionId → Sessions → ℕ
greatest_tag session s = tag_by (session_of session s.opened)

abbrev pub set_tag : ℕ → OpenSession → OpenSession
set_tag tag one = record one { tag = tag }

unfoldable pub take_tag : SessionId → ℕ → Sessions → Sessions
take_tag session tag s = record s { opened = change_session session (set_tag tag) s.opened }

-- the numbers of ended clients, rising, with this one
abbrev pub put_ended : ℕ → List ℕ → List ℕ
put_ended new numbers =
    filter (λ (number : ℕ). nat_lt number new) numbers
    ++ new ∷ filter (λ (number : ℕ). nat_lt new number) numbers

abbrev pub remember_end : SessionId → List ℕ → List ℕ
remember_end session ended = if is_client session then put_ended session.number ended else ended

-- whether the end of a session that isn't open is remembered
abbrev pub is_end_remembered : Sessions → SessionId → Bool
is_end_remembered s session = is_client session && not (is_ended s session) && nat_lt s.seen MOST_SEEN

-- a session ends
unfoldable pub end_session : Sessions → SessionId → Sessions
end_session s session =
    if is_open session s.opened then
    record s {
      opened = filter (λ (one : OpenSession). not (same_session one.session session)) s.opened;
      ended = remember_end session s.ended;
    }
    else if is_end_remembered s session then record s { ended = put_ended session.number s.ended; seen = s.seen + 1 }
    else s
