-- The commands that a queue carries out are the first ones that were handed out.
use Rattle.std.proofs.Common.{◌≡◌, ℕ, zero, suc, ◌+◌, Bool, true, false, cond, List, [], ◌∷◌, ◌++◌, length, take, Option, Some, None, refl, sym, ap, ◌∙◌, subst, arith}
use Rattle.std.specs.Prelude.{filter_map, slice_get, nat_lt, Contains}
use Rattle.std.specs.List.{cons_option}
use Rattle.std.proofs.lemmas.Bool.{cond_both}
use Rattle.std.proofs.lemmas.Option.{slice_get_read}
use Rattle.std.proofs.lemmas.List.Elements.{All-contains}
use Rattle.qq_base.specs.declared.ids.SessionId.{SessionId}
use Rattle.qq_base.specs.declared.ids.QueueId.{QueueId}
use Rattle.qq_base.specs.Ids.{same_session}
use Rattle.qq_entry.specs.declared.queue.QueueArgs.{QueueArgs}
use Rattle.qq_entry.specs.declared.command.Stamp.{Stamp}
use Rattle.qq_entry.specs.declared.command.Command.{Command}
use Rattle.qq_entry.specs.declared.command.Entry.{Entry}
use Rattle.qq_entry.specs.declared.audit.AuditRow.{AuditRow}
use Rattle.qq_entry.specs.Command.{stamp}
use Rattle.qq_model.specs.declared.TheConstants.{WINDOW}
use Rattle.qq_model.specs.State.{empty_queue}
use Rattle.qq_model.proofs.SessionLemmas.{same_session-true}
use Rattle.qq_laws.specs.Always.{queue_audit}
use Rattle.qq_laws.specs.Numbers.{CountsCommands, fresh_number, number_of}
use Rattle.qq_session.specs.Publishing.{Numbers, new_numbers, next_stamp, next_command, hand, closes, without}
use Rattle.qq_session.specs.Arriving.{Deed, Hands, Takes, handed, WasHanded, of_session, fresh_command, ArriveInOrder}
use Rattle.qq_session.proofs.AuditRows.{RowAt, row_at, PickedAt, picked_at, Contains-middle}
use Rattle.qq_session.proofs.NumberingLemmas.{stamped-stamp}

-- a command is the session's of this number
record IsOf (session : SessionId) (seq : ℕ) (command : Command) : Type 0 where
  by : Stamp
  is : stamp command ≡ Some by
  session_is : by.session ≡ session
  seq_is : by.seq ≡ seq

-- commands have their session's numbers, from one on
Count : SessionId → ℕ → List Command → Type 0
Count session next [] = Unit {0}
Count session next (command ∷ commands) = IsOf session next command × Count session (next + 1) commands

handed-count : (n : Numbers) (deeds : List Deed) → Count n.session n.next (handed n deeds)
unfolding Count
handed-count n [] = tt
handed-count n (Hands body ∷ deeds) = by (nat_lt (length n.opened) WINDOW) (λ (m : Numbers). handed-count m deeds)
  where
    by : (b : Bool) → ((m : Numbers) → Count m.session m.next (handed m deeds))
        → Count n.session n.next (cond b (next_command body n ∷ []) [] ++ handed (cond b (hand body n) n) deeds)
    by true rest = (
      record { by = next_stamp n; is = stamped-stamp (next_stamp n) body; session_is = refl; seq_is = refl },
      rest (hand body n),
    )
    by false rest = rest n
handed-count n (Takes seq given ∷ deeds) =
    let after : Numbers = record n { opened = without seq n.opened } in
    let first = handed-count after deeds in
    let second = handed-count n deeds in
    cond_both (closes given) after n (λ (m : Numbers). Count n.session n.next (handed m deeds)) (λ _. first)
    (λ _. second)

count-at : (session : SessionId) (next : ℕ) (commands : List Command) (k : ℕ) (command : Command)
    → Count session next commands → slice_get commands k ≡ Some command → IsOf session (next + k) command
unfolding Count
count-at session next [] k command counted found = absurd cc
count-at session next (first ∷ commands) zero command counted found =
    let same : first ≡ command = cc in
    let e : next ≡ next + zero = omega arith in
    subst (λ (n : ℕ). IsOf session n command) e (subst (IsOf session next) same counted.0)
count-at session next (first ∷ commands) (suc k) command counted found =
    let e : next + 1 + k ≡ next + suc k = omega arith in
    subst (λ (n : ℕ). IsOf session n command) e (count-at session (next + 1) commands k command counted.1 found)

same-number : (session : SessionId) (a b : ℕ) (command : Command) → IsOf session a command → IsOf session b command
    → a ≡ b
same-number session a b command first second =
    let e : Some first.by ≡ Some second.by = sym first.is ∙ second.is in
    let same : first.by ≡ second.by = cc in
    sym first.seq_is ∙ ap (λ (s : Stamp). s.seq) same ∙ second.seq_is

-- ---- the fresh rows of a session

-- a row gives a command and its number, or neither
Both : SessionId → Option Command → Option ℕ → Type 0
Both session None None = Unit {0}
Both session (Some command) (Some seq) = IsOf session seq command
Both session _ _ = ⊥

row-both : (session : SessionId) (row : AuditRow) → Both session (fresh_command session row) (fresh_number session row)
unfolding Both
row-both session row = by_fresh row.fresh
  where
    command : Command
    command = row.entry.command

    by_same : (given : Stamp) → stamp row.entry.command ≡ Some given → (b : Bool)
        → same_session given.session session ≡ b
        → Both session (cond b (Some row.entry.command) None) (cond b (Some given.seq) None)
    by_same given is true same = record {
      by = given;
      is = is;
      session_is = same_session-true given.session session same;
      seq_is = refl;
    }
    by_same given is false same = tt

    by_stamp : (o : Option Stamp) → stamp row.entry.command ≡ o
        → Both session (of_session session row.entry.command o) (number_of session o)
    by_stamp None is = tt
    by_stamp (Some given) is = by_same given is (same_session given.session session) refl

    by_fresh : (b : Bool) → Both session (cond b (of_session session row.entry.command (stamp row.entry.command)) None)
        (cond b (number_of session (stamp row.entry.command)) None)
    by_fresh true = by_stamp (stamp row.entry.command) refl
    by_fresh false = tt

-- the number beside a fresh command
record NumberAt (session : SessionId) (rows : List AuditRow) (k : ℕ) (command : Command) : Type 0 where
  seq : ℕ
  at : slice_get (filter_map (fresh_number session) rows) k ≡ Some seq
  has : IsOf session seq command

number_at : (session : SessionId) (rows : List AuditRow) (k : ℕ) (command : Command)
    → slice_get (filter_map (fresh_command session) rows) k ≡ Some command → NumberAt session rows k command
unfolding Both
number_at session [] k command found = absurd cc
number_at session (row ∷ rows) k command found =
    by (fresh_command session row) (fresh_number session row) (row-both session row) refl k found
    (λ j h. number_at session rows j command h)
  where
    by : (o : Option Command) (p : Option ℕ) → Both session o p → fresh_number session row ≡ p → (i : ℕ)
        → slice_get (cons_option o (filter_map (fresh_command session) rows)) i ≡ Some command
        → ((j : ℕ) → slice_get (filter_map (fresh_command session) rows) j ≡ Some command
        → NumberAt session rows j command)
        → NumberAt session (row ∷ rows) i command
    by None None both is i here rest =
        let later = rest i here in
        record {
          seq = later.seq;
          at = ap (λ (p : Option ℕ). slice_get (cons_option p (filter_map (fresh_number session) rows)) i) is ∙ later.at;
          has = later.has;
        }
    by (Some first) (Some n) both is zero here rest =
        let same : first ≡ command = cc in
        record {
          seq = n;
          at = ap (λ (p : Option ℕ). slice_get (cons_option p (filter_map (fresh_number session) rows)) zero) is;
          has = subst (IsOf session n) same both;
        }
    by (Some first) (Some n) both is (suc j) here rest =
        let later = rest j here in
        record {
          seq = later.seq;
          at = ap (λ (p : Option ℕ). slice_get (cons_option p (filter_map (fresh_number session) rows)) (suc j)) is
              ∙ later.at;
          has = later.has;
        }
    by _ _ both is i here rest = absurd both

of_session-is : (session : SessionId) (own command : Command) (o : Option Stamp)
    → of_session session own o ≡ Some command → own ≡ command
of_session-is session own command None found = absurd (let e : None ≡ Some command = found in cc)
of_session-is session own command (Some given) found =
    cond_both (same_session given.session session) (Some own) None
    (λ (o : Option Command). o ≡ Some command → own ≡ command) (λ _ e. cc) (λ _ e. cc) found

fresh_command-is : (session : SessionId) (row : AuditRow) (command : Command)
    → fresh_command session row ≡ Some command → row.entry.command ≡ command
fresh_command-is session row command found =
    cond_both row.fresh (of_session session row.entry.command (stamp row.entry.command)) None
    (λ (o : Option Command). o ≡ Some command → row.entry.command ≡ command)
    (λ _ e. of_session-is session row.entry.command command (stamp row.entry.command) e) (λ _ e. cc) found

-- ---- the fresh commands are a front

front : {A : Type 0} (xs ys : List A)
    → ((k : ℕ) (x : A) → slice_get xs k ≡ Some x → slice_get ys k ≡ Some x) → xs ≡ take (length xs) ys
front [] ys same = refl
front (x ∷ xs) [] same = absurd (let e : None ≡ Some x = same 0 x refl in cc)
front {A = A} (x ∷ xs) (y ∷ ys) same =
    let e : Some y ≡ Some x = same 0 x refl in
    let head : x ≡ y = cc in
    ap (λ (z : A). z ∷ xs) head ∙ ap (λ (l : List A). y ∷ l) (front xs ys (λ k z at. same (suc k) z at))

contains-at : {A : Type 0} (xs : List A) (x : A) → Contains xs x → (k : ℕ) × (slice_get xs k ≡ Some x)
contains-at xs x (k, lt, is) = (k, slice_get_read xs (length xs) k x refl lt (sym is))

pub arrive_in_order : ((args : QueueArgs) (entries : List Entry) → CountsCommands args entries)
    → (args : QueueArgs) (session : SessionId) (queue : QueueId) (deeds : List Deed) (entries : List Entry)
    → ArriveInOrder args session queue deeds entries
arrive_in_order counts args session queue deeds entries numbered each =
    (length fresh, front fresh commands at)
  where
    commands : List Command
    commands = handed (new_numbers session queue) deeds

    fresh : List Command
    fresh = filter_map (fresh_command session) (queue_audit args entries)

    at : (k : ℕ) (command : Command)
        → slice_get (filter_map (fresh_command session) (queue_audit args entries)) k ≡ Some command
        → slice_get (handed (new_numbers session queue) deeds) k ≡ Some command
    at k command found =
        let rows = queue_audit args entries in
        let number : NumberAt session rows k command = number_at session rows k command found in
        let seq_is : number.seq ≡ k + 1 = counts args entries session numbered k number.seq number.at in
        let picked : PickedAt (fresh_command session) rows command =
        picked_at (fresh_command session) rows k command found in
        let own : RowAt (empty_queue args) entries picked.before picked.one =
        row_at (empty_queue args) entries picked.before picked.after picked.one picked.are in
        let command_is : own.entry.command ≡ command =
        ap (λ (r : AuditRow). r.entry.command) (sym own.row_is)
        ∙ fresh_command-is session picked.one command picked.is in
        let within : Contains entries own.entry =
        subst (λ (l : List Entry). Contains l own.entry) (sym own.are)
        (Contains-middle own.earlier own.later own.entry) in
        let was : WasHanded session (handed (new_numbers session queue) deeds) own.entry =
        All-contains (WasHanded session (handed (new_numbers session queue) deeds)) entries own.entry each within in
        let has = number.has in
        let there = contains-at (handed (new_numbers session queue) deeds) own.entry.command
        (was has.by (ap stamp command_is ∙ has.is) has.session_is) in
        let found_at : slice_get (handed (new_numbers session queue) deeds) there.0 ≡ Some command =
        there.1 ∙ ap (λ (c : Command). Some c) command_is in
        let place = count-at session 1 (handed (new_numbers session queue) deeds) there.0 command
        (handed-count (new_numbers session queue) deeds) found_at in
        let same = same-number session number.seq (1 + there.0) command has place in
        let k_is : there.0 ≡ k = omega (arith, same, seq_is) in
        subst (λ (j : ℕ). slice_get (handed (new_numbers session queue) deeds) j ≡ Some command) k_is found_at
