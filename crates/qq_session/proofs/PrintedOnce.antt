-- The answer that closes a number is printed once.
use Rattle.std.proofs.Common.{◌≡◌, ◌≢◌, ◌<◌, ◌+◌, ℕ, Bool, true, false, cond, not, ◌&&◌, ◌||◌, List, [], ◌∷◌, ◌++◌, Option, Some, None, map, refl, sym, ap, ◌∙◌, subst, inl, inr, arith}
use Rattle.std.specs.Prelude.{filter_map, nat_eq, nat_lt, length, AllPairs}
use Rattle.std.specs.List.{AllByRecursion, cons_option}
use Rattle.std.proofs.lemmas.Bool.{false≢true, cond_both, cond-true, and_parts, eqb-true, ne_eqb, or_cases}
use Rattle.std.proofs.lemmas.List.Elements.{All-from_recursion}
use Rattle.std.proofs.lemmas.List.Folds.{list_any-append}
use Rattle.std.proofs.lemmas.List.Kept.{AllPairs-cons}
use Rattle.qq_base.proofs.Lists.{AllByRecursion-append, AllByRecursion-filter, AllByRecursion-weaker, list_any-filter}
use Rattle.qq_entry.specs.declared.answer.Answer.{Answer}
use Rattle.qq_entry.specs.declared.audit.AuditRow.{AuditRow}
use Rattle.qq_entry.specs.Command.{seq_of, stamp}
use Rattle.qq_entry.specs.declared.command.Command.{Command}
use Rattle.qq_entry.specs.declared.command.Command.TheVariants as commands
use Rattle.qq_entry.specs.declared.command.Unstamped.{Unstamped}
use Rattle.qq_model.specs.declared.TheConstants.{WINDOW}
use Rattle.qq_session.specs.Arriving.{Deed, Hands, Takes, after_deed}
use Rattle.qq_session.specs.Publishing.{OpenCommand, Numbers, next_command, hand, is_open, is_open_in, closes, answer, without}
use Rattle.qq_session.specs.Deeds.{is_sent_by, takes_of, after_deeds}
use Rattle.qq_session.specs.Printed.{closed_number}
use Rattle.qq_session.specs.Clients.{Clients, sender, sender_by, ended_by, tells_end, hear, hear_all, is_printed_by, is_printed, printed}
use Rattle.qq_session.specs.declared.shown.Shown.{Shown}
use Rattle.qq_session.specs.declared.shown.Shown.TheVariants.{Answered}
use Rattle.qq_session.specs.Shown.{said_of}
use Rattle.qq_session.proofs.Heard.{heard, heard-numbers}

-- a number was given and is closed
abbrev pub IsClosed : ℕ → Numbers → Type 0
IsClosed seq n = (is_open seq n ≡ false) × (seq < n.next)

-- each open number was given
abbrev pub OpenBelow : Numbers → Type 0
OpenBelow n = AllByRecursion (λ (one : OpenCommand). one.0 < n.next) n.opened

not-true : (b : Bool) → not b ≡ true → b ≡ false
not-true true is = absurd (false≢true is)
not-true false is = refl

without-closed : (seq : ℕ) (opened : List OpenCommand) → is_open_in seq (without seq opened) ≡ false
without-closed seq [] = refl
without-closed seq (one ∷ more) =
    let rest = without-closed seq more in
    cond_both (not (nat_eq one.0 seq)) (one ∷ without seq more) (without seq more)
    (λ (l : List OpenCommand). is_open_in seq l ≡ false)
    (λ other. ap (λ (b : Bool). b || is_open_in seq (without seq more)) (not-true (nat_eq one.0 seq) other) ∙ rest)
    (λ _. rest)

closed-answer : (seq own : ℕ) (given : Answer) (n : Numbers) → IsClosed seq n → IsClosed seq (answer own given n)
closed-answer seq own given n is =
    cond_both (closes given) (record n { opened = without own n.opened }) n (IsClosed seq)
    (λ _. (
      list_any-filter (λ (one : OpenCommand). nat_eq one.0 seq)
          (λ (one : OpenCommand). not (nat_eq one.0 own)) n.opened is.0,
      is.1,
    )) (λ _. is)

answer-closes : (seq : ℕ) (given : Answer) (n : Numbers) → closes given ≡ true → seq < n.next
    → IsClosed seq (answer seq given n)
answer-closes seq given n closing lt =
    subst (IsClosed seq) (sym (cond-true (closes given) (record n { opened = without seq n.opened }) n closing))
    (without-closed seq n.opened, lt)

closed-hand : (seq : ℕ) (body : Unstamped) (n : Numbers) → IsClosed seq n → IsClosed seq (hand body n)
closed-hand seq body n is =
    let test : OpenCommand → Bool = λ (one : OpenCommand). nat_eq one.0 seq in (
      list_any-append test n.opened ((n.next, next_command body n) ∷ [])
          ∙ ap (λ (b : Bool). b || (nat_eq n.next seq || false)) is.0
          ∙ ap (λ (b : Bool). b || false) (ne_eqb n.next seq (λ same. omega (arith, same, is.1))),
      omega (arith, is.1),
    )

closed-deed : (seq : ℕ) (deed : Deed) (n : Numbers) → IsClosed seq n → IsClosed seq (after_deed deed n)
closed-deed seq (Hands body) n is =
    cond_both (nat_lt (length n.opened) WINDOW) (hand body n) n (IsClosed seq) (λ _. closed-hand seq body n is)
    (λ _. is)
closed-deed seq (Takes own given) n is = closed-answer seq own given n is

pub closed-deeds : (seq : ℕ) (deeds : List Deed) (n : Numbers) → IsClosed seq n → IsClosed seq (after_deeds deeds n)
closed-deeds seq [] n is = is
closed-deeds seq (deed ∷ more) n is = closed-deeds seq more (after_deed deed n) (closed-deed seq deed n is)

below-deed : (deed : Deed) (n : Numbers) → OpenBelow n → OpenBelow (after_deed deed n)
below-deed (Hands body) n below =
    cond_both (nat_lt (length n.opened) WINDOW) (hand body n) n OpenBelow
    (λ _. AllByRecursion-append (λ (one : OpenCommand). one.0 < n.next + 1) n.opened
    ((n.next, next_command body n) ∷ [])
    (AllByRecursion-weaker (λ (one : OpenCommand). one.0 < n.next) (λ (one : OpenCommand). one.0 < n.next + 1)
    (λ one lt. omega (arith, lt)) n.opened below) (omega arith, tt)) (λ _. below)
below-deed (Takes own given) n below =
    cond_both (closes given) (record n { opened = without own n.opened }) n OpenBelow
    (λ _. AllByRecursion-filter (λ (one : OpenCommand). one.0 < n.next)
    (λ (one : OpenCommand). not (nat_eq one.0 own)) n.opened below) (λ _. below)

pub below-deeds : (deeds : List Deed) (n : Numbers) → OpenBelow n → OpenBelow (after_deeds deeds n)
below-deeds [] n below = below
below-deeds (deed ∷ more) n below = below-deeds more (after_deed deed n) (below-deed deed n below)

open-below : (seq next : ℕ) (opened : List OpenCommand) → AllByRecursion (λ (one : OpenCommand). one.0 < next) opened
    → is_open_in seq opened ≡ true → seq < next
open-below seq next [] below is = absurd (false≢true is)
open-below seq next (one ∷ more) below is =
    by (nat_eq one.0 seq) refl is (λ later. open-below seq next more below.1 later)
  where
    by : (b : Bool) → nat_eq one.0 seq ≡ b → (b || is_open_in seq more) ≡ true
        → (is_open_in seq more ≡ true → seq < next) → seq < next
    by true same is rest = omega (arith, eqb-true one.0 seq same, below.0)
    by false other is rest = rest is

abbrev pub closing : ℕ → AuditRow → Bool
closing session row = is_sent_by session (sender row) && closes row.answer

abbrev pub numbers_in : ℕ → List Shown → List ℕ
numbers_in session shown = filter_map (closed_number session) shown

abbrev pub printed_numbers : ℕ → List AuditRow → Clients → List ℕ
printed_numbers session rows clients = numbers_in session (map Answered (printed rows clients))

-- a row adds its number, or none
row-numbers : (session : ℕ) (row : AuditRow) (rows : List AuditRow) (clients : Clients) (P : List ℕ → Type 0)
    → (is_printed clients row ≡ true → closing session row ≡ true
    → P (seq_of row.entry.command ∷ printed_numbers session rows (hear row clients)))
    → P (printed_numbers session rows (hear row clients)) → P (printed_numbers session (row ∷ rows) clients)
row-numbers session row rows clients P one rest = by (is_printed clients row) refl
  where
    by : (b : Bool) → is_printed clients row ≡ b
        → P (numbers_in session (map Answered (cond b (row ∷ []) [] ++ printed rows (hear row clients))))
    by true is =
        cond_both (closing session row) (Some (seq_of row.entry.command)) None
        (λ (o : Option ℕ). P (cons_option o (printed_numbers session rows (hear row clients)))) (λ closes. one is closes)
        (λ _. rest)
    by false is = rest

-- whose answer is printed hears it, and its number is open
pub record Shows (session : ℕ) (row : AuditRow) (clients : Clients) : Type 0 where
  hears : (clients session).muted ≡ false
  opened : is_open (seq_of row.entry.command) (clients session).numbers ≡ true

shows : (session : ℕ) (row : AuditRow) (clients : Clients) (o : Option ℕ) → is_sent_by session o ≡ true
    → is_printed_by o clients row ≡ true → Shows session row clients
shows session row clients None sent is = absurd (false≢true sent)
shows session row clients (Some own) sent is =
    subst (λ (i : ℕ). Shows i row clients) (eqb-true own session sent)
    (let parts = and_parts (not (clients own).muted) (is_open (seq_of row.entry.command) (clients own).numbers) is in
    record { hears = not-true (clients own).muted parts.0; opened = parts.1 })

-- a row that ends a session has no number
none-sent : (command : Command) (session : ℕ) (clients : Clients) → tells_end (ended_by command) clients ≡ true
    → is_sent_by session (sender_by (stamp command)) ≡ true → ⊥
none-sent (commands.Down id) session clients tells sent = false≢true sent
none-sent _ session clients tells sent = false≢true tells

shows-row : (session : ℕ) (row : AuditRow) (clients : Clients) → is_sent_by session (sender row) ≡ true
    → is_printed clients row ≡ true → Shows session row clients
shows-row session row clients sent is =
    elim (or_cases (is_printed_by (sender row) clients row) (tells_end (ended_by row.entry.command) clients) is) [
      | inl first ↦ shows session row clients (sender row) sent first
      | inr second ↦ absurd (none-sent row.entry.command session clients second sent)
    ]

closed-hear : (seq session : ℕ) (row : AuditRow) (clients : Clients) → IsClosed seq (clients session).numbers
    → IsClosed seq (hear row clients session).numbers
closed-hear seq session row clients is = by (clients session).muted refl
  where
    by : (b : Bool) → (clients session).muted ≡ b → IsClosed seq (hear row clients session).numbers
    by true muted = subst (IsClosed seq) (sym ((heard row clients session).lost muted)) is
    by false hears =
        subst (IsClosed seq) (sym ((heard row clients session).taken hears))
        (cond_both (is_sent_by session (sender row))
        (answer (seq_of row.entry.command) row.answer (clients session).numbers) (clients session).numbers
        (IsClosed seq) (λ _. closed-answer seq (seq_of row.entry.command) row.answer (clients session).numbers is)
        (λ _. is))

-- a number whose answer is printed is closed by it
printed-closes : (session : ℕ) (row : AuditRow) (clients : Clients) → OpenBelow (clients session).numbers
    → is_printed clients row ≡ true → closing session row ≡ true
    → IsClosed (seq_of row.entry.command) (hear row clients session).numbers
printed-closes session row clients below is closes' =
    let seq : ℕ = seq_of row.entry.command in
    let n : Numbers = (clients session).numbers in
    let parts = and_parts (is_sent_by session (sender row)) (closes row.answer) closes' in
    let to : Shows session row clients = shows-row session row clients parts.0 is in
    let taken : (hear row clients session).numbers ≡ answer seq row.answer n =
    (heard row clients session).taken to.hears
    ∙ cond-true (is_sent_by session (sender row)) (answer seq row.answer n) n parts.0 in
    subst (IsClosed seq) (sym taken)
    (answer-closes seq row.answer n parts.1 (open-below seq n.next n.opened below to.opened))

below-hear : (session : ℕ) (row : AuditRow) (clients : Clients) → OpenBelow (clients session).numbers
    → OpenBelow (hear row clients session).numbers
below-hear session row clients below =
    subst OpenBelow (sym (heard-numbers (row ∷ []) clients session))
    (below-deeds (takes_of session clients (row ∷ [])) (clients session).numbers below)

pub never-printed : (seq session : ℕ) (rows : List AuditRow) (clients : Clients)
    → IsClosed seq (clients session).numbers
    → AllByRecursion (λ (m : ℕ). m ≢ seq) (printed_numbers session rows clients)
never-printed seq session [] clients is = tt
never-printed seq session (row ∷ rows) clients is =
    let rest = never-printed seq session rows (hear row clients) (closed-hear seq session row clients is) in
    row-numbers session row rows clients (AllByRecursion (λ (m : ℕ). m ≢ seq))
    (λ shown closes'. (
      (λ same. (let parts = and_parts (is_sent_by session (sender row)) (closes row.answer) closes' in
          let to : Shows session row clients = shows-row session row clients parts.0 shown in
          false≢true (sym is.0 ∙ (ap (λ (k : ℕ). is_open k (clients session).numbers) (sym same) ∙ to.opened)))),
      rest,
    )) rest

closed-all : (seq session : ℕ) (rows : List AuditRow) (clients : Clients) → IsClosed seq (clients session).numbers
    → IsClosed seq (hear_all rows clients session).numbers
closed-all seq session rows clients is =
    subst (IsClosed seq) (sym (heard-numbers rows clients session))
    (closed-deeds seq (takes_of session clients rows) (clients session).numbers is)

pub printed-closed : (session : ℕ) (rows : List AuditRow) (clients : Clients) → OpenBelow (clients session).numbers
    → AllByRecursion (λ (m : ℕ). IsClosed m (hear_all rows clients session).numbers)
    (printed_numbers session rows clients)
printed-closed session [] clients below = tt
printed-closed session (row ∷ rows) clients below =
    let rest = printed-closed session rows (hear row clients) (below-hear session row clients below) in
    row-numbers session row rows clients
    (AllByRecursion (λ (m : ℕ). IsClosed m (hear_all rows (hear row clients) session).numbers))
    (λ shown closes'. (
      closed-all (seq_of row.entry.command) session rows (hear row clients)
          (printed-closes session row clients below shown closes'),
      rest,
    )) rest

-- no number stands twice
abbrev pub Distinct : List ℕ → Type 0
Distinct [] = Unit {0}
Distinct (n ∷ ns) = AllByRecursion (λ (m : ℕ). m ≢ n) ns × Distinct ns

pub pairs-distinct : (ns : List ℕ) → Distinct ns → AllPairs (λ (m n : ℕ). m ≢ n) ns
pairs-distinct [] apart = λ i j d before within. absurd (omega (arith, within))
pairs-distinct (n ∷ ns) apart =
    AllPairs-cons (λ (m n : ℕ). m ≢ n) n ns
    (All-from_recursion (λ (m : ℕ). n ≢ m) ns
    (AllByRecursion-weaker (λ (m : ℕ). m ≢ n) (λ (m : ℕ). n ≢ m) (λ m other same. other (sym same)) ns apart.0))
    (pairs-distinct ns apart.1)

pub printed-distinct : (session : ℕ) (rows : List AuditRow) (clients : Clients) → OpenBelow (clients session).numbers
    → Distinct (printed_numbers session rows clients)
printed-distinct session [] clients below = tt
printed-distinct session (row ∷ rows) clients below =
    let rest = printed-distinct session rows (hear row clients) (below-hear session row clients below) in
    row-numbers session row rows clients Distinct
    (λ shown closes'. (
      never-printed (seq_of row.entry.command) session rows (hear row clients)
          (printed-closes session row clients below shown closes'),
      rest,
    )) rest

pub offered-none : (session own : ℕ) (ready : Bool) (commands : List Command)
    → numbers_in session (said_of ready own commands) ≡ []
offered-none session own true commands = refl
offered-none session own false [] = refl
offered-none session own false (command ∷ commands) = offered-none session own false commands

pub distinct-append : (xs ys : List ℕ) → Distinct xs → Distinct ys
    → AllByRecursion (λ (x : ℕ). AllByRecursion (λ (m : ℕ). m ≢ x) ys) xs → Distinct (xs ++ ys)
distinct-append [] ys first second apart = second
distinct-append (x ∷ xs) ys first second apart = (
  AllByRecursion-append (λ (m : ℕ). m ≢ x) xs ys first.0 apart.0,
  distinct-append xs ys first.1 second apart.1,
)
