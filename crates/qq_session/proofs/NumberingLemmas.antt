-- What holds of a client's numbers at each time.
use Rattle.std.proofs.Common.{◌≡◌, ℕ, suc, ◌+◌, ◌-◌, ◌<◌, ◌≤◌, Bool, true, false, not, ◌||◌, List, [], ◌∷◌, ◌++◌, length, drop, Some, refl, sym, ap, ◌∙◌, subst, inl, inr, arith}
use Rattle.std.specs.Prelude.{nat_eq}
use Rattle.std.specs.List.{AllByRecursion}
use Rattle.std.proofs.lemmas.Bool.{cases_eq, cond-true, cond-false, cond_both, eq-eqb, eqb-true, false≢true, ne_eqb, not_from_true, not_from_false, or_from, or_parts}
use Rattle.std.proofs.lemmas.List.{length-append}
use Rattle.qq_base.specs.declared.ids.SessionId.{SessionId}
use Rattle.qq_base.specs.declared.memory.TheConstants.{NUMBER_END}
use Rattle.qq_base.proofs.Lists.{AllByRecursion-append, AllByRecursion-filter, AllByRecursion-weaker}
use Rattle.qq_entry.specs.declared.command.Stamp.{Stamp}
use Rattle.qq_entry.specs.declared.command.Command.{Command}
use Rattle.qq_entry.specs.declared.command.Unstamped.{Unstamped}
use Rattle.qq_entry.specs.declared.command.Unstamped.TheVariants as bodies
use Rattle.qq_entry.specs.Command.{stamp}
use Rattle.qq_model.specs.declared.TheConstants.{WINDOW}
use Rattle.qq_session.specs.Publishing.{OpenCommand, Numbers, mark_before, low_mark, next_stamp, next_command, stamped, is_first, is_open_in, without}
use Rattle.qq_session.specs.Numbering.{HasNumber, IsOpenBelow, Rise, IsNumbering, IsLowMark}

-- ---- one number in the list

nat_eq-sym : (a b : ℕ) → nat_eq a b ≡ nat_eq b a
nat_eq-sym a b = elim (cases_eq a b) [
  | inl same ↦ eq-eqb a b same ∙ sym (eq-eqb b a (sym same))
  | inr other ↦ ne_eqb a b other ∙ sym (ne_eqb b a (λ same. other (sym same)))
]

-- what rises above a number isn't that number
above-kept : (seq : ℕ) (open' : List OpenCommand) → AllByRecursion (λ (other : OpenCommand). seq < other.0) open'
    → without seq open' ≡ open'
above-kept seq [] above = refl
above-kept seq (one ∷ more) above =
    cond-true (not (nat_eq one.0 seq)) (one ∷ without seq more) (without seq more)
    (not_from_false (nat_eq one.0 seq) (ne_eqb one.0 seq (λ same. omega (arith, same, above.0))))
    ∙ ap (λ (l : List OpenCommand). one ∷ l) (above-kept seq more above.1)

-- to close the first open number is to take it out
pub dropped-without : (seq : ℕ) (open' : List OpenCommand) → Rise open' → is_first seq open' ≡ true
    → drop 1 open' ≡ without seq open'
dropped-without seq [] rise first = absurd (false≢true first)
dropped-without seq (one ∷ more) rise first =
    let same : one.0 ≡ seq = eqb-true one.0 seq first in
    sym (above-kept seq more (AllByRecursion-weaker (λ (o : OpenCommand). one.0 < o.0)
    (λ (o : OpenCommand). seq < o.0) (λ o lt. omega (arith, same, lt)) more rise.0))
    ∙ sym (cond-false (not (nat_eq one.0 seq)) (one ∷ without seq more) (without seq more)
    (not_from_true (nat_eq one.0 seq) first))

-- a number that isn't open leaves the list as it is
pub absent-without : (seq : ℕ) (open' : List OpenCommand) → is_open_in seq open' ≡ false → without seq open' ≡ open'
absent-without seq [] none' = refl
absent-without seq (one ∷ more) none' =
    let both = or_parts (nat_eq one.0 seq) (is_open_in seq more) none' in
    cond-true (not (nat_eq one.0 seq)) (one ∷ without seq more) (without seq more)
    (not_from_false (nat_eq one.0 seq) both.0)
    ∙ ap (λ (l : List OpenCommand). one ∷ l) (absent-without seq more both.1)

-- the first open number is open
pub first-open : (seq : ℕ) (open' : List OpenCommand) → (is_first seq open' || is_open_in seq open')
    ≡ is_open_in seq open'
first-open seq [] = refl
first-open seq (one ∷ more) = by (nat_eq one.0 seq)
  where
    by : (b : Bool) → (b || (b || is_open_in seq more)) ≡ (b || is_open_in seq more)
    by true = refl
    by false = refl

rise-push : (session : SessionId) (next : ℕ) (command : Command) (open' : List OpenCommand)
    → AllByRecursion (IsOpenBelow session next) open' → Rise open' → Rise (open' ++ (next, command) ∷ [])
rise-push session next command [] below rise = (tt, tt)
rise-push session next command (one ∷ more) below rise = (
  AllByRecursion-append (λ (o : OpenCommand). one.0 < o.0) more ((next, command) ∷ []) rise.0
      (below.0.below, tt),
  rise-push session next command more below.1 rise.1,
)

rise-without : (seq : ℕ) (open' : List OpenCommand) → Rise open' → Rise (without seq open')
rise-without seq [] rise = tt
rise-without seq (one ∷ more) rise =
    let rest = rise-without seq more rise.1 in
    cond_both (not (nat_eq one.0 seq)) (one ∷ without seq more) (without seq more) Rise
    (λ _. (
      AllByRecursion-filter (λ (o : OpenCommand). one.0 < o.0)
          (λ (o : OpenCommand). not (nat_eq o.0 seq)) more rise.0,
      rest,
    )) (λ _. rest)

length-without : (seq : ℕ) (open' : List OpenCommand) → length (without seq open') ≤ length open'
length-without seq [] = omega arith
length-without seq (one ∷ more) =
    let rest = length-without seq more in
    cond_both (not (nat_eq one.0 seq)) (one ∷ without seq more) (without seq more)
    (λ (l : List OpenCommand). length l ≤ suc (length more)) (λ _. omega (arith, rest)) (λ _. omega (arith, rest))

later-below : (session : SessionId) (next : ℕ) (one : OpenCommand) → IsOpenBelow session next one
    → IsOpenBelow session (next + 1) one
later-below session next one is = record {
  positive = is.positive;
  below = let lt = is.below in omega (arith, lt);
  has = is.has;
}

-- ---- the low mark

below-open : (session : SessionId) (next : ℕ) (first : OpenCommand) (more : List OpenCommand) (seq : ℕ)
    → AllByRecursion (λ (o : OpenCommand). first.0 < o.0) more → seq < first.0 → is_open_in seq more ≡ false
below-open session next first [] seq above lt = refl
below-open session next first (one ∷ more) seq above lt =
    or_from (nat_eq one.0 seq) (is_open_in seq more)
    (ne_eqb one.0 seq (λ same. omega (arith, same, above.0, lt)))
    (below-open session next first more seq above.1 lt)

pub mark-below : (n : Numbers) → IsNumbering n → low_mark n < n.next
mark-below n is = by n.opened is.open_below
  where
    by : (open' : List OpenCommand) → AllByRecursion (IsOpenBelow n.session n.next) open' → mark_before n.next open' < n.next
    by [] below = let positive = is.positive in omega (arith, positive)
    by (first ∷ more) below = let lt = below.0.below in omega (arith, lt)

pub mark-is_low : (n : Numbers) → IsNumbering n → IsLowMark (low_mark n) n
mark-is_low n is = by n.opened is.open_below is.rise (mark-below n is)
  where
    by : (open' : List OpenCommand) → AllByRecursion (IsOpenBelow n.session n.next) open' → Rise open'
        → mark_before n.next open' < n.next → IsLowMark (mark_before n.next open') (record n { opened = open' })
    by [] below rise lt = record {
      below = lt;
      answered = λ seq le. refl;
      ends = inl (let positive = is.positive in omega (arith, positive));
    }
    by (first ∷ more) below rise lt =
        let positive = below.0.positive in
        let up : first.0 - 1 + 1 ≡ first.0 = omega (arith, positive) in
        record {
          below = lt;
          answered = λ seq le. or_from (nat_eq first.0 seq) (is_open_in seq more)
              (ne_eqb first.0 seq (λ same. omega (arith, same, le, positive)))
              (below-open n.session n.next first more seq rise.0 (omega (arith, le, positive)));
          ends = inr (ap (λ (b : Bool). b || is_open_in (first.0 - 1 + 1) more)
              (eq-eqb first.0 (first.0 - 1 + 1) (sym up)));
        }

-- ---- what a call makes of them

pub stamped-stamp : (by : Stamp) (body : Unstamped) → stamp (stamped by body) ≡ Some by
stamped-stamp by (bodies.Enqueue origin message) = refl
stamped-stamp by bodies.Get = refl
stamped-stamp by (bodies.Subscribe tag mode) = refl
stamped-stamp by (bodies.Cancel tag) = refl
stamped-stamp by (bodies.Credit tag count credit drain) = refl
stamped-stamp by (bodies.Settle tag ids) = refl
stamped-stamp by (bodies.Return tag ids) = refl
stamped-stamp by (bodies.Discard tag ids) = refl
stamped-stamp by bodies.Purge = refl

pub next-number : (n : Numbers) (body : Unstamped) → IsNumbering n → HasNumber n.session n.next (next_command body n)
next-number n body is = record {
  by = next_stamp n;
  is = stamped-stamp (next_stamp n) body;
  session_is = refl;
  seq_is = refl;
  done_below = mark-below n is;
}

pub numbering-new : (session : SessionId) (n : Numbers) → n.next ≡ 1 → n.opened ≡ [] → IsNumbering n
numbering-new session n first none = record {
  positive = omega (arith, first);
  within = omega (arith, first);
  few = let e = ap (λ (l : List OpenCommand). length l) none in omega (arith, e);
  rise = subst Rise (sym none) tt;
  open_below = subst (AllByRecursion (IsOpenBelow n.session n.next)) (sym none) tt;
}

pub numbering-handed : (n : Numbers) (command : Command) → IsNumbering n → n.next < NUMBER_END
    → length n.opened < WINDOW → HasNumber n.session n.next command
    → IsNumbering (record n { next = n.next + 1; opened = n.opened ++ (n.next, command) ∷ [] })
numbering-handed n command is lt few has = record {
  positive = omega arith;
  within = omega (arith, lt);
  few = omega (arith, few, length-append n.opened ((n.next, command) ∷ []));
  rise = rise-push n.session n.next command n.opened is.open_below is.rise;
  open_below = AllByRecursion-append (IsOpenBelow n.session (n.next + 1)) n.opened ((n.next, command) ∷ [])
      (AllByRecursion-weaker (IsOpenBelow n.session n.next) (IsOpenBelow n.session (n.next + 1))
      (later-below n.session n.next) n.opened is.open_below) (
        record { positive = is.positive; below = omega arith; has = has },
        tt,
      );
}

pub numbering-without : (n : Numbers) (seq : ℕ) → IsNumbering n → IsNumbering (record n { opened = without seq n.opened })
numbering-without n seq is = record {
  positive = is.positive;
  within = is.within;
  few = let le = length-without seq n.opened in let few = is.few in omega (arith, le, few);
  rise = rise-without seq n.opened is.rise;
  open_below = AllByRecursion-filter (IsOpenBelow n.session n.next) (λ (o : OpenCommand). not (nat_eq o.0 seq)) n.opened
      is.open_below;
}
