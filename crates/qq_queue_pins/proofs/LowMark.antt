-- A client's numbers, and its low mark.
use Rattle.std.proofs.Common.{◌≡◌, ◌⊎◌, ℕ, ◌+◌, ◌<◌, true, Some, inl, inr, sym, ap, subst, ◌∙◌, arith}
use Rattle.std.specs.Prelude.{Contains}
use Rattle.std.proofs.lemmas.Bool.{cases_lt, false≢true}
use Rattle.qq_base.proofs.Lists.{AllByRecursion-in}
use Rattle.qq_entry.specs.declared.command.Command.{Command}
use Rattle.qq_entry.specs.declared.command.Stamp.{Stamp}
use Rattle.qq_entry.specs.Command.{stamp}
use Rattle.qq_model.proofs.Soundness.{in_contains}
use Rattle.qq_session.specs.Numbering.{HasNumber, IsOpenBelow, IsLowMark, IsNumbering}
use Rattle.qq_session.specs.Publishing.{Numbers, is_open}

-- the number behind the lesser of two marks would be open, and is answered
below-none : (n : Numbers) (mark other : ℕ) → IsLowMark mark n → IsLowMark other n → mark < other → ⊥
below-none n mark other first second less = by first.ends
  where
    by : (mark + 1 ≡ n.next) ⊎ (is_open (mark + 1) n ≡ true) → ⊥
    by (inl end) = absurd (omega (arith, less, end, second.below))
    by (inr open') = false≢true (sym (second.answered (mark + 1) (omega (arith, less))) ∙ open')

pub one_mark : (n : Numbers) (mark other : ℕ) → IsLowMark mark n → IsLowMark other n → mark ≡ other
one_mark n mark other first second = elim (cases_lt mark other) [
  | inl less ↦ absurd (below-none n mark other first second less)
  | inr le ↦ elim (cases_lt other mark) [
    | inl less ↦ absurd (below-none n other mark second first less)
    | inr ge ↦ omega (arith, le, ge)
  ]
]

open-below : (n : Numbers) (seq : ℕ) (command : Command) → IsNumbering n → Contains n.opened (seq, command)
    → IsOpenBelow n.session n.next (seq, command)
open-below n seq command numbering there =
    AllByRecursion-in (IsOpenBelow n.session n.next) (seq, command) n.opened numbering.open_below
    (in_contains n.opened (seq, command) there)

pub open_drawn : (n : Numbers) (seq : ℕ) (command : Command) → IsNumbering n → Contains n.opened (seq, command)
    → (0 < seq) × (seq < n.next)
open_drawn n seq command numbering there =
    let so = open-below n seq command numbering there in (so.positive, so.below)

pub open_stamp : (n : Numbers) (seq : ℕ) (command : Command) (by : Stamp) → IsNumbering n
    → Contains n.opened (seq, command) → stamp command ≡ Some by
    → (by.session ≡ n.session) × (by.seq ≡ seq) × (by.done < seq)
open_stamp n seq command by numbering there is =
    let has : HasNumber n.session seq command = (open-below n seq command numbering there).has in
    let some : Some by ≡ Some has.by = sym is ∙ has.is in
    let same : by ≡ has.by = cc in (
      ap (λ (it : Stamp). it.session) same ∙ has.session_is,
      ap (λ (it : Stamp). it.seq) same ∙ has.seq_is,
      subst (λ (it : Stamp). it.done < seq) (sym same) has.done_below,
    )
