-- The effects of entries of one term.
use Rattle.std.proofs.Common.{◌≡◌, cond, List, [], ◌∷◌, ◌++◌, refl, sym, ap, ◌∙◌, append_assoc}
use Rattle.std.specs.Prelude.{nat_eq, Contains}
use Rattle.std.specs.List.{AllByRecursion}
use Rattle.std.proofs.lemmas.Bool.{cond_both}
use Rattle.std.proofs.lemmas.List.Elements.{Contains-append_left, Contains-append_right}
use Rattle.qq_base.proofs.Lists.{AllByRecursion-append, AllByRecursion-weaker}
use Rattle.qq_base.specs.declared.ids.Term.{Term}
use Rattle.qq_entry.specs.declared.audit.AuditRow.{AuditRow}
use Rattle.qq_entry.specs.declared.audit.Effect.{Effect}
use Rattle.qq_entry.specs.declared.command.Entry.{Entry}
use Rattle.qq_model.specs.Audit.{next_step, state_after, effects_of, entries_of}
use Rattle.qq_model.specs.State.{State}
use Rattle.qq_session.specs.Shown.{effects_of_term}
use Rattle.qq_session.proofs.PrintedAnswers.{each-contained}

pub entries-append : (a b : List AuditRow) → entries_of (a ++ b) ≡ entries_of a ++ entries_of b
entries-append [] b = refl
entries-append (row ∷ a) b = ap (λ (l : List Entry). row.entry ∷ l) (entries-append a b)

pub effects-append : (s : State) (xs ys : List Entry)
    → effects_of s (xs ++ ys) ≡ effects_of s xs ++ effects_of (state_after s xs) ys
effects-append s [] ys = refl
effects-append s (x ∷ xs) ys =
    ap (λ (l : List Effect). (next_step s x).effects ++ l) (effects-append (next_step s x).state xs ys)
    ∙ sym (append_assoc (next_step s x).effects (effects_of (next_step s x).state xs)
    (effects_of (state_after (next_step s x).state xs) ys))

pub of-term : (term : Term) (s : State) (entries : List Entry)
    → AllByRecursion (Contains (effects_of s entries)) (effects_of_term term s entries)
of-term term s [] = tt
of-term term s (entry ∷ entries) =
    let here : List Effect = (next_step s entry).effects in
    let later : List Effect = effects_of (next_step s entry).state entries in
    let all : Effect → Type 0 = Contains (here ++ later) in
    AllByRecursion-append all (cond (nat_eq entry.term.0 term.0) here [])
    (effects_of_term term (next_step s entry).state entries)
    (cond_both (nat_eq entry.term.0 term.0) here [] (AllByRecursion all)
    (λ _. AllByRecursion-weaker (Contains here) all (λ x is. Contains-append_left here later x is) here
    (each-contained here)) (λ _. tt))
    (AllByRecursion-weaker (Contains later) all (λ x is. Contains-append_right here later x is)
    (effects_of_term term (next_step s entry).state entries) (of-term term (next_step s entry).state entries))
