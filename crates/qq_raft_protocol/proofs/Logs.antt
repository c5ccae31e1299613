-- Logs: one entry more, where an entry stands, and the terms of entries.
use Rattle.std.proofs.Common.{◌≡◌, ◌⊎◌, ℕ, ◌+◌, ◌≤◌, List, [], ◌∷◌, ◌++◌, length, refl, sym, ap, subst, ◌∙◌, arith, inl, inr}
use Rattle.std.proofs.lemmas.Bool.{cases_lt}
use Rattle.std.proofs.lemmas.List.{length-append}
use Rattle.qq_base.specs.Fronts.{IsFront}
use Rattle.qq_base.proofs.Fronts.{same_head, same_tail, longer_front, front-trans, front-whole, front-shorter}
use Rattle.qq_entry.specs.declared.command.Entry.{Entry}
use Rattle.qq_raft_protocol.specs.Facts.{add, In, Within}
use Rattle.qq_raft_protocol.specs.Moves.{last_term}
use Rattle.qq_raft_protocol.proofs.Lists.{In-front}

pub length-add : (a : List Entry) (e : Entry) → length (add a e) ≡ length a + 1
length-add a e = omega (arith, length-append a (e ∷ []))

pub front-add : (a : List Entry) (e : Entry) → IsFront a (add a e)
front-add a e = record { rest = e ∷ []; is = refl }

pub front-before : (a log : List Entry) (e : Entry) → IsFront (add a e) log → IsFront a log
front-before a log e p = front-trans (front-add a e) p

not_nil : (b : List Entry) (f : Entry) → [] ≡ b ++ f ∷ [] → ⊥
not_nil b f e = omega (arith, ap length e, length-append b (f ∷ []))

pub add-same : (a b : List Entry) (e f : Entry) → add a e ≡ add b f → (a ≡ b) × (e ≡ f)
add-same [] [] e f is = (refl, same_head e f [] [] is)
add-same [] (y ∷ b) e f is = absurd (not_nil b f (same_tail e y [] (b ++ f ∷ []) is))
add-same (x ∷ a) [] e f is = absurd (not_nil a e (sym (same_tail x f (a ++ e ∷ []) [] is)))
add-same (x ∷ a) (y ∷ b) e f is =
    let rest = add-same a b e f (same_tail x y (a ++ e ∷ []) (b ++ f ∷ []) is) in
    (ap (λ t. x ∷ t) rest.0 ∙ ap (λ t. t ∷ b) (same_head x y (a ++ e ∷ []) (b ++ f ∷ []) is), rest.1)

by_length : (n m k : ℕ) → k ≡ m + 1 → (n ≤ m) ⊎ (k ≤ n)
by_length n m k e = elim (cases_lt m n) [ inl lt ↦ inr (omega arith) | inr le ↦ inl le ]

-- a front of a list with one entry more is one of the list, or all of it
pub front-of_add : (x log : List Entry) (e : Entry) → IsFront x (add log e) → IsFront x log ⊎ (x ≡ add log e)
front-of_add x log e p =
    elim (by_length (length x) (length log) (length (add log e)) (length-add log e)) [
      | inl short ↦ inl (front-shorter p (front-add log e) short)
      | inr long ↦ inr (front-whole p long)
    ]

-- ---- where an entry stands

pub In-add : (a : List Entry) (e : Entry) → In e (add a e)
In-add [] e = inl refl
In-add (x ∷ a) e = inr (In-add a e)

pub In-add_cases : (x : Entry) (a : List Entry) (e : Entry) → In x (add a e) → In x a ⊎ (x ≡ e)
In-add_cases x [] e (inl same) = inr same
In-add_cases x [] e (inr later) = absurd later
In-add_cases x (y ∷ a) e (inl same) = inl (inl same)
In-add_cases x (y ∷ a) e (inr later) =
    elim (In-add_cases x a e later) [ inl here ↦ inl (inr here) | inr same ↦ inr same ]

-- where an entry stands
pub record Place (e : Entry) (log : List Entry) : Type 0 where
  pub before : List Entry
  pub front : IsFront (add before e) log

pub In-place : (e : Entry) (log : List Entry) → In e log → Place e log
In-place e [] here = absurd here
In-place e (y ∷ log) (inl same) =
    record { before = []; front = record { rest = log; is = ap (λ t. t ∷ log) (sym same) } }
In-place e (y ∷ log) (inr later) =
    let p = In-place e log later in
    record { before = y ∷ p.before; front = longer_front y y refl p.front }

-- the last entry
pub record Last (log : List Entry) : Type 0 where
  pub before : List Entry
  pub entry : Entry
  pub is : log ≡ add before entry

pub last_of : (log : List Entry) → (log ≡ []) ⊎ Last log
last_of [] = inl refl
last_of (x ∷ log) =
    elim (last_of log) [
      | inl nothing ↦ inr (record { before = []; entry = x; is = ap (λ t. x ∷ t) nothing })
      | inr l ↦ inr (record { before = x ∷ l.before; entry = l.entry; is = ap (λ t. x ∷ t) l.is })
    ]

pub last_term-add : (a : List Entry) (e : Entry) → last_term (add a e) ≡ e.term.0
last_term-add [] e = refl
last_term-add (x ∷ []) e = refl
last_term-add (x ∷ y ∷ a) e = last_term-add (y ∷ a) e

pub Within-front : {t : ℕ} {a b : List Entry} → IsFront a b → Within t b → Within t a
Within-front p within = λ e here. within e (In-front e p here)

pub Within-later : {t u : ℕ} (a : List Entry) → t ≤ u → Within t a → Within u a
Within-later a le within = λ e here. let one = within e here in omega arith

pub Within-add : {t : ℕ} (a : List Entry) (e : Entry) → Within t a → e.term.0 ≤ t → Within t (add a e)
Within-add {t = t} a e within le =
    λ x here. elim (In-add_cases x a e here) [
      | inl before ↦ within x before
      | inr same ↦ subst (λ (y : Entry). y.term.0 ≤ t) (sym same) le
    ]
