-- Bytes that are put one behind the other keep what stood before them.
use Rattle.std.proofs.Common.{◌≡◌, ℕ, ◌+◌, ◌-◌, List, [], ◌++◌, length, take, drop, sym, ap, ◌∙◌, append_assoc, arith}
use Rattle.std.proofs.lemmas.List.{append-nil, length-append, take_at, drop_at}
use Rattle.qq_base.specs.Fronts.{IsFront as IsPrefix}
use Rattle.qq_fields.specs.Writing.{u32}

pub is_prefix_same : (old new : List ℕ) → new ≡ old → IsPrefix old new
is_prefix_same old new e = record { rest = []; is = e ∙ sym (append-nil old) }

pub is_prefix_appended : (old a new : List ℕ) → new ≡ old ++ a → IsPrefix old new
is_prefix_appended old a new e = record { rest = a; is = e }

pub is_prefix_after : (old a mid new : List ℕ) → mid ≡ old ++ a → IsPrefix mid new → IsPrefix old new
is_prefix_after old a mid new e p =
    record { rest = a ++ p.rest; is = p.is ∙ ap (λ (t : List ℕ). t ++ p.rest) e ∙ append_assoc old a p.rest }

pub ruleset prefix_rules = (is_prefix_same, is_prefix_appended, is_prefix_after)

pub append_twice : (old a b first second : List ℕ) → first ≡ old ++ a → second ≡ first ++ b → second ≡ old ++ (a ++ b)
append_twice old a b first second e1 e2 = e2 ∙ ap (λ (t : List ℕ). t ++ b) e1 ∙ append_assoc old a b

pub length_between : (old more new : List ℕ) → new ≡ old ++ more → length new - length old ≡ length more
length_between old more new e = omega (arith, ap length e, length-append old more)

-- a length that is written before what it counts, once that stands there
pub set_before : (old inner first second new : List ℕ) (place n m : ℕ) → first ≡ old ++ u32 0 → second ≡ first ++ inner
    → place ≡ length old → n ≡ m
    → new ≡ take place second ++ (u32 n ++ drop (place + 4) second) → new ≡ old ++ (u32 m ++ inner)
set_before old inner first second new place n m e1 e2 at count e =
    let all : second ≡ (old ++ u32 0) ++ inner = e2 ∙ ap (λ (t : List ℕ). t ++ inner) e1 in
    let prefix : take place second ≡ old = ap (take place) (all ∙ append_assoc old (u32 0) inner)
    ∙ take_at old (u32 0 ++ inner) place (sym at) in
    let past : length (old ++ u32 0) ≡ place + 4 = omega (arith, length-append old (u32 0)) in
    let back : drop (place + 4) second ≡ inner = ap (drop (place + 4)) all
    ∙ drop_at (old ++ u32 0) inner (place + 4) past in
    e ∙ ap (λ (t : List ℕ). t ++ (u32 n ++ drop (place + 4) second)) prefix
    ∙ ap (λ (t : List ℕ). old ++ (u32 n ++ t)) back ∙ ap (λ (k : ℕ). old ++ (u32 k ++ inner)) count
