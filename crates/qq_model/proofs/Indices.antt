-- The indices of rows rise, so that no two rows have one.
use Rattle.std.proofs.Common.{◌≡◌, ℕ, ◌+◌, ◌<◌, List, [], ◌∷◌, map, sym, ap, ◌∙◌, inl, inr, arith, ◌++◌, subst, length}
use Rattle.std.specs.List.{AllByRecursion}
use Rattle.qq_model.specs.declared.place.Row.{Row}
use Rattle.qq_base.proofs.Lists.{In, AllByRecursion-in, In-map, AllByRecursion-append}

-- numbers that rise
abbrev pub Rises : List ℕ → Type 0
Rises [] = Unit {0}
Rises (n ∷ ns) = AllByRecursion (λ m. n < m) ns × Rises ns

-- numbers that count on from n
abbrev pub Counts : ℕ → List ℕ → Type 0
Counts n [] = Unit {0}
Counts n (m ∷ ms) = (m ≡ n + 1) × Counts (n + 1) ms

abbrev pub indices : List Row → List ℕ
indices rows = map (λ (row : Row). row.index.0) rows

abbrev pub arrivals_of : List Row → List ℕ
arrivals_of rows = map (λ (row : Row). row.arrival) rows

-- of rising rows two with one index are the same
pub unique : (a b : Row) (rows : List Row) → Rises (indices rows) → In a rows → In b rows → a.index.0 ≡ b.index.0
    → a ≡ b
unique a b [] rising ina inb same = absurd ina
unique a b (row ∷ rows) rising (inl ea) (inl eb) same = ea ∙ sym eb
unique a b (row ∷ rows) rising (inl ea) (inr inb) same =
    let above : row.index.0 < b.index.0 =
    AllByRecursion-in (λ m. row.index.0 < m) b.index.0 (indices rows) rising.0
    (In-map (λ (one : Row). one.index.0) b rows inb) in
    let is : a.index.0 ≡ row.index.0 = ap (λ (one : Row). one.index.0) ea in
    absurd (omega arith)
unique a b (row ∷ rows) rising (inr ina) (inl eb) same =
    let above : row.index.0 < a.index.0 =
    AllByRecursion-in (λ m. row.index.0 < m) a.index.0 (indices rows) rising.0
    (In-map (λ (one : Row). one.index.0) a rows ina) in
    let is : b.index.0 ≡ row.index.0 = ap (λ (one : Row). one.index.0) eb in
    absurd (omega arith)
unique a b (row ∷ rows) rising (inr ina) (inr inb) same = unique a b rows rising.1 ina inb same

pub rises-push : (ns : List ℕ) (n : ℕ) → Rises ns → AllByRecursion (λ m. m < n) ns → Rises (ns ++ n ∷ [])
rises-push [] n rising below = (tt, tt)
rises-push (m ∷ ms) n rising below =
    (AllByRecursion-append (λ k. m < k) ms (n ∷ []) rising.0 (below.0, tt), rises-push ms n rising.1 below.1)

pub counts-push : (k : ℕ) (ns : List ℕ) → Counts k ns → Counts k (ns ++ (k + length ns + 1) ∷ [])
counts-push k [] counted = (omega arith, tt)
counts-push k (m ∷ ms) counted =
    let last : (k + 1) + length ms + 1 ≡ k + length (m ∷ ms) + 1 = omega arith in
    (counted.0, subst (λ n. Counts (k + 1) (ms ++ n ∷ [])) last (counts-push (k + 1) ms counted.1))
