-- Numbers that are drawn once, as rows change.
use Rattle.std.proofs.Common.{◌≡◌, ℕ, ◌+◌, ◌<◌, ◌≤◌, ◌⊎◌, List, [], ◌∷◌, ◌++◌, Option, Some, None, map, refl, sym, ap, ◌∙◌, inl, inr, arith}
use Rattle.std.specs.Prelude.{nat_eq}
use Rattle.std.proofs.lemmas.Bool.{cases_Bool, cond-true, cond-false, eq-eqb, false≢true}
use Rattle.std.proofs.lemmas.Option.{none-some}
use Rattle.qq_model.specs.declared.place.Place.{Place}
use Rattle.qq_model.specs.declared.place.Row.{Row}
use Rattle.qq_model.specs.Changes.{put_row}
use Rattle.qq_model.specs.Sound.{IsDrawnOnce}
use Rattle.qq_base.proofs.Lists.{In, In-append_cases}
use Rattle.qq_model.proofs.Lists.{In-from_contains}
use Rattle.qq_model.proofs.Indices.{Rises, indices, unique}

-- what stands among the rows, once that of an index is another
pub In-put_row : (x new : Row) (rows : List Row) → In x (put_row new rows)
    → (x ≡ new) ⊎ (In x rows × (x.index.0 ≡ new.index.0 → ⊥))
In-put_row x new [] here = absurd here
In-put_row x new (row ∷ rows) (inl same) = elim (cases_Bool (nat_eq row.index.0 new.index.0)) [
  | inl is ↦ inl (same ∙ cond-true (nat_eq row.index.0 new.index.0) new row is)
  | inr other ↦
      let itself : x ≡ row = same ∙ cond-false (nat_eq row.index.0 new.index.0) new row other in
      inr (
        inl itself,
        λ e. false≢true (sym other ∙ eq-eqb row.index.0 new.index.0 (ap (λ (r : Row). r.index.0) (sym itself) ∙ e)),
      )
]
In-put_row x new (row ∷ rows) (inr later) = elim (In-put_row x new rows later) [
  | inl same ↦ inl same
  | inr old ↦ inr (inr old.0, old.1)
]

-- what is put stands there, where there was one of its index
pub In-put_new : (new old : Row) (rows : List Row) → In old rows → new.index.0 ≡ old.index.0
    → In new (put_row new rows)
In-put_new new old [] here same = here
In-put_new new old (row ∷ rows) (inl is) same =
    inl (sym (cond-true (nat_eq row.index.0 new.index.0) new row
    (eq-eqb row.index.0 new.index.0 (ap (λ (r : Row). r.index.0) (sym is) ∙ sym same))))
In-put_new new old (row ∷ rows) (inr later) same = inr (In-put_new new old rows later same)

pub In-mapped : {A B : Type 0} (f : A → B) (y : B) (xs : List A) → In y (map f xs) → (x : A) × In x xs × (y ≡ f x)
In-mapped f y [] here = absurd here
In-mapped f y (x ∷ xs) (inl same) = (x, inl refl, same)
In-mapped f y (x ∷ xs) (inr later) = let rest = In-mapped f y xs later in (rest.0, inr rest.1, rest.2)

-- no two rows of one number have two indices, and each number was drawn
pub record Drawn (number : Place → Option ℕ) (last : ℕ) (rows : List Row) : Type 0 where
  pub once : (a b : Row) (n : ℕ) → In a rows → In b rows → number a.place ≡ Some n → number b.place ≡ Some n
      → a.index.0 ≡ b.index.0
  pub drawn : (row : Row) (n : ℕ) → In row rows → number row.place ≡ Some n → (0 < n) × (n ≤ last)

pub Drawn-none : (number : Place → Option ℕ) (last : ℕ) → Drawn number last []
Drawn-none number last = record { once = λ a b n ina inb ea eb. absurd ina; drawn = λ row n here e. absurd here }

-- rows of which each was there, or has the number that is drawn now
Drawn-more : (number : Place → Option ℕ) (last last' : ℕ) (old rows : List Row) (new : Row) → Drawn number last old
    → last ≤ last' → ((n : ℕ) → number new.place ≡ Some n → (n ≡ last + 1) × (n ≤ last'))
    → ((x : Row) → In x rows → (x ≡ new) ⊎ In x old) → Drawn number last' rows
Drawn-more number last last' old rows new was rises fresh from = record { once = once; drawn = drawn }
  where
    itself : (x : Row) (n : ℕ) → x ≡ new → number x.place ≡ Some n → (n ≡ last + 1) × (n ≤ last')
    itself x n same e = fresh n (ap (λ (r : Row). number r.place) (sym same) ∙ e)

    drawn : (row : Row) (n : ℕ) → In row rows → number row.place ≡ Some n → (0 < n) × (n ≤ last')
    drawn row n here e = elim (from row here) [
      | inl same ↦ let its = itself row n same e in (omega (arith, its.0), its.1)
      | inr there ↦ let its = was.drawn row n there e in (its.0, omega (arith, its.1))
    ]

    once : (a b : Row) (n : ℕ) → In a rows → In b rows → number a.place ≡ Some n → number b.place ≡ Some n
        → a.index.0 ≡ b.index.0
    once a b n ina inb ea eb = elim (from a ina) [
      | inl newa ↦ elim (from b inb) [
        | inl newb ↦ ap (λ (r : Row). r.index.0) (newa ∙ sym newb)
        | inr oldb ↦
            let its = itself a n newa ea in let below = was.drawn b n oldb eb in
            absurd (omega (arith, its.0, below.1))
      ]
      | inr olda ↦ elim (from b inb) [
        | inl newb ↦
            let its = itself b n newb eb in let below = was.drawn a n olda ea in
            absurd (omega (arith, its.0, below.1))
        | inr oldb ↦ was.once a b n olda oldb ea eb
      ]
    ]

pub Drawn-put : (number : Place → Option ℕ) (last last' : ℕ) (rows : List Row) (new : Row) → Drawn number last rows
    → last ≤ last' → ((n : ℕ) → number new.place ≡ Some n → (n ≡ last + 1) × (n ≤ last'))
    → Drawn number last' (put_row new rows)
Drawn-put number last last' rows new was rises fresh =
    Drawn-more number last last' rows (put_row new rows) new was rises fresh
    (λ x here. elim (In-put_row x new rows here) [ inl same ↦ inl same | inr old ↦ inr old.0 ])

-- the row that is put there has no number
pub Drawn-put_none : (number : Place → Option ℕ) (last : ℕ) (rows : List Row) (new : Row) → Drawn number last rows
    → number new.place ≡ None → Drawn number last (put_row new rows)
Drawn-put_none number last rows new was none =
    Drawn-put number last last rows new was (omega arith) (λ n e. absurd (none-some n (sym none ∙ e)))

pub Drawn-append : (number : Place → Option ℕ) (last last' : ℕ) (rows : List Row) (new : Row) → Drawn number last rows
    → last ≤ last' → ((n : ℕ) → number new.place ≡ Some n → (n ≡ last + 1) × (n ≤ last'))
    → Drawn number last' (rows ++ new ∷ [])
Drawn-append number last last' rows new was rises fresh =
    Drawn-more number last last' rows (rows ++ new ∷ []) new was rises fresh
    (λ x here. elim (In-append_cases x rows (new ∷ []) here) [
      | inl old ↦ inr old
      | inr last ↦ elim last [ inl same ↦ inl same | inr no' ↦ absurd no' ]
    ])

pub Drawn-map : (number : Place → Option ℕ) (last : ℕ) (rows : List Row) (f : Row → Row) → Drawn number last rows
    → ((row : Row) → (f row).index ≡ row.index)
    → ((row : Row) (n : ℕ) → number (f row).place ≡ Some n → number row.place ≡ Some n)
    → Drawn number last (map f rows)
Drawn-map number last rows f was index keeps = record {
  once = λ a b n ina inb ea eb.
      let olda = In-mapped f a rows ina in
      let oldb = In-mapped f b rows inb in
      let same =
      was.once olda.0 oldb.0 n olda.1 oldb.1 (keeps olda.0 n (ap (λ (r : Row). number r.place) (sym olda.2) ∙ ea))
      (keeps oldb.0 n (ap (λ (r : Row). number r.place) (sym oldb.2) ∙ eb)) in
      ap (λ (r : Row). r.index.0) olda.2 ∙ ap (λ i. i.0) (index olda.0) ∙ same ∙ sym (ap (λ i. i.0) (index oldb.0))
      ∙ sym (ap (λ (r : Row). r.index.0) oldb.2);
  drawn = λ row n here e.
      let old = In-mapped f row rows here in
      was.drawn old.0 n old.1 (keeps old.0 n (ap (λ (r : Row). number r.place) (sym old.2) ∙ e));
}

pub Drawn-rises : (number : Place → Option ℕ) (last last' : ℕ) (rows : List Row) → Drawn number last rows
    → last ≤ last'
    → Drawn number last' rows
Drawn-rises number last last' rows was rises = record {
  once = was.once;
  drawn = λ row n here e. let its = was.drawn row n here e in (its.0, omega (arith, its.1));
}

-- of rising rows, the same in the words of the statement
pub drawn_once : (number : Place → Option ℕ) (last : ℕ) (rows : List Row) → Rises (indices rows)
    → Drawn number last rows → IsDrawnOnce number last rows
drawn_once number last rows rising was = record {
  once = λ a b n ina inb ea eb.
      let ina' = In-from_contains rows a ina.0 ina.1 ina.2 in
      let inb' = In-from_contains rows b inb.0 inb.1 inb.2 in
      unique a b rows rising ina' inb' (was.once a b n ina' inb' ea eb);
  drawn = λ row n here e. was.drawn row n (In-from_contains rows row here.0 here.1 here.2) e;
}
