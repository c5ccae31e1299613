-- The rows of an audit, one by one.
use Rattle.std.proofs.Common.{◌≡◌, ℕ, zero, suc, ◌<◌, List, [], ◌∷◌, ◌++◌, length, Option, Some, None, refl, sym, ap, ◌∙◌, arith}
use Rattle.std.specs.Prelude.{filter_map, slice_get, Contains}
use Rattle.std.specs.List.{cons_option}
use Rattle.std.proofs.lemmas.List.Elements.{Contains-get_or, Contains-append_right}
use Rattle.qq_entry.specs.declared.command.Entry.{Entry}
use Rattle.qq_entry.specs.declared.audit.AuditRow.{AuditRow}
use Rattle.qq_model.specs.State.{State}
use Rattle.qq_model.specs.Audit.{next_index, next_step, row_of, audit_of, state_after}

-- a row of an audit is that of an entry, behind the rows of those before it
pub record RowAt (s : State) (entries : List Entry) (before : List AuditRow) (row : AuditRow) : Type 0 where
  pub earlier : List Entry
  pub entry : Entry
  pub later : List Entry
  pub are : entries ≡ earlier ++ entry ∷ later
  pub before_is : before ≡ audit_of s earlier
  pub row_is : row ≡ row_of (next_index (state_after s earlier)) entry (next_step (state_after s earlier) entry)

pub row_at : (s : State) (entries : List Entry) (before after : List AuditRow) (row : AuditRow)
    → audit_of s entries ≡ before ++ row ∷ after → RowAt s entries before row
row_at s [] [] after row is = absurd (let e : [] ≡ row ∷ after = is in cc)
row_at s [] (b ∷ bs) after row is = absurd (let e : [] ≡ b ∷ (bs ++ row ∷ after) = is in cc)
row_at s (x ∷ xs) [] after row is =
    let own : AuditRow = row_of (next_index s) x (next_step s x) in
    let e : own ∷ audit_of (next_step s x).state xs ≡ row ∷ after = is in
    let head : own ≡ row = cc in
    record { earlier = []; entry = x; later = xs; are = refl; before_is = refl; row_is = sym head }
row_at s (x ∷ xs) (b ∷ bs) after row is =
    let own : AuditRow = row_of (next_index s) x (next_step s x) in
    let e : own ∷ audit_of (next_step s x).state xs ≡ b ∷ (bs ++ row ∷ after) = is in
    let head : own ≡ b = cc in
    let tail : audit_of (next_step s x).state xs ≡ bs ++ row ∷ after = cc in
    let rest : RowAt (next_step s x).state xs bs row = row_at (next_step s x).state xs bs after row tail in
    record {
      earlier = x ∷ rest.earlier;
      entry = rest.entry;
      later = rest.later;
      are = ap (λ (l : List Entry). x ∷ l) rest.are;
      before_is = ap (λ (r : AuditRow). r ∷ bs) (sym head) ∙ ap (λ (rows : List AuditRow). own ∷ rows) rest.before_is;
      row_is = rest.row_is;
    }

-- what a place of a list that was picked came from
pub record PickedAt {A B : Type 0} (f : A → Option B) (xs : List A) (y : B) : Type 0 where
  pub before : List A
  pub one : A
  pub after : List A
  pub are : xs ≡ before ++ one ∷ after
  pub is : f one ≡ Some y

pub picked_at : {A B : Type 0} (f : A → Option B) (xs : List A) (k : ℕ) (y : B)
    → slice_get (filter_map f xs) k ≡ Some y → PickedAt f xs y
picked_at f [] k y found = absurd cc
picked_at {A = A} {B = B} f (x ∷ xs) k y found = by (f x) refl k found (λ j h. picked_at f xs j y h)
  where
    later : PickedAt f xs y → PickedAt f (x ∷ xs) y
    later rest = record {
      before = x ∷ rest.before;
      one = rest.one;
      after = rest.after;
      are = ap (λ (l : List A). x ∷ l) rest.are;
      is = rest.is;
    }

    by : (o : Option B) → f x ≡ o → (i : ℕ) → slice_get (cons_option o (filter_map f xs)) i ≡ Some y
        → ((j : ℕ) → slice_get (filter_map f xs) j ≡ Some y → PickedAt f xs y) → PickedAt f (x ∷ xs) y
    by None is i here rest = later (rest i here)
    by (Some z) is zero here rest =
        let same : z ≡ y = cc in
        record { before = []; one = x; after = xs; are = refl; is = is ∙ ap (λ (v : B). Some v) same }
    by (Some z) is (suc i) here rest = later (rest i here)

pub filter_map-append : {A B : Type 0} (f : A → Option B) (xs ys : List A)
    → filter_map f (xs ++ ys) ≡ filter_map f xs ++ filter_map f ys
filter_map-append f [] ys = refl
filter_map-append {B = B} f (x ∷ xs) ys = by (f x) (filter_map-append f xs ys)
  where
    by : (o : Option B) → filter_map f (xs ++ ys) ≡ filter_map f xs ++ filter_map f ys
        → cons_option o (filter_map f (xs ++ ys)) ≡ cons_option o (filter_map f xs) ++ filter_map f ys
    by None rest = rest
    by (Some y) rest = ap (λ (l : List B). y ∷ l) rest

-- the last element
pub get-last : {A : Type 0} (xs : List A) (x : A) → slice_get (xs ++ x ∷ []) (length xs) ≡ Some x
get-last [] x = refl
get-last (y ∷ xs) x = get-last xs x

-- there is an element at each place below the length
pub get-within : {A : Type 0} (xs : List A) (k : ℕ) → k < length xs → (x : A) × (slice_get xs k ≡ Some x)
get-within [] k lt = absurd (omega (arith, lt))
get-within (x ∷ xs) zero lt = (x, refl)
get-within (x ∷ xs) (suc k) lt = get-within xs k (omega (arith, lt))

pub Contains-middle : {A : Type 0} (before after : List A) (x : A) → Contains (before ++ x ∷ after) x
Contains-middle before after x =
    Contains-append_right before (x ∷ after) x (Contains-get_or (x ∷ after) 0 x (omega arith))

-- ---- entries one behind the other

pub state-append : (s : State) (xs ys : List Entry) → state_after s (xs ++ ys) ≡ state_after (state_after s xs) ys
state-append s [] ys = refl
state-append s (x ∷ xs) ys = state-append (next_step s x).state xs ys

pub rows-append : (s : State) (xs ys : List Entry)
    → audit_of s (xs ++ ys) ≡ audit_of s xs ++ audit_of (state_after s xs) ys
rows-append s [] ys = refl
rows-append s (x ∷ xs) ys =
    ap (λ (rows : List AuditRow). row_of (next_index s) x (next_step s x) ∷ rows)
    (rows-append (next_step s x).state xs ys)
