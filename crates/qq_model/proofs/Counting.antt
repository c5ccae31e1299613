-- Counts of rows, of which one is replaced.
use Rattle.std.proofs.Common.{◌≡◌, ℕ, ◌+◌, ◌<◌, ◌≤◌, Bool, true, false, cond, List, [], ◌∷◌, count_by, nat_eq, refl, sym, ap, ◌∙◌, arith, inl, inr, if◌then◌else◌}
use Rattle.std.proofs.lemmas.List.Sums.{sum_by-cons}
use Rattle.qq_model.specs.declared.place.Row.{Row}
use Rattle.qq_model.specs.Changes.{put_row}
use Rattle.qq_base.proofs.Lists.{In}

count_by-cons : {X : Type 0} (p : X → Bool) (x : X) (xs : List X)
    → count_by p (x ∷ xs) ≡ cond (p x) 1 0 + count_by p xs
count_by-cons {X = X} p x xs = sum_by-cons (λ (y : X). cond (p y) 1 0) x xs

fewer_one : (a b : Bool) → (b ≡ true → a ≡ true) → (m n : ℕ) → m ≤ n → cond b 1 0 + m ≤ cond a 1 0 + n
fewer_one a false sub m n le = omega arith
fewer_one a true sub m n le = let counts : a ≡ true = sub refl in rw counts (omega arith)

less_here : (a b : Bool) → a ≡ true → b ≡ false → (m n : ℕ) → m ≤ n → cond b 1 0 + m < cond a 1 0 + n
less_here a b counts out m n le = rw counts (rw out (omega arith))

-- a test that passes less often counts no more
pub count_by-fewer : {X : Type 0} (p q : X → Bool) → ((x : X) → q x ≡ true → p x ≡ true)
    → (xs : List X) → count_by q xs ≤ count_by p xs
count_by-fewer p q sub [] = omega arith
count_by-fewer p q sub (x ∷ xs) =
    let step = fewer_one (p x) (q x) (sub x) (count_by q xs) (count_by p xs) (count_by-fewer p q sub xs) in
    let before = count_by-cons p x xs in
    let after = count_by-cons q x xs in
    omega arith

-- and less where one of the list passes the other alone
pub count_by-less : {X : Type 0} (p q : X → Bool) → ((x : X) → q x ≡ true → p x ≡ true)
    → (one : X) (xs : List X) → In one xs → p one ≡ true → q one ≡ false → count_by q xs < count_by p xs
count_by-less p q sub one [] here counts out = absurd here
count_by-less p q sub one (x ∷ xs) (inl same) counts out =
    let fewer = count_by-fewer p q sub xs in
    let step =
    less_here (p x) (q x) (ap p (sym same) ∙ counts) (ap q (sym same) ∙ out) (count_by q xs) (count_by p xs) fewer in
    let before = count_by-cons p x xs in
    let after = count_by-cons q x xs in
    omega arith
count_by-less p q sub one (x ∷ xs) (inr later) counts out =
    let less = count_by-less p q sub one xs later counts out in
    let step = fewer_one (p x) (q x) (sub x) (count_by q xs + 1) (count_by p xs) (omega arith) in
    let before = count_by-cons p x xs in
    let after = count_by-cons q x xs in
    omega arith

put_one : (hit : Bool) (p : Row → Bool) (new row : Row) → p new ≡ false
    → p (if hit then new else row) ≡ true → p row ≡ true
put_one true p new row out h = absurd (let never : false ≡ true = sym out ∙ h in cc)
put_one false p new row out h = h

put_row-fewer : (p : Row → Bool) (new : Row) → p new ≡ false → (rows : List Row)
    → count_by p (put_row new rows) ≤ count_by p rows
put_row-fewer p new out [] = omega arith
put_row-fewer p new out (row ∷ rows) =
    let now : Row = if nat_eq row.index.0 new.index.0 then new else row in
    let step =
    fewer_one (p row) (p now) (put_one (nat_eq row.index.0 new.index.0) p new row out)
    (count_by p (put_row new rows)) (count_by p rows) (put_row-fewer p new out rows) in
    let before = count_by-cons p row rows in
    let after = count_by-cons p now (put_row new rows) in
    omega arith

-- where a row that counted is replaced by one that doesn't count, the count falls
pub put_row-less : (p : Row → Bool) (old new : Row) → p new ≡ false → nat_eq old.index.0 new.index.0 ≡ true
    → (rows : List Row) → In old rows → p old ≡ true → count_by p (put_row new rows) < count_by p rows
put_row-less p old new out hit [] here counts = absurd here
put_row-less p old new out hit (row ∷ rows) (inl same) counts =
    let now : Row = if nat_eq row.index.0 new.index.0 then new else row in
    let put : now ≡ new = rw (sym same) (rw hit refl) in
    let step =
    less_here (p row) (p now) (ap p (sym same) ∙ counts) (ap p put ∙ out)
    (count_by p (put_row new rows)) (count_by p rows) (put_row-fewer p new out rows) in
    let before = count_by-cons p row rows in
    let after = count_by-cons p now (put_row new rows) in
    omega arith
put_row-less p old new out hit (row ∷ rows) (inr later) counts =
    let now : Row = if nat_eq row.index.0 new.index.0 then new else row in
    let less = put_row-less p old new out hit rows later counts in
    let step =
    fewer_one (p row) (p now) (put_one (nat_eq row.index.0 new.index.0) p new row out)
    (count_by p (put_row new rows) + 1) (count_by p rows) (omega arith) in
    let before = count_by-cons p row rows in
    let after = count_by-cons p now (put_row new rows) in
    omega arith
