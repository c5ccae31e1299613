-- Reading values one behind the other, as a loop does.
use Rattle.std.proofs.Common.{◌≡◌, ℕ, suc, ◌-◌, ◌+◌, ◌≤◌, ◌<◌, List, [], ◌∷◌, ◌++◌, Option, Some, None, Ok, Err, refl, sym, ap, ◌∙◌, append_assoc, arith}
use Rattle.std.proofs.lemmas.List.{append-nil}
use Rattle.qq_base.specs.declared.memory.Memory.{Memory}
use Rattle.qq_fields.specs.Reading.{◌>>=◌, FailsBy, Fails, Field, many}

-- what was read before, and what is still read
abbrev pub with_prefix : {E A : Type 0} → List A → Field E (List A) → Field E (List A)
with_prefix prefix read = read >>= λ x. Ok (prefix ++ x.0, x.1)

regroup : {E A : Type 0} (prefix : List A) (x : A) (read : Field E (List A))
    → with_prefix prefix (read >>= λ y. Ok (x ∷ y.0, y.1)) ≡ with_prefix (prefix ++ x ∷ []) read
regroup {E} {A} prefix x (Ok y) = ap (λ (xs : List A). Ok (xs, y.1)) (simp append_assoc)
regroup prefix x (Err f) = refl

pub goes_on :
    {E A : Type 0} (read : List ℕ → Field E A) (prefix : List A) (count i : ℕ) (bytes : List ℕ) (x : A)
    (after : List ℕ) (total : Field E (List A))
    → i < count → read bytes ≡ Ok (x, after)
    → with_prefix prefix (many read (count - i) bytes) ≡ total → with_prefix (prefix ++ x ∷ [])
    (many read (count - (i + 1)) after) ≡ total
unfolding many
goes_on {E} {A} read prefix count i bytes x after total lt h so_far =
    let k : count - i ≡ suc (count - (i + 1)) = omega arith in
    let one : with_prefix prefix (many read (count - i) bytes) ≡ with_prefix (prefix ++ x ∷ [])
    (many read (count - (i + 1)) after) = rw (k, h) (regroup prefix x (many read (count - (i + 1)) after)) in
    sym one ∙ so_far

-- the fault of one value is that of all
ends_by :
    {E A : Type 0} (by : Option Memory) (e : E) (read : List ℕ → Field E A) (prefix : List A) (count i : ℕ)
    (bytes : List ℕ) (total : Field E (List A))
    → i < count → FailsBy by e (read bytes)
    → with_prefix prefix (many read (count - i) bytes) ≡ total → FailsBy by e total
unfolding many
ends_by None e read prefix count i bytes total lt h so_far =
    sym so_far ∙ (let k : count - i ≡ suc (count - (i + 1)) = omega arith in rw (k, h) refl)
ends_by (Some m) e read prefix count i bytes total lt h so_far = h

pub ends :
    {E A : Type 0} (memory : E → Option Memory) (e : E) (read : List ℕ → Field E A) (prefix : List A) (count i : ℕ)
    (bytes : List ℕ) (total : Field E (List A))
    → i < count → Fails memory e (read bytes)
    → with_prefix prefix (many read (count - i) bytes) ≡ total → Fails memory e total
ends memory e read prefix count i bytes total lt h so_far =
    ends_by (memory e) e read prefix count i bytes total lt h so_far

pub is_done :
    {E A : Type 0} (read : List ℕ → Field E A) (prefix : List A) (count i : ℕ) (bytes : List ℕ)
    (total : Field E (List A))
    → count ≤ i → with_prefix prefix (many read (count - i) bytes) ≡ total → total ≡ Ok (prefix, bytes)
unfolding many
is_done {E} {A} read prefix count i bytes total le so_far =
    let k : count - i ≡ 0 = omega arith in
    let one : with_prefix prefix (many read (count - i) bytes) ≡ Ok (prefix, bytes) = rw k
    (ap (λ (xs : List A). Ok (xs, bytes)) (append-nil prefix)) in
    sym so_far ∙ one
