-- Rows that keep what they are.
use Rattle.std.proofs.Common.{◌≡◌, ℕ, zero, suc, ◌+◌, ◌-◌, ◌<◌, ◌≤◌, ◌⊎◌, Bool, true, false, not, cond, List, [], ◌∷◌, Option, Some, None, map, length, refl, sym, ap, ◌∙◌, subst, inl, inr, arith, if◌then◌else◌}
use Rattle.std.specs.Prelude.{nat_eq, nat_lt, slice_get, position}
use Rattle.std.specs.Option.{option_and_then}
use Rattle.std.specs.List.{AllZip, position_or_len}
use Rattle.std.proofs.lemmas.Bool.{false≢true, cases_Bool, cond-true, cond-false, eqb-true, eq-eqb, ne_eqb, ltb-true, lt-ltb, le-ltb, ltb-false}
use Rattle.qq_base.specs.declared.ids.Index.{Index}
use Rattle.qq_entry.specs.declared.queue.QueueArgs.{QueueArgs}
use Rattle.qq_entry.specs.declared.message.Message.{Message}
use Rattle.qq_entry.specs.declared.command.Command.{Command}
use Rattle.qq_model.specs.declared.place.Row.{Row}
use Rattle.qq_model.specs.Changes.{put_row}
use Rattle.qq_model.proofs.Indices.{Rises, Counts, indices, arrivals_of, unique}
use Rattle.qq_base.proofs.Lists.{In, AllByRecursion-in, In-map}
use Rattle.qq_model.proofs.Lists.{AllZip-map_second}
use Rattle.qq_model.specs.Reasons.{Follows, Moves, may_go_back}
use Rattle.qq_laws.specs.Published.{kept_publishes}

pub Follows-more : (args : QueueArgs) (command : Command) (first old new : Row) → Follows args command first old
    → Moves args command old new → Follows args command first new
Follows-more args command first old new (inl same) moves =
    inr (subst (λ (row : Row). Moves args command row new) same moves)
Follows-more args command first old new (inr moved) moves = inr (record {
  live = moved.live;
  index = moves.index ∙ moved.index;
  arrival = moves.arrival ∙ moved.arrival;
  size = moves.size ∙ moved.size;
  place = moves.place;
  dead = λ h. absurd (false≢true (sym (moved.dead h) ∙ moves.live));
  rises = omega (arith, moved.rises, moves.rises);
  counted = counts moved.counted moves.counted;
})
  where
    counts : (old.count ≡ first.count) ⊎ (may_go_back command ≡ true) → (new.count ≡ old.count)
        ⊎ (may_go_back command ≡ true) → (new.count ≡ first.count) ⊎ (may_go_back command ≡ true)
    counts (inl a) (inl b) = inl (b ∙ a)
    counts (inl a) (inr b) = inr b
    counts (inr a) b = inr a

pub zip-same : (args : QueueArgs) (command : Command) (rows : List Row) → AllZip (Follows args command) rows rows
zip-same args command [] = tt
zip-same args command (row ∷ rows) = (inl refl, zip-same args command rows)

-- one row is changed
pub zip-row : (args : QueueArgs) (command : Command) (first rows : List Row) (old new : Row)
    → AllZip (Follows args command) first rows → Rises (indices rows) → In old rows → Moves args command old new
    → AllZip (Follows args command) first (put_row new rows)
zip-row args command first rows old new zipped rising here moves =
    AllZip-map_second (Follows args command) (λ (row : Row). if nat_eq row.index.0 new.index.0 then new else row)
    first
    rows zipped (λ x y iny r. by x y iny r (cases_Bool (nat_eq y.index.0 new.index.0)))
  where
    by : (x y : Row) → In y rows → Follows args command x y → (nat_eq y.index.0 new.index.0 ≡ true)
        ⊎ (nat_eq y.index.0 new.index.0 ≡ false)
        → Follows args command x (if nat_eq y.index.0 new.index.0 then new else y)
    by x y iny r (inl is) =
        let same : y ≡ old =
        unique y old rows rising iny here (eqb-true _ _ is ∙ ap (λ (i : Index). i.0) moves.index) in
        subst (Follows args command x) (sym (cond-true _ new y is))
        (Follows-more args command x y new r (subst (λ (row : Row). Moves args command row new) (sym same) moves))
    by x y iny r (inr is) = subst (Follows args command x) (sym (cond-false _ new y is)) r

-- what a row is stays
pub zip-index : (args : QueueArgs) (command : Command) (xs ys : List Row) → AllZip (Follows args command) xs ys
    → map (λ (row : Row). row.index) ys ≡ map (λ (row : Row). row.index) xs
zip-index args command [] [] zipped = refl
zip-index args command [] (y ∷ ys) zipped = absurd zipped
zip-index args command (x ∷ xs) [] zipped = absurd zipped
zip-index args command (x ∷ xs) (y ∷ ys) zipped =
    let rest = zip-index args command xs ys zipped.1 in
    let one : y.index ≡ x.index =
    elim (zipped.0) [ inl same ↦ ap (λ (row : Row). row.index) same | inr moves ↦ moves.index ] in
    cc

pub zip-arrival : (args : QueueArgs) (command : Command) (xs ys : List Row) → AllZip (Follows args command) xs ys
    → arrivals_of ys ≡ arrivals_of xs
zip-arrival args command [] [] zipped = refl
zip-arrival args command [] (y ∷ ys) zipped = absurd zipped
zip-arrival args command (x ∷ xs) [] zipped = absurd zipped
zip-arrival args command (x ∷ xs) (y ∷ ys) zipped =
    let rest = zip-arrival args command xs ys zipped.1 in
    let one : y.arrival ≡ x.arrival =
    elim (zipped.0) [ inl same ↦ ap (λ (row : Row). row.arrival) same | inr moves ↦ moves.arrival ] in
    cc

pub indices-map : (rows : List Row) → indices rows ≡ map (λ (i : Index). i.0) (map (λ (row : Row). row.index) rows)
indices-map [] = refl
indices-map (row ∷ rows) = ap (λ ns. row.index.0 ∷ ns) (indices-map rows)

pub same_indices : (xs ys : List Row) → map (λ (row : Row). row.index) ys ≡ map (λ (row : Row). row.index) xs
    → indices ys ≡ indices xs
same_indices xs ys same = indices-map ys ∙ ap (map (λ (i : Index). i.0)) same ∙ sym (indices-map xs)

-- the publishes that rows keep hang on their indices alone
pub zip-publishes : (args : QueueArgs) (command : Command) (xs ys : List Row) (messages : List Message)
    → AllZip (Follows args command) xs ys → kept_publishes ys messages ≡ kept_publishes xs messages
zip-publishes args command [] [] messages zipped = refl
zip-publishes args command [] (y ∷ ys) messages zipped = absurd zipped
zip-publishes args command (x ∷ xs) [] messages zipped = absurd zipped
zip-publishes args command (x ∷ xs) (y ∷ ys) [] zipped = refl
zip-publishes args command (x ∷ xs) (y ∷ ys) (message ∷ messages) zipped =
    let rest = zip-publishes args command xs ys messages zipped.1 in
    let one : y.index ≡ x.index =
    elim (zipped.0) [ inl same ↦ ap (λ (row : Row). row.index) same | inr moves ↦ moves.index ] in
    cc

-- the message that stands beside the first row that passes a test
abbrev pub beside : (Row → Bool) → List Row → List Message → Option Message
beside test rows messages = option_and_then (slice_get messages) (position test rows)

pub beside-cons : (test : Row → Bool) (row : Row) (rows : List Row) (message : Message) (messages : List Message)
    → beside test (row ∷ rows) (message ∷ messages) ≡ cond (test row) (Some message) (beside test rows messages)
beside-cons test row rows message messages = by (test row) (position_or_len test rows) (length rows)
  where
    by : (b : Bool) (l n : ℕ) → option_and_then (slice_get (message ∷ messages))
        (cond (nat_lt (cond (not b) (1 + l) 0) (suc n)) (Some (cond (not b) (1 + l) 0)) None)
        ≡ cond b (Some message) (option_and_then (slice_get messages) (cond (nat_lt l n) (Some l) None))
    by true l n =
        ap (λ (t : Bool). option_and_then (slice_get (message ∷ messages)) (cond t (Some 0) None))
        (lt-ltb 0 (suc n) (omega arith))
    by false l n =
        let one : 1 + l ≡ suc l = omega arith in
        ap (λ (k : ℕ). option_and_then (slice_get (message ∷ messages)) (cond (nat_lt k (suc n)) (Some k) None)) one
        ∙ later (cases_Bool (nat_lt l n))
      where
        later : (nat_lt l n ≡ true) ⊎ (nat_lt l n ≡ false)
            → option_and_then (slice_get (message ∷ messages)) (cond (nat_lt (suc l) (suc n)) (Some (suc l)) None)
            ≡ option_and_then (slice_get messages) (cond (nat_lt l n) (Some l) None)
        later (inl is) =
            let lt : l < n = ltb-true l n is in
            ap (λ (t : Bool). option_and_then (slice_get (message ∷ messages)) (cond t (Some (suc l)) None))
            (lt-ltb (suc l) (suc n) (omega arith))
            ∙ sym (ap (λ (t : Bool). option_and_then (slice_get messages) (cond t (Some l) None)) is)
        later (inr is) =
            let le : n ≤ l = ltb-false l n is in
            ap (λ (t : Bool). option_and_then (slice_get (message ∷ messages)) (cond t (Some (suc l)) None))
            (le-ltb (suc l) (suc n) (omega arith))
            ∙ sym (ap (λ (t : Bool). option_and_then (slice_get messages) (cond t (Some l) None)) is)

-- a row's message, and its place among the publishes that the rows keep
pub record Beside (n : ℕ) (rows : List Row) (messages : List Message) (row : Row) : Type 0 where
  pub message : Message
  pub is : beside (λ (other : Row). nat_eq other.index.0 row.index.0) rows messages ≡ Some message
  pub above : n < row.arrival
  pub kept : slice_get (kept_publishes rows messages) (row.arrival - (n + 1))
      ≡ Some (record { index = row.index; message = message })

pub found-beside : (n : ℕ) (rows : List Row) (messages : List Message) (row : Row) → In row rows → Rises
    (indices rows)
    → Counts n (arrivals_of rows) → length rows ≡ length messages → Beside n rows messages row
found-beside n [] messages row here rising counted same = absurd here
found-beside n (first ∷ rows) [] row here rising counted same = absurd (omega arith)
found-beside n (first ∷ rows) (message ∷ messages) row (inl is) rising counted same =
    let test : Row → Bool = λ other. nat_eq other.index.0 row.index.0 in
    let passes : test first ≡ true = eq-eqb _ _ (ap (λ (one : Row). one.index.0) (sym is)) in
    let arrival : row.arrival ≡ n + 1 = ap (λ (one : Row). one.arrival) is ∙ counted.0 in
    let place : row.arrival - (n + 1) ≡ zero = omega arith in
    record {
      message = message;
      is =
          beside-cons test first rows message messages
          ∙ cond-true (test first) (Some message) (beside test rows messages) passes;
      above = omega arith;
      kept =
          ap (slice_get (kept_publishes (first ∷ rows) (message ∷ messages))) place
          ∙ ap (λ (one : Row). Some (record { index = one.index; message = message })) (sym is);
    }
found-beside n (first ∷ rows) (message ∷ messages) row (inr later) rising counted same =
    let rest = found-beside (n + 1) rows messages row later rising.1 counted.1 (omega arith) in
    let test : Row → Bool = λ other. nat_eq other.index.0 row.index.0 in
    let above : first.index.0 < row.index.0 =
    AllByRecursion-in (λ m. first.index.0 < m) row.index.0 (indices rows) rising.0
    (In-map (λ (one : Row). one.index.0) row rows later) in
    let fails : test first ≡ false = ne_eqb _ _ (λ e. omega arith) in
    let place : row.arrival - (n + 1) ≡ suc (row.arrival - (n + 1 + 1)) = omega (arith, rest.above) in
    record {
      message = rest.message;
      is =
          beside-cons test first rows message messages
          ∙ cond-false (test first) (Some message) (beside test rows messages) fails ∙ rest.is;
      above = omega (arith, rest.above);
      kept = ap (slice_get (kept_publishes (first ∷ rows) (message ∷ messages))) place ∙ rest.kept;
    }
