-- Where numbers rise, an item is found at one place.
use Rattle.std.proofs.Common.{◌≡◌, ℕ, zero, suc, ◌<◌, ◌≤◌, Bool, true, false, cond, eqb, List, [], ◌∷◌, length, get_or, slice_get, set, map, refl, sym, ap, ◌∙◌, inl, inr, ◌⊎◌, arith}
use Rattle.std.specs.Prelude.{nat_lt}
use Rattle.std.specs.List.Sorted.{IsNonDecreasingBy, IsPartitionPoint}
use Rattle.std.proofs.lemmas.Bool.{and_parts, cases_lt, cases_order, cond-false, ltb-true, ltb-false, ne_eqb}
use Rattle.std.proofs.lemmas.List.{get_or-map, length-map}
use Rattle.qq_base.specs.declared.ids.QueueId.{QueueId}
use Rattle.qq_log.specs.declared.lane.Carry.{Carry}
use Rattle.qq_log.specs.declared.op.Op.{Op}
use Rattle.qq_log.specs.Op.{queue}
use Rattle.qq_wal.specs.declared.marks.Mark.{Mark}
use Rattle.qq_wal.specs.Marks.{is_below, is_rising, IsPlaceOf, numbers_in, numbers_of}
use Rattle.qq_wal.specs.Notices.{change_at, new_mark, note_all, note_mark, sync_mark, synced_by, synced_in}
use Rattle.qq_wal.proofs.Follows.{noted}

-- ---- one place of a list

pub set-change : {A : Type 0} (f : A → A) (xs : List A) (i : ℕ) (d : A) → i < length xs
    → set xs i (f (get_or xs i d)) ≡ change_at f i xs
set-change f [] i d within = absurd (omega arith)
set-change f (x ∷ xs) zero d within = refl
set-change {A = A} f (x ∷ xs) (suc i) d within = ap (λ (l : List A). x ∷ l) (set-change f xs i d (omega arith))

pub past-change : {A : Type 0} (f : A → A) (xs : List A) (i : ℕ) → length xs ≤ i → change_at f i xs ≡ xs
past-change f [] i past = refl
past-change f (x ∷ xs) zero past = absurd (omega arith)
past-change {A = A} f (x ∷ xs) (suc i) past = ap (λ (l : List A). x ∷ l) (past-change f xs i (omega arith))

map-same : {A : Type 0} (f : A → A) (xs : List A)
    → ((k : ℕ) (d : A) → k < length xs → f (get_or xs k d) ≡ get_or xs k d) → map f xs ≡ xs
map-same f [] same = refl
map-same {A = A} f (x ∷ xs) same =
    ap (λ (y : A). y ∷ map f xs) (same 0 x (omega arith))
    ∙ ap (λ (l : List A). x ∷ l) (map-same f xs (λ k d lt. same (suc k) d (omega arith)))

-- where a function changes at most the item at one place
map-change : {A : Type 0} (f : A → A) (xs : List A) (i : ℕ)
    → ((k : ℕ) (d : A) → k < length xs → (k ≡ i → ⊥) → f (get_or xs k d) ≡ get_or xs k d) → map f xs ≡ change_at f i xs
map-change f [] i same = refl
map-change {A = A} f (x ∷ xs) zero same =
    ap (λ (l : List A). f x ∷ l) (map-same f xs (λ k d lt. same (suc k) d (omega arith) (λ e. absurd (omega (arith, e)))))
map-change {A = A} f (x ∷ xs) (suc i) same =
    ap (λ (y : A). y ∷ map f xs) (same 0 x (omega arith) (λ e. absurd (omega (arith, e))))
    ∙ ap (λ (l : List A). x ∷ l)
    (map-change f xs i (λ k d lt apart. same (suc k) d (omega arith) (λ e. apart (omega (arith, e)))))

-- ---- rising numbers

tail-rising : (n : ℕ) (numbers : List ℕ) → is_rising (n ∷ numbers) ≡ true → is_rising numbers ≡ true
tail-rising n numbers rising = (and_parts (is_below n numbers) (is_rising numbers) rising).1

below-next : (n next : ℕ) (numbers : List ℕ) → is_rising (n ∷ next ∷ numbers) ≡ true → n < next
below-next n next numbers rising =
    ltb-true n next (and_parts (is_below n (next ∷ numbers)) (is_rising (next ∷ numbers)) rising).0

below-later : (n : ℕ) (numbers : List ℕ) → is_rising (n ∷ numbers) ≡ true → (j d : ℕ)
    → j < length numbers → n < get_or numbers j d
below-later n [] rising j d within = absurd (omega arith)
below-later n (next ∷ numbers) rising zero d within = below-next n next numbers rising
below-later n (next ∷ numbers) rising (suc j) d within =
    let first : n < next = below-next n next numbers rising in
    let later : next < get_or numbers j d =
    below-later next numbers (tail-rising n (next ∷ numbers) rising) j d (omega arith) in
    omega (arith, first, later)

rises : (numbers : List ℕ) → is_rising numbers ≡ true → (i j d : ℕ) → i < j → j < length numbers
    → get_or numbers i d < get_or numbers j d
rises [] rising i j d less within = absurd (omega arith)
rises (n ∷ numbers) rising zero zero d less within = absurd (omega arith)
rises (n ∷ numbers) rising zero (suc j) d less within = below-later n numbers rising j d (omega arith)
rises (n ∷ numbers) rising (suc i) zero d less within = absurd (omega arith)
rises (n ∷ numbers) rising (suc i) (suc j) d less within =
    rises numbers (tail-rising n numbers rising) i j d (omega arith) (omega arith)

-- ---- items whose numbers rise

module _ {A : Type 0} (number : A → ℕ) (xs : List A) (rising : is_rising (map number xs) ≡ true) where
  items-rise : (i j : ℕ) (d : A) → i < j → j < length xs → number (get_or xs i d) < number (get_or xs j d)
  items-rise i j d less within =
      let long = length-map xs number in
      let at = λ (k : ℕ) (lt : k < length xs). get_or-map number xs k d (number d) lt in
      omega (
        arith,
        at i (omega (arith, less, within)),
        at j within,
        rises (map number xs) rising i j (number d) less (omega (arith, within, long)),
      )

  pub items-nondecreasing : IsNonDecreasingBy number xs
  items-nondecreasing i j d le within = by (cases_lt i j)
    where
      by : (i < j) ⊎ (j ≤ i) → number (get_or xs i d) ≤ number (get_or xs j d)
      by (inl less) = omega (arith, items-rise i j d less within)
      by (inr above) =
          let same : i ≡ j = omega (arith, le, above) in
          omega (arith, ap (λ (k : ℕ). number (get_or xs k d)) same)

  -- an item at another place has another number
  pub items-apart : (n place : ℕ)
      → IsPartitionPoint (λ (x : A). nat_lt (number x) n ≡ true) (λ (x : A). nat_lt (number x) n ≡ false) xs place
      → (k : ℕ) (d : A) → k < length xs → (k ≡ place → ⊥) → number (get_or xs k d) ≡ n → ⊥
  items-apart n place is k d within apart e = by (cases_order k place)
    where
      by : (k ≡ place) ⊎ ((k < place) ⊎ (place < k)) → ⊥
      by (inl here) = apart here
      by (inr (inl less)) =
          let below = ltb-true (number (get_or xs k d)) n (is.0 k d (omega arith) less) in
          omega (arith, below, e)
      by (inr (inr less)) =
          let from = ltb-false (number (get_or xs place d)) n (is.1 place d (omega arith) (omega (arith, less, within))) in
          let later = items-rise place k d less within in
          omega (arith, from, later, e)

-- ---- an op is noted

abbrev pub number : Mark → ℕ
number m = m.queue.0

note-another : (op : Op) (m : Mark) → ((queue op).0 ≡ m.queue.0 → ⊥) → note_mark op m ≡ m
note-another op m apart =
    cond-false (eqb (queue op).0 m.queue.0) (noted op m) m (ne_eqb (queue op).0 m.queue.0 apart)

pub note-at_place : (op : Op) (marks : List Mark) (place : ℕ) → is_rising (numbers_in marks) ≡ true
    → IsPlaceOf (queue op) marks place → note_all marks op ≡ change_at (note_mark op) place marks
note-at_place op marks place rising is =
    map-change (note_mark op) marks place (λ k d within apart. note-another op (get_or marks k d)
    (λ e. items-apart number marks rising (queue op).0 place is k d within apart (sym e)))

-- the numbers of new marks are those of the queues, and they stay
pub begun-numbers : (carries : List Carry) (queues : List QueueId)
    → numbers_in (map (new_mark carries) queues) ≡ numbers_of queues
begun-numbers carries [] = refl
begun-numbers carries (id ∷ queues) = ap (λ (l : List ℕ). id.0 ∷ l) (begun-numbers carries queues)

pub noted-numbers : (op : Op) (marks : List Mark) → numbers_in (note_all marks op) ≡ numbers_in marks
noted-numbers op [] = refl
noted-numbers op (m ∷ marks) = by (eqb (queue op).0 m.queue.0) (noted-numbers op marks)
  where
    by : (t : Bool) → numbers_in (note_all marks op) ≡ numbers_in marks
        → (cond t (noted op m) m).queue.0 ∷ numbers_in (note_all marks op) ≡ m.queue.0 ∷ numbers_in marks
    by true later = ap (λ (l : List ℕ). m.queue.0 ∷ l) later
    by false later = ap (λ (l : List ℕ). m.queue.0 ∷ l) later

pub synced-numbers : (marks : List Mark) → numbers_in (map sync_mark marks) ≡ numbers_in marks
synced-numbers [] = refl
synced-numbers (m ∷ marks) = ap (λ (l : List ℕ). m.queue.0 ∷ l) (synced-numbers marks)

-- ---- what is synced

synced-nowhere : (id : QueueId) (marks : List Mark)
    → ((k : ℕ) (d : Mark) → k < length marks → number (get_or marks k d) ≡ id.0 → ⊥) → synced_in marks id ≡ 0
synced-nowhere id [] apart = refl
synced-nowhere id (m ∷ marks) apart =
    ap (λ (t : Bool). cond t m.synced (synced_in marks id)) (ne_eqb m.queue.0 id.0 (apart 0 m (omega arith)))
    ∙ synced-nowhere id marks (λ k d within. apart (suc k) d (omega arith))

synced-place : (id : QueueId) (marks : List Mark) (place : ℕ)
    → ((k : ℕ) (d : Mark) → k < length marks → (k ≡ place → ⊥) → number (get_or marks k d) ≡ id.0 → ⊥)
    → synced_by (slice_get marks place) id ≡ synced_in marks id
synced-place id [] place apart = refl
synced-place id (m ∷ marks) zero apart =
    ap (λ (n : ℕ). cond (eqb m.queue.0 id.0) m.synced n)
    (sym (synced-nowhere id marks (λ k d within. apart (suc k) d (omega arith) (λ e. absurd (omega (arith, e))))))
synced-place id (m ∷ marks) (suc place) apart =
    synced-place id marks place
    (λ k d within away. apart (suc k) d (omega arith) (λ e. away (omega (arith, e))))
    ∙ sym (ap (λ (t : Bool). cond t m.synced (synced_in marks id))
    (ne_eqb m.queue.0 id.0 (apart 0 m (omega arith) (λ e. absurd (omega (arith, e))))))

pub synced-at : (id : QueueId) (marks : List Mark) (place : ℕ) → is_rising (numbers_in marks) ≡ true
    → IsPlaceOf id marks place → synced_by (slice_get marks place) id ≡ synced_in marks id
synced-at id marks place rising is =
    synced-place id marks place (items-apart number marks rising id.0 place is)
