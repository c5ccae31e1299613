-- Entries by their places.
use Rattle.std.proofs.Common.{◌≡◌, ◌≢◌, ◌⊎◌, inl, inr, ℕ, zero, suc, ◌+◌, ◌-◌, ◌^◌, ◌<◌, ◌≤◌, Bool, true, false, List, [], ◌∷◌, length, take, drop, Option, Some, None, refl, sym, ap, ◌∙◌, arith}
use Rattle.std.specs.Prelude.{slice_get, min, nat_le, option_map, ◌==◌, if◌then◌else◌}
use Rattle.std.proofs.lemmas.Bool.{le-leb, lt-leb, eq-eqb, ne_eqb, cases_lt}
use Rattle.std.proofs.Math.Seq.{take-nil}
use Rattle.std.proofs.lemmas.List.{length-drop, length-take-le}
use Rattle.qq_base.specs.Causes.{SpentOnlyWhere}
use Rattle.qq_base.specs.declared.memory.Memory.{Memory}
use Rattle.qq_base.specs.declared.memory.Memory.TheVariants.{Want, Spent}
use Rattle.qq_base.specs.declared.ids.Term.{Term}
use Rattle.qq_entry.specs.declared.command.Entry.{Entry}
use Rattle.qq_log.specs.Above.{item_above, take_above}
use Rattle.qq_log.specs.declared.head.SnapshotHead.{SnapshotHead}
use Rattle.qq_log.specs.Log.{LogState, last_of, entry_at, term_at as log_term_at}
use Rattle.qq_log.specs.Stable.{no_snapshot}
use Rattle.qq_raft_protocol.specs.Moves.{last_term}
use Rattle.qq_raft_model.specs.State.{term_at}
use Rattle.qq_base.specs.declared.memory.TheConstants.{NUMBER_END}
use Rattle.qq_raft_model.specs.declared.limits.TheConstants.{BATCH_ENTRIES, BATCH_BYTES}
use Rattle.qq_raft_model.specs.Leading.{weight, fit, batch, batch_from}
use Rattle.qq_raft_model.specs.Server.{agreed}

pub drop-some : {A : Type 0} (xs : List A) (k : ℕ) (x : A) → slice_get xs k ≡ Some x
    → drop k xs ≡ x ∷ drop (k + 1) xs
drop-some [] k x e = absurd cc
drop-some (y ∷ ys) zero x e = ap (λ z. z ∷ ys) (cc)
drop-some (y ∷ ys) (suc k) x e =
    let n : suc k + 1 ≡ suc (k + 1) = omega arith in
    rw n (drop-some ys k x e)

pub drop-none : {A : Type 0} (xs : List A) (k : ℕ) → slice_get xs k ≡ None → drop k xs ≡ []
drop-none [] zero e = refl
drop-none [] (suc k) e = refl
drop-none (y ∷ ys) zero e = absurd cc
drop-none (y ∷ ys) (suc k) e = drop-none ys k e

pub slice_get-none-past : {A : Type 0} (xs : List A) (k : ℕ) → slice_get xs k ≡ None → k < length xs → ⊥
slice_get-none-past [] k e lt = absurd (omega arith)
slice_get-none-past (x ∷ xs) zero e lt = absurd cc
slice_get-none-past (x ∷ xs) (suc k) e lt = slice_get-none-past xs k e (omega arith)

-- the term of the last of so many entries
pub last_term-take : (log : List Entry) (k : ℕ) (e : Entry) → slice_get log k ≡ Some e
    → last_term (take (suc k) log) ≡ e.term.0
last_term-take [] k e h = absurd cc
last_term-take (x ∷ xs) zero e h = let same : x ≡ e = cc in ap (λ (z : Entry). z.term.0) same
last_term-take (x ∷ []) (suc k) e h = absurd cc
last_term-take (x ∷ y ∷ ys) (suc k) e h = last_term-take (y ∷ ys) k e h

-- ---- what fits in a message

-- one entry more
pub fit-more :
    (log : List Entry) (place count i room : ℕ) (e : Entry)
    → i < count → slice_get log (place + i) ≡ Some e → weight e ≤ room
    → fit (count - i) room (drop (place + i) log)
    ≡ e ∷ fit (count - (i + 1)) (room - weight e) (drop (place + (i + 1)) log)
fit-more log place count i room e lt there fits =
    let k : count - i ≡ suc (count - (i + 1)) = omega arith in
    let n : place + (i + 1) ≡ place + i + 1 = omega arith in
    rw (k, drop-some log (place + i) e there, n, le-leb _ _ fits) refl

-- it doesn't fit any more
pub fit-full :
    (log : List Entry) (place count i room : ℕ) (e : Entry)
    → slice_get log (place + i) ≡ Some e → room < weight e → fit (count - i) room (drop (place + i) log) ≡ []
fit-full log place count i room e there lt = rw (drop-some log (place + i) e there) (by (count - i))
  where
    by : (n : ℕ) → fit n room (e ∷ drop (place + i + 1) log) ≡ []
    by zero = refl
    by (suc n) = rw (lt-leb _ _ lt) refl

pub fit-ended : (log : List Entry) (place count i room : ℕ) → slice_get log (place + i) ≡ None
    → fit (count - i) room (drop (place + i) log) ≡ []
fit-ended log place count i room none = rw (drop-none log (place + i) none) (by (count - i))
  where
    by : (n : ℕ) → fit n room [] ≡ []
    by zero = refl
    by (suc n) = refl

-- ---- terms

abbrev pub or_zero : Option Term → ℕ
or_zero None = 0
or_zero (Some term) = term.0

take-min : {A : Type 0} (n : ℕ) (xs : List A) → take (min n (length xs)) xs ≡ take n xs
take-min n [] = rw (take-nil (min n 0), take-nil n) refl
take-min zero (x ∷ xs) = let e : min zero (suc (length xs)) ≡ zero = omega arith in rw e refl
take-min (suc n) (x ∷ xs) =
    let e : min (suc n) (suc (length xs)) ≡ suc (min n (length xs)) = omega arith in
    rw e (ap (λ ys. x ∷ ys) (take-min n xs))

at-place : (entries : List Entry) (k : ℕ) → k ≤ length entries
    → or_zero (if k == 0 then Some (record { 0 = 0 }) else option_map (λ e. e.term) (item_above 0 entries k))
    ≡ last_term (take k entries)
at-place entries zero le = refl
at-place entries (suc k) le =
    rw (ne_eqb (suc k) 0 (λ (e : suc k ≡ 0). omega (arith, e))) (by (slice_get entries k) refl)
  where
    by : (o : Option Entry) → slice_get entries k ≡ o
        → or_zero (option_map (λ (e : Entry). e.term) (item_above 0 entries (suc k))) ≡ last_term (take (suc k) entries)
    by None past = absurd (slice_get-none-past entries k past (omega arith))
    by (Some e) there =
        let n : suc k - 0 - 1 ≡ k = omega arith in
        rw (lt-leb (suc k) 0 (omega arith), n, there) (sym (last_term-take entries k e there))

-- what a whole log answers of an index
pub term-known : (l : LogState) (index : ℕ) (o : Option Term) → l.base ≡ no_snapshot
    → o ≡ log_term_at l (min index (last_of l)) → or_zero o ≡ term_at l.entries index
term-known l index o whole is =
    let z : 0 + length l.entries ≡ length l.entries = omega arith in
    let t : take (min index (0 + length l.entries)) l.entries ≡ take index l.entries = rw z (take-min index l.entries) in
    let i : min index (0 + length l.entries) ≤ length l.entries = omega arith in
    ap or_zero is ∙ rw whole (at-place l.entries (min index (0 + length l.entries)) i ∙ ap last_term t)

-- ---- entries of the same terms

agreed-nil : (es : List Entry) → agreed es [] ≡ 0
agreed-nil [] = refl
agreed-nil (e ∷ es) = refl

-- one more has the own one's term
pub agreed-more : (es log : List Entry) (k before : ℕ) (e f : Entry)
    → slice_get es k ≡ Some e → slice_get log (before + k) ≡ Some f → e.term.0 ≡ f.term.0
    → agreed (drop k es) (drop (before + k) log) ≡ suc (agreed (drop (k + 1) es) (drop (before + (k + 1)) log))
agreed-more es log k before e f there own same =
    let n : before + (k + 1) ≡ before + k + 1 = omega arith in
    rw (drop-some es k e there, drop-some log (before + k) f own, n, eq-eqb _ _ same) refl

-- one has another
pub agreed-differs : (es log : List Entry) (k before : ℕ) (e f : Entry)
    → slice_get es k ≡ Some e → slice_get log (before + k) ≡ Some f → e.term.0 ≢ f.term.0
    → agreed (drop k es) (drop (before + k) log) ≡ 0
agreed-differs es log k before e f there own other =
    rw (drop-some es k e there, drop-some log (before + k) f own, ne_eqb _ _ other) refl

-- the own log ends
pub agreed-ended : (es log : List Entry) (k before : ℕ) → slice_get log (before + k) ≡ None
    → agreed (drop k es) (drop (before + k) log) ≡ 0
agreed-ended es log k before none = rw (drop-none log (before + k) none) (agreed-nil (drop k es))

pub agreed-within : (es log : List Entry) → agreed es log ≤ length es
agreed-within [] log = omega arith
agreed-within (e ∷ es) [] = omega arith
agreed-within (e ∷ es) (f ∷ fs) = by (e.term.0 == f.term.0) (agreed-within es fs)
  where
    by : (b : Bool) → agreed es fs ≤ length es → (if b then suc (agreed es fs) else 0) ≤ length (e ∷ es)
    by true le = omega (arith, le)
    by false le = omega arith

pub agreed-there : (es log : List Entry) → agreed es log ≤ length log
agreed-there [] log = omega arith
agreed-there (e ∷ es) [] = omega arith
agreed-there (e ∷ es) (f ∷ fs) = by (e.term.0 == f.term.0) (agreed-there es fs)
  where
    by : (b : Bool) → agreed es fs ≤ length fs → (if b then suc (agreed es fs) else 0) ≤ length (f ∷ fs)
    by true le = omega (arith, le)
    by false le = omega arith

-- ---- how long a message is

fit-length : (n room : ℕ) (es : List Entry) → length (fit n room es) ≤ length es
fit-length zero room es = omega arith
fit-length (suc n) room [] = omega arith
fit-length (suc n) room (e ∷ es) = by (nat_le (weight e) room) (fit-length n (room - weight e) es)
  where
    by : (b : Bool) → length (fit n (room - weight e) es) ≤ length es
        → length (if b then e ∷ fit n (room - weight e) es else []) ≤ length (e ∷ es)
    by true le = omega (arith, le)
    by false le = omega arith

batch-length : (es : List Entry) → length (batch es) ≤ length es
batch-length [] = omega arith
batch-length (e ∷ es) =
    let le = fit-length (BATCH_ENTRIES - 1) (BATCH_BYTES - weight e) es in
    omega (arith, le)

-- the next entry behind what is sent has an index
pub batch-end : (next : ℕ) (log : List Entry) → next < 2 ^ 64 → length log ≤ NUMBER_END
    → next + length (batch_from next log) < 2 ^ 64
batch-end next log lt end =
    let le = batch-length (drop (next - 1) log) in
    let n = length-drop (next - 1) log in
    omega (arith, le, n, lt, end)

-- ---- entries of a whole log

item-known : {A : Type 0} (base : ℕ) (items : List A) (k : ℕ) → base ≡ 0 → item_above base items (k + 1) ≡ slice_get items k
item-known base items k e =
    let n : k + 1 - 0 - 1 ≡ k = omega arith in
    rw (e, lt-leb (k + 1) 0 (omega arith), n) refl

-- what a whole log answers of the entry at a place
pub entry-known : (l : LogState) (k : ℕ) → l.base ≡ no_snapshot → entry_at l (k + 1) ≡ slice_get l.entries k
entry-known l k whole =
    item-known l.base.index.0 l.entries k (ap (λ (h : SnapshotHead). h.index.0) whole)

-- where a whole log ends, once it is cut
pub cut-last : (l : LogState) (keep : ℕ) → l.base ≡ no_snapshot → keep ≤ length l.entries
    → l.base.index.0 + length (take_above l.base.index.0 keep l.entries) ≡ keep
cut-last l keep whole le =
    let e : l.base.index.0 ≡ 0 = ap (λ (h : SnapshotHead). h.index.0) whole in
    let n : keep - 0 ≡ keep = omega arith in
    rw (e, n, length-take-le keep l.entries le) (omega arith)

-- an append is spent only where it is of one entry behind the last index
pub spent-by : (e : Memory) (keep len n end : ℕ) → end ≡ keep → keep ≤ len → len ≤ NUMBER_END
    → (1 < n → keep + n ≤ NUMBER_END) → SpentOnlyWhere e end (NUMBER_END < end + n)
    → SpentOnlyWhere e NUMBER_END ((keep ≡ NUMBER_END) × (keep ≡ len))
spent-by Want keep len n end is le last fits s = tt
spent-by (Spent number) keep len n end is le last fits s = by (cases_lt 1 n)
  where
    by : ((1 < n) ⊎ (n ≤ 1)) → (number ≡ NUMBER_END) × ((keep ≡ NUMBER_END) × (keep ≡ len))
    by (inl lt) = let le' = fits lt in absurd (omega (arith, le', s.1, is))
    by (inr ge) = (
      omega (arith, s.0, s.1, is, le, last, ge),
      (omega (arith, s.1, is, le, last, ge), omega (arith, s.1, is, le, last, ge)),
    )

-- the first entry of a message and those that fit behind it
pub batch-first : (log : List Entry) (next place room : ℕ) (e : Entry) → place ≡ next - 1 → slice_get log place ≡ Some e
    → room ≡ BATCH_BYTES - weight e → e ∷ fit (BATCH_ENTRIES - 1) room (drop (place + 1) log) ≡ batch_from next log
batch-first log next place room e is there left =
    rw left (sym (ap batch (ap (λ n. drop n log) (sym is) ∙ drop-some log place e there)))

pub batch-none : (log : List Entry) (next place : ℕ) → place ≡ next - 1 → slice_get log place ≡ None
    → batch_from next log ≡ []
batch-none log next place is past = ap batch (ap (λ n. drop n log) (sym is) ∙ drop-none log place past)
