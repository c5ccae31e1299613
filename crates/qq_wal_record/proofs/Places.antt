-- Where the record at the front ends, by its payload's length.
use Rattle.std.proofs.Common.{◌≡◌, ℕ, ◌+◌, Bool, true, false, cond, ltb, List, [], ◌++◌, length, map, take, drop, Option, Some, None, Result, Ok, refl, sym, ap, subst, ◌∙◌, append-nil, arith}
use Rattle.std.specs.Prelude.{IfOk, IfSome}
use Rattle.std.specs.Borrow.{Bor}
use Rattle.std.specs.Int.{w8, w32, from_be_bytes}
use Rattle.qq_fields.specs.Reading as fields
use Rattle.qq_fields.specs.Reading.{number_of}
use Rattle.qq_fields.proofs.Laws.{Holds, found, here, known, then_known, then_ok, where_false, where_true}
use Rattle.qq_wal_record.specs.declared.record.LogRecord.{LogRecord}
use Rattle.qq_wal_record.specs.declared.record.NoRecord.{NoRecord}
use Rattle.qq_wal_record.specs.declared.record.NoRecord.TheVariants.{Short, Mark, Field}
use Rattle.qq_wal_record.specs.Ahead.{AreMarks, IsMarkAt, mark_place}
use Rattle.qq_wal_record.specs.Encoding.{record_mark}
use Rattle.qq_wal_record.specs.Mark.{same_bytes}
use Rattle.qq_wal_record.specs.Reading.{memory_of, Gives, number_at, inside_at, is_too_long, marked_at, record_at}

-- a payload's length
pub length_is : (bytes : List ℕ) → Holds (number_at w32 bytes) (λ x. x.0 ≡ from_be_bytes w32 (take 4 bytes))
unfolding fields.number_at
length_is bytes = by (ltb (length bytes) 4)
  where
    by : (b : Bool)
        → Holds (number_of Field bytes (cond b None (Some (from_be_bytes w32 (take 4 bytes), 4))))
        (λ x. x.0 ≡ from_be_bytes w32 (take 4 bytes))
    by true = record { value = tt }
    by false = here _ refl

-- ---- a record ends behind its mark

marked_long : (file len : ℕ) (bytes : List ℕ) → len ≡ from_be_bytes w32 (take 4 bytes)
    → Holds (marked_at file len bytes) (λ x. x.1 ≡ mark_place bytes + 8)
unfolding marked_at
marked_long file len bytes e =
    where_true (same_bytes (record_mark file (take (17 + len) bytes)) (take 8 (drop (17 + len) bytes))) _ Mark
    (λ marked. then_known (inside_at len bytes) _ (λ r i. here (r, 17 + len + 8) (omega (arith, e))))

record_long : (file : ℕ) (bytes : List ℕ) → Holds (record_at file bytes) (λ x. x.1 ≡ mark_place bytes + 8)
unfolding record_at
record_long file bytes =
    where_false (ltb (length bytes) 17) _ Short (λ headed.
    then_ok (number_at w32 bytes) _ (length_is bytes) (λ len e.
    then_known (number_at w8 len.1) _ (λ k f.
    where_false (is_too_long k.0 len.0) _ Short (λ short.
    where_false (ltb (length bytes) (17 + len.0 + 8)) _ Short (λ there. marked_long file len.0 bytes e)))))

pub is_long : (file : ℕ) (bytes : List ℕ) (r : Result (LogRecord × ℕ) NoRecord) → Gives (λ x. x) r (record_at file bytes)
    → IfOk r (λ x. x.1 ≡ mark_place bytes + 8)
is_long file bytes r given = found memory_of r (record_at file bytes) (record_long file bytes) given

-- a known mark is that of the record before its mark
pub known_mark : (file : ℕ) (bytes : List ℕ) (known : Option (List ℕ)) (len : ℕ × List ℕ)
    → number_at w32 bytes ≡ Ok len → IfSome known (IsMarkAt file bytes)
    → IfSome known (λ mark. mark ≡ record_mark file (take (17 + len.0) bytes))
known_mark file bytes None len e is = tt
known_mark file bytes (Some m) len e is =
    is ∙ ap (λ (n : ℕ). record_mark file (take (17 + n) bytes)) (sym (known (number_at w32 bytes) len (length_is bytes) e))

-- ---- one mark more

-- what was found, with marks of what is left, are marks of all
abbrev pub Leads : ℕ → List ℕ → List (Bor (List ℕ)) → List ℕ → Type 0
Leads file bytes found rest =
    (ms : List (List ℕ)) → AreMarks file ms rest
    → AreMarks file (map (λ (b : Bor (List ℕ)). record_mark file b.now) found ++ ms) bytes

pub at_end : (file : ℕ) (bytes : List ℕ) (found : List (Bor (List ℕ))) (rest : List ℕ) → Leads file bytes found rest
    → AreMarks file (map (λ (b : Bor (List ℕ)). record_mark file b.now) found) bytes
at_end file bytes found rest leads =
    subst (λ (ms : List (List ℕ)). AreMarks file ms bytes)
    (append-nil (map (λ (b : Bor (List ℕ)). record_mark file b.now) found)) (leads [] tt)
