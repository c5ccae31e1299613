-- Headers and their encodings.
use Rattle.std.proofs.Common.{◌≡◌, ℕ, ◌^◌, ◌<◌, ◌≤◌, Bool, true, false, cond, ltb, eqb, List, ◌++◌, length, take, drop, Some, Result, Ok, Err, refl, sym, ap, subst, ◌∙◌, arith}
use Rattle.std.specs.Int.{Width, w8, w64, byte_len, from_be_bytes, to_be_bytes}
use Rattle.std.specs.Cmp.Lexicographic.{bytes_decides}
use Rattle.std.proofs.lemmas.Bool.{ltb-false, le-ltb, eqb-true}
use Rattle.std.proofs.lemmas.List.{take-append-drop, take_at, length-append, length-drop}
use Rattle.std.proofs.lemmas.Nat.{from_be_bytes-to_be_bytes_8}
use Rattle.qq_base.specs.Fields.{AreBytes, ReadsBack, number_at as number_in}
use Rattle.qq_base.proofs.Numbers.{back8, back64}
use Rattle.qq_fields.specs.Writing.{u8, u64}
use Rattle.qq_wal_record.specs.declared.header.Header.{Header}
use Rattle.qq_wal_record.specs.declared.header.NoHeader.{NoHeader}
use Rattle.qq_wal_record.specs.Encoding.{magic, header_body, header_encoding}
use Rattle.qq_wal_record.specs.Mark.{mark, same_bytes}
use Rattle.qq_wal_record.specs.Reading.{long_at, header_at, IsHeader, IsHeaderAt}
use Rattle.qq_fields.proofs.Laws.{AreBytes-drop}
use Rattle.qq_wal_record.proofs.Lengths.{mark_len, header_len}

-- the header with these numbers
abbrev made : ℕ → ℕ → ℕ → Header
made file previous good = record { file = file; previous = previous; good = good }

abbrev ok : Header → Result Header NoHeader
ok h = Ok h

same_header : (h k : Header) → ok h ≡ ok k → h ≡ k
same_header h k e = cc

same_made : (a b c x y z : ℕ) → a ≡ x → b ≡ y → c ≡ z → made a b c ≡ made x y z
same_made a b c x y z e f g =
    ap (λ (n : ℕ). made n b c) e ∙ ap (λ (n : ℕ). made x n c) f ∙ ap (λ (n : ℕ). made x y n) g

long_again : (n : ℕ) → n < 2 ^ 64 → from_be_bytes w64 (u64 n) ≡ n
long_again n lt = from_be_bytes-to_be_bytes_8 n lt

pub header_again : (h : Header) (rest : List ℕ) → IsHeader h → header_at (header_encoding h ++ rest) ≡ Ok h
unfolding header_at header_encoding header_body
header_again h rest f =
    let m = mark (header_body h) in
    let long : ltb (length (header_encoding h ++ rest)) 38 ≡ false = le-ltb _ _
    (omega (arith, length-append (header_encoding h) rest, header_len h)) in
    let same : same_bytes m (take 8 (m ++ rest)) ≡ true = (bytes_decides _ _).1
    (sym (take_at m rest 8 (mark_len (header_body h)))) in
    rw (long, same) (ap ok (same_made _ _ _ h.file h.previous h.good (long_again h.file f.0)
    (long_again h.previous f.1) (long_again h.good f.2)))

-- ---- what is read

passes : (b : Bool) (r : Result Header NoHeader) (e : NoHeader) (h : Header) → cond b r (Err e) ≡ Ok h
    → (b ≡ true) × (r ≡ Ok h)
passes true r e h is = (refl, is)
passes false r e h is = absurd cc

fails : (b : Bool) (r : Result Header NoHeader) (e : NoHeader) (h : Header) → cond b (Err e) r ≡ Ok h
    → (b ≡ false) × (r ≡ Ok h)
fails true r e h is = absurd cc
fails false r e h is = (refl, is)

-- the number at the front, and what follows it
front : (w : Width) (limit : ℕ) → ReadsBack w limit → (bytes : List ℕ) → AreBytes bytes → byte_len w ≤ length bytes
    → (bytes ≡ to_be_bytes w (from_be_bytes w (take (byte_len w) bytes)) ++ drop (byte_len w) bytes) ×
    (from_be_bytes w (take (byte_len w) bytes) < limit)
front w limit back bytes fits long =
    let found : number_in w bytes ≡ Some
    (from_be_bytes w (take (byte_len w) bytes), byte_len w) = rw (le-ltb _ _ long) refl in
    let alone = back.alone bytes (from_be_bytes w (take (byte_len w) bytes)) (byte_len w) fits found in
    (alone.0, alone.1)

-- a header's bytes, where its mark is right
at_front : (bytes after : List ℕ) (a b c : ℕ) (h : Header) → a < 2 ^ 64 → b < 2 ^ 64 → c < 2 ^ 64
    → bytes ≡ header_body (made a b c) ++ after
    → mark (take 30 bytes) ≡ take 8 (drop 30 bytes) → ok
    (made (long_at 6 bytes) (long_at 14 bytes) (long_at 22 bytes)) ≡ ok h → IsHeaderAt bytes h
unfolding header_body header_encoding
at_front bytes after a b c h fa fb fc is marked e =
    let read : made (long_at 6 bytes) (long_at 14 bytes) (long_at 22 bytes) ≡ made a b c =
    ap (λ (t : List ℕ). made (long_at 6 t) (long_at 14 t) (long_at 22 t)) is
    ∙ same_made _ _ _ a b c (long_again a fa) (long_again b fb) (long_again c fc) in
    let same : made a b c ≡ h = sym read ∙ same_header _ h e in
    let m : mark (header_body (made a b c)) ≡ take 8 after = subst
    (λ (t : List ℕ). mark (take 30 t) ≡ take 8 (drop 30 t)) is marked in
    let all : bytes ≡ header_encoding (made a b c) ++ drop 8 after =
    is ∙ ap (λ (t : List ℕ). header_body (made a b c) ++ t)
    (sym (take-append-drop 8 after) ∙ ap (λ (t : List ℕ). t ++ drop 8 after) (sym m)) in
    let taken : take 38 bytes ≡ header_encoding (made a b c) = ap (take 38) all
    ∙ take_at (header_encoding (made a b c)) (drop 8 after) 38 (header_len (made a b c)) in
    subst (λ (k : Header). IsHeaderAt bytes k) same (record { range = (fa, fb, fc); front = taken })

pub header_alone : (bytes : List ℕ) (h : Header) → AreBytes bytes → header_at bytes ≡ Ok h → IsHeaderAt bytes h
unfolding header_at header_body
header_alone bytes h fits e =
    let long = fails (ltb (length bytes) 38) _ _ h e in
    let begun = passes (same_bytes (take 5 bytes) magic) _ _ h long.1 in
    let marked = passes (same_bytes (mark (take 30 bytes)) (take 8 (drop 30 bytes))) _ _ h begun.1 in
    let versioned = passes (eqb (from_be_bytes w8 (take 1 (drop 5 bytes))) 1) _ _ h marked.1 in
    let enough : 38 ≤ length bytes = ltb-false _ _ long.0 in
    let t = drop 5 bytes in
    let first = front w8 (2 ^ 8) back8 t (AreBytes-drop 5 bytes fits) (omega (arith, length-drop 5 bytes)) in
    let t1 = drop 1 t in
    let fits1 = AreBytes-drop 1 t (AreBytes-drop 5 bytes fits) in
    let second = front w64 (2 ^ 64) back64 t1 fits1 (omega (arith, length-drop 5 bytes, length-drop 1 t)) in
    let t2 = drop 8 t1 in
    let fits2 = AreBytes-drop 8 t1 fits1 in
    let third = front w64 (2 ^ 64) back64 t2 fits2
    (omega (arith, length-drop 5 bytes, length-drop 1 t, length-drop 8 t1)) in
    let t3 = drop 8 t2 in
    let fits3 = AreBytes-drop 8 t2 fits2 in
    let fourth = front w64 (2 ^ 64) back64 t3 fits3
    (omega (arith, length-drop 5 bytes, length-drop 1 t, length-drop 8 t1, length-drop 8 t2)) in
    let a = from_be_bytes w64 (take 8 t1) in
    let b = from_be_bytes w64 (take 8 t2) in
    let c = from_be_bytes w64 (take 8 t3) in
    let version : t ≡ u8 1 ++ t1 = first.0 ∙ ap (λ (n : ℕ). u8 n ++ t1) (eqb-true _ _ versioned.0) in
    let parts : bytes ≡ magic ++ (u8 1 ++ (u64 a ++ (u64 b ++ (u64 c ++ drop 8 t3)))) =
    sym (take-append-drop 5 bytes) ∙ ap (λ (x : List ℕ). x ++ t) ((bytes_decides _ _).0 begun.0)
    ∙ ap (λ (x : List ℕ). magic ++ x)
    (version ∙ ap (λ (x : List ℕ). u8 1 ++ x)
    (second.0 ∙ ap (λ (x : List ℕ). u64 a ++ x) (third.0 ∙ ap (λ (x : List ℕ). u64 b ++ x) fourth.0))) in
    at_front bytes (drop 8 t3) a b c h second.1 third.1 fourth.1 parts ((bytes_decides _ _).0 marked.0) versioned.1
