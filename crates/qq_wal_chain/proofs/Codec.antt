-- The format of the log of a node's queues is one: what is read stands there, and what was written is read again.
use Rattle.std.proofs.Common.{◌≡◌, ◌≤◌, ◌<◌, ◌+◌, ℕ, zero, suc, Bool, true, false, cond, ltb, List, [], ◌∷◌, ◌++◌, length, take, drop, Some, Result, Ok, Err, refl, sym, ap, subst, ◌∙◌, arith, append_assoc, length-append, length-drop, length-take, take-append-drop, drop_at, slice_index}
use Rattle.std.proofs.lemmas.Bool.{ltb-true, ltb-false, lt-ltb, le-ltb}
use Rattle.std.proofs.lemmas.List.{take-append-le, drop-append-le}
use Rattle.qq_base.specs.declared.ids.QueueId.{QueueId}
use Rattle.qq_base.specs.Fields.{AreBytes}
use Rattle.qq_base.proofs.Numbers.{AreBytes-take}
use Rattle.qq_wal_record.specs.declared.record.LogRecord.{LogRecord}
use Rattle.qq_wal_record.specs.declared.record.NoRecord.{NoRecord}
use Rattle.qq_wal_record.specs.declared.header.Header.{Header}
use Rattle.qq_wal_record.specs.Encoding.{record_encoding, header_encoding}
use Rattle.qq_wal_record.specs.Reading.{record_at, header_at, IsHeader, IsRecordAt}
use Rattle.qq_wal_record.specs.Record.{IsWritable}
use Rattle.qq_base.specs.Fronts.{IsFront}
use Rattle.qq_wal_chain.specs.Format.{IsFormat}
use Rattle.qq_wal_chain.specs.Wal.{real_bytes, record_of, read_record, WholeHeader, Ours, Another, whole_header, read_whole_header, encode_header, RecordFits, HeaderFits, wal}
use Rattle.qq_base.proofs.Fronts.{front-cons, front-nil}

real-append : (a rest : List ℕ) → AreBytes a → real_bytes (a ++ rest) ≡ a ++ real_bytes rest
real-append [] rest h = refl
real-append (b ∷ a) rest h =
    ap (λ (t : Bool). cond t (b ∷ real_bytes (a ++ rest)) []) (lt-ltb b 256 (h 0))
    ∙ ap (λ (l : List ℕ). b ∷ l) (real-append a rest (λ i. h (suc i)))

-- of bytes alone nothing is left out
pub real-same : (bytes : List ℕ) → AreBytes bytes → real_bytes bytes ≡ bytes
real-same [] h = refl
real-same (b ∷ bytes) h =
    ap (λ (t : Bool). cond t (b ∷ real_bytes bytes) []) (lt-ltb b 256 (h 0))
    ∙ ap (λ (l : List ℕ). b ∷ l) (real-same bytes (λ i. h (suc i)))

real-are : (bytes : List ℕ) → AreBytes (real_bytes bytes)
real-are [] i = omega arith
real-are (b ∷ bytes) i = by (ltb b 256) refl i (real-are bytes)
  where
    by : (t : Bool) → ltb b 256 ≡ t → (i : ℕ) → AreBytes (real_bytes bytes)
        → slice_index (cond t (b ∷ real_bytes bytes) []) i < 256
    by true e zero later = ltb-true b 256 e
    by true e (suc i) later = later i
    by false e i later = omega arith

real-front : (bytes : List ℕ) → IsFront (real_bytes bytes) bytes
real-front [] = front-nil []
real-front (b ∷ bytes) = by (ltb b 256) (real-front bytes)
  where
    by : (t : Bool) → IsFront (real_bytes bytes) bytes → IsFront (cond t (b ∷ real_bytes bytes) []) (b ∷ bytes)
    by true later = front-cons b (real_bytes bytes) bytes later
    by false later = front-nil (b ∷ bytes)

-- what two lists that begin alike have between two places
same-part : (a x y : List ℕ) (p k : ℕ) → p + k ≤ length a → take k (drop p (a ++ x)) ≡ take k (drop p (a ++ y))
same-part a x y p k h = part x ∙ sym (part y)
  where
    part : (x : List ℕ) → take k (drop p (a ++ x)) ≡ take k (drop p a)
    part x =
        ap (λ (l : List ℕ). take k l) (drop-append-le p a x (omega arith))
        ∙ take-append-le k (drop p a) x (omega (arith, length-drop p a))

header-same : (a x y : List ℕ) → 38 ≤ length a → header_at (a ++ x) ≡ header_at (a ++ y)
unfolding header_at
header-same a x y h =
    let magic = same-part a x y 0 5 (omega arith) in
    let body = same-part a x y 0 30 (omega arith) in
    let mark = same-part a x y 30 8 (omega arith) in
    let version = same-part a x y 5 1 (omega arith) in
    let file = same-part a x y 6 8 (omega arith) in
    let previous = same-part a x y 14 8 (omega arith) in
    let good = same-part a x y 22 8 (omega arith) in
    let one : ltb (length (a ++ x)) 38 ≡ false = le-ltb (length (a ++ x)) 38 (omega (arith, length-append a x)) in
    let other : ltb (length (a ++ y)) 38 ≡ false = le-ltb (length (a ++ y)) 38 (omega (arith, length-append a y)) in
    cc

header-fits : (bytes : List ℕ) (h : WholeHeader) → read_whole_header bytes ≡ Some h → 38 ≤ length bytes
unfolding header_at
header-fits bytes h e = by (ltb (length bytes) 38) refl
  where
    by : (t : Bool) → ltb (length bytes) 38 ≡ t → 38 ≤ length bytes
    by false less = ltb-false (length bytes) 38 less
    by true less = absurd (cc (rw less at e))

-- what is known of the encodings
pub record IsCodec : Type 0 where
  pub again : (n : ℕ) (r : LogRecord) (rest : List ℕ) → IsWritable r
      → record_at n (record_encoding n r ++ rest) ≡ Ok (r, length (record_encoding n r))
  pub exact : (n : ℕ) (bytes : List ℕ) (x : LogRecord × ℕ) → AreBytes bytes → record_at n bytes ≡ Ok x
      → IsRecordAt n bytes x
  pub some : (n : ℕ) (r : LogRecord) → 0 < length (record_encoding n r)
  pub header_again : (h : Header) (rest : List ℕ) → IsHeader h → header_at (header_encoding h ++ rest) ≡ Ok h
  pub header_length : (h : Header) → length (header_encoding h) ≡ 38

module _ (codec : IsCodec) where
  record Read (n : ℕ) (bytes : List ℕ) (r : LogRecord) : Type 0 where
    fits : RecordFits n r
    rest : List ℕ
    is : bytes ≡ record_encoding n r ++ rest

  read : (n : ℕ) (bytes : List ℕ) (r : LogRecord) → read_record n bytes ≡ Some r → Read n bytes r
  read n bytes r e = by (record_at n (real_bytes bytes)) refl e
    where
      by : (o : Result (LogRecord × ℕ) NoRecord) → record_at n (real_bytes bytes) ≡ o → record_of o ≡ Some r
          → Read n bytes r
      by (Err refusal) is e = absurd cc
      by (Ok x) is e =
          let here = codec.exact n (real_bytes bytes) x (real-are bytes) is in
          let same : x.0 ≡ r = cc in
          let front = real-front bytes in
          record {
            fits = (
              subst (λ (r : LogRecord). IsWritable r) same here.writable,
              subst (λ (bs : List ℕ). AreBytes bs)
                  (here.front ∙ ap (λ (r : LogRecord). record_encoding n r) same)
                  (AreBytes-take x.1 (real_bytes bytes) (real-are bytes)),
            );
            rest = drop x.1 (real_bytes bytes) ++ front.rest;
            is =
                front.is
                ∙ ap (λ (l : List ℕ). l ++ front.rest) (sym (take-append-drop x.1 (real_bytes bytes)))
                ∙ append_assoc (take x.1 (real_bytes bytes)) (drop x.1 (real_bytes bytes)) front.rest
                ∙ ap (λ (l : List ℕ). l ++ (drop x.1 (real_bytes bytes) ++ front.rest))
                (here.front ∙ ap (λ (r : LogRecord). record_encoding n r) same);
          }

  pub is_format : (queues : List QueueId) → IsFormat (wal queues)
  is_format queues = record {
    again = λ n r rest fit. ap (λ (bs : List ℕ). record_of (record_at n bs))
        (real-append (record_encoding n r) rest fit.1) ∙ ap record_of (codec.again n r (real_bytes rest) fit.0);
    exact = λ n bytes r e.
        let here = read n bytes r e in
        here.is ∙ ap (λ (l : List ℕ). record_encoding n r ++ l)
        (sym (ap (λ (l : List ℕ). drop (length (record_encoding n r)) l) here.is
        ∙ drop_at (record_encoding n r) here.rest (length (record_encoding n r)) refl));
    fits = λ n bytes r e. (read n bytes r e).fits;
    some = codec.some;
    header_again = header_again;
    header_length = header_length;
    header_whole = header-fits;
    header_local = λ bytes rest h. ap whole_header
        (header-same (take 38 bytes) rest (drop 38 bytes) (omega (arith, length-take 38 bytes))
        ∙ ap header_at (take-append-drop 38 bytes));
  }
    where
      header_again : (h : WholeHeader) (rest : List ℕ) → HeaderFits h
          → read_whole_header (encode_header h ++ rest) ≡ Some h
      header_again (Ours h) rest fits = ap whole_header (codec.header_again h rest fits)
      header_again (Another version) rest fits = absurd fits

      header_length : (h : WholeHeader) → HeaderFits h → length (encode_header h) ≡ 38
      header_length (Ours h) fits = codec.header_length h
      header_length (Another version) fits = absurd fits
