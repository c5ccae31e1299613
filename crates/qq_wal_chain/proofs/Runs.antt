-- The records of a file: those that were written are read, up to the first place where none stands.
use Rattle.std.proofs.Common.{◌≡◌, ◌≤◌, ℕ, zero, suc, List, [], ◌∷◌, ◌++◌, length, take, drop, Option, Some, None, refl, sym, ap, subst, ◌∙◌, append_assoc, append-nil, length-append, length-drop, take_at, drop_at, arith}
use Rattle.std.specs.List.{AllByRecursion}
use Rattle.qq_base.specs.Fronts.{IsFront}
use Rattle.qq_wal_chain.specs.Format.{Format, IsFormat}
use Rattle.qq_wal_chain.specs.Records.{encode_all, next_records, records_within, records}
use Rattle.qq_base.proofs.Fronts.{front-more, front-shorter}

module _ (F : Format) (laws : IsFormat F) (n : ℕ) where
  -- no record is read where no byte stands
  read-none : (o : Option F.Record) → F.read n [] ≡ o → o ≡ None
  read-none None e = refl
  read-none (Some r) e =
      absurd (omega (
        arith,
        laws.some n r,
        ap length (laws.exact n [] r e),
        length-append (F.encode n r)
            (drop (length (F.encode n r)) []),
      ))

  -- how much a record takes of the bytes that it is read from
  pub read-fits : (bytes : List ℕ) (r : F.Record) → F.read n bytes ≡ Some r → length (F.encode n r) ≤ length bytes
  read-fits bytes r e =
      omega (
        arith,
        ap length (laws.exact n bytes r e),
        length-append (F.encode n r)
            (drop (length (F.encode n r)) bytes),
      )

  -- any fuel of the bytes' length gives the same
  enough : (j k : ℕ) (bytes : List ℕ) → length bytes ≤ j → length bytes ≤ k
      → records_within F n j bytes ≡ records_within F n k bytes
  enough zero zero bytes hj hk = refl
  enough zero (suc k) [] hj hk =
      ap (λ (o : Option F.Record). next_records F n [] (records_within F n k) o) (sym (read-none (F.read n []) refl))
  enough zero (suc k) (b ∷ bytes) hj hk = absurd (omega arith)
  enough (suc j) zero [] hj hk =
      ap (λ (o : Option F.Record). next_records F n [] (records_within F n j) o) (read-none (F.read n []) refl)
  enough (suc j) zero (b ∷ bytes) hj hk = absurd (omega arith)
  enough (suc j) (suc k) bytes hj hk = by (F.read n bytes) refl
      (λ r e. enough j k (drop (length (F.encode n r)) bytes)
      (omega (arith, laws.some n r, length-drop (length (F.encode n r)) bytes))
      (omega (arith, laws.some n r, length-drop (length (F.encode n r)) bytes)))
    where
      by : (o : Option F.Record) → F.read n bytes ≡ o
          → ((r : F.Record) → F.read n bytes ≡ Some r
          → records_within F n j (drop (length (F.encode n r)) bytes) ≡ records_within F n k
          (drop (length (F.encode n r)) bytes))
          → next_records F n bytes (records_within F n j) o ≡ next_records F n bytes (records_within F n k) o
      by None e step = refl
      by (Some r) e step = ap (λ (rs : List F.Record). r ∷ rs) (step r e)

  pub records-none : (bytes : List ℕ) → F.read n bytes ≡ None → records F n bytes ≡ []
  unfolding records
  records-none [] e = refl
  records-none (b ∷ bytes) e =
      ap (λ (o : Option F.Record). next_records F n (b ∷ bytes) (records_within F n (length bytes)) o) e

  pub records-some : (bytes : List ℕ) (r : F.Record) → F.read n bytes ≡ Some r
      → records F n bytes ≡ r ∷ records F n (drop (length (F.encode n r)) bytes)
  unfolding records
  records-some [] r e = absurd (omega (arith, laws.some n r, read-fits [] r e))
  records-some (b ∷ bytes) r e =
      ap (λ (o : Option F.Record). next_records F n (b ∷ bytes) (records_within F n (length bytes)) o) e
      ∙ ap (λ (rs : List F.Record). r ∷ rs) (enough (length bytes) (length (drop (length (F.encode n r)) (b ∷ bytes)))
      (drop (length (F.encode n r)) (b ∷ bytes))
      (omega (arith, laws.some n r, length-drop (length (F.encode n r)) (b ∷ bytes))) (omega arith))

  pub records-nil : records F n [] ≡ []
  unfolding records
  records-nil = refl

  -- records that were written are read, whatever follows
  pub any-written : (rs : List F.Record) (rest : List ℕ) → AllByRecursion (F.Fits n) rs
      → records F n (encode_all F n rs ++ rest) ≡ rs ++ records F n rest
  any-written [] rest fit = refl
  any-written (r ∷ rs) rest fit =
      let behind : List ℕ = encode_all F n rs ++ rest in
      let is : (F.encode n r ++ encode_all F n rs) ++ rest ≡ F.encode n r ++ behind =
      append_assoc (F.encode n r) (encode_all F n rs) rest in
      ap (λ (bytes : List ℕ). records F n bytes) is
      ∙ records-some (F.encode n r ++ behind) r (laws.again n r behind fit.0)
      ∙ ap (λ (bytes : List ℕ). r ∷ records F n bytes) (drop_at (F.encode n r) behind (length (F.encode n r)) refl)
      ∙ ap (λ (l : List F.Record). r ∷ l) (any-written rs rest fit.1)

  pub written-again : (rs : List F.Record) → AllByRecursion (F.Fits n) rs → records F n (encode_all F n rs) ≡ rs
  written-again rs fit =
      ap (λ (bytes : List ℕ). records F n bytes) (sym (append-nil (encode_all F n rs))) ∙ any-written rs [] fit
      ∙ ap (λ (l : List F.Record). rs ++ l) records-nil ∙ append-nil rs

  -- what is read stands in front, and fits
  pub record Stand (bytes : List ℕ) : Type 0 where
    pub rest : List ℕ
    pub is : bytes ≡ encode_all F n (records F n bytes) ++ rest
    pub fit : AllByRecursion (F.Fits n) (records F n bytes)

  stand-by : (fuel : ℕ) (bytes : List ℕ) → length bytes ≤ fuel → Stand bytes
  stand-by zero bytes h = by (F.read n bytes) refl
    where
      by : (o : Option F.Record) → F.read n bytes ≡ o → Stand bytes
      by None e = record {
        rest = bytes;
        is = ap (λ (rs : List F.Record). encode_all F n rs ++ bytes) (sym (records-none bytes e));
        fit = subst (λ (rs : List F.Record). AllByRecursion (F.Fits n) rs) (sym (records-none bytes e)) tt;
      }
      by (Some r) e = absurd (omega (arith, laws.some n r, read-fits bytes r e))
  stand-by (suc fuel) bytes h = by (F.read n bytes) refl
      (λ r e. stand-by fuel (drop (length (F.encode n r)) bytes)
      (omega (arith, laws.some n r, length-drop (length (F.encode n r)) bytes, read-fits bytes r e)))
    where
      by : (o : Option F.Record) → F.read n bytes ≡ o
          → ((r : F.Record) → F.read n bytes ≡ Some r → Stand (drop (length (F.encode n r)) bytes)) → Stand bytes
      by None e step = record {
        rest = bytes;
        is = ap (λ (rs : List F.Record). encode_all F n rs ++ bytes) (sym (records-none bytes e));
        fit = subst (λ (rs : List F.Record). AllByRecursion (F.Fits n) rs) (sym (records-none bytes e)) tt;
      }
      by (Some r) e step =
          let later = step r e in
          let left : List ℕ = drop (length (F.encode n r)) bytes in
          record {
            rest = later.rest;
            is =
                laws.exact n bytes r e ∙ ap (λ (bs : List ℕ). F.encode n r ++ bs) later.is
                ∙ sym (append_assoc (F.encode n r) (encode_all F n (records F n left)) later.rest)
                ∙ ap (λ (rs : List F.Record). encode_all F n rs ++ later.rest) (sym (records-some bytes r e));
            fit = subst (λ (rs : List F.Record). AllByRecursion (F.Fits n) rs) (sym (records-some bytes r e))
                (laws.fits n bytes r e, later.fit);
          }

  pub stand : (bytes : List ℕ) → Stand bytes
  stand bytes = stand-by (length bytes) bytes (omega arith)

  -- up to the first place where no record stands the same records are read
  pub any-size : (bytes : List ℕ)
      → records F n (take (length (encode_all F n (records F n bytes))) bytes) ≡ records F n bytes
  any-size bytes =
      let s = stand bytes in
      let rs : List F.Record = records F n bytes in
      ap (λ (bs : List ℕ). records F n (take (length (encode_all F n rs)) bs)) s.is
      ∙ ap (λ (bs : List ℕ). records F n bs) (take_at (encode_all F n rs) s.rest (length (encode_all F n rs)) refl)
      ∙ written-again rs s.fit

  -- a cut shows a front
  pub any-front : (bytes all : List ℕ) → IsFront bytes all → IsFront (records F n bytes) (records F n all)
  any-front bytes all f =
      let s = stand bytes in
      let rs : List F.Record = records F n bytes in
      record {
        rest = records F n (s.rest ++ f.rest);
        is =
            ap (λ (bs : List ℕ). records F n bs) (f.is ∙ ap (λ (bs : List ℕ). bs ++ f.rest) s.is
            ∙ append_assoc (encode_all F n rs) s.rest f.rest)
            ∙ any-written rs (s.rest ++ f.rest) s.fit;
      }

  -- a record that lies in the bytes that two lists share is read from both
  pub read-local : (same one other : List ℕ) (r : F.Record) → length (F.encode n r) ≤ length same
      → F.read n (same ++ one) ≡ Some r → F.read n (same ++ other) ≡ Some r
  read-local same one other r h e =
      let front = front-here in
      ap (λ (bs : List ℕ). F.read n (bs ++ other)) front.is
      ∙ ap (λ (bs : List ℕ). F.read n bs) (append_assoc (F.encode n r) front.rest other)
      ∙ laws.again n r (front.rest ++ other) (laws.fits n (same ++ one) r e)
    where
      front-here : IsFront (F.encode n r) same
      front-here = front-shorter (record { rest = drop (length (F.encode n r)) (same ++ one); is = laws.exact n (same ++ one) r e })
          (front-more same one) h

pub encode-append : (F : Format) (n : ℕ) (a b : List F.Record)
    → encode_all F n (a ++ b) ≡ encode_all F n a ++ encode_all F n b
encode-append F n [] b = refl
encode-append F n (r ∷ a) b =
    ap (λ (bs : List ℕ). F.encode n r ++ bs) (encode-append F n a b)
    ∙ sym (append_assoc (F.encode n r) (encode_all F n a) (encode_all F n b))
