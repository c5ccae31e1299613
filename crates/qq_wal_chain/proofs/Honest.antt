-- The premise on what a crash leaves: under it the records of an image are a front of those that were written, and
-- what is cut keeps it.
use Rattle.std.proofs.Common.{◌≡◌, ◌≤◌, ◌<◌, ◌+◌, ℕ, List, [], ◌∷◌, ◌++◌, length, take, drop, Option, Some, None, refl, sym, ap, subst, ◌∙◌, append_assoc, append-nil, length-append, length-drop, take-append-drop, take_at, drop-drop, arith, inl, inr, ◌⊎◌}
use Rattle.std.proofs.lemmas.Bool.{cases_lt}
use Rattle.std.proofs.lemmas.List.{drop-append-le}
use Rattle.qq_disk.specs.Disk.{FileState}
use Rattle.qq_base.specs.Fronts.{IsFront}
use Rattle.qq_wal_chain.specs.Format.{Format, IsFormat}
use Rattle.qq_wal_chain.specs.Records.{encode_all, records, file_records, end_of}
use Rattle.qq_wal_chain.specs.Image.{IsHonest, all_bytes, place}
use Rattle.qq_base.proofs.Fronts.{front-nil, front-cons, front-behind}
use Rattle.qq_wal_chain.proofs.Runs.{records-none, records-some, read-local, read-fits, encode-append}

module _ (F : Format) (laws : IsFormat F) (n : ℕ) where
  -- two lists that share their first bytes: at each place of a record of the one, what the other has is that record
  -- too, or reaches past what they share
  module _ (kept tail pending : List ℕ) (honest : (k : ℕ) (r : F.Record)
      → length kept < place F n (kept ++ pending) k + length (F.encode n r)
      → F.read n (drop (place F n (kept ++ pending) k) (kept ++ tail)) ≡ Some r
      → F.read n (drop (place F n (kept ++ pending) k) (kept ++ pending)) ≡ Some r) where
    -- what is read at a place stands there in all
    read-all : (k : ℕ) (r : F.Record)
        → F.read n (drop (place F n (kept ++ pending) k) (kept ++ tail)) ≡ Some r
        → F.read n (drop (place F n (kept ++ pending) k) (kept ++ pending)) ≡ Some r
    read-all k r e = by (cases_lt (length kept) (place F n (kept ++ pending) k + length (F.encode n r)))
      where
        at : ℕ
        at = place F n (kept ++ pending) k

        by : (length kept < at + length (F.encode n r)) ⊎ (at + length (F.encode n r) ≤ length kept)
            → F.read n (drop at (kept ++ pending)) ≡ Some r
        by (inl h) = honest k r h e
        by (inr h) =
            let one = drop-append-le at kept tail (omega arith) in
            let other = drop-append-le at kept pending (omega arith) in
            ap (λ (bs : List ℕ). F.read n bs) other
            ∙ read-local F laws n (drop at kept) tail pending r (omega (arith, length-drop at kept))
            (ap (λ (bs : List ℕ). F.read n bs) (sym one) ∙ e)

    same-place : (done left : List F.Record) → file_records F n (kept ++ pending) ≡ done ++ left
        → place F n (kept ++ pending) (length done) ≡ end_of F n done
    same-place done left split =
        ap (λ (rs : List F.Record). end_of F n (take (length done) rs)) split
        ∙ ap (λ (rs : List F.Record). end_of F n rs) (take_at done left (length done) refl)

    read-at : (done left : List F.Record) (r : F.Record) → file_records F n (kept ++ pending) ≡ done ++ left
        → F.read n (drop (end_of F n done) (kept ++ tail)) ≡ Some r
        → F.read n (drop (end_of F n done) (kept ++ pending)) ≡ Some r
    read-at done left r split e =
        subst (λ (at : ℕ). F.read n (drop at (kept ++ tail)) ≡ Some r → F.read n (drop at (kept ++ pending)) ≡ Some r)
        (same-place done left split) (read-all (length done) r) e

    -- the place behind one record more
    next-place : (done : List F.Record) (r : F.Record) (bytes : List ℕ)
        → drop (length (F.encode n r)) (drop (end_of F n done) bytes) ≡ drop (end_of F n (done ++ r ∷ [])) bytes
    next-place done r bytes =
        drop-drop (length (F.encode n r)) (end_of F n done) bytes
        ∙ ap (λ (at : ℕ). drop at bytes) (omega (
          arith,
          ap length (encode-append F n done (r ∷ [])),
          length-append
              (encode_all F n done) (encode_all F n (r ∷ [])),
          length-append (F.encode n r) [],
        ))

    front-from : (left done : List F.Record) → file_records F n (kept ++ pending) ≡ done ++ left
        → records F n (drop (end_of F n done) (kept ++ pending)) ≡ left
        → IsFront (records F n (drop (end_of F n done) (kept ++ tail))) left
    front-from [] done split all = by (F.read n (drop (end_of F n done) (kept ++ tail))) refl
      where
        by : (o : Option F.Record) → F.read n (drop (end_of F n done) (kept ++ tail)) ≡ o
            → IsFront (records F n (drop (end_of F n done) (kept ++ tail))) []
        by None e = record {
          rest = [];
          is = sym
              (append-nil (records F n (drop (end_of F n done) (kept ++ tail)))
              ∙ records-none F laws n (drop (end_of F n done) (kept ++ tail)) e);
        }
        by (Some r) e =
            let some = records-some F laws n (drop (end_of F n done) (kept ++ pending)) r
            (read-at done [] r split e) in
            absurd (cc (all, some))
    front-from (x ∷ left) done split all = by (F.read n (drop (end_of F n done) (kept ++ tail))) refl
        (λ split all. front-from left (done ++ x ∷ []) split all)
      where
        by : (o : Option F.Record) → F.read n (drop (end_of F n done) (kept ++ tail)) ≡ o
            → (file_records F n (kept ++ pending) ≡ (done ++ x ∷ []) ++ left
            → records F n (drop (end_of F n (done ++ x ∷ [])) (kept ++ pending)) ≡ left
            → IsFront (records F n (drop (end_of F n (done ++ x ∷ [])) (kept ++ tail))) left)
            → IsFront (records F n (drop (end_of F n done) (kept ++ tail))) (x ∷ left)
        by None e next =
            subst (λ (rs : List F.Record). IsFront rs (x ∷ left))
            (sym (records-none F laws n (drop (end_of F n done) (kept ++ tail)) e)) (front-nil (x ∷ left))
        by (Some r) e next =
            let some = records-some F laws n (drop (end_of F n done) (kept ++ pending)) r
            (read-at done (x ∷ left) r split e) in
            let both : r ∷ records F n (drop (length (F.encode n r)) (drop (end_of F n done) (kept ++ pending))) ≡ x ∷
            left = sym some ∙ all in
            let one : r ≡ x = cc both in
            let later : records F n (drop (length (F.encode n r)) (drop (end_of F n done) (kept ++ pending))) ≡ left =
            cc both in
            let behind : (bytes : List ℕ) → drop (length (F.encode n r)) (drop (end_of F n done) bytes) ≡ drop
            (end_of F n (done ++ x ∷ [])) bytes = λ bytes. next-place done r bytes
            ∙ ap (λ (r : F.Record). drop (end_of F n (done ++ r ∷ [])) bytes) one in
            let f = next (split ∙ sym (append_assoc done (x ∷ []) left))
            (ap (λ (bs : List ℕ). records F n bs) (sym (behind (kept ++ pending))) ∙ later) in
            subst (λ (rs : List F.Record). IsFront rs (x ∷ left))
            (ap (λ (r : F.Record). r ∷ records F n (drop (end_of F n (done ++ x ∷ [])) (kept ++ tail))) (sym one)
            ∙ ap (λ (bs : List ℕ). r ∷ records F n bs) (sym (behind (kept ++ tail)))
            ∙ sym (records-some F laws n (drop (end_of F n done) (kept ++ tail)) r e))
            (front-cons x (records F n (drop (end_of F n (done ++ x ∷ [])) (kept ++ tail))) left f)

  -- under the premise the records of an image are a front of those that were written
  pub trusted-front : (f : FileState) (bytes tail : List ℕ) → bytes ≡ f.kept ++ tail → IsHonest F n f bytes
      → IsFront (file_records F n bytes) (file_records F n (all_bytes f))
  trusted-front f bytes tail e honest =
      let zero-place : end_of F n [] ≡ F.header_size = omega arith in
      let begin : (bs : List ℕ) → records F n (drop (end_of F n []) bs) ≡ file_records F n bs =
      λ bs. ap (λ (at : ℕ). records F n (drop at bs)) zero-place in
      let front = front-from f.kept tail f.pending
      (λ k r. subst (λ (bs : List ℕ). length f.kept < place F n (all_bytes f) k + length (F.encode n r)
      → F.read n (drop (place F n (all_bytes f) k) bs) ≡ Some r
      → F.read n (drop (place F n (all_bytes f) k) (all_bytes f)) ≡ Some r) e (honest.record_at k r))
      (file_records F n (all_bytes f)) [] refl (begin (all_bytes f)) in
      subst (λ (rs : List F.Record). IsFront rs (file_records F n (all_bytes f)))
      (begin (f.kept ++ tail) ∙ ap (λ (bs : List ℕ). file_records F n bs) (sym e)) front

  -- a header that stands in a part stands in all
  pub header-front : (bytes all : List ℕ) (h : F.Header) → IsFront bytes all → F.read_header bytes ≡ Some h
      → F.read_header all ≡ Some h
  header-front bytes all h f e =
      ap (λ (bs : List ℕ). F.read_header bs) (f.is
      ∙ ap (λ (bs : List ℕ). bs ++ f.rest) (sym (take-append-drop F.header_size bytes))
      ∙ append_assoc (take F.header_size bytes) (drop F.header_size bytes) f.rest)
      ∙ laws.header_local bytes (drop F.header_size bytes ++ f.rest) (laws.header_whole bytes h e)
      ∙ e

  -- so does a record
  pub read-front : (bytes all : List ℕ) (at : ℕ) (r : F.Record) → IsFront bytes all
      → F.read n (drop at bytes) ≡ Some r → F.read n (drop at all) ≡ Some r
  read-front bytes all at r f e =
      let fits = read-fits F laws n (drop at bytes) r e in
      ap (λ (bs : List ℕ). F.read n bs) (ap (λ (bs : List ℕ). drop at bs) f.is
      ∙ drop-append-le at bytes f.rest (omega (arith, length-drop at bytes, laws.some n r)))
      ∙ read-local F laws n (drop at bytes) [] f.rest r fits
      (ap (λ (bs : List ℕ). F.read n bs) (append-nil (drop at bytes)) ∙ e)

  -- a part of what was written keeps the premise, and so does the whole
  pub cut-honest : (f : FileState) (tail : List ℕ) → IsFront tail f.pending → IsHonest F n f (f.kept ++ tail)
  cut-honest f tail front =
      let here = front-behind f.kept tail f.pending front in
      record {
        header = λ h less e. header-front (f.kept ++ tail) (all_bytes f) h here e;
        record_at = λ k r less e. read-front (f.kept ++ tail) (all_bytes f) (place F n (all_bytes f) k) r here e;
      }

  -- under the premise the header of an image is the one that was written
  pub trusted-header : (f : FileState) (bytes tail : List ℕ) (h : F.Header) → bytes ≡ f.kept ++ tail
      → IsHonest F n f bytes → F.read_header bytes ≡ Some h → F.read_header (all_bytes f) ≡ Some h
  trusted-header f bytes tail h is honest e = by (cases_lt (length f.kept) F.header_size)
    where
      by : (length f.kept < F.header_size) ⊎ (F.header_size ≤ length f.kept) → F.read_header (all_bytes f) ≡ Some h
      by (inl less) = honest.header h less e
      by (inr whole) =
          let first : F.read_header (take F.header_size f.kept ++ []) ≡ F.read_header f.kept =
          laws.header_local f.kept [] whole in
          let split : (more : List ℕ) → f.kept ++ more ≡ take F.header_size f.kept ++
          (drop F.header_size f.kept ++ more) = λ more. ap (λ (bs : List ℕ). bs ++ more)
          (sym (take-append-drop F.header_size f.kept))
          ∙ append_assoc (take F.header_size f.kept) (drop F.header_size f.kept) more in
          let same : (more : List ℕ) → F.read_header (f.kept ++ more) ≡ F.read_header f.kept =
          λ more. ap (λ (bs : List ℕ). F.read_header bs) (split more)
          ∙ laws.header_local f.kept (drop F.header_size f.kept ++ more) whole in
          same f.pending ∙ sym (same tail) ∙ ap (λ (bs : List ℕ). F.read_header bs) (sym is) ∙ e
