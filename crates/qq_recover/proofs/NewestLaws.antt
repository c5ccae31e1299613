-- The newest of the files that are listed is the newest of the chain.
use Rattle.std.proofs.Common.{◌≡◌, ◌≤◌, ◌<◌, append-nil, take, drop, ℕ, zero, suc, Bool, true, false, cond, eqb, ltb, ◌&&◌, List, [], ◌∷◌, length, Option, Some, None, refl, sym, ap, subst, ◌∙◌, arith, inl, inr, ◌⊎◌, is_some, IsTrue, slice_index_or, ◌||◌}
use Rattle.std.proofs.lemmas.List.{take_at, take_all, length-take}
use Rattle.std.proofs.lemmas.Bool.{cases_lt, ltb-true, ltb-false}
use Rattle.std.specs.Prelude.{unwrap_or}
use Rattle.qq_base.proofs.Lists.{In}
use Rattle.qq_base.specs.declared.ids.QueueId.{QueueId}
use Rattle.qq_disk.specs.declared.name.FileName.{FileName}
use Rattle.qq_disk.specs.Name.{rank, same_name}
use Rattle.qq_disk.specs.Disk.{Disk, contents, content, IsListing, IsListed, IsRead}
use Rattle.qq_disk.specs.Image.{log_of}
use Rattle.qq_disk.proofs.Names.{same_name-true, same_name-refl}
use Rattle.qq_wal_record.specs.Reading.{header_at}
use Rattle.qq_wal_chain.specs.Chain.{has_header, newest}
use Rattle.qq_wal_chain.specs.Format.{IsFormat}
use Rattle.qq_wal_chain.specs.Wal.{wal, read_whole_header}
use Rattle.qq_wal_chain.proofs.Walk.{newest-is, newest-has}
use Rattle.qq_recover.specs.Newest.{has_whole, has_log, is_among, newer, newest_of}
use Rattle.qq_wal.specs.Running.{top}
use Rattle.qq_recover.specs.Reading.{shown, newest_file}

module _ (has : ℕ → Bool) where
  newer-rises : (newest : ℕ) (file : FileName) → newest ≤ newer has newest file
  newer-rises newest file = by (eqb (rank file.kind) 0) (ltb newest file.number) refl (has file.number)
    where
      by : (log less : Bool) → ltb newest file.number ≡ less → (whole : Bool)
          → newest ≤ cond log (cond (less && whole) file.number newest) newest
      by true true e true = omega (arith, ltb-true newest file.number e)
      by true true e false = omega arith
      by true false e whole = omega arith
      by false less e whole = omega arith

  pub newest-rises : (newest : ℕ) (files : List FileName) → newest ≤ newest_of has newest files
  newest-rises newest [] = omega arith
  newest-rises newest (file ∷ files) = omega (arith, newer-rises newest file, newest-rises (newer has newest file) files)

  -- none, or it has a whole header
  abbrev Whole : ℕ → Type 0
  Whole n = (n ≡ 0) ⊎ (has n ≡ true)

  newer-whole : (newest : ℕ) (file : FileName) → Whole newest → Whole (newer has newest file)
  newer-whole newest file whole = by (eqb (rank file.kind) 0) (ltb newest file.number) (has file.number) refl
    where
      by : (log less w : Bool) → has file.number ≡ w
          → Whole (cond log (cond (less && w) file.number newest) newest)
      by true true true e = inr e
      by true true false e = whole
      by true false w e = whole
      by false less w e = whole

  pub newest-whole : (newest : ℕ) (files : List FileName) → Whole newest → Whole (newest_of has newest files)
  newest-whole newest [] whole = whole
  newest-whole newest (file ∷ files) whole = newest-whole (newer has newest file) files (newer-whole newest file whole)

  newer-least : (newest n : ℕ) → has n ≡ true → n ≤ newer has newest (log_of n)
  newer-least newest n whole = by (ltb newest n) refl (has n) whole
    where
      by : (less : Bool) → ltb newest n ≡ less → (w : Bool) → w ≡ true → n ≤ cond (less && w) n newest
      by true e true w = omega arith
      by false e true w = omega (arith, ltb-false newest n e)
      by less e false w = absurd cc

  -- no listed one that has one is newer
  pub newest-most : (newest : ℕ) (files : List FileName) (n : ℕ) → In (log_of n) files → has n ≡ true
      → n ≤ newest_of has newest files
  newest-most newest [] n here whole = absurd here
  newest-most newest (file ∷ files) n (inl here) whole =
      omega (
        arith,
        subst (λ (file : FileName). n ≤ newer has newest file) here (newer-least newest n whole),
        newest-rises (newer has newest file) files,
      )
  newest-most newest (file ∷ files) n (inr later) whole = newest-most (newer has newest file) files n later whole

-- ---- of the names that a disk lists

In-from_index : {A : Type 0} (xs : List A) (x : A) (k : ℕ) → k < length xs → slice_index_or xs k x ≡ x → In x xs
In-from_index [] x k h e = absurd (omega arith)
In-from_index (y ∷ ys) x zero h e = inl (sym e)
In-from_index (y ∷ ys) x (suc k) h e = inr (In-from_index ys x k (omega arith) e)

pub same-whole : (queues : List QueueId) (o : Option (List ℕ)) → has_header (wal queues) o ≡ has_whole o
same-whole queues None = refl
same-whole queues (Some bytes) = refl

-- what a file that is listed shows
pub content-whole : (o : Option (List ℕ)) → is_some (read_whole_header (unwrap_or o [])) ≡ has_whole o
unfolding header_at
content-whole None = refl
content-whole (Some bytes) = refl

module _ (d : Disk) (names : List FileName) (listing : IsListing d names) where
  whole-listed : (n : ℕ) → has_log (shown d) n ≡ true → In (log_of n) names
  whole-listed n whole = by (contents d (log_of n)) refl whole
    where
      by : (o : Option (List ℕ)) → contents d (log_of n) ≡ o → has_whole o ≡ true → In (log_of n) names
      by None e whole = absurd cc
      by (Some bytes) e whole =
          let here : IsListed d (log_of n) = subst (λ (o : Option (List ℕ)). IsTrue (is_some o)) (sym e) refl in
          let c = (listing.listed (log_of n)).1 here in
          In-from_index names (log_of n) c.0 c.1 c.2

  pub newest-listed : (queues : List QueueId) → newest_of (has_log (shown d)) 0 names ≤ top
      → newest_of (has_log (shown d)) 0 names ≡ newest_file queues (shown d)
  newest-listed queues within = by (cases_lt 0 n) (newest-whole has 0 names (inl refl))
    where
      has : ℕ → Bool
      has = has_log (shown d)

      n : ℕ
      n = newest_of has 0 names

      least : (m : ℕ) → has_header (wal queues) (shown d m) ≡ true → m ≤ n
      least m whole =
          let here : has m ≡ true = sym (same-whole queues (shown d m)) ∙ whole in
          newest-most has 0 names m (whole-listed m here) here

      above : (m : ℕ) → n < m → m ≤ top → has_header (wal queues) (shown d m) ≡ false
      above m less most = each (has_header (wal queues) (shown d m)) refl
        where
          each : (t : Bool) → has_header (wal queues) (shown d m) ≡ t → has_header (wal queues) (shown d m) ≡ false
          each false e = e
          each true e = absurd (omega (arith, least m e))

      none : n ≤ 0 → newest_file queues (shown d) ≡ 0
      none empty = each (cases_lt 0 (newest_file queues (shown d)))
        where
          each : (0 < newest_file queues (shown d)) ⊎ (newest_file queues (shown d) ≤ 0) → newest_file queues (shown d) ≡ 0
          each (inl some) =
              absurd (omega (arith, least (newest_file queues (shown d)) (newest-has (wal queues) top (shown d) some)))
          each (inr most) = omega arith

      by : (0 < n) ⊎ (n ≤ 0) → (n ≡ 0) ⊎ (has n ≡ true) → n ≡ newest_file queues (shown d)
      by (inr empty) whole = omega (arith, none empty)
      by (inl some) (inl nothing) = absurd (omega arith)
      by (inl some) (inr whole) =
          sym (newest-is (wal queues) top (shown d) n within some (same-whole queues (shown d n) ∙ whole) above)

-- ---- whether a file is listed

among-in : (names : List FileName) (file : FileName) → is_among names file ≡ true → In file names
among-in [] file e = absurd cc
among-in (name ∷ names) file e = by (same_name name file) refl e (among-in names file)
  where
    by : (t : Bool) → same_name name file ≡ t → (t || is_among names file) ≡ true
        → (is_among names file ≡ true → In file names) → In file (name ∷ names)
    by true same e later = inl (sym (same_name-true name file same))
    by false same e later = inr (later e)

in-among : (names : List FileName) (file : FileName) → In file names → is_among names file ≡ true
in-among [] file here = absurd here
in-among (name ∷ names) file (inl here) =
    ap (λ (t : Bool). t || is_among names file)
    (subst (λ (name : FileName). same_name name file ≡ true) here (same_name-refl file))
in-among (name ∷ names) file (inr later) = or-right (same_name name file) (is_among names file) (in-among names file later)
  where
    or-right : (a b : Bool) → b ≡ true → (a || b) ≡ true
    or-right true b e = refl
    or-right false b e = e

in-index : {A : Type 0} (x : A) (xs : List A) → In x xs → (k : ℕ) × (k < length xs) × (slice_index_or xs k x ≡ x)
in-index x [] here = absurd here
in-index x (y ∷ ys) (inl here) = (0, omega arith, sym here)
in-index x (y ∷ ys) (inr later) =
    let r = in-index x ys later in
    (suc r.0, omega (arith, r.1), r.2)

module _ (d : Disk) (names : List FileName) (listing : IsListing d names) (file : FileName) where
  pub listed-shows : is_among names file ≡ true → contents d file ≡ Some (content d file)
  listed-shows e =
      by (contents d file) refl ((listing.listed file).0 (in-index file names (among-in names file e)))
    where
      by : (o : Option (List ℕ)) → contents d file ≡ o → IsTrue (is_some (contents d file))
          → contents d file ≡ Some (unwrap_or (contents d file) [])
      by None is here =
          absurd (let e : false ≡ true = subst (λ (o : Option (List ℕ)). IsTrue (is_some o)) is here in cc)
      by (Some bytes) is here = is ∙ ap (λ (o : Option (List ℕ)). Some (unwrap_or o [])) (sym is)

  pub unlisted-absent : is_among names file ≡ false → contents d file ≡ None
  unlisted-absent e = by (contents d file) refl
    where
      by : (o : Option (List ℕ)) → contents d file ≡ o → contents d file ≡ None
      by None is = is
      by (Some bytes) is =
          let here : IsListed d file = subst (λ (o : Option (List ℕ)). IsTrue (is_some o)) (sym is) refl in
          let c = (listing.listed file).1 here in
          absurd (let both : false ≡ true = sym e ∙ in-among names file (In-from_index names file c.0 c.1 c.2) in cc)

-- ---- the front of a file

-- a header is read from the first bytes
pub front-whole : (laws : IsFormat (wal [])) (bytes old new : List ℕ) (count : ℕ) → length old ≡ 38
    → IsRead bytes 0 count old new → read_whole_header (take count new) ≡ read_whole_header bytes
front-whole laws bytes old new count long read =
    ap (λ (bs : List ℕ). read_whole_header (take count bs)) read.buffer
    ∙ ap (λ (bs : List ℕ). read_whole_header bs)
    (take_at (take count bytes) (drop count old) count
    (length-take count bytes ∙ (omega (arith, read.as_many, long))))
    ∙ by (cases_lt (length bytes) 38)
  where
    by : (length bytes < 38) ⊎ (38 ≤ length bytes)
        → read_whole_header (take count bytes) ≡ read_whole_header bytes
    by (inl short) =
        ap (λ (bs : List ℕ). read_whole_header bs) (take_all count bytes (omega (arith, read.as_many, long)))
    by (inr enough) =
        let all : count ≡ 38 = omega (arith, read.as_many, long) in
        ap (λ (n : ℕ). read_whole_header (take n bytes)) all
        ∙ ap (λ (bs : List ℕ). read_whole_header bs) (sym (append-nil (take 38 bytes)))
        ∙ laws.header_local bytes [] enough
