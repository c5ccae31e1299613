-- Log files that aren't read go, and the log stays as it is.
use Rattle.std.proofs.Common.{◌≡◌, ◌≤◌, ◌<◌, ℕ, zero, suc, Bool, true, false, cond, eqb, ◌&&◌, ◌||◌, not, List, [], ◌∷◌, ◌++◌, length, Option, Some, None, option_map, refl, sym, ap, subst, ◌∙◌, inl, inr, ◌⊎◌, arith, append-nil, IsTrue, is_some, slice_index_or}
use Rattle.std.specs.Prelude.{Contains}
use Rattle.qq_base.specs.declared.ids.QueueId.{QueueId}
use Rattle.qq_disk.specs.declared.name.FileKind.{FileKind}
use Rattle.qq_disk.specs.declared.name.FileKind.TheVariants.{Log, Segment, Snapshot}
use Rattle.qq_disk.specs.declared.name.FileName.{FileName}
use Rattle.qq_disk.specs.Disk.{Disk, FileState, IsListed, IsListing, contents, file_content, keep, mark_removed, now, remove, sync, whole}
use Rattle.qq_disk.specs.Facts.{DiskFacts}
use Rattle.qq_disk.specs.Image.{log_of}
use Rattle.qq_disk.specs.Moments.{Adds, IsRemoving}
use Rattle.qq_disk.specs.Name.{rank, same_name}
use Rattle.qq_disk.proofs.Moments.{adds-none, adds-now, adds-step, adds-weaker}
use Rattle.qq_disk.proofs.Names.{same_name-refl, same_name-true, set-at, set-other}
use Rattle.qq_wal_record.specs.declared.header.Header.{Header}
use Rattle.qq_wal_chain.specs.Promise.{sync_all}
use Rattle.qq_wal.specs.declared.wal.Wal.{Wal}
use Rattle.qq_wal.specs.Numbers.{greatest_number}
use Rattle.qq_wal.specs.Running.{IsNoneOf, IsOutside, MayRecover, Stays, StillMayRecover, numbers_behind}
use Rattle.qq_wal.specs.Wal.{IsSound}
use Rattle.qq_wal.proofs.OnDisk.{listed-below}
use Rattle.qq_wal.proofs.Steps.{stays-then}
use Rattle.qq_recover.specs.Clearing.{AreOutside, Clears, LacksOf, has_end, is_unread, numbers_of_ends, remove_one, remove_unread}
use Rattle.qq_recover.specs.Ends.{End}

-- ---- which files

pub none-of : (chain : List End) (m : ℕ) → has_end chain m ≡ false → IsNoneOf (numbers_of_ends chain) m
none-of [] m none = tt
none-of (end ∷ chain) m none = by (eqb m end.number) refl none (none-of chain m)
  where
    by : (t : Bool) → eqb m end.number ≡ t → (t || has_end chain m) ≡ false
        → (has_end chain m ≡ false → IsNoneOf (numbers_of_ends chain) m)
        → IsNoneOf (numbers_of_ends (end ∷ chain)) m
    by true is none later = absurd cc
    by false is none later = (is, later none)

pub has-none : (chain : List End) (m : ℕ) → IsNoneOf (numbers_of_ends chain) m → has_end chain m ≡ false
has-none [] m none = refl
has-none (end ∷ chain) m none = ap (λ (t : Bool). t || has_end chain m) none.0 ∙ has-none chain m none.1

pub record IsLogOutside (chain : List End) (file : FileName) : Type 0 where
  pub kind : file.kind ≡ Log
  pub is : file ≡ log_of file.number
  pub none : has_end chain file.number ≡ false

pub unread-log : (chain : List End) (file : FileName) → is_unread chain file ≡ true → IsLogOutside chain file
unread-log chain file unread = by file.kind refl
  where
    none : (t : Bool) → not t ≡ true → t ≡ false
    none true e = absurd cc
    none false e = refl

    by : (k : FileKind) → file.kind ≡ k → IsLogOutside chain file
    by Log e = record {
      kind = e;
      is = λ i. record { kind = e i; number = file.number };
      none = none (has_end chain file.number)
          (sym (ap (λ (k : FileKind). eqb (rank k) 0 && not (has_end chain file.number)) e) ∙ unread);
    }
    by Segment e =
        absurd (let no : false ≡ true =
        sym (ap (λ (k : FileKind). eqb (rank k) 0 && not (has_end chain file.number)) e) ∙ unread in cc)
    by Snapshot e =
        absurd (let no : false ≡ true =
        sym (ap (λ (k : FileKind). eqb (rank k) 0 && not (has_end chain file.number)) e) ∙ unread in cc)

pub is-unread : (chain : List End) (file : FileName) → file.kind ≡ Log → has_end chain file.number ≡ false
    → is_unread chain file ≡ true
is-unread chain file kind none =
    ap (λ (k : FileKind). eqb (rank k) 0 && not (has_end chain file.number)) kind ∙ ap not none

-- a file that is among names has no number above the greatest
pub among-within : (names : List FileName) (file : FileName) → file.kind ≡ Log → Contains names file
    → file.number ≤ greatest_number Log names
among-within names file kind has =
    let is : file ≡ log_of file.number = λ i. record { kind = kind i; number = file.number } in
    let c = subst (λ (f : FileName). Contains names f) is has in
    listed-below names c.0 0 file.number c.1 c.2

any-default : (names : List FileName) (k : ℕ) (x d : FileName) → k < length names
    → slice_index_or names k x ≡ slice_index_or names k d
any-default [] k x d less = absurd (omega arith)
any-default (name ∷ names) zero x d less = refl
any-default (name ∷ names) (suc k) x d less = any-default names k x d (omega arith)

pub among-at : (names : List FileName) (k : ℕ) (d : FileName) → k < length names
    → Contains names (slice_index_or names k d)
among-at names k d less = (k, less, any-default names k (slice_index_or names k d) d less)

-- ---- one file

mark-again : (o : Option FileState) → option_map mark_removed (option_map mark_removed o) ≡ option_map mark_removed o
mark-again None = refl
mark-again (Some f) = refl

removing : (names : List FileName) (chain : List End) (file : FileName) (d e : Disk) → Contains names file
    → is_unread chain file ≡ true → IsRemoving d file e → LacksOf names chain d e
removing names chain file d e has unread (inl same) other = inl (ap (λ (d : Disk). d other) same)
removing names chain file d e has unread (inr same) other = by (same_name file other) refl
  where
    at : (t : Bool) → same_name file other ≡ t → e other ≡ cond t (option_map mark_removed (d file)) (d other)
    at t is =
        ap (λ (d : Disk). d other) same ∙ ap (λ (t : Bool). cond t (option_map mark_removed (d file)) (d other)) is

    by : (t : Bool) → same_name file other ≡ t
        → (e other ≡ d other)
        ⊎ (Contains names other × (is_unread chain other ≡ true) × (e other ≡ option_map mark_removed (d other)))
    by true is =
        let one : file ≡ other = same_name-true file other is in
        inr (
          subst (λ (f : FileName). Contains names f) one has,
          subst (λ (f : FileName). is_unread chain f ≡ true) one unread,
          at true is ∙ ap (λ (f : FileName). option_map mark_removed (d f)) one,
        )
    by false is = inl (at false is)

lacks-none : (names : List FileName) (chain : List End) (d : Disk) → LacksOf names chain d d
lacks-none names chain d file = inl refl

abbrev Lack : List FileName → List End → FileName → Option FileState → Option FileState → Type 0
Lack names chain file o p =
    (p ≡ o) ⊎ (Contains names file × (is_unread chain file ≡ true) × (p ≡ option_map mark_removed o))

lack-then : (names : List FileName) (chain : List End) (file : FileName) (a b c : Option FileState)
    → Lack names chain file a b → Lack names chain file b c → Lack names chain file a c
lack-then names chain file a b c (inl first) (inl second) = inl (second ∙ first)
lack-then names chain file a b c (inr first) (inl second) = inr (first.0, first.1, second ∙ first.2)
lack-then names chain file a b c (inl first) (inr second) =
    inr (second.0, second.1, second.2 ∙ ap (λ (o : Option FileState). option_map mark_removed o) first)
lack-then names chain file a b c (inr first) (inr second) =
    inr (
      first.0,
      first.1,
      second.2 ∙ ap (λ (o : Option FileState). option_map mark_removed o) first.2 ∙ mark-again a,
    )

each-then : (names : List FileName) (chain : List End) (old mid new : List Disk)
    → Adds (LacksOf names chain (now old)) old mid → Adds (LacksOf names chain (now mid)) mid new
    → Adds (LacksOf names chain (now old)) old new
each-then names chain old mid new first second =
    let here = adds-now (LacksOf names chain (now old)) old mid first (lacks-none names chain (now old)) in
    adds-step (LacksOf names chain (now old)) (LacksOf names chain (now mid)) old mid new first second
    (λ e is file. lack-then names chain file (now old file) (now mid file) (e file) (here file) (is file))

-- ---- one call, and then another

module _ {D : Type 0} (facts : DiskFacts D) (names : List FileName) (chain : List End) where
  pub clears-none : (w : Wal D) → IsSound facts w → Clears facts names chain w w
  clears-none w sound = record {
    sound = sound;
    same = refl;
    told = refl;
    later = omega arith;
    outside = λ told out. out;
    stays = λ told noticed given keeps. adds-none _ (facts.past w.disk);
    may = λ told may. may;
    each = λ told. adds-none (LacksOf names chain (now (facts.past w.disk))) (facts.past w.disk);
  }

  pub clears-then : (old mid new : Wal D) → Clears facts names chain old mid
      → Clears facts names chain mid new → Clears facts names chain old new
  clears-then old mid new a b =
      let queues : mid.queues.items ≡ old.queues.items = ap (λ (w : Wal D). w.queues.items) a.same in
      let header : mid.header ≡ old.header = ap (λ (w : Wal D). w.header) a.same in
      record {
        sound = b.sound;
        same = b.same ∙ ap (λ (w : Wal D). record w { disk = new.disk; stopped = new.stopped }) a.same;
        told = b.told ∙ a.told;
        later = omega (arith, a.later, b.later);
        outside = λ told out.
            subst (λ (l : List QueueId). AreOutside l old.header chain (now (facts.past new.disk))) queues
            (subst (λ (h : Header). AreOutside mid.queues.items h chain (now (facts.past new.disk))) header
            (b.outside (after a.told told)
            (subst (λ (h : Header). AreOutside mid.queues.items h chain (now (facts.past mid.disk))) (sym header)
            (subst (λ (l : List QueueId). AreOutside l old.header chain (now (facts.past mid.disk))) (sym queues)
            (a.outside told out)))));
        stays = λ told.
            stays-then old.queues.items (facts.past old.disk) (facts.past mid.disk) (facts.past new.disk) (a.stays told)
            (subst (λ (l : List QueueId). Stays l (facts.past mid.disk) (facts.past new.disk)) queues
            (b.stays (after a.told told)));
        may = λ told may.
            subst (λ (l : List QueueId). StillMayRecover l (facts.past mid.disk) (facts.past new.disk)) queues
            (b.may (after a.told told)) (a.may told may);
        each = λ told.
            each-then names chain (facts.past old.disk) (facts.past mid.disk) (facts.past new.disk) (a.each told)
            (b.each (after a.told told));
      }
    where
      after : {was is : Bool} → is ≡ was → IsTrue was → IsTrue is
      after same told = subst (λ (t : Bool). IsTrue t) (sym same) told

  -- a file that isn't read is removed
  pub clears-one : (old new : Wal D) (file : FileName) → Contains names file → is_unread chain file ≡ true
      → IsSound facts new → new ≡ record old { disk = new.disk; stopped = new.stopped }
      → facts.tells new.disk ≡ facts.tells old.disk → facts.faults old.disk ≤ facts.faults new.disk
      → (IsTrue (facts.tells old.disk) → (m : ℕ) → IsOutside old.queues.items old.header (now (facts.past old.disk)) m
      → IsOutside old.queues.items old.header (now (facts.past new.disk)) m)
      → (IsTrue (facts.tells old.disk) → Stays old.queues.items (facts.past old.disk) (facts.past new.disk))
      → (IsTrue (facts.tells old.disk) → StillMayRecover old.queues.items (facts.past old.disk) (facts.past new.disk))
      → (IsTrue (facts.tells old.disk) → Adds (IsRemoving (now (facts.past old.disk)) (log_of file.number))
      (facts.past old.disk) (facts.past new.disk))
      → Clears facts names chain old new
  clears-one old new file has unread sound same told later outside stays may removes =
      let log = unread-log chain file unread in
      record {
        sound = sound;
        same = same;
        told = told;
        later = later;
        outside = λ t out m none apart. outside t m (out m none apart);
        stays = stays;
        may = may;
        each = λ t.
            adds-weaker (IsRemoving (now (facts.past old.disk)) (log_of file.number))
            (LacksOf names chain (now (facts.past old.disk))) (facts.past old.disk) (facts.past new.disk)
            (λ e is. removing names chain file (now (facts.past old.disk)) e has unread
            (subst (λ (f : FileName). IsRemoving (now (facts.past old.disk)) f e) (sym log.is) is)) (removes t);
      }

-- ---- what is gone

remove-at : (o : Option FileState) → file_content (option_map mark_removed o) ≡ None
remove-at None = refl
remove-at (Some f) = refl

remove-none : (d : Disk) (file other : FileName) → contents d other ≡ None → contents (remove d file) other ≡ None
remove-none d file other none = by (same_name file other) refl
  where
    at : (t : Bool) → same_name file other ≡ t
        → remove d file other ≡ cond t (option_map mark_removed (d file)) (d other)
    at t is = ap (λ (t : Bool). cond t (option_map mark_removed (d file)) (d other)) is

    by : (t : Bool) → same_name file other ≡ t → contents (remove d file) other ≡ None
    by true is = ap file_content (at true is) ∙ remove-at (d file)
    by false is = ap file_content (at false is) ∙ none

one-none : (chain : List End) (d : Disk) (file other : FileName) → contents d other ≡ None
    → contents (remove_one chain d file) other ≡ None
one-none chain d file other none = by (is_unread chain file)
  where
    by : (t : Bool) → contents (cond t (remove d file) d) other ≡ None
    by true = remove-none d file other none
    by false = none

all-none : (chain : List End) (names : List FileName) (d : Disk) (other : FileName) → contents d other ≡ None
    → contents (remove_unread chain d names) other ≡ None
all-none chain [] d other none = none
all-none chain (file ∷ names) d other none =
    all-none chain names (remove_one chain d file) other (one-none chain d file other none)

gone-at : (chain : List End) (names : List FileName) (d : Disk) (file : FileName) (k : ℕ) → k < length names
    → slice_index_or names k file ≡ file → is_unread chain file ≡ true
    → contents (remove_unread chain d names) file ≡ None
gone-at chain [] d file k less is unread = absurd (omega arith)
gone-at chain (name ∷ names) d file zero less is unread =
    all-none chain names (remove_one chain d name) file
    (subst (λ (f : FileName). contents (remove_one chain d f) file ≡ None) (sym is)
    (ap (λ (t : Bool). contents (cond t (remove d file) d) file) unread
    ∙ ap file_content (set-at d file (option_map mark_removed (d file))) ∙ remove-at (d file)))
gone-at chain (name ∷ names) d file (suc k) less is unread =
    gone-at chain names (remove_one chain d name) file k (omega arith) is unread

pub gone : (chain : List End) (names : List FileName) (d : Disk) (file : FileName) → Contains names file
    → is_unread chain file ≡ true → contents (remove_unread chain d names) file ≡ None
gone chain names d file has unread = gone-at chain names d file has.0 has.1 has.2 unread
