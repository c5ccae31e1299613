-- The last log of a list in order is the newest.
use Rattle.std.proofs.Common.{◌≡◌, ◌≤◌, ◌||◌, ◌&&◌, ◌==◌, ℕ, Bool, true, false, not, cond, List, [], ◌∷◌, Option, Some, None, refl, sym, ap, subst, ◌∙◌, arith, BTreeMap, Less, nat_cmp, is_eq}
use Rattle.std.specs.List.{AllByRecursion}
use Rattle.std.specs.List.Sorted.{IsStrictlySortedBy}
use Rattle.std.specs.BTreeMap.{IsOrdered, is_at}
use Rattle.std.specs.Map.{keys_of, lookup}
use Rattle.std.proofs.lemmas.Bool.Decides.{nat_tests}
use Rattle.qq_disk.specs.declared.name.FileKind.{FileKind}
use Rattle.qq_disk.specs.declared.name.FileKind.TheVariants.{Log, Segment, Snapshot}
use Rattle.qq_disk.specs.declared.name.FileName.{FileName}
use Rattle.qq_disk.specs.Disk.{Disk, FileState}
use Rattle.qq_disk.specs.Name.{rank, name_cmp, same_name}
use Rattle.qq_disk.specs.Image.{is_left, IsNewestLog}
use Rattle.qq_disk.proofs.Names.{same_name-true, same_name-refl}
use Rattle.qq_mem_disk.specs.Files.{disk_of}
use Rattle.qq_mem_disk.specs.Listing.{is_left_log, last_log}

abbrev Entry : Type 0
Entry = FileName × FileState

-- what a list of entries has under each name
abbrev found : List Entry → Disk
found entries = λ name. lookup (is_at (name_cmp name)) entries

abbrev log : ℕ → FileName
log k = record { kind = Log; number = k }

abbrev or_else : Option FileName → Option FileName → Option FileName
or_else None other = other
or_else (Some file) other = Some file

last_log-before : (back : Bool) (before : Option FileName) (entries : List Entry)
    → last_log back before entries ≡ or_else (last_log back None entries) before
last_log-before back before [] = refl
last_log-before back before (e ∷ entries) =
    last_log-before back (cond (is_left_log back e) (Some e.0) before) entries
    ∙ both (last_log back None entries) (is_left_log back e)
    ∙ ap (λ (o : Option FileName). or_else o before)
    (sym (last_log-before back (cond (is_left_log back e) (Some e.0) None) entries))
  where
    both : (o : Option FileName) (b : Bool)
        → or_else o (cond b (Some e.0) before) ≡ or_else (or_else o (cond b (Some e.0) None)) before
    both None true = refl
    both None false = refl
    both (Some file) b = refl

-- a name that is found comes after what comes before all
after_all : (name file : FileName) (f : FileState) (entries : List Entry)
    → AllByRecursion (λ other. name_cmp name other ≡ Less) (keys_of entries) → found entries file ≡ Some f
    → name_cmp name file ≡ Less
after_all name file f [] all is = absurd cc
after_all name file f (e ∷ entries) all is =
    at (after_all name file f entries all.1) (same_name file e.0) refl
  where
    at : (found entries file ≡ Some f → name_cmp name file ≡ Less) → (b : Bool) → same_name file e.0 ≡ b
        → name_cmp name file ≡ Less
    at later true e' =
        subst (λ (n : FileName). name_cmp name n ≡ Less) (sym (same_name-true file e.0 e')) all.0
    at later false e' = later (ap (λ (b : Bool). cond b (Some e.1) (found entries file)) (sym e') ∙ is)

-- what comes before is another
apart : (a b : FileName) → name_cmp a b ≡ Less → same_name b a ≡ false
apart a b less = at (same_name b a) refl
  where
    at : (same : Bool) → same_name b a ≡ same → same ≡ false
    at true e =
        let itself : same_name b b ≡ false = ap is_eq
        (ap (λ (n : FileName). name_cmp n b) (same_name-true b a e) ∙ less) in
        absurd (cc (itself, same_name-refl b))
    at false e = refl

less_number : (k n : ℕ) → nat_cmp k n ≡ Less → k ≤ n
less_number k n e = grind (arith, nat_tests)

-- of two logs the one that comes before has the lower number
lower : (k : ℕ) (file : FileName) → file.kind ≡ Log → name_cmp (log k) file ≡ Less → k ≤ file.number
lower k file is less =
    less_number k file.number
    (subst (λ (kind : FileKind). name_cmp (log k) (record { kind = kind; number = file.number }) ≡ Less) is less)

is_log : (kind : FileKind) → (rank kind == 0) ≡ true → kind ≡ Log
is_log Log e = refl
is_log Segment e = absurd cc
is_log Snapshot e = absurd cc

both_true : (a b : Bool) → (a && b) ≡ true → (a ≡ true) × (b ≡ true)
both_true true b e = (refl, e)
both_true false b e = absurd cc

module _ (back : Bool) (e : Entry) (entries : List Entry) where
  there : (o : Option FileState) → is_left back o ≡ true → (f : FileState) × (o ≡ Some f)
  there None h = absurd cc
  there (Some f) h = (f, refl)

  -- a log that is left is the first entry, or among the others
  either : {P : Type 0} (k : ℕ) → is_left back (found (e ∷ entries) (log k)) ≡ true → (log k ≡ e.0 → P)
      → (is_left back (found entries (log k)) ≡ true → P) → P
  either {P} k left here later = at (same_name (log k) e.0) refl
    where
      at : (same : Bool) → same_name (log k) e.0 ≡ same → P
      at true is = here (same_name-true (log k) e.0 is)
      at false is =
          later (ap (λ (b : Bool). is_left back (cond b (Some e.1) (found entries (log k)))) (sym is) ∙ left)

  later_newest : (file : FileName) → AllByRecursion (λ other. name_cmp e.0 other ≡ Less) (keys_of entries)
      → IsNewestLog (found entries) back (Some file) → IsNewestLog (found (e ∷ entries)) back (Some file)
  later_newest file all (is, left, greatest) =
      let one = there (found entries file) left in
      let less : name_cmp e.0 file ≡ Less = after_all e.0 file one.0 entries all one.1 in (
        is,
        ap (λ (b : Bool). is_left back (cond b (Some e.1) (found entries file))) (apart e.0 file less) ∙ left,
        λ k h. either k h (λ same. lower k file is (ap (λ (n : FileName). name_cmp n file) same ∙ less)) (greatest k),
      )

  first_newest : is_left_log back e ≡ true → IsNewestLog (found entries) back None
      → IsNewestLog (found (e ∷ entries)) back (Some e.0)
  first_newest h none =
      let parts = both_true (rank e.0.kind == 0) (back || not e.1.removed) h in (
        is_log e.0.kind parts.0,
        ap (λ (b : Bool). is_left back (cond b (Some e.1) (found entries e.0))) (same_name-refl e.0) ∙ parts.1,
        λ k left. either k left (λ same. omega (arith, ap (λ (n : FileName). n.number) same))
            (λ later. absurd (cc (later, none k))),
      )

  no_newest : is_left_log back e ≡ false → IsNewestLog (found entries) back None
      → IsNewestLog (found (e ∷ entries)) back None
  no_newest h none k = at (same_name (log k) e.0) refl
    where
      at : (same : Bool) → same_name (log k) e.0 ≡ same
          → is_left back (cond same (Some e.1) (found entries (log k))) ≡ false
      at true is =
          ap (λ (n : FileName). (rank n.kind == 0) && (back || not e.1.removed)) (same_name-true (log k) e.0 is) ∙ h
      at false is = none k

-- the newest log of a list in order
newest : (back : Bool) (entries : List Entry) → IsStrictlySortedBy name_cmp (keys_of entries)
    → IsNewestLog (found entries) back (last_log back None entries)
unfolding IsStrictlySortedBy
newest back [] sorted = λ k. refl
newest back (e ∷ entries) sorted =
    subst (λ (o : Option FileName). IsNewestLog (found (e ∷ entries)) back o)
    (sym (last_log-before back (cond (is_left_log back e) (Some e.0) None) entries))
    (at (last_log back None entries) (newest back entries sorted.1) (is_left_log back e) refl)
  where
    at : (o : Option FileName) → IsNewestLog (found entries) back o → (b : Bool) → is_left_log back e ≡ b
        → IsNewestLog (found (e ∷ entries)) back (or_else o (cond b (Some e.0) None))
    at (Some file) h b is = later_newest back e entries file sorted.0 h
    at None h true is = first_newest back e entries is h
    at None h false is = no_newest back e entries is h

pub newest_of : (back : Bool) (files : BTreeMap FileName FileState) → IsOrdered name_cmp files
    → IsNewestLog (disk_of files) back (last_log back None files.entries)
newest_of back files ordered = newest back files.entries ordered
